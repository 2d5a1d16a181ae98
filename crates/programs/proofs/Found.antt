-- Where bytes are the lines of values, the values are found; and what is found are values.
use mathlib.Core.Path.{◌≡◌, refl, sym, ◌∙◌, ap}
use mathlib.Core.List.{List, [], ◌∷◌}
use Prim.Native.Nat.{ℕ, zero, suc, ◌^◌, ◌≤◌, ◌<◌}
use native.Mathlib.Omega.{arith}
use lib.ListN.{length, drop, length-append}
use lib.Seq.{drop_at}
use Rattle.std.specs.Prelude.{Option, Some, None}
use Rattle.layout.specs.Layout.{Below}
use Rattle.layout.proofs.Below.{below_none, below_tail, below_cons}
use Rattle.text.specs.declared.Numeral.{Numeral}
use Rattle.text.specs.Text.{decimal, begins, number_line}
use Rattle.text.proofs.Lines.{line_rest}
use Rattle.text.proofs.Beginnings.{whole_begins}
use Rattle.text.proofs.Found.{line_found, line_there}
use Rattle.programs.specs.Lines.{value_line, value_lines}
use Rattle.programs.specs.kernel.Lines.{value_and, lines_from, lines_in}
use Rattle.programs.proofs.ValueLines.{line_some, lines_none}

-- a value's line, with a rest behind it
module _ (v : ℕ) (rest : List ℕ) where
  line_first : v < 2 ^ 32 → number_line [] (value_line v rest) ≡ Some (record { value = v; length = length (value_line v []) })
  line_first small = line_found [] (value_line v rest) v small (ap (begins (value_line v [])) (sym (line_rest "" (decimal v) rest)) ∙ whole_begins (value_line v []) rest)

  line_behind : drop (length (value_line v [])) (value_line v rest) ≡ rest
  line_behind = ap (drop (length (value_line v []))) (sym (line_rest "" (decimal v) rest)) ∙ drop_at (value_line v []) rest (length (value_line v [])) refl

lines_back : (n : ℕ) (vs : List ℕ) → length vs ≤ n → Below (2 ^ 32) vs → lines_from n (value_lines vs) ≡ vs
unfolding lines_from value_lines
lines_back n [] h b = lines_none n
lines_back zero (v ∷ vs) h b = absurd (omega arith)
lines_back (suc n) (v ∷ vs) h b =
    rw (line_first v (value_lines vs) (b 0), line_behind v (value_lines vs))
    (ap (λ (t : List ℕ). v ∷ t) (lines_back n vs (omega arith) (below_tail v vs b)))

lines_many : (vs : List ℕ) → length vs ≤ length (value_lines vs)
unfolding value_lines
lines_many [] = omega arith
lines_many (v ∷ vs) = omega (arith, ap length (line_rest "" (decimal v) (value_lines vs)), length-append (value_line v []) (value_lines vs), line_some v, lines_many vs)

pub values_found : (vs : List ℕ) → Below (2 ^ 32) vs → lines_in (value_lines vs) ≡ vs
values_found vs b = lines_back (length (value_lines vs)) vs (lines_many vs) b

lines_small : (n : ℕ) (bs : List ℕ) → Below (2 ^ 32) (lines_from n bs)
unfolding lines_from
lines_small zero bs = below_none (omega arith)
lines_small (suc n) bs = go (number_line [] bs) refl (λ l. lines_small n (drop l.length bs))
  where
    go : (r : Option Numeral) → number_line [] bs ≡ r → ((l : Numeral) → Below (2 ^ 32) (lines_from n (drop l.length bs))) → Below (2 ^ 32) (value_and r (λ l. lines_from n (drop l.length bs)))
    go None e ih = below_none (omega arith)
    go (Some l) e ih = below_cons l.value (lines_from n (drop l.length bs)) (line_there [] bs l e).small (ih l)

pub found_small : (bs : List ℕ) → Below (2 ^ 32) (lines_in bs)
found_small bs = lines_small (length bs) bs
