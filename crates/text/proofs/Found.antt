-- The line of a name and a number at the front of some bytes: what is found is there, and what is there is found.
use mathlib.Core.Path.{◌≡◌, refl, sym, ◌∙◌, ap}
use mathlib.Core.Bool.{Bool, true, false, cond, ◌&&◌}
use mathlib.Core.List.{List, [], ◌∷◌, ◌++◌}
use Prim.Native.Nat.{ℕ, ◌-◌, ◌^◌, ◌≤◌, ◌<◌}
use native.Mathlib.Nat.{mod-lt}
use native.Mathlib.Omega.{arith}
use lib.Dec.{eqb}
use lib.ListN.{length, take, drop, length-drop}
use lib.Seq.{drop_at}
use Rattle.std.proofs.Math.Bool.{and-false}
use Rattle.std.specs.Prelude.{Option, Some, None}
use Rattle.std.specs.Cmp.Lexicographic.{pointwise}
use Rattle.std.specs.Fmt as std
use Rattle.text.specs.declared.Numeral.{Numeral}
use Rattle.text.specs.Text.{decimal, numbered, begins, leading_number, number_line}
use Rattle.text.proofs.Decimals.{number_back}
use Rattle.text.proofs.Printed.{printed}
use Rattle.text.proofs.Beginnings.{strips_begins, begins_whole, begins_within, begins_append, Stands}
use Rattle.text.proofs.Lines.{line_length, numbered_rest}

-- bs begins with the line of a name and a number, and r says which
pub record Numbered (name bs : List ℕ) (r : Numeral) : Type 0 where
  pub small : r.value < 2 ^ 32
  pub stands : Stands (numbered name r.value) r.length bs

module _ (name bs : List ℕ) where
  abbrev number : ℕ
  number = leading_number (drop (length name) bs)

  abbrev line_of : ℕ → Numeral
  line_of v = record { value = v; length = length (numbered name v) }

  found : (b : Bool) → begins (numbered name number) bs ≡ b → number_line name bs ≡ cond b (Some (line_of number)) None
  unfolding number_line
  found b h = rw h

  pub line_there : (r : Numeral) → number_line name bs ≡ Some r → Numbered name bs r
  line_there r some = go (begins (numbered name number) bs) refl
    where
      go : (b : Bool) → begins (numbered name (leading_number (drop (length name) bs))) bs ≡ b → Numbered name bs r
      go true h =
          let e : line_of number ≡ r = let q : Some (line_of number) ≡ Some r = sym (found true h) ∙ some in cc in
          rw (← e) (record { small = mod-lt _ (omega arith); stands = record { there = h; size = refl } })
      go false h = absurd (let q : ◌≡◌ {A = Option Numeral} None (Some r) = sym (found false h) ∙ some in cc)

  pub line_found : (v : ℕ) → v < 2 ^ 32 → begins (numbered name v) bs ≡ true → number_line name bs ≡ Some (record { value = v; length = length (numbered name v) })
  line_found v small h =
      let rest : List ℕ = drop (length (numbered name v)) bs in
      let e : bs ≡ name ++ (decimal v ++ (10 ∷ rest)) = begins_whole (numbered name v) bs h ∙ numbered_rest name v rest in
      let n : number ≡ v = ap leading_number (ap (drop (length name)) e ∙ drop_at name (decimal v ++ (10 ∷ rest)) (length name) refl) ∙ number_back v rest small in
      found true (rw n h) ∙ ap (λ (m : ℕ). Some (line_of m)) n

  -- as it is looked for: the name, the digits behind it, and byte 10 behind them
  abbrev behind : List ℕ
  behind = drop (length name) bs

  abbrev printed_number : List ℕ
  printed_number = std.decimal number

  abbrev end : List ℕ
  end = drop (length printed_number) behind

  parts : begins (numbered name number) bs ≡ begins name bs && (begins printed_number behind && begins (10 ∷ []) end)
  parts = begins_append name (numbered [] number) bs ∙ rw (← printed number (mod-lt _ (omega arith))) (ap (λ (b : Bool). begins name bs && b) (begins_append printed_number (10 ∷ []) behind))

  pub not_named : begins name bs ≡ false → number_line name bs ≡ None
  not_named a = found false (parts ∙ rw a)

  pub no_name : pointwise eqb (take (length name) bs) name ≡ false → None ≡ number_line name bs
  no_name a = sym (not_named (sym (strips_begins name bs) ∙ a))

  pub no_digits : pointwise eqb (take (length printed_number) behind) printed_number ≡ false → None ≡ number_line name bs
  no_digits b = sym (found false (parts ∙ rw (sym (strips_begins printed_number behind) ∙ b) (and-false _)))

  pub no_end : pointwise eqb (take 1 end) (10 ∷ []) ≡ false → None ≡ number_line name bs
  no_end c = sym (found false (parts ∙ rw (sym (strips_begins (10 ∷ []) end) ∙ c) (ap (λ (b : Bool). begins name bs && b) (and-false _) ∙ and-false _)))

  pub all_there : pointwise eqb (take (length name) bs) name ≡ true → pointwise eqb (take (length printed_number) behind) printed_number ≡ true → pointwise eqb (take 1 end) (10 ∷ []) ≡ true
      → Some (record { value = number; length = length bs - length (drop 1 end) }) ≡ number_line name bs
  all_there a b c =
      let there : begins (numbered name number) bs ≡ true = parts ∙ rw (sym (strips_begins name bs) ∙ a, sym (strips_begins printed_number behind) ∙ b, sym (strips_begins (10 ∷ []) end) ∙ c) in
      let within : length (numbered name number) ≤ length bs = begins_within (numbered name number) bs there in
      let len : length bs - length (drop 1 end) ≡ length (numbered name number) =
      rw (length-drop 1 end, length-drop (length printed_number) behind, length-drop (length name) bs)
      (omega (arith, within, line_length name (decimal number), ap length (printed number (mod-lt _ (omega arith))))) in
      rw len (sym (found true there))

pub ruleset finding = (no_name, no_digits, no_end, all_there)
