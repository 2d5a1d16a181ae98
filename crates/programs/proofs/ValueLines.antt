-- One value a line: written, and read.
use mathlib.Core.Path.{◌≡◌, refl, sym, ◌∙◌, ap}
use mathlib.Core.Bool.{Bool, true, false, ◌&&◌}
use mathlib.Core.List.{List, [], ◌∷◌, ◌++◌, append_assoc, append-nil}
use Prim.Native.Nat.{ℕ, zero, suc, ◌+◌, ◌*◌, ◌-◌, ◌≤◌, ◌<◌}
use native.Mathlib.Omega.{arith}
use borrow.Author.Tests.{ne_eqb, le-leb}
use lib.Dec.{eqb, leb}
use lib.ListN.{length, set, take, drop, length-append, length-drop}
use lib.Seq.{take_all, length-take-le, take-append-le}
use borrow.Rule.Slice.PartMut.{mid_of, put_mid}
use Rattle.std.specs.Prelude.{◌≢◌, Option, Some, None, IsSome}
use Rattle.std.specs.Bool.{then_some}
use Rattle.layout.specs.Layout.{at}
use Rattle.answers.specs.Answers.{over}
use Rattle.answers.proofs.Parts.{part_is, part_length}
use Rattle.answers.proofs.Fronts.{take_more, Front, front_none, front_length, front_put, front_part}
use Rattle.text.specs.declared.Numeral.{Numeral}
use Rattle.text.specs.Text.{decimal, begins, same, fitted, fitted_length, number_line}
use Rattle.text.proofs.Decimals.{decimal_some}
use Rattle.text.proofs.Lines.{number_line_short, line_rest}
use Rattle.text.proofs.Beginnings.{stands_whole, stands_within, is_same}
use Rattle.text.proofs.Found.{Numbered, line_there}
use Rattle.programs.specs.Lines.{value_line, value_lines}
use Rattle.programs.specs.kernel.Lines.{lines_from, lines_in, counted}

-- the lines of values

pub line_some : (v : ℕ) → 0 < length (value_line v [])
line_some v = omega (arith, length-append (decimal v) (10 ∷ []), decimal_some v)

pub lines_append : (vs ws : List ℕ) → value_lines (vs ++ ws) ≡ value_lines vs ++ value_lines ws
unfolding value_lines
lines_append [] ws = refl
lines_append (v ∷ vs) ws =
    ap (λ (t : List ℕ). value_line v t) (lines_append vs ws) ∙ sym (line_rest "" (decimal v) (value_lines vs ++ value_lines ws))
    ∙ sym (append_assoc (value_line v []) (value_lines vs) (value_lines ws)) ∙ ap (λ (t : List ℕ). t ++ value_lines ws) (line_rest "" (decimal v) (value_lines vs))

pub lines_more : (vs : List ℕ) (v : ℕ) → value_lines (vs ++ (v ∷ [])) ≡ value_lines vs ++ value_line v []
unfolding value_lines
lines_more vs v = lines_append vs (v ∷ [])

pub lines_short : (vs : List ℕ) → length (value_lines vs) ≤ length vs * 11
unfolding value_lines
lines_short [] = omega arith
lines_short (v ∷ vs) =
    let e : length (value_line v (value_lines vs)) ≡ length (value_line v []) + length (value_lines vs) = ap length (sym (line_rest "" (decimal v) (value_lines vs))) ∙ length-append (value_line v []) (value_lines vs) in
    omega (arith, e, number_line_short [] v, lines_short vs)

-- writing: the lines of the first i values stand at the front of `out`
pub record Writing (vs before : List ℕ) (i n : ℕ) (out : List ℕ) : Type 0 where
  pub some : i ≤ length vs
  pub size : length (value_lines (take i vs)) ≡ n
  pub here : Front (value_lines (take i vs)) before out

pub writing_none : (vs before : List ℕ) → Writing vs before 0 0 before
unfolding value_lines
writing_none vs before = record { some = omega arith; size = refl; here = front_none before }

module _ {vs before : List ℕ} {i n : ℕ} {out : List ℕ} (w : Writing vs before i n out) (room : length vs * 11 ≤ length before) where
  pub writing_length : length out ≡ length before
  writing_length = front_length w.here n w.size

  pub writing_short : n ≤ i * 11
  writing_short = omega (arith, w.size, lines_short (take i vs), length-take-le i vs w.some)

  module _ (lt : i < length vs) where
    pub writing_room : n + 11 ≤ length out
    writing_room = omega (arith, writing_short, writing_length)

    -- there is room for the next line
    line_room : length (value_line (at vs i) []) ≤ length out - n
    line_room = omega (arith, writing_room, number_line_short [] (at vs i))

    writing_fits : leb (length (value_line (at vs i) [])) (length (mid_of n (length out - n) out)) ≡ true
    writing_fits = le-leb _ _ (rw (part_length n out) line_room)

    pub writing_fitted : IsSome (fitted_length (value_line (at vs i) []) (mid_of n (length out - n) out))
    writing_fitted = rw writing_fits refl

    pub writing_more : (k : ℕ) (ys : List ℕ) → fitted_length (value_line (at vs i) []) (mid_of n (length out - n) out) ≡ Some k → ys ≡ over (fitted (value_line (at vs i) []) (mid_of n (length out - n) out)) (mid_of n (length out - n) out)
        → Writing vs before (i + 1) (n + k) (put_mid n (length out - n) out ys)
    writing_more k ys size put =
        let v = at vs i in
        let e : value_lines (take (i + 1) vs) ≡ value_lines (take i vs) ++ value_line v [] = ap value_lines (take_more vs i lt) ∙ lines_more (take i vs) v in
        let len : length (value_line v []) ≡ k = let q : Some (length (value_line v [])) ≡ Some k = rw writing_fits at size in cc in
        record {
          some = omega arith;
          size = ap length e ∙ length-append (value_lines (take i vs)) (value_line v []) ∙ rw (w.size, len);
          here = rw e (front_part w.here n w.size (value_line v []) ys (omega (arith, writing_length, writing_room, line_room)) (rw writing_fits at put));
        }

  pub writing_all : length vs ≤ i → (n ≡ length (value_lines vs)) × (out ≡ over (value_lines vs) before)
  writing_all h =
      let e : take i vs ≡ vs = take_all i vs h in
      (sym w.size ∙ ap (λ (t : List ℕ). length (value_lines t)) e, w.here.here ∙ ap (λ (t : List ℕ). over (value_lines t) before) e)

-- reading: the lines of the values `done` stand before `rest`, and those that there is room for at the front of `out`
pub record Reading (bs before rest : List ℕ) (count : ℕ) (out : List ℕ) : Type 0 where
  pub done : List ℕ
  pub size : length done ≡ count
  pub text : bs ≡ value_lines done ++ rest
  pub fewer : count + length rest ≤ length bs
  pub onward : lines_in bs ≡ done ++ lines_from (length bs - count) rest
  pub here : Front (take (length before) done) before out

pub reading_none : (bs before : List ℕ) → Reading bs before bs 0 before
unfolding value_lines
reading_none bs before = record { done = []; size = refl; text = refl; fewer = omega arith; onward = ap (λ (t : ℕ). lines_from t bs) all; here = rw (take_of_nil (length before)) (front_none before) }
  where
    all : length bs ≡ length bs - 0
    all = omega arith

    take_of_nil : (n : ℕ) → take {A = ℕ} n [] ≡ []
    take_of_nil zero = refl
    take_of_nil (suc n) = refl

lines_stop : (n : ℕ) (bs : List ℕ) → number_line [] bs ≡ None → lines_from n bs ≡ []
unfolding lines_from
lines_stop zero bs h = refl
lines_stop (suc n) bs h = rw h

-- nothing begins with a line
no_line : number_line [] [] ≡ None
no_line = go (number_line [] []) refl
  where
    go : (r : Option Numeral) → number_line [] [] ≡ r → r ≡ None
    go None e = refl
    go (Some l) e =
        let s = (line_there [] [] l e).stands in
        absurd (omega (arith, stands_within s, s.size, line_some l.value))

pub lines_none : (n : ℕ) → lines_from n [] ≡ []
lines_none n = lines_stop n [] no_line

module _ {bs before rest : List ℕ} {count : ℕ} {out : List ℕ} (r : Reading bs before rest count out) where
  pub reading_length : length out ≡ length before
  reading_length = front_length r.here _ refl

  -- at a line that is none: there the values end, and they are all that there is where nothing is left
  pub reading_stop : None ≡ number_line [] rest → (then_some (eqb (length rest) 0) count ≡ counted bs) × (out ≡ over (take (length before) (lines_in bs)) before)
  reading_stop h = (go rest r.text, r.here.here ∙ ap (λ (t : List ℕ). over (take (length before) t) before) (sym end))
    where
      end : lines_in bs ≡ r.done
      end = r.onward ∙ ap (λ (t : List ℕ). r.done ++ t) (lines_stop (length bs - count) rest (sym h)) ∙ append-nil r.done

      -- (b is whether nothing is left)
      told : (b : Bool) → same (value_lines r.done) bs ≡ b → then_some b count ≡ counted bs
      told true s = rw (end, s, r.size)
      told false s = rw (end, s)

      differ : length bs ≢ length (value_lines r.done) → same (value_lines r.done) bs ≡ false
      differ ne = and_no (begins (value_lines r.done) bs) (ne_eqb (length (value_lines r.done)) (length bs) (λ e. ne (sym e)))
        where
          and_no : (a : Bool) {b : Bool} → b ≡ false → (a && b) ≡ false
          and_no true e = e
          and_no false e = refl

      go : (left : List ℕ) → bs ≡ value_lines r.done ++ left → then_some (eqb (length left) 0) count ≡ counted bs
      go [] e = told true (ap (same (value_lines r.done)) (e ∙ append-nil (value_lines r.done)) ∙ is_same (value_lines r.done))
      go (x ∷ left) e =
          rw (ne_eqb (length (x ∷ left)) 0 (λ z. omega (arith, z))) (told false (differ (λ same_length. omega (arith, same_length, ap length e, length-append (value_lines r.done) (x ∷ left)))))

  -- a line more
  module _ (l : Numeral) (some : Some l ≡ number_line [] rest) where
    line : Numbered [] rest l
    line = line_there [] rest l (sym some)

    pub reading_within : l.length ≤ length rest
    reading_within = stands_within line.stands

    reading_some : 0 < l.length
    reading_some = omega (arith, line.stands.size, line_some l.value)

    pub reading_smaller : length (mid_of l.length (length rest - l.length) rest) < length rest
    reading_smaller = rw (part_length l.length rest) (omega (arith, reading_within, reading_some))

    further : {ys : List ℕ} → Front (take (length before) (r.done ++ (l.value ∷ []))) before ys → Reading bs before (mid_of l.length (length rest - l.length) rest) (count + 1) ys
    unfolding lines_from
    further {ys} here =
        let lines : value_lines (r.done ++ (l.value ∷ [])) ≡ value_lines r.done ++ value_line l.value [] = lines_more r.done l.value in
        let left : length bs - count ≡ suc (length bs - (count + 1)) = omega (arith, r.fewer, reading_within, reading_some) in
        rw (part_is l.length rest)
        (record {
          done = r.done ++ (l.value ∷ []);
          size = length-append r.done (l.value ∷ []) ∙ ap (λ (t : ℕ). t + 1) r.size;
          text = r.text ∙ ap (λ (t : List ℕ). value_lines r.done ++ t) (stands_whole line.stands) ∙ sym (append_assoc (value_lines r.done) (value_line l.value []) (drop l.length rest)) ∙ ap (λ (t : List ℕ). t ++ drop l.length rest) (sym lines);
          fewer = omega (arith, r.fewer, reading_within, reading_some, length-drop l.length rest);
          onward =
              r.onward
              ∙ ap (λ (t : ℕ). r.done ++ lines_from t rest) left
              ∙ rw (← some) (sym (append_assoc r.done (l.value ∷ []) (lines_from (length bs - (count + 1)) (drop l.length rest))));
          here = here;
        })

    -- with room for its value, and without
    pub reading_kept : count < length out → Reading bs before (mid_of l.length (length rest - l.length) rest) (count + 1) (set out count l.value)
    reading_kept room =
        let all : take (length before) r.done ≡ r.done = take_all (length before) r.done (omega (arith, r.size, reading_length)) in
        let more : take (length before) (r.done ++ (l.value ∷ [])) ≡ r.done ++ (l.value ∷ []) = take_all (length before) (r.done ++ (l.value ∷ [])) (omega (arith, length-append r.done (l.value ∷ []), r.size, reading_length)) in
        let old : Front r.done before out = rw all at r.here in
        further (rw more (front_put old count r.size l.value (omega (arith, reading_length))))

    pub reading_full : length out ≤ count → Reading bs before (mid_of l.length (length rest - l.length) rest) (count + 1) out
    reading_full full =
        let same_front_lem : take (length before) (r.done ++ (l.value ∷ [])) ≡ take (length before) r.done = take-append-le (length before) r.done (l.value ∷ []) (omega (arith, r.size, reading_length)) in
        further (rw same_front_lem r.here)
