-- Going through a text from the front.
use Rattle.std.proofs.Common.{◌≡◌, ℕ, suc, ◌+◌, ◌<◌, ◌==◌, Bool, true, false, not, cond, List, [], ◌∷◌, length, take, drop, refl, ap, ◌∙◌, append-nil, arith, drop_of_length-le}
use native.Mathlib.Decide.{dec_lt}
use Rattle.std.specs.Option.{unwrap_or}
use Rattle.std.specs.List.{position, position_or_len, prefix_len, common_prefix_len, zip, take_while, onto_first, FoldsTo}
use Rattle.std.proofs.lemmas.Bool.{lt-ltb, le-ltb}
use Rattle.std.proofs.lemmas.List.Sums.{prefix_len-le-length}
use Rattle.std.proofs.lemmas.List.Folds.{length-prefix_len}
use Rattle.answers.proofs.Fronts.{Front}
use Rattle.tables.specs.Tables.{lines}
use Rattle.tables.specs.Words.{before_of, behind_of}

-- the first place, or else the end
pub place_is : (p : ℕ → Bool) (xs : List ℕ) → unwrap_or (position p xs) (length xs) ≡ position_or_len p xs
place_is p xs = go (dec_lt (position_or_len p xs) (length xs))
  where
    go : Dec (position_or_len p xs < length xs) → unwrap_or (position p xs) (length xs) ≡ position_or_len p xs
    go (yes lt) = rw (lt-ltb (position_or_len p xs) (length xs) lt)
    go (no ge) = rw (le-ltb (position_or_len p xs) (length xs) (omega arith)) (omega (arith, prefix_len-le-length (λ x. not (p x)) xs))

-- pairs that are the same, at the front of both
module _ {A : Type 0} (e : A → A → Bool) where
  common : (xs ys : List A) → prefix_len (λ (p : A × A). e p.0 p.1) (zip xs ys) ≡ common_prefix_len e xs ys
  common [] ys = refl
  common (x ∷ xs) [] = refl
  common (x ∷ xs) (y ∷ ys) = ap (λ n. cond (e x y) (1 + n) 0) (common xs ys)

  pub common_is : (xs ys : List A) → length (take_while (λ (p : A × A). e p.0 p.1) (zip xs ys)) ≡ common_prefix_len e xs ys
  common_is xs ys = length-prefix_len (λ (p : A × A). e p.0 p.1) (zip xs ys) ∙ common xs ys

-- a text that is not at its end is a line and the lines behind it
lines_more : (text : List ℕ) → 0 < length text → lines text ≡ before_of 10 text ∷ lines (behind_of 10 text)
unfolding lines before_of behind_of
lines_more [] lt = absurd (omega arith)
lines_more (x ∷ []) lt = elim (x == 10) as (λ b. cond b ([] ∷ lines []) (onto_first x (lines [])) ≡ take (cond (not b) (1 + 0) 0) (x ∷ []) ∷ lines (drop (cond (not b) (1 + 0) 0 + 1) (x ∷ []))) [ true ↦ refl | false ↦ refl ]
lines_more (x ∷ y ∷ ys) lt =
    let rest = y ∷ ys in
    let n = position_or_len (λ (z : ℕ). z == 10) rest in
    let more : lines rest ≡ take n rest ∷ lines (drop (n + 1) rest) = lines_more (y ∷ ys) (omega arith) in
    let one : 1 + n ≡ suc n = omega arith in
    let two : 1 + n + 1 ≡ suc (n + 1) = omega arith in
    elim (x == 10) as (λ b. cond b ([] ∷ lines rest) (onto_first x (lines rest)) ≡ take (cond (not b) (1 + n) 0) (x ∷ rest) ∷ lines (drop (cond (not b) (1 + n) 0 + 1) (x ∷ rest))) [ true ↦ refl | false ↦ ap (onto_first x) more ∙ rw (two, one) refl ]

lines_none : (text : List ℕ) → length text ≡ 0 → lines text ≡ []
unfolding lines
lines_none [] e = refl
lines_none (x ∷ xs) e = absurd (omega arith)

-- what ran on a line, and then on the lines behind it
module _ {P : Type 0} (R : P → List ℕ → P → Type 0) (p : P) (text : List ℕ) where
  pub ran_more : (q last : P) (line rest : List ℕ) → 0 < length text → line ≡ before_of 10 text → rest ≡ behind_of 10 text → R p line q → FoldsTo R q (lines rest) last → FoldsTo R p (lines text) last
  ran_more q last line rest lt here behind ran more = rw (lines_more text lt, ← here, ← behind) (q, ran, more)

  pub ran_none : length text ≡ 0 → FoldsTo R p (lines text) p
  ran_none e = rw (lines_none text e) refl

-- all of it is written
pub front_full : {ws before out : List ℕ} → Front ws before out → length ws ≡ length before → out ≡ ws
front_full {ws} {before} f e = f.here ∙ rw (drop_of_length-le before {i = length ws} (omega arith)) (append-nil ws)
