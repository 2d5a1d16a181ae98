-- Whether bytes begin with a text.
use mathlib.Core.Path.{◌≡◌, refl, sym, ◌∙◌, ap, ap₂}
use mathlib.Core.Bool.{Bool, true, false, ◌&&◌}
use mathlib.Core.List.{List, [], ◌∷◌, ◌++◌, append-nil}
use Prim.Native.Nat.{ℕ, suc, ◌+◌, ◌≤◌, ◌<◌}
use native.Mathlib.Omega.{arith}
use borrow.Author.Tests.{eqb-true, eq-eqb, ne_eqb}
use lib.Dec.{eqb}
use lib.ListN.{length, take, drop, length-append, drop_of_length-le}
use lib.Seq.{drop-cons}
use Rattle.layout.specs.Layout.{at}
use Rattle.std.proofs.lemmas.Bool.Decides.{nat_tests}
use Rattle.std.specs.Cmp.Lexicographic.{pointwise}
use Rattle.layout.proofs.Widths.{and_both}
use Rattle.text.specs.Text.{begins, same}

-- as the library compares them, and strips the text from the bytes
pub starts_begins : (t bs : List ℕ) → pointwise eqb t (take (length t) bs) ≡ begins t bs
unfolding begins
starts_begins [] bs = refl
starts_begins (x ∷ t) [] = refl
starts_begins (x ∷ t) (b ∷ bs) = ap (λ (r : Bool). eqb x b && r) (starts_begins t bs)

either_way : (x y : ℕ) → eqb x y ≡ eqb y x
either_way x y = grind (arith, nat_tests)

pub strips_begins : (t bs : List ℕ) → pointwise eqb (take (length t) bs) t ≡ begins t bs
unfolding begins
strips_begins [] bs = refl
strips_begins (x ∷ t) [] = refl
strips_begins (x ∷ t) (b ∷ bs) = ap₂ (λ (p q : Bool). p && q) (either_way b x) (strips_begins t bs)

-- byte by byte
pub begins_short : (t bs : List ℕ) → length bs < length t → begins t bs ≡ false
unfolding begins
begins_short [] bs h = absurd (omega arith)
begins_short (x ∷ t) [] h = refl
begins_short (x ∷ t) (b ∷ bs) h = go (eqb x b) (begins_short t bs (omega arith))
  where
    go : (e : Bool) → begins t bs ≡ false → e && begins t bs ≡ false
    go true rest = rest
    go false rest = refl

-- past i bytes that agree, the rest decides
pub begins_step : (t bs : List ℕ) (i : ℕ) → i < length t → i < length bs → at t i ≡ at bs i → begins (drop i t) (drop i bs) ≡ begins (drop (i + 1) t) (drop (i + 1) bs)
unfolding begins
begins_step t bs i a b same =
    let e : suc i ≡ i + 1 = omega arith in
    let q = drop-cons t i 0 a ∙ ap (λ (n : ℕ). at t i ∷ drop n t) e in
    let p = drop-cons bs i 0 b ∙ ap (λ (n : ℕ). at bs i ∷ drop n bs) e in
    rw (q, p, eq-eqb (at t i) (at bs i) same)

pub begins_stop : (t bs : List ℕ) (i : ℕ) → i < length t → i < length bs → (at t i ≡ at bs i → ⊥) → begins (drop i t) (drop i bs) ≡ false
unfolding begins
begins_stop t bs i a b differ = rw (drop-cons t i 0 a, drop-cons bs i 0 b, ne_eqb (at t i) (at bs i) differ)

pub begins_none : (bs : List ℕ) → begins [] bs ≡ true
unfolding begins
begins_none bs = refl

-- bytes begin with a text exactly where they are the text and a rest
pub begins_whole : (t bs : List ℕ) → begins t bs ≡ true → bs ≡ t ++ drop (length t) bs
unfolding begins
begins_whole [] bs h = refl
begins_whole (x ∷ t) [] h = absurd (let z : ◌≡◌ {A = ℕ} 0 1 = cc in omega arith)
begins_whole (x ∷ t) (b ∷ bs) h =
    let q = and_both (eqb x b) (begins t bs) h in
    rw (eqb-true x b q.0) (ap (λ (l : List ℕ). b ∷ l) (begins_whole t bs q.1))

pub begins_within : (t bs : List ℕ) → begins t bs ≡ true → length t ≤ length bs
begins_within t bs h = omega (arith, ap length (begins_whole t bs h), length-append t (drop (length t) bs))

pub whole_begins : (t rest : List ℕ) → begins t (t ++ rest) ≡ true
unfolding begins
whole_begins [] rest = refl
whole_begins (x ∷ t) rest = rw (eq-eqb x x refl) (whole_begins t rest)

-- a text and another behind it
pub begins_append : (t u bs : List ℕ) → begins (t ++ u) bs ≡ begins t bs && begins u (drop (length t) bs)
unfolding begins
begins_append [] u bs = refl
begins_append (x ∷ t) u [] = refl
begins_append (x ∷ t) u (b ∷ bs) = go (eqb x b) (begins_append t u bs)
  where
    go : (e : Bool) → begins (t ++ u) bs ≡ begins t bs && begins u (drop (length t) bs) → e && begins (t ++ u) bs ≡ (e && begins t bs) && begins u (drop (length t) bs)
    go true rest = rest
    go false rest = refl

-- bs begins with the text t, which has n bytes
pub record Stands (t : List ℕ) (n : ℕ) (bs : List ℕ) : Type 0 where
  pub there : begins t bs ≡ true
  pub size : n ≡ length t

module _ {t : List ℕ} {n : ℕ} {bs : List ℕ} (s : Stands t n bs) where
  pub stands_whole : bs ≡ t ++ drop n bs
  stands_whole = begins_whole t bs s.there ∙ ap (λ (k : ℕ). t ++ drop k bs) (sym s.size)

  pub stands_within : n ≤ length bs
  stands_within = rw s.size (begins_within t bs s.there)

  -- with another text behind it
  pub stands_then : {u : List ℕ} {k : ℕ} → Stands u k (drop n bs) → Stands (t ++ u) (n + k) bs
  stands_then {u} {k} r =
      record {
        there = begins_append t u bs ∙ rw s.there (ap (λ (j : ℕ). begins u (drop j bs)) (sym s.size) ∙ r.there);
        size = ap₂ (λ (a b : ℕ). a + b) s.size r.size ∙ sym (length-append t u);
      }

-- each of two texts
pub begins_both : (t u bs : List ℕ) → begins (t ++ u) bs ≡ true → (begins t bs ≡ true) × (begins u (drop (length t) bs) ≡ true)
begins_both t u bs h = and_both (begins t bs) _ (sym (begins_append t u bs) ∙ h)

-- bytes are the same as a text exactly where they are equal to it
pub same_is : (t bs : List ℕ) → same t bs ≡ true → bs ≡ t
same_is t bs h =
    let q = and_both (begins t bs) _ h in
    let e : length t ≡ length bs = eqb-true (length t) (length bs) q.1 in
    begins_whole t bs q.0 ∙ ap (λ (r : List ℕ). t ++ r) (drop_of_length-le bs {i = length t} (omega (arith, e))) ∙ append-nil t

pub is_same : (t : List ℕ) → same t t ≡ true
is_same t = rw (eq-eqb (length t) (length t) refl, ap (begins t) (sym (append-nil t)) ∙ whole_begins t [])
