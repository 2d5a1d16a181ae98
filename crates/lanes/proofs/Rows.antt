-- Rows lane by lane.
use Rattle.std.proofs.Common.{◌≡◌, ℕ, zero, suc, ◌<◌, List, [], ◌∷◌, length, sym, refl, ap, ◌∙◌, arith, ext_get_or}
use Rattle.layout.specs.Layout.{at}
use Rattle.lanes.specs.Rows.{IsRow}
use Rattle.lanes.specs.Sums.{plus, running}

-- the number of lane l
pub lane_of : {x : List ℕ} {f : ℕ → ℕ} → IsRow x f → (l : ℕ) → l < 8 → at x l ≡ f l
lane_of r zero h = r.l0
lane_of r (suc zero) h = r.l1
lane_of r (suc (suc zero)) h = r.l2
lane_of r (suc (suc (suc zero))) h = r.l3
lane_of r (suc (suc (suc (suc zero)))) h = r.l4
lane_of r (suc (suc (suc (suc (suc zero))))) h = r.l5
lane_of r (suc (suc (suc (suc (suc (suc zero)))))) h = r.l6
lane_of r (suc (suc (suc (suc (suc (suc (suc zero))))))) h = r.l7
lane_of r (suc (suc (suc (suc (suc (suc (suc (suc l)))))))) h = absurd (omega arith)

-- a row of eight numbers is determined by f
pub row_once : {x y : List ℕ} {f : ℕ → ℕ} → length x ≡ 8 → length y ≡ 8 → IsRow x f → IsRow y f → x ≡ y
row_once {x} {y} {f} a b p q =
    ext_get_or 0 x y (a ∙ sym b) (λ l h. lane_of p l (omega arith) ∙ sym (lane_of q l (omega arith)))

-- a row of running sums, written out
pub sums : {p q : ℕ} (x : List ℕ) {a b c d e f g h : ℕ} → q ≡ p → a ≡ plus q (at x 0) → b ≡ plus a (at x 1) → c ≡ plus b (at x 2) → d ≡ plus c (at x 3)
    → e ≡ plus d (at x 4) → f ≡ plus e (at x 5) → g ≡ plus f (at x 6) → h ≡ plus g (at x 7)
    → IsRow (a ∷ b ∷ c ∷ d ∷ e ∷ f ∷ g ∷ h ∷ []) (running p (at x))
sums x q q0 q1 q2 q3 q4 q5 q6 q7 =
    let s0 = q0 ∙ ap (λ (t : ℕ). plus t (at x 0)) q in
    let s1 = q1 ∙ ap (λ (t : ℕ). plus t (at x 1)) s0 in
    let s2 = q2 ∙ ap (λ (t : ℕ). plus t (at x 2)) s1 in
    let s3 = q3 ∙ ap (λ (t : ℕ). plus t (at x 3)) s2 in
    let s4 = q4 ∙ ap (λ (t : ℕ). plus t (at x 4)) s3 in
    let s5 = q5 ∙ ap (λ (t : ℕ). plus t (at x 5)) s4 in
    let s6 = q6 ∙ ap (λ (t : ℕ). plus t (at x 6)) s5 in
    let s7 = q7 ∙ ap (λ (t : ℕ). plus t (at x 7)) s6 in
    record { l0 = s0; l1 = s1; l2 = s2; l3 = s3; l4 = s4; l5 = s5; l6 = s6; l7 = s7 }

-- a row has its own numbers
pub row_self : (x : List ℕ) → IsRow x (at x)
row_self x = record { l0 = refl; l1 = refl; l2 = refl; l3 = refl; l4 = refl; l5 = refl; l6 = refl; l7 = refl }

-- a row of f is a row of g where these agree on eight lanes
pub row_ext : {x : List ℕ} {f g : ℕ → ℕ} → IsRow x f → ((l : ℕ) → l < 8 → f l ≡ g l) → IsRow x g
row_ext r e =
    record {
      l0 = r.l0 ∙ e 0 (omega arith);
      l1 = r.l1 ∙ e 1 (omega arith);
      l2 = r.l2 ∙ e 2 (omega arith);
      l3 = r.l3 ∙ e 3 (omega arith);
      l4 = r.l4 ∙ e 4 (omega arith);
      l5 = r.l5 ∙ e 5 (omega arith);
      l6 = r.l6 ∙ e 6 (omega arith);
      l7 = r.l7 ∙ e 7 (omega arith);
    }
