-- Output that is written from the front, a piece at a time.
use mathlib.Core.Path.{◌≡◌, refl, sym, ◌∙◌, ap}
use mathlib.Core.List.{List, [], ◌∷◌, ◌++◌, append_assoc, append-nil}
use Prim.Native.Nat.{ℕ, ◌+◌, ◌-◌, ◌≤◌, ◌<◌}
use native.Mathlib.Numerals.{add-one}
use native.Mathlib.Omega.{arith}
use lib.ListN.{length, get_or, set, take, drop, length-append, length-drop}
use lib.Seq.{take-suc, drop-cons, set_at, take_at, drop_at, drop-drop, drop-length}
use borrow.Rule.Slice.PartMut.{mid_of, post_of, put_mid, Post-is}
use Rattle.answers.specs.Answers.{over}
use Rattle.answers.proofs.Parts.{part_is}

-- one number more of a list
pub take_more : (xs : List ℕ) (i : ℕ) → i < length xs → take (i + 1) xs ≡ take i xs ++ (get_or xs i 0 ∷ [])
take_more xs i lt = rw add-one (take-suc xs i 0 lt)

-- ws stands at the front of out, and `before` behind it
pub record Front (ws before out : List ℕ) : Type 0 where
  pub fits : length ws ≤ length before
  pub here : out ≡ over ws before

pub length_over : (ws before : List ℕ) → length ws ≤ length before → length (over ws before) ≡ length before
length_over ws before h = length-append ws (drop (length ws) before) ∙ rw length-drop (omega arith)

pub take_over : (n : ℕ) (ws before : List ℕ) → length ws ≡ n → take n (over ws before) ≡ ws
take_over n ws before e = take_at ws (drop (length ws) before) n e

pub front_none : (before : List ℕ) → Front [] before before
front_none before = record { fits = omega arith; here = refl }

module _ {ws before out : List ℕ} (f : Front ws before out) (done : ℕ) (is : length ws ≡ done) where
  pub front_length : length out ≡ length before
  front_length = ap length f.here ∙ length_over ws before f.fits

  left_over : drop done out ≡ drop done before
  left_over = rw f.here (drop_at ws (drop (length ws) before) done is ∙ ap (λ (t : ℕ). drop t before) is)

  -- one number more
  pub front_put : (v : ℕ) → done < length before → Front (ws ++ (v ∷ [])) before (set out done v)
  front_put v lt =
      let len : length (ws ++ (v ∷ [])) ≡ done + 1 = length-append ws (v ∷ []) ∙ ap (λ (t : ℕ). t + 1) is in
      let e : drop done before ≡ get_or before done 0 ∷ drop (done + 1) before = rw add-one (drop-cons before done 0 lt) in
      record {
        fits = rw len (omega arith);
        here =
            ap (λ (t : List ℕ). set t done v) (f.here ∙ ap (λ (t : List ℕ). ws ++ t) (ap (λ (t : ℕ). drop t before) is ∙ e))
            ∙ set_at ws (get_or before done 0) (drop (done + 1) before) v done is
            ∙ sym (append_assoc ws (v ∷ []) (drop (done + 1) before)) ∙ ap (λ (t : ℕ). (ws ++ (v ∷ [])) ++ drop t before) (sym len);
      }

  -- vs more, by way of the part `&mut out[done..]`, which came back as ys
  pub front_part : (vs ys : List ℕ) → length vs ≤ length before - done → ys ≡ over vs (mid_of done (length out - done) out)
      → Front (ws ++ vs) before (put_mid done (length out - done) out ys)
  front_part vs ys room came =
      let len : length (ws ++ vs) ≡ done + length vs = length-append ws vs ∙ ap (λ (t : ℕ). t + length vs) is in
      let t : take done out ≡ ws = rw f.here (take_over done ws before is) in
      let p : post_of done (length out - done) out ≡ [] = Post-is done (length out) out (omega (arith, front_length, f.fits)) ∙ drop-length out in
      let y : ys ≡ vs ++ drop (done + length vs) before = came ∙ rw (part_is done out, left_over, drop-drop (length vs) done before) in
      record {
        fits = rw len (omega (arith, f.fits));
        here = rw (t, y, p, append-nil (vs ++ drop (done + length vs) before), len) (sym (append_assoc ws vs (drop (done + length vs) before)));
      }
