-- Writing a file: the header's text, and the body behind it.
use mathlib.Core.Path.{◌≡◌, refl, sym, ◌∙◌, ap}
use mathlib.Core.Bool.{true}
use mathlib.Core.List.{List, [], ◌∷◌, ◌++◌, append_assoc}
use Prim.Native.Nat.{ℕ, ◌+◌, ◌-◌, ◌^◌, ◌≤◌, ◌<◌}
use native.Mathlib.Omega.{arith}
use borrow.Author.Tests.{lt-ltb, le-ltb}
use lib.Dec.{ltb}
use lib.ListN.{length, drop, length-append}
use borrow.Rule.Slice.PartMut.{mid_of, put_mid}
use Rattle.std.specs.Prelude.{Result, Ok, Err, is_ok}
use Rattle.answers.specs.declared.Refusal.{Refusal}
use Rattle.answers.specs.declared.Refusal.TheVariants.{NoRoom}
use Rattle.answers.specs.Refusals.{Tested, accept, accepted, refuse, or_else}
use Rattle.answers.specs.Answers.{answer, over, written}
use Rattle.answers.proofs.Parts.{part_length}
use Rattle.answers.proofs.Fronts.{Front, front_length, front_part}
use Rattle.answers.proofs.Refusals.{accepted_is}
use Rattle.modes.specs.declared.Mode.{Mode}
use Rattle.bodies.specs.Body.{body_of}
use Rattle.bodies.proofs.Sizes.{body_short}
use Rattle.lists.specs.Calls.{measure_refusal, measure_answer, write_refusal, write_answer, write_output}
use Rattle.lists.proofs.Accepts.{Measurable, measure_exactly, writing_parts, write_exactly}
use Rattle.text.specs.Text.{decimal, line}
use Rattle.files.specs.declared.heading.Header.{Header}
use Rattle.files.specs.Header.{settings, file_of, header_text}
use Rattle.files.specs.kernel.Lengths.{longest_header}
use Rattle.files.specs.Calls.{header_for, file_for, write_file_answer, write_file_output}
use Rattle.files.proofs.Lines.{header_are, header_short}

-- a file is its header's text, and the body
pub file_splits : (h : Header) (body : List ℕ) → header_text h ++ body ≡ file_of h body
file_splits h body =
    let t : List ℕ = settings h.lanes h.mode [] ++ (line "count=" (decimal h.count) [] ++ line "bytes=" (decimal h.bytes) []) in
    ap (λ (x : List ℕ). x ++ body) (sym (header_are h [])) ∙ append_assoc t (10 ∷ []) body ∙ header_are h body

-- what is refused whatever the room
pub not_measured : (L : ℕ) (m : Mode) (vs before : List ℕ) (k : Refusal) → Err k ≡ measure_answer L m vs
    → (Err k ≡ write_file_answer L m vs (length before)) × (before ≡ write_file_output L m vs before)
not_measured L m vs before k e = rw (writing_parts L m vs (length (file_for L m vs)) (length before)) (go (measure_refusal L m vs) e)
  where
    go : (t : Tested) → Err k ≡ answer t (length (body_of L m vs))
        → (Err k ≡ answer (or_else t (refuse (ltb (length before) (length (file_for L m vs))) NoRoom accept)) (length (file_for L m vs)))
        × (before ≡ written (or_else t (refuse (ltb (length before) (length (file_for L m vs))) NoRoom accept)) (file_for L m vs) before)
    go (Ok t) e = absurd cc
    go (Err j) e = (e, refl)

-- what is not: `size` is the body's length
module _ (L : ℕ) (m : Mode) (vs before : List ℕ) (size : ℕ) (told : Ok size ≡ measure_answer L m vs) where
  tested : (measure_refusal L m vs ≡ accept) × (size ≡ length (body_of L m vs))
  tested = go (measure_refusal L m vs) told
    where
      go : (t : Tested) → Ok size ≡ answer t (length (body_of L m vs)) → (t ≡ accept) × (size ≡ length (body_of L m vs))
      go (Ok t) e = (refl, cc)
      go (Err k) e = absurd cc

  pub able : Measurable L m vs
  able = (measure_exactly L m vs).0 (ap accepted tested.0)

  pub size_small : size < 2 ^ 32
  size_small = omega (arith, tested.1, body_short L able.lanes m vs able.few)

  -- the header's text: n bytes
  abbrev head : Header
  head = record { lanes = L; mode = m; count = length vs; bytes = size }

  module _ (text : List ℕ) (n : ℕ) (spelt : text ≡ header_text (record { lanes = L; mode = m; count = length vs; bytes = size })) (len : n ≡ length text) where
    text_is : text ≡ header_text (header_for L m vs)
    text_is = spelt ∙ rw tested.1

    pub text_small : n ≤ longest_header
    text_small = omega (arith, len, ap length spelt, header_short head)

    total : n + size ≡ length (file_for L m vs)
    unfolding file_for
    total =
        rw (len, text_is, tested.1) (sym (length-append (header_text (header_for L m vs)) (body_of L m vs)) ∙ ap length (file_splits (header_for L m vs) (body_of L m vs)))

    pub no_room : length before < n + size → (Err NoRoom ≡ write_file_answer L m vs (length before)) × (before ≡ write_file_output L m vs before)
    no_room h =
        rw (writing_parts L m vs (length (file_for L m vs)) (length before), tested.0, lt-ltb (length before) (length (file_for L m vs)) (rw total at h)) (refl, refl)

    -- the text is put, and the body is written into the part behind it
    module _ (room : n + size ≤ length before) (copied : List ℕ) (put : copied ≡ text) where
      abbrev begun : List ℕ
      begun = copied ++ drop n before

      abbrev behind : List ℕ
      behind = mid_of n (length (copied ++ drop n before) - n) (copied ++ drop n before)

      first : Front text before begun
      first = record { fits = omega arith; here = rw (put, len) }

      pub head_within : n ≤ length begun
      head_within = omega (arith, front_length first n (sym len))

      enough : length (body_of L m vs) ≤ length behind
      enough = rw (part_length n begun) (omega (arith, front_length first n (sym len), tested.1))

      body_accepted : write_refusal L m vs (length behind) ≡ accept
      body_accepted = accepted_is _ ((write_exactly L m vs (length behind)).1 (record { list = able; enough = enough }))

      pub body_written : (r : Result ℕ Refusal) → r ≡ write_answer L m vs (length behind) → is_ok r ≡ true
      body_written r e = rw (e, body_accepted)

      whole : (ys : List ℕ) → ys ≡ write_output L m vs behind → Front (text ++ body_of L m vs) before (put_mid n (length begun - n) begun ys)
      whole ys came = front_part first n (sym len) (body_of L m vs) ys (omega (arith, tested.1)) (came ∙ rw body_accepted)

      pub file_kept : (ys : List ℕ) → ys ≡ write_output L m vs behind → length (put_mid n (length begun - n) begun ys) ≡ length before
      file_kept ys came = front_length (whole ys came) (n + size) (length-append text (body_of L m vs) ∙ rw (← tested.1, len) refl)

      pub file_done : (ys : List ℕ) → ys ≡ write_output L m vs behind
          → (Ok (n + size) ≡ write_file_answer L m vs (length before)) × (put_mid n (length begun - n) begun ys ≡ write_file_output L m vs before)
      unfolding file_for
      file_done ys came =
          let e : text ++ body_of L m vs ≡ file_for L m vs = ap (λ (t : List ℕ). t ++ body_of L m vs) text_is ∙ file_splits (header_for L m vs) (body_of L m vs) in
          let fit : length (file_for L m vs) ≤ length before = omega (arith, total, room) in
          rw (writing_parts L m vs (length (file_for L m vs)) (length before), tested.0, le-ltb (length before) (length (file_for L m vs)) fit)
          (ap (λ (k : ℕ). Ok k) total, (whole ys came).here ∙ ap (λ (t : List ℕ). over t before) e)
