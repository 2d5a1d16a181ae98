-- Taking blocks: each way out of a block's tests, and a run of blocks.
use mathlib.Core.Path.{◌≡◌, refl, sym, ◌∙◌, ap}
use mathlib.Core.Bool.{Bool, true, false}
use mathlib.Core.List.{List}
use Prim.Native.Nat.{ℕ, suc, ◌+◌, ◌-◌, ◌≤◌, ◌<◌, min}
use native.Mathlib.Nat.{lt_of_lt_of_le, add-zero}
use native.Mathlib.Omega.{arith}
use lib.ListN.{length, take, drop, length-drop}
use lib.Pow.{pow_mono}
use lib.Seq.{take-take, drop-drop}
use borrow.Rule.Slice.PartMut.{mid_of}
use Rattle.layout.specs.Layout.{at, block_size, table}
use Rattle.layout.specs.Width.{fits, least_width}
use Rattle.layout.proofs.Tables.{table_at, take_table}
use Rattle.layout.proofs.RoundTrip.{entry_fits}
use Rattle.layout.proofs.Widths.{fits_ext, fits_of, of_fits, width_ext}
use Rattle.modes.specs.declared.Mode.{Mode}
use Rattle.answers.specs.declared.Refusal.{Refusal}
use Rattle.answers.specs.Refusals.{Tested, accept, accepted}
use Rattle.answers.specs.Answers.{answer}
use Rattle.answers.proofs.Answers.{refuses, passes}
use Rattle.std.specs.Prelude.{Result, Ok, Err, ◌↔◌, IsTrue, All, is_err}
use Rattle.std.proofs.lemmas.Grind.{get_or_default_zero}  -- moves a read of a list of numbers to the default 0, which clauses write
use Rattle.answers.proofs.Refusals.{apart, erred, not_erred}
use Rattle.answers.proofs.Parts.{part_is, part_at, part_length}
use Rattle.order.specs.Order.{after_all, values_of, course}
use Rattle.bodies.specs.Reading.{width_at, size_at, entry_at, entries_at, values_at, refuse_values, frame_refusal, block_refusal, end_refusal}
use Rattle.bodies.specs.declared.Stop.{Stop}
use Rattle.bodies.specs.Stops.{nothing, block_stop, past, stop_from}
use Rattle.bodies.proofs.Tests.{Framed, framed, block_passed}
use Rattle.bodies.proofs.Stops.{taking, block_taken, block_refused, block_refusal_lem, stop_taken, stop_refused, past_past}
use Rattle.lists.specs.kernel.Steps.{entries_refusal, shape_refusal}
use Rattle.lists.proofs.BlockParts.{block_parts}

-- to be all 0 is to fit width 0
zeros_tell : {b : Bool} (xs : List ℕ) → (IsTrue b ↔ All (λ x. x ≡ 0) xs) → b ≡ fits (at xs) (length xs) 0
zeros_tell {b} xs h = go b h (fits (at xs) (length xs) 0) refl
  where
    all : fits (at xs) (length xs) 0 ≡ true → All (λ x. x ≡ 0) xs
    all e k d lt = let z = of_fits (at xs) (length xs) 0 e k lt in get_or_default_zero xs k d lt ∙ omega arith

    go : (b : Bool) → (IsTrue b ↔ All (λ x. x ≡ 0) xs) → (f : Bool) → fits (at xs) (length xs) 0 ≡ f → b ≡ f
    go true h true e = refl
    go false h false e = refl
    go false h true e = absurd (apart (sym (h.1 (all e))))
    go true h false e = absurd (apart (sym (fits_of (at xs) (length xs) 0 (λ k lt. rw (h.0 refl k 0 lt) (omega arith))) ∙ e))

-- the filling, as the part behind the list's own entries
pub fill_part : (L k : ℕ) (es : List ℕ) → length es ≡ block_size L
    → fits (at (mid_of k (length es - k) es)) (length (mid_of k (length es - k) es)) 0 ≡ fits (λ i. at es (k + i)) (block_size L - k) 0
fill_part L k es size =
    let len : length (mid_of k (length es - k) es) ≡ block_size L - k = part_length k es ∙ ap (λ (t : ℕ). t - k) size in
    rw len (fits_ext (at (mid_of k (length es - k) es)) (λ i. at es (k + i)) (block_size L - k) 0 (λ i h. part_at k es i))

-- what is told of the filling
pub fill_told : (L k : ℕ) (es : List ℕ) → length es ≡ block_size L → {b : Bool} → (IsTrue b ↔ All (λ x. x ≡ 0) (mid_of k (length es - k) es))
    → b ≡ fits (λ i. at es (k + i)) (block_size L - k) 0
fill_told L k es size h = zeros_tell (mid_of k (length es - k) es) h ∙ fill_part L k es size

-- the entries es that the block bs was unpacked to
module _ (L k : ℕ) (bs es : List ℕ) (small : k ≤ block_size L) (is : take (block_size L) es ≡ table (entry_at L bs) (block_size L)) where
  pub own_entries : take k es ≡ entries_at L k bs
  own_entries = sym (take-take k (block_size L) es small) ∙ ap (take k) is ∙ take_table (entry_at L bs) k (block_size L) small

  same_refusal : Framed L bs → (w : ℕ) → entries_refusal L k w (at (take (block_size L) es)) ≡ entries_refusal L k w (entry_at L bs)
  unfolding entries_refusal
  same_refusal f w =
      let same : (i : ℕ) → i < block_size L → at (take (block_size L) es) i ≡ entry_at L bs i = λ i h. ap (λ (t : List ℕ). at t i) is ∙ table_at (entry_at L bs) (block_size L) i h in
      let fill : fits (λ i. at (take (block_size L) es) (k + i)) (block_size L - k) 0 ≡ fits (λ i. entry_at L bs (k + i)) (block_size L - k) 0 = fits_ext _ _ (block_size L - k) 0 (λ i h. same (k + i) (omega arith)) in
      let least : least_width (at (take (block_size L) es)) (block_size L) ≡ least_width (entry_at L bs) (block_size L) =
      width_ext (λ i h. lt_of_lt_of_le (entry_fits L (width_at bs) (drop 1 bs) i) (pow_mono f.narrow)) (λ i h. sym (same i h)) in
      rw (fill, least)

-- the ways out of a block, of which the first k values are the list's
module _ (L : ℕ) (m : Mode) (k : ℕ) (bs : List ℕ) where
  pub no_frame : {j : Refusal} → answer (frame_refusal L bs) (width_at bs) ≡ Err j → block_refusal L m k bs ≡ Err j
  unfolding shape_refusal
  no_frame h = rw (block_parts L m k bs, refuses (frame_refusal L bs) (width_at bs) h)

  module _ (small : k ≤ block_size L) (there : frame_refusal L bs ≡ accept) (es : List ℕ) (is : take (block_size L) es ≡ table (entry_at L bs) (block_size L)) where
    shape_is : shape_refusal L k bs ≡ entries_refusal L k (width_at bs) (at (take (block_size L) es))
    unfolding shape_refusal
    shape_is = rw there (sym (same_refusal L k bs es small is (framed L bs (ap accepted there)) (width_at bs)))

    pub bad_entries : {j : Refusal} → entries_refusal L k (width_at bs) (at (take (block_size L) es)) ≡ Err j → block_refusal L m k bs ≡ Err j
    bad_entries h = rw (block_parts L m k bs, shape_is ∙ h)

    module _ (good : entries_refusal L k (width_at bs) (at (take (block_size L) es)) ≡ accept) where
      rest_is : block_refusal L m k bs ≡ refuse_values m (values_of m (take k es)) accept
      rest_is = rw (block_parts L m k bs, shape_is ∙ good, ← own_entries L k bs es small is)

      pub bad_order : {j : Refusal} → course m (values_of m (take k es)) ≡ Err j → block_refusal L m k bs ≡ Err j
      bad_order h = rest_is ∙ refuses (refuse_values m (values_of m (take k es)) accept) (after_all m (values_of m (take k es))) h

      pub good_block : {next : Mode} → course m (values_of m (take k es)) ≡ Ok next → (block_refusal L m k bs ≡ accept) × (after_all m (values_at L m k bs) ≡ next)
      good_block h =
          let p = passes (refuse_values m (values_of m (take k es)) accept) (after_all m (values_of m (take k es))) h in
          (rest_is ∙ p.0, ap (λ (t : List ℕ). after_all m (values_of m t)) (sym (own_entries L k bs es small is)) ∙ sym p.1)

-- what comes of them: the block is taken, or none is
module _ (L : ℕ) (m : Mode) (left : ℕ) (bs : List ℕ) {k : ℕ} (own : k ≡ min (block_size L) left) {r : Result (ℕ × Mode) Refusal}
    (told : r ≡ answer (block_refusal L m k bs) (size_at L bs, after_all m (values_at L m k bs))) where
  pub block_takes : {size : ℕ} {next : Mode} → r ≡ Ok (size, next)
      → ◌≡◌ {A = Stop} (record { outcome = accept; blocks = 1; place = size; left = left - k; mode = next }) (block_stop L m left bs)
  block_takes h =
      let p = passes (block_refusal L m k bs) (size_at L bs, after_all m (values_at L m k bs)) (sym told ∙ h) in
      let less : left - k ≡ left - block_size L = omega arith in
      rw (ap (λ (q : ℕ × Mode). q.0) p.1, ap (λ (q : ℕ × Mode). q.1) p.1, less) (sym (block_taken L m left bs (rw (← own, p.0) refl) ∙ rw own refl))

  pub block_refuses : {j : Refusal} → r ≡ Err j → ◌≡◌ {A = Stop} (nothing (Err j) left m) (block_stop L m left bs)
  block_refuses h =
      let e = refuses (block_refusal L m k bs) (size_at L bs, after_all m (values_at L m k bs)) (sym told ∙ h) in
      sym (block_refused L m left bs (rw (← own, e) refl) ∙ rw (← own, e) refl)

-- past the first i of b blocks, what is left to take is what there was to take, but for what s took
pub record Taking (L : ℕ) (m₀ : Mode) (count : ℕ) (body : List ℕ) (b : ℕ) (s : Stop) (i : ℕ) : Type 0 where
  pub within : s.place ≤ length body
  pub taken : s.blocks ≡ i
  pub same : stop_from L m₀ count body b ≡ past s (stop_from L s.mode s.left (drop s.place body) (b - i))

module _ {L : ℕ} {m₀ : Mode} {count : ℕ} {body : List ℕ} {b : ℕ} {s : Stop} {i : ℕ} (t : Taking L m₀ count body b s i) where
  -- no block is left
  pub taking_end : b ≤ i → {r : Tested} → r ≡ end_refusal (mid_of s.place (length body - s.place) body)
      → ◌≡◌ {A = Stop} (record { outcome = r; blocks = s.blocks; place = s.place; left = s.left; mode = s.mode }) (stop_from L m₀ count body b)
  unfolding stop_from
  taking_end z e =
      let none : b - i ≡ 0 = omega arith in
      sym (t.same ∙ rw (none, ← part_is s.place body, ← e, add-zero s.blocks, add-zero s.place))

  module _ (lt : i < b) {r : Stop} (told : r ≡ block_stop L s.mode s.left (mid_of s.place (length body - s.place) body)) where
    one_more : b - i ≡ suc (b - (i + 1))
    one_more = omega arith

    here : r ≡ block_stop L s.mode s.left (drop s.place body)
    here = told ∙ rw (part_is s.place body)

    refusal_here : r.outcome ≡ block_refusal L s.mode (min (block_size L) s.left) (drop s.place body)
    refusal_here = ap (λ (u : Stop). u.outcome) here ∙ block_refusal_lem L s.mode s.left (drop s.place body)

    pub stops_here : is_err r.outcome ≡ true
        → ◌≡◌ {A = Stop} (record { outcome = r.outcome; blocks = s.blocks; place = s.place; left = s.left; mode = s.mode }) (stop_from L m₀ count body b)
    stops_here h =
        sym (t.same ∙ rw (one_more, stop_refused L s.mode s.left (drop s.place body) (ap accepted (sym refusal_here) ∙ erred _ h) (b - (i + 1)), ← refusal_here, add-zero s.blocks, add-zero s.place))

    module _ (h : is_err r.outcome ≡ false) where
      good : accepted (block_refusal L s.mode (min (block_size L) s.left) (drop s.place body)) ≡ true
      good = ap accepted (sym refusal_here) ∙ not_erred _ h

      took : r ≡ taking L s.mode s.left (drop s.place body)
      took = here ∙ block_taken L s.mode s.left (drop s.place body) good

      size_there : r.place ≡ size_at L (drop s.place body)
      size_there = ap (λ (u : Stop). u.place) took

      pub left_there : r.left ≡ s.left - block_size L
      left_there = ap (λ (u : Stop). u.left) took

      pub block_within : s.place + r.place ≤ length body
      block_within = omega (arith, (block_passed L s.mode (min (block_size L) s.left) (drop s.place body) good).frame.whole, size_there, length-drop s.place body, t.within)

      pub taking_more : Taking L m₀ count body b (record { outcome = accept; blocks = s.blocks + 1; place = s.place + r.place; left = r.left; mode = r.mode }) (i + 1)
      taking_more =
          let bs : List ℕ = drop s.place body in
          let step : Stop = taking L s.mode s.left bs in
          let rest : Stop = stop_from L step.mode step.left (drop step.place bs) (b - (i + 1)) in
          record {
            within = block_within;
            taken = ap (λ (n : ℕ). n + 1) t.taken;
            same =
                t.same ∙ ap (λ (n : ℕ). past s (stop_from L s.mode s.left bs n)) one_more ∙ ap (past s) (stop_taken L s.mode s.left bs good (b - (i + 1))) ∙ past_past s step rest
                ∙ rw took (ap (λ (behind : List ℕ). past (past s step) (stop_from L step.mode step.left behind (b - (i + 1)))) (drop-drop step.place s.place body));
          }
