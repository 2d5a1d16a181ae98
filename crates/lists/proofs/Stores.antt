-- The body of values: one block, and a run of blocks.
use mathlib.Core.Path.{◌≡◌, refl, sym, ◌∙◌, ap}
use mathlib.Core.Bool.{true}
use mathlib.Core.List.{List, [], ◌∷◌, ◌++◌, append_assoc, append-nil}
use Prim.Native.Nat.{ℕ, zero, suc, ◌+◌, ◌-◌, ◌^◌, ◌≤◌, ◌<◌, min}
use native.Mathlib.Numerals.{one-add}
use native.Mathlib.Omega.{arith}
use native.Mathlib.Decide.{dec_lt}
use lib.ListN.{length, set, take, drop, replicate, length-append, length-set, get_or-append, get_or-eq_default}
use lib.Seq.{take_all, get_or-take, get_or-drop, get_or-append-add, length-take-le}
use borrow.Rule.Slice.PartMut.{mid_of, put_mid}
use Rattle.layout.specs.Width.{fits}
use Rattle.layout.specs.Layout.{at, Below, block_size, payload_size, packed, is_lanes}
use Rattle.answers.specs.Answers.{over}
use Rattle.layout.proofs.LaneCounts.{lanes_of}
use Rattle.answers.proofs.Fronts.{Front, front_none, front_length, front_put, front_part, length_over}
use Rattle.answers.proofs.Parts.{part_length}
use Rattle.layout.proofs.Tables.{length_packed}
use Rattle.layout.proofs.RoundTrip.{packed_ext}
use Rattle.layout.proofs.Widths.{fits_of, width_least, width_small, width_ext}
use Rattle.layout.specs.Claims.{Fit}
use Rattle.modes.specs.declared.Mode.{Mode}
use Rattle.modes.specs.declared.Mode.TheVariants.{Plain}
use Rattle.std.specs.Prelude.{Result, Ok}
use Rattle.answers.specs.declared.Refusal.{Refusal}
use Rattle.answers.proofs.Answers.{ok_same}
use Rattle.blocks.specs.Calls.{size_answer, pack_answer, pack_output, width_answer}
use Rattle.order.specs.Order.{after, after_all, next_entry, entries_of}
use Rattle.order.proofs.Steps.{length_entries, entries_small}
use Rattle.order.proofs.Going.{after_more, entries_more}
use Rattle.bodies.specs.Body.{filled, width_of, block, body_of}
use Rattle.bodies.proofs.Onward.{body_none, body_next}
use Rattle.bodies.proofs.Whole.{empty, front}
use Rattle.lists.proofs.BlockCalls.{size_is, width_is, pack_ok, pack_is}

-- the entries of the first i values stand at the front of `out`
pub record Filling (m₀ : Mode) (vs zs : List ℕ) (m : Mode) (i : ℕ) (out : List ℕ) : Type 0 where
  pub fewer : i ≤ length vs
  pub mode : m ≡ after_all m₀ (take i vs)
  pub here : Front (entries_of m₀ (take i vs)) zs out

pub filling_none : (m : Mode) (vs zs : List ℕ) → Filling m vs zs m 0 zs
unfolding entries_of after_all
filling_none m vs zs = record { fewer = omega arith; mode = refl; here = front_none zs }

module _ {m₀ : Mode} {vs zs : List ℕ} {m : Mode} {i : ℕ} {out : List ℕ} (f : Filling m₀ vs zs m i out) where
  pub filling_more : i < length vs → i < length zs → {e : ℕ} {next : Mode} → e ≡ next_entry m (at vs i) → next ≡ after m (at vs i) → Filling m₀ vs zs next (i + 1) (set out i e)
  filling_more lt room {e} is to =
      record {
        fewer = omega arith;
        mode = to ∙ after_more m₀ m vs i lt f.mode;
        here = rw (entries_more m₀ m vs i lt f.mode, ← is) (front_put f.here i (length_entries m₀ (take i vs) ∙ length-take-le i vs f.fewer) e room);
      }

  pub filling_all : length vs ≤ i → out ≡ over (entries_of m₀ vs) zs
  filling_all h = f.here.here ∙ ap (λ (t : List ℕ). over (entries_of m₀ t) zs) (take_all i vs h)

-- the block of the entries es, which stand at the front of `own` with 0 behind them

zero_list : (n k : ℕ) → ◌≡◌ {A = ℕ} (at (replicate n 0) k) 0
zero_list zero k = refl
zero_list (suc n) zero = refl
zero_list (suc n) (suc k) = zero_list n k

over_zeros : (es : List ℕ) (n k : ℕ) → at (over es (replicate n 0)) k ≡ at es k
over_zeros es n k = go (dec_lt k (length es))
  where
    go : Dec (k < length es) → at (over es (replicate n 0)) k ≡ at es k
    go (yes lt) = get_or-append es _ 0 k lt
    go (no ge) =
        let q : length es + (k - length es) ≡ k = omega arith in
        ap (at (over es (replicate n 0))) (sym q) ∙ get_or-append-add es (drop (length es) (replicate n 0)) (k - length es) 0
        ∙ get_or-drop (length es) (replicate n 0) (k - length es) 0 ∙ zero_list n (length es + (k - length es)) ∙ sym (get_or-eq_default es 0 {n = k} (omega arith))

pub record Own (L : ℕ) (es own : List ℕ) : Type 0 where
  pub lanes : is_lanes L ≡ true
  pub small : Below (2 ^ 32) es
  pub few : length es ≤ block_size L
  pub here : own ≡ over es (replicate 256 0)

pub own_of : (L : ℕ) (m : Mode) (vs own : List ℕ) → is_lanes L ≡ true → Below (2 ^ 32) vs → length vs ≤ block_size L → own ≡ over (entries_of m vs) (replicate 256 0) → Own L (entries_of m vs) own
own_of L m vs own lanes small few here = record { lanes = lanes; small = entries_small m vs small; few = rw length_entries few; here = here }

module _ {L : ℕ} {es own : List ℕ} (o : Own L es own) where
  pub own_length : block_size L ≤ length own
  own_length = omega (arith, ap length o.here, length_over es (replicate 256 0) (omega (arith, o.few, lanes_of L o.lanes)), lanes_of L o.lanes)

  pub block_length : length (take (block_size L) own) ≡ block_size L
  block_length = length-take-le (block_size L) own own_length

  block_at : (k : ℕ) → k < block_size L → filled es k ≡ at (take (block_size L) own) k
  block_at k h = sym (get_or-take (block_size L) own k 0 h ∙ ap (λ (t : List ℕ). at t k) o.here ∙ over_zeros es 256 k)

  fit : Fit (filled es) (block_size L) 32
  fit k h = o.small k

  pub length_block : length (block L es) ≡ 1 + payload_size L (width_of L es)
  unfolding block
  length_block = rw (length_packed, one-add)

  -- what is asked for its width, and then for its payload, by way of `own`
  pub width_told : width_answer L Plain (take (block_size L) own) ≡ Ok (width_of L es)
  width_told = width_is L o.lanes (take (block_size L) own) block_length ∙ ap Ok (width_ext fit block_at)

  pub width_narrow : width_of L es ≤ 32
  width_narrow = width_small (filled es) (block_size L) fit

  pub size_told : size_answer L (width_of L es) ≡ Ok (payload_size L (width_of L es))
  size_told = size_is L o.lanes (width_of L es) width_narrow

  module _ (out : List ℕ) (room : length (block L es) ≤ length out) where
    abbrev first : List ℕ
    first = set out 0 (width_of L es)

    abbrev pub behind : List ℕ
    behind = mid_of 1 (length (set out 0 (width_of L es)) - 1) (set out 0 (width_of L es))

    wide : payload_size L (width_of L es) ≤ length behind
    wide = rw (part_length 1 first, length-set) (omega (arith, length_block, room))

    own_fits : fits (at (take (block_size L) own)) (block_size L) (width_of L es) ≡ true
    own_fits = fits_of (at (take (block_size L) own)) (block_size L) (width_of L es) (λ k h. rw (← block_at k h) ((width_least (filled es) (block_size L) fit).fit k h))

    pub pack_told : pack_answer L Plain (take (block_size L) own) (length behind) (width_of L es) ≡ Ok (payload_size L (width_of L es))
    pack_told = pack_ok L o.lanes (take (block_size L) own) behind (width_of L es) block_length width_narrow wide own_fits

    -- its width at the front of `out`, and its payload packed into the part behind that
    pub store_is : (ys : List ℕ) → ys ≡ pack_output L Plain (take (block_size L) own) behind (width_of L es) → put_mid 1 (length first - 1) first ys ≡ over (block L es) out
    unfolding block
    store_is ys came =
        let n : ℕ = width_of L es in
        let room' : 1 + payload_size L n ≤ length out = omega (arith, length_block, room) in
        let one : Front (n ∷ []) out first = front_put (front_none out) 0 refl n (omega arith) in
        let packs : ys ≡ over (packed L n (filled es)) behind =
        came ∙ pack_is L o.lanes (take (block_size L) own) behind n block_length width_narrow wide own_fits
        ∙ ap (λ (t : List ℕ). over t behind) (packed_ext L n (at (take (block_size L) own)) (filled es) (λ k h. sym (block_at k h))) in
        (front_part one 1 refl (packed L n (filled es)) ys (rw length_packed (omega arith)) packs).here

  -- the width n that was found
  module _ {r : Result ℕ Refusal} {n : ℕ} (told : r ≡ width_answer L Plain (take (block_size L) own)) (ok : r ≡ Ok n) where
    pub width_found : n ≡ width_of L es
    width_found = ok_same ok (told ∙ width_told)

    pub narrow_found : n ≤ 32
    narrow_found = rw width_found width_narrow

    module _ {q : Result ℕ Refusal} (asked : q ≡ size_answer L n) where
      pub size_found : q ≡ Ok (payload_size L (width_of L es))
      size_found = asked ∙ rw width_found size_told

      pub length_found : {m : ℕ} → q ≡ Ok m → 1 + m ≡ length (block L es)
      length_found is = ap (λ (t : ℕ). 1 + t) (ok_same is size_found) ∙ sym length_block

    module _ (out : List ℕ) (room : length (block L es) ≤ length out) where
      pub pack_found : {q : Result ℕ Refusal} → q ≡ pack_answer L Plain (take (block_size L) own) (length (mid_of 1 (length (set out 0 n) - 1) (set out 0 n))) n
          → q ≡ Ok (payload_size L (width_of L es))
      pack_found asked = asked ∙ rw width_found (pack_told out room)

      pub packed_found : {q : Result ℕ Refusal} {m : ℕ} → q ≡ pack_answer L Plain (take (block_size L) own) (length (mid_of 1 (length (set out 0 n) - 1) (set out 0 n))) n
          → q ≡ Ok m → 1 + m ≡ length (block L es)
      packed_found asked is = ap (λ (t : ℕ). 1 + t) (ok_same is (pack_found asked)) ∙ sym length_block

      pub store_found : (ys : List ℕ) → ys ≡ pack_output L Plain (take (block_size L) own) (mid_of 1 (length (set out 0 n) - 1) (set out 0 n)) n
          → put_mid 1 (length (set out 0 n) - 1) (set out 0 n) ys ≡ over (block L es) out
      store_found ys came = rw width_found (store_is out room ys (rw width_found at came))

-- a block has its width byte at least
pub some_room : (L : ℕ) (es : List ℕ) {room : ℕ} → length (block L es) ≤ room → 1 ≤ room
unfolding block
some_room L es h = omega arith

-- a run of blocks

-- the first chunk of n of what is left, and what is left behind it
pub first_chunk : (n : ℕ) (rest x behind : List ℕ) → rest ≡ x ++ behind → length x ≡ min n (length rest) → (x ≡ take n rest) × (behind ≡ drop n rest)
first_chunk n rest x behind e size =
    let f = front n x behind (length rest) size (omega (arith, ap length e, length-append x behind)) in
    (sym (ap (take n) e ∙ f.0), sym (ap (drop n) e ∙ f.1))

-- no value left is none
pub none_left : (rest : List ℕ) → length rest ≡ 0 → rest ≡ []
none_left rest e = empty rest (omega arith)

-- the blocks of the values before `rest` are `so_far`, of length `done`
pub record Stored (L : ℕ) (m₀ : Mode) (vs : List ℕ) (m : Mode) (rest : List ℕ) (done : ℕ) : Type 0 where
  pub so_far : List ℕ
  pub far : length so_far ≡ done
  pub body : body_of L m₀ vs ≡ so_far ++ body_of L m rest

pub stored_none : (L : ℕ) (m : Mode) (vs : List ℕ) → Stored L m vs m vs 0
stored_none L m vs = record { so_far = []; far = refl; body = refl }

module _ {L : ℕ} {m₀ : Mode} {vs : List ℕ} {m : Mode} {rest : List ℕ} {done : ℕ} (s : Stored L m₀ vs m rest done) (lanes : 0 < L) where
  pub stored_all : rest ≡ [] → body_of L m₀ vs ≡ s.so_far
  stored_all h =
      let z : body_of L m rest ≡ [] = body_none L lanes m rest (ap length h) in
      s.body ∙ rw z (append-nil s.so_far)

  -- the values of the next block, and those behind it
  module _ (some : 0 < length rest) where
    abbrev pub part : List ℕ
    part = take (block_size L) rest

    whole : body_of L m₀ vs ≡ (s.so_far ++ block L (entries_of m part)) ++ body_of L (after_all m part) (drop (block_size L) rest)
    whole = s.body ∙ ap (λ (t : List ℕ). s.so_far ++ t) (body_next L lanes m rest some) ∙ sym (append_assoc s.so_far (block L (entries_of m part)) _)

    -- the next block does not pass the body's end
    pub block_within : done + length (block L (entries_of m part)) ≤ length (body_of L m₀ vs)
    block_within =
        omega (arith, s.far, length-append s.so_far (block L (entries_of m part)), ap length whole, length-append (s.so_far ++ block L (entries_of m part)) (body_of L (after_all m part) (drop (block_size L) rest)))

    pub stored_more : Stored L m₀ vs (after_all m part) (drop (block_size L) rest) (done + length (block L (entries_of m part)))
    stored_more =
        record {
          so_far = s.so_far ++ block L (entries_of m part);
          far = length-append s.so_far (block L (entries_of m part)) ∙ rw s.far;
          body = whole;
        }

-- and they stand at the front of `out`
pub record Storing (L : ℕ) (m₀ : Mode) (vs before : List ℕ) (m : Mode) (rest : List ℕ) (done : ℕ) (out : List ℕ) : Type 0 where
  pub run : Stored L m₀ vs m rest done
  pub here : Front run.so_far before out

pub storing_none : (L : ℕ) (m : Mode) (vs before : List ℕ) → Storing L m vs before m vs 0 before
unfolding stored_none
storing_none L m vs before = record { run = stored_none L m vs; here = front_none before }

module _ {L : ℕ} {m₀ : Mode} {vs before : List ℕ} {m : Mode} {rest : List ℕ} {done : ℕ} {out : List ℕ} (s : Storing L m₀ vs before m rest done out) where
  pub storing_length : length out ≡ length before
  storing_length = front_length s.here done s.run.far

  pub storing_within : done ≤ length out
  storing_within = omega (arith, storing_length, s.here.fits, s.run.far)

  module _ (lanes : 0 < L) (room : length (body_of L m₀ vs) ≤ length before) where
    pub storing_all : rest ≡ [] → (done ≡ length (body_of L m₀ vs)) × (out ≡ over (body_of L m₀ vs) before)
    storing_all h =
        let e : body_of L m₀ vs ≡ s.run.so_far = stored_all s.run lanes h in
        rw e (sym s.run.far, s.here.here)

    module _ (some : 0 < length rest) where
      pub block_room : length (block L (entries_of m (take (block_size L) rest))) ≤ length (mid_of done (length out - done) out)
      block_room = rw (part_length done out) (omega (arith, storing_length, block_within s.run lanes some))

      pub storing_more : (ys : List ℕ) → ys ≡ over (block L (entries_of m (take (block_size L) rest))) (mid_of done (length out - done) out)
          → Storing L m₀ vs before (after_all m (take (block_size L) rest)) (drop (block_size L) rest) (done + length (block L (entries_of m (take (block_size L) rest)))) (put_mid done (length out - done) out ys)
      unfolding stored_more
      storing_more ys came =
          record {
            run = stored_more s.run lanes some;
            here = front_part s.here done s.run.far _ ys (omega (arith, block_within s.run lanes some)) came;
          }
