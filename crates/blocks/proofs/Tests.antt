-- Each call is accepted exactly when every one of its tests passes.
use mathlib.Core.Path.{◌≡◌}
use mathlib.Core.Bool.{true, not}
use mathlib.Core.Logic.{◌↔◌}
use mathlib.Core.List.{List}
use Prim.Native.Nat.{ℕ, ◌≤◌}
use borrow.Author.Tests.{ltb-false, le-ltb, eqb-true, eq-eqb, not-false}
use lib.Dec.{ltb, eqb}
use lib.ListN.{length}
use Rattle.layout.specs.Layout.{at, block_size, payload_size, is_lanes}
use Rattle.layout.specs.Width.{fits}
use Rattle.modes.specs.declared.Mode.{Mode}
use Rattle.modes.specs.Entries.{entries}
use Rattle.answers.specs.declared.Refusal.TheVariants.{BadLanes, BadWidth, BadBlock, NoRoom, CutShort, TooWide}
use Rattle.answers.specs.Refusals.{accept, accepted, refuse}
use Rattle.answers.proofs.Refusals.{passed}
use Rattle.blocks.specs.Calls.{size_refusal, pack_refusal, unpack_refusal, width_refusal}

-- what payload size accepts
pub record Sizable (L n : ℕ) : Type 0 where
  pub lanes : is_lanes L ≡ true
  pub width : n ≤ 32

pub size_exactly : (L n : ℕ) → (accepted (size_refusal L n) ≡ true) ↔ Sizable L n
size_exactly L n = (there, λ s. rw (s.lanes, le-ltb 32 n s.width))
  where
    there : accepted (size_refusal L n) ≡ true → Sizable L n
    there h =
        let a = passed _ BadLanes (refuse (ltb 32 n) BadWidth accept) h in
        let b = passed _ BadWidth accept a.1 in
        record { lanes = not-false _ a.0; width = ltb-false 32 n b.0 }

-- what packing accepts
pub record Packable (L : ℕ) (m : Mode) (vs : List ℕ) (room n : ℕ) : Type 0 where
  pub lanes : is_lanes L ≡ true
  pub width : n ≤ 32
  pub block : length vs ≡ block_size L
  pub enough : payload_size L n ≤ room
  pub fit : fits (entries m (at vs)) (block_size L) n ≡ true

pub pack_exactly : (L : ℕ) (m : Mode) (vs : List ℕ) (room n : ℕ) → (accepted (pack_refusal L m vs room n) ≡ true) ↔ Packable L m vs room n
pack_exactly L m vs room n = (
  there,
  λ s. rw (s.lanes, le-ltb 32 n s.width, eq-eqb (length vs) (block_size L) s.block, le-ltb room (payload_size L n) s.enough, s.fit),
)
  where
    there : accepted (pack_refusal L m vs room n) ≡ true → Packable L m vs room n
    there h =
        let a = passed _ BadLanes _ h in
        let b = passed _ BadWidth _ a.1 in
        let c = passed _ BadBlock _ b.1 in
        let d = passed _ NoRoom _ c.1 in
        let e = passed _ TooWide _ d.1 in
        record {
          lanes = not-false _ a.0;
          width = ltb-false 32 n b.0;
          block = eqb-true (length vs) (block_size L) (not-false _ c.0);
          enough = ltb-false room (payload_size L n) d.0;
          fit = not-false _ e.0;
        }

-- what unpacking accepts
pub record Unpackable (L size room n : ℕ) : Type 0 where
  pub lanes : is_lanes L ≡ true
  pub width : n ≤ 32
  pub enough : block_size L ≤ room
  pub whole : payload_size L n ≤ size

pub unpack_exactly : (L size room n : ℕ) → (accepted (unpack_refusal L size room n) ≡ true) ↔ Unpackable L size room n
unpack_exactly L size room n = (
  there,
  λ s. rw (s.lanes, le-ltb 32 n s.width, le-ltb room (block_size L) s.enough, le-ltb size (payload_size L n) s.whole),
)
  where
    there : accepted (unpack_refusal L size room n) ≡ true → Unpackable L size room n
    there h =
        let a = passed _ BadLanes _ h in
        let b = passed _ BadWidth _ a.1 in
        let c = passed _ NoRoom _ b.1 in
        let d = passed _ CutShort _ c.1 in
        record {
          lanes = not-false _ a.0;
          width = ltb-false 32 n b.0;
          enough = ltb-false room (block_size L) c.0;
          whole = ltb-false size (payload_size L n) d.0;
        }

-- what width finding accepts
pub record Measurable (L count : ℕ) : Type 0 where
  pub lanes : is_lanes L ≡ true
  pub block : count ≡ block_size L

pub width_exactly : (L count : ℕ) → (accepted (width_refusal L count) ≡ true) ↔ Measurable L count
width_exactly L count = (there, λ s. rw (s.lanes, eq-eqb count (block_size L) s.block))
  where
    there : accepted (width_refusal L count) ≡ true → Measurable L count
    there h =
        let a = passed _ BadLanes (refuse (not (eqb count (block_size L))) BadBlock accept) h in
        let b = passed _ BadBlock accept a.1 in
        record { lanes = not-false _ a.0; block = eqb-true count (block_size L) (not-false _ b.0) }
