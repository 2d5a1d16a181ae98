-- Demand 3, of the three that the project rests on (docs/PROMISES.md): "Fix lanes, mode and first value. For up to 4,096 values in the mode's
-- order, the reader, given a count, a body and room, accepts exactly when the body is what demand 2's layout and the list rules write for some
-- list of that count; that list is the only one, and is what it returns. The list writer, given such a list and room, writes exactly that
-- body." The contracts of `read` and of `write` (src/lib.rt) say it of what they answer and leave: DemandReads and DemandWrites.
use Rattle.std.specs.Prelude.{◌≡◌, true, ◌↔◌, List, ℕ, ◌≤◌, length, Result, Ok, is_ok}
use Rattle.modes.specs.declared.Mode.{Mode}
use Rattle.answers.specs.declared.Refusal.{Refusal}
use Rattle.answers.specs.Answers.{over}
use Rattle.layout.specs.Layout.{is_lanes}
use Rattle.bodies.specs.List.{IsList}
use Rattle.bodies.specs.Body.{body_of}

-- bs is what the layout and the list rules write for vs, and that is a list of `count` values
pub record Holds (L : ℕ) (m : Mode) (count : ℕ) (bs vs : List ℕ) : Type 0 where
  pub list : IsList m count vs
  pub body : bs ≡ body_of L m vs

-- the reader was lent `before`; it answered r and left `after`
pub record Reads (L : ℕ) (m : Mode) (count : ℕ) (bs before : List ℕ) (r : Result ℕ Refusal) (after : List ℕ) : Type 0 where
  -- "accepts exactly when the body is what demand 2's layout and the list rules write for some list of that count;"
  pub exactly : (is_ok r ≡ true) ↔ ((vs : List ℕ) × Holds L m count bs vs)
  -- "that list is the only one,"
  pub only : (vs ws : List ℕ) → Holds L m count bs vs → Holds L m count bs ws → vs ≡ ws
  -- "and is what it returns."
  pub returns : (vs : List ℕ) → Holds L m count bs vs → (r ≡ Ok count) × (after ≡ over vs before)

-- "Fix lanes, mode and first value. .. the reader, given a count, a body and room, .."
abbrev pub DemandReads : ℕ → Mode → ℕ → List ℕ → List ℕ → Result ℕ Refusal → List ℕ → Type 0
DemandReads L m count bs before r after = is_lanes L ≡ true → count ≤ length before → Reads L m count bs before r after

-- "The list writer, given such a list and room, writes exactly that body." It was lent `before`; it answered r and left `after`.
abbrev pub DemandWrites : ℕ → Mode → List ℕ → List ℕ → Result ℕ Refusal → List ℕ → Type 0
DemandWrites L m vs before r after =
    is_lanes L ≡ true → IsList m (length vs) vs → length (body_of L m vs) ≤ length before
    → (r ≡ Ok (length (body_of L m vs))) × (after ≡ over (body_of L m vs) before)
