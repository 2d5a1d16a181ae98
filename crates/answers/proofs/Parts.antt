-- A part that begins at a place and goes to the end: what a callee sees of the list.
use mathlib.Core.Path.{◌≡◌, ◌∙◌, ap}
use mathlib.Core.List.{List}
use Prim.Native.Nat.{ℕ, ◌+◌, ◌-◌}
use native.Mathlib.Nat.{le_refl}
use lib.ListN.{length, get_or, drop, length-drop}
use lib.Seq.{take_all, get_or-drop}
use borrow.Rule.Slice.PartMut.{mid_of}

-- the part is what is left of the list
pub part_is : (a : ℕ) (xs : List ℕ) → mid_of a (length xs - a) xs ≡ drop a xs
part_is a xs = take_all (length xs - a) (drop a xs) (simp length-drop (le_refl (length xs - a)))

pub part_length : (a : ℕ) (xs : List ℕ) → length (mid_of a (length xs - a) xs) ≡ length xs - a
part_length a xs = ap length (part_is a xs) ∙ length-drop a xs

-- element k of the part is element a + k of the list
pub part_at : (a : ℕ) (xs : List ℕ) (k : ℕ) → get_or (mid_of a (length xs - a) xs) k 0 ≡ get_or xs (a + k) 0
part_at a xs k = rw (part_is a xs) (get_or-drop a xs k 0)
