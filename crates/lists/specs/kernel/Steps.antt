-- What the steps of reading hand on.
use Rattle.std.specs.Prelude.{not, List, ℕ, zero, suc, ◌+◌, ◌-◌, eqb, drop}
use Rattle.layout.specs.Layout.{block_size}
use Rattle.layout.specs.Width.{fits, least_width}
use Rattle.answers.specs.declared.Refusal.TheVariants.{NotLeast, BadFill}
use Rattle.answers.specs.Refusals.{Tested, accept, refuse, or_else}
use Rattle.bodies.specs.Reading.{width_at, size_at, entry_at, frame_refusal}

-- whether b blocks stand there, whatever their entries
unfoldable pub frames_from : ℕ → List ℕ → ℕ → Tested
frames_from L bs zero = accept
frames_from L bs (suc b) = or_else (frame_refusal L bs) (frames_from L (drop (size_at L bs) bs) b)

-- 10, 9: whether the entries e behind the first k are 0, and n is their least width. (To fit width 0 is to be 0.)
unfoldable pub entries_refusal : ℕ → ℕ → ℕ → (ℕ → ℕ) → Tested
entries_refusal L k n e =
    refuse (not (fits (λ i. e (k + i)) (block_size L - k) 0)) BadFill
    (refuse (not (eqb n (least_width e (block_size L)))) NotLeast
    accept)

-- 5, 2, 5, 10, 9: what the bytes of a block are refused for, whatever values they stand for
unfoldable pub shape_refusal : ℕ → ℕ → List ℕ → Tested
shape_refusal L k bs = or_else (frame_refusal L bs) (entries_refusal L k (width_at bs) (entry_at L bs))
