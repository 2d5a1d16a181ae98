-- The largest file: 16,566 bytes. Plain has the largest body behind the shortest header; in sorted and strict mode at most one block has
-- width 32.
use mathlib.Core.Path.{◌≡◌, sym, ◌∙◌, ap}
use mathlib.Core.Bool.{true}
use Prim.Native.Nat.{ℕ, ◌+◌, ◌^◌, ◌≤◌, ◌<◌}
use native.Mathlib.Omega.{arith}
use lib.ListN.{length, length-append}
use Rattle.layout.specs.Layout.{is_lanes}
use Rattle.layout.proofs.LaneCounts.{for_lanes}
use Rattle.modes.specs.declared.Mode.{Mode}
use Rattle.modes.specs.declared.Mode.TheVariants.{Plain, Sorted, Strict}
use Rattle.modes.specs.Entries.{first_of}
use Rattle.text.proofs.Decimals.{decimal_below}
use Rattle.order.specs.Order.{starting_initial, starting, ordered, entries_of}
use Rattle.order.proofs.Beginnings.{starting_first, starting_entries}
use Rattle.bodies.specs.Body.{body_of}
use Rattle.bodies.proofs.Sizes.{body_short}
use Rattle.bodies.proofs.Narrow.{total, sorted_total, strict_any, narrow_body}
use Rattle.lists.proofs.Accepts.{Measurable, measure_exactly}
use Rattle.files.specs.Header.{file_of, header_text}
use Rattle.files.specs.kernel.Lengths.{longest_header}
use Rattle.files.specs.Claims.{LargestFile}
use Rattle.files.specs.Calls.{header_for, file_for}
use Rattle.files.proofs.Filing.{file_splits}
use Rattle.files.proofs.Lines.{header_short}

-- the header of a plain list, with up to 4 digits of `count` and 5 of `bytes`
plain_header : (L count bytes : ℕ) → L < 10 → count < 10000 → bytes < 100000 → length (header_text (record { lanes = L; mode = Plain; count = count; bytes = bytes })) ≤ 54
unfolding file_of
plain_header L count bytes l c b =
    simp length-append (omega (arith, decimal_below 0 L l, decimal_below 3 count c, decimal_below 4 bytes b))

lanes_digit : (L : ℕ) → is_lanes L ≡ true → L < 10
lanes_digit = for_lanes (λ L. L < 10) (omega arith) (omega arith) (omega arith)

-- room that every file fits: SISALSHED_LARGEST_FILE. (A plain list of 4,096 values of 4,294,967,295, with 1 lane, has just that many.)
pub largest_file : LargestFile
unfolding file_for
largest_file L m vs h small below = go m small able.order parts (header_short (header_for L m vs))
  where
    able : Measurable L m vs
    able = (measure_exactly L m vs).0 h

    parts : length (file_for L m vs) ≡ length (header_text (header_for L m vs)) + length (body_of L m vs)
    parts = ap length (sym (file_splits (header_for L m vs) (body_of L m vs))) ∙ length-append (header_text (header_for L m vs)) (body_of L m vs)

    narrow : (n : Mode) → total (entries_of n vs) < 2 ^ 32 → length (body_of L n vs) ≤ 16004
    narrow n t = narrow_body L able.lanes n vs able.few t

    go : (n : Mode) → first_of n < 2 ^ 32 → ordered (starting n) vs ≡ true → length (file_for L n vs) ≡ length (header_text (header_for L n vs)) + length (body_of L n vs) → length (header_text (header_for L n vs)) ≤ longest_header → length (file_for L n vs) ≤ 16566
    go Plain s o p head =
        let body = body_short L able.lanes Plain vs able.few in
        omega (arith, p, plain_header L (length vs) (length (body_of L Plain vs)) (lanes_digit L able.lanes) (omega (arith, able.few)) (omega arith))
    go (Sorted f) s o p head = omega (arith, p, narrow (Sorted f) (omega (arith, sorted_total f vs s below o)))
    go (Strict i) s o p head =
        let t : total (entries_of (Strict (starting_initial i)) vs) < 2 ^ 32 = strict_any (starting_initial i) vs (rw (starting_first (Strict i)) s) below o in
        omega (arith, p, narrow (Strict i) (rw (starting_entries (Strict i) vs) at t))
