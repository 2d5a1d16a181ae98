-- The entries of all lanes or-ed together have the least width (`least_by_lanes`), from which on the block fits (`fits_exactly`).
use Rattle.std.proofs.Common.{◌≡◌, ℕ, ◌^◌, ◌<◌, sym, ◌∙◌, ap, arith}
use Rattle.layout.specs.Layout.{at, block_size}
use Rattle.layout.specs.Width.{significant, least_width}
use Rattle.layout.proofs.Widths.{fits_exactly, least_by_lanes}
use Rattle.modes.proofs.Undo.{entries_small}
use Rattle.blocks.specs.kernel.Blocks.{BlockParts, entries_in}
use Rattle.blocks.proofs.block.Block.least_width.Goals as goal

small : (c : goal.After-most_significant_bit) (k : ℕ) → entries_in c.args.self.now k < 2 ^ 32
small c k = rw (← c.self.view_is) (entries_small c.self.inside.mode (at c.self.inside.values.now) k (c.self.invariant.1 k))

least : (c : goal.After-most_significant_bit) → c.most_significant_bit.result ≡ least_width (entries_in c.args.self.now) (block_size c.args.self.now.lanes)
least c =
    let b = c.args.self.now in
    let used : c.count.result ≡ b.lanes = c.count.ensures.value ∙ ap (λ (x : BlockParts). x.lanes) c.self.view_is in
    c.most_significant_bit.ensures ∙ ap significant (rw used at c.or_collapse_to_u32.ensures)
    ∙ sym (least_by_lanes b.lanes 32 (entries_in b) (at c.accumulate.result) c.accumulate.ensures (λ k h. small c k))

pub returns-clause-exactly : goal.returns-clause-exactly
returns-clause-exactly c = λ n.
    let b = c.args.self.now in
    let exactly = fits_exactly (entries_in b) (block_size b.lanes) n (λ k h. small c k) in
    let is = least c in
    grind arith

pub returns-clause-value : goal.returns-clause-value
returns-clause-value = least
