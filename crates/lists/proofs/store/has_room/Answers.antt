-- No body is longer than the longest.
use Rattle.std.proofs.Common.{sym, length, arith}
use borrow.Author.Tests.{le-leb}
use Rattle.bodies.specs.Body.{body_of}
use Rattle.bodies.proofs.Sizes.{body_short}
use Rattle.lists.proofs.store.has_room.Goals as goal

pub returns-then-room-ge-LONGEST : goal.returns-then-room-ge-LONGEST
returns-then-room-ge-LONGEST c =
    let a = c.args in
    sym (le-leb (length (body_of a.lanes a.mode a.values.now)) a.room (omega (arith, c.if-room-ge-LONGEST.true, body_short a.lanes c.requires.0 a.mode a.values.now c.requires.1)))
