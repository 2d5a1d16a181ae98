-- Demand 3 and where reading stops, from what the calls ensure and nothing else: whatever `read`, `write` and `check` answer and leave, by their
-- contracts, is as it is demanded.
use contract.Lifetimes.{Lfts}
use denote.Triple.Clauses.{AtExit}
use borrow.Fn.Kinds.{Dens, res_t, ended_of}
use Rattle.lists.specs.Demand.{DemandReads, DemandWrites}
use Rattle.lists.specs.Stops.{WhereItStops}
use Rattle.lists.proofs.write.Reads as write
use Rattle.lists.proofs.write.Kinds as write_kinds
use Rattle.lists.proofs.read.Reads as read
use Rattle.lists.proofs.read.Kinds as read_kinds
use Rattle.lists.proofs.check.Reads as check
use Rattle.lists.proofs.check.Kinds as check_kinds

read_demanded : (κs : Lfts 2) (a : Dens κs read_kinds.ps) (z : (res_t read_kinds.r κs).Denot) (e : AtExit (ended_of 2 read_kinds.ps read_kinds.r) κs) → read.Post κs a z e
    → DemandReads a.0 a.1.0 a.1.1.0 a.1.1.1.0.now a.1.1.1.1.0.now z e.1.1.1.1.0.now
read_demanded κs a z e p = p.1.1

write_demanded : (κs : Lfts 2) (a : Dens κs write_kinds.ps) (z : (res_t write_kinds.r κs).Denot) (e : AtExit (ended_of 2 write_kinds.ps write_kinds.r) κs) → write.Post κs a z e
    → DemandWrites a.0 a.1.0 a.1.1.0.now a.1.1.1.0.now z e.1.1.1.0.now
write_demanded κs a z e p = p.1.1

check_told : (κs : Lfts 1) (a : Dens κs check_kinds.ps) (z : (res_t check_kinds.r κs).Denot) (e : AtExit (ended_of 1 check_kinds.ps check_kinds.r) κs) → check.Post κs a z e
    → WhereItStops a.0 a.1.0 a.1.1.0 a.1.1.1.0.now z
check_told κs a z e p = p.1
