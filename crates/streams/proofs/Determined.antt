-- Each public function of the crate asks nothing of its caller, whatever it reads from and writes to, where that borrows nothing itself. (What
-- the system gives to read no contract can say: none has an answer to determine.)
use mathlib.Core.List.{Mem, not-mem-nil}
use denote.RattleType.{RattleType}
use denote.Param.Laws.{Laws}
use mir.Syntax.{Dict}
use Rattle.std.proofs.Common.{◌≡◌, ℕ, List, [], subst}
use Rattle.std.specs.declared.io.traits.Read.{Ghosts as ReadGhosts}
use Rattle.std.specs.declared.io.Print.{Ghosts as PrintGhosts}
use Rattle.std.specs.declared.io.Eprint.{Ghosts as EprintGhosts}
use Rattle.answers.specs.Promises.{AsksNothing}
use Rattle.streams.proofs.read_full.Reads as read_full
use Rattle.streams.proofs.read_full.Kinds as read_full_kinds
use Rattle.streams.proofs.read_input.Reads as read_input
use Rattle.streams.proofs.read_input.Kinds as read_input_kinds
use Rattle.streams.proofs.warn_of_arguments.Reads as warn_of_arguments
use Rattle.streams.proofs.warn_of_arguments.Kinds as warn_of_arguments_kinds
use Rattle.streams.proofs.write_output.Reads as write_output
use Rattle.streams.proofs.write_output.Kinds as write_output_kinds

-- what borrows nothing outlives every loan of it
outlives : {l k : List ℕ} → l ≡ [] → (x : ℕ) → Mem x l → Mem x k
outlives free x m = absurd (not-mem-nil (subst (Mem x) free m))

module _ (T : RattleType) (laws : Laws T) (g : ReadGhosts T.Denot) (d : Dict) (free : T.lives ≡ []) where
  read_full_asks_nothing : AsksNothing (read_full_kinds.ps T laws) (read_full.Pre T laws g d)
  read_full_asks_nothing κs a = outlives free

  read_input_asks_nothing : AsksNothing (read_input_kinds.ps T laws) (read_input.Pre T laws g d)
  read_input_asks_nothing κs a = outlives free

module _ (T : RattleType) (laws : Laws T) (g : PrintGhosts T.Denot) (d : Dict) (h : EprintGhosts T.Denot) (e : Dict) (free : T.lives ≡ []) where
  write_output_asks_nothing : AsksNothing (write_output_kinds.ps T laws) (write_output.Pre T laws g d h e)
  write_output_asks_nothing κs a = outlives free

warn_of_arguments_asks_nothing : AsksNothing warn_of_arguments_kinds.ps warn_of_arguments.Pre
warn_of_arguments_asks_nothing κs a = tt
