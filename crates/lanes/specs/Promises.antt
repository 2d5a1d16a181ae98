-- A contract that answers a row determines it: a row is eight numbers by its type. (As answers/specs/Promises has it of other answers.)
use Rattle.std.specs.Prelude.{◌≡◌, ℕ, List, length}
use contract.Lifetimes.{Lfts}
use denote.Triple.Clauses.{AtExit}
use borrow.Fn.Kinds.{ParamKind, ResultKind, Out, Dens, res_t, ended_of}

module _ {n : ℕ} (ps : List (ParamKind n)) (r : ResultKind n) (Post : Out n ps r) (row : (κs : Lfts n) → (res_t r κs).Denot → List ℕ) where
  abbrev pub RowDetermined : Type 0
  RowDetermined = (κs : Lfts n) (a : Dens κs ps) (z z' : (res_t r κs).Denot) (e e' : AtExit (ended_of n ps r) κs) → length (row κs z) ≡ 8 → length (row κs z') ≡ 8 → Post κs a z e → Post κs a z' e' → row κs z ≡ row κs z'
