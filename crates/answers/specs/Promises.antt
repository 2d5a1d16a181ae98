-- What it is for a contract to ask nothing of a caller, and to determine what a function answers and what it leaves: two outcomes that it
-- allows for one input are equal.
use Rattle.std.specs.Prelude.{◌≡◌, List, ℕ}
use contract.Lifetimes.{Lfts}
use denote.Triple.Clauses.{AtExit}
use borrow.Fn.Kinds.{ParamKind, ResultKind, In, Out, Dens, res_t, ended_of}

-- a function is told by the kinds of its parameters and of its answer; Pre is what it requires, Post what it ensures
module _ {n : ℕ} (ps : List (ParamKind n)) (Pre : In n ps) where
  abbrev pub AsksNothing : Type 0
  AsksNothing = (κs : Lfts n) (a : Dens κs ps) → Pre κs a

module _ {n : ℕ} (ps : List (ParamKind n)) (r : ResultKind n) (Post : Out n ps r) where
  abbrev pub AnswerDetermined : Type 0
  AnswerDetermined = (κs : Lfts n) (a : Dens κs ps) (z z' : (res_t r κs).Denot) (e e' : AtExit (ended_of n ps r) κs) → Post κs a z e → Post κs a z' e' → z ≡ z'

  -- `seen` is what a part that is handed back holds
  abbrev pub SeenDetermined : {X : Type 0} → ((κs : Lfts n) → (res_t r κs).Denot → X) → Type 0
  SeenDetermined seen = (κs : Lfts n) (a : Dens κs ps) (z z' : (res_t r κs).Denot) (e e' : AtExit (ended_of n ps r) κs) → Post κs a z e → Post κs a z' e' → seen κs z ≡ seen κs z'

  -- `left` is what the lent memory holds at exit
  abbrev pub Determined : {X : Type 0} → ((κs : Lfts n) → AtExit (ended_of n ps r) κs → X) → Type 0
  Determined left = (κs : Lfts n) (a : Dens κs ps) (z z' : (res_t r κs).Denot) (e e' : AtExit (ended_of n ps r) κs) → Post κs a z e → Post κs a z' e' → (z ≡ z') × (left κs e ≡ left κs e')
