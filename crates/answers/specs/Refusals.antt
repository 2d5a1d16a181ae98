-- "Numbers of refusal" of document 01.
use Rattle.std.specs.Prelude.{Bool, cond, ℕ, ⊤, Result, Ok, Err, is_ok}
use Rattle.answers.specs.declared.Refusal.{Refusal}
use Rattle.answers.specs.declared.Refusal.TheVariants.{BadLanes, BadWidth, BadBlock, NoRoom, CutShort, TooWide, TooMany, OutOfOrder, NotLeast, BadFill, LeftOver, BadHeader}

-- the number of each refusal
abbrev pub number_of : Refusal → ℕ
number_of BadLanes = 1
number_of BadWidth = 2
number_of BadBlock = 3
number_of NoRoom = 4
number_of CutShort = 5
number_of TooWide = 6
number_of TooMany = 7
number_of OutOfOrder = 8
number_of NotLeast = 9
number_of BadFill = 10
number_of LeftOver = 11
number_of BadHeader = 12

-- what comes of some tests: the refusal that is given, or none
abbrev pub Tested : Type 0
Tested = Result ⊤ Refusal

-- no test refuses
abbrev pub accept : Tested
accept = Ok tt

abbrev pub accepted : Tested → Bool
accepted k = is_ok k

-- "The first that applies in this order is given, and none otherwise": k where the test holds, and else what follows
abbrev pub refuse : Bool → Refusal → Tested → Tested
refuse test k next = cond test (Err k) next

-- the first refusal, and where that accepts, what follows
abbrev pub or_else : Tested → Tested → Tested
or_else first next = cond (accepted first) next first
