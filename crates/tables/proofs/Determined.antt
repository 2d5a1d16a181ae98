-- For each public function of the crate: it asks nothing of its caller; two answers that its contract allows for one input are equal, and so
-- is what it leaves in the memory that it was lent to write.
use mathlib.Core.List.{Mem, not-mem-nil}
use denote.RattleType.{RattleType}
use denote.Param.Always.{always_mut, always_once}
use denote.Param.Laws.{Laws, IsCopy}
use mir.Syntax.{Dict}
use Rattle.std.proofs.Common.{◌≡◌, ℕ, List, [], subst, sym, refl, ◌∙◌}
use Rattle.std.specs.declared.clone.Clone.{Ghosts as CloneGhosts}
use Rattle.std.specs.declared.cmp.PartialEq.{Ghosts as PartialEqGhosts}
use Rattle.std.specs.declared.convert.Into.{Ghosts as IntoGhosts}
use Rattle.std.specs.declared.io.traits.Read.{Ghosts as ReadGhosts}
use Rattle.tables.specs.contracts.for_each_line.F-FnMut.{Ghosts as RunGhosts}
use Rattle.tables.specs.Tables.{Converts}
use Rattle.answers.specs.Promises.{AsksNothing, AnswerDetermined, SeenDetermined, Determined}
use Rattle.tables.proofs.buffers.first.Reads as first
use Rattle.tables.proofs.buffers.first.Kinds as first_kinds
use Rattle.tables.specs.contracts.buffers.on_first.F-FnOnce.{Ghosts as CallGhosts}
use Rattle.tables.proofs.buffers.on_first.Reads as on_first
use Rattle.tables.proofs.buffers.on_first.Kinds as on_first_kinds
use Rattle.tables.proofs.buffers.marked_bytes.Reads as marked_bytes
use Rattle.tables.proofs.buffers.marked_bytes.Kinds as marked_bytes_kinds
use Rattle.tables.proofs.buffers.marked_values.Reads as marked_values
use Rattle.tables.proofs.buffers.marked_values.Kinds as marked_values_kinds
use Rattle.tables.proofs.buffers.table_room.Reads as table_room
use Rattle.tables.proofs.buffers.table_room.Kinds as table_room_kinds
use Rattle.tables.proofs.buffers.same_front.Reads as same_front
use Rattle.tables.proofs.buffers.same_front.Kinds as same_front_kinds
use Rattle.tables.proofs.checksum.Reads as checksum
use Rattle.tables.proofs.checksum.Kinds as checksum_kinds
use Rattle.tables.proofs.checksum_from.Reads as checksum_from
use Rattle.tables.proofs.checksum_from.Kinds as checksum_from_kinds
use Rattle.tables.proofs.for_each_line.Reads as for_each_line
use Rattle.tables.proofs.for_each_line.Kinds as for_each_line_kinds
use Rattle.tables.proofs.line.number.Reads as number_call
use Rattle.tables.proofs.line.number.Kinds as number_call_kinds
use Rattle.tables.proofs.decode.Reads as decode
use Rattle.tables.proofs.decode.Kinds as decode_kinds
use Rattle.tables.proofs.noise_after.Reads as noise_after
use Rattle.tables.proofs.noise_after.Kinds as noise_after_kinds
use Rattle.tables.proofs.words.letter_at.Reads as letter_at
use Rattle.tables.proofs.words.letter_at.Kinds as letter_at_kinds
use Rattle.tables.proofs.words.before.Reads as before
use Rattle.tables.proofs.words.before.Kinds as before_kinds
use Rattle.tables.proofs.words.behind.Reads as behind
use Rattle.tables.proofs.words.behind.Kinds as behind_kinds
use Rattle.tables.proofs.words.value.Reads as value
use Rattle.tables.proofs.words.value.Kinds as value_kinds
use Rattle.tables.proofs.words.decimal.Reads as decimal
use Rattle.tables.proofs.words.decimal.Kinds as decimal_kinds
use Rattle.tables.proofs.words.amount.Reads as amount
use Rattle.tables.proofs.words.amount.Kinds as amount_kinds
use Rattle.tables.proofs.words.second.Reads as second
use Rattle.tables.proofs.words.second.Kinds as second_kinds
use Rattle.tables.proofs.words.narrow.Reads as narrow
use Rattle.tables.proofs.words.narrow.Kinds as narrow_kinds
use Rattle.tables.proofs.words.mode.Reads as mode
use Rattle.tables.proofs.words.mode.Kinds as mode_kinds
use Rattle.tables.proofs.words.put_values.Reads as put_values
use Rattle.tables.proofs.words.put_values.Kinds as put_values_kinds
use Rattle.tables.proofs.words.given_values.Reads as given_values
use Rattle.tables.proofs.words.given_values.Kinds as given_values_kinds

decode_asks_nothing : AsksNothing decode_kinds.ps decode.Pre
decode_asks_nothing κs a = tt

decode_determined : Determined decode_kinds.ps decode_kinds.r decode.Post (λ κs e. e.1.0.now)
decode_determined κs a z z' e e' p q = (p.0 ∙ sym q.0, p.1.0 ∙ sym q.1.0)

noise_after_asks_nothing : AsksNothing noise_after_kinds.ps noise_after.Pre
noise_after_asks_nothing κs a = tt

noise_after_determined : AnswerDetermined noise_after_kinds.ps noise_after_kinds.r noise_after.Post
noise_after_determined κs a z z' e e' p q = p ∙ sym q

letter_at_asks_nothing : AsksNothing letter_at_kinds.ps letter_at.Pre
letter_at_asks_nothing κs a = tt

letter_at_determined : AnswerDetermined letter_at_kinds.ps letter_at_kinds.r letter_at.Post
letter_at_determined κs a z z' e e' p q = p ∙ sym q

before_asks_nothing : AsksNothing before_kinds.ps before.Pre
before_asks_nothing κs a = tt

before_determined : SeenDetermined before_kinds.ps before_kinds.r before.Post (λ κs z. z.now)
before_determined κs a z z' e e' p q = p ∙ sym q

behind_asks_nothing : AsksNothing behind_kinds.ps behind.Pre
behind_asks_nothing κs a = tt

behind_determined : SeenDetermined behind_kinds.ps behind_kinds.r behind.Post (λ κs z. z.now)
behind_determined κs a z z' e e' p q = p.0 ∙ sym q.0

value_asks_nothing : AsksNothing value_kinds.ps value.Pre
value_asks_nothing κs a = tt

value_determined : SeenDetermined value_kinds.ps value_kinds.r value.Post (λ κs z. z.now)
value_determined κs a z z' e e' p q = p ∙ sym q

decimal_asks_nothing : AsksNothing decimal_kinds.ps decimal.Pre
decimal_asks_nothing κs a = tt

decimal_determined : AnswerDetermined decimal_kinds.ps decimal_kinds.r decimal.Post
decimal_determined κs a z z' e e' p q = p ∙ sym q

amount_asks_nothing : AsksNothing amount_kinds.ps amount.Pre
amount_asks_nothing κs a = tt

amount_determined : AnswerDetermined amount_kinds.ps amount_kinds.r amount.Post
amount_determined κs a z z' e e' p q = p ∙ sym q

second_asks_nothing : AsksNothing second_kinds.ps second.Pre
second_asks_nothing κs a = tt

second_determined : AnswerDetermined second_kinds.ps second_kinds.r second.Post
second_determined κs a z z' e e' p q = p ∙ sym q

narrow_asks_nothing : AsksNothing narrow_kinds.ps narrow.Pre
narrow_asks_nothing κs a = tt

narrow_determined : AnswerDetermined narrow_kinds.ps narrow_kinds.r narrow.Post
narrow_determined κs a z z' e e' p q = p ∙ sym q

mode_asks_nothing : AsksNothing mode_kinds.ps mode.Pre
mode_asks_nothing κs a = tt

mode_determined : AnswerDetermined mode_kinds.ps mode_kinds.r mode.Post
mode_determined κs a z z' e e' p q = p ∙ sym q

put_values_asks_nothing : AsksNothing put_values_kinds.ps put_values.Pre
put_values_asks_nothing κs a = tt

put_values_determined : Determined put_values_kinds.ps put_values_kinds.r put_values.Post (λ κs e. e.1.1.0.now)
put_values_determined κs a z z' e e' p q = (refl, p ∙ sym q)

given_values_asks_nothing : AsksNothing given_values_kinds.ps given_values.Pre
given_values_asks_nothing κs a = tt

given_values_determined : AnswerDetermined given_values_kinds.ps given_values_kinds.r given_values.Post
given_values_determined κs a z z' e e' p q = p.0 ∙ sym q.0

table_room_asks_nothing : AsksNothing table_room_kinds.ps table_room.Pre
table_room_asks_nothing κs a = tt

table_room_determined : AnswerDetermined table_room_kinds.ps table_room_kinds.r table_room.Post
table_room_determined κs a z z' e e' p q = p.0 ∙ sym q.0

marked_bytes_asks_nothing : AsksNothing marked_bytes_kinds.ps marked_bytes.Pre
marked_bytes_asks_nothing κs a = tt

marked_bytes_determined : AnswerDetermined marked_bytes_kinds.ps marked_bytes_kinds.r marked_bytes.Post
marked_bytes_determined κs a z z' e e' p q = p.0 ∙ sym q.0

marked_values_asks_nothing : AsksNothing marked_values_kinds.ps marked_values.Pre
marked_values_asks_nothing κs a = tt

marked_values_determined : AnswerDetermined marked_values_kinds.ps marked_values_kinds.r marked_values.Post
marked_values_determined κs a z z' e e' p q = p.0 ∙ sym q.0

-- what borrows nothing outlives every loan of it
outlives : {l k : List ℕ} → l ≡ [] → (x : ℕ) → Mem x l → Mem x k
outlives free x m = absurd (not-mem-nil (subst (Mem x) free m))

-- whatever the items are, where they borrow nothing themselves
module _ (T : RattleType) (laws : Laws T) (free : T.lives ≡ []) where
  first_asks_nothing : AsksNothing (first_kinds.ps T laws) (first.Pre T laws)
  first_asks_nothing κs a = outlives free

  first_determined : SeenDetermined (first_kinds.ps T laws) (first_kinds.r T laws) (first.Post T laws) (λ κs z. z.now)
  first_determined κs a z z' e e' p q = p ∙ sym q

  number_asks_nothing : AsksNothing (number_call_kinds.ps T laws) (number_call.Pre T laws)
  number_asks_nothing κs a = outlives free

  number_determined : AnswerDetermined (number_call_kinds.ps T laws) (number_call_kinds.r T laws) (number_call.Post T laws)
  number_determined κs a z z' e e' p q = p ∙ sym q

module _ (T : RattleType) (laws : Laws T) (g : PartialEqGhosts T.Denot) (d : Dict) (free : T.lives ≡ []) where
  same_front_asks_nothing : AsksNothing (same_front_kinds.ps T laws) (same_front.Pre T laws g d)
  same_front_asks_nothing κs a = outlives free

  same_front_determined : AnswerDetermined (same_front_kinds.ps T laws) (same_front_kinds.r T laws) (same_front.Post T laws g d)
  same_front_determined κs a z z' e e' p q = p ∙ sym q

-- whatever the items are that a checksum is of, where a number is all that each converts to
module _ (T : RattleType) (laws : Laws T) (copy : IsCopy T) (h : CloneGhosts T.Denot) (e : Dict) (g : IntoGhosts T.Denot ℕ) (d : Dict) (free : T.lives ≡ []) (number : T.Denot → ℕ) (gives : Converts g.converts number) where
  checksum_from_asks_nothing : AsksNothing (checksum_from_kinds.ps T laws copy) (checksum_from.Pre T laws copy h e g d)
  checksum_from_asks_nothing κs a = outlives free

  checksum_from_determined : AnswerDetermined (checksum_from_kinds.ps T laws copy) (checksum_from_kinds.r T laws copy) (checksum_from.Post T laws copy h e g d)
  checksum_from_determined κs a z z' e e' p q = p number gives ∙ sym (q number gives)

  checksum_asks_nothing : AsksNothing (checksum_kinds.ps T laws copy) (checksum.Pre T laws copy h e g d)
  checksum_asks_nothing κs a = outlives free

  checksum_determined : AnswerDetermined (checksum_kinds.ps T laws copy) (checksum_kinds.r T laws copy) (checksum.Post T laws copy h e g d)
  checksum_determined κs a z z' e e' p q = p number gives ∙ sym (q number gives)

-- whatever is read, and whatever runs on each line and may always be called, where both borrow nothing themselves
module _ (T F : RattleType) (laws : Laws T) (laws' : Laws F) (g : ReadGhosts T.Denot) (d : Dict) (h : RunGhosts T F) (e e' e'' : Dict) (free : T.lives ≡ []) (free' : F.lives ≡ []) (always : (run : F.Denot) → always_mut h run) where
  for_each_line_asks_nothing : AsksNothing (for_each_line_kinds.ps T F laws laws') (for_each_line.Pre T F laws laws' g d h e e' e'')
  for_each_line_asks_nothing κs a = (outlives free, (outlives free', always a.1.0))

-- whatever the items are, and whatever the call is and answers that is made on them and may always be made, where all three borrow nothing
-- themselves
module _ (T A F : RattleType) (laws : Laws T) (laws' : Laws A) (laws'' : Laws F) (copy : IsCopy T) (h : CloneGhosts T.Denot) (e : Dict) (g : IntoGhosts T.Denot ℕ) (d : Dict) (k : CallGhosts T A F) (e' e'' : Dict) (free : T.lives ≡ []) (free' : A.lives ≡ []) (free'' : F.lives ≡ []) (always : (call : F.Denot) → always_once k call) where
  on_first_asks_nothing : AsksNothing (on_first_kinds.ps T A F laws laws' laws'' copy) (on_first.Pre T A F laws laws' laws'' copy h e g d k e' e'')
  on_first_asks_nothing κs a = (outlives free, (outlives free', (outlives free'', always a.1.1.0)))
