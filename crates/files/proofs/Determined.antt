-- For each public function of the crate: it asks nothing of its caller; two answers that its contract allows for one input are equal, and so
-- is what it leaves in the memory that it was lent to write.
use mathlib.Core.Path.{sym, ◌∙◌}
use Rattle.answers.specs.Promises.{AsksNothing, AnswerDetermined, SeenDetermined, Determined}
use Rattle.files.proofs.find.Reads as find
use Rattle.files.proofs.find.Kinds as find_kinds
use Rattle.files.proofs.find_file.Reads as find_file
use Rattle.files.proofs.find_file.Kinds as find_file_kinds
use Rattle.files.proofs.header.Reads as header
use Rattle.files.proofs.header.Kinds as header_kinds
use Rattle.files.proofs.open.Reads as open_call
use Rattle.files.proofs.open.Kinds as open_call_kinds
use Rattle.files.proofs.read.Reads as read
use Rattle.files.proofs.read.Kinds as read_kinds
use Rattle.files.proofs.write.Reads as write
use Rattle.files.proofs.write.Kinds as write_kinds
use Rattle.files.proofs.settings.Reads as settings
use Rattle.files.proofs.settings.Kinds as settings_kinds

find_asks_nothing : AsksNothing find_kinds.ps find.Pre
find_asks_nothing κs a = tt

find_determined : AnswerDetermined find_kinds.ps find_kinds.r find.Post
find_determined κs a z z' e e' p q = p.0 ∙ sym q.0

find_file_asks_nothing : AsksNothing find_file_kinds.ps find_file.Pre
find_file_asks_nothing κs a = tt

find_file_determined : AnswerDetermined find_file_kinds.ps find_file_kinds.r find_file.Post
find_file_determined κs a z z' e e' p q = p.0 ∙ sym q.0

header_asks_nothing : AsksNothing header_kinds.ps header.Pre
header_asks_nothing κs a = tt

header_determined : AnswerDetermined header_kinds.ps header_kinds.r header.Post
header_determined κs a z z' e e' p q = p ∙ sym q

open_asks_nothing : AsksNothing open_call_kinds.ps open_call.Pre
open_asks_nothing κs a = tt

-- what it hands back is a part of its own file: the bytes of the part
open_determined : SeenDetermined open_call_kinds.ps open_call_kinds.r open_call.Post (λ κs z. z.now)
open_determined κs a z z' e e' p q = p ∙ sym q

read_asks_nothing : AsksNothing read_kinds.ps read.Pre
read_asks_nothing κs a = tt

read_determined : Determined read_kinds.ps read_kinds.r read.Post (λ κs e. e.1.0.now)
read_determined κs a z z' e e' p q = (p.0 ∙ sym q.0, p.1 ∙ sym q.1)

write_asks_nothing : AsksNothing write_kinds.ps write.Pre
write_asks_nothing κs a = tt

write_determined : Determined write_kinds.ps write_kinds.r write.Post (λ κs e. e.1.1.1.0.now)
write_determined κs a z z' e e' p q = (p.0 ∙ sym q.0, p.1 ∙ sym q.1)

settings_asks_nothing : AsksNothing settings_kinds.ps settings.Pre
settings_asks_nothing κs a = tt

settings_determined : AnswerDetermined settings_kinds.ps settings_kinds.r settings.Post
settings_determined κs a z z' e e' p q = p.0 ∙ sym q.0
