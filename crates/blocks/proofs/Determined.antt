-- For each public function of the crate: it asks nothing of its caller; two answers that its contract allows for one input are equal, and so
-- is what it leaves in the memory that it was lent to write.
use mathlib.Core.Path.{sym, ◌∙◌}
use Rattle.answers.specs.Promises.{AsksNothing, AnswerDetermined, Determined}
use Rattle.blocks.proofs.compressed_block_size.Reads as compressed_block_size
use Rattle.blocks.proofs.compressed_block_size.Kinds as compressed_block_size_kinds
use Rattle.blocks.proofs.compress.Reads as compress
use Rattle.blocks.proofs.compress.Kinds as compress_kinds
use Rattle.blocks.proofs.decompress.Reads as decompress
use Rattle.blocks.proofs.decompress.Kinds as decompress_kinds
use Rattle.blocks.proofs.num_bits.Reads as num_bits
use Rattle.blocks.proofs.num_bits.Kinds as num_bits_kinds

compressed_block_size_asks_nothing : AsksNothing compressed_block_size_kinds.ps compressed_block_size.Pre
compressed_block_size_asks_nothing κs a = tt

compressed_block_size_determined : AnswerDetermined compressed_block_size_kinds.ps compressed_block_size_kinds.r compressed_block_size.Post
compressed_block_size_determined κs a z z' e e' p q = p ∙ sym q

compress_asks_nothing : AsksNothing compress_kinds.ps compress.Pre
compress_asks_nothing κs a = tt

compress_determined : Determined compress_kinds.ps compress_kinds.r compress.Post (λ κs e. e.1.1.1.0.now)
compress_determined κs a z z' e e' p q = (p.0 ∙ sym q.0, p.1 ∙ sym q.1)

decompress_asks_nothing : AsksNothing decompress_kinds.ps decompress.Pre
decompress_asks_nothing κs a = tt

decompress_determined : Determined decompress_kinds.ps decompress_kinds.r decompress.Post (λ κs e. e.1.1.1.0.now)
decompress_determined κs a z z' e e' p q = (p.0 ∙ sym q.0, p.1 ∙ sym q.1)

num_bits_asks_nothing : AsksNothing num_bits_kinds.ps num_bits.Pre
num_bits_asks_nothing κs a = tt

num_bits_determined : AnswerDetermined num_bits_kinds.ps num_bits_kinds.r num_bits.Post
num_bits_determined κs a z z' e e' p q = p ∙ sym q
