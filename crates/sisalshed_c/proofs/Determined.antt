-- For each public function of the crate: it asks nothing of its caller; two answers that its contract allows for one input are equal, and so
-- is what it leaves in the memory that it was lent to write.
use mathlib.Core.Path.{sym, ◌∙◌}
use Rattle.answers.specs.Promises.{AsksNothing, AnswerDetermined, Determined}
use Rattle.sisalshed_c.proofs.sisalshed_compressed_block_size.Reads as sisalshed_compressed_block_size
use Rattle.sisalshed_c.proofs.sisalshed_compressed_block_size.Kinds as sisalshed_compressed_block_size_kinds
use Rattle.sisalshed_c.proofs.sisalshed_compress.Reads as sisalshed_compress
use Rattle.sisalshed_c.proofs.sisalshed_compress.Kinds as sisalshed_compress_kinds
use Rattle.sisalshed_c.proofs.sisalshed_decompress.Reads as sisalshed_decompress
use Rattle.sisalshed_c.proofs.sisalshed_decompress.Kinds as sisalshed_decompress_kinds
use Rattle.sisalshed_c.proofs.sisalshed_num_bits.Reads as sisalshed_num_bits
use Rattle.sisalshed_c.proofs.sisalshed_num_bits.Kinds as sisalshed_num_bits_kinds
use Rattle.sisalshed_c.proofs.sisalshed_measure_list.Reads as sisalshed_measure_list
use Rattle.sisalshed_c.proofs.sisalshed_measure_list.Kinds as sisalshed_measure_list_kinds
use Rattle.sisalshed_c.proofs.sisalshed_write_list.Reads as sisalshed_write_list
use Rattle.sisalshed_c.proofs.sisalshed_write_list.Kinds as sisalshed_write_list_kinds
use Rattle.sisalshed_c.proofs.sisalshed_read_list.Reads as sisalshed_read_list
use Rattle.sisalshed_c.proofs.sisalshed_read_list.Kinds as sisalshed_read_list_kinds
use Rattle.sisalshed_c.proofs.sisalshed_header.Reads as sisalshed_header
use Rattle.sisalshed_c.proofs.sisalshed_header.Kinds as sisalshed_header_kinds
use Rattle.sisalshed_c.proofs.sisalshed_body.Reads as sisalshed_body
use Rattle.sisalshed_c.proofs.sisalshed_body.Kinds as sisalshed_body_kinds
use Rattle.sisalshed_c.proofs.sisalshed_read_file.Reads as sisalshed_read_file
use Rattle.sisalshed_c.proofs.sisalshed_read_file.Kinds as sisalshed_read_file_kinds
use Rattle.sisalshed_c.proofs.sisalshed_write_file.Reads as sisalshed_write_file
use Rattle.sisalshed_c.proofs.sisalshed_write_file.Kinds as sisalshed_write_file_kinds

sisalshed_compressed_block_size_asks_nothing : AsksNothing sisalshed_compressed_block_size_kinds.ps sisalshed_compressed_block_size.Pre
sisalshed_compressed_block_size_asks_nothing κs a = tt

sisalshed_compressed_block_size_determined : AnswerDetermined sisalshed_compressed_block_size_kinds.ps sisalshed_compressed_block_size_kinds.r sisalshed_compressed_block_size.Post
sisalshed_compressed_block_size_determined κs a z z' e e' p q = p ∙ sym q

sisalshed_compress_asks_nothing : AsksNothing sisalshed_compress_kinds.ps sisalshed_compress.Pre
sisalshed_compress_asks_nothing κs a = tt

sisalshed_compress_determined : Determined sisalshed_compress_kinds.ps sisalshed_compress_kinds.r sisalshed_compress.Post (λ κs e. e.1.1.1.1.0.now)
sisalshed_compress_determined κs a z z' e e' p q = (p.0 ∙ sym q.0, p.1 ∙ sym q.1)

sisalshed_decompress_asks_nothing : AsksNothing sisalshed_decompress_kinds.ps sisalshed_decompress.Pre
sisalshed_decompress_asks_nothing κs a = tt

sisalshed_decompress_determined : Determined sisalshed_decompress_kinds.ps sisalshed_decompress_kinds.r sisalshed_decompress.Post (λ κs e. e.1.1.1.1.0.now)
sisalshed_decompress_determined κs a z z' e e' p q = (p.0 ∙ sym q.0, p.1 ∙ sym q.1)

sisalshed_num_bits_asks_nothing : AsksNothing sisalshed_num_bits_kinds.ps sisalshed_num_bits.Pre
sisalshed_num_bits_asks_nothing κs a = tt

sisalshed_num_bits_determined : AnswerDetermined sisalshed_num_bits_kinds.ps sisalshed_num_bits_kinds.r sisalshed_num_bits.Post
sisalshed_num_bits_determined κs a z z' e e' p q = p ∙ sym q

sisalshed_measure_list_asks_nothing : AsksNothing sisalshed_measure_list_kinds.ps sisalshed_measure_list.Pre
sisalshed_measure_list_asks_nothing κs a = tt

sisalshed_measure_list_determined : AnswerDetermined sisalshed_measure_list_kinds.ps sisalshed_measure_list_kinds.r sisalshed_measure_list.Post
sisalshed_measure_list_determined κs a z z' e e' p q = p ∙ sym q

sisalshed_write_list_asks_nothing : AsksNothing sisalshed_write_list_kinds.ps sisalshed_write_list.Pre
sisalshed_write_list_asks_nothing κs a = tt

sisalshed_write_list_determined : Determined sisalshed_write_list_kinds.ps sisalshed_write_list_kinds.r sisalshed_write_list.Post (λ κs e. e.1.1.1.1.0.now)
sisalshed_write_list_determined κs a z z' e e' p q = (p.0 ∙ sym q.0, p.1 ∙ sym q.1)

sisalshed_read_list_asks_nothing : AsksNothing sisalshed_read_list_kinds.ps sisalshed_read_list.Pre
sisalshed_read_list_asks_nothing κs a = tt

sisalshed_read_list_determined : Determined sisalshed_read_list_kinds.ps sisalshed_read_list_kinds.r sisalshed_read_list.Post (λ κs e. e.1.1.1.1.1.0.now)
sisalshed_read_list_determined κs a z z' e e' p q = (p.0 ∙ sym q.0, p.1 ∙ sym q.1)

sisalshed_header_asks_nothing : AsksNothing sisalshed_header_kinds.ps sisalshed_header.Pre
sisalshed_header_asks_nothing κs a = tt

sisalshed_header_determined : AnswerDetermined sisalshed_header_kinds.ps sisalshed_header_kinds.r sisalshed_header.Post
sisalshed_header_determined κs a z z' e e' p q = p ∙ sym q

sisalshed_body_asks_nothing : AsksNothing sisalshed_body_kinds.ps sisalshed_body.Pre
sisalshed_body_asks_nothing κs a = tt

sisalshed_body_determined : AnswerDetermined sisalshed_body_kinds.ps sisalshed_body_kinds.r sisalshed_body.Post
sisalshed_body_determined κs a z z' e e' p q = p ∙ sym q

sisalshed_read_file_asks_nothing : AsksNothing sisalshed_read_file_kinds.ps sisalshed_read_file.Pre
sisalshed_read_file_asks_nothing κs a = tt

sisalshed_read_file_determined : Determined sisalshed_read_file_kinds.ps sisalshed_read_file_kinds.r sisalshed_read_file.Post (λ κs e. e.1.0.now)
sisalshed_read_file_determined κs a z z' e e' p q = (p.0 ∙ sym q.0, p.1 ∙ sym q.1)

sisalshed_write_file_asks_nothing : AsksNothing sisalshed_write_file_kinds.ps sisalshed_write_file.Pre
sisalshed_write_file_asks_nothing κs a = tt

sisalshed_write_file_determined : Determined sisalshed_write_file_kinds.ps sisalshed_write_file_kinds.r sisalshed_write_file.Post (λ κs e. e.1.1.1.1.0.now)
sisalshed_write_file_determined κs a z z' e e' p q = (p.0 ∙ sym q.0, p.1 ∙ sym q.1)
