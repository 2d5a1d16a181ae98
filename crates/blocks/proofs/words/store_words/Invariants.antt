-- The loop's invariant: the words of the first l lanes are stored.
use Rattle.blocks.specs.kernel.Places.{WordsStored}
use Rattle.blocks.proofs.words.store_words.Given as goal

abbrev pub invariant-loop-l : goal.invariant-loop-l
invariant-loop-l l = WordsStored l.first l.l l.fn.row l.fn.out l.out
