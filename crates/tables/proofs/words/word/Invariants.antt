-- No name before the rest of the line begins with the letter.
use Rattle.std.proofs.Common.{◌≡◌, length}
use Rattle.tables.specs.Words.{word_of}
use Rattle.tables.proofs.words.word.Given as goal

abbrev pub invariant-loop-behind_it : goal.invariant-loop-behind_it
invariant-loop-behind_it l = word_of l.letter l.line ≡ word_of l.letter l.rest

abbrev pub decreases-loop-behind_it : goal.decreases-loop-behind_it
decreases-loop-behind_it l = length l.rest
