use Rattle.std.proofs.Common.{◌≡◌, map, take, length}
use Rattle.pure_run.specs.Core.{last_word}
use Rattle.pure_run.proofs.history.last_words.Given as goal

abbrev pub invariant-loop-word : goal.invariant-loop-word
invariant-loop-word l = (l.last.items ≡ map last_word (take l.word-index l.words)) × (length l.last.items ≡ l.word-index)
