use Rattle.std.proofs.Common.{◌≡◌, replicate, length}
use Rattle.pure_run.specs.declared.word.Word.TheVariants.{Due}
use Rattle.pure_run.proofs.history.due_words.Given as goal

abbrev pub invariant-loop-thread : goal.invariant-loop-thread
invariant-loop-thread l = (l.words.items ≡ replicate l._thread Due) × (length l.words.items ≡ l._thread)
