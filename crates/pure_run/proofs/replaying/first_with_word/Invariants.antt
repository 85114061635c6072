use Rattle.std.proofs.Common.{◌≡◌, ℕ, ◌<◌, false}
use Rattle.pure_run.proofs.FirstWords.{has_word_at}
use Rattle.pure_run.proofs.replaying.first_with_word.Given as goal

abbrev pub invariant-loop-thread : goal.invariant-loop-thread
invariant-loop-thread l = (j : ℕ) → j < l.thread → has_word_at l.words j ≡ false
