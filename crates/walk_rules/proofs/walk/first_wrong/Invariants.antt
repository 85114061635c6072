use Rattle.std.proofs.Common.{◌≡◌, ℕ, ◌<◌, false}
use Rattle.walk_rules.specs.Walk.{is_wrong_at}
use Rattle.walk_rules.proofs.walk.first_wrong.Given as goal

abbrev pub invariant-loop-thread : goal.invariant-loop-thread
invariant-loop-thread l = (j : ℕ) → j < l.thread → is_wrong_at l.left l.view j ≡ false
