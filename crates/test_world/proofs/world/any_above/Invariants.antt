use Rattle.std.proofs.Common.{◌≡◌, drop}
use Rattle.std.specs.List.{list_any}
use Rattle.test_world.specs.Monitor.{is_above}
use Rattle.test_world.proofs.world.any_above.Given as goal

abbrev pub invariant-loop-page : goal.invariant-loop-page
invariant-loop-page l = list_any (is_above l.mark) (drop l.page l.cache.disk) ≡ list_any (is_above l.mark) l.cache.disk
