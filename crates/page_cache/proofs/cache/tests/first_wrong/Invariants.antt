use Rattle.page_cache.specs.Cache.{HasSameSize}
use Rattle.page_cache.proofs.cache.tests.first_wrong.Given as goal

abbrev pub invariant-loop-i : goal.invariant-loop-i
invariant-loop-i l = HasSameSize l.fn.cache l.cache
