use Rattle.test_world.proofs.NewWorld.{kept-new}
use Rattle.test_world.proofs.world.World.new.Goals as goal

pub invariant_of-result : goal.invariant_of-result
invariant_of-result c = kept-new _ _ _ _ _ c.requires.limits c.in_ok-new.ensures c.in_ok-new-2.ensures c.in_ok-new-3.ensures.cache
    c.in_ok-new-3.ensures.size c.in_ok-new-4.ensures
