use Rattle.seed_draws.specs.Seeded.{generator_at}
use Rattle.seed_draws.proofs.seeded.Seeded.new.Goals as goal

pub invariant_of-result : goal.invariant_of-result
unfolding generator_at
invariant_of-result c = λ _. cc
