use Rattle.std.proofs.Common.{rules, ◌≡◌, Some, IsSome, ◌⊎◌, inl, inr, false}
use Rattle.command_words.specs.Given.{given_by}
use Rattle.command_words.specs.Job.{can_choose, can_seed}
use Rattle.command_words.proofs.Asks.{chosen-none, seeded-none}
use Rattle.command_words.proofs.ask.ask_of.Goals as goal
use Rattle.command_words.proofs.ask.ask_of.Goals.{then-is_some-2, else-is_some-2}

pub returns-then-not-can_choose : goal.returns-then-not-can_choose
returns-then-not-can_choose c = λ words is ask asks.
    let strategy = c.in_ok-strategy.strategy in
    let depth = c.in_ok-depth.depth in
    let there : (given_by c.args.given.now).job ≡ Some c.in_ok-given.field-0.now = search rules in
    let some : IsSome strategy ⊎ IsSome depth = elim c.if-is_some-2.branch [ then-is_some-2 w ↦ inl (search rules) | else-is_some-2 w ↦ inr (search rules) ] in
    let not : can_choose c.in_ok-job.job ≡ false = search rules in
    chosen-none c.args.jobs.now words (given_by c.args.given.now) ask c.in_ok-given.field-0.now c.in_ok-job.job strategy depth
    is asks there c.in_ok-job.ensures.1 c.in_ok-strategy.ensures c.in_ok-depth.ensures some not

pub returns-then-not-can_seed : goal.returns-then-not-can_seed
returns-then-not-can_seed c = λ words is ask asks.
    let there : (given_by c.args.given.now).job ≡ Some c.in_ok-given.field-0.now = search rules in
    let some : IsSome c.in_ok-seed.seed = search rules in
    let not : can_seed c.in_ok-job.job ≡ false = search rules in
    seeded-none c.args.jobs.now words (given_by c.args.given.now) ask c.in_ok-given.field-0.now c.in_ok-job.job c.in_ok-seed.seed
    is asks there c.in_ok-job.ensures.1 c.in_ok-seed.ensures some not
