use Rattle.std.proofs.Common.{length, ap, ◌∙◌}
use Rattle.surw_cli.proofs.ProfileStops.{profiled-each}
use Rattle.surw_cli.proofs.jobs.counts.counts_of.Goals as goal

pub returns-in_ok-found-in-Profile-clause-each : goal.returns-in_ok-found-in-Profile-clause-each
returns-in_ok-found-in-Profile-clause-each c =
    let found = c.in_ok-found-in-Profile.found in
    ap length c.counted.ensures ∙ profiled-each c.args.scenario.now c.seed.result found.selected found.all c.strategy-strategy.result c.in_ok-found-in-Profile.ensures.found
