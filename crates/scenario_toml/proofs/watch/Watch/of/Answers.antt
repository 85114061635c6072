use Rattle.scenario_toml.proofs.Watches.{watch-read}
use Rattle.scenario_toml.proofs.watch.Watch.of.Goals as goal

pub returns : goal.returns
returns c = watch-read c.args.text.now c.read_watch.result c.read_watch.ensures.found c.read_watch.ensures.only
