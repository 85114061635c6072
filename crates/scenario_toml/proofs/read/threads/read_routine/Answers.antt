use Rattle.scenario_toml.proofs.UnknownKinds.{kind-unknown}
use Rattle.toml.specs.View.{table_view}
use Rattle.scenario_toml.proofs.read.threads.read_routine.Goals as goal

pub returns-in_ok-key-in_default-clause-fault : goal.returns-in_ok-key-in_default-clause-fault
returns-in_ok-key-in_default-clause-fault c =
    let d = c.in_default in
    kind-unknown c.args.path.now c.in_ok-kind.kind.now c.as_bytes.result.now c.in_ok-key-in_default.key (table_view c.args.table.now) c.not_named.result c.in_ok-kind.ensures.ok
    (d.not-steps, (d.not-adder, (d.not-cache_user, (d.not-flusher, (d.not-log_writer, tt))))) c.as_bytes.ensures.value c.in_ok-key-in_default.ensures c.not_named.ensures
