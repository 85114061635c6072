use Rattle.std.proofs.Common.{arith}
use Rattle.std.proofs.lemmas.Grind.{common_steps}
use Rattle.std.proofs.lemmas.Result.{err_from_is_err_and}
use Rattle.std.proofs.lemmas.List.Elements.{All-push}
use Rattle.test_world.specs.Monitor.{CanWatch}
use Rattle.scenario_toml.proofs.Items.{monitors-more, monitors-fault, monitors-all}
use Rattle.scenario_toml.proofs.read.monitors.monitors_of.Goals as goal

pub returns-in_err-monitor_of-clause-fault : goal.returns-in_err-monitor_of-clause-fault
returns-in_err-monitor_of-clause-fault c =
    let p = err_from_is_err_and c.from_residual-in_err-monitor_of.result c.from_residual-in_err-monitor_of.ensures.1 in
    rw (p.1, p.2) (monitors-fault c.args.cells c.args.watches.now c.loop-place.place _ c.loop-place.monitors.items _ _
    c.loop-place-test.true c.in_err-monitor_of.ensures.fault c.loop-place.invariant.so_far)

pub loop-place-preserved : goal.loop-place-preserved
loop-place-preserved c = record {
  so_far = rw c.in_ok-push.ensures.items (monitors-more c.args.cells c.args.watches.now c.loop-place.place _ c.loop-place.monitors.items _ _
      c.loop-place-test.true c.in_ok-monitor_of.ensures.ok c.loop-place.invariant.so_far);
  watched = λ size same. rw c.in_ok-push.ensures.items (All-push (CanWatch size) c.loop-place.monitors.items _ (c.loop-place.invariant.watched size same) (c.in_ok-monitor_of.ensures.watched size same));
  many = grind (arith, common_steps);
}

pub returns-clause-ok : goal.returns-clause-ok
returns-clause-ok c = monitors-all c.args.cells c.args.watches.now c.loop-place.place c.loop-place.monitors.items _ c.loop-place-test.false c.loop-place.invariant.so_far
