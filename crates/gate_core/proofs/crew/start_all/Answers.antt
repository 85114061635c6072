use Rattle.std.proofs.Common.{rules, ◌≡◌, length, arith}
use Rattle.std.specs.Prelude.{vec_len}
use Rattle.gate_core.proofs.Logs.{no-longer}
use denote.Param.{param}
use denote.Param.Send.{arg_send, param_send}
use denote.Exit.{yes}
use Rattle.gate_core.specs.contracts.worker.Worked as worked
use Rattle.gate_core.proofs.crew.start_all.Lts.{arg-4-3}
use Rattle.gate_core.proofs.Sends.{worked_send}
use Rattle.gate_core.proofs.crew.start_all.Goals as goal

pub returns-in_default-clause-few : goal.returns-in_default-clause-few
returns-in_default-clause-few g c =
    let front = no-longer _ _ c.loop-job.handles.items c.loop-job.yielded c.loop-job.job-iterator.rest.items c.args.jobs.items c.loop-job.invariant.0 c.loop-job.invariant.2 in
    let long : vec_len c.loop-job.handles ≡ length c.loop-job.handles.items = search rules in
    let whole : vec_len c.args.jobs ≡ length c.args.jobs.items = search rules in
    omega (arith, front, long, whole)

pub spawn_with-started-requires-send-T : goal.spawn_with-started-requires-send-T
spawn_with-started-requires-send-T g c κs within =
    let sent = worked_send (param 1 g.row.R) (param 2 g.row.S) (param 3 g.row.O) g.R.Routine g.S.Draws g.O.Draws c.type_bounds.send-R c.type_bounds.send-S c.type_bounds.send-O in
    param_send 3 (arg-4-3 g.row.E g.row.R g.row.S g.row.O g.row.G g.row.W g.E.laws g.R.laws g.S.laws g.O.laws g.G.laws g.W.laws g.R.Routine g.R.Routine-dict g.S.Draws g.S.Draws-dict g.O.Draws g.O.Draws-dict g.G.Stage g.G.Stage-dict g.W.Wait g.W.Wait-dict g.R.Destruct-dict g.S.Destruct-dict g.O.Destruct-dict κs)
    (arg_send _ yes (worked.the_row (param 1 g.row.R) (param 2 g.row.S) (param 3 g.row.O) g.R.Routine g.S.Draws g.O.Draws) sent)
