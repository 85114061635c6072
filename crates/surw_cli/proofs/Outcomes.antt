-- What the jobs `plan` and `run` make of a plan.
use Rattle.std.proofs.Common.{◌≡◌, ℕ, List, Option, None, ap, sym, subst, ◌∙◌}
use Rattle.std.specs.Option.{option_map}
use Rattle.routine_kit.specs.declared.any_routine.AnyRoutine.{AnyRoutine}
use Rattle.run_rules.specs.Run.{IsRun, Outcome}
use Rattle.run_rules.specs.declared.plan.Plan.{Plan}
use Rattle.scenario_toml.specs.declared.choice.Choice.{Choice}
use Rattle.seed_draws.specs.declared.any_draws.AnyDraws.{AnyDraws}
use Rattle.selected_order.specs.KeepsOrder.{KeepsOrder}
use Rattle.surw_io.specs.Content.{Entry}
use Rattle.surw_cli.specs.Answer.{Answer}
use Rattle.surw_cli.specs.Answer as answer
use Rattle.surw_cli.specs.FileAnswer.{Held}
use Rattle.surw_cli.specs.PlanAnswer.{plan_answer}
use Rattle.surw_cli.specs.Planned.{IsPlanned}
use Rattle.surw_cli.specs.Reached.{TellsRun, report_answer, to_create}
use Rattle.surw_cli.specs.ReplayAnswer.{IsReplayAnswer, IsReplayReport, IsReplayed, OfSaved, replayed_answer}
use Rattle.surw_cli.specs.Saved.{saved_file}
use Rattle.surw_cli.specs.Script.{script}
use Rattle.surw_cli.specs.Stop.{IsStopOf}
use Rattle.surw_cli.specs.declared.report.Report.{Report}
use Rattle.surw_cli.specs.declared.report.SavedFile.{SavedFile}
use Rattle.surw_cli.specs.declared.stop.Stop.{Stop}
use Rattle.surw_cli.specs.declared.stop.Stop.TheVariants.{OutOfMemory}

-- the report of its run is the answer
pub run-report : (choice : Choice) (save : Option (List ℕ)) (bytes : List ℕ) (plan : Plan AnyRoutine AnyDraws AnyDraws) (outcome : Outcome) (saved : Option SavedFile) (report : Report)
    → IsPlanned choice bytes plan → IsRun (script plan) outcome → KeepsOrder (script plan) outcome → option_map to_create saved ≡ saved_file save bytes outcome.journal
    → TellsRun outcome saved report → plan_answer choice save bytes (report_answer report)
run-report choice save bytes plan outcome saved report planned run order file tells = record {
  scenario = planned.scenario;
  form = planned.form;
  outcome = outcome;
  run = record {
    counts = planned.counts;
    counted = planned.counted;
    plan = plan;
    planned = planned.planned;
    run = run;
    order = order;
  };
  printed = tells.printed;
  ends = tells.ends;
  kept = ap (λ (s : Option SavedFile). option_map to_create s) tells.kept ∙ file;
}

-- and so is that of a replay, which saves nothing
pub replay-report : (bytes : List ℕ) (coming : Option Entry) (plan : Plan AnyRoutine AnyDraws AnyDraws) (outcome : Outcome) (report : Report) → IsReplayed bytes coming plan
    → IsRun (script plan) outcome → TellsRun outcome None report → IsReplayAnswer bytes coming (report_answer report)
replay-report bytes coming plan outcome report is run tells =
    let made : IsReplayReport bytes is.scenario is.saved_bytes report.status report.text.items = record {
      plan = plan;
      planned = is.planned;
      outcome = outcome;
      run = run;
      printed = tells.printed;
      ends = tells.ends;
    } in
    OfSaved is.scenario is.form
    (Held is.saved_bytes is.file
    (subst (λ (s : Option SavedFile). replayed_answer bytes is.scenario is.saved_bytes (answer.Report report.status report.text.items (option_map to_create s)))
    (sym tells.kept) made))

-- a run's report stops only where memory is refused
pub run-stop : (P : Answer → Type 0) (stop : Stop) → stop ≡ OutOfMemory → IsStopOf P stop
run-stop P stop none = subst (λ (s : Stop). IsStopOf P s) (sym none) tt
