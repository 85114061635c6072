use Rattle.std.proofs.Common.{List, ℕ, sym, subst}
use Rattle.command_words.specs.Ask.{ask_by}
use Rattle.surw_cli.specs.CommandAnswer.{answer_of}
use Rattle.surw_cli.specs.Reached.{ComesTo}
use Rattle.surw_cli.specs.ReplayAnswer.{IsReplayAnswer}
use Rattle.command_words.specs.declared.job.Job.{Job}
use Rattle.surw_cli.proofs.jobs.report_over_on_threads.Goals as goal

pub returns-in-Replay-clause-comes : goal.returns-in-Replay-clause-comes
returns-in-Replay-clause-comes g c =
    let ask = ask_by c.args.ask.now in
    let second = g.F.Shelf.coming c.args.shelf.now in
    let before = g.F.Shelf.in_faults c.args.shelf.now in
    let now = g.F.Shelf.in_faults c.report_of_gated_replay.new.shelf in
    let named = subst (λ (name : List ℕ). ComesTo (IsReplayAnswer c.args.bytes.now (second name)) before now c.report_of_gated_replay.result) c.saved_name.ensures c.report_of_gated_replay.ensures.comes in
    subst (λ (job : Job). ComesTo (answer_of job ask second c.args.bytes.now) before now c.report_of_gated_replay.result) (sym c.in-Replay.is) named
