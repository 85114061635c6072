use Rattle.std.proofs.Common.{◌≡◌, ◌≢◌, ℕ, List, sym, subst, ◌∙◌}
use Rattle.command_words.specs.Ask.{ask_by}
use Rattle.command_words.specs.declared.job.Job.TheVariants.{Make}
use Rattle.surw_cli.specs.CommandAnswer.{Files, answer_to}
use Rattle.surw_cli.specs.FileAnswer.{Coming, HasFile}
use Rattle.surw_cli.specs.Jobs.{file_limit}
use Rattle.surw_cli.specs.Reached.{ComesTo}
use Rattle.surw_cli.proofs.Comes.{comes-over}
use Rattle.surw_cli.proofs.jobs.report_on_threads.Goals.{in-Make, in_default}
use Rattle.surw_cli.proofs.jobs.report_on_threads.Goals as goal

pub returns-in-Ok-clause-comes : goal.returns-in-Ok-clause-comes
returns-in-Ok-clause-comes g c =
    let ask = ask_by c.args.ask.now in
    let files : Files = record { first = g.F.Shelf.coming c.args.shelf.now; second = g.F.Shelf.coming_after c.args.shelf.now } in
    let other : ask.job ≢ Make = elim c.match-matches.branch [
      | in-Make w ↦ λ is. cc (sym w.matches-is ∙ c.if-matches.false)
      | in_default w ↦ λ is. w.in_default.not-Make is
    ] in
    let bytes = c.as_slice.result.now in
    let now = g.F.Shelf.in_faults c.report_over_on_threads.new.shelf in
    let result = c.report_over_on_threads.result in
    let held = subst (λ (limit : ℕ). HasFile limit (files.first ask.name) c.in-Ok.bytes.items) c.file_limit.ensures.limit c.in-Ok.ensures.held in
    let file = subst (λ (bytes : List ℕ). HasFile (file_limit ask.job) (files.first ask.name) bytes) (sym c.as_slice.ensures.value) held in
    let second : g.F.Shelf.coming c.fetched.new.shelf ≡ files.second = λ i name. c.in-Ok.ensures.moves name i in
    let here = subst (λ (coming : Coming). ComesTo (answer_to ask coming bytes) (g.F.Shelf.in_faults c.fetched.new.shelf) now result) second c.report_over_on_threads.ensures.comes in
    let comes = subst (λ (before : ℕ). ComesTo (answer_to ask files.second bytes) before now result) c.in-Ok.ensures.calm here in
    comes-over ask files bytes _ now result other file comes
