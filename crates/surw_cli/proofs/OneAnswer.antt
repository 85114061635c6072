-- A command line has one answer.
use Rattle.std.proofs.Common.{◌≡◌, sym, subst, ◌∙◌}
use Rattle.command_words.proofs.Asks.{one-ask}
use Rattle.command_words.specs.Ask.{Ask}
use Rattle.surw_cli.specs.Answer.{Answer}
use Rattle.surw_cli.specs.CommandAnswer.{NoJob, OfJob, Files, IsAskAnswer, IsJobAnswer, OneAnswer, TellsAll, answer_of, saved_name}
use Rattle.surw_cli.specs.FileAnswer.{Coming}
use Rattle.surw_cli.specs.Jobs.{file_limit}
use Rattle.command_words.specs.declared.job.Job.{Job}
use Rattle.command_words.specs.declared.job.Job.TheVariants.{Order, Draws, Plan, Profile, Check, Make, Run, Replay}
use Rattle.surw_cli.proofs.OneDraws.{draws-one}
use Rattle.surw_cli.proofs.OneFile.{MakesOne, file-one}
use Rattle.surw_cli.proofs.OneMake.{make-one}
use Rattle.surw_cli.proofs.OneOrder.{order-one}
use Rattle.surw_cli.proofs.OnePlan.{plan-one}
use Rattle.surw_cli.proofs.OneProfileAnswer.{profile-answer-one}
use Rattle.surw_cli.proofs.OneReplay.{check-one, replay-one}

-- a job makes one answer of the bytes of its file
job-one : (job : Job) (ask : Ask) (second : Coming) → TellsAll second → MakesOne (answer_of job ask second)
job-one Order ask second told bytes answer other is twin = order-one bytes answer other is twin
job-one Draws ask second told bytes answer other is twin = draws-one bytes answer other is twin
job-one Plan ask second told bytes answer other is twin = plan-one ask.choice ask.save bytes answer other is twin
job-one Profile ask second told bytes answer other is twin = profile-answer-one ask.choice bytes answer other is twin
job-one Check ask second told bytes answer other is twin = check-one bytes answer other is twin
job-one Make ask second told bytes answer other is twin = make-one ask.number answer other is twin
job-one Run ask second told bytes answer other is twin = plan-one ask.choice ask.save bytes answer other is twin
job-one Replay ask second told bytes answer other is twin =
    replay-one bytes (second (saved_name ask.saved)) (told (saved_name ask.saved)) answer other is twin

-- and one of what is asked for
ask-answer-one : (job : Job) (ask : Ask) (files : Files) → TellsAll files.first → TellsAll files.second → (answer other : Answer) → IsJobAnswer job ask files answer
    → IsJobAnswer job ask files other → other ≡ answer
ask-answer-one Order ask files first second answer other is twin =
    file-one (file_limit Order) (answer_of Order ask files.second) (job-one Order ask files.second second) (files.first ask.name) (first ask.name) answer other is twin
ask-answer-one Draws ask files first second answer other is twin =
    file-one (file_limit Draws) (answer_of Draws ask files.second) (job-one Draws ask files.second second) (files.first ask.name) (first ask.name) answer other is twin
ask-answer-one Plan ask files first second answer other is twin =
    file-one (file_limit Plan) (answer_of Plan ask files.second) (job-one Plan ask files.second second) (files.first ask.name) (first ask.name) answer other is twin
ask-answer-one Profile ask files first second answer other is twin =
    file-one (file_limit Profile) (answer_of Profile ask files.second) (job-one Profile ask files.second second) (files.first ask.name) (first ask.name) answer other is twin
ask-answer-one Check ask files first second answer other is twin =
    file-one (file_limit Check) (answer_of Check ask files.second) (job-one Check ask files.second second) (files.first ask.name) (first ask.name) answer other is twin
ask-answer-one Make ask files first second answer other is twin = make-one ask.number answer other is twin
ask-answer-one Run ask files first second answer other is twin =
    file-one (file_limit Run) (answer_of Run ask files.second) (job-one Run ask files.second second) (files.first ask.name) (first ask.name) answer other is twin
ask-answer-one Replay ask files first second answer other is twin =
    file-one (file_limit Replay) (answer_of Replay ask files.second) (job-one Replay ask files.second second) (files.first ask.name) (first ask.name) answer other is twin

pub one-answer : OneAnswer
one-answer jobs words files first second answer other (NoJob none is) (NoJob again same) = same ∙ sym is
one-answer jobs words files first second answer other (NoJob none is) (OfJob ask asked made) = absurd (none ask asked)
one-answer jobs words files first second answer other (OfJob ask asked made) (NoJob none same) = absurd (none ask asked)
one-answer jobs words files first second answer other (OfJob ask asked made) (OfJob twin again remade) =
    ask-answer-one ask.job ask files first second answer other made (subst (λ (a : Ask). IsAskAnswer a files other) (one-ask jobs words ask twin asked again) remade)
