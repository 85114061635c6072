-- Exactly one journal is the run of a script.
use Rattle.run_rules.specs.Run.{OneRun}
use Rattle.run_rules.specs.Setup.{Script, IsValid}
use Rattle.seed_draws.specs.Answers.{IsSource}
use Rattle.run_rules.proofs.Existence.{HasRun, run-exists}
use Rattle.run_rules.proofs.Uniqueness.{run-unique}

pub one_run : (script : Script) → IsValid script.setup → IsSource script.setup.selected.answers → IsSource script.setup.other.answers → OneRun script
one_run script valid selected other =
    let run : HasRun script = run-exists script valid selected other in
    (run.journal, run.is, λ journal is. run-unique script run.journal journal run.is is)
