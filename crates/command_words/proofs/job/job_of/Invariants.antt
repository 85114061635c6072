use Rattle.std.proofs.Common.{◌≡◌, ◌<◌, ℕ, get_or}
use Rattle.command_words.specs.Job.{job_word}
use Rattle.command_words.specs.declared.job.Job.{Job}
use Rattle.command_words.proofs.job.job_of.Given as goal

abbrev pub invariant-loop-job : goal.invariant-loop-job
invariant-loop-job l = (k : ℕ) → k < l.job-index → (d : Job) → l.word ≡ job_word (get_or l.jobs k d) → ⊥
