-- The jobs that a call does, and the files that they read.
use Rattle.std.specs.Prelude.{ℕ, List, [], ◌∷◌}
use Rattle.command_words.specs.declared.job.Job.{Job}
use Rattle.command_words.specs.declared.job.Job.TheVariants.{Order, Draws, Plan, Profile, Check, Make, Run, Replay}
use Rattle.surw_base.specs.declared.limits.TheConstants.{FILE_LIMIT, SAVED_LIMIT}

-- the jobs that are done on the caller's own thread
abbrev pub plain_jobs : List Job
plain_jobs = Order ∷ Draws ∷ Plan ∷ Profile ∷ Check ∷ Make ∷ []

-- those, and the ones that are done on threads of their own
abbrev pub all_jobs : List Job
all_jobs = Order ∷ Draws ∷ Plan ∷ Profile ∷ Check ∷ Make ∷ Run ∷ Replay ∷ []

-- the most bytes of a job's file
abbrev pub file_limit : Job → ℕ
file_limit Check = SAVED_LIMIT
file_limit job = FILE_LIMIT
