-- Jobs, their words, and what words may say of each.
use Rattle.std.specs.Prelude.{ℕ, Bool, true, false, List, codes}
use Rattle.command_words.specs.declared.job.Job.{Job}
use Rattle.command_words.specs.declared.job.Job.TheVariants.{Order, Draws, Plan, Profile, Check, Make, Run, Replay}

-- the word of a job
abbrev pub job_word : Job → List ℕ
job_word Order = codes "order"
job_word Draws = codes "draws"
job_word Plan = codes "plan"
job_word Profile = codes "profile"
job_word Check = codes "check"
job_word Make = codes "make"
job_word Run = codes "run"
job_word Replay = codes "replay"

-- a job reads a saved file beside its first
abbrev pub reads_saved : Job → Bool
reads_saved Replay = true
reads_saved job = false

-- what a job makes can be saved
abbrev pub can_save : Job → Bool
can_save Plan = true
can_save Run = true
can_save job = false

-- the strategy and the depth of a job's scenario can be chosen
abbrev pub can_choose : Job → Bool
can_choose Plan = true
can_choose Run = true
can_choose job = false

-- the seed of a job's scenario can be chosen
abbrev pub can_seed : Job → Bool
can_seed Plan = true
can_seed Profile = true
can_seed Run = true
can_seed job = false
