use Rattle.std.proofs.Common.{◌≡◌, ◌-◌, ◌≤◌, ◌++◌, length, take, replicate}
use Rattle.surw_base.specs.declared.limits.TheConstants.{THREADS}
use Rattle.pure_run.specs.declared.word.Word.TheVariants.{Due}
use Rattle.pure_run.specs.Inline.{said_by}
use Rattle.pure_run.proofs.inline.say_first_words.Given as goal

abbrev pub invariant-loop-thread : goal.invariant-loop-thread
invariant-loop-thread g l = record {
  core : l.core ≡ record l.initial.core { words = said_by g.R.Routine (take l.thread l.routines) ++ replicate (length l.routines - l.thread) Due };
  few : length l.routines ≤ THREADS;
}
