-- A replay of a journal: the same world, threads, monitors and step limit, under the rule that asks for its entries.
use Rattle.std.specs.Prelude.{◌≡◌, ℕ, ◌≤◌, false, List, [], ◌∷◌, length, map, Option, None, Some}
use Rattle.walk_rules.specs.declared.asked.Asked.{Asked}
use Rattle.walk_rules.specs.declared.rule.Rule.TheVariants.{Follow}
use Rattle.run_rules.specs.declared.entry.Entry.{Entry}
use Rattle.run_rules.specs.declared.verdict.Verdict.{Verdict}
use Rattle.run_rules.specs.declared.verdict.Verdict.TheVariants.{Ended, Deadlock, StepLimit}
use Rattle.run_rules.specs.LegalJournal.{IsLegal}
use Rattle.run_rules.specs.Position.{Position, position_of, world_at}
use Rattle.run_rules.specs.Run.{IsRunJournal}
use Rattle.run_rules.specs.Setup.{Script}
use Rattle.run_rules.specs.Verdict.{deadlock, end_of_threads, first_of, left_over, step_limit, verdict_at}

-- no thread past the others says anything
abbrev pub SpeaksWithin : Script → Type 0
SpeaksWithin script = (thread : ℕ) (replies : List ℕ) → script.setup.threads ≤ thread → script.says thread replies ≡ None

-- the thread and the event of each entry
abbrev pub entries_asked : List Entry → List Asked
entries_asked journal = map {A = Entry} (λ entry. record { thread = entry.thread; event = entry.event }) journal

-- the journal with no entry forced
abbrev pub unforced : List Entry → List Entry
unforced journal = map (λ (entry : Entry). record entry { forced = false }) journal

-- a script replays a journal of another: it has the same world, threads, monitors and step limit, and asks for the
-- entries. Selection, counts and draws are free
pub record IsReplayOf (script : Script) (journal : List Entry) (replay : Script) : Type 0 where
  pub size : replay.setup.size ≡ script.setup.size
  pub threads : replay.setup.threads ≡ script.setup.threads
  pub says : replay.says ≡ script.says
  pub monitors : replay.setup.monitors ≡ script.setup.monitors
  pub max_steps : replay.setup.max_steps ≡ script.setup.max_steps
  pub rule : replay.setup.rule ≡ Follow (entries_asked journal)

-- the verdict at the end of the list
abbrev pub verdict_at_end : Script → Position → Option Verdict
verdict_at_end replay x =
    first_of
    (end_of_threads x
    ∷ step_limit replay.setup x
    ∷ deadlock replay.setup x
    ∷ left_over (length x.journal) x.words (Some [])
    ∷ [])

-- the run of a replay is the journal, with no entry forced, and leads to the same world and the same last words; its
-- verdict is that at the end of the list
pub record Repeats (script : Script) (journal : List Entry) (replay : Script) : Type 0 where
  pub run : IsRunJournal replay (unforced journal)
  pub world : world_at replay.setup (position_of replay (unforced journal)) ≡ world_at script.setup (position_of script journal)
  pub words : (position_of replay (unforced journal)).words ≡ (position_of script journal).words
  pub verdict : verdict_at replay.setup (position_of replay (unforced journal))
      ≡ verdict_at_end replay (position_of replay (unforced journal))

-- a verdict that a replay has too
abbrev pub IsKeptVerdict : Verdict → Type 0
IsKeptVerdict Ended = Unit {0}
IsKeptVerdict (StepLimit step) = Unit {0}
IsKeptVerdict (Deadlock step) = Unit {0}
IsKeptVerdict _ = ⊥

-- each replay of a legal journal within the step limit repeats it; and where the verdict behind the journal is that every
-- thread has ended, the step limit or a deadlock, as it can be where the journal is the run, the replay has that verdict
abbrev pub ReplaysRepeat : Script → Type 0
ReplaysRepeat script =
    (journal : List Entry) (replay : Script) → IsLegal script journal → length journal ≤ script.setup.max_steps → IsReplayOf script journal replay
    → Repeats script journal replay
    × ((verdict : Verdict) → verdict_at script.setup (position_of script journal) ≡ Some verdict → IsKeptVerdict verdict
    → verdict_at replay.setup (position_of replay (unforced journal)) ≡ Some verdict)
