-- Saved runs.
use Rattle.std.specs.Prelude.{◌≡◌, ℕ, ◌<◌, ◌≤◌, List, All, length}
use Rattle.hex.specs.Hex.{IsBytes}
use Rattle.surw_base.specs.declared.limits.TheConstants.{THREADS, STEPS}
use Rattle.event_class.specs.Event.{AreSmall, numbers_of}
use Rattle.walk_rules.specs.declared.asked.Asked.{Asked}

-- the name of a scenario, and the entries of a run
pub record SavedRun : Type 0 where
  pub name : List ℕ
  pub entries : List Asked

-- 32 bytes
pub record IsName (name : List ℕ) : Type 0 where
  pub long : length name ≡ 32
  pub bytes : IsBytes name

-- the thread is below `THREADS`, and the numbers of the event are below 2 ^ 64
pub record IsEntry (entry : Asked) : Type 0 where
  pub thread : entry.thread < THREADS
  pub numbers : AreSmall (numbers_of entry.event)

-- a name of 32 bytes, and at most `STEPS` entries
pub record IsSavedRun (saved : SavedRun) : Type 0 where
  pub named : IsName saved.name
  pub few : length saved.entries ≤ STEPS
  pub each : All IsEntry saved.entries
