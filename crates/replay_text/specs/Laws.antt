-- What holds between saved runs and texts.
use Rattle.std.specs.Prelude.{◌≡◌, ◌↔◌, ℕ, List, Ok, Err}
use Rattle.replay_text.specs.declared.replay_fault.ReplayFault.{ReplayFault}
use Rattle.replay_text.specs.FirstFault.{IsFault}
use Rattle.replay_text.specs.Reading.{saved_of}
use Rattle.replay_text.specs.SavedRun.{IsSavedRun, SavedRun}
use Rattle.replay_text.specs.SavedText.{saved_text}

-- a text reads as a run within the limits exactly where it is that run's text
abbrev pub EachHasOneText : Type 0
EachHasOneText = (saved : SavedRun) (text : List ℕ) → IsSavedRun saved → (saved_of text ≡ Ok saved) ↔ (text ≡ saved_text saved)

-- what is read is within the limits
abbrev pub EachIsWithinLimits : Type 0
EachIsWithinLimits = (saved : SavedRun) (text : List ℕ) → saved_of text ≡ Ok saved → IsSavedRun saved

-- a text reads as a fault exactly where that is the first that is wrong
abbrev pub EachFaultIsFirst : Type 0
EachFaultIsFirst = (fault : ReplayFault) (text : List ℕ) → (saved_of text ≡ Err fault) ↔ IsFault text fault
