-- Some journal is the run of a script.
use Rattle.std.proofs.Common.{◌≡◌, ℕ, zero, suc, ◌+◌, List, [], ◌∷◌, ◌++◌, ◌⊎◌, length, Option, None, Some, refl, sym, ◌∙◌, inl, inr, arith}
use Rattle.std.proofs.lemmas.List.{length_push}
use Rattle.std.specs.Option.{IsSome}
use Rattle.event_class.specs.declared.event.Event.{Event}
use Rattle.test_world.specs.World.{WorldState, new_world, reply}
use Rattle.run_rules.specs.declared.entry.Entry.{Entry}
use Rattle.run_rules.specs.Journal.{world_after}
use Rattle.run_rules.specs.LegalJournal.{IsLegal, IsLegalNext}
use Rattle.run_rules.specs.Position.{Position, position_of}
use Rattle.run_rules.specs.Run.{IsRunJournal}
use Rattle.run_rules.specs.Setup.{Script, IsValid}
use Rattle.seed_draws.specs.Answers.{IsSource}
use Rattle.run_rules.specs.Verdict.{verdict_at}
use Rattle.run_rules.proofs.GrantedChoices.{HasChoice, has-choice}
use Rattle.run_rules.proofs.Prefixes.{AtEach, each-none, each-more}
use Rattle.run_rules.proofs.RunPrefixes.{GoesOnAfter, prefixes-going, goes-so-far}
use Rattle.run_rules.proofs.Scripts.{legal-more, length-words, word-announcement}
use Rattle.run_rules.proofs.Verdicts.{verdict-none, limit-none}

-- a journal that is legal and goes on up to its end
pub record GoesUpTo (script : Script) (journal : List Entry) : Type 0 where
  pub legal : IsLegal script journal
  pub prefixes : AtEach (GoesOnAfter script) journal

pub goes-none : (script : Script) → GoesUpTo script []
goes-none script = record { legal = each-none (IsLegalNext script); prefixes = each-none (GoesOnAfter script) }

pub goes-more : (script : Script) (journal : List Entry) (entry : Entry) → GoesUpTo script journal → IsLegalNext script journal entry
    → GoesOnAfter script journal entry → GoesUpTo script (journal ++ entry ∷ [])
goes-more script journal entry goes next going = record {
  legal = legal-more script journal entry goes.legal next;
  prefixes = each-more (GoesOnAfter script) journal entry goes.prefixes going;
}

-- the entry with which the run goes on
record HasNext (script : Script) (journal : List Entry) : Type 0 where
  entry : Entry
  legal : IsLegalNext script journal entry
  going : GoesOnAfter script journal entry

has-next : (script : Script) (journal : List Entry) → IsValid script.setup → IsSource script.setup.selected.answers → IsSource script.setup.other.answers
    → GoesUpTo script journal → verdict_at script.setup (position_of script journal) ≡ None → HasNext script journal
unfolding position_of
has-next script journal valid selected other goes none =
    let x : Position = position_of script journal in
    let world : WorldState = world_after (new_world script.setup.size) journal in
    let choice : HasChoice script.setup x =
    has-choice script.setup x valid selected other
    (goes-so-far script journal (prefixes-going script journal goes.legal goes.prefixes)) none in
    let event : Event = choice.word.event in
    record {
      entry = record { thread = choice.thread; event = event; reply = reply world choice.thread event; forced = choice.forced };
      legal = record {
        announced = sym (word-announcement script journal choice.thread (omega (arith, choice.word.within, length-words script journal))) ∙ choice.word.word;
        enabled = choice.word.enabled;
        replied = refl;
      };
      going = record { going = none; chosen = choice.chosen };
    }

-- a run of the script
pub record HasRun (script : Script) : Type 0 where
  pub journal : List Entry
  pub is : IsRunJournal script journal

-- a journal that goes on and has a verdict is one
run-here : (script : Script) (journal : List Entry) → GoesUpTo script journal → IsSome (verdict_at script.setup (position_of script journal)) → HasRun script
run-here script journal goes some = record {
  journal = journal;
  is = record { legal = goes.legal; going = prefixes-going script journal goes.legal goes.prefixes; stops = some };
}

cases-option : {A : Type 0} (o : Option A) → IsSome o ⊎ (o ≡ None)
cases-option None = inr refl
cases-option (Some x) = inl refl

-- a journal that goes on is the beginning of a run
run-from : (script : Script) (more : ℕ) (journal : List Entry) → IsValid script.setup → IsSource script.setup.selected.answers → IsSource script.setup.other.answers
    → GoesUpTo script journal → length journal + more ≡ script.setup.max_steps → HasRun script
unfolding position_of
run-from script zero journal valid selected other goes room = elim (cases-option (verdict_at script.setup (position_of script journal))) [
  | inl some ↦ run-here script journal goes some
  | inr none ↦
      let x : Position = position_of script journal in
      absurd (limit-none script.setup x (verdict-none script.setup x none).short (omega (arith, room)))
]
run-from script (suc more) journal valid selected other goes room = elim (cases-option (verdict_at script.setup (position_of script journal))) [
  | inl some ↦ run-here script journal goes some
  | inr none ↦
      let next : HasNext script journal = has-next script journal valid selected other goes none in
      run-from script more (journal ++ next.entry ∷ []) valid selected other (goes-more script journal next.entry goes next.legal next.going)
      (omega (arith, room, length_push journal next.entry))
]

-- a valid script with sources that keep below their bounds has a run
pub run-exists : (script : Script) → IsValid script.setup → IsSource script.setup.selected.answers → IsSource script.setup.other.answers → HasRun script
run-exists script valid selected other = run-from script script.setup.max_steps [] valid selected other (goes-none script) (omega arith)
