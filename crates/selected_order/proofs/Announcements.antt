-- What a script's threads announce, as the words of its position and as they are seen there.
use Rattle.std.proofs.Common.{◌≡◌, ℕ, ◌<◌, List, Option, None, Some, refl, ap, ◌∙◌, arith}
use Rattle.std.proofs.lemmas.Bool.{cond-true}
use Rattle.event_class.specs.declared.event.Event.{Event}
use Rattle.event_class.specs.Selection.{has}
use Rattle.test_world.specs.World.{is_enabled}
use Rattle.walk_rules.specs.declared.seen.Seen.TheVariants.{Held, Able}
use Rattle.walk_rules.specs.Seen.{seen_of}
use Rattle.run_rules.specs.declared.entry.Entry.{Entry}
use Rattle.run_rules.specs.LegalJournal.{IsLegal}
use Rattle.run_rules.specs.Position.{Position, position_of, seen_at, seen_word, world_at}
use Rattle.run_rules.specs.Replies.{announcement}
use Rattle.run_rules.specs.Setup.{Setup, Script}
use Rattle.run_rules.proofs.Scripts.{word-announcement}
use Rattle.run_rules.proofs.Words.{seen-at}
use Rattle.selected_order.specs.SurwScript.{IsNeverBlocked}

-- a word that is an event
pub record HasEvent (word : Option Event) : Type 0 where
  pub event : Event
  pub is : word ≡ Some event

-- a thread with a number left announces an event, where one that has ended has none left
pub left-announces : (left : ℕ) (word : Option Event) → 0 < left → (word ≡ None → left ≡ 0) → HasEvent word
left-announces left None some ended = absurd (omega (arith, some, ended refl))
left-announces left (Some event) some ended = record { event = event; is = refl }

-- where nothing blocks, an announced event is seen as able
pub seen-able : (script : Script) (journal : List Entry) (thread : ℕ) (event : Event) → IsNeverBlocked script → IsLegal script journal
    → thread < script.setup.threads → announcement script journal thread ≡ Some event
    → seen_of (seen_at script.setup (position_of script journal)) thread ≡ Able (has script.setup.selection event)
unfolding position_of
seen-able script journal thread event free legal within announced =
    let setup : Setup = script.setup in
    let x : Position = position_of script journal in
    let chosen = has setup.selection event in
    seen-at setup x thread
    ∙ ap (seen_word (world_at setup x) setup.selection) (word-announcement script journal thread within ∙ announced)
    ∙ cond-true (is_enabled (world_at setup x) event) (Able chosen) (Held chosen) (free journal legal thread event within announced)
