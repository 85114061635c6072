-- Where every event is selected and nothing blocks, the numbers left are those of able threads.
use Rattle.std.proofs.Common.{◌≡◌, ℕ, ◌<◌, ◌≤◌, Bool, true, false, cond, List, [], ◌∷◌, length, get_or, Option, None, Some, refl, ap, sym, ◌∙◌, arith}
use Rattle.std.proofs.lemmas.Bool.{ltb-false, cond-true}
use Rattle.std.proofs.lemmas.List.{ext_get_or}
use Rattle.event_class.specs.declared.event.Event.{Event}
use Rattle.event_class.specs.declared.pickable.Pickable.{Pickable}
use Rattle.event_class.specs.declared.pickable.Pickable.TheVariants.{Every}
use Rattle.event_class.specs.Selection.{has}
use Rattle.walk_rules.specs.declared.seen.Seen.{Seen}
use Rattle.walk_rules.specs.Seen.{is_able, seen_of, kept_to_able}
use Rattle.walk_rules.proofs.AbleThreads.{kept-index, length-kept}
use Rattle.run_rules.specs.declared.entry.Entry.{Entry}
use Rattle.run_rules.specs.EventsMade.{events_made}
use Rattle.run_rules.specs.LegalJournal.{IsLegal}
use Rattle.run_rules.specs.Position.{Position, position_of, seen_at}
use Rattle.run_rules.specs.Replies.{announcement}
use Rattle.run_rules.specs.Setup.{Setup, Script}
use Rattle.run_rules.specs.Verdict.{is_miscounted, first_miscounted}
use Rattle.run_rules.proofs.GrantedChoices.{is-counted}
use Rattle.run_rules.proofs.Numbers.{left-any, length-left}
use Rattle.run_rules.proofs.Scripts.{length-words, word-announcement}
use Rattle.selected_order.specs.SurwScript.{IsNeverBlocked}
use Rattle.selected_order.proofs.Announcements.{seen-able}
use Rattle.selected_order.proofs.InOrder.{left_of}

-- a script that is never blocked, of which every event is selected and each thread is counted
pub record IsEvery (script : Script) : Type 0 where
  pub counted : length script.setup.counts ≡ script.setup.threads
  pub every : script.setup.selection ≡ Every ∷ []
  pub free : IsNeverBlocked script

pub has-every : (script : Script) (event : Event) → IsEvery script → has script.setup.selection event ≡ true
has-every script event is = ap (λ (items : List Pickable). has items event) is.every

-- a thread that has ended has none left
pub ended-left : (script : Script) (journal : List Entry) (thread : ℕ) → first_miscounted script.setup (position_of script journal) ≡ None
    → thread < script.setup.threads → announcement script journal thread ≡ None → get_or (left_of script.setup journal) thread 0 ≡ 0
unfolding position_of
ended-left script journal thread counted within none =
    let setup : Setup = script.setup in
    let x : Position = position_of script journal in
    let count : ℕ = get_or setup.counts thread 0 in
    let made : ℕ = events_made setup.selection journal thread in
    let right = is-counted setup x thread counted (omega (arith, within, length-words script journal)) in
    let word = word-announcement script journal thread within ∙ none in
    let all : count ≤ made =
    ltb-false made count (sym (ap (λ (w : Option Event). is_miscounted setup.selection count made w) word) ∙ right) in
    omega (arith, all, left-any setup.selection setup.counts journal thread)

both-none : (able : Bool) (left : ℕ) → left ≡ 0 → cond able left 0 ≡ left
both-none true left none = refl
both-none false left none = sym none

kept-one : (script : Script) (journal : List Entry) (thread : ℕ) (word : Option Event) → IsEvery script → IsLegal script journal
    → first_miscounted script.setup (position_of script journal) ≡ None → thread < script.setup.threads → announcement script journal thread ≡ word
    → cond (is_able (seen_of (seen_at script.setup (position_of script journal)) thread)) (get_or (left_of script.setup journal) thread 0) 0
    ≡ get_or (left_of script.setup journal) thread 0
kept-one script journal thread None is legal counted within none =
    let view : List Seen = seen_at script.setup (position_of script journal) in
    both-none (is_able (seen_of view thread)) (get_or (left_of script.setup journal) thread 0) (ended-left script journal thread counted within none)
kept-one script journal thread (Some event) is legal counted within some =
    let view : List Seen = seen_at script.setup (position_of script journal) in
    cond-true (is_able (seen_of view thread)) (get_or (left_of script.setup journal) thread 0) 0
    (ap is_able (seen-able script journal thread event is.free legal within some))

pub kept-all : (script : Script) (journal : List Entry) → IsEvery script → IsLegal script journal
    → first_miscounted script.setup (position_of script journal) ≡ None
    → kept_to_able (left_of script.setup journal) (seen_at script.setup (position_of script journal)) ≡ left_of script.setup journal
kept-all script journal is legal counted =
    let setup : Setup = script.setup in
    let left : List ℕ = left_of setup journal in
    let view : List Seen = seen_at setup (position_of script journal) in
    ext_get_or 0 (kept_to_able left view) left (length-kept left view)
    (λ thread below.
    let long = length-left setup.selection setup.counts journal in
    let within : thread < setup.threads = omega (arith, below, length-kept left view, long, is.counted) in
    kept-index left view thread ∙ kept-one script journal thread (announcement script journal thread) is legal counted within refl)
