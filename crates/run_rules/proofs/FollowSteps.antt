-- Where the entry that is asked for can be made, a replay goes on with it.
use Rattle.std.proofs.Common.{◌≡◌, ◌≢◌, ℕ, ◌&&◌, ◌<◌, Bool, true, false, cond, IsTrue, is_some, List, length, get_or, None, Some, ap, ◌∙◌, arith}
use Rattle.std.proofs.lemmas.Bool.{lt-ltb, ne_eqb}
use Rattle.std.proofs.lemmas.List.Folds.{list_any_at}
use Rattle.std.proofs.lemmas.Option.{slice_get_within}
use Rattle.std.specs.List.{slice_get}
use Rattle.std.specs.Option.{option_map}
use Rattle.event_class.specs.Selection.{has}
use Rattle.test_world.specs.World.{is_enabled}
use Rattle.walk_rules.specs.declared.asked.Asked.{Asked}
use Rattle.walk_rules.specs.declared.picked.Picked.TheVariants.{Grant}
use Rattle.walk_rules.specs.declared.rule.Rule.TheVariants.{Follow}
use Rattle.walk_rules.specs.declared.seen.Seen.TheVariants.{Over, Held, Able}
use Rattle.walk_rules.specs.Follow.{asked_thread}
use Rattle.walk_rules.specs.Seen.{is_able, seen_of}
use Rattle.walk_rules.specs.Strategies.{asked_at, asked_list, counts_down}
use Rattle.run_rules.specs.declared.verdict.Verdict.{Verdict}
use Rattle.run_rules.specs.declared.verdict.Verdict.TheVariants as verdict
use Rattle.run_rules.specs.declared.verdict.Verdict.TheVariants.{Deadlock, Ended, Left, StepLimit}
use Rattle.run_rules.specs.Position.{Position, seen_at, seen_word, world_at}
use Rattle.run_rules.specs.RuleChoice.{choice, choices}
use Rattle.run_rules.specs.Setup.{Setup}
use Rattle.run_rules.specs.Verdict.{can_make, deadlock, end_of_threads, first_miscounted, first_with_word, left_over, miscount, other_than_asked, refusal, step_limit, wrong_count}
use Rattle.run_rules.proofs.EventsEqual.{same-word}
use Rattle.run_rules.proofs.Verdicts.{HasNoVerdict, left_there, unlike_asked}
use Rattle.run_rules.proofs.Words.{length-seen, seen-at}

-- at a position the rule asks for an entry of a list, whose thread says its event, and the event is enabled
pub record IsAsked (setup : Setup) (x : Position) (list : List Asked) (entry : Asked) : Type 0 where
  pub rule : setup.rule ≡ Follow list
  pub there : slice_get list (length x.journal) ≡ Some entry
  pub within : entry.thread < length x.words
  pub word : get_or x.words entry.thread None ≡ Some entry.event
  pub enabled : IsTrue (is_enabled (world_at setup x) entry.event)
  pub short : length x.journal ≢ setup.max_steps

able-here : (setup : Setup) (x : Position) (list : List Asked) (entry : Asked) → IsAsked setup x list entry
    → is_able (seen_of (seen_at setup x) entry.thread) ≡ true
able-here setup x list entry is =
    let chosen : Bool = has setup.selection entry.event in
    ap is_able (seen-at setup x entry.thread ∙ ap (λ word. seen_word (world_at setup x) setup.selection word) is.word)
    ∙ ap (λ (b : Bool). is_able (cond b (Able chosen) (Held chosen))) is.enabled

-- the entry can be made
can-here : (setup : Setup) (x : Position) (list : List Asked) (entry : Asked) → IsAsked setup x list entry
    → can_make x.words (seen_at setup x) entry ≡ true
can-here setup x list entry is =
    ap (λ (b : Bool). b && is_able (seen_of (seen_at setup x) entry.thread)) ((same-word (get_or x.words entry.thread None) entry.event).1 is.word)
    ∙ able-here setup x list entry is

asked-here : (setup : Setup) (x : Position) (list : List Asked) (entry : Asked) → IsAsked setup x list entry → unlike_asked setup x ≡ None
asked-here setup x list entry is =
    let n : ℕ = length x.journal in
    let other : Verdict = verdict.Asked n entry.thread entry.event (get_or x.words entry.thread None) in
    ap (λ rule. other_than_asked n x.words (seen_at setup x) (asked_at rule n)) is.rule
    ∙ ap (λ asked. other_than_asked n x.words (seen_at setup x) asked) is.there
    ∙ ap (λ (b : Bool). cond b None (Some other)) (can-here setup x list entry is)

-- a rule that follows a list counts nothing
pub none-counted : (setup : Setup) (x : Position) (list : List Asked) → setup.rule ≡ Follow list → wrong_count setup x ≡ None
none-counted setup x list rule = ap (λ r. cond (counts_down r) (option_map (miscount setup x) (first_miscounted setup x)) None) rule

going-here : (setup : Setup) (x : Position) (list : List Asked) (entry : Asked) → IsAsked setup x list entry → end_of_threads x ≡ None
going-here setup x list entry is =
    ap (λ (b : Bool). cond b None (Some Ended)) (list_any_at is_some x.words entry.thread None is.within (ap is_some is.word))

short-here : (setup : Setup) (x : Position) (list : List Asked) (entry : Asked) → IsAsked setup x list entry → step_limit setup x ≡ None
short-here setup x list entry is =
    ap (λ (b : Bool). cond b (Some (StepLimit (length x.journal))) None) (ne_eqb (length x.journal) setup.max_steps is.short)

moving-here : (setup : Setup) (x : Position) (list : List Asked) (entry : Asked) → IsAsked setup x list entry → deadlock setup x ≡ None
moving-here setup x list entry is =
    ap (λ (b : Bool). cond b None (Some (Deadlock (length x.journal))))
    (list_any_at is_able (seen_at setup x) entry.thread Over (omega (arith, is.within, length-seen setup x)) (able-here setup x list entry is))

more-here : (setup : Setup) (x : Position) (list : List Asked) (entry : Asked) → IsAsked setup x list entry → left_there setup x ≡ None
more-here setup x list entry is =
    let n : ℕ = length x.journal in
    ap (λ rule. left_over n x.words (asked_list rule)) is.rule
    ∙ ap (λ (b : Bool). cond b None (option_map (Left n) (first_with_word x.words))) (lt-ltb n (length list) (slice_get_within list n entry is.there))

-- such a rule chooses the thread of the entry that it asks for
pub follows : (setup : Setup) (x : Position) (list : List Asked) → setup.rule ≡ Follow list
    → choice setup x ≡ Grant (asked_thread (slice_get list (length x.journal))) false
follows setup x list rule = ap (λ r. (choices r).choice_at setup x) rule

-- the run goes on there
pub no-verdict : (setup : Setup) (x : Position) (list : List Asked) (entry : Asked) → IsAsked setup x list entry → HasNoVerdict setup x
no-verdict setup x list entry is = record {
  asked = asked-here setup x list entry is;
  counted = none-counted setup x list is.rule;
  going = going-here setup x list entry is;
  short = short-here setup x list entry is;
  able = moving-here setup x list entry is;
  more = more-here setup x list entry is;
  granted = ap (refusal (length x.journal)) (follows setup x list is.rule);
}

-- with the entry's thread, not forced
pub chosen-here : (setup : Setup) (x : Position) (list : List Asked) (entry : Asked) → IsAsked setup x list entry
    → choice setup x ≡ Grant entry.thread false
chosen-here setup x list entry is = follows setup x list is.rule ∙ ap (λ asked. Grant (asked_thread asked) false) is.there
