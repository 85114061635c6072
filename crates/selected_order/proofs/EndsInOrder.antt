-- A run under SURW that ends unforced has its selected events in the order that the draws name.
use Rattle.std.proofs.Common.{◌≡◌, ℕ, ◌+◌, ◌<◌, true, false, List, [], ◌∷◌, ◌++◌, length, map, sum, take, drop, set, get_or, Option, None, Some, ap, sym, subst, ◌∙◌, arith}
use Rattle.std.proofs.lemmas.Bool.{and_parts}
use Rattle.std.proofs.lemmas.List.{append-nil, drop_more, get_or-set_same, length-set}
use Rattle.std.proofs.lemmas.Option.{get_or_from_slice_get, slice_get_within}
use Rattle.std.specs.List.{slice_get}
use Rattle.draw_split.specs.Named.{named_order}
use Rattle.draw_split.proofs.NamedOrders.{AreGood, draw_list, good-nil, named_order-nil}
use Rattle.seed_draws.specs.Answers.{IsSource}
use Rattle.seed_draws.specs.Falling.{falling}
use Rattle.event_class.specs.declared.event.Event.{Event}
use Rattle.walk_rules.specs.declared.picked.Picked.TheVariants.{Grant}
use Rattle.walk_rules.specs.declared.rule.Rule.{Rule}
use Rattle.walk_rules.specs.declared.rule.Rule.TheVariants.{Surw}
use Rattle.walk_rules.specs.Seen.{is_able, seen_of}
use Rattle.run_rules.specs.declared.entry.Entry.{Entry}
use Rattle.run_rules.specs.EventsMade.{selected_order}
use Rattle.run_rules.specs.Position.{Position, words_before, position_at, seen_at}
use Rattle.run_rules.specs.RuleChoice.{choice, choices}
use Rattle.run_rules.specs.Run.{GoesOn}
use Rattle.run_rules.specs.Setup.{Setup}
use Rattle.run_rules.specs.SurwChoice.{surw_choice}
use Rattle.run_rules.proofs.Prefixes.{at-whole}
use Rattle.run_rules.proofs.Words.{has-word}
use Rattle.selected_order.specs.SelectedOrder.{IsUnforced, IsInDrawnOrder, EndsInOrder}
use Rattle.selected_order.proofs.InOrder.{IsInOrder, left_of, in-order-none, in-order-more}
use Rattle.selected_order.proofs.NothingLeft.{ended-parts, none-left}
use Rattle.selected_order.proofs.UnforcedGrants.{surw-narrow}

-- before an entry the word of its thread is its event
word-set : (words : List (Option Event)) (entry : Entry) → entry.thread < length (set words entry.thread (Some entry.event))
    → get_or (set words entry.thread (Some entry.event)) entry.thread None ≡ Some entry.event
word-set words entry within =
    get_or-set_same words entry.thread (Some entry.event) None (omega (arith, within, length-set words entry.thread (Some entry.event)))

pub word-at : (x : Position) (k : ℕ) (entry : Entry) → slice_get x.journal k ≡ Some entry → entry.thread < length (position_at x k).words
    → get_or (position_at x k).words entry.thread None ≡ Some entry.event
unfolding position_at words_before
word-at x k entry at within =
    let after : List (Option Event) = words_before (drop (k + 1) x.journal) x.words in
    let first : drop k x.journal ≡ entry ∷ drop (k + 1) x.journal =
    drop_more x.journal k entry (slice_get_within x.journal k entry at)
    ∙ ap (λ e. e ∷ drop (k + 1) x.journal) (get_or_from_slice_get x.journal k entry entry at) in
    let cut : words_before (drop k x.journal) x.words ≡ set after entry.thread (Some entry.event) =
    ap (λ entries. words_before entries x.words) first in
    let long : entry.thread < length (set after entry.thread (Some entry.event)) =
    omega (arith, within, ap (λ (words : List (Option Event)). length words) cut) in
    ap (λ words. get_or words entry.thread None) cut ∙ word-set after entry long

-- the thread of an unforced step is able
pub unforced-able : (setup : Setup) (x : Position) (thread : ℕ) → IsSource setup.other.answers → surw_choice setup x ≡ Grant thread false
    → is_able (seen_of (seen_at setup x) thread) ≡ true
unforced-able setup x thread other granted =
    let grant = surw-narrow setup x thread other granted in
    (and_parts (is_able (seen_of (seen_at setup x) thread)) _ grant.narrow).0

-- under SURW the choice is SURW's
pub choice-is : (setup : Setup) (x : Position) → setup.rule ≡ Surw → choice setup x ≡ surw_choice setup x
choice-is setup x rule = ap (λ (r : Rule). (choices r).choice_at setup x) rule

in-order-next : (setup : Setup) (x : Position) → setup.rule ≡ Surw → IsSource setup.selected.answers → IsSource setup.other.answers
    → GoesOn setup x → IsUnforced x.journal → (k : ℕ) (entry : Entry) → slice_get x.journal k ≡ Some entry
    → IsInOrder setup (take k x.journal) → IsInOrder setup (take k x.journal ++ entry ∷ [])
unfolding position_at
in-order-next setup x rule selected other going unforced k entry at before =
    let here : Position = position_at x k in
    let plain = unforced k entry at in
    let chosen = sym (choice-is setup here rule) ∙ (going k entry at).chosen in
    let able = unforced-able setup here entry.thread other (chosen ∙ ap (Grant entry.thread) plain) in
    in-order-more setup here entry selected other before plain chosen (word-at x k entry at (has-word setup here entry.thread able).within)

pub in-order-all : (setup : Setup) (x : Position) → setup.rule ≡ Surw → IsSource setup.selected.answers → IsSource setup.other.answers
    → GoesOn setup x → IsUnforced x.journal → IsInOrder setup x.journal
in-order-all setup x rule selected other going unforced =
    at-whole (IsInOrder setup) x.journal (in-order-none setup selected.none) (in-order-next setup x rule selected other going unforced)

-- where nothing is left all draws are used
falling-none : (n : ℕ) → n ≡ 0 → falling n ≡ []
unfolding falling
falling-none n none = ap falling none

pub drawn-all : (setup : Setup) (journal : List Entry) → IsInOrder setup journal → sum (left_of setup journal) ≡ 0 → IsInDrawnOrder setup journal
drawn-all setup journal is none =
    let left : List ℕ = left_of setup journal in
    let all : map sum is.before ≡ falling (sum setup.counts) =
    sym (ap (λ rest. map sum is.before ++ rest) (falling-none (sum left) none) ∙ append-nil (map sum is.before)) ∙ is.falls in
    let order = selected_order setup.selection journal in
    record {
      draws = is.draws;
      answered = ap setup.selected.answers (sym all) ∙ is.answered;
      gives = record {
        list = draw_list setup.counts is.draws (subst (λ draws. AreGood setup.counts draws) (append-nil is.draws) (is.good [] (good-nil left none)));
        order_named = sym
            (ap (named_order setup.counts) (sym (append-nil is.draws)) ∙ is.named []
            ∙ ap (λ rest. order ++ rest) (named_order-nil left) ∙ append-nil order);
      };
    }

pub ends-in-order : EndsInOrder
ends-in-order setup x rule selected other long going unforced ends =
    let parts = ended-parts setup x rule ends in
    drawn-all setup x.journal (in-order-all setup x rule selected other going unforced) (none-left setup x long parts.0 parts.1)
