-- Where an entry is asked for and there is no verdict: its thread announces its event and is able.
use Rattle.std.proofs.Common.{◌≡◌, ℕ, ◌&&◌, Bool, true, false, cond, IsTrue, IsSomeAnd, List, length, get_or, Option, None, Some, is_some, ap, sym, ◌∙◌, inl, inr, arith}
use Rattle.std.proofs.lemmas.Bool.{cases_Bool, cases_lt, false≢true, le-ltb}
use Rattle.std.proofs.lemmas.Option.{none-some, slice_get_cases}
use Rattle.std.proofs.lemmas.List.{get_or_default}
use Rattle.std.proofs.lemmas.List.Folds.{Any-from_list_any}
use Rattle.std.specs.List.{list_any, slice_get}
use Rattle.std.specs.Option.{option_map}
use Rattle.event_class.specs.declared.event.Event.{Event}
use Rattle.walk_rules.specs.declared.asked.Asked.{Asked}
use Rattle.walk_rules.specs.declared.seen.Seen.{Seen}
use Rattle.walk_rules.specs.Seen.{is_able, seen_of}
use Rattle.walk_rules.specs.Strategies.{asked_list, entry_in}
use Rattle.walk_rules.specs.Walk.{AsksAble}
use Rattle.walk_rules.proofs.WrongThreads.{none-mapped, none-below}
use Rattle.run_rules.specs.declared.verdict.Verdict.{Verdict}
use Rattle.run_rules.specs.declared.verdict.Verdict.TheVariants as verdict
use Rattle.run_rules.specs.declared.verdict.Verdict.TheVariants.{Left}
use Rattle.run_rules.specs.Position.{Position, seen_at}
use Rattle.run_rules.specs.Setup.{Setup}
use Rattle.run_rules.specs.Verdict.{can_make, first_with_word, is_word, left_over, other_than_asked}
use Rattle.run_rules.proofs.Verdicts.{HasNoVerdict, going-none}

-- an entry that can be made is of an able thread
both-able : (x y : Bool) → (x && y) ≡ true → y ≡ true
both-able true y h = h
both-able false y h = absurd (false≢true h)

-- an entry that is asked for and gives no cause to stop can be made
pub made-as-asked : (step : ℕ) (words : List (Option Event)) (view : List Seen) (entry : Asked) → other_than_asked step words view (Some entry) ≡ None
    → can_make words view entry ≡ true
made-as-asked step words view entry none = elim (cases_Bool (can_make words view entry)) [
  | inl can ↦ can
  | inr not_so ↦
      let other : Verdict = verdict.Asked step entry.thread entry.event (get_or words entry.thread None) in
      absurd (none-some other (sym none ∙ ap (λ (b : Bool). cond b None (Some other)) not_so))
]

-- some thread with a word is found
pub finds-word : (words : List (Option Event)) → list_any is_some words ≡ true → first_with_word words ≡ None → ⊥
finds-word words some none =
    let any = Any-from_list_any is_some words some in
    let here : is_some (get_or words any.0 None) ≡ true = ap is_some (get_or_default words any.0 None any.1 any.2 ∙ any.3) ∙ any.4 in
    false≢true (sym (none-below (λ thread. is_some (get_or words thread None)) (length words) any.0 none any.2) ∙ here)

able-entry : (step : ℕ) (words : List (Option Event)) (view : List Seen) (entry : Option Asked) → is_some entry ≡ true
    → other_than_asked step words view entry ≡ None → IsSomeAnd entry (λ e. IsTrue (is_able (seen_of view e.thread)))
able-entry step words view None some none = absurd (false≢true some)
able-entry step words view (Some entry) some none =
    both-able (is_word (get_or words entry.thread None) entry.event) (is_able (seen_of view entry.thread)) (made-as-asked step words view entry none)

pub asked-able : (step : ℕ) (words : List (Option Event)) (view : List Seen) (list : Option (List Asked))
    → other_than_asked step words view (entry_in list step) ≡ None → left_over step words list ≡ None → list_any is_some words ≡ true → AsksAble list step view
asked-able step words view None asked more some = tt
asked-able step words view (Some list) asked more some = elim (cases_lt step (length list)) [
  | inl within ↦ elim (slice_get_cases list step).1 [
    | inl at ↦ able-entry step words view (slice_get list step) (ap is_some at.2) asked
    | inr past ↦ absurd (omega (arith, within, past.0))
  ]
  | inr past ↦
      let over : left_over step words (Some list) ≡ option_map (Left step) (first_with_word words) =
      ap (λ (b : Bool). cond b None (option_map (Left step) (first_with_word words))) (le-ltb step (length list) past) in
      absurd (finds-word words some (none-mapped (Left step) (first_with_word words) (sym over ∙ more)))
]

-- so the thread of an entry that is asked for is able
pub asks-able : (setup : Setup) (x : Position) → HasNoVerdict setup x → AsksAble (asked_list setup.rule) (length x.journal) (seen_at setup x)
asks-able setup x none = asked-able (length x.journal) x.words (seen_at setup x) (asked_list setup.rule) none.asked none.more (going-none x none.going)
