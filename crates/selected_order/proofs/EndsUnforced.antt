-- The run under SURW of a script that is never blocked and whose counts are true ends, and no entry is forced.
use Rattle.std.proofs.Common.{◌≡◌, ◌≢◌, ℕ, ◌==◌, ◌<◌, true, false, IsOk, List, [], ◌∷◌, ◌++◌, length, sum, take, get_or, Option, None, Some, ap, sym, ◌∙◌, inl, inr, arith}
use Rattle.std.proofs.lemmas.Bool.{false≢true, ne_eqb, cond-true, cond-false}
use Rattle.std.proofs.lemmas.List.{length_push}
use Rattle.std.proofs.lemmas.List.Elements.{All-from_get_or}
use Rattle.std.proofs.lemmas.List.Folds.{list_any_at, list_any_none}
use Rattle.std.specs.List.{list_any, slice_get}
use Rattle.std.specs.Option.{option_map, is_some}
use Rattle.seed_draws.specs.Answers.{IsSource, NeverRefuses}
use Rattle.seed_draws.specs.Falling.{falling}
use Rattle.walk_rules.specs.declared.picked.Picked.TheVariants.{Grant}
use Rattle.walk_rules.specs.declared.rule.Rule.TheVariants.{Surw}
use Rattle.walk_rules.specs.declared.seen.Seen.{Seen}
use Rattle.walk_rules.specs.declared.seen.Seen.TheVariants.{Over}
use Rattle.walk_rules.specs.Seen.{is_able, seen_of}
use Rattle.run_rules.specs.declared.entry.Entry.{Entry}
use Rattle.walk_rules.specs.Strategies.{asked_list}
use Rattle.run_rules.specs.declared.verdict.Verdict.{Verdict}
use Rattle.run_rules.specs.declared.verdict.Verdict.TheVariants.{Ended, Deadlock, StepLimit}
use Rattle.run_rules.specs.LegalJournal.{IsLegal}
use Rattle.run_rules.specs.Position.{Position, position_of, seen_at}
use Rattle.run_rules.specs.Replies.{announcement}
use Rattle.run_rules.specs.RuleChoice.{choice}
use Rattle.run_rules.specs.Setup.{Setup, Script}
use Rattle.run_rules.specs.Verdict.{verdict_at, wrong_count, end_of_threads, step_limit, deadlock, refusal, first_of, miscount}
use Rattle.run_rules.proofs.Prefixes.{AtEach, at-whole, each-more, each-none, each-prefix}
use Rattle.run_rules.proofs.RunPrefixes.{GoesOnAfter, going-prefixes}
use Rattle.run_rules.proofs.Scripts.{legal-prefix, length-words, word-announcement}
use Rattle.run_rules.proofs.Verdicts.{asks-nothing, grant-parts, none-verdict, verdict-none, verdict-unasked}
use Rattle.run_rules.proofs.Words.{some-able, has-word, length-seen}
use Rattle.selected_order.specs.SelectedOrder.{IsUnforced}
use Rattle.selected_order.specs.SurwScript.{HasEnded, IsTame, EndsUnforced}
use Rattle.selected_order.proofs.Announcements.{seen-able}
use Rattle.selected_order.proofs.Completions.{HasAnnouncement, some-announcement, step_of, step-legal}
use Rattle.selected_order.proofs.EndsInOrder.{choice-is, unforced-able}
use Rattle.selected_order.proofs.FreeChoice.{IsFreeChoice, free-choice, other-answers}
use Rattle.selected_order.proofs.InOrder.{IsInOrder, in-order-none, in-order-more}
use Rattle.selected_order.proofs.NarrowCandidates.{has-narrow}
use Rattle.selected_order.proofs.NoDeadlock.{no-deadlock}
use Rattle.selected_order.proofs.NothingLeft.{wrong-is}
use Rattle.selected_order.proofs.TrueCounts.{none-miscounted}

-- what is asked of a script and its sources
pub record IsDrawable (script : Script) : Type 0 where
  pub rule : script.setup.rule ≡ Surw
  pub tame : IsTame script
  pub selected : IsSource script.setup.selected.answers
  pub other : IsSource script.setup.other.answers
  pub all : IsOk (script.setup.selected.answers (falling (sum script.setup.counts)))
  pub never : NeverRefuses script.setup.other.answers

-- ---- where a thread announces an event there is no deadlock, and the other way round

announcing-able : (script : Script) (journal : List Entry) → IsTame script → IsLegal script journal → HasAnnouncement (announcement script journal) script.setup.threads
    → deadlock script.setup (position_of script journal) ≡ None
announcing-able script journal tame legal going =
    let x : Position = position_of script journal in
    let view : List Seen = seen_at script.setup x in
    let able : is_able (seen_of view going.thread) ≡ true =
    ap is_able (seen-able script journal going.thread going.event tame.free legal going.within going.is) in
    let some : list_any is_able view ≡ true =
    list_any_at is_able view going.thread Over (omega (arith, going.within, length-seen script.setup x, length-words script journal)) able in
    cond-true (list_any is_able view) None (Some (Deadlock (length x.journal))) some

able-announcing : (script : Script) (journal : List Entry) → deadlock script.setup (position_of script journal) ≡ None
    → HasAnnouncement (announcement script journal) script.setup.threads
able-announcing script journal going =
    let x : Position = position_of script journal in
    let able = some-able script.setup x going in
    let word = has-word script.setup x able.thread able.able in
    let within : able.thread < script.setup.threads = omega (arith, word.within, length-words script journal) in
    record { thread = able.thread; event = word.event; within = within; is = sym (word-announcement script journal able.thread within) ∙ word.word }

-- ---- one prefix after another

-- the choice after a prefix in order isn't forced
pub free-after : (script : Script) (journal : List Entry) → IsDrawable script → IsLegal script journal → AtEach (GoesOnAfter script) journal
    → IsInOrder script.setup journal → HasAnnouncement (announcement script journal) script.setup.threads → IsFreeChoice script.setup (position_of script journal)
unfolding position_of
free-after script journal is legal prefixes order going =
    let x : Position = position_of script journal in
    free-choice script.setup x
    (has-narrow script journal is.tame is.selected is.all legal order going)
    (other-answers script.setup x is.never (no-deadlock script journal legal prefixes) (announcing-able script journal is.tame legal going))

-- a prefix in order, of which no entry is forced
record IsFreePrefix (script : Script) (prefix : List Entry) : Type 0 where
  order : IsInOrder script.setup prefix
  plain : IsUnforced prefix

prefix-next : (script : Script) (journal : List Entry) → IsDrawable script → IsLegal script journal → AtEach (GoesOnAfter script) journal → (k : ℕ) (entry : Entry)
    → slice_get journal k ≡ Some entry → IsFreePrefix script (take k journal) → IsFreePrefix script (take k journal ++ entry ∷ [])
unfolding position_of
prefix-next script journal is legal prefixes k entry at before =
    let setup : Setup = script.setup in
    let prefix : List Entry = take k journal in
    let x : Position = position_of script prefix in
    let goes = prefixes k entry at in
    let going = able-announcing script prefix (verdict-none setup x goes.going).able in
    let earlier = each-prefix (GoesOnAfter script) journal k prefixes in
    let free : IsFreeChoice setup x = free-after script prefix is (legal-prefix script journal k legal) earlier before.order going in
    let chosen = sym (choice-is setup x is.rule) ∙ goes.chosen in
    let grant = grant-parts entry.thread free.thread entry.forced false (sym chosen ∙ free.chosen) in
    let able = unforced-able setup x entry.thread is.other (chosen ∙ ap (Grant entry.thread) grant.1) in
    let within : entry.thread < setup.threads = omega (arith, (has-word setup x entry.thread able).within, length-words script prefix) in
    let word : get_or x.words entry.thread None ≡ Some entry.event = word-announcement script prefix entry.thread within ∙ (legal k entry at).announced in
    record {
      order = in-order-more setup x entry is.selected is.other before.order grant.1 chosen word;
      plain = each-more (λ before entry. entry.forced ≡ false) prefix entry before.plain grant.1;
    }

free-prefix : (script : Script) (journal : List Entry) → IsDrawable script → IsLegal script journal → AtEach (GoesOnAfter script) journal
    → IsFreePrefix script journal
free-prefix script journal is legal prefixes =
    at-whole (IsFreePrefix script) journal
    (record { order = in-order-none script.setup is.selected.none; plain = each-none (λ before entry. entry.forced ≡ false) })
    (prefix-next script journal is legal prefixes)

-- ---- the verdict

none-wrong : (script : Script) (journal : List Entry) → script.setup.rule ≡ Surw → IsTame script → IsLegal script journal
    → wrong_count script.setup (position_of script journal) ≡ None
none-wrong script journal rule tame legal =
    let setup : Setup = script.setup in
    let x : Position = position_of script journal in
    wrong-is setup x rule ∙ ap (option_map (miscount setup x)) (none-miscounted script journal tame legal)

-- where each thread has ended
pub verdict-ended : (script : Script) (journal : List Entry) → script.setup.rule ≡ Surw → IsTame script → IsLegal script journal → HasEnded script journal
    → verdict_at script.setup (position_of script journal) ≡ Some Ended
verdict-ended script journal rule tame legal none =
    let setup : Setup = script.setup in
    let x : Position = position_of script journal in
    let later : List (Option Verdict) = step_limit setup x ∷ deadlock setup x ∷ refusal (length x.journal) (choice setup x) ∷ [] in
    let words : list_any is_some x.words ≡ false =
    list_any_none is_some x.words (All-from_get_or (λ word. is_some word ≡ false) x.words None (λ k lt.
    let below : k < setup.threads = omega (arith, lt, length-words script journal) in
    ap is_some (word-announcement script journal k below ∙ none k below))) in
    verdict-unasked setup x (ap asked_list rule)
    ∙ ap (λ v. first_of (v ∷ end_of_threads x ∷ later)) (none-wrong script journal rule tame legal)
    ∙ ap (λ v. first_of (v ∷ later)) (cond-false (list_any is_some x.words) None (Some Ended) words)

-- where one announces an event
pub verdict-going : (script : Script) (journal : List Entry) → script.setup.rule ≡ Surw → IsTame script → IsLegal script journal
    → HasAnnouncement (announcement script journal) script.setup.threads → IsFreeChoice script.setup (position_of script journal)
    → verdict_at script.setup (position_of script journal) ≡ None
unfolding position_of
verdict-going script journal rule tame legal going free =
    let setup : Setup = script.setup in
    let x : Position = position_of script journal in
    let entry : Entry = step_of script journal going.thread going.event in
    let shorter : length journal ≢ setup.max_steps = λ full.
    let more = step-legal script journal going.thread going.event tame.free legal going.within going.is in
    omega (arith, full, length_push journal entry, tame.short (journal ++ entry ∷ []) more) in
    let word : list_any is_some x.words ≡ true =
    list_any_at is_some x.words going.thread None (omega (arith, going.within, length-words script journal))
    (ap is_some (word-announcement script journal going.thread going.within ∙ going.is)) in
    let nothing = asks-nothing setup x (ap asked_list rule) in
    none-verdict setup x (record {
      asked = nothing.asked;
      counted = none-wrong script journal rule tame legal;
      going = cond-true (list_any is_some x.words) None (Some Ended) word;
      short = cond-false (length journal == setup.max_steps) (Some (StepLimit (length journal))) None (ne_eqb (length journal) setup.max_steps shorter);
      able = announcing-able script journal tame legal going;
      more = nothing.more;
      granted = ap (refusal (length journal)) (choice-is setup x rule ∙ free.chosen);
    })

pub ends-unforced : EndsUnforced
ends-unforced script journal rule tame selected other all never run =
    let is : IsDrawable script = record { rule = rule; tame = tame; selected = selected; other = other; all = all; never = never } in
    let legal : IsLegal script journal = run.legal in
    let prefixes : AtEach (GoesOnAfter script) journal = going-prefixes script journal legal run.going in
    let whole : IsFreePrefix script journal = free-prefix script journal is legal prefixes in (
      elim (some-announcement (announcement script journal) script.setup.threads) [
        | inl none ↦ verdict-ended script journal rule tame legal none
        | inr going ↦
            let none = verdict-going script journal rule tame legal going (free-after script journal is legal prefixes whole.order going) in
            absurd (false≢true (sym (ap is_some none) ∙ run.stops))
      ],
      whole.plain,
    )
