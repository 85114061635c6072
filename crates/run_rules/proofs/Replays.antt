-- A replay of a legal journal repeats it.
use Rattle.std.proofs.Common.{◌≡◌, ℕ, ◌==◌, ◌||◌, ◌<◌, ◌≤◌, Bool, true, false, cond, IsSome, is_some, List, [], ◌∷◌, length, map, take, Option, None, Some, refl, ap, sym, subst, ◌∙◌, inl, inr, arith}
use Rattle.std.proofs.lemmas.Bool.{cases_lt}
use Rattle.std.proofs.lemmas.List.{length-map, length-take-le}
use Rattle.std.proofs.lemmas.Option.{none-some, slice_get-map, slice_get_within}
use Rattle.std.specs.List.{list_any, range_with_len, slice_get}
use Rattle.std.specs.Option.{option_map}
use Rattle.event_class.specs.declared.event.Event.{Event}
use Rattle.event_class.specs.declared.pickable.Pickable.{Pickable}
use Rattle.event_class.specs.Selection.{has}
use Rattle.test_world.specs.World.{WorldState, new_world, is_enabled, reply}
use Rattle.walk_rules.specs.declared.asked.Asked.{Asked}
use Rattle.walk_rules.specs.declared.seen.Seen.TheVariants.{Held, Able}
use Rattle.walk_rules.specs.Seen.{is_able}
use Rattle.run_rules.specs.declared.entry.Entry.{Entry}
use Rattle.run_rules.specs.declared.verdict.Verdict.{Verdict}
use Rattle.run_rules.specs.declared.verdict.Verdict.TheVariants.{Deadlock, Ended, StepLimit}
use Rattle.run_rules.specs.Journal.{world_after}
use Rattle.run_rules.specs.LegalJournal.{IsLegal, IsLegalNext}
use Rattle.run_rules.specs.Position.{Position, position_of, seen_at, seen_word, world_at}
use Rattle.run_rules.specs.Replay.{IsKeptVerdict, IsReplayOf, Repeats, ReplaysRepeat, SpeaksWithin, entries_asked, unforced, verdict_at_end}
use Rattle.run_rules.specs.Replies.{announcement, replies_told}
use Rattle.run_rules.specs.Setup.{Script}
use Rattle.run_rules.specs.Verdict.{deadlock, end_of_threads, first_of, left_over, step_limit, verdict_at}
use Rattle.run_rules.proofs.FollowEnds.{some-at-end, verdict-past}
use Rattle.run_rules.proofs.FollowSteps.{IsAsked, chosen-here, no-verdict}
use Rattle.run_rules.proofs.KeptVerdicts.{kept-first}
use Rattle.run_rules.proofs.Prefixes.{AtEach}
use Rattle.run_rules.proofs.RunPrefixes.{GoesOnAfter, prefixes-going}
use Rattle.run_rules.proofs.Scripts.{length-words, word-announcement}
use Rattle.run_rules.proofs.UnforcedJournals.{each-unforced, freed, length-unforced, told-unforced, world-unforced}
use Rattle.run_rules.proofs.Verdicts.{none-verdict}

-- a replay of a legal journal within the step limit
record IsReplayed (script : Script) (journal : List Entry) (replay : Script) : Type 0 where
  within : SpeaksWithin script
  legal : IsLegal script journal
  short : length journal ≤ script.setup.max_steps
  is : IsReplayOf script journal replay

-- ---- the replay says the same in the same world

announced-again : (script : Script) (journal : List Entry) (replay : Script) → IsReplayOf script journal replay → (entries : List Entry) (thread : ℕ)
    → announcement replay (unforced entries) thread ≡ announcement script entries thread
announced-again script journal replay is entries thread = (λ i. is.says i thread (told-unforced entries thread i))

world-again : (script : Script) (journal : List Entry) (replay : Script) → IsReplayOf script journal replay → (entries : List Entry)
    → world_after (new_world replay.setup.size) (unforced entries) ≡ world_after (new_world script.setup.size) entries
world-again script journal replay is entries =
    ap (λ size. world_after (new_world size) (unforced entries)) is.size ∙ world-unforced (new_world script.setup.size) entries

words-again : (script : Script) (journal : List Entry) (replay : Script) → IsReplayOf script journal replay → (entries : List Entry)
    → (position_of replay (unforced entries)).words ≡ (position_of script entries).words
unfolding position_of
words-again script journal replay is entries =
    (λ i. map (λ thread. announced-again script journal replay is entries thread i) (range_with_len 0 (is.threads i)))

next-again : (script : Script) (journal : List Entry) (replay : Script) → IsReplayOf script journal replay → (entries : List Entry) (entry : Entry)
    → IsLegalNext script entries entry → IsLegalNext replay (unforced entries) (freed entry)
next-again script journal replay is entries entry next =
    let world = world-again script journal replay is entries in
    record {
      announced = announced-again script journal replay is entries entry.thread ∙ next.announced;
      enabled = ap (λ w. is_enabled w entry.event) world ∙ next.enabled;
      replied = next.replied ∙ ap (λ w. reply w entry.thread entry.event) (sym world);
    }

legal-again : (script : Script) (journal : List Entry) (replay : Script) → IsReplayOf script journal replay → IsLegal script journal
    → IsLegal replay (unforced journal)
legal-again script journal replay is legal =
    each-unforced (IsLegalNext replay) journal (λ k entry at. next-again script journal replay is (take k journal) entry (legal k entry at))

-- ---- it goes on with each entry

-- a thread that says something is one of the script's
says-within : (script : Script) (journal : List Entry) (thread : ℕ) (event : Event) → SpeaksWithin script → announcement script journal thread ≡ Some event
    → thread < script.setup.threads
says-within script journal thread event within announced = elim (cases_lt thread script.setup.threads) [
  | inl fewer ↦ fewer
  | inr past ↦ absurd (none-some event (sym (within thread (replies_told journal thread) past) ∙ announced))
]

-- the entry as it is asked for
abbrev asked_for : Entry → Asked
asked_for entry = record { thread = entry.thread; event = entry.event }

asked-there : (script : Script) (journal : List Entry) (replay : Script) → IsReplayed script journal replay → (k : ℕ) (entry : Entry)
    → slice_get journal k ≡ Some entry
    → IsAsked replay.setup (position_of replay (unforced (take k journal))) (entries_asked journal) (asked_for entry)
unfolding position_of
asked-there script journal replay given k entry at =
    let before : List Entry = take k journal in
    let next : IsLegalNext script before entry = given.legal k entry at in
    let again : IsLegalNext replay (unforced before) (freed entry) = next-again script journal replay given.is before entry next in
    let lt : k < length journal = slice_get_within journal k entry at in
    let long : length (unforced before) ≡ k = length-unforced before ∙ length-take-le k journal (omega (arith, lt)) in
    let fewer : entry.thread < script.setup.threads = says-within script before entry.thread entry.event given.within next.announced in
    let one : entry.thread < replay.setup.threads = omega (arith, fewer, given.is.threads) in
    record {
      rule = given.is.rule;
      there = ap (λ n. slice_get (entries_asked journal) n) long ∙ slice_get-map asked_for journal k ∙ ap (option_map asked_for) at;
      within = omega (arith, one, length-words replay (unforced before));
      word = word-announcement replay (unforced before) entry.thread one ∙ again.announced;
      enabled = again.enabled;
      short = λ full. absurd (omega (arith, full, long, lt, given.short, given.is.max_steps));
    }

goes-again : (script : Script) (journal : List Entry) (replay : Script) → IsReplayed script journal replay
    → AtEach (GoesOnAfter replay) (unforced journal)
goes-again script journal replay given =
    each-unforced (GoesOnAfter replay) journal (λ k entry at.
    let x : Position = position_of replay (unforced (take k journal)) in
    let asked = asked-there script journal replay given k entry at in
    record {
      going = none-verdict replay.setup x (no-verdict replay.setup x (entries_asked journal) (asked_for entry) asked);
      chosen = chosen-here replay.setup x (entries_asked journal) (asked_for entry) asked;
    })

-- ---- it stops at the end

verdict-again : (script : Script) (journal : List Entry) (replay : Script) → IsReplayOf script journal replay
    → verdict_at replay.setup (position_of replay (unforced journal)) ≡ verdict_at_end replay (position_of replay (unforced journal))
unfolding position_of
verdict-again script journal replay is =
    verdict-past replay (position_of replay (unforced journal)) (entries_asked journal) is.rule
    (omega (arith, length-unforced journal, length-map journal asked_for))

repeats : (script : Script) (journal : List Entry) (replay : Script) → IsReplayed script journal replay → Repeats script journal replay
unfolding position_of
repeats script journal replay given =
    let legal : IsLegal replay (unforced journal) = legal-again script journal replay given.is given.legal in
    let x : Position = position_of replay (unforced journal) in
    let same : verdict_at replay.setup x ≡ verdict_at_end replay x = verdict-again script journal replay given.is in
    record {
      run = record {
        legal = legal;
        going = prefixes-going replay (unforced journal) legal (goes-again script journal replay given);
        stops = subst (λ (v : Option Verdict). IsSome v) (sym same) (some-at-end replay x);
      };
      world = world-again script journal replay given.is journal;
      words = words-again script journal replay given.is journal;
      verdict = same;
    }

-- ---- a kept verdict

able-either : (enabled one other : Bool) → is_able (cond enabled (Able one) (Held one)) ≡ is_able (cond enabled (Able other) (Held other))
able-either true one other = refl
able-either false one other = refl

-- whether a thread is able doesn't depend on the selection
able-any : (world : WorldState) (one other : List Pickable) (words : List (Option Event))
    → list_any is_able (map (seen_word world one) words) ≡ list_any is_able (map (seen_word world other) words)
able-any world one other [] = refl
able-any world one other (None ∷ words) = able-any world one other words
able-any world one other (Some event ∷ words) =
    (λ i. able-either (is_enabled world event) (has one event) (has other event) i || able-any world one other words i)

deadlock-again : (script : Script) (journal : List Entry) (replay : Script) → IsReplayOf script journal replay
    → deadlock replay.setup (position_of replay (unforced journal)) ≡ deadlock script.setup (position_of script journal)
unfolding position_of seen_at
deadlock-again script journal replay is =
    let y : Position = position_of replay (unforced journal) in
    let x : Position = position_of script journal in
    let world : world_at replay.setup y ≡ world_at script.setup x = world-again script journal replay is journal in
    let words : y.words ≡ x.words = words-again script journal replay is journal in
    let able : list_any is_able (seen_at replay.setup y) ≡ list_any is_able (seen_at script.setup x) =
    (λ i. list_any is_able (map (seen_word (world i) replay.setup.selection) (words i)))
    ∙ able-any (world_at script.setup x) replay.setup.selection script.setup.selection x.words in
    (λ i. cond (able i) None (Some (Deadlock (length-unforced journal i))))

-- a verdict that a replay has too is the replay's
kept-again : (script : Script) (journal : List Entry) (replay : Script) → IsReplayOf script journal replay → (verdict : Verdict) → IsKeptVerdict verdict
    → verdict_at script.setup (position_of script journal) ≡ Some verdict
    → verdict_at replay.setup (position_of replay (unforced journal)) ≡ Some verdict
unfolding position_of
kept-again script journal replay is verdict kept found =
    let y : Position = position_of replay (unforced journal) in
    let x : Position = position_of script journal in
    let left : Option Verdict = left_over (length y.journal) y.words (Some []) in
    let ended : end_of_threads y ≡ end_of_threads x =
    ap (λ words. cond (list_any is_some words) None (Some Ended)) (words-again script journal replay is journal) in
    let limit : step_limit replay.setup y ≡ step_limit script.setup x =
    (λ i. cond (length-unforced journal i == is.max_steps i) (Some (StepLimit (length-unforced journal i))) None) in
    verdict-again script journal replay is
    ∙ (λ i. first_of (ended i ∷ limit i ∷ deadlock-again script journal replay is i ∷ left ∷ []))
    ∙ kept-first script.setup x (left ∷ []) verdict kept found

-- each replay of a legal journal within the step limit repeats it
pub replays-repeat : (script : Script) → SpeaksWithin script → ReplaysRepeat script
replays-repeat script within journal replay legal short is = (
  repeats script journal replay (record { within = within; legal = legal; short = short; is = is }),
  λ verdict found kept. kept-again script journal replay is verdict kept found,
)
