-- At most one journal is the run of a script.
use Rattle.std.proofs.Common.{◌≡◌, ℕ, zero, suc, ◌+◌, ◌<◌, ◌≤◌, List, [], ◌∷◌, ◌++◌, length, take, refl, ap, sym, subst, ◌∙◌, inl, inr, arith}
use Rattle.std.proofs.Math.Seq.{take-length}
use Rattle.std.proofs.lemmas.Bool.{cases_lt, false≢true}
use Rattle.std.proofs.lemmas.Option.{same_Some}
use Rattle.std.specs.Option.{is_some}
use Rattle.test_world.specs.World.{WorldState, new_world, reply}
use Rattle.run_rules.specs.declared.entry.Entry.{Entry}
use Rattle.run_rules.specs.Journal.{world_after}
use Rattle.run_rules.specs.LegalJournal.{IsLegalNext}
use Rattle.run_rules.specs.Position.{position_of}
use Rattle.run_rules.specs.Replies.{announcement}
use Rattle.run_rules.specs.Run.{IsRunJournal}
use Rattle.run_rules.specs.Setup.{Script}
use Rattle.run_rules.specs.Verdict.{verdict_at}
use Rattle.run_rules.proofs.Prefixes.{AtEach, IsNext, next-at}
use Rattle.run_rules.proofs.RunPrefixes.{GoesOnAfter, going-prefixes}
use Rattle.run_rules.proofs.Verdicts.{grant-parts}

-- an entry that can follow a prefix, and with which the run goes on
abbrev IsStep : Script → List Entry → Entry → Type 0
IsStep script prefix entry = IsLegalNext script prefix entry × GoesOnAfter script prefix entry

run-step : (script : Script) (journal : List Entry) → IsRunJournal script journal → AtEach (IsStep script) journal
run-step script journal run k entry at = (run.legal k entry at, going-prefixes script journal run.legal run.going k entry at)

-- two such entries are one
step-same : (script : Script) (prefix : List Entry) (entry other : Entry) → IsStep script prefix entry → IsStep script prefix other → entry ≡ other
step-same script prefix entry other step twin =
    let world : WorldState = world_after (new_world script.setup.size) prefix in
    let grant = grant-parts entry.thread other.thread entry.forced other.forced (sym step.1.chosen ∙ twin.1.chosen) in
    let event : entry.event ≡ other.event =
    same_Some entry.event other.event (sym step.0.announced ∙ ap (λ thread. announcement script prefix thread) grant.0 ∙ twin.0.announced) in
    let replied : entry.reply ≡ other.reply = step.0.replied ∙ (λ i. reply world (grant.0 i) (event i)) ∙ sym twin.0.replied in
    (λ i. record { thread = grant.0 i; event = event i; reply = replied i; forced = grant.1 i })

-- two runs begin with the same entries, as far as both go
prefixes-same : (script : Script) (journal other : List Entry) → AtEach (IsStep script) journal → AtEach (IsStep script) other
    → (k : ℕ) → k ≤ length journal → k ≤ length other → take k journal ≡ take k other
prefixes-same script journal other steps twins zero short brief = refl
prefixes-same script journal other steps twins (suc k) short brief =
    let before : take k journal ≡ take k other = prefixes-same script journal other steps twins k (omega (arith, short)) (omega (arith, brief)) in
    let next : IsNext journal k = next-at journal k (omega (arith, short)) in
    let twin : IsNext other k = next-at other k (omega (arith, brief)) in
    let same : next.item ≡ twin.item =
    step-same script (take k journal) next.item twin.item (steps k next.item next.there)
    (subst (λ prefix. IsStep script prefix twin.item) (sym before) (twins k twin.item twin.there)) in
    let one : suc k ≡ k + 1 = omega arith in
    ap (λ n. take n journal) one
    ∙ next.cut
    ∙ (λ i. before i ++ same i ∷ [])
    ∙ sym twin.cut
    ∙ ap (λ n. take n other) (sym one)

-- no run goes on where another stops
no-longer : (script : Script) (journal other : List Entry) → IsRunJournal script journal → IsRunJournal script other → length journal < length other → ⊥
no-longer script journal other run twin shorter =
    let next : IsNext other (length journal) = next-at other (length journal) shorter in
    let going = going-prefixes script other twin.legal twin.going (length journal) next.item next.there in
    let same : take (length journal) other ≡ journal =
    sym (prefixes-same script journal other (run-step script journal run) (run-step script other twin) (length journal) (omega arith) (omega (arith, shorter)))
    ∙ take-length journal in
    false≢true (ap is_some (sym (ap (λ prefix. verdict_at script.setup (position_of script prefix)) (sym same) ∙ going.going)) ∙ run.stops)

-- two runs of a script are one
pub run-unique : (script : Script) (journal other : List Entry) → IsRunJournal script journal → IsRunJournal script other → other ≡ journal
run-unique script journal other run twin = elim (cases_lt (length journal) (length other)) [
  | inl shorter ↦ absurd (no-longer script journal other run twin shorter)
  | inr no_shorter ↦ elim (cases_lt (length other) (length journal)) [
    | inl longer ↦ absurd (no-longer script other journal twin run longer)
    | inr no_longer ↦
        let long : length journal ≡ length other = omega (arith, no_shorter, no_longer) in
        sym (take-length other)
        ∙ sym (prefixes-same script journal other (run-step script journal run) (run-step script other twin) (length other) (omega (arith, long)) (omega arith))
        ∙ ap (λ n. take n journal) (sym long)
        ∙ take-length journal
  ]
]
