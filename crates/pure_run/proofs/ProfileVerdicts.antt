-- Why the profile's run stops.
use Rattle.std.proofs.Common.{◌≡◌, ℕ, ◌==◌, List, [], ◌∷◌, length, Option, IfSome, IsOk, Result, Ok, Err, refl, subst, ap, sym, ◌∙◌}
use Rattle.std.proofs.lemmas.Bool.{eqb-true, false≢true}
use Rattle.seed_draws.specs.declared.draw_fault.DrawFault.{DrawFault}
use Rattle.seed_draws.specs.Answers.{answers, with_first, without_first}
use Rattle.seed_draws.specs.Seeded.{SeededState, seeded, seeded_after}
use Rattle.seed_draws.specs.SeededSource.{seeded_draws}
use Rattle.walk_rules.specs.Granted.{granted_at}
use Rattle.walk_rules.specs.Plain.{plain_thread}
use Rattle.run_rules.specs.declared.verdict.Verdict.{Verdict}
use Rattle.run_rules.specs.declared.verdict.Verdict.TheVariants.{Ended, Deadlock, WrongCount, Draw, Asked, Left, StepLimit}
use Rattle.run_rules.specs.PlainChoice.{plain_choice}
use Rattle.run_rules.specs.Position.{Position, position_of, seen_at}
use Rattle.run_rules.specs.RuleChoice.{choice}
use Rattle.run_rules.specs.Run.{IsRun, Outcome}
use Rattle.run_rules.specs.Setup.{Script, Setup}
use Rattle.run_rules.specs.Verdict.{deadlock, end_of_threads, refusal, step_limit, verdict_at}
use Rattle.run_rules.proofs.Scripts.{length-words}
use Rattle.run_rules.proofs.Verdicts.{verdict-unasked}
use Rattle.pure_run.specs.Profile.{profile_script, profile_setup}
use Rattle.pure_run.proofs.Stops.{first-if, unless-if, where-if}

-- what its verdict can be
abbrev pub IsProfileVerdict : ℕ → Verdict → Type 0
IsProfileVerdict max_steps Ended = Unit {0}
IsProfileVerdict max_steps (StepLimit step) = step ≡ max_steps
IsProfileVerdict max_steps (Deadlock step) = Unit {0}
IsProfileVerdict max_steps _ = ⊥

-- a seeded source answers all bounds
first-ok : (draw : ℕ) (rest : Result (List ℕ) DrawFault) → IsOk rest → IsOk (with_first (Ok draw) rest)
first-ok draw (Ok draws) ok = refl
first-ok draw (Err fault) ok = absurd (false≢true ok)

always-answers : (s : SeededState) (bounds : List ℕ) → IsOk (answers seeded_draws s bounds)
unfolding answers
always-answers s [] = refl
always-answers s (bound ∷ bounds) = first-ok _ (answers seeded_draws (seeded_after s bound) bounds) (always-answers (seeded_after s bound) bounds)

-- so the choice is no refusal
granted-if : (P : Verdict → Type 0) (step n : ℕ) (thread_of : ℕ → ℕ) (answer : Result (List ℕ) DrawFault) → IsOk answer
    → IfSome (refusal step (granted_at thread_of (without_first n answer))) P
granted-if P step n thread_of (Ok draws) ok = tt
granted-if P step n thread_of (Err fault) ok = absurd (false≢true ok)

-- the verdict at a position of the profile's run
pub profile-verdict : (given : Setup) (seed : ℕ) (x : Position) → IfSome (verdict_at (profile_setup given seed) x) (IsProfileVerdict given.max_steps)
unfolding plain_choice
profile-verdict given seed x =
    let setup : Setup = profile_setup given seed in
    let P : Verdict → Type 0 = IsProfileVerdict given.max_steps in
    let last : List (Option Verdict) = refusal (length x.journal) (choice setup x) ∷ [] in
    subst (λ (v : Option Verdict). IfSome v P) (sym (verdict-unasked setup x refl))
    (first-if P (end_of_threads x) (step_limit setup x ∷ deadlock setup x ∷ last) (unless-if P _ Ended tt)
    (first-if P (step_limit setup x) (deadlock setup x ∷ last)
    (where-if P (length x.journal == given.max_steps) (StepLimit (length x.journal)) (λ full. eqb-true (length x.journal) given.max_steps full))
    (first-if P (deadlock setup x) last (unless-if P _ (Deadlock (length x.journal)) tt)
    (first-if P (refusal (length x.journal) (choice setup x)) []
    (granted-if P (length x.journal) _ (plain_thread (seen_at setup x)) (answers seeded_draws (seeded seed 4) _) (always-answers (seeded seed 4) _)) tt))))

-- of the outcome of the profile's run
pub outcome-verdict : (script : Script) (seed : ℕ) (outcome : Outcome) → IsRun (profile_script script seed) outcome
    → IsProfileVerdict script.setup.max_steps outcome.verdict
outcome-verdict script seed outcome is =
    subst (λ verdict. IfSome verdict (IsProfileVerdict script.setup.max_steps)) is.verdict
    (profile-verdict script.setup seed (position_of (profile_script script seed) outcome.journal))

-- its step limit is the plan's
pub limit-step : (max_steps : ℕ) (verdict : Verdict) (step : ℕ) → IsProfileVerdict max_steps verdict → verdict ≡ StepLimit step
    → verdict ≡ StepLimit max_steps
limit-step max_steps verdict step can is = is ∙ ap StepLimit (subst (IsProfileVerdict max_steps) is can)

-- there is no fourth verdict
pub no-other : (max_steps : ℕ) (verdict : Verdict) → IsProfileVerdict max_steps verdict → (verdict ≡ Ended → ⊥)
    → ((step : ℕ) → verdict ≡ StepLimit step → ⊥) → ((step : ℕ) → verdict ≡ Deadlock step → ⊥) → ⊥
no-other max_steps Ended can ended limit stuck = ended refl
no-other max_steps (StepLimit step) can ended limit stuck = limit step refl
no-other max_steps (Deadlock step) can ended limit stuck = stuck step refl
no-other max_steps (WrongCount step thread counted seen) can ended limit stuck = can
no-other max_steps (Draw step fault) can ended limit stuck = can
no-other max_steps (Asked step thread event announced) can ended limit stuck = can
no-other max_steps (Left step thread) can ended limit stuck = can

-- it has a last word for each thread
pub outcome-threads : (script : Script) (outcome : Outcome) → IsRun script outcome → length outcome.words ≡ script.setup.threads
outcome-threads script outcome is = ap length is.words ∙ length-words script outcome.journal
