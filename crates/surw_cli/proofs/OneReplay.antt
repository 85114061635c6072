-- The jobs `check` and `replay` make one answer of their files.
use Rattle.std.proofs.Common.{◌≡◌, ℕ, List, Option, None, Ok, Err, refl, ap, sym, subst, ◌∙◌}
use Rattle.std.specs.Option.{IsSome}
use Rattle.fault_text.specs.declared.fault.Fault.TheVariants.{OtherScenario, Replay, Scenario}
use Rattle.replay_text.specs.Reading.{saved_of}
use Rattle.replay_text.specs.SavedRun.{SavedRun}
use Rattle.replay_text.specs.Summary.{summary_text}
use Rattle.replay_text.specs.declared.replay_fault.ReplayFault.{ReplayFault}
use Rattle.report_text.specs.Report.{report_text}
use Rattle.run_rules.proofs.Outcomes.{one-outcome}
use Rattle.run_rules.specs.Run.{IsRun}
use Rattle.run_rules.specs.Setup.{Script}
use Rattle.scenario_toml.specs.FollowPlan.{IsFollowPlanOf}
use Rattle.scenario_toml.specs.State.{ScenarioState}
use Rattle.scenario_toml.specs.declared.fault.ScenarioFault.{ScenarioFault}
use Rattle.surw_base.specs.declared.limits.TheConstants.{SAVED_LIMIT}
use Rattle.surw_io.specs.Content.{Entry}
use Rattle.surw_cli.specs.Answer.{Answer, Report, Refusal}
use Rattle.surw_cli.specs.CheckAnswer.{IsCheckReport, check_answer}
use Rattle.surw_cli.specs.FileAnswer.{IsFileAnswer}
use Rattle.surw_cli.specs.Planned.{status_of_run}
use Rattle.surw_cli.specs.ReplayAnswer.{IsOfOther, IsReplayAnswer, IsReplayReport, NoScenario, OfSaved, replayed_answer}
use Rattle.surw_cli.specs.Script.{script}
use Rattle.surw_cli.specs.declared.status.Status.{Status}
use Rattle.surw_cli.specs.declared.status.Status.TheVariants.{Done}
use Rattle.surw_cli.proofs.OneFile.{MakesOne, file-one}
use Rattle.surw_cli.proofs.OneScenario.{fault-one, no-fault, scenario-one}
use Rattle.surw_cli.proofs.OneScript.{follow-script-one}

-- a text is read in one way
pub saved-one : (bytes : List ℕ) (saved twin : SavedRun) → saved_of bytes ≡ Ok saved → saved_of bytes ≡ Ok twin → twin ≡ saved
saved-one bytes saved twin is are = let results : Ok twin ≡ Ok saved = sym are ∙ is in cc results

cause-one : (bytes : List ℕ) (fault other : ReplayFault) → saved_of bytes ≡ Err fault → saved_of bytes ≡ Err other → other ≡ fault
cause-one bytes fault other is are = let results : Err other ≡ Err fault = sym are ∙ is in cc results

no-cause : (bytes : List ℕ) (saved : SavedRun) (fault : ReplayFault) → saved_of bytes ≡ Ok saved → saved_of bytes ≡ Err fault → ⊥
no-cause bytes saved fault is refused = cc (sym refused ∙ is)

-- ---- check

-- what the bytes are, by the answer that they have
data Checked (bytes : List ℕ) (answer : Answer) : Type 0 where
  Told : (text : List ℕ) → IsCheckReport bytes text → answer ≡ Report Done text None → Checked bytes answer
  Unread : (fault : ReplayFault) → saved_of bytes ≡ Err fault → answer ≡ Refusal (Replay fault) → Checked bytes answer

checked : (bytes : List ℕ) (answer : Answer) → check_answer bytes answer → Checked bytes answer
checked bytes (Report Done text None) is = Told text is refl
checked bytes (Refusal (Replay fault)) is = Unread fault is refl
checked bytes _ is = absurd is

checked-one : (bytes : List ℕ) (answer other : Answer) → Checked bytes answer → Checked bytes other → other ≡ answer
checked-one bytes answer other (Told text told is) (Told twin again same) =
    same
    ∙ ap (λ (t : List ℕ). Report Done t None)
    (again.printed ∙ ap summary_text (saved-one bytes told.saved again.saved told.form again.form) ∙ sym told.printed)
    ∙ sym is
checked-one bytes answer other (Told text told is) (Unread fault refused same) = absurd (no-cause bytes told.saved fault told.form refused)
checked-one bytes answer other (Unread fault refused is) (Told text told same) = absurd (no-cause bytes told.saved fault told.form refused)
checked-one bytes answer other (Unread fault refused is) (Unread twin again same) =
    same ∙ ap (λ (f : ReplayFault). Refusal (Replay f)) (cause-one bytes fault twin refused again) ∙ sym is

pub check-one : MakesOne check_answer
check-one bytes answer other is twin = checked-one bytes answer other (checked bytes answer is) (checked bytes other twin)

-- ---- replay

-- a saved run of a scenario has one replay
outcome-one : (scenario : ScenarioState) (bytes saved_bytes : List ℕ) (status twin_status : Status) (text other : List ℕ)
    (is : IsReplayReport bytes scenario saved_bytes status text) (are : IsReplayReport bytes scenario saved_bytes twin_status other) → are.outcome ≡ is.outcome
outcome-one scenario bytes saved_bytes status twin_status text other is are =
    let saved = saved-one saved_bytes is.planned.saved are.planned.saved is.planned.form are.planned.form in
    let planned : IsFollowPlanOf scenario is.planned.saved.entries are.plan =
    subst (λ (s : SavedRun). IsFollowPlanOf scenario s.entries are.plan) saved are.planned.planned in
    let same : script are.plan ≡ script is.plan = follow-script-one scenario is.planned.saved.entries is.plan are.plan is.planned.planned planned in
    one-outcome (script is.plan) is.outcome are.outcome is.run (subst (λ (s : Script). IsRun s are.outcome) same are.run)

-- what the saved bytes are, by the answer that they have
data Case (bytes : List ℕ) (scenario : ScenarioState) (saved_bytes : List ℕ) (answer : Answer) : Type 0 where
  Repeated : (status : Status) (text : List ℕ) → IsReplayReport bytes scenario saved_bytes status text → answer ≡ Report status text None
      → Case bytes scenario saved_bytes answer
  Unsaved : (fault : ReplayFault) → saved_of saved_bytes ≡ Err fault → answer ≡ Refusal (Replay fault) → Case bytes scenario saved_bytes answer
  Foreign : (kept needed : List ℕ) → IsOfOther bytes saved_bytes kept needed → answer ≡ Refusal (OtherScenario kept needed) → Case bytes scenario saved_bytes answer

case : (bytes : List ℕ) (scenario : ScenarioState) (saved_bytes : List ℕ) (answer : Answer) → replayed_answer bytes scenario saved_bytes answer
    → Case bytes scenario saved_bytes answer
case bytes scenario saved_bytes (Report status text None) is = Repeated status text is refl
case bytes scenario saved_bytes (Refusal (Replay fault)) is = Unsaved fault is refl
case bytes scenario saved_bytes (Refusal (OtherScenario kept needed)) is = Foreign kept needed is refl
case bytes scenario saved_bytes _ is = absurd is

module _ (bytes : List ℕ) (scenario : ScenarioState) (saved_bytes : List ℕ) where
  repeated-foreign : (status : Status) (text kept needed : List ℕ) → IsReplayReport bytes scenario saved_bytes status text → IsOfOther bytes saved_bytes kept needed → ⊥
  repeated-foreign status text kept needed is other =
      let saved = saved-one saved_bytes is.planned.saved other.saved is.planned.form other.form in
      other.differ (ap (λ (s : SavedRun). s.name) saved ∙ is.planned.named)

  case-one : (answer other : Answer) → Case bytes scenario saved_bytes answer → Case bytes scenario saved_bytes other → other ≡ answer
  case-one answer other (Repeated status text made is) (Repeated twin_status twin remade same) =
      let outcome = outcome-one scenario bytes saved_bytes status twin_status text twin made remade in
      same
      ∙ (λ i. Report ((remade.ends ∙ ap status_of_run outcome ∙ sym made.ends) i) ((remade.printed ∙ ap report_text outcome ∙ sym made.printed) i) None)
      ∙ sym is
  case-one answer other (Repeated status text made is) (Unsaved fault refused same) = absurd (no-cause saved_bytes made.planned.saved fault made.planned.form refused)
  case-one answer other (Repeated status text made is) (Foreign kept needed foreign same) = absurd (repeated-foreign status text kept needed made foreign)
  case-one answer other (Unsaved fault refused is) (Repeated status text made same) = absurd (no-cause saved_bytes made.planned.saved fault made.planned.form refused)
  case-one answer other (Unsaved fault refused is) (Unsaved twin again same) =
      same ∙ ap (λ (f : ReplayFault). Refusal (Replay f)) (cause-one saved_bytes fault twin refused again) ∙ sym is
  case-one answer other (Unsaved fault refused is) (Foreign kept needed foreign same) = absurd (no-cause saved_bytes foreign.saved fault foreign.form refused)
  case-one answer other (Foreign kept needed foreign is) (Repeated status text made same) = absurd (repeated-foreign status text kept needed made foreign)
  case-one answer other (Foreign kept needed foreign is) (Unsaved fault refused same) = absurd (no-cause saved_bytes foreign.saved fault foreign.form refused)
  case-one answer other (Foreign kept needed foreign is) (Foreign twin_kept twin_needed again same) =
      let saved = saved-one saved_bytes foreign.saved again.saved foreign.form again.form in
      same
      ∙ (λ i. Refusal (OtherScenario ((again.kept_is ∙ ap (λ (s : SavedRun). s.name) saved ∙ sym foreign.kept_is) i) ((again.needed_is ∙ sym foreign.needed_is) i)))
      ∙ sym is

replayed-one : (bytes : List ℕ) (scenario : ScenarioState) → MakesOne (replayed_answer bytes scenario)
replayed-one bytes scenario saved_bytes answer other is twin =
    case-one bytes scenario saved_bytes answer other (case bytes scenario saved_bytes answer is) (case bytes scenario saved_bytes other twin)

pub replay-one : (bytes : List ℕ) (coming : Option Entry) → IsSome coming → (answer other : Answer) → IsReplayAnswer bytes coming answer → IsReplayAnswer bytes coming other
    → other ≡ answer
replay-one bytes coming told answer other (NoScenario fault wrong is) (NoScenario twin again same) =
    same ∙ ap (λ (f : ScenarioFault). Refusal (Scenario f)) (fault-one bytes fault twin wrong again) ∙ sym is
replay-one bytes coming told answer other (NoScenario fault wrong is) (OfSaved scenario form made) = absurd (no-fault bytes scenario fault form wrong)
replay-one bytes coming told answer other (OfSaved scenario form made) (NoScenario fault wrong is) = absurd (no-fault bytes scenario fault form wrong)
replay-one bytes coming told answer other (OfSaved scenario form made) (OfSaved twin again remade) =
    file-one SAVED_LIMIT (replayed_answer bytes scenario) (replayed-one bytes scenario) coming told answer other made
    (subst (λ (s : ScenarioState). IsFileAnswer SAVED_LIMIT (replayed_answer bytes s) coming other) (scenario-one bytes scenario twin form again) remade)
