-- What the selected order theorem says of the outcome of a run.
use Rattle.std.specs.Prelude.{◌≡◌, IsOk, sum}
use Rattle.seed_draws.specs.Answers.{NeverRefuses}
use Rattle.seed_draws.specs.Falling.{falling}
use Rattle.walk_rules.specs.declared.rule.Rule.TheVariants.{Surw}
use Rattle.run_rules.specs.declared.verdict.Verdict.TheVariants.{Ended}
use Rattle.run_rules.specs.Run.{Outcome}
use Rattle.run_rules.specs.Setup.{Script}
use Rattle.selected_order.specs.SelectedOrder.{IsInDrawnOrder, IsUnforced}
use Rattle.selected_order.specs.SurwScript.{IsTame}

-- under SURW: where it has ended and no entry is forced, its selected events stand in the order that the draws name; and where
-- the script is never blocked, its counts are true, it keeps within the step limit and the sources don't refuse, it has ended and
-- no entry is forced
pub record KeepsOrder (script : Script) (outcome : Outcome) : Type 0 where
  pub drawn : script.setup.rule ≡ Surw → outcome.verdict ≡ Ended → IsUnforced outcome.journal
      → IsInDrawnOrder script.setup outcome.journal
  pub ends : script.setup.rule ≡ Surw → IsTame script → IsOk (script.setup.selected.answers (falling (sum script.setup.counts)))
      → NeverRefuses script.setup.other.answers → (outcome.verdict ≡ Ended) × IsUnforced outcome.journal
