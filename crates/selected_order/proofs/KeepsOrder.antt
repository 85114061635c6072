-- The selected order theorem of the outcome of a run.
use Rattle.std.proofs.Common.{◌≡◌, length, Some, ap, sym, ◌∙◌}
use Rattle.std.proofs.lemmas.Option.{same_Some}
use Rattle.seed_draws.specs.Answers.{IsSource}
use Rattle.run_rules.specs.declared.verdict.Verdict.TheVariants.{Ended}
use Rattle.run_rules.specs.Position.{position_of}
use Rattle.run_rules.specs.Run.{IsRun, Outcome}
use Rattle.run_rules.specs.Setup.{Script}
use Rattle.run_rules.proofs.Scripts.{length-words}
use Rattle.selected_order.specs.KeepsOrder.{KeepsOrder}
use Rattle.selected_order.proofs.EndsInOrder.{ends-in-order}
use Rattle.selected_order.proofs.EndsUnforced.{ends-unforced}

pub keeps-order : (script : Script) (outcome : Outcome) → length script.setup.counts ≡ script.setup.threads → IsSource script.setup.selected.answers
    → IsSource script.setup.other.answers → IsRun script outcome → KeepsOrder script outcome
unfolding position_of
keeps-order script outcome counted selected other is = record {
  drawn = λ rule ended unforced.
      ends-in-order script.setup (position_of script outcome.journal) rule selected other (counted ∙ sym (length-words script outcome.journal)) is.run.going unforced
      (is.verdict ∙ ap Some ended);
  ends = λ rule tame answers never.
      let ends = ends-unforced script outcome.journal rule tame selected other answers never is.run in
      (same_Some outcome.verdict Ended (sym is.verdict ∙ ends.0), ends.1);
}
