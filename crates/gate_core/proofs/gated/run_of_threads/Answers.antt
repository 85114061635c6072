use Rattle.std.proofs.Common.{◌≡◌, [], ap, sym, subst, ◌∙◌}
use Rattle.std.specs.List.{list_any}
use Rattle.std.specs.Prelude.{MatchBool}
use Rattle.pure_run.specs.Core.{CoreState, is_due}
use Rattle.pure_run.proofs.InlineRun.{none-due}
use Rattle.gate_core.specs.Gate.{GateState, AllRestAgain, AreAllPasses, AreNewPasses}
use Rattle.gate_core.proofs.Passes.{all-again}
use Rattle.gate_core.proofs.gated.run_of_threads.Goals as goal

pub gate_of-requires-clause-said : goal.gate_of-requires-clause-said
gate_of-requires-clause-said g c =
    ap (λ (core : CoreState g.row.S.Denot g.row.O.Denot). list_any is_due core.words) c.say_first_words.ensures ∙ none-due g.R.Routine c.as_slice-routines.result.now

pub into_core-core-requires : goal.into_core-core-requires
into_core-core-requires g c =
    let gate = c.in_ok-gate.gate in
    let passes = c.in_ok-passes.passes.items in
    let ended = c.in-Some.ended.passes.items in
    let new = subst (λ given. MatchBool given (passes ≡ []) (AreNewPasses gate passes)) c.in_ok-gate.ensures.given c.in_ok-passes.ensures.passes in
    let told = c.in-Some.ensures in
    let again = subst (λ before. AllRestAgain before ended) c.in_ok-crew.ensures.passes told.0 in
    subst (λ (gate : GateState). AreAllPasses gate ended) (sym c.in_ok-passes.ensures.given) (all-again gate.table gate.threads passes ended new.0 again)
