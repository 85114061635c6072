use Rattle.std.proofs.Common.{ap, sym, subst, arith}
use Rattle.seed_draws.specs.Answers.{source_of}
use Rattle.run_rules.specs.Setup.{IsValid}
use Rattle.pure_run.specs.Opening.{setup_in}
use Rattle.pure_run.proofs.core_state.Core.open.Goals as goal

pub open-requires : goal.open-requires
open-requires g c =
    let plan = c.args.plan.now in
    let valid = c.requires.valid (source_of g.S.Draws plan.selected) (source_of g.O.Draws plan.other) in
    omega (arith, valid.threads)

pub open-requires-2-clause-valid : goal.open-requires-2-clause-valid
open-requires-2-clause-valid g c selected others =
    subst (λ opening. IsValid (setup_in selected others opening)) (sym (ap (λ h. h.opening) c.in_ok-history.ensures))
    (c.requires.valid selected others)
