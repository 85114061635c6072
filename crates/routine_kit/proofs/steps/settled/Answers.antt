use Rattle.std.proofs.Common.{◌≡◌, ◌∙◌, ℕ, sym, ap, arith}
use Rattle.routine_kit.specs.Steps.{settled}
use Rattle.routine_kit.proofs.Settle.{settled-stands, settled-round, settled-none}
use Rattle.routine_kit.proofs.steps.settled.Goals as goal

pub returns-then-place-lines : goal.returns-then-place-lines
returns-then-place-lines c =
    sym (settled-stands c.args.lines.now c.loop-left.left c.loop-left.place c.loop-left.registers _ c.loop-left-test.true c.settle-place.ensures c.if-place-lines.true) ∙ c.loop-left.invariant

pub loop-left-preserved : goal.loop-left-preserved
loop-left-preserved c =
    sym (settled-round c.args.lines.now c.loop-left.left c.loop-left.place c.loop-left.registers _ c.loop-left-test.true c.settle-place.ensures c.if-place-lines.false) ∙ c.loop-left.invariant

pub returns : goal.returns
returns c =
    let none : c.loop-left.left ≡ 0 = omega arith in
    sym (settled-none c.args.lines.now c.loop-left.place c.loop-left.registers)
    ∙ ap (λ (left : ℕ). settled c.args.lines.now left c.loop-left.place c.loop-left.registers) (sym none) ∙ c.loop-left.invariant
