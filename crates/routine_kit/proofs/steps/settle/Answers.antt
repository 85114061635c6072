use Rattle.std.proofs.Common.{◌∙◌, ◌+◌, ℕ, sym, ap, arith, drop}
use Rattle.routine_kit.specs.Steps.{settle}
use Rattle.routine_kit.proofs.Settle.{settle-end, settle-at, settle-passed}
use Rattle.routine_kit.proofs.steps.settle.Goals as goal

pub overflow_add-place-in-Some : goal.overflow_add-place-in-Some
overflow_add-place-in-Some c = omega (arith, c.in-Some.ensures.few)

pub loop-place-preserved : goal.loop-place-preserved
loop-place-preserved c =
    let lines = c.args.lines.now in
    let place = c.loop-place.place in
    let passes = c.in-Some.ensures.passes place (drop (place + 1) lines) in
    record {
      same = ap (λ (next : ℕ). settle next (drop next lines) 0 c.pass.new.registers) c.min-place.ensures
          ∙ sym (settle-passed lines _ place c.in-Some.over c.loop-place.registers c.pass.new.registers c.loop-place-test.true passes)
          ∙ c.loop-place.invariant.same;
    }

pub returns-in-None : goal.returns-in-None
returns-in-None c =
    let lines = c.args.lines.now in
    let place = c.loop-place.place in
    let stands = c.in-None.ensures.stands place (drop (place + 1) lines) in
    sym (settle-at lines _ place c.loop-place.registers c.loop-place-test.true ∙ stands) ∙ c.loop-place.invariant.same

pub returns-after-loop-place : goal.returns-after-loop-place
returns-after-loop-place c = sym (settle-end _ _ _ c.loop-place-test.false) ∙ c.loop-place.invariant.same
