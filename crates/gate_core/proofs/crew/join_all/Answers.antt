use Rattle.std.proofs.Common.{[], ◌∷◌, arith}
use Rattle.std.proofs.lemmas.Grind.{common_steps}
use Rattle.std.proofs.lemmas.List.{length-append}
use Rattle.gate_core.proofs.Passes.{again-more}
use Rattle.gate_core.proofs.crew.join_all.Goals as goal

pub loop-handle-preserved : goal.loop-handle-preserved
loop-handle-preserved g c =
    let i = c.loop-handle.invariant in
    let front = c.loop-handle.yielded in
    let handle = c.in-Some.handle in (
      again-more (λ handle. handle.promise.pass.value) front handle c.loop-handle.passes.items c.push_reserved.new.self.items c.join-log.result.pass i.0 c.join-log.ensures.1 c.push_reserved.ensures.items,
      grind (arith, common_steps),
      grind (arith, common_steps),
      omega (arith, i.3, c.push_reserved.ensures.len, length-append front (handle ∷ [])),
      omega (arith, i.4, c.push_reserved.ensures.capacity),
      omega (arith, i.5, c.push_reserved-in-loop-handle.ensures.capacity),
      tt,
      tt,
    )
