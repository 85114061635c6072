use Rattle.std.proofs.Common.{◌≡◌, ◌++◌, [], ◌∷◌, arith}
use Rattle.std.proofs.lemmas.Grind.{common_steps}
use Rattle.gate_core.proofs.Passes.{at-place}
use Rattle.gate_core.proofs.tests.each_is_told.Goals as goal

pub wait_grant-requires : goal.wait_grant-requires
wait_grant-requires g c =
    let front = c.loop-pass.yielded in
    let kept : (front ++ c.in-Some.pass ∷ []) ++ c.next.new.self.rest.items ≡ c.args.passes.items = grind (arith, common_steps) in
    (at-place c.args.gate.now.table front c.in-Some.pass c.next.new.self.rest.items c.args.passes.items kept c.requires.row).table_is
