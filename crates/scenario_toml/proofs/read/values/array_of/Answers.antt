use Rattle.std.proofs.Common.{◌≡◌, ◌++◌, ap, length, pos, to_z, of_z, w64, rules, arith, inr}
use Rattle.scenario_toml.proofs.Trees.{array-large, array-few}
use Rattle.scenario_toml.proofs.read.values.array_of.Goals as goal

pub returns-then-items-most-clause-fault : goal.returns-then-items-most-clause-fault
returns-then-items-most-clause-fault c =
    let many : to_z w64 (length c.as_slice-items.result.now) ≡ pos (length c.as_slice-items.result.now) = search rules in
    let most : to_z w64 (of_z w64 c.from.result) ≡ pos c.args.most = search rules in
    rw (many, most, c.as_slice-items.ensures.value, c.in_ok-new-in-Some.ensures) (inr (array-large (c.args.path.now ++ c.args.name.now) c.args.most _ c.in-Some.items.now.items c.in-Some.ensures
    (omega (arith, c.if-items-most.true, ap length c.as_slice-items.ensures.value))))

pub returns-else-items-most-clause-ok : goal.returns-else-items-most-clause-ok
returns-else-items-most-clause-ok c =
    rw c.as_slice-items.ensures.value (array-few (c.args.path.now ++ c.args.name.now) c.args.most _ c.in-Some.items.now.items c.in-Some.ensures
    (omega (arith, c.if-items-most.false, ap length c.as_slice-items.ensures.value)))
