use Rattle.std.proofs.Common.{arith}
use Rattle.std.proofs.lemmas.Grind.{common_steps}
use Rattle.std.proofs.lemmas.Result.{err_from_is_err_and}
use Rattle.std.proofs.lemmas.List.Elements.{All-push}
use Rattle.scenario_toml.proofs.Items.{each-more, each-fault, each-all}
use Rattle.scenario_toml.proofs.read.items.read_items.Goals as goal

pub returns-in_err-read-clause-fault : goal.returns-in_err-read-clause-fault
returns-in_err-read-clause-fault g c =
    let p = err_from_is_err_and c.from_residual-in_err-read.result c.from_residual-in_err-read.ensures.1 in
    rw (p.1, p.2) (each-fault (g.T.Item.item c.args.key.now) c.args.array.now c.loop-place.place c.index-array-place.result c.loop-place.items.items _ _
    c.loop-place-test.true c.index-array-place.is c.in_err-read.ensures.fault c.loop-place.invariant.so_far)

pub loop-place-preserved : goal.loop-place-preserved
loop-place-preserved g c = record {
  so_far = rw c.in_ok-push.ensures.items (each-more (g.T.Item.item c.args.key.now) c.args.array.now c.loop-place.place c.index-array-place.result c.loop-place.items.items _ _
      c.loop-place-test.true c.index-array-place.is c.in_ok-read.ensures.ok c.loop-place.invariant.so_far);
  kept = rw c.in_ok-push.ensures.items (All-push g.T.Item.IsKept c.loop-place.items.items _ c.loop-place.invariant.kept c.in_ok-read.ensures.kept);
  many = grind (arith, common_steps);
}

pub returns-clause-ok : goal.returns-clause-ok
returns-clause-ok g c = each-all (g.T.Item.item c.args.key.now) c.args.array.now c.loop-place.place c.loop-place.items.items _ c.loop-place-test.false c.loop-place.invariant.so_far
