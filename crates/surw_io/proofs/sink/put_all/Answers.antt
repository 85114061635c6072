use Rattle.std.proofs.Common.{List, ℕ, ap, ◌∙◌, ◌++◌}
use Rattle.surw_io.proofs.Told.{one_more_piece}
use Rattle.surw_io.proofs.sink.put_all.Goals as goal

pub loop-rest-preserved : goal.loop-rest-preserved
loop-rest-preserved g c =
    let held = c.loop-rest.invariant.held in
    let more = one_more_piece _ _ _ held.0 c.loop-rest.rest.now _ c.in_ok-n.n held.1 held.2 c.in_ok-n.ensures.taken in
    record {
      held = (more.0, ap (λ (l : List ℕ). more.0 ++ l) c.split_at.ensures.back ∙ more.1, more.2);
      calm = c.in_ok-n.ensures.cause.calm ∙ c.loop-rest.invariant.calm;
    }
