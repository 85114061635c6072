use Rattle.std.proofs.Common.{List, ℕ, ap, ◌∙◌, ◌++◌}
use Rattle.surw_io.proofs.MadeRules.{one_more_write}
use Rattle.surw_io.proofs.whole_file.put_file.Goals as goal

pub loop-rest-preserved : goal.loop-rest-preserved
loop-rest-preserved g c =
    let before = c.loop-rest.invariant in
    let more = one_more_write _ _ _ _ before.held.0 c.loop-rest.rest.now _ c.in_ok-n.n before.held.1 before.held.2 c.in_ok-n.ensures.made in
    record {
      held = (more.0, ap (λ (l : List ℕ). more.0 ++ l) c.split_at.ensures.back ∙ more.1, more.2);
      ready = c.in_ok-n.ensures.ready ∙ before.ready;
      coming = λ other. c.in_ok-n.ensures.coming other ∙ before.coming other;
      coming_after = λ other. c.in_ok-n.ensures.coming_after other ∙ before.coming_after other;
      left = c.in_ok-n.ensures.left ∙ before.left;
      opens = c.in_ok-n.ensures.opens ∙ before.opens;
      in_faults = c.in_ok-n.ensures.in_faults ∙ before.in_faults;
      calm = c.in_ok-n.ensures.cause.calm ∙ before.calm;
    }
