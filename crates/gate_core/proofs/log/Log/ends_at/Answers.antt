use Rattle.std.proofs.Common.{sym, subst, ◌∙◌}
use Rattle.event_class.proofs.Same.{same_word}
use Rattle.gate_core.specs.Log.{Follows}
use Rattle.gate_core.proofs.log.Log.ends_at.Goals as goal

pub returns-then-len-items : goal.returns-then-len-items
returns-then-len-items g c same =
    let i = c.self.invariant in
    record {
      follows = subst (λ v. Follows g.R.Routine v.start v.items v.now) c.self.view_is i.follows;
      count = sym c.len.ensures ∙ c.if-len-items.true;
      says = sym (same_word _ _ (sym c.eq.ensures ∙ same)) ∙ c.next.ensures;
    }
