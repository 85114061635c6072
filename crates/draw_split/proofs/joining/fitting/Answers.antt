use Rattle.surw_base.specs.declared.limits.TheConstants.{THREADS}
use Rattle.std.proofs.Common.{ℕ, List, ap, sym, ◌∙◌, inl, inr, arith}
use Rattle.std.proofs.lemmas.Bool.{cases_lt}
use Rattle.std.proofs.lemmas.List.{get_or_past}
use Rattle.draw_split.specs.JoinFault.{times}
use Rattle.draw_split.proofs.joining.fitting.Goals as goal

pub returns-clause-ok : goal.returns-clause-ok
returns-clause-ok c = record {
  each = λ other. elim (cases_lt other THREADS) [
    | inl low ↦ c.loop-number.invariant other (omega arith)
    | inr high ↦
        sym (c.times_of-times.ensures.times other ∙ ap (λ (l : List ℕ). times l other) c.order.ensures)
        ∙ get_or_past c.times_of-times.result other 0 (omega (arith, c.times_of-times.ensures.threads))
        ∙ sym (get_or_past c.args.counts.now other 0 (omega (arith, c.requires.threads)))
  ];
}
