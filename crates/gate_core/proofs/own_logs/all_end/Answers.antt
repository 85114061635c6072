use Rattle.std.proofs.Common.{◌≡◌, length, slice_index, Some, None, refl, ap, sym, subst, ◌∙◌, inl, inr, arith}
use Rattle.std.proofs.lemmas.Bool.{cases_lt}
use Rattle.std.proofs.lemmas.Grind.{common_steps}
use Rattle.std.proofs.lemmas.Option.{same_Some, slice_get_read, slice_get_within}
use Rattle.std.specs.List.{slice_get}
use Rattle.std.specs.Prelude.{slice_index_or}
use Rattle.gate_core.specs.Log.{EndsAt}
use Rattle.gate_core.proofs.own_logs.all_end.Goals as goal

pub loop-thread-preserved : goal.loop-thread-preserved
loop-thread-preserved g c j log lt at = elim (cases_lt j c.loop-thread.thread) [
  | inl below ↦ c.loop-thread.invariant j log below at
  | inr past ↦
      let n = c.loop-thread.thread in
      let logs = c.args.logs.now in
      let words = c.args.run.now.words in
      let here : j ≡ n = omega (arith, past, lt) in
      let thread : c.unwrap.result ≡ n = grind (arith, common_steps) in
      let one = slice_get_read logs (length logs) n c.index-logs-thread.result refl (omega (arith, c.loop-thread-test.true, c.loop-thread.auto.thread-end)) c.index-logs-thread.is in
      let found : Some c.index-logs-thread.result ≡ Some log = sym one ∙ ap (λ m. slice_get logs m) (sym here) ∙ at in
      let word = c.next-word.ensures ∙ ap (λ m. slice_index_or words m None) (thread ∙ sym here) in
      subst (λ w. EndsAt g.R.Routine log (slice_index c.args.made.now j) w) word
      (subst (λ m. EndsAt g.R.Routine log (slice_index c.args.made.now m) c.next-word.result) (sym here)
      (subst (λ l. EndsAt g.R.Routine l (slice_index c.args.made.now n) c.next-word.result) (same_Some _ _ found) (c.if-not-ends_at.ensures refl)))
]

pub returns : goal.returns
returns g c same thread log at =
    c.loop-thread.invariant thread log (omega (arith, slice_get_within c.args.logs.now thread log at, c.loop-thread-test.false, c.loop-thread.auto.thread-end)) at
