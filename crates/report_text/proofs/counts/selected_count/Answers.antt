use Rattle.std.proofs.Common.{◌≡◌, length, sym, ap, ◌∙◌, arith}
use Rattle.std.specs.Int.{from_bool}
use Rattle.report_text.proofs.SelectedEntries.{at_most_one, count-none, count-next}
use Rattle.report_text.proofs.TextPrefixes.{there}
use Rattle.report_text.proofs.counts.selected_count.Goals as goal

pub loop-k-init : goal.loop-k-init
loop-k-init c = record { counted = sym (count-none c.args.run.now.selection); within = omega arith }

pub loop-k-preserved : goal.loop-k-preserved
loop-k-preserved c =
    let run = c.args.run.now in
    let k = c.loop-k.k in
    let at = there run.journal k (omega (arith, ap length c.journal-k-end.ensures.same)) in
    let next = count-next run.selection run.journal k at.element at.here in
    let one : c.from-count.result ≡ from_bool c.selected.result = c.from-count.ensures in
    let told = one ∙ ap from_bool (c.selected.ensures at.element at.here) in
    record {
      counted = omega (arith, c.loop-k.invariant.counted, told, next);
      within = omega (arith, one, at_most_one c.selected.result, c.loop-k.invariant.within);
    }
