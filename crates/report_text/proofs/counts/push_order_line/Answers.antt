use Rattle.std.proofs.Common.{◌≡◌, List, length, Some, refl, ap, sym, ◌∙◌, append-nil}
use Rattle.std.proofs.lemmas.Option.{slice_get_read}
use Rattle.std.specs.List.{slice_get}
use Rattle.run_rules.specs.declared.entry.Entry.{Entry}
use Rattle.report_text.proofs.SelectedEntries.{order-none, order-takes, order-passes}
use Rattle.report_text.proofs.TextPrefixes.{added}
use Rattle.report_text.proofs.counts.push_order_line.Goals as goal
use Rattle.report_text.proofs.counts.push_order_line.Goals.{then-chosen+in_ok-push_thread, else-chosen}

pub loop-k-init : goal.loop-k-init
loop-k-init c = rw (order-none c.args.run.now.selection) (sym (append-nil c.extend_from_slice.new.self.items))

pub loop-k-preserved : goal.loop-k-preserved
loop-k-preserved c =
    let run = c.args.run.now in
    let items = c.journal-entry-items.result.now in
    let same : items ≡ run.journal = c.journal-entry-items.ensures.same in
    let k = c.loop-k.k in
    let entry = c.entry-item.result in
    let read : slice_get items k ≡ Some entry = slice_get_read items (length items) k entry refl c.loop-k-test.true c.entry-item.is in
    let here : slice_get run.journal k ≡ Some entry = ap (λ (l : List Entry). slice_get l k) (sym same) ∙ read in
    let told = c.selected-chosen.ensures entry here in
    elim c.if-chosen.branch [
      | then-chosen+in_ok-push_thread w ↦
          let next = order-takes run.selection run.journal k entry here (sym told ∙ w.if-chosen.true) in
          rw w.text-is (added _ _ _ _ _ _ c.loop-k.invariant w.in_ok-push_thread.ensures next)
      | else-chosen w ↦
          rw (w.text-is, order-passes run.selection run.journal k entry here (sym told ∙ w.if-chosen.false)) c.loop-k.invariant
    ]
