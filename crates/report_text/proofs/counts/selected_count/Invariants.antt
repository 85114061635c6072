use Rattle.std.proofs.Common.{◌≡◌, ◌≤◌, take}
use Rattle.report_text.specs.Counts.{selected_count}
use Rattle.report_text.proofs.counts.selected_count.Given as goal

abbrev pub invariant-loop-k : goal.invariant-loop-k
invariant-loop-k l = record {
  counted : l.count ≡ selected_count l.run.selection (take l.k l.run.journal);
  within : l.count ≤ l.k;
}
