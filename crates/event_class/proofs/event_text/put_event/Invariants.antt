use Rattle.std.proofs.Common.{◌≡◌, ◌≤◌, ◌+◌, ◌*◌, ◌++◌, length, take, drop}
use Rattle.surw_base.specs.Lines.{items_text}
use Rattle.event_class.proofs.event_text.put_event.Given as goal

abbrev pub invariant-loop-i : goal.invariant-loop-i
invariant-loop-i l = record {
  text : l.line ≡ items_text (drop l.i (take l.count l.numbers)) ++ l.initial.line;
  room : length l.line + 21 * l.i ≤ 63 + length l.initial.line;
}
