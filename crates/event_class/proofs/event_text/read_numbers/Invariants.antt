use Rattle.std.proofs.Common.{◌≡◌, length, take}
use Rattle.surw_base.specs.Prefix.{IsLongestPrefix}
use Rattle.event_class.specs.Event.{AreNumbersText}
use Rattle.event_class.proofs.event_text.read_numbers.Given as goal

abbrev pub invariant-loop-i : goal.invariant-loop-i
invariant-loop-i l = record {
  longest : IsLongestPrefix (AreNumbersText l.i) l.text (take l.i l.numbers) l.len;
  room : length l.numbers ≡ 3;
}
