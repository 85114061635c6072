use Rattle.std.proofs.Common.{◌∷◌, List, ℕ, length, ap, sym, ◌∙◌, arith}
use Rattle.event_class.proofs.Numbers.{one-before}
use Rattle.event_class.proofs.event_text.put_event.Goals as goal

pub loop-i-preserved : goal.loop-i-preserved
loop-i-preserved c =
    let numbers = c.numbers-count.result.0 in
    let count = c.numbers-count.result.1 in
    let many = ap length c.numbers-count.ensures.numbers ∙ sym c.numbers-count.ensures.count in
    let more = one-before numbers c.loop-i.line c.args.line.now c.loop-i.i count many c.loop-i-test.true c.loop-i.auto.i c.loop-i.invariant.text in
    record {
      text = c.put.ensures ∙ ap (λ (l : List ℕ). 32 ∷ l) c.put_number.ensures.digits ∙ more;
      room = omega (arith, ap length c.put.ensures, c.put_number.ensures.short, c.loop-i.invariant.room);
    }
