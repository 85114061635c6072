use Rattle.std.proofs.Common.{◌≡◌, ◌+◌, ◌<◌, ◌∙◌, List, ℕ, length, get_or, take, arith, subst, sym, length-set}
use Rattle.std.proofs.lemmas.List.{get_or_past, take_more_set}
use Rattle.surw_base.specs.Prefix.{IsLongestPrefix, HasNoPrefix}
use Rattle.surw_base.specs.Number.{IsNumberText}
use Rattle.event_class.specs.Event.{AreNumbersText}
use Rattle.event_class.proofs.Numbers.{none-space, none-number, one-more}
use Rattle.event_class.proofs.event_text.read_numbers.Goals as goal
use Rattle.event_class.proofs.event_text.read_numbers.Goals.{then-len-text-via-then-len-text, then-len-text-via-else-len-text+then-text-len-ne32}

pub returns-then-len-text : goal.returns-then-len-text
returns-then-len-text c = elim c.then-len-text.branch [
  | then-len-text-via-then-len-text w ↦
      let past : get_or c.args.text.now c.loop-i.len 0 ≡ 0 = get_or_past c.args.text.now c.loop-i.len 0 (omega (arith, w.if-len-text.true)) in
      none-space _ _ _ _ _ c.loop-i.invariant.longest c.loop-i-test.true (λ space. omega (arith, past, space))
  | then-len-text-via-else-len-text+then-text-len-ne32 w ↦
      none-space _ _ _ _ _ c.loop-i.invariant.longest c.loop-i-test.true w.if-text-len-ne32.true
]

pub returns-in-None : goal.returns-in-None
returns-in-None c =
    none-number _ _ _ _ _ c.loop-i.invariant.longest c.loop-i-test.true
    (subst (HasNoPrefix IsNumberText) c.split_at.ensures.back c.in-None.ensures)

pub loop-i-preserved : goal.loop-i-preserved
loop-i-preserved c =
    let text = c.args.text.now in
    let numbers = c.loop-i.numbers in
    let i = c.loop-i.i in
    let v = c.in-Some.number in
    let below : i < length numbers = omega (arith, c.loop-i.invariant.room, c.loop-i-test.true, c.requires) in
    let inside : c.loop-i.len < length text = omega (arith, c.loop-i.invariant.longest.within, c.if-len-text.false) in
    let number = subst (λ (l : List ℕ). IsLongestPrefix IsNumberText l v c.in-Some.width) c.split_at.ensures.back c.in-Some.ensures in
    let more = one-more text (take i numbers) i c.loop-i.len v c.in-Some.width c.loop-i.invariant.longest inside c.if-text-len-ne32.false number in
    record {
      longest = subst (λ (l : List ℕ). IsLongestPrefix (AreNumbersText (i + 1)) text l (c.loop-i.len + (1 + c.in-Some.width))) (sym (take_more_set numbers i v below)) more;
      room = length-set numbers i v ∙ c.loop-i.invariant.room;
    }
