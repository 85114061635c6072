use Rattle.std.proofs.Common.{◌≡◌, ℕ, ◌+◌, ◌-◌, Some, length, ap, ◌∙◌, arith}
use Rattle.turn_table.specs.Rule.{first_view, rounds_of, with_number, without_right, fresh_view}
use Rattle.turn_table.proofs.Seated.{numbered-more, all-seated, fresh-more}
use Rattle.turn_table.proofs.table.TurnTable.seat_all.Goals as goal

pub loop-number-preserved : goal.loop-number-preserved
loop-number-preserved g c =
    let i = c.loop-number.invariant in
    let a = c.give_number.ensures in
    let b = c.split_right-next.ensures in
    let p = c.push_reserved.ensures in
    let me : c.split_right-next.new.seat.me.0 ≡ without_right (with_number (record first_view { right = Some c.loop-number.number }) c.loop-number.number) = ap (λ m. m.0) b.seat ∙ ap without_right (a.seat.1 ∙ ap (λ v. with_number v c.loop-number.number) i.6) in
    let at = b.table.0 ∙ a.table ∙ i.4 in
    let len : c.loop-number.number ≡ 0 + length c.loop-number.list.items = omega (arith, i.2, c.loop-number.list.ok) in
    rw p.items (
      numbered-more _ 0 _ _ i.0 at (ap (λ v. v.number) me ∙ ap Some len) (ap (λ v. v.turn) me) (ap (λ v. v.right) me),
      fresh-more _ _ i.1 (ap rounds_of me),
      omega (arith, p.len, i.2),
      omega (arith, p.capacity, i.3),
      b.table.1 ∙ a.table ∙ i.4,
      ap (λ m. m.1) b.made,
      ap (λ m. m.0) b.made ∙ ap fresh_view (a.seat.1 ∙ ap (λ v. with_number v c.loop-number.number) i.6),
    )

pub returns-clause-seats : goal.returns-clause-seats
returns-clause-seats g c =
    let i = c.loop-number.invariant in
    let a = c.give_number-2.ensures in
    let p = c.push_reserved-2.ensures in
    let n : ℕ = c.self.inside.seats - 1 in
    let same : c.loop-number.number ≡ n = omega (arith, c.loop-number-test.false, c.loop-number.auto.number-end, c.requires.seats, ap (λ t. t.seats) c.self.view_is) in
    let me : c.give_number-2.new.seat.me.0 ≡ with_number (record first_view { right = Some c.loop-number.number }) n = a.seat.1 ∙ ap (λ v. with_number v n) i.6 in
    let len : n ≡ 0 + length c.loop-number.list.items = omega (arith, i.2, same, c.loop-number.list.ok) in
    rw p.items (all-seated _ 0 _ _ i.0 (a.table ∙ i.4) (ap (λ v. v.number) me ∙ ap Some len) (ap (λ v. v.turn) me) (ap (λ v. v.right) me ∙ ap (λ k. Some (k + 1)) len))

pub returns-clause-fresh : goal.returns-clause-fresh
returns-clause-fresh g c =
    let i = c.loop-number.invariant in
    let a = c.give_number-2.ensures in
    rw c.push_reserved-2.ensures.items (fresh-more _ _ i.1 (ap rounds_of (a.seat.1 ∙ ap (λ v. with_number v (c.self.inside.seats - 1)) i.6)))
