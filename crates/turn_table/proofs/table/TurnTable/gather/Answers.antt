use Rattle.std.proofs.Common.{◌≡◌, ◌+◌, Some, [], ◌∷◌, ◌++◌, length, sym, ap, ◌∙◌, subst, arith, length-append}
use Rattle.std.specs.Prelude.{vec_len}
use Rattle.turn_table.specs.Count.{times, below}
use Rattle.turn_table.specs.Rule.{numbers_of, rounds_of, joint_view, either_right}
use Rattle.turn_table.specs.Seat.{hand_of, AreNumbered, given_to}
use Rattle.turn_table.specs.declared.view.View.{View}
use Rattle.turn_table.proofs.SeatSteps.{joins}
use Rattle.turn_table.proofs.Views.{right-none}
use Rattle.turn_table.proofs.Seated.{numbered-less, given-more, joined-rounds, joined-numbers, some-of, one-of, below-suc}
use Rattle.turn_table.proofs.table.TurnTable.gather.Goals as goal

pub join_seat-requires : goal.join_seat-requires
join_seat-requires g c =
    let i = c.loop-next.invariant in
    let all : AreNumbered c.args.self.now.id 0 (c.pop.new.self.items ++ c.in-Some.next ∷ []) = subst (AreNumbered c.args.self.now.id 0) c.in-Some.ensures.items i.4 in
    let last = numbered-less _ 0 c.pop.new.self.items c.in-Some.next all in
    let v = c.next.view_is in
    let off = ap (λ p. p.view.turn) v ∙ last.3 in
    let num = some-of c.loop-next.main.me.0.number (λ e. c.requires.main.0 (sym i.1 ∙ e)) in
    let here = sym (ap (λ t. t.id) c.self.view_is) in
    (i.0 ∙ here, ap (λ p. p.table) v ∙ last.1 ∙ here, c.next.invariant.2 ∙ ap hand_of off, omega (arith, c.self.invariant.0), joins g.T.Rounded.round_of g.T.Rounded.granted_of _ _ _ _ num.0 num.1 (ap (λ p. p.view.right) v ∙ last.4) off)

pub loop-next-preserved : goal.loop-next-preserved
loop-next-preserved g c =
    let i = c.loop-next.invariant in
    let j = c.join_seat.ensures in
    let all : AreNumbered c.args.self.now.id 0 (c.pop.new.self.items ++ c.in-Some.next ∷ []) = subst (AreNumbered c.args.self.now.id 0) c.in-Some.ensures.items i.4 in
    let last = numbered-less _ 0 c.pop.new.self.items c.in-Some.next all in
    let u : View = c.next.inside.seat.me.0 in
    let same : u ≡ c.in-Some.next.view = ap (λ p. p.view) c.next.view_is in
    let now : c.join_seat.new.seat.me.0 ≡ joint_view c.loop-next.main.me.0 u = ap (λ m. m.0) j.2 in
    let len : vec_len c.loop-next.seats ≡ vec_len c.pop.new.self + 1 = omega (arith, ap length c.in-Some.ensures.items, length-append c.pop.new.self.items (c.in-Some.next ∷ []), c.loop-next.seats.ok, c.pop.new.self.ok) in (
      j.0 ∙ i.0,
      ap (λ w. w.number) now ∙ i.1,
      ap (λ w. w.turn) now ∙ i.2,
      ap (λ w. w.right) now ∙ ap (either_right c.loop-next.main.me.0.right) (ap (λ w. w.right) same ∙ last.4) ∙ right-none _ ∙ i.3,
      last.0,
      (λ k. let a = joined-numbers k c.loop-next.main.me.0 u in let b = ap (λ w. times k (numbers_of w)) now in let d = i.5 k in
          let e = one-of k (vec_len c.pop.new.self) u (ap (λ w. w.number) same ∙ last.2 ∙ ap Some (omega (arith, c.pop.new.self.ok))) in
          let f = below-suc k (vec_len c.pop.new.self) in let h = ap (below k) len in omega (arith, a, b, d, e, f, h)),
      (λ k. let a = joined-rounds k c.loop-next.main.me.0 u in let b = ap (λ w. times k (rounds_of w)) now in let d = i.6 k in
          let e = given-more k c.pop.new.self.items c.in-Some.next in let f = ap (given_to k) c.in-Some.ensures.items in let h = ap (λ w. times k (rounds_of w)) same in omega (arith, a, b, d, e, f, h)),
    )
