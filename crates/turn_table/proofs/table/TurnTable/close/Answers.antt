use Rattle.std.proofs.Common.{◌≡◌, ◌+◌, Some, [], ◌∷◌, ◌++◌, length, sym, ap, ◌∙◌, subst, arith}
use mathlib.Core.Option.{some-injective}
use Rattle.turn_table.specs.Count.{times, below}
use Rattle.turn_table.specs.Rule.{rounds_of}
use Rattle.turn_table.specs.Seat.{SeatsFrom, given_to}
use Rattle.turn_table.proofs.TableEnds.{closes}
use Rattle.turn_table.proofs.Views.{no-number}
use Rattle.turn_table.proofs.Seated.{seats-less, given-more, covers, round_or}
use Rattle.turn_table.proofs.table.TurnTable.close.Goals as goal

pub gather-main-requires-clause-table : goal.gather-main-requires-clause-table
gather-main-requires-clause-table g c =
    let all : SeatsFrom c.args.self.id 0 (c.pop.new.self.items ++ c.in-Some.last ∷ []) = subst (SeatsFrom c.args.self.id 0) c.in-Some.ensures.items c.requires.seats.1 in
    let last = seats-less _ 0 c.pop.new.self.items c.in-Some.last all in
    let v = c.last.view_is in
    ap (λ p. p.table) v ∙ last.1

pub gather-main-requires-clause-main : goal.gather-main-requires-clause-main
gather-main-requires-clause-main g c =
    let all : SeatsFrom c.args.self.id 0 (c.pop.new.self.items ++ c.in-Some.last ∷ []) = subst (SeatsFrom c.args.self.id 0) c.in-Some.ensures.items c.requires.seats.1 in
    let last = seats-less _ 0 c.pop.new.self.items c.in-Some.last all in
    let v = c.last.view_is in
    ((λ e. no-number (sym e ∙ ap (λ p. p.view.number) v ∙ last.2)), ap (λ p. p.view.turn) v ∙ last.3)

pub gather-main-requires-clause-seats : goal.gather-main-requires-clause-seats
gather-main-requires-clause-seats g c =
    let all : SeatsFrom c.args.self.id 0 (c.pop.new.self.items ++ c.in-Some.last ∷ []) = subst (SeatsFrom c.args.self.id 0) c.in-Some.ensures.items c.requires.seats.1 in
    (seats-less _ 0 c.pop.new.self.items c.in-Some.last all).0

pub close_with-closed-requires : goal.close_with-closed-requires
close_with-closed-requires g c =
    let all : SeatsFrom c.args.self.id 0 (c.pop.new.self.items ++ c.in-Some.last ∷ []) = subst (SeatsFrom c.args.self.id 0) c.in-Some.ensures.items c.requires.seats.1 in
    c.gather-main.ensures.table ∙ ap (λ p. p.table) c.last.view_is ∙ (seats-less _ 0 c.pop.new.self.items c.in-Some.last all).1 ∙ sym (ap (λ t. t.id) c.self.view_is)

pub unreachable-requires-in_default-state : goal.unreachable-requires-in_default-state
unreachable-requires-in_default-state g c =
    let all : SeatsFrom c.args.self.id 0 (c.pop.new.self.items ++ c.in-Some.last ∷ []) = subst (SeatsFrom c.args.self.id 0) c.in-Some.ensures.items c.requires.seats.1 in
    let last = seats-less _ 0 c.pop.new.self.items c.in-Some.last all in
    let v = c.last.view_is in
    let e = c.gather-main.ensures in
    let len : 0 + length c.pop.new.self.items ≡ c.pop.new.self.len = omega (arith, c.pop.new.self.ok) in
    let fin = closes g.T.Rounded.round_of g.T.Rounded.granted_of c.gather-main.result.id (0 + c.pop.new.self.len + 1) c.gather-main.result.me.0 _ _ e.main.0 (e.main.1 ∙ ap (λ p. p.view.right) v ∙ last.4 ∙ ap (λ k. Some (k + 1)) (omega (arith, len)))
    (covers c.pop.new.self.len c.last.inside.seat.me.0 c.gather-main.result.me.0 (ap (λ p. p.view.number) v ∙ last.2 ∙ ap Some len) e.numbers) c.close_with-closed.ensures.values.2 in
    c.in_default-state.not-Some fin.0 (some-injective _ _ (sym c.take-state.ensures.value ∙ fin.3))

pub returns-clause-rounds : goal.returns-clause-rounds
returns-clause-rounds g c =
    let all : SeatsFrom c.args.self.id 0 (c.pop.new.self.items ++ c.in-Some.last ∷ []) = subst (SeatsFrom c.args.self.id 0) c.in-Some.ensures.items c.requires.seats.1 in
    let last = seats-less _ 0 c.pop.new.self.items c.in-Some.last all in
    let v = c.last.view_is in
    let e = c.gather-main.ensures in
    let len : 0 + length c.pop.new.self.items ≡ c.pop.new.self.len = omega (arith, c.pop.new.self.ok) in
    let fin = closes g.T.Rounded.round_of g.T.Rounded.granted_of c.gather-main.result.id (0 + c.pop.new.self.len + 1) c.gather-main.result.me.0 _ _ e.main.0 (e.main.1 ∙ ap (λ p. p.view.right) v ∙ last.4 ∙ ap (λ k. Some (k + 1)) (omega (arith, len)))
    (covers c.pop.new.self.len c.last.inside.seat.me.0 c.gather-main.result.me.0 (ap (λ p. p.view.number) v ∙ last.2 ∙ ap Some len) e.numbers) c.close_with-closed.ensures.values.2 in
    let same = sym c.in-Some-state.is ∙ some-injective _ _ (sym c.take-state.ensures.value ∙ fin.3) in
    let r : c.round-rounds.result ≡ fin.1 = c.round-rounds.ensures ∙ ap (round_or g.T.Rounded.round_of) same ∙ fin.4 in
    λ k. let a = e.rounds k in let b = given-more k c.pop.new.self.items c.in-Some.last in let d = ap (given_to k) c.in-Some.ensures.items in let f = fin.7 k in
    let h = ap (λ p. times k (rounds_of p.view)) v in let i = ap (below k) r in omega (arith, a, b, d, f, h, i)
