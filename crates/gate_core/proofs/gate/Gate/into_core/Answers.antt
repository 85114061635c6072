use Rattle.std.proofs.Common.{rules, ◌≡◌, length, ap, sym, ◌∙◌, arith}
use Rattle.std.specs.Prelude.{vec_len}
use Rattle.pure_run.specs.Core.{CoreState}
use Rattle.turn_table.specs.Count.{below}
use Rattle.gate_core.proofs.Passes.{same-rounds}
use Rattle.gate_core.proofs.gate.Gate.into_core.Goals as goal

pub returns : goal.returns
returns g c step =
    let passes = c.args.passes.items in
    let long : vec_len c.args.passes ≡ length passes = search rules in
    let without : length passes ≡ 0 → c.self.inside.threads ≡ 0 = λ none. ap (λ gate. gate.threads) c.self.view_is ∙ sym c.requires.count ∙ none in
    same-rounds step passes c.self.inside.seats.items c.seats_of-seats.result.items
    (λ some. c.seats_of-seats.ensures.all (omega (arith, some, long))) (λ none. c.seats_of-seats.ensures.none (long ∙ none)) (λ none. (c.self.invariant.spare (without none)).1)
    ∙ c.close.ensures.rounds step
    ∙ ap (below step) (sym c.close.ensures.state ∙ ap (λ (core : CoreState g.row.S.Denot g.row.O.Denot). length core.journal) (sym c.into_core.ensures))
