use Rattle.std.proofs.Common.{◌≡◌, false, All, sym, subst, arith}
use Rattle.gate_core.proofs.Passes.{row-rests}
use Rattle.gate_core.proofs.gate.Gate.passes.Goals as goal

pub passes_of-requires-clause-rest : goal.passes_of-requires-clause-rest
passes_of-requires-clause-rest g c =
    let all = c.self.invariant.passes c.if-self.false (omega (arith, c.if-self-eq0.false)) in
    subst (λ seats. All (λ seat. seat.view.turn ≡ false) seats.items) (sym c.replace.ensures.value) (row-rests c.self.inside.turnstile 0 c.self.inside.seats.items all.0.row)
