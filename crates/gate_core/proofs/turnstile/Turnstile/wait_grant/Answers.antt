use Rattle.std.proofs.Common.{◌/◌, Some, ap, sym, ◌∙◌}
use Rattle.gate_core.specs.Gate.{last_round}
use Rattle.gate_core.proofs.Passes.{last-more}
use Rattle.gate_core.proofs.turnstile.Turnstile.wait_grant.Goals as goal

pub new-requires-in-Mine-clause-last : goal.new-requires-in-Mine-clause-last
new-requires-in-Mine-clause-last g c =
    let found = c.in-Mine.ensures.found in
    ap (λ view. last_round view.rounds) found.seat ∙ last-more c.loop.seat.view.rounds (c.look.new.seat.view.word / 32) ∙ ap Some (sym found.round)
