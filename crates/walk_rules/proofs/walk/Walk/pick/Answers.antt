use Rattle.std.proofs.Common.{ℕ, ◌<◌, List, ap, sym, subst, ◌∙◌}
use Rattle.walk_rules.specs.State.{WalkState}
use Rattle.walk_rules.specs.Strategies.{counts_down, wants_every}
use Rattle.walk_rules.specs.Urw.{urw_bound}
use Rattle.walk_rules.specs.Walk.{wrong_by}
use Rattle.walk_rules.proofs.WrongThreads.{urw-some}
use Rattle.walk_rules.proofs.walk.Walk.pick.Goals as goal

pub pick-picked-requires-clause-some : goal.pick-picked-requires-clause-some
pick-picked-requires-clause-some g c =
    let walk : WalkState = c.args.self.now in
    let rule = sym (ap (λ (w : WalkState). w.rule) c.self.view_is) ∙ c.in-Urw.is in
    let right = sym (ap (λ r. wrong_by (counts_down r) walk.counts walk.left c.args.view.now) rule) ∙ c.requires.right in
    let chosen = c.requires.chosen (ap wants_every rule) in
    let some = urw-some walk.counts walk.left c.args.view.now c.requires.able right chosen in
    subst (λ (left : List ℕ). 0 < urw_bound left c.args.view.now) (sym (ap (λ (w : WalkState). w.left) c.self.view_is)) some
