use Rattle.std.proofs.Common.{refl, IsSome, ap, ◌∙◌, is_some}
use Rattle.walk_rules.specs.declared.walk.Walk.TheInside.{Inside}
use Rattle.walk_rules.specs.State.{WalkState}
use Rattle.walk_rules.proofs.WalkAfterStep.{idle-after, told-same, told-less}
use Rattle.walk_rules.proofs.walk.Walk.done.Goals as goal
use Rattle.walk_rules.proofs.walk.Walk.done.Goals.{then-counts_down+then-chosen, else-counts_down}

pub invariant_of-self : goal.invariant_of-self
invariant_of-self c =
    let waits : IsSome c.self.inside.waiting = ap is_some (ap (λ (w : WalkState). w.waiting) c.self.view_is ∙ c.requires.granted) in
    elim c.if-counts_down.branch [
      | then-counts_down+then-chosen w ↦
          rw w.self-inside-is (told-less c.self.inside _ _ c.args.thread w.take.new.self refl
          (λ none. c.intended_after-self-inside.ensures
          ∙ idle-after c.args.chosen c.args.forced c.if-counts_down.self-inside.intended (ap (λ (s : Inside). s.intended) w.self-inside-is ∙ none))
          w.take.ensures c.self.invariant waits)
      | else-counts_down w ↦ rw w.self-inside-is
          (told-same c.self.inside _ _ refl
          (λ none. c.intended_after-self-inside.ensures
          ∙ idle-after c.args.chosen c.args.forced c.if-counts_down.self-inside.intended (ap (λ (s : Inside). s.intended) w.self-inside-is ∙ none)) c.self.invariant waits)
    ]
