use Rattle.std.proofs.Common.{[], ◌∷◌, length, ap, ◌∙◌, arith}
use Rattle.std.proofs.lemmas.List.{length-append}
use Rattle.gate_core.proofs.Logs.{follows-more}
use Rattle.gate_core.proofs.log.Log.push.Goals as goal

pub invariant_of-self : goal.invariant_of-self
invariant_of-self g c =
    let i = c.self.invariant in
    let p = c.push_reserved.ensures in
    rw (p.items, c.take.ensures) (record {
      follows = follows-more _ _ _ _ _ i.follows (ap (λ v. g.R.Routine.announced v.now) c.self.view_is ∙ c.requires.next);
      within = omega (arith, length-append c.self.inside.items.items ((c.args.event, c.args.reply) ∷ []), c.requires.room, ap (λ v. length v.items) c.self.view_is, ap (λ v. v.room) c.self.view_is);
      reserved = omega (arith, p.capacity, i.reserved);
      small = i.small;
    })
