use Rattle.std.proofs.Common.{◌≡◌, ◌-◌, ap, ◌∙◌, length, get_or, set}
use Rattle.std.proofs.lemmas.List.{length-set}
use Rattle.draw_split.specs.Bag.{less_one}
use Rattle.draw_split.proofs.Lists.{refill_all}
use Rattle.draw_split.proofs.weights.Weights.take.Goals as goal

pub returns : goal.returns
unfolding less_one
returns c =
    let kept : c.deref_mut.result.now ≡ c.args.self.now = c.deref_mut.ensures.value ∙ c.self.view_is in
    let same : c.from.result ≡ c.args.thread = c.from.ensures ∙ c.get.ensures.same in
    refill_all _ _ (simp length-set (ap length c.deref_mut.ensures.value))
    ∙ (λ i. set (kept i) (same i) (get_or (kept i) (same i) 0 - 1))
