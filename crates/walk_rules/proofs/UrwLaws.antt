-- What holds of URW's pick.
use Rattle.std.proofs.Common.{ℕ, ◌<◌, List, [], ◌∷◌, get_or, is_ok, refl, ap, arith}
use Rattle.seed_draws.specs.Answers.{Answering, IsSource}
use Rattle.walk_rules.specs.declared.seen.Seen.{Seen}
use Rattle.walk_rules.specs.State.{WalkState}
use Rattle.walk_rules.specs.Urw.{urw, urw_bound, urw_thread}
use Rattle.walk_rules.specs.Walk.{CanPick, GrantsAble, IsStrategy}
use Rattle.walk_rules.proofs.AbleThreads.{kept-pick}
use Rattle.walk_rules.proofs.DrawnGrants.{granted-able, granted-ok}
use Rattle.walk_rules.proofs.WrongThreads.{urw-some}

urw-able : (walk : WalkState) (view : List Seen) (selected other : Answering) → IsSource selected → IsSource other → CanPick urw walk view
    → GrantsAble view (urw.pick walk view selected other).picked
urw-able walk view selected other source_s source_o can =
    let bound : ℕ = urw_bound walk.left view in
    let some = urw-some walk.counts walk.left view can.able can.right (can.chosen refl) in
    granted-able view (urw_thread walk.left view) (selected (bound ∷ [])) (selected (bound ∷ [])) refl
    (λ draws is.
    let below : get_or draws 0 0 < bound = source_s.below (bound ∷ []) draws is 0 (omega arith) (omega (arith, some)) in
    kept-pick walk.left view (get_or draws 0 0) below)

pub urw-is : IsStrategy urw
urw-is = record {
  answered = λ walk view selected other thread forced source_s source_o granted.
      (granted-ok (urw_thread walk.left view) (selected (urw_bound walk.left view ∷ [])) thread forced granted, ap is_ok source_o.none);
  able = urw-able;
}
