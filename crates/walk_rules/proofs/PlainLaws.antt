-- What holds of plain's pick.
use Rattle.std.proofs.Common.{ℕ, ◌<◌, List, [], ◌∷◌, get_or, is_ok, refl, ap, arith}
use Rattle.seed_draws.specs.Answers.{Answering, IsSource}
use Rattle.walk_rules.specs.declared.seen.Seen.{Seen}
use Rattle.walk_rules.specs.State.{WalkState}
use Rattle.walk_rules.specs.Plain.{plain, plain_bound, plain_thread}
use Rattle.walk_rules.specs.Walk.{CanPick, GrantsAble, IsStrategy}
use Rattle.walk_rules.proofs.AbleThreads.{able-place}
use Rattle.walk_rules.proofs.DrawnGrants.{granted-able, granted-ok}

plain-able : (walk : WalkState) (view : List Seen) (selected other : Answering) → IsSource selected → IsSource other → CanPick plain walk view
    → GrantsAble view (plain.pick walk view selected other).picked
plain-able walk view selected other source_s source_o can =
    let bound : ℕ = plain_bound view in
    granted-able view (plain_thread view) (other (bound ∷ [])) (other (bound ∷ [])) refl
    (λ draws is.
    let below : get_or draws 0 0 < bound = source_o.below (bound ∷ []) draws is 0 (omega arith) (omega (arith, can.able)) in
    able-place view (get_or draws 0 0) below)

pub plain-is : IsStrategy plain
plain-is = record {
  answered = λ walk view selected other thread forced source_s source_o granted.
      (ap is_ok source_s.none, granted-ok (plain_thread view) (other (plain_bound view ∷ [])) thread forced granted);
  able = plain-able;
}
