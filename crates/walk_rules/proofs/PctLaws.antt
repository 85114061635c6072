-- What holds of PCT's pick.
use Rattle.std.proofs.Common.{◌≡◌, ℕ, suc, ◌<◌, ltb, Bool, true, false, cond, IsTrue, IsOk, is_ok, Result, Ok, Err, List, [], ◌∷◌, length, get_or, refl, ap, arith}
use Rattle.seed_draws.specs.declared.draw_fault.DrawFault.{DrawFault}
use Rattle.walk_rules.specs.declared.picked.Picked.TheVariants.{Grant}
use Rattle.walk_rules.specs.declared.seen.Seen.{Seen}
use Rattle.walk_rules.specs.Pct.{higher, highest, lowered, pct, pct_asked, pct_found, pct_picked}
use Rattle.walk_rules.specs.Seen.{able_threads, is_able, seen_of}
use Rattle.walk_rules.specs.State.{Memory, WalkState}
use Rattle.walk_rules.specs.Walk.{GrantsAble, IsStrategy}
use Rattle.walk_rules.proofs.AbleThreads.{able-place}

either-holds : (P : ℕ → Type 0) (b : Bool) (x y : ℕ) → P x → P y → P (cond b x y)
either-holds P true x y one other = one
either-holds P false x y one other = other

higher-holds : (P : ℕ → Type 0) (priorities : List ℕ) (thread : ℕ) (threads : List ℕ) → P thread → ((d : ℕ) → d < length threads → P (get_or threads d 0))
    → P (higher priorities thread threads)
unfolding higher
higher-holds P priorities thread [] one each = one
higher-holds P priorities thread (other ∷ others) one each =
    higher-holds P priorities (cond (ltb (get_or priorities thread 0) (get_or priorities other 0)) other thread) others
    (either-holds P (ltb (get_or priorities thread 0) (get_or priorities other 0)) other thread (each 0 (omega arith)) one)
    (λ d lt. each (suc d) (omega (arith, lt)))

pub highest-holds : (P : ℕ → Type 0) (priorities : List ℕ) (threads : List ℕ) → 0 < length threads → ((d : ℕ) → d < length threads → P (get_or threads d 0))
    → P (highest priorities threads)
highest-holds P priorities [] some each = absurd (omega arith)
highest-holds P priorities (thread ∷ threads) some each = higher-holds P priorities thread threads (each 0 (omega arith)) (λ d lt. each (suc d) (omega (arith, lt)))

pct-granted : (step : ℕ) (view : List Seen) (found : Result Memory DrawFault) → 0 < length (able_threads view) → GrantsAble view (pct_picked step view found)
pct-granted step view (Ok memory) some =
    highest-holds (λ thread. IsTrue (is_able (seen_of view thread))) (lowered step view memory).priorities (able_threads view) some (able-place view)
pct-granted step view (Err fault) some = tt

pct-ok : (depth step : ℕ) (walk : WalkState) (view : List Seen) (answer : Result (List ℕ) DrawFault) (thread : ℕ) (forced : Bool)
    → pct_picked step view (pct_found depth walk answer) ≡ Grant thread forced → IsOk answer
pct-ok depth step walk view (Ok draws) thread forced is = refl
pct-ok depth step walk view (Err fault) thread forced is = cc

pub pct-is : (depth : ℕ) → IsStrategy (pct depth)
pct-is depth = record {
  answered = λ walk view selected other thread forced source_s source_o granted. (
    pct-ok depth walk.steps walk view (selected (pct_asked depth walk.steps walk.counts)) thread forced granted,
    ap is_ok source_o.none,
  );
  able = λ walk view selected other source_s source_o can.
      pct-granted walk.steps view (pct_found depth walk (selected (pct_asked depth walk.steps walk.counts))) can.able;
}
