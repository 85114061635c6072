-- Grants by one draw.
use Rattle.std.proofs.Common.{◌≡◌, ℕ, Bool, true, List, get_or, Result, Ok, Err, IsOk, refl}
use Rattle.seed_draws.specs.declared.draw_fault.DrawFault.{DrawFault}
use Rattle.walk_rules.specs.declared.picked.Picked.TheVariants.{Grant}
use Rattle.walk_rules.specs.declared.seen.Seen.{Seen}
use Rattle.walk_rules.specs.Granted.{granted_at}
use Rattle.walk_rules.specs.Seen.{is_able, seen_of}
use Rattle.walk_rules.specs.Walk.{GrantsAble}

-- where a grant comes of an answer, it was no refusal
pub granted-ok : (thread_of : ℕ → ℕ) (r : Result (List ℕ) DrawFault) (thread : ℕ) (forced : Bool) → granted_at thread_of r ≡ Grant thread forced → IsOk r
granted-ok thread_of (Ok draws) thread forced is = refl
granted-ok thread_of (Err fault) thread forced is = cc

-- a grant is to an able thread, where each draw that can be answered gives one
pub granted-able : (view : List Seen) (thread_of : ℕ → ℕ) (r answer : Result (List ℕ) DrawFault) → answer ≡ r
    → ((draws : List ℕ) → answer ≡ Ok draws → is_able (seen_of view (thread_of (get_or draws 0 0))) ≡ true)
    → GrantsAble view (granted_at thread_of r)
granted-able view thread_of (Ok draws) answer is each = each draws is
granted-able view thread_of (Err fault) answer is each = tt
