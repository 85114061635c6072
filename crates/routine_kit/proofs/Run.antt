-- Replies one after another.
use Rattle.std.proofs.Common.{◌≡◌, ℕ, List, [], ◌∷◌, ◌++◌, refl}
use Rattle.routine_kit.specs.Run.{after_replies}

-- replies told in two parts
pub after-append : {R : Type 0} (after : R → ℕ → R) (routine : R) (replies more : List ℕ)
    → after_replies after routine (replies ++ more) ≡ after_replies after (after_replies after routine replies) more
unfolding after_replies
after-append after routine [] more = refl
after-append after routine (reply ∷ replies) more = after-append after (after routine reply) replies more

-- one reply more
pub after-more : {R : Type 0} (after : R → ℕ → R) (routine : R) (replies : List ℕ) (reply : ℕ)
    → after_replies after routine (replies ++ reply ∷ []) ≡ after (after_replies after routine replies) reply
unfolding after_replies
after-more after routine replies reply = after-append after routine replies (reply ∷ [])
