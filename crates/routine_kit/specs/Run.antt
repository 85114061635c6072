-- What a routine announces after the replies told to it.
use Rattle.std.specs.Prelude.{ℕ, List, [], ◌∷◌}

-- the routine after these replies, the first of them told first
unfoldable pub after_replies : {R : Type 0} → (R → ℕ → R) → R → List ℕ → R
after_replies after routine [] = routine
after_replies after routine (reply ∷ replies) = after_replies after (after routine reply) replies
