-- What a text reads as, by what stands behind its first line.
use Rattle.std.proofs.Common.{◌≡◌, ℕ, nat_eq, Bool, true, false, List, ◌∷◌, ◌++◌, cond, length, drop, Err, refl, ap, ◌∙◌}
use Rattle.std.specs.List.{starts_with}
use Rattle.event_class.proofs.Events.{begins-true, true-begins}
use Rattle.replay_text.specs.declared.replay_fault.ReplayFault.TheVariants.{Header}
use Rattle.replay_text.specs.Lines.{unfinished, whole_lines}
use Rattle.replay_text.specs.NameOf.{name_of}
use Rattle.replay_text.specs.Reading.{asked_of, body_of, run_of, saved_of}
use Rattle.replay_text.specs.SavedText.{header}

-- behind the first line
pub behind-header : (text body : List ℕ) → text ≡ header ++ body → saved_of text ≡ body_of (whole_lines body) (unfinished body)
unfolding saved_of
behind-header text body is =
    ap (λ b. cond b (body_of (whole_lines (drop 14 text)) (unfinished (drop 14 text))) (Err Header)) (true-begins text header body is)
    ∙ ap (λ l. body_of (whole_lines l) (unfinished l)) (ap (drop 14) is)

-- behind the line of the name
pub behind-name : (text body line after : List ℕ) → text ≡ header ++ body → whole_lines body ≡ line ∷ whole_lines after → unfinished body ≡ unfinished after
    → saved_of text ≡ run_of (name_of line) (asked_of (whole_lines after) (unfinished after))
behind-name text body line after is lines rest = behind-header text body is ∙ (λ i. body_of (lines i) (rest i))

other-test : (text : List ℕ) (b : Bool) → starts_with nat_eq text header ≡ b → ((body : List ℕ) → text ≡ header ++ body → ⊥) → b ≡ false
other-test text true is none = absurd (none (drop (length header) text) (begins-true text header is))
other-test text false is none = refl

-- and without it
pub no-header : (text : List ℕ) → ((body : List ℕ) → text ≡ header ++ body → ⊥) → saved_of text ≡ Err Header
unfolding saved_of
no-header text none =
    ap (λ b. cond b (body_of (whole_lines (drop 14 text)) (unfinished (drop 14 text))) (Err Header))
    (other-test text (starts_with nat_eq text header) refl none)
