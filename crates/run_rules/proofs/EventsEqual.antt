-- Two events are one exactly where they have the same verb and the same numbers.
use Rattle.std.proofs.Common.{◌≡◌, ◌&&◌, Bool, true, false, Decides, Option, None, Some, refl, ap, ◌∙◌}
use Rattle.std.proofs.lemmas.Bool.{false≢true}
use Rattle.std.proofs.lemmas.Slice.Eq.{bytes_eq-Decides}
use Rattle.std.specs.Str.{bytes_eq}
use Rattle.event_class.specs.declared.event.Event.{Event}
use Rattle.event_class.specs.declared.event.Event.TheVariants.{Acquire, Release, Load, Store, Add, SwapIf, Find, Claim, Fill, Read, Write, Oldest, Stamp, Flush, Reserve, Put, Mark, Durable, Check}
use Rattle.event_class.specs.Event.{numbers_of, verb_of}
use Rattle.run_rules.specs.Verdict.{is_same_event, is_word}

parts-true : (x y : Bool) → (x && y) ≡ true → (x ≡ true) × (y ≡ true)
parts-true true y h = (refl, h)
parts-true false y h = absurd (false≢true h)

same-parts : (a b : Event) → verb_of a ≡ verb_of b → numbers_of a ≡ numbers_of b → a ≡ b
same-parts (Acquire a0) (Acquire b0) verb numbers = cc
same-parts (Release a0) (Release b0) verb numbers = cc
same-parts (Load a0) (Load b0) verb numbers = cc
same-parts (Store a0 a1) (Store b0 b1) verb numbers = cc
same-parts (Add a0 a1) (Add b0 b1) verb numbers = cc
same-parts (SwapIf a0 a1 a2) (SwapIf b0 b1 b2) verb numbers = cc
same-parts (Find a0) (Find b0) verb numbers = cc
same-parts (Claim a0) (Claim b0) verb numbers = cc
same-parts (Fill a0 a1) (Fill b0 b1) verb numbers = cc
same-parts (Read a0) (Read b0) verb numbers = cc
same-parts (Write a0 a1 a2) (Write b0 b1 b2) verb numbers = cc
same-parts Oldest Oldest verb numbers = refl
same-parts (Stamp a0) (Stamp b0) verb numbers = cc
same-parts (Flush a0) (Flush b0) verb numbers = cc
same-parts Reserve Reserve verb numbers = refl
same-parts (Put a0 a1) (Put b0 b1) verb numbers = cc
same-parts (Mark a0) (Mark b0) verb numbers = cc
same-parts Durable Durable verb numbers = refl
same-parts (Check a0 a1) (Check b0 b1) verb numbers = cc
same-parts a b verb numbers = absurd (false≢true ((bytes_eq-Decides (verb_of a) (verb_of b)).1 verb))

pub same-event : (a b : Event) → Decides (is_same_event a b) (a ≡ b)
same-event a b = (
  λ h.
      let parts = parts-true (bytes_eq (verb_of a) (verb_of b)) (bytes_eq (numbers_of a) (numbers_of b)) h in
      same-parts a b ((bytes_eq-Decides (verb_of a) (verb_of b)).0 parts.0) ((bytes_eq-Decides (numbers_of a) (numbers_of b)).0 parts.1),
  λ e.
      ap (λ (x : Bool). x && bytes_eq (numbers_of a) (numbers_of b)) ((bytes_eq-Decides (verb_of a) (verb_of b)).1 (ap verb_of e))
      ∙ (bytes_eq-Decides (numbers_of a) (numbers_of b)).1 (ap numbers_of e),
)

-- a word is an event exactly where it is the one said
pub same-word : (word : Option Event) (event : Event) → Decides (is_word word event) (word ≡ Some event)
same-word None event = (λ h. absurd (false≢true h), λ e. cc)
same-word (Some word) event = (λ h. ap Some ((same-event word event).0 h), λ e. (same-event word event).1 (cc))
