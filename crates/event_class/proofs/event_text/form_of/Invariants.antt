use Rattle.std.proofs.Common.{ℕ, ◌<◌, IsTrue, nat_eq, get_or}
use Rattle.std.specs.List.{starts_with}
use Rattle.event_class.specs.Event.{verb_of}
use Rattle.event_class.specs.declared.event.Event.TheVariants.{Oldest}
use Rattle.event_class.proofs.event_text.form_of.Given as goal

abbrev pub invariant-loop-form : goal.invariant-loop-form
invariant-loop-form l = (k : ℕ) → k < l.form-index → IsTrue (starts_with nat_eq l.text (verb_of (get_or l.form-items k Oldest))) → ⊥
