-- Under a rule that wants every event selected, each announced one is.
use Rattle.std.proofs.Common.{Bool, true, false, cond, All, List, [], ◌∷◌, get_or, map, Option, None, Some, IsTrue, refl, sym, subst}
use Rattle.std.proofs.lemmas.Bool.{false≢true}
use Rattle.std.proofs.lemmas.List.Elements.{All-from_get_or, All-map}
use Rattle.event_class.specs.declared.event.Event.{Event}
use Rattle.event_class.specs.declared.pickable.Pickable.{Pickable}
use Rattle.event_class.specs.declared.pickable.Pickable.TheVariants.{Every}
use Rattle.test_world.specs.World.{WorldState, is_enabled}
use Rattle.walk_rules.specs.declared.rule.Rule.{Rule}
use Rattle.walk_rules.specs.declared.seen.Seen.TheVariants.{Held, Able}
use Rattle.walk_rules.specs.Seen.{is_announcing, is_chosen}
use Rattle.walk_rules.specs.Walk.{AreChosen, AreChosenUnder}
use Rattle.run_rules.specs.Position.{seen_word}
use Rattle.run_rules.specs.Setup.{SelectsAllUnder}

chosen-event : (enabled : Bool) → IsTrue (is_chosen (cond enabled (Able true) (Held true)))
chosen-event true = refl
chosen-event false = refl

chosen-word : (world : WorldState) (word : Option Event) → IsTrue (is_announcing (seen_word world (Every ∷ []) word))
    → IsTrue (is_chosen (seen_word world (Every ∷ []) word))
chosen-word world None announces = absurd (false≢true announces)
chosen-word world (Some event) announces = chosen-event (is_enabled world event)

chosen-words : (world : WorldState) (words : List (Option Event))
    → All (λ seen. IsTrue (is_announcing seen) → IsTrue (is_chosen seen)) (map (seen_word world (Every ∷ [])) words)
chosen-words world words =
    All-map (λ seen. IsTrue (is_announcing seen) → IsTrue (is_chosen seen)) (seen_word world (Every ∷ [])) words
    (All-from_get_or (λ word. IsTrue (is_announcing (seen_word world (Every ∷ []) word)) → IsTrue (is_chosen (seen_word world (Every ∷ []) word))) words None
    (λ i below. chosen-word world (get_or words i None)))

pub chosen-under : (rule : Rule) (world : WorldState) (selection : List Pickable) (words : List (Option Event)) → SelectsAllUnder rule selection
    → AreChosenUnder rule (map (seen_word world selection) words)
chosen-under rule world selection words every = λ wanted.
    subst (λ items. AreChosen (map (seen_word world items) words)) (sym (every wanted)) (chosen-words world words)
