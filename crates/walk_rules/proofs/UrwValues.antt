-- Some picks of URW and of plain, worked out.
use Rattle.std.proofs.Common.{◌≡◌, ℕ, List, [], ◌∷◌, true, false, None, refl}
use Rattle.draw_split.specs.Bag.{bag, pick}
use Rattle.seed_draws.specs.declared.draw_fault.DrawFault.TheVariants.{Large}
use Rattle.seed_draws.specs.Answers.{Answering, answers}
use Rattle.seed_draws.specs.TapeSource.{strict_tape}
use Rattle.walk_rules.specs.declared.picked.Picked.TheVariants as picked
use Rattle.walk_rules.specs.declared.rule.Rule.TheVariants.{Plain}
use Rattle.walk_rules.specs.declared.seen.Seen.{Seen}
use Rattle.walk_rules.specs.declared.seen.Seen.TheVariants.{Over, Held, Able}
use Rattle.walk_rules.specs.Plain.{plain_pick}
use Rattle.walk_rules.specs.Seen.{able_threads, kept_to_able}
use Rattle.walk_rules.specs.State.{WalkState, new_memory}
use Rattle.walk_rules.specs.Urw.{urw_pick}

abbrev strict : List ℕ → Answering
strict entries = (strict_tape entries).answers

-- the rule isn't looked at
abbrev walk : WalkState
walk = record { rule = Plain; counts = 2 ∷ 1 ∷ 0 ∷ []; steps = 0; left = 2 ∷ 1 ∷ 0 ∷ []; memory = new_memory; waiting = None }

abbrev view : List Seen
view = Able true ∷ Able true ∷ Over ∷ []

-- places 0 and 1 of the bag are thread 0's, place 2 is thread 1's
last_of_first : urw_pick walk view (strict (1 ∷ [])) (strict [])
    ≡ record { selected_bounds = 3 ∷ []; other_bounds = []; picked = picked.Grant 0 false; memory = new_memory }
unfolding answers kept_to_able bag pick
last_of_first = refl

second : urw_pick walk view (strict (2 ∷ [])) (strict [])
    ≡ record { selected_bounds = 3 ∷ []; other_bounds = []; picked = picked.Grant 1 false; memory = new_memory }
unfolding answers kept_to_able bag pick
second = refl

-- a held thread has no place
held : urw_pick walk (Held true ∷ Able true ∷ Over ∷ []) (strict (0 ∷ [])) (strict [])
    ≡ record { selected_bounds = 1 ∷ []; other_bounds = []; picked = picked.Grant 1 false; memory = new_memory }
unfolding answers kept_to_able bag pick
held = refl

-- a refusal stops
refused : urw_pick walk view (strict (3 ∷ [])) (strict [])
    ≡ record { selected_bounds = 3 ∷ []; other_bounds = []; picked = picked.Stop (Large 0 3 3); memory = new_memory }
unfolding answers kept_to_able bag pick
refused = refl

-- plain: the second of those that can go on
plain_second : plain_pick walk (Able true ∷ Held true ∷ Able true ∷ []) (strict []) (strict (1 ∷ []))
    ≡ record { selected_bounds = []; other_bounds = 2 ∷ []; picked = picked.Grant 2 false; memory = new_memory }
unfolding answers able_threads
plain_second = refl
