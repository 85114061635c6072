-- A first pick of PCT, worked out: two change points at the first step.
use Rattle.std.proofs.Common.{◌≡◌, ℕ, List, [], ◌∷◌, true, false, None, refl}
use Rattle.draw_split.specs.Bag.{bag, less_one, pick}
use Rattle.draw_split.specs.Named.{named_order}
use Rattle.seed_draws.specs.declared.draw_fault.DrawFault.TheVariants.{Short}
use Rattle.seed_draws.specs.Answers.{Answering, answers}
use Rattle.seed_draws.specs.TapeSource.{strict_tape}
use Rattle.walk_rules.specs.declared.picked.Picked.TheVariants as picked
use Rattle.walk_rules.specs.declared.rule.Rule.TheVariants.{Plain}
use Rattle.walk_rules.specs.declared.seen.Seen.{Seen}
use Rattle.walk_rules.specs.declared.seen.Seen.TheVariants.{Able}
use Rattle.seed_draws.specs.Falling.{falling}
use Rattle.walk_rules.specs.Pct.{changed, first_memory, higher, pct_pick, place_of}
use Rattle.walk_rules.specs.Seen.{able_threads}
use Rattle.walk_rules.specs.State.{WalkState, new_memory}

abbrev strict : List ℕ → Answering
strict entries = (strict_tape entries).answers

abbrev walk : WalkState
walk = record { rule = Plain; counts = 1 ∷ 1 ∷ []; steps = 0; left = 1 ∷ 1 ∷ []; memory = new_memory; waiting = None }

abbrev view : List Seen
view = Able true ∷ Able true ∷ []

-- priorities 4 and 3; the first point lowers thread 0 to 1, the second thread 1 to 2
two_points : pct_pick 3 walk view (strict (0 ∷ 0 ∷ 0 ∷ 0 ∷ [])) (strict [])
    ≡ record {
      selected_bounds = 2 ∷ 1 ∷ 2 ∷ 2 ∷ [];
      other_bounds = [];
      picked = picked.Grant 1 false;
      memory =
          record { intended = None; priorities = 1 ∷ 2 ∷ []; changes = 0 ∷ 0 ∷ [] };
    }
unfolding changed falling first_memory higher place_of able_threads answers named_order bag pick less_one
two_points = refl

-- a refusal of the last draw stops the run and keeps nothing
refused : pct_pick 3 walk view (strict (0 ∷ 0 ∷ 0 ∷ [])) (strict [])
    ≡ record { selected_bounds = 2 ∷ 1 ∷ 2 ∷ 2 ∷ []; other_bounds = []; picked = picked.Stop (Short 3); memory = new_memory }
unfolding changed falling first_memory higher place_of able_threads answers named_order bag pick less_one
refused = refl
