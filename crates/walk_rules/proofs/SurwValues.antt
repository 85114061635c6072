-- Some picks of SURW, worked out.
use Rattle.std.proofs.Common.{◌≡◌, ℕ, List, [], ◌∷◌, true, false, Option, None, Some, refl}
use Rattle.seed_draws.specs.declared.draw_fault.DrawFault.TheVariants.{Short}
use Rattle.seed_draws.specs.Answers.{Answering, answers}
use Rattle.seed_draws.specs.TapeSource.{loose_tape, strict_tape}
use Rattle.walk_rules.specs.declared.picked.Picked.TheVariants as picked
use Rattle.walk_rules.specs.declared.rule.Rule.TheVariants.{Plain}
use Rattle.walk_rules.specs.declared.seen.Seen.{Seen}
use Rattle.walk_rules.specs.declared.seen.Seen.TheVariants.{Over, Held, Able}
use Rattle.walk_rules.specs.Seen.{able_threads}
use Rattle.walk_rules.specs.State.{WalkState, new_memory}
use Rattle.walk_rules.specs.Surw.{narrow, surw_pick}
use Rattle.walk_rules.specs.Walk.{kept_after}
use Rattle.draw_split.specs.Bag.{bag, pick}

abbrev strict : List ℕ → Answering
strict entries = (strict_tape entries).answers

abbrev loose : List ℕ → Answering
loose entries = (loose_tape entries).answers

abbrev view : List Seen
view = Able true ∷ Held true ∷ Able false ∷ []

-- the rule isn't looked at
abbrev walk : Option ℕ → WalkState
walk intended = record { rule = Plain; counts = 1 ∷ 1 ∷ 0 ∷ []; steps = 0; left = 1 ∷ 1 ∷ 0 ∷ []; memory = record new_memory { intended = intended }; waiting = None }

-- thread 0 is intended: two candidates
two : surw_pick (walk None) view (strict (0 ∷ [])) (loose (1 ∷ []))
    ≡ record { selected_bounds = 2 ∷ []; other_bounds = 2 ∷ []; picked = picked.Grant 2 false; memory = record new_memory { intended = Some 0 } }
unfolding narrow answers able_threads bag pick
two = refl

-- thread 1, which is held, is intended: one candidate
one : surw_pick (walk None) view (strict (1 ∷ [])) (loose (1 ∷ []))
    ≡ record { selected_bounds = 2 ∷ []; other_bounds = 1 ∷ []; picked = picked.Grant 2 false; memory = record new_memory { intended = Some 1 } }
unfolding narrow answers able_threads bag pick
one = refl

-- the intention is refused: nothing is asked of the other source
refused : surw_pick (walk None) view (strict []) (loose (1 ∷ []))
    ≡ record { selected_bounds = 2 ∷ []; other_bounds = []; picked = picked.Stop (Short 0); memory = record new_memory { intended = None } }
unfolding narrow answers able_threads bag pick
refused = refl

-- a forced step leaves the intention
forced : surw_pick (walk (Some 1)) (Able true ∷ Held true ∷ Over ∷ []) (strict []) (loose [])
    ≡ record { selected_bounds = []; other_bounds = 1 ∷ []; picked = picked.Grant 0 true; memory = record new_memory { intended = Some 1 } }
unfolding narrow answers able_threads bag pick
forced = refl

-- after it thread 1 is still intended
kept : kept_after (record new_memory { intended = Some 1 }) true true ≡ record new_memory { intended = Some 1 }
kept = refl

-- after its own selected step it isn't
ended : kept_after (record new_memory { intended = Some 1 }) true false ≡ new_memory
ended = refl
