-- What is seen of three threads, and the counts that are wrong there, worked out.
use Rattle.std.proofs.Common.{◌≡◌, ℕ, List, [], ◌∷◌, true, false, None, Some, refl}
use Rattle.std.specs.List.{count_by}
use Rattle.walk_rules.specs.declared.rule.Rule.{Rule}
use Rattle.walk_rules.specs.declared.rule.Rule.TheVariants.{Urw, Plain}
use Rattle.walk_rules.specs.declared.seen.Seen.TheVariants.{Over, Held, Able}
use Rattle.walk_rules.specs.Seen.{able_threads, is_announcing, is_unselected}
use Rattle.walk_rules.specs.State.{WalkState, new_memory}
use Rattle.walk_rules.specs.Walk.{wrong_at, wrong_of}

two_announce : count_by is_announcing (Able true ∷ Held true ∷ Over ∷ []) ≡ 2
two_announce = refl

one_is_unselected : count_by is_unselected (Able true ∷ Held false ∷ Able false ∷ []) ≡ 1
one_is_unselected = refl

one_is_able : able_threads (Able true ∷ Held true ∷ Over ∷ []) ≡ 0 ∷ []
unfolding able_threads
one_is_able = refl

two_are_able : able_threads (Able true ∷ Able false ∷ Over ∷ []) ≡ 0 ∷ 1 ∷ []
unfolding able_threads
two_are_able = refl

abbrev walk : Rule → List ℕ → List ℕ → WalkState
walk rule counts left = record { rule = rule; counts = counts; steps = 0; left = left; memory = new_memory; waiting = None }

none_is_wrong : wrong_of (walk Urw (2 ∷ 1 ∷ 0 ∷ []) (2 ∷ 1 ∷ 0 ∷ [])) (Able true ∷ Held true ∷ Over ∷ []) ≡ None
none_is_wrong = refl

-- thread 1 has ended before its event
ended : wrong_of (walk Urw (2 ∷ 1 ∷ 0 ∷ []) (2 ∷ 1 ∷ 0 ∷ [])) (Able true ∷ Over ∷ Able true ∷ []) ≡ Some (1, 1, 0)
ended = refl

-- which the other two are not
ended_alone : wrong_at (walk Urw (2 ∷ 1 ∷ 0 ∷ []) (2 ∷ 1 ∷ 0 ∷ [])) (Able true ∷ Over ∷ Able false ∷ []) 1 ≡ Some (1, 1, 0)
ended_alone = refl

none_at_0 : wrong_at (walk Urw (2 ∷ 1 ∷ 0 ∷ []) (2 ∷ 1 ∷ 0 ∷ [])) (Able true ∷ Over ∷ Able false ∷ []) 0 ≡ None
none_at_0 = refl

-- thread 2 has an event and is counted none
uncounted : wrong_of (walk Urw (2 ∷ 1 ∷ 0 ∷ []) (2 ∷ 1 ∷ 0 ∷ [])) (Able true ∷ Able true ∷ Held true ∷ []) ≡ Some (2, 0, 0)
uncounted = refl

-- thread 0 has made the one event that it is counted
made : wrong_of (walk Urw (1 ∷ 1 ∷ 0 ∷ []) (0 ∷ 1 ∷ 0 ∷ [])) (Over ∷ Able true ∷ Over ∷ []) ≡ None
made = refl

-- and announces one more
one_more : wrong_of (walk Urw (1 ∷ 1 ∷ 0 ∷ []) (0 ∷ 1 ∷ 0 ∷ [])) (Able true ∷ Able true ∷ Over ∷ []) ≡ Some (0, 1, 1)
one_more = refl

-- plain counts nothing
uncounting : wrong_of (walk Plain (2 ∷ 1 ∷ 0 ∷ []) (2 ∷ 1 ∷ 0 ∷ [])) (Over ∷ Over ∷ Able true ∷ []) ≡ None
uncounting = refl
