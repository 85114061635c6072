-- The threads by priority, and what holds of every `Ranks`.
use Rattle.std.specs.Prelude.{◌≡◌, ℕ, ◌<◌, ◌≤◌, List, [], ◌∷◌, length, slice_index}
use Rattle.surw_base.specs.declared.limits.TheConstants.{THREADS}
use Rattle.pct_draws.specs.Order.{IsOrder}
use Rattle.frame_links.specs.Lists.{times, list_at, node_count, HasEachOnce}
use Rattle.walk_rules.specs.declared.ranks.Ranks.TheInside.{Inside}

-- each of these threads has a higher priority than those after it
abbrev pub IsFalling : List ℕ → List ℕ → Type 0
IsFalling priorities [] = Unit {0}
IsFalling priorities (first ∷ rest) =
    ((other : ℕ) → 1 ≤ times other rest → slice_index priorities other < slice_index priorities first) × IsFalling priorities rest

-- links of one list, which has so many threads from the highest priority to the lowest, each once
pub record AreByPriority (threads : ℕ) (priorities : List ℕ) (links : List (List ℕ)) : Type 0 where
  pub one : length links ≡ 1
  pub nodes : node_count links ≡ threads
  pub order : IsOrder threads (list_at links 0)
  pub falling : IsFalling priorities (list_at links 0)

-- the threads are linked in one list; where there are priorities, it goes from the highest to the lowest
pub record AreRanked (ranks : Inside) : Type 0 where
  pub one : length ranks.by_priority ≡ 1
  pub nodes : node_count ranks.by_priority ≡ ranks.threads
  pub few : ranks.threads ≤ THREADS
  pub each_once : HasEachOnce ranks.by_priority
  pub drawn : 0 < length ranks.priorities.items → length ranks.priorities.items ≡ ranks.threads
  pub falling : length ranks.priorities.items ≡ ranks.threads → IsFalling ranks.priorities.items (list_at ranks.by_priority 0)
