-- A thread that reads a page through the cache.
use Rattle.std.specs.Prelude.{List, ℕ, ◌-◌, [], ◌∷◌, None, Result, Ok, codes}
use Rattle.surw_base.specs.declared.limits.TheConstants.{LOCKS}
use Rattle.toml.specs.Data.{Members}
use Rattle.routine_kit.specs.declared.any_routine.AnyRoutine.{AnyRoutine}
use Rattle.routine_kit.specs.declared.any_routine.AnyRoutine.TheVariants as routine
use Rattle.routine_kit.specs.CacheUser.{new_cache_user}
use Rattle.scenario_toml.specs.declared.fault.ScenarioFault.{ScenarioFault}
use Rattle.scenario_toml.specs.Faults.{and_then}
use Rattle.scenario_toml.specs.Keys.{NumberRule, greatest, page, rule}
use Rattle.scenario_toml.specs.Values.{number_in, only, optional_number_in}

-- the value that the page should have
abbrev pub expect : NumberRule
expect = rule (codes "expect") 0 greatest None

-- the lock that is held meanwhile, which may be absent
abbrev pub lock : NumberRule
lock = rule (codes "lock") 0 (LOCKS - 1) None

-- the keys in their order
unfoldable pub cache_user_in : List ℕ → Members → Result AnyRoutine ScenarioFault
cache_user_in path table =
    and_then (only path (codes "kind" ∷ codes "page" ∷ codes "expect" ∷ codes "lock" ∷ []) table) (λ _.
    and_then (number_in path table page) (λ page.
    and_then (number_in path table expect) (λ expect.
    and_then (optional_number_in path table lock) (λ lock.
    Ok (routine.CacheUser (new_cache_user page expect lock))))))
