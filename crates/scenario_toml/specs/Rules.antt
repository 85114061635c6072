-- The keys of the code beside the rules of the format.
use Rattle.std.specs.Prelude.{◌≤◌, ◌≤ℤ◌, pos, nat_abs, IfSome}
use Rattle.scenario_toml.specs.declared.keys.NumberKey.{NumberKey}
use Rattle.scenario_toml.specs.Keys.{NumberRule}

-- a key of the code as a rule
abbrev pub rule_of : NumberKey → NumberRule
rule_of key = record { name = key.name.now; least = key.least; most = key.most; default = key.default }

-- no number below 0 is allowed, and the default is in the range
pub record IsRule (key : NumberKey) : Type 0 where
  pub least : pos 0 ≤ℤ key.least
  pub default : IfSome key.default (λ n. (nat_abs key.least ≤ n) × (n ≤ nat_abs key.most))
