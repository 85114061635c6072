-- A depth that words choose is within its limits.
use Rattle.std.proofs.Common.{◌≡◌, ◌≤◌, ◌&&◌, leb, ℕ, Bool, true, false, cond, List, Option, None, Some, IfSome, codes, option_and_then, refl, sym, subst}
use Rattle.std.proofs.lemmas.Bool.{leb-true}
use Rattle.command_words.specs.Ask.{Ask, AsksFor, IsRead}
use Rattle.command_words.specs.Command.{given}
use Rattle.command_words.specs.Number.{depth_in, depth_of, number_of}
use Rattle.command_words.specs.declared.job.Job.{Job}
use Rattle.scenario_toml.specs.Chosen.{HasDepth}
use Rattle.surw_base.specs.declared.limits.TheConstants.{DEPTH}

abbrev IsWithin : Option ℕ → Type 0
IsWithin depth = IfSome depth (λ depth. (1 ≤ depth) × (depth ≤ DEPTH))

both-within : (least most : Bool) (number : ℕ) → (least ≡ true → 1 ≤ number) → (most ≡ true → number ≤ DEPTH) → IsWithin (cond (least && most) (Some number) None)
both-within true true number some few = (some refl, few refl)
both-within true false number some few = tt
both-within false most number some few = tt

number-within : (number depth : Option ℕ) → option_and_then depth_in number ≡ depth → IsWithin depth
number-within None depth is = subst IsWithin is tt
number-within (Some number) depth is =
    subst IsWithin is (both-within (leb 1 number) (leb number DEPTH) number (λ least. leb-true 1 number least) (λ most. leb-true number DEPTH most))

read-within : (text : Option (List ℕ)) (depth : Option ℕ) → IsRead depth_of text depth → IsWithin depth
read-within None depth is = subst IsWithin (sym is) tt
read-within (Some text) depth is = number-within (number_of text) depth is.0

pub has-depth : (jobs : List Job) (words : List (List ℕ)) (ask : Ask) → AsksFor jobs words ask → HasDepth ask.choice
has-depth jobs words ask asked = read-within (given (codes "depth") words) ask.choice.depth asked.depth
