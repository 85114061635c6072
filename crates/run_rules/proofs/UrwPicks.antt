-- URW's pick is its choice.
use Rattle.std.proofs.Common.{◌≡◌, ◌&&◌, not, Bool, true, false, cond, Option, None, refl, ap, sym}
use Rattle.event_class.specs.Selection.{has}
use Rattle.walk_rules.specs.State.{Memory, new_memory}
use Rattle.walk_rules.specs.Urw.{urw}
use Rattle.walk_rules.specs.Walk.{kept_after}
use Rattle.run_rules.specs.StepwisePicks.{PicksChoices}
use Rattle.run_rules.specs.UrwChoice.{urw_choice, urw_choices}

none-either : {A : Type 0} (b : Bool) (o : Option A) → o ≡ None → cond b None o ≡ o
none-either true o none = sym none
none-either false o none = refl

-- a step leaves what is kept where no thread is intended
pub kept-same : (memory : Memory) (chosen forced : Bool) → memory.intended ≡ None → kept_after memory chosen forced ≡ memory
kept-same memory chosen forced none = ap (λ i. record memory { intended = i }) (none-either (chosen && not forced) memory.intended none)

pub urw-picks : PicksChoices urw urw_choices
unfolding urw_choice
urw-picks = record {
  asks_selected = λ setup x answered. refl;
  asks_other = λ setup x answered. refl;
  picks = λ setup x answered. refl;
  starts = λ setup words. refl;
  ignores_words = λ setup x y same again. refl;
  keeps = λ setup journal entry before after word answered chosen. kept-same new_memory (has setup.selection entry.event) entry.forced refl;
}
