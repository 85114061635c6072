-- Orders of threads, and those that draws name.
use Rattle.std.specs.Prelude.{◌≡◌, ℕ, ◌<◌, ◌≤◌, List, length, Result, Ok, Err}
use Rattle.draw_split.specs.Named.{named_order}
use Rattle.frame_links.specs.Lists.{times}
use Rattle.seed_draws.specs.declared.draw_fault.DrawFault.{DrawFault}

-- each of so many threads stands in this order once
pub record IsOrder (threads : ℕ) (order : List ℕ) : Type 0 where
  pub long : length order ≡ threads
  pub once : (thread : ℕ) → thread < threads → times thread order ≡ 1
  pub only : (thread : ℕ) → threads ≤ thread → times thread order ≡ 0

-- the order that draws name, or their refusal
abbrev pub order_found : List ℕ → Result (List ℕ) DrawFault → Result (List ℕ) DrawFault
order_found left (Ok draws) = Ok (named_order left draws)
order_found left (Err fault) = Err fault
