-- What holds between draw lists, orders and offsets, over all counts.
use Rattle.std.specs.Prelude.{◌≡◌, ℕ, List, slice_index}
use Rattle.std.specs.List.{All, AllPairs}
use Rattle.std.specs.Cmp.Lexicographic.{slice_cmp}
use Rattle.std.specs.Ordering.{nat_cmp}
use Rattle.std.specs.declared.cmp.Ordering.TheVariants.{Less}
use Rattle.draw_split.specs.AllDraws.{all_draws, times_listed, times_named, factorials}
use Rattle.draw_split.specs.DrawList.{IsDrawList}
use Rattle.draw_split.specs.Named.{named_order, named_offsets, Names}
use Rattle.draw_split.specs.Rooms.{Fits, IsInRoom, AreInRooms}
use Rattle.draw_split.specs.Split.{Parts}

-- exactly one list is so
abbrev pub ExactlyOne : (List ℕ → Type 0) → Type 0
ExactlyOne P = (draws : List ℕ) × P draws × ((other : List ℕ) → P other → other ≡ draws)

-- the draws are a draw list of the counts, and name this order
pub record Gives (counts draws order : List ℕ) : Type 0 where
  pub list : IsDrawList counts draws
  pub order_named : order ≡ named_order counts draws

-- two lists of draws name the same offsets for each thread
abbrev pub KeepsOffsets : List ℕ → List ℕ → List ℕ → Type 0
KeepsOffsets counts draws others = (thread : ℕ) → named_offsets counts draws thread ≡ named_offsets counts others thread

-- the order that a draw list names fits, and its offsets are in their rooms
abbrev pub EachIsNamed : Type 0
EachIsNamed = (counts draws : List ℕ) → IsDrawList counts draws
    → Fits counts (named_order counts draws) × ((thread : ℕ) → IsInRoom (slice_index counts thread) (named_offsets counts draws thread))

-- for an order that fits and offsets in their rooms exactly one list of draws names both
abbrev pub OneNamesBoth : Type 0
OneNamesBoth = (counts : List ℕ) (split : Parts) → Fits counts split.order → AreInRooms counts split.offsets
    → ExactlyOne (λ draws. Names counts draws split)

-- for each draw list of the first order exactly one of the second has the same offsets, and the other way round
abbrev pub OrdersExchange : Type 0
OrdersExchange = (counts first second : List ℕ) → Fits counts first → Fits counts second
    → ((draws : List ℕ) → Gives counts draws first → ExactlyOne (λ others. Gives counts others second × KeepsOffsets counts draws others))
    × ((others : List ℕ) → Gives counts others second → ExactlyOne (λ draws. Gives counts draws first × KeepsOffsets counts draws others))

-- the written-out list holds each draw list once
abbrev pub EachIsListedOnce : Type 0
EachIsListedOnce = (counts draws : List ℕ) → IsDrawList counts draws → times_listed draws (all_draws counts) ≡ 1

-- and nothing else
abbrev pub NoOtherIsListed : Type 0
NoOtherIsListed = (counts : List ℕ) → All (IsDrawList counts) (all_draws counts)

-- each list there comes before those after it in lexical order
abbrev pub AreInLexicalOrder : Type 0
AreInLexicalOrder = (counts : List ℕ) → AllPairs (λ earlier later. slice_cmp nat_cmp earlier later ≡ Less) (all_draws counts)

-- each order that fits is named by as many draw lists: the product of the factorials of the counts
abbrev pub OrdersAreEquallyMany : Type 0
OrdersAreEquallyMany = (counts order : List ℕ) → Fits counts order → times_named counts order (all_draws counts) ≡ factorials counts
