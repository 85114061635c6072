-- The laws, put together.
use Rattle.std.proofs.Common.{ℕ, List, sum, sym, ◌∙◌}
use Rattle.std.proofs.lemmas.List.Elements.{All-weaker}
use Rattle.draw_split.specs.AllDraws.{lists_of}
use Rattle.draw_split.specs.DrawList.{IsDrawList}
use Rattle.draw_split.specs.Laws.{ExactlyOne, Gives, KeepsOffsets, EachIsNamed, OneNamesBoth, OrdersExchange, EachIsListedOnce, NoOtherIsListed, AreInLexicalOrder, OrdersAreEquallyMany}
use Rattle.draw_split.specs.Named.{named_offsets}
use Rattle.draw_split.specs.Rooms.{Fits, IsInRoom}
use Rattle.draw_split.proofs.AllDraws.{listed-once, listed-rooms, listed-pairs, named-many}
use Rattle.draw_split.proofs.JoinedDraws.{joined, joins-back, same-draws, by_thread, names-joined, names-one}
use Rattle.draw_split.proofs.NamedOrders.{good, draw_list, named-fits, named-room}

pub each-named : EachIsNamed
each-named counts draws is = (named-fits counts draws (good counts draws is), named-room counts draws (good counts draws is))

pub one-names : OneNamesBoth
one-names counts split fits rooms =
    let names = names-joined counts split fits rooms in
    (joined counts split.order (by_thread split.offsets), names, λ other are. names-one counts other _ split are names)

-- the draw list of another order with the same offsets
exchange : (counts draws order : List ℕ) → IsDrawList counts draws → Fits counts order
    → ExactlyOne (λ others. Gives counts others order × KeepsOffsets counts draws others)
exchange counts draws order list fits =
    let offsets : ℕ → List ℕ = named_offsets counts draws in
    let back = joins-back counts order offsets fits record { each = named-room counts draws (good counts draws list) } in
    let others : List ℕ = joined counts order offsets in (
      others,
      (record { list = draw_list counts others back.good_draws; order_named = sym back.order_back }, λ thread. sym (back.offsets_back thread)),
      λ other is. same-draws counts other others (good counts other is.0.list) back.good_draws (sym is.0.order_named ∙ sym back.order_back)
          (λ thread. sym (is.1 thread) ∙ sym (back.offsets_back thread)),
    )

pub orders-exchange : OrdersExchange
orders-exchange counts first second fits also = (
  λ draws gives. exchange counts draws second gives.list also,
  λ others gives.
      let one = exchange counts others first gives.list fits in
      (one.0, (one.1.0, λ thread. sym (one.1.1 thread)), λ draws is. one.2 draws (is.0, λ thread. sym (is.1 thread))),
)

-- a draw list is in the room of the sum
in-room : (counts draws : List ℕ) → IsDrawList counts draws → IsInRoom (sum counts) draws
in-room counts draws is = record { full = is.full; each = is.each }

is-draw_list : (counts draws : List ℕ) → IsInRoom (sum counts) draws → IsDrawList counts draws
is-draw_list counts draws room = record { full = room.full; each = room.each }

pub each-listed : EachIsListedOnce
each-listed counts draws is = listed-once (sum counts) draws (in-room counts draws is)

pub no-other-listed : NoOtherIsListed
no-other-listed counts = All-weaker (IsInRoom (sum counts)) (IsDrawList counts) (is-draw_list counts) (lists_of (sum counts)) (listed-rooms (sum counts))

pub in-lexical-order : AreInLexicalOrder
in-lexical-order counts = listed-pairs (sum counts)

pub equally-many : OrdersAreEquallyMany
equally-many counts order fits = named-many (sum counts) counts order (λ i. sum counts) fits
