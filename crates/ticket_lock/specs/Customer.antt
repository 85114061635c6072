-- What a customer of a ticket lock announces.
use Rattle.std.specs.Prelude.{ℕ, ◌+◌, ◌%◌, ◌^◌, ◌==◌, if◌then◌else◌, List, slice_get, Option}
use Rattle.std.specs.Option.{option_map}
use Rattle.event_class.specs.declared.event.Event.{Event}
use Rattle.event_class.specs.declared.event.Event.TheVariants.{Load, Store, Add}
use Rattle.ticket_lock.specs.declared.customer.Stage.{Stage}
use Rattle.ticket_lock.specs.declared.customer.Stage.TheVariants.{Comes, Waits, Served, Pays, Leaves}
use Rattle.ticket_lock.specs.declared.customer.TheConstants.{NEXT_TICKET, NOW_SERVED, TILL}

-- a customer: its payments, how many of them are made, and its stage in the visit for the next
pub record CustomerState : Type 0 where
  pub payments : List ℕ
  pub visit : ℕ
  pub stage : Stage

-- the event of a stage in the visit for a payment
abbrev pub event_in : Stage → ℕ → Event
event_in Comes payment = Add NEXT_TICKET 1
event_in (Waits ticket) payment = Load NOW_SERVED
event_in Served payment = Load TILL
event_in (Pays till) payment = Store TILL ((till + payment) % 2 ^ 64)
event_in Leaves payment = Add NOW_SERVED 1

-- its next event, and none once all payments are made
abbrev pub customer_announced : CustomerState → Option Event
customer_announced customer = option_map (event_in customer.stage) (slice_get customer.payments customer.visit)

-- a customer in this stage after a reply: who waits is served where the reply is its ticket
abbrev pub customer_told : CustomerState → Stage → ℕ → CustomerState
customer_told customer Comes reply = record customer { stage = Waits reply }
customer_told customer (Waits ticket) reply = record customer { stage = if reply == ticket then Served else Waits ticket }
customer_told customer Served reply = record customer { stage = Pays reply }
customer_told customer (Pays till) reply = record customer { stage = Leaves }
customer_told customer Leaves reply = record customer { visit = customer.visit + 1; stage = Comes }

-- the customer after a reply
abbrev pub customer_after : CustomerState → ℕ → CustomerState
customer_after customer reply = customer_told customer customer.stage reply
