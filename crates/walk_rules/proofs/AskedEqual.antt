-- What `==` says of lists of entries that are asked for.
use Rattle.std.proofs.Common.{◌≡◌, ℕ, ◌&&◌, Bool, true, false, eqb, Decides, List, refl, ap, subst, ◌∙◌}
use Rattle.std.proofs.lemmas.Bool.{false≢true}
use Rattle.std.proofs.lemmas.Bool.Decides.{Decides-eqb}
use Rattle.std.proofs.lemmas.Slice.Eq.{slice_eq-Decides}
use Rattle.std.specs.Cmp.Lexicographic.{pointwise}
use Rattle.event_class.specs.contracts.event.EventPartialEq.TheImpl as event
use Rattle.event_class.specs.declared.event.Event.{Event}
use Rattle.event_class.specs.declared.event.Event.TheVariants.{Acquire, Release, Load, Store, Add, SwapIf, Find, Claim, Fill, Read, Write, Oldest, Stamp, Flush, Reserve, Put, Mark, Durable, Check}
use Rattle.event_class.proofs.Same.{same_event}
use Rattle.walk_rules.specs.contracts.asked.AskedPartialEq.TheImpl as asked
use Rattle.walk_rules.specs.declared.asked.Asked.{Asked}

same-number : (n : ℕ) → eqb n n ≡ true
same-number n = (Decides-eqb n n).1 refl

both : (x y : Bool) → x ≡ true → y ≡ true → (x && y) ≡ true
both x y one other = ap (λ (b : Bool). b && y) one ∙ other

two : (m n : ℕ) → (eqb m m && eqb n n) ≡ true
two m n = both (eqb m m) (eqb n n) (same-number m) (same-number n)

three : (l m n : ℕ) → (eqb l l && (eqb m m && eqb n n)) ≡ true
three l m n = both (eqb l l) (eqb m m && eqb n n) (same-number l) (two m n)

-- it is true of an event and itself
pub event-itself : (a : Event) → event.eq-value.it a a ≡ true
event-itself (Acquire a0) = same-number a0
event-itself (Release a0) = same-number a0
event-itself (Load a0) = same-number a0
event-itself (Store a0 a1) = two a0 a1
event-itself (Add a0 a1) = two a0 a1
event-itself (SwapIf a0 a1 a2) = three a0 a1 a2
event-itself (Find a0) = same-number a0
event-itself (Claim a0) = same-number a0
event-itself (Fill a0 a1) = two a0 a1
event-itself (Read a0) = same-number a0
event-itself (Write a0 a1 a2) = three a0 a1 a2
event-itself Oldest = refl
event-itself (Stamp a0) = same-number a0
event-itself (Flush a0) = same-number a0
event-itself Reserve = refl
event-itself (Put a0 a1) = two a0 a1
event-itself (Mark a0) = same-number a0
event-itself Durable = refl
event-itself (Check a0 a1) = two a0 a1

both-true : (x y : Bool) → (x && y) ≡ true → (x ≡ true) × (y ≡ true)
both-true true y h = (refl, h)
both-true false y h = absurd (false≢true h)

same-asked : (a b : Asked) → Decides (asked.eq-value.it a b) (a ≡ b)
same-asked a b = (
  λ h.
      let parts = both-true (eqb a.thread b.thread) (event.eq-value.it a.event b.event) h in
      let thread : a.thread ≡ b.thread = (Decides-eqb a.thread b.thread).0 parts.0 in
      let event_is : a.event ≡ b.event = same_event a.event b.event parts.1 in
      (λ i. record { thread = thread i; event = event_is i }),
  λ e.
      subst (λ (x : Asked). asked.eq-value.it a x ≡ true) e
      (both (eqb a.thread a.thread) (event.eq-value.it a.event a.event) (same-number a.thread) (event-itself a.event)),
)

-- it is true exactly where the lists are equal
pub same_asked_lists : (xs ys : List Asked) (r : Bool) → r ≡ pointwise asked.eq-value.it xs ys → Decides r (xs ≡ ys)
same_asked_lists = slice_eq-Decides same-asked
