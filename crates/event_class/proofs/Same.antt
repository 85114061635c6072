-- What `==` says of lists of items, and of events.
use Rattle.std.proofs.Common.{◌≡◌, ◌&&◌, Bool, true, false, eqb, Decides, Option, Some, None, rules, refl, ap, List}
use Rattle.std.proofs.lemmas.Bool.{false≢true}
use Rattle.std.proofs.lemmas.Bool.Decides.{Decides-eqb}
use Rattle.std.proofs.lemmas.Slice.Eq.{slice_eq-Decides}
use Rattle.std.specs.Cmp.Lexicographic.{pointwise}
use Rattle.std.specs.Option.{option_eq}
use denote.Enum.Bare.{same_true, true_same, sameb}
use Rattle.event_class.specs.contracts.event.Class.{the_type}
use Rattle.event_class.specs.contracts.event.EventPartialEq.TheImpl as event
use Rattle.event_class.specs.declared.event.Class.{Class}
use Rattle.event_class.specs.declared.event.Event.{Event}
use Rattle.event_class.specs.declared.event.Event.TheVariants.{Acquire, Release, Load, Store, Add, SwapIf, Find, Claim, Fill, Read, Write, Oldest, Stamp, Flush, Reserve, Put, Mark, Durable, Check}
use Rattle.event_class.specs.declared.pickable.Pickable.{Pickable}
use Rattle.event_class.specs.declared.pickable.Pickable.TheVariants.{Every, Of, LockNo, CellNo}
use Rattle.event_class.specs.contracts.pickable.PickablePartialEq.TheImpl.{eq-value}

same-class : (a b : Class) → Decides (sameb the_type a b) (a ≡ b)
same-class a b = (λ h. same_true the_type (search rules) a b h, true_same the_type a b)

same-item : (a b : Pickable) → Decides (eq-value.it a b) (a ≡ b)
same-item Every Every = (λ _. refl, λ _. refl)
same-item (Of a) (Of b) = (λ h. ap Of ((same-class a b).0 h), λ h. (same-class a b).1 (cc))
same-item (LockNo a) (LockNo b) = (λ h. ap LockNo ((Decides-eqb a b).0 h), λ h. (Decides-eqb a b).1 (cc))
same-item (CellNo a) (CellNo b) = (λ h. ap CellNo ((Decides-eqb a b).0 h), λ h. (Decides-eqb a b).1 (cc))
same-item a b = (λ h. cc, λ h. cc)

-- it is true exactly where the lists are equal
pub same_items : (xs ys : List Pickable) (r : Bool) → r ≡ pointwise eq-value.it xs ys → Decides r (xs ≡ ys)
same_items = slice_eq-Decides same-item

both-true : (x y : Bool) → (x && y) ≡ true → (x ≡ true) × (y ≡ true)
both-true true y h = (refl, h)
both-true false y h = absurd (false≢true h)

-- events for which it is true are equal
pub same_event : (a b : Event) → event.eq-value.it a b ≡ true → a ≡ b
same_event (Acquire a0) (Acquire b0) h = let e : a0 ≡ b0 = (Decides-eqb a0 b0).0 h in cc
same_event (Release a0) (Release b0) h = let e : a0 ≡ b0 = (Decides-eqb a0 b0).0 h in cc
same_event (Load a0) (Load b0) h = let e : a0 ≡ b0 = (Decides-eqb a0 b0).0 h in cc
same_event (Store a0 a1) (Store b0 b1) h =
    let parts = both-true (eqb a0 b0) (eqb a1 b1) h in
    let e : a0 ≡ b0 = (Decides-eqb a0 b0).0 parts.0 in
    let f : a1 ≡ b1 = (Decides-eqb a1 b1).0 parts.1 in
    cc
same_event (Add a0 a1) (Add b0 b1) h =
    let parts = both-true (eqb a0 b0) (eqb a1 b1) h in
    let e : a0 ≡ b0 = (Decides-eqb a0 b0).0 parts.0 in
    let f : a1 ≡ b1 = (Decides-eqb a1 b1).0 parts.1 in
    cc
same_event (SwapIf a0 a1 a2) (SwapIf b0 b1 b2) h =
    let parts = both-true (eqb a0 b0) (eqb a1 b1 && eqb a2 b2) h in
    let rest = both-true (eqb a1 b1) (eqb a2 b2) parts.1 in
    let e : a0 ≡ b0 = (Decides-eqb a0 b0).0 parts.0 in
    let f : a1 ≡ b1 = (Decides-eqb a1 b1).0 rest.0 in
    let k : a2 ≡ b2 = (Decides-eqb a2 b2).0 rest.1 in
    cc
same_event (Find a0) (Find b0) h = let e : a0 ≡ b0 = (Decides-eqb a0 b0).0 h in cc
same_event (Claim a0) (Claim b0) h = let e : a0 ≡ b0 = (Decides-eqb a0 b0).0 h in cc
same_event (Fill a0 a1) (Fill b0 b1) h =
    let parts = both-true (eqb a0 b0) (eqb a1 b1) h in
    let e : a0 ≡ b0 = (Decides-eqb a0 b0).0 parts.0 in
    let f : a1 ≡ b1 = (Decides-eqb a1 b1).0 parts.1 in
    cc
same_event (Read a0) (Read b0) h = let e : a0 ≡ b0 = (Decides-eqb a0 b0).0 h in cc
same_event (Write a0 a1 a2) (Write b0 b1 b2) h =
    let parts = both-true (eqb a0 b0) (eqb a1 b1 && eqb a2 b2) h in
    let rest = both-true (eqb a1 b1) (eqb a2 b2) parts.1 in
    let e : a0 ≡ b0 = (Decides-eqb a0 b0).0 parts.0 in
    let f : a1 ≡ b1 = (Decides-eqb a1 b1).0 rest.0 in
    let k : a2 ≡ b2 = (Decides-eqb a2 b2).0 rest.1 in
    cc
same_event Oldest Oldest h = refl
same_event (Stamp a0) (Stamp b0) h = let e : a0 ≡ b0 = (Decides-eqb a0 b0).0 h in cc
same_event (Flush a0) (Flush b0) h = let e : a0 ≡ b0 = (Decides-eqb a0 b0).0 h in cc
same_event Reserve Reserve h = refl
same_event (Put a0 a1) (Put b0 b1) h =
    let parts = both-true (eqb a0 b0) (eqb a1 b1) h in
    let e : a0 ≡ b0 = (Decides-eqb a0 b0).0 parts.0 in
    let f : a1 ≡ b1 = (Decides-eqb a1 b1).0 parts.1 in
    cc
same_event (Mark a0) (Mark b0) h = let e : a0 ≡ b0 = (Decides-eqb a0 b0).0 h in cc
same_event Durable Durable h = refl
same_event (Check a0 a1) (Check b0 b1) h =
    let parts = both-true (eqb a0 b0) (eqb a1 b1) h in
    let e : a0 ≡ b0 = (Decides-eqb a0 b0).0 parts.0 in
    let f : a1 ≡ b1 = (Decides-eqb a1 b1).0 parts.1 in
    cc
same_event a b h = cc

-- and so are two words
pub same_word : (a b : Option Event) → option_eq event.eq-value.it a b ≡ true → a ≡ b
same_word None None h = refl
same_word None (Some b) h = absurd (false≢true h)
same_word (Some a) None h = absurd (false≢true h)
same_word (Some a) (Some b) h = ap Some (same_event a b h)
