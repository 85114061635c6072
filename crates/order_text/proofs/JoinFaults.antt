-- An order with offsets is refused for one cause.
use Rattle.std.proofs.Common.{◌≡◌, ℕ, ◌<◌, List, length, slice_index, inl, inr, ap, sym, ◌∙◌, refl, subst, arith}
use Rattle.std.proofs.lemmas.Bool.{cases_lt}
use Rattle.draw_split.specs.JoinFault.{IsFirstMiscount, IsFirstOutside, IsFirstUnfilled, IsRefused, offsets_of, times}
use Rattle.draw_split.specs.Rooms.{Fits}
use Rattle.draw_split.specs.Split.{Parts}
use Rattle.draw_split.specs.declared.joining.JoinFault.{JoinFault}
use Rattle.draw_split.specs.declared.joining.JoinFault.TheVariants.{Miscount, Offsets, Offset, OutOfMemory}

-- two numbers of which neither is below the other are one
even : (one other : ℕ) → (one < other → ⊥) → (other < one → ⊥) → other ≡ one
even one other up down = elim (cases_lt one other) [
  | inl less ↦ absurd (up less)
  | inr no_less ↦ elim (cases_lt other one) [
    | inl more ↦ absurd (down more)
    | inr no_more ↦ omega (arith, no_less, no_more)
  ]
]

miscount-later : (counts : List ℕ) (split : Parts) (thread counted seen other number found : ℕ) → IsFirstMiscount counts split thread counted seen
    → IsFirstMiscount counts split other number found → thread < other → ⊥
miscount-later counts split thread counted seen other number found is twin less =
    is.differ (is.counted_is ∙ sym (twin.before thread less) ∙ sym is.seen_is)

miscount-one : (counts : List ℕ) (split : Parts) (thread counted seen other number found : ℕ) → IsFirstMiscount counts split thread counted seen
    → IsFirstMiscount counts split other number found → Miscount other number found ≡ Miscount thread counted seen
miscount-one counts split thread counted seen other number found is twin =
    let same : other ≡ thread =
    even thread other (miscount-later counts split thread counted seen other number found is twin)
    (miscount-later counts split other number found thread counted seen twin is) in
    let count : number ≡ counted = twin.counted_is ∙ ap (λ (t : ℕ). slice_index counts t) same ∙ sym is.counted_is in
    let many : found ≡ seen = twin.seen_is ∙ ap (λ (t : ℕ). times split.order t) same ∙ sym is.seen_is in
    (λ i. Miscount (same i) (count i) (many i))

no-miscount : (counts : List ℕ) (split : Parts) (thread counted seen : ℕ) → IsFirstMiscount counts split thread counted seen → Fits counts split.order → ⊥
no-miscount counts split thread counted seen is fits = is.differ (is.counted_is ∙ sym (fits.each thread) ∙ sym is.seen_is)

unfilled-later : (counts : List ℕ) (split : Parts) (thread counted seen other number found : ℕ) → IsFirstUnfilled counts split thread counted seen
    → IsFirstUnfilled counts split other number found → thread < other → ⊥
unfilled-later counts split thread counted seen other number found is twin less =
    is.differ (is.counted_is ∙ sym (twin.before thread less) ∙ sym is.seen_is)

unfilled-one : (counts : List ℕ) (split : Parts) (thread counted seen other number found : ℕ) → IsFirstUnfilled counts split thread counted seen
    → IsFirstUnfilled counts split other number found → Offsets other number found ≡ Offsets thread counted seen
unfilled-one counts split thread counted seen other number found is twin =
    let same : other ≡ thread =
    even thread other (unfilled-later counts split thread counted seen other number found is twin)
    (unfilled-later counts split other number found thread counted seen twin is) in
    let count : number ≡ counted = twin.counted_is ∙ ap (λ (t : ℕ). slice_index counts t) same ∙ sym is.counted_is in
    let many : found ≡ seen = twin.seen_is ∙ ap (λ (t : ℕ). length (offsets_of split t)) same ∙ sym is.seen_is in
    (λ i. Offsets (same i) (count i) (many i))

-- so many offsets as counted, of each thread
no-unfilled : (counts : List ℕ) (split : Parts) (thread counted seen : ℕ) → IsFirstUnfilled counts split thread counted seen
    → ((other : ℕ) → length (offsets_of split other) ≡ slice_index counts other) → ⊥
no-unfilled counts split thread counted seen is filled = is.differ (is.counted_is ∙ sym (filled thread) ∙ sym is.seen_is)

outside-later : (counts : List ℕ) (split : Parts) (thread place kept below other position value most : ℕ) → IsFirstOutside counts split thread place kept below
    → IsFirstOutside counts split other position value most → thread < other → ⊥
outside-later counts split thread place kept below other position value most is twin less =
    let room = twin.lower thread less in
    omega (arith, room.each place is.there, is.kept_is, is.left, is.large)

place-later : (counts : List ℕ) (split : Parts) (thread place kept below position value most : ℕ) → IsFirstOutside counts split thread place kept below
    → IsFirstOutside counts split thread position value most → place < position → ⊥
place-later counts split thread place kept below position value most is twin less =
    omega (arith, twin.before place less, is.kept_is, is.left, is.large)

outside-one : (counts : List ℕ) (split : Parts) (thread place kept below other position value most : ℕ) → IsFirstOutside counts split thread place kept below
    → IsFirstOutside counts split other position value most → Offset other position value most ≡ Offset thread place kept below
outside-one counts split thread place kept below other position value most is twin =
    let same : other ≡ thread =
    even thread other (outside-later counts split thread place kept below other position value most is twin)
    (outside-later counts split other position value most thread place kept below twin is) in
    let here : IsFirstOutside counts split thread position value most =
    subst (λ (t : ℕ). IsFirstOutside counts split t position value most) same twin in
    let at : position ≡ place =
    even place position (place-later counts split thread place kept below position value most is here)
    (place-later counts split thread position value most place kept below here is) in
    let number : value ≡ kept = here.kept_is ∙ ap (λ (k : ℕ). slice_index (offsets_of split thread) k) at ∙ sym is.kept_is in
    let left : most ≡ below = omega (arith, at, is.left, here.left) in
    (λ i. Offset (same i) (at i) (number i) (left i))

-- the causes exclude each other, and want of memory is none of them
pub refused-one : (counts : List ℕ) (split : Parts) (fault other : JoinFault) → IsRefused counts split fault → IsRefused counts split other → other ≡ fault
refused-one counts split (Miscount thread counted seen) (Miscount other number found) is twin = miscount-one counts split thread counted seen other number found is twin
refused-one counts split (Miscount thread counted seen) (Offsets other number found) is twin = absurd (no-miscount counts split thread counted seen is twin.fits)
refused-one counts split (Miscount thread counted seen) (Offset other place kept below) is twin = absurd (no-miscount counts split thread counted seen is twin.fits)
refused-one counts split (Miscount thread counted seen) OutOfMemory is twin = absurd (no-miscount counts split thread counted seen is twin.0)
refused-one counts split (Offsets thread counted seen) (Miscount other number found) is twin = absurd (no-miscount counts split other number found twin is.fits)
refused-one counts split (Offsets thread counted seen) (Offsets other number found) is twin = unfilled-one counts split thread counted seen other number found is twin
refused-one counts split (Offsets thread counted seen) (Offset other place kept below) is twin = absurd (no-unfilled counts split thread counted seen is twin.filled)
refused-one counts split (Offsets thread counted seen) OutOfMemory is twin = absurd (no-unfilled counts split thread counted seen is (λ t. (twin.1 t).full))
refused-one counts split (Offset thread place kept below) (Miscount other number found) is twin = absurd (no-miscount counts split other number found twin is.fits)
refused-one counts split (Offset thread place kept below) (Offsets other number found) is twin = absurd (no-unfilled counts split other number found twin is.filled)
refused-one counts split (Offset thread place kept below) (Offset other position value most) is twin = outside-one counts split thread place kept below other position value most is twin
refused-one counts split (Offset thread place kept below) OutOfMemory is twin =
    absurd (omega (arith, (twin.1 thread).each place is.there, is.kept_is, is.left, is.large))
refused-one counts split OutOfMemory (Miscount other number found) is twin = absurd (no-miscount counts split other number found twin is.0)
refused-one counts split OutOfMemory (Offsets other number found) is twin = absurd (no-unfilled counts split other number found twin (λ t. (is.1 t).full))
refused-one counts split OutOfMemory (Offset other place kept below) is twin =
    absurd (omega (arith, (is.1 other).each place twin.there, twin.kept_is, twin.left, twin.large))
refused-one counts split OutOfMemory OutOfMemory is twin = refl
