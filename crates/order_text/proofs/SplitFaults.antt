-- Draws are split in one way, or refused for one cause.
use Rattle.std.proofs.Common.{◌≡◌, ℕ, ◌<◌, List, slice_index, refl, inl, inr, ap, sym, ◌∙◌, arith}
use Rattle.std.proofs.lemmas.Bool.{cases_lt}
use Rattle.draw_split.specs.DrawList.{IsDrawList}
use Rattle.draw_split.specs.SplitFault.{IsFirstLarge, IsRefused}
use Rattle.draw_split.specs.declared.naming.SplitFault.{SplitFault}
use Rattle.draw_split.specs.declared.naming.SplitFault.TheVariants.{Length, Large, OutOfMemory}

no-list-large : (counts draws : List ℕ) (place kept below : ℕ) → IsFirstLarge counts draws place kept below → IsDrawList counts draws → ⊥
no-list-large counts draws place kept below is list =
    let small = list.each place is.there in
    omega (arith, small, is.kept_is, is.left, is.large)

no-earlier : (counts draws : List ℕ) (place kept below other value most : ℕ) → IsFirstLarge counts draws place kept below
    → IsFirstLarge counts draws other value most → place < other → ⊥
no-earlier counts draws place kept below other value most is twin less =
    let small = twin.before place less in
    omega (arith, small, is.kept_is, is.left, is.large)

same-place : (counts draws : List ℕ) (place kept below other value most : ℕ) → IsFirstLarge counts draws place kept below
    → IsFirstLarge counts draws other value most → other ≡ place
same-place counts draws place kept below other value most is twin = elim (cases_lt place other) [
  | inl less ↦ absurd (no-earlier counts draws place kept below other value most is twin less)
  | inr no_less ↦ elim (cases_lt other place) [
    | inl more ↦ absurd (no-earlier counts draws other value most place kept below twin is more)
    | inr no_more ↦ omega (arith, no_less, no_more)
  ]
]

large-one : (counts draws : List ℕ) (place kept below other value most : ℕ) → IsFirstLarge counts draws place kept below
    → IsFirstLarge counts draws other value most → Large other value most ≡ Large place kept below
large-one counts draws place kept below other value most is twin =
    let at : other ≡ place = same-place counts draws place kept below other value most is twin in
    let number : value ≡ kept = twin.kept_is ∙ ap (λ (k : ℕ). slice_index draws k) at ∙ sym is.kept_is in
    let left : most ≡ below = omega (arith, at, is.left, twin.left) in
    (λ i. Large (at i) (number i) (left i))

-- the causes exclude each other
pub refused-one : (counts draws : List ℕ) (fault other : SplitFault) → IsRefused counts draws fault → IsRefused counts draws other → other ≡ fault
refused-one counts draws (Length kept needed) (Length other wanted) is twin =
    let number : other ≡ kept = twin.0 ∙ sym is.0 in
    let all : wanted ≡ needed = twin.1 ∙ sym is.1 in
    (λ i. Length (number i) (all i))
refused-one counts draws (Length kept needed) (Large place value below) is twin = absurd (is.2 (is.0 ∙ twin.full ∙ sym is.1))
refused-one counts draws (Length kept needed) OutOfMemory is twin = absurd (is.2 (is.0 ∙ twin.full ∙ sym is.1))
refused-one counts draws (Large place kept below) (Length other needed) is twin = absurd (twin.2 (twin.0 ∙ is.full ∙ sym twin.1))
refused-one counts draws (Large place kept below) (Large other value most) is twin = large-one counts draws place kept below other value most is twin
refused-one counts draws (Large place kept below) OutOfMemory is twin = absurd (no-list-large counts draws place kept below is twin)
refused-one counts draws OutOfMemory (Length kept needed) is twin = absurd (twin.2 (twin.0 ∙ is.full ∙ sym twin.1))
refused-one counts draws OutOfMemory (Large place kept below) is twin = absurd (no-list-large counts draws place kept below twin is)
refused-one counts draws OutOfMemory OutOfMemory is twin = refl
