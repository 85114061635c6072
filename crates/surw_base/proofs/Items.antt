-- Items: a space and a number each.
use Rattle.std.proofs.Common.{◌≡◌, ℕ, zero, suc, ◌+◌, ◌^◌, ◌<◌, List, [], ◌∷◌, ◌++◌, length, get_or, take, drop, refl, ap, sym, ◌∙◌, arith, append_assoc, append-nil, All}
use Rattle.std.proofs.lemmas.Grind.{flat_map-append}
use Rattle.std.proofs.lemmas.List.{take_more}
use Rattle.std.proofs.lemmas.List.Elements.{All-append}
use Rattle.std.specs.Fmt.{decimal}
use Rattle.surw_base.specs.Number.{BeginsWithNoDigit}
use Rattle.surw_base.specs.Lines.{items_text, IsItem}

-- items don't begin with a digit
pub items-no_digit : (numbers : List ℕ) → BeginsWithNoDigit (items_text numbers)
items-no_digit [] digit = omega arith
items-no_digit (n ∷ ns) digit = omega arith

abbrev pub AllBelow : List ℕ → Type 0
AllBelow numbers = All (λ n. n < 2 ^ 64) numbers

below-none : AllBelow []
below-none k d lt = absurd (omega arith)

below-one : (n : ℕ) → n < 2 ^ 64 → AllBelow (n ∷ [])
below-one n small zero d lt = small
below-one n small (suc k) d lt = absurd (omega arith)

pub below-head : (n : ℕ) (ns : List ℕ) → AllBelow (n ∷ ns) → n < 2 ^ 64
below-head n ns below = below 0 0 (omega arith)

pub below-tail : (n : ℕ) (ns : List ℕ) → AllBelow (n ∷ ns) → AllBelow ns
below-tail n ns below k d lt = below (suc k) d (omega arith)

-- a reading of what is left continues the numbers to all of them
pub record Continues (all numbers rest : List ℕ) : Type 0 where
  pub more : List ℕ
  pub joined : all ≡ numbers ++ more
  pub spelled : rest ≡ items_text more
  pub below : AllBelow more

-- the numbers are read from the front of the items, and each reading of all the items begins with them
pub record AreRead (items rest numbers : List ℕ) : Type 0 where
  pub prefix : items ≡ items_text numbers ++ rest
  pub below : AllBelow numbers
  pub only : (all : List ℕ) → items ≡ items_text all → AllBelow all → Continues all numbers rest

pub none-read : (items : List ℕ) → AreRead items items []
none-read items = record {
  prefix = refl;
  below = below-none;
  only = λ all is below. record { more = all; joined = refl; spelled = is; below = below };
}

-- each reading of the rest begins with this number and leaves this
abbrev pub IsOnlyItem : List ℕ → ℕ → List ℕ → Type 0
IsOnlyItem rest n after = (m : ℕ) (behind : List ℕ) → IsItem rest m behind → BeginsWithNoDigit behind → (n ≡ m) × (after ≡ behind)

continues-more : (all numbers rest : List ℕ) (n : ℕ) (after : List ℕ) → IsItem rest n after → IsOnlyItem rest n after
    → (more : List ℕ) → all ≡ numbers ++ more → rest ≡ items_text more → AllBelow more → Continues all (numbers ++ n ∷ []) after
continues-more all numbers rest n after item only [] joined spelled below = cc (item.spelled, spelled)
continues-more all numbers rest n after item only (m ∷ ms) joined spelled below =
    let same = only m (items_text ms) (record { spelled = spelled; below = below-head m ms below }) (items-no_digit ms) in
    record {
      more = ms;
      joined = joined ∙ (λ i. numbers ++ sym same.0 i ∷ ms) ∙ sym (append_assoc numbers (n ∷ []) ms);
      spelled = same.1;
      below = below-tail m ms below;
    }

-- one number more is read
pub more-read : (items rest numbers : List ℕ) (n : ℕ) (after : List ℕ) → AreRead items rest numbers → IsItem rest n after → IsOnlyItem rest n after
    → AreRead items after (numbers ++ n ∷ [])
more-read items rest numbers n after read item only = record {
  prefix = read.prefix ∙ ap (λ (l : List ℕ). items_text numbers ++ l) item.spelled
      ∙ sym (append_assoc (items_text numbers) (32 ∷ decimal n) after)
      ∙ ap (λ (l : List ℕ). l ++ after) (ap (λ (l : List ℕ). items_text numbers ++ l) (sym (append-nil (32 ∷ decimal n))) ∙ sym (flat_map-append (λ (k : ℕ). 32 ∷ decimal k) numbers (n ∷ [])));
  below = All-append (λ k. k < 2 ^ 64) numbers (n ∷ []) read.below (below-one n item.below);
  only = λ all is below.
      let so_far = read.only all is below in
      continues-more all numbers rest n after item only so_far.more so_far.joined so_far.spelled so_far.below;
}

some-item : (rest more : List ℕ) → 0 < length rest → rest ≡ items_text more → AllBelow more
    → ((m : ℕ) (behind : List ℕ) → IsItem rest m behind → BeginsWithNoDigit behind → ⊥) → ⊥
some-item rest [] some spelled below none = omega (arith, some, ap length spelled)
some-item rest (m ∷ ms) some spelled below none = none m (items_text ms) (record { spelled = spelled; below = below-head m ms below }) (items-no_digit ms)

-- where something is left that begins with no item, the items are no numbers
pub stuck : (items rest numbers all : List ℕ) → AreRead items rest numbers → 0 < length rest
    → ((m : ℕ) (behind : List ℕ) → IsItem rest m behind → BeginsWithNoDigit behind → ⊥) → items ≡ items_text all → AllBelow all → ⊥
stuck items rest numbers all read some none is below =
    let so_far = read.only all is below in
    some-item rest so_far.more some so_far.spelled so_far.below none

no-more : (more : List ℕ) → [] ≡ items_text more → more ≡ []
no-more [] e = refl
no-more (m ∷ ms) e = cc e

-- where nothing is left, these are the numbers
pub read-whole : (items rest numbers : List ℕ) → AreRead items rest numbers → rest ≡ [] → items ≡ items_text numbers
read-whole items rest numbers read done = read.prefix ∙ ap (λ (l : List ℕ). items_text numbers ++ l) done ∙ append-nil (items_text numbers)

pub read-only : (items rest numbers all : List ℕ) → AreRead items rest numbers → rest ≡ [] → items ≡ items_text all → AllBelow all → numbers ≡ all
read-only items rest numbers all read done is below =
    let so_far = read.only all is below in
    sym (so_far.joined ∙ ap (λ (l : List ℕ). numbers ++ l) (no-more so_far.more (sym done ∙ so_far.spelled)) ∙ append-nil numbers)

-- what is behind one word is the same
pub behind-word : (word a b : List ℕ) → word ++ a ≡ word ++ b → a ≡ b
behind-word [] a b e = e
behind-word (x ∷ xs) a b e = behind-word xs a b (ap (drop 1) e)

pub none-left : (rest : List ℕ) → (0 < length rest → ⊥) → rest ≡ []
none-left [] none = refl
none-left (x ∷ xs) none = absurd (none (omega arith))

-- one item more is printed
pub items-more : (numbers : List ℕ) (i : ℕ) → i < length numbers
    → items_text (take (i + 1) numbers) ≡ items_text (take i numbers) ++ 32 ∷ decimal (get_or numbers i 0)
items-more numbers i lt =
    ap items_text (take_more numbers i 0 lt)
    ∙ flat_map-append (λ (k : ℕ). 32 ∷ decimal k) (take i numbers) (get_or numbers i 0 ∷ [])
    ∙ ap (λ (l : List ℕ). items_text (take i numbers) ++ l) (append-nil (32 ∷ decimal (get_or numbers i 0)))
