-- The item that a text names.
use Rattle.std.proofs.Common.{◌≡◌, ℕ, ◌<◌, ◌^◌, ◌==◌, cond, true, false, List, [], ◌∷◌, ◌++◌, All, Option, Some, None, codes, refl, ap, sym, ◌∙◌, ◌-◌, arith, length, get_or, take, drop}
use Rattle.std.proofs.lemmas.Bool.{and_parts, and_from, ltb-true, lt-ltb}
use Rattle.std.proofs.lemmas.List.{take_all}
use Rattle.std.proofs.lemmas.List.Elements.{All-from_recursion}
use Rattle.std.specs.List.{find}
use Rattle.std.specs.Fmt.{decimal}
use Rattle.std.specs.Str.{bytes_eq}
use Rattle.event_class.specs.declared.event.Class.{Class}
use Rattle.event_class.specs.declared.pickable.Pickable.{Pickable}
use Rattle.event_class.specs.declared.pickable.Pickable.TheVariants.{Every, Of, LockNo, CellNo}
use Rattle.event_class.specs.Pickable.{pickable_text, IsPickableText, IsSmall, is_small, is_pickable_text, pickables, pickable_of}
use Rattle.surw_base.proofs.Searches.{found-passes}
use Rattle.surw_base.proofs.Tokens.{tokens-prefix, tokens-last, no-space-decimal, value-decimal, same-bytes, bytes-same}
use Rattle.surw_base.specs.Number.{IsNumberText}
use Rattle.surw_base.specs.Tokens.{tokens, number_at}

-- the number behind a word is the text's
number-behind : (word : List ℕ) (n : ℕ) → All (λ b. (b == 32) ≡ false) word → n < 2 ^ 64 → number_at (tokens (word ++ 32 ∷ decimal n)) 1 ≡ n
number-behind word n none small =
    ap (λ l. number_at l 1) (tokens-prefix word (decimal n) none ∙ ap (λ l. word ∷ l) (tokens-last (decimal n) (no-space-decimal n small)))
    ∙ value-decimal n small

lock-number : (l : ℕ) → l < 2 ^ 64 → number_at (tokens (codes "lock " ++ decimal l)) 1 ≡ l
lock-number l small = number-behind (codes "lock") l (All-from_recursion (λ b. (b == 32) ≡ false) (codes "lock") (refl, (refl, (refl, (refl, tt))))) small

cell-number : (c : ℕ) → c < 2 ^ 64 → number_at (tokens (codes "cell " ++ decimal c)) 1 ≡ c
cell-number c small = number-behind (codes "cell") c (All-from_recursion (λ b. (b == 32) ≡ false) (codes "cell") (refl, (refl, (refl, (refl, tt))))) small

small-test : (item : Pickable) → IsSmall item → is_small item ≡ true
small-test Every small = refl
small-test (Of class) small = refl
small-test (LockNo l) small = lt-ltb l (2 ^ 64) small
small-test (CellNo c) small = lt-ltb c (2 ^ 64) small

test-small : (item : Pickable) → is_small item ≡ true → IsSmall item
test-small Every small = tt
test-small (Of class) small = tt
test-small (LockNo l) small = ltb-true l (2 ^ 64) small
test-small (CellNo c) small = ltb-true c (2 ^ 64) small

-- the text of a small item passes its test
passes : (item : Pickable) → IsSmall item → is_pickable_text (pickable_text item) item ≡ true
passes item small = and_from (bytes_eq (pickable_text item) (pickable_text item)) (is_small item) (same-bytes (pickable_text item) (pickable_text item) refl) (small-test item small)

-- so it is what its text names
again : (item : Pickable) → IsSmall item → pickable_of (pickable_text item) ≡ Some item
unfolding pickable_of
again Every small = refl
again (Of Class.Lock) small = refl
again (Of Class.Cell) small = refl
again (Of Class.Cache) small = refl
again (Of Class.Disk) small = refl
again (Of Class.Log) small = refl
again (Of Class.Check) small = refl
again (LockNo l) small =
    let text = codes "lock " ++ decimal l in
    ap (λ n. cond (is_pickable_text text (LockNo n)) (Some (LockNo n)) (find (is_pickable_text text) (CellNo n ∷ []))) (lock-number l small)
    ∙ ap (λ b. cond b (Some (LockNo l)) (find (is_pickable_text text) (CellNo l ∷ []))) (passes (LockNo l) small)
again (CellNo c) small =
    let text = codes "cell " ++ decimal c in
    ap (λ n. cond (is_pickable_text text (CellNo n)) (Some (CellNo n)) None) (cell-number c small)
    ∙ ap (λ b. cond b (Some (CellNo c)) None) (passes (CellNo c) small)

pub item_read : (text : List ℕ) (item : Pickable) → IsPickableText text item → Some item ≡ pickable_of text
item_read text item is = sym (ap pickable_of is.text ∙ again item is.below)

named : (text : List ℕ) (answer : Option Pickable) → pickable_of text ≡ answer → ((item : Pickable) → IsPickableText text item → ⊥) → None ≡ answer
unfolding pickable_of
named text None is none = refl
named text (Some item) is none =
    let p = and_parts (bytes_eq (pickable_text item) text) (is_small item) (found-passes (is_pickable_text text) (pickables (tokens text)) item is) in
    absurd (none item (record { text = bytes-same (pickable_text item) text p.0; below = test-small item p.1 }))

-- where a text is that of no item, it names none
pub none_read : (text : List ℕ) → ((item : Pickable) → IsPickableText text item → ⊥) → None ≡ pickable_of text
none_read text none = named text (pickable_of text) refl none

-- no name of a class has a space at the fifth place
spaced : (text digits : List ℕ) (class : Class) → 32 ≡ get_or text 4 0 → IsPickableText text (Of class) → ⊥
spaced text digits Class.Lock space is = omega (arith, space, ap (λ (l : List ℕ). get_or l 4 0) is.text)
spaced text digits class space is = omega (arith, space, ap (λ (l : List ℕ). get_or l 4 0) is.text)

-- a text that begins with `lock ` or `cell ` is a numbered item's, or none's
pub lock-none : (text digits : List ℕ) → text ≡ codes "lock " ++ digits → ((n : ℕ) → IsNumberText digits n → ⊥) → (item : Pickable) → IsPickableText text item → ⊥
lock-none text digits begins none (LockNo l) is = none l (record { digits = ap (drop 5) (sym begins ∙ is.text); below = is.below })
lock-none text digits begins none (CellNo c) is = omega (arith, ap (λ (l : List ℕ). get_or l 0 0) (sym begins ∙ is.text))
lock-none text digits begins none Every is = omega (arith, ap (λ (l : List ℕ). get_or l 0 0) (sym begins ∙ is.text))
lock-none text digits begins none (Of class) is = spaced text digits class (ap (λ (l : List ℕ). get_or l 4 0) (sym begins)) is

pub cell-none : (text digits : List ℕ) → text ≡ codes "cell " ++ digits → ((n : ℕ) → IsNumberText digits n → ⊥) → (item : Pickable) → IsPickableText text item → ⊥
cell-none text digits begins none (CellNo c) is = none c (record { digits = ap (drop 5) (sym begins ∙ is.text); below = is.below })
cell-none text digits begins none (LockNo l) is = omega (arith, ap (λ (l : List ℕ). get_or l 0 0) (sym begins ∙ is.text))
cell-none text digits begins none Every is = omega (arith, ap (λ (l : List ℕ). get_or l 0 0) (sym begins ∙ is.text))
cell-none text digits begins none (Of class) is = spaced text digits class (ap (λ (l : List ℕ). get_or l 4 0) (sym begins)) is

-- a text is its first five bytes and what stands behind them
pub behind-five : (text : List ℕ) (a b c d e n : ℕ) → n ≡ length text - 5 → 0 < e → get_or text 0 0 ≡ a → get_or text 1 0 ≡ b → get_or text 2 0 ≡ c
    → get_or text 3 0 ≡ d → get_or text 4 0 ≡ e → text ≡ a ∷ b ∷ c ∷ d ∷ e ∷ take n (drop 5 text)
behind-five (v ∷ w ∷ x ∷ y ∷ z ∷ rest) a b c d e n long some p q r s t =
    (λ i. p i ∷ q i ∷ r i ∷ s i ∷ t i ∷ rest) ∙ ap (λ (l : List ℕ). a ∷ b ∷ c ∷ d ∷ e ∷ l) (sym (take_all n rest (omega (arith, long))))
behind-five text a b c d e n long some p q r s t = absurd (omega (arith, some, t))
