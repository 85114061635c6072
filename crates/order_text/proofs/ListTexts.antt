-- A line lists one list of numbers.
use Rattle.std.proofs.Common.{◌≡◌, ℕ, List, [], ◌∷◌, ◌++◌, length, drop, refl, ap, sym, ◌∙◌}
use Rattle.std.specs.Fmt.{decimal}
use Rattle.surw_base.proofs.Prefixes.{number-again, number-prefix}
use Rattle.surw_base.specs.Lines.{IsListText, items_text}
use Rattle.surw_base.proofs.Items.{AllBelow, below-head, below-tail, behind-word, items-no_digit}

-- two lists of numbers with one text are one
items-one : (numbers others : List ℕ) → AllBelow numbers → AllBelow others → items_text numbers ≡ items_text others → numbers ≡ others
items-one [] [] below beneath same = refl
items-one [] (m ∷ ms) below beneath same = cc same
items-one (n ∷ ns) [] below beneath same = cc same
items-one (n ∷ ns) (m ∷ ms) below beneath same =
    let text : List ℕ = decimal n ++ items_text ns in
    let prefix = number-prefix n (items_text ns) (below-head n ns below) (items-no_digit ns) in
    let here = number-again text (items_text ns) n n (length (decimal n)) refl (below-head n ns below) (items-no_digit ns) prefix in
    let there = number-again text (items_text ms) m n (length (decimal n)) (ap (λ (l : List ℕ). drop 1 l) same) (below-head m ms beneath) (items-no_digit ms) prefix in
    let rest : ns ≡ ms = items-one ns ms (below-tail n ns below) (below-tail m ms beneath) (sym here.1 ∙ there.1) in
    (λ i. there.0 i ∷ rest i)

pub line-one : (word numbers others line : List ℕ) → IsListText word numbers line → IsListText word others line → numbers ≡ others
line-one word numbers others line is twin =
    items-one numbers others is.below twin.below (behind-word word (items_text numbers) (items_text others) (sym is.spelled ∙ twin.spelled))
