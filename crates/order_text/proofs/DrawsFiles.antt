-- Bytes are a file of draws in one way.
use Rattle.std.proofs.Common.{◌≡◌, ◌⊎◌, ℕ, zero, suc, ◌+◌, ◌<◌, List, [], ◌∷◌, length, get_or, codes, drop, inl, inr, ⊎_elim, refl, ap, sym, subst, ◌∙◌, arith}
use Rattle.std.proofs.lemmas.List.{ext_get_or}
use Rattle.draw_split.specs.Split.{Parts, padded}
use Rattle.surw_base.specs.Lines.{IsListText}
use Rattle.order_text.specs.DrawsFile.{AreOffsetsLines, IsDrawsFile, IsDrawsLine, IsOffsetsLine, IsOtherDraws}
use Rattle.order_text.specs.FileFault.{IsFirstWrongLine}
use Rattle.order_text.specs.Lines.{lines_of}
use Rattle.order_text.proofs.ListTexts.{line-one}
use Rattle.order_text.proofs.WrongLines.{number-one}

-- each line of a file of draws is as asked
lines-right : (bytes counts : List ℕ) (split : Parts) → IsDrawsFile bytes counts split
    → (place : ℕ) → place < length counts + 2 → IsDrawsLine (length counts) place (get_or (lines_of bytes) place [])
lines-right bytes counts split form zero less =
    subst (λ (ls : List (List ℕ)). IsDrawsLine (length counts) 0 (get_or ls 0 [])) (sym form.lines) (counts, form.counts_listed, form.counts_allowed)
lines-right bytes counts split form (suc zero) less =
    subst (λ (ls : List (List ℕ)). IsDrawsLine (length counts) 1 (get_or ls 1 [])) (sym form.lines) (split.order, form.order_listed, form.order_allowed)
lines-right bytes counts split form (suc (suc thread)) less =
    let counted : thread < length counts = omega (arith, less) in
    subst (λ (ls : List (List ℕ)). IsDrawsLine (length counts) (suc (suc thread)) (get_or ls (suc (suc thread)) [])) (sym form.lines)
    (get_or form.offsets thread [], counted, form.offsets_listed.each thread counted)

-- the counts that a file of draws lists are those by which a wrong line is looked for
counted-so : (bytes counts : List ℕ) (split : Parts) (number : ℕ) (other : IsOtherDraws bytes number) → IsDrawsFile bytes counts split → other.threads ≡ length counts
counted-so bytes counts split number other form =
    let line : form.counts_line ≡ get_or (lines_of bytes) 0 [] = ap (λ (ls : List (List ℕ)). get_or ls 0 []) (sym form.lines) in
    sym (other.counted counts (subst (IsListText (codes "counts") counts) line form.counts_listed) form.counts_allowed)

-- so it has no wrong line
none-wrong : (bytes counts : List ℕ) (split : Parts) (number : ℕ) → IsDrawsFile bytes counts split
    → IsFirstWrongLine (IsDrawsLine (length counts)) (length counts + 2) (lines_of bytes) number → ⊥
none-wrong bytes counts split number form first =
    let many : length (lines_of bytes) ≡ length counts + 2 = ap length form.lines ∙ omega (arith, form.offsets_listed.many) in
    let below : first.place < length counts + 2 = ⊎_elim (λ less. less) (λ less. omega (arith, less, many)) first.due in
    first.wrong (omega (arith, below, many)) (lines-right bytes counts split form first.place below)

pub no-wrong : (bytes counts : List ℕ) (split : Parts) (number : ℕ) → IsDrawsFile bytes counts split → IsOtherDraws bytes number → ⊥
no-wrong bytes counts split number form other =
    none-wrong bytes counts split number form
    (subst (λ (n : ℕ). IsFirstWrongLine (IsDrawsLine n) (n + 2) (lines_of bytes) number) (counted-so bytes counts split number other form) other.first)

-- where a line behind the first is the wrong one, the first lists counts, and no others
same-threads : (bytes : List ℕ) (number other : ℕ) (is : IsOtherDraws bytes number) (twin : IsOtherDraws bytes other) → 0 < is.first.place → twin.threads ≡ is.threads
same-threads bytes number other is twin behind =
    let listed = is.first.before 0 behind in
    sym (twin.counted listed.1.0 listed.1.1 listed.1.2) ∙ is.counted listed.1.0 listed.1.1 listed.1.2

-- a wrong line behind the first leaves no wrong first line
first-right : (bytes : List ℕ) (number other : ℕ) (is : IsOtherDraws bytes number) (twin : IsOtherDraws bytes other) → 0 < is.first.place → twin.first.place ≡ 0 → ⊥
first-right bytes number other is twin behind prefix =
    let listed = is.first.before 0 behind in
    let wrong : 0 < length (lines_of bytes) → IsDrawsLine twin.threads 0 (get_or (lines_of bytes) 0 []) → ⊥ =
    subst (λ (k : ℕ). k < length (lines_of bytes) → IsDrawsLine twin.threads k (get_or (lines_of bytes) k []) → ⊥) prefix twin.first.wrong in
    wrong listed.0 listed.1

-- a number that is 0 or more
zero-or : (n : ℕ) → (n ≡ 0) ⊎ (0 < n)
zero-or zero = inl refl
zero-or (suc n) = inr (omega arith)

other-behind : (bytes : List ℕ) (number other : ℕ) (is : IsOtherDraws bytes number) → IsOtherDraws bytes other → 0 < is.first.place → other ≡ number
other-behind bytes number other is twin behind =
    number-one (IsDrawsLine is.threads) (is.threads + 2) (lines_of bytes) number other is.first
    (subst (λ (n : ℕ). IsFirstWrongLine (IsDrawsLine n) (n + 2) (lines_of bytes) other) (same-threads bytes number other is twin behind) twin.first)

pub other-one : (bytes : List ℕ) (number other : ℕ) → IsOtherDraws bytes number → IsOtherDraws bytes other → other ≡ number
other-one bytes number other is twin = elim (zero-or is.first.place) [
  | inr behind ↦ other-behind bytes number other is twin behind
  | inl prefix ↦ elim (zero-or twin.first.place) [
    | inr behind ↦ absurd (first-right bytes other number twin is behind prefix)
    | inl both ↦ omega (arith, prefix, both, is.first.numbered, twin.first.numbered)
  ]
]

-- one list of counts, one order and one list of offsets for each thread
pub counts-one : (bytes counts others : List ℕ) (split parts : Parts) → IsDrawsFile bytes counts split → IsDrawsFile bytes others parts → counts ≡ others
counts-one bytes counts others split parts form twin =
    let line : twin.counts_line ≡ form.counts_line = ap (λ (ls : List (List ℕ)). get_or ls 0 []) (sym twin.lines ∙ form.lines) in
    line-one (codes "counts") counts others form.counts_line form.counts_listed (subst (IsListText (codes "counts") others) line twin.counts_listed)

order-one : (bytes counts others : List ℕ) (split parts : Parts) → IsDrawsFile bytes counts split → IsDrawsFile bytes others parts → parts.order ≡ split.order
order-one bytes counts others split parts form twin =
    let line : twin.order_line ≡ form.order_line = ap (λ (ls : List (List ℕ)). get_or ls 1 []) (sym twin.lines ∙ form.lines) in
    sym (line-one (codes "order") split.order parts.order form.order_line form.order_listed (subst (IsListText (codes "order") parts.order) line twin.order_listed))

offsets-one : (thread : ℕ) (offsets others line : List ℕ) → IsOffsetsLine thread offsets line → IsOffsetsLine thread others line → others ≡ offsets
offsets-one thread offsets others line is twin =
    ap (λ (l : List ℕ). drop 1 l) (line-one (codes "offsets") (thread ∷ others) (thread ∷ offsets) line twin.listed is.listed)

lists-one : (threads : ℕ) (offsets others lines : List (List ℕ)) → AreOffsetsLines threads offsets lines → AreOffsetsLines threads others lines → others ≡ offsets
lists-one threads offsets others lines are twin =
    ext_get_or [] others offsets (twin.full ∙ sym are.full) (λ k less.
    let below : k < threads = omega (arith, less, twin.full) in
    offsets-one k (get_or offsets k []) (get_or others k []) (get_or lines k []) (are.each k below) (twin.each k below))

pub split-one : (bytes counts others : List ℕ) (split parts : Parts) → IsDrawsFile bytes counts split → IsDrawsFile bytes others parts → parts ≡ split
split-one bytes counts others split parts form twin =
    let order = order-one bytes counts others split parts form twin in
    let lines : twin.offsets_lines ≡ form.offsets_lines = ap (λ (ls : List (List ℕ)). drop 2 ls) (sym twin.lines ∙ form.lines) in
    let many : length others ≡ length counts = ap length (sym (counts-one bytes counts others split parts form twin)) in
    let here : AreOffsetsLines (length counts) twin.offsets form.offsets_lines =
    subst (AreOffsetsLines (length counts) twin.offsets) lines
    (subst (λ (n : ℕ). AreOffsetsLines n twin.offsets twin.offsets_lines) many twin.offsets_listed) in
    let lists : twin.offsets ≡ form.offsets = lists-one (length counts) form.offsets twin.offsets form.offsets_lines form.offsets_listed here in
    let offsets : parts.offsets ≡ split.offsets = twin.offsets_padded ∙ ap padded lists ∙ sym form.offsets_padded in
    (λ i. record { order = order i; offsets = offsets i })
