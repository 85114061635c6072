-- The tokens of a line, one behind another.
use Rattle.std.proofs.Common.{◌≡◌, ℕ, ◌+◌, ◌%◌, ◌^◌, ◌<◌, ◌≤◌, ◌==◌, false, List, [], ◌∷◌, ◌++◌, length, get_or, take, drop, refl, ap, sym, subst, ◌∙◌, arith, length-append, All, codes}
use Rattle.std.proofs.lemmas.Bool.{ne_eqb}
use Rattle.std.proofs.lemmas.Fmt.{decimal_by_steps, decimal_injective, decimal_nonempty}
use Rattle.std.proofs.lemmas.List.{append-nil, append_assoc, get_or_at, get_or_append_left, take_at, drop_at, take-append-drop}
use Rattle.std.proofs.lemmas.List.Concat.{flat_map-append}
use Rattle.std.proofs.lemmas.List.Elements.{All-nil, All-cons, All-push, All-head, All-tail, All-get_or, All-from_recursion}
use Rattle.std.proofs.lemmas.List.Sums.{position_or_len_is}
use Rattle.std.specs.Fmt.{decimal}
use Rattle.std.specs.List.{position_or_len}
use Rattle.surw_base.proofs.Tokens.{NoSpace, no-space-decimal}
use Rattle.routine_kit.specs.declared.operand.Operand.TheVariants.{Num, Reg}
use Rattle.routine_kit.specs.declared.token.Token.{Token}
use Rattle.routine_kit.specs.declared.token.Token.TheVariants.{Value, If, Equal, Unequal, Arrow}
use Rattle.routine_kit.specs.LineText.{token_text, tokens_text, IsToken}

abbrev IsDigit : ℕ → Type 0
IsDigit b = (48 ≤ b) × (b ≤ 57)

-- the bytes of a number are digits
digits-decimal : (n : ℕ) → n < 2 ^ 64 → All IsDigit (decimal n)
digits-decimal n small = decimal_by_steps (λ m ds. All IsDigit ds)
    (λ m lt. All-cons IsDigit (48 + m) [] (omega arith, omega arith) (All-nil IsDigit))
    (λ m ds le all. All-push IsDigit ds (48 + m % 10) all (omega arith, omega arith))
    n small

pub first-digit : (n : ℕ) → n < 2 ^ 64 → IsDigit (get_or (decimal n) 0 0)
first-digit n small = All-get_or IsDigit (decimal n) 0 0 (decimal_nonempty n small) (digits-decimal n small)

-- so no number begins with another byte
no-number : (n b : ℕ) (rest : List ℕ) → n < 2 ^ 64 → (IsDigit b → ⊥) → decimal n ≡ b ∷ rest → ⊥
no-number n b rest small other is = other (subst IsDigit (ap (λ (l : List ℕ). get_or l 0 0) is) (first-digit n small))

-- a text is that of one token
pub same-token : (v w : Token) → token_text v ≡ token_text w → IsToken v → IsToken w → v ≡ w
same-token (Value (Num n)) (Value (Num m)) is p q = ap (λ (k : ℕ). Value (Num k)) (decimal_injective n m p q is)
same-token (Value (Num n)) (Value (Reg r)) is p q = absurd (no-number n _ _ p (λ d. omega (arith, d)) is)
same-token (Value (Num n)) If is p q = absurd (no-number n _ _ p (λ d. omega (arith, d)) is)
same-token (Value (Num n)) Equal is p q = absurd (no-number n _ _ p (λ d. omega (arith, d)) is)
same-token (Value (Num n)) Unequal is p q = absurd (no-number n _ _ p (λ d. omega (arith, d)) is)
same-token (Value (Num n)) Arrow is p q = absurd (no-number n _ _ p (λ d. omega (arith, d)) is)
same-token (Value (Reg r)) (Value (Num n)) is p q = absurd (no-number n _ _ q (λ d. omega (arith, d)) (sym is))
same-token If (Value (Num n)) is p q = absurd (no-number n _ _ q (λ d. omega (arith, d)) (sym is))
same-token Equal (Value (Num n)) is p q = absurd (no-number n _ _ q (λ d. omega (arith, d)) (sym is))
same-token Unequal (Value (Num n)) is p q = absurd (no-number n _ _ q (λ d. omega (arith, d)) (sym is))
same-token Arrow (Value (Num n)) is p q = absurd (no-number n _ _ q (λ d. omega (arith, d)) (sym is))
same-token (Value (Reg r)) (Value (Reg s)) is p q =
    let here : r ≡ s = omega (arith, ap (λ (l : List ℕ). get_or l 1 0) is) in ap (λ (k : ℕ). Value (Reg k)) here
same-token If If is p q = refl
same-token Equal Equal is p q = refl
same-token Unequal Unequal is p q = refl
same-token Arrow Arrow is p q = refl
same-token v w is p q = absurd (omega (arith, ap (λ (l : List ℕ). get_or l 0 0) is))

pub no-space : (w : Token) → IsToken w → NoSpace (token_text w)
no-space (Value (Num n)) small = no-space-decimal n small
no-space (Value (Reg r)) small = All-from_recursion (λ b. (b == 32) ≡ false) (114 ∷ (48 + r) ∷ []) (refl, (ne_eqb (48 + r) 32 (λ e. omega (arith, e)), tt))
no-space If small = All-from_recursion (λ b. (b == 32) ≡ false) (codes "if") (refl, (refl, tt))
no-space Equal small = All-from_recursion (λ b. (b == 32) ≡ false) (codes "=") (refl, tt)
no-space Unequal small = All-from_recursion (λ b. (b == 32) ≡ false) (codes "!=") (refl, (refl, tt))
no-space Arrow small = All-from_recursion (λ b. (b == 32) ≡ false) (codes "->") (refl, (refl, tt))

-- what has no space ends where the next token begins, or at the end
pub cut : (prefix : List ℕ) (tokens : List Token) → NoSpace prefix → position_or_len (λ b. b == 32) (prefix ++ tokens_text tokens) ≡ length prefix
cut prefix [] none = position_or_len_is (λ b. b == 32) (prefix ++ []) (length prefix) 0
    (omega (arith, length-append prefix []))
    (λ k lt. ap (λ b. b == 32) (get_or_append_left prefix [] 0 k lt) ∙ none k 0 lt)
    (λ lt. absurd (omega (arith, length-append prefix [])))
cut prefix (token ∷ tokens) none =
    let rest = token_text token ++ tokens_text tokens in
    position_or_len_is (λ b. b == 32) (prefix ++ (32 ∷ rest)) (length prefix) 0
    (omega (arith, length-append prefix (32 ∷ rest)))
    (λ k lt. ap (λ b. b == 32) (get_or_append_left prefix (32 ∷ rest) 0 k lt) ∙ none k 0 lt)
    (λ lt. ap (λ b. b == 32) (get_or_at prefix 32 rest 0 (length prefix) refl))

-- the first token of a text of tokens, and what stands behind it
pub first-token : (rest after : List ℕ) (n : ℕ) (w : Token) (ws : List Token) → after ≡ drop 1 rest → n ≡ position_or_len (λ b. b == 32) after
    → rest ≡ tokens_text (w ∷ ws) → IsToken w → (take n after ≡ token_text w) × (drop n after ≡ tokens_text ws)
first-token rest after n w ws one len is fits =
    let whole : after ≡ token_text w ++ tokens_text ws = one ∙ ap (drop 1) is in
    let long : n ≡ length (token_text w) = len ∙ ap (position_or_len (λ b. b == 32)) whole ∙ cut (token_text w) ws (no-space w fits) in (
      ap (take n) whole ∙ take_at (token_text w) (tokens_text ws) n (sym long),
      ap (drop n) whole ∙ drop_at (token_text w) (tokens_text ws) n (sym long),
    )

-- where tokens are left, the next is one
pub none-read : (more : List Token) (rest after token : List ℕ) (n : ℕ) → 0 < length rest → after ≡ drop 1 rest → n ≡ position_or_len (λ b. b == 32) after
    → token ≡ take n after → rest ≡ tokens_text more → All IsToken more → ((w : Token) → token ≡ token_text w → IsToken w → ⊥) → ⊥
none-read [] rest after token n some one len prefix is all none = omega (arith, ap length is)
none-read (w ∷ ws) rest after token n some one len prefix is all none =
    let fits = All-head IsToken w ws all in
    none w (prefix ∙ (first-token rest after n w ws one len is fits).0) fits

-- and it is the one that was read
pub one-read : (more : List Token) (rest after token behind : List ℕ) (n : ℕ) (v : Token) → 0 < length rest → after ≡ drop 1 rest → n ≡ position_or_len (λ b. b == 32) after
    → token ≡ take n after → behind ≡ drop n after → token ≡ token_text v → IsToken v → rest ≡ tokens_text more → All IsToken more
    → (ws : List Token) × (more ≡ v ∷ ws) × (behind ≡ tokens_text ws) × All IsToken ws
one-read [] rest after token behind n v some one len prefix back read good is all = absurd (omega (arith, ap length is))
one-read (w ∷ ws) rest after token behind n v some one len prefix back read good is all =
    let fits = All-head IsToken w ws all in
    let both = first-token rest after n w ws one len is fits in
    let same : w ≡ v = same-token w v (sym both.0 ∙ sym prefix ∙ read) fits good in
    (ws, ap (λ (x : Token). x ∷ ws) same, back ∙ both.1, All-tail IsToken w ws all)

-- a token more of the text
pub text-more : (text : List ℕ) (tokens : List Token) (rest after token behind : List ℕ) (n : ℕ) (v : Token) → text ≡ tokens_text tokens ++ rest → get_or rest 0 0 ≡ 32
    → 0 < length rest → after ≡ drop 1 rest → token ≡ take n after → behind ≡ drop n after → token ≡ token_text v → text ≡ tokens_text (tokens ++ v ∷ []) ++ behind
text-more text tokens [] after token behind n v is space some one prefix back read = absurd (omega arith)
text-more text tokens (b ∷ bs) after token behind n v is space some one prefix back read =
    let whole : bs ≡ token_text v ++ behind = sym one ∙ sym (take-append-drop n after) ∙ (λ i. (sym prefix ∙ read) i ++ sym back i) in
    let split : tokens_text (tokens ++ v ∷ []) ≡ tokens_text tokens ++ (32 ∷ (token_text v ++ [])) = flat_map-append (λ w. 32 ∷ token_text w) tokens (v ∷ []) in
    is ∙ (λ i. tokens_text tokens ++ (space i ∷ whole i))
    ∙ sym (append_assoc (tokens_text tokens) (32 ∷ token_text v) behind)
    ∙ ap (λ (l : List ℕ). l ++ behind) (ap (λ (l : List ℕ). tokens_text tokens ++ (32 ∷ l)) (sym (append-nil (token_text v))) ∙ sym split)
