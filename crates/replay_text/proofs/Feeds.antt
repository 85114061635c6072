-- The texts of lines have no line feed, so their lines are whole.
use Rattle.std.proofs.Common.{◌≡◌, ℕ, ◌+◌, ◌%◌, ◌/◌, ◌^◌, ◌<◌, ◌==◌, not, Bool, true, false, List, [], ◌∷◌, ◌++◌, cond, length, map, get_or, drop, All, codes, refl, ap, sym, ◌∙◌, arith, inl, inr}
use Rattle.std.proofs.lemmas.Bool.{and_parts, cases_lt, ne_eqb}
use Rattle.std.proofs.lemmas.Fmt.{decimal_by_steps}
use Rattle.std.proofs.lemmas.List.{append-nil, append_assoc, get_or_past}
use Rattle.std.proofs.lemmas.List.Elements.{All-append, All-cons, All-from_recursion, All-head, All-nil, All-push, All-tail}
use Rattle.std.specs.List.{AllByRecursion, flat_map, list_all}
use Rattle.std.specs.Fmt.{decimal}
use Rattle.hex.specs.Hex.{encode_lower, encode_with, lower_digits}
use Rattle.surw_base.specs.Lines.{items_text, line}
use Rattle.event_class.specs.declared.event.Event.{Event}
use Rattle.event_class.specs.declared.event.Event.TheVariants.{Acquire}
use Rattle.event_class.specs.Event.{AreSmall, numbers_of, verb_of}
use Rattle.walk_rules.specs.declared.asked.Asked.{Asked}
use Rattle.replay_text.specs.Lines.{unfinished, whole_lines, with_byte}
use Rattle.replay_text.specs.SavedRun.{IsEntry}
use Rattle.replay_text.specs.SavedText.{end_text, entry_text, name_text}

-- no byte is a line feed
abbrev pub NoFeed : List ℕ → Type 0
NoFeed bytes = All (λ b. (b == 10) ≡ false) bytes

no-feed-append : (front behind : List ℕ) → NoFeed front → NoFeed behind → NoFeed (front ++ behind)
no-feed-append front behind one two = All-append (λ b. (b == 10) ≡ false) front behind one two

no-feed-decimal : (n : ℕ) → n < 2 ^ 64 → NoFeed (decimal n)
no-feed-decimal n small = decimal_by_steps (λ m ds. NoFeed ds)
    (λ m lt. All-cons (λ b. (b == 10) ≡ false) (48 + m) [] (ne_eqb (48 + m) 10 (λ e. omega (arith, e))) (All-nil (λ b. (b == 10) ≡ false)))
    (λ m ds le all. All-push (λ b. (b == 10) ≡ false) ds (48 + m % 10) all (ne_eqb (48 + m % 10) 10 (λ e. omega (arith, e))))
    n small

-- a test of written-out bytes
abbrev unbroken : List ℕ → Bool
unbroken bytes = list_all (λ b. not (b == 10)) bytes

plain : (bytes : List ℕ) → unbroken bytes ≡ true → AllByRecursion (λ b. (b == 10) ≡ false) bytes
plain [] is = tt
plain (b ∷ bs) is = let p = and_parts (not (b == 10)) (unbroken bs) is in (grind (arith, p.0), plain bs p.1)

no-feed-in : (bytes : List ℕ) → unbroken bytes ≡ true → NoFeed bytes
no-feed-in bytes is = All-from_recursion (λ b. (b == 10) ≡ false) bytes (plain bytes is)

verb-unbroken : (event : Event) → unbroken (verb_of event) ≡ true
verb-unbroken (Acquire l) = refl
verb-unbroken _ = refl

no-feed-items : (ns : List ℕ) → AreSmall ns → NoFeed (items_text ns)
no-feed-items [] all = All-nil (λ b. (b == 10) ≡ false)
no-feed-items (n ∷ ns) all =
    let P : ℕ → Type 0 = λ m. m < 2 ^ 64 in
    All-cons (λ b. (b == 10) ≡ false) 32 (decimal n ++ items_text ns) refl
    (no-feed-append (decimal n) (items_text ns) (no-feed-decimal n (All-head P n ns all)) (no-feed-items ns (All-tail P n ns all)))

pub no-feed-entry : (entry : Asked) → IsEntry entry → NoFeed (entry_text entry)
no-feed-entry entry fits =
    let event = verb_of entry.event ++ items_text (numbers_of entry.event) in
    no-feed-append (decimal entry.thread) (32 ∷ event) (no-feed-decimal entry.thread (omega (arith, fits.thread)))
    (All-cons (λ b. (b == 10) ≡ false) 32 event refl
    (no-feed-append (verb_of entry.event) (items_text (numbers_of entry.event)) (no-feed-in (verb_of entry.event) (verb-unbroken entry.event)) (no-feed-items (numbers_of entry.event) fits.numbers)))

pub no-feed-end : (count : ℕ) → count < 2 ^ 64 → NoFeed (end_text count)
no-feed-end count small = no-feed-append (codes "end ") (decimal count) (no-feed-in (codes "end ") refl) (no-feed-decimal count small)

digit-unbroken : (k : ℕ) → (get_or lower_digits k 0 == 10) ≡ false
digit-unbroken k = elim (cases_lt k 16) [
  | inl less ↦ no-feed-in lower_digits refl k 0 less
  | inr past ↦ ap (λ b. b == 10) (get_or_past lower_digits k 0 (omega (arith, past)))
]

no-feed-digits : (bytes : List ℕ) → NoFeed (encode_lower bytes)
unfolding encode_with
no-feed-digits [] = All-nil (λ b. (b == 10) ≡ false)
no-feed-digits (b ∷ bs) =
    let high = get_or lower_digits (b / 16) 0 in
    let low = get_or lower_digits (b % 16) 0 in
    All-cons (λ c. (c == 10) ≡ false) high (low ∷ encode_lower bs) (digit-unbroken (b / 16))
    (All-cons (λ c. (c == 10) ≡ false) low (encode_lower bs) (digit-unbroken (b % 16)) (no-feed-digits bs))

pub no-feed-name : (name : List ℕ) → NoFeed (name_text name)
no-feed-name name = no-feed-append (codes "scenario ") (encode_lower name) (no-feed-in (codes "scenario ") refl) (no-feed-digits name)

-- what has no line feed is one line, before the next line feed
whole-first : (front behind : List ℕ) → NoFeed front → whole_lines (front ++ 10 ∷ behind) ≡ front ∷ whole_lines behind
unfolding whole_lines
whole-first [] behind none = refl
whole-first (b ∷ bs) behind none =
    ap (λ t. cond t ([] ∷ whole_lines (bs ++ 10 ∷ behind)) (with_byte b (whole_lines (bs ++ 10 ∷ behind)))) (All-head (λ c. (c == 10) ≡ false) b bs none)
    ∙ ap (with_byte b) (whole-first bs behind (All-tail (λ c. (c == 10) ≡ false) b bs none))

-- so lines that are written are read again
pub whole-again : (lines : List (List ℕ)) → All NoFeed lines → whole_lines (flat_map line lines) ≡ lines
unfolding whole_lines
whole-again [] all = refl
whole-again (text ∷ texts) all =
    ap whole_lines (append_assoc text (10 ∷ []) (flat_map line texts))
    ∙ whole-first text (flat_map line texts) (All-head NoFeed text texts all)
    ∙ ap (λ l. text ∷ l) (whole-again texts (All-tail NoFeed text texts all))

drop-whole : (text : List ℕ) → drop (length text) text ≡ []
drop-whole [] = refl
drop-whole (b ∷ bs) = drop-whole bs

-- and nothing is left
pub nothing-left : (lines : List (List ℕ)) → All NoFeed lines → unfinished (flat_map line lines) ≡ []
unfolding unfinished
nothing-left lines all =
    ap (λ ls. drop (length (flat_map line ls)) (flat_map line lines)) (whole-again lines all) ∙ drop-whole (flat_map line lines)

-- a text is its whole lines and what is left
with-lines : (b : ℕ) (lines : List (List ℕ)) (bytes rest : List ℕ) → bytes ≡ flat_map line lines ++ rest
    → (more : List ℕ) × (b ∷ bytes ≡ flat_map line (with_byte b lines) ++ more)
with-lines b [] bytes rest is = (b ∷ bytes, refl)
with-lines b (text ∷ texts) bytes rest is = (rest, ap (λ l. b ∷ l) is)

joined-step : (b : ℕ) (test : Bool) (bytes rest : List ℕ) → (b == 10) ≡ test → bytes ≡ flat_map line (whole_lines bytes) ++ rest
    → (more : List ℕ) × (b ∷ bytes ≡ flat_map line (cond test ([] ∷ whole_lines bytes) (with_byte b (whole_lines bytes))) ++ more)
joined-step b true bytes rest feed is = let e : b ≡ 10 = grind (arith, feed) in (rest, (λ i. e i ∷ is i))
joined-step b false bytes rest feed is = with-lines b (whole_lines bytes) bytes rest is

joined-front : (text : List ℕ) → (rest : List ℕ) × (text ≡ flat_map line (whole_lines text) ++ rest)
unfolding whole_lines
joined-front [] = ([], refl)
joined-front (b ∷ bs) = let behind = joined-front bs in joined-step b (b == 10) bs behind.0 refl behind.1

drop-front : (front rest : List ℕ) → drop (length front) (front ++ rest) ≡ rest
drop-front [] rest = refl
drop-front (x ∷ xs) rest = drop-front xs rest

pub joined : (text : List ℕ) → text ≡ flat_map line (whole_lines text) ++ unfinished text
unfolding unfinished
joined text =
    let whole = joined-front text in
    let front = flat_map line (whole_lines text) in
    whole.1 ∙ ap (λ l. front ++ l) (sym (ap (drop (length front)) whole.1 ∙ drop-front front whole.0))

-- the lines of entries and one more
pub entry-lines : (entries : List Asked) (end : List ℕ) → flat_map line (map entry_text entries ++ end ∷ []) ≡ flat_map (λ entry. line (entry_text entry)) entries ++ line end
entry-lines [] end = append-nil (line end)
entry-lines (entry ∷ entries) end =
    ap (λ l. line (entry_text entry) ++ l) (entry-lines entries end)
    ∙ sym (append_assoc (line (entry_text entry)) (flat_map (λ other. line (entry_text other)) entries) (line end))
