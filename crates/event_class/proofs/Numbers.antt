-- Numbers at the front of a text, each behind a space.
use Rattle.std.proofs.Common.{◌≡◌, ℕ, suc, ◌+◌, ◌-◌, ◌%◌, ◌^◌, ◌<◌, ◌≤◌, ◌==◌, cond, List, [], ◌∷◌, ◌++◌, length, get_or, take, drop, refl, ap, sym, subst, ◌∙◌, arith, inl, inr, length-append}
use Rattle.std.proofs.Math.Seq.{take-add}
use Rattle.std.proofs.lemmas.Bool.{cases_lt, ne_eqb}
use Rattle.std.proofs.lemmas.Fmt.{decimal_by_steps}
use Rattle.std.proofs.lemmas.List.{take-append-drop, take-take, length-take-le, get_or-take, get_or_at, take_at, drop_at, drop_more, drop-drop, drop-take, append-nil, append_assoc, length_push, length-drop, nil_from_length, take-append-le}
use Rattle.std.proofs.lemmas.List.Concat.{flat_map-append}
use Rattle.std.proofs.lemmas.List.Elements.{All-head, All-tail, All-push, All-take, All-get_or}
use Rattle.std.specs.Fmt.{decimal}
use Rattle.surw_base.specs.Prefix.{IsLongestPrefix, HasNoPrefix}
use Rattle.surw_base.specs.Number.{IsNumberText}
use Rattle.surw_base.specs.Lines.{items_text}
use Rattle.event_class.specs.Event.{AreSmall, AreNumbersText}

-- how many of the bytes are spaces
abbrev spaces : List ℕ → ℕ
spaces [] = 0
spaces (b ∷ bs) = cond (b == 32) 1 0 + spaces bs

spaces-append : (xs ys : List ℕ) → spaces (xs ++ ys) ≡ spaces xs + spaces ys
spaces-append [] ys = omega arith
spaces-append (x ∷ xs) ys = omega (arith, spaces-append xs ys)

-- a digit is no space
spaces-digit : (n : ℕ) → spaces ((48 + n) ∷ []) ≡ 0
spaces-digit n = rw (ne_eqb (48 + n) 32 (λ e. omega arith)) refl

-- the digits of a number have no space
spaces-decimal : (n : ℕ) → n < 2 ^ 64 → spaces (decimal n) ≡ 0
spaces-decimal n small = decimal_by_steps (λ m ds. spaces ds ≡ 0)
    (λ m lt. spaces-digit m)
    (λ m ds le none. spaces-append ds ((48 + m % 10) ∷ []) ∙ omega (arith, none, spaces-digit (m % 10)))
    n small

-- numbers have one space each
spaces-numbers : (ns : List ℕ) → AreSmall ns → spaces (items_text ns) ≡ length ns
spaces-numbers [] small = refl
spaces-numbers (n ∷ ns) small =
    let none = spaces-decimal n (All-head (λ m. m < 2 ^ 64) n ns small) in
    let more = spaces-numbers ns (All-tail (λ m. m < 2 ^ 64) n ns small) in
    omega (arith, none, more, spaces-append (decimal n) (items_text ns))

-- a space inside a prefix is one more than those before it
spaces-inside : (text : List ℕ) (place len : ℕ) → place < len → len ≤ length text → get_or text place 0 ≡ 32
    → spaces (take place text) + 1 ≤ spaces (take len text)
spaces-inside text place len lt within space =
    let prefix = take len text in
    let long : length prefix ≡ len = length-take-le len text within in
    let cut : take place prefix ≡ take place text = take-take place len text (omega arith) in
    let here : get_or prefix place 0 ≡ 32 = get_or-take len text place 0 lt ∙ space in
    let rest : drop place prefix ≡ 32 ∷ drop (place + 1) prefix =
    drop_more prefix place 0 (omega arith) ∙ ap (λ (b : ℕ). b ∷ drop (place + 1) prefix) here in
    let whole : take place text ++ (32 ∷ drop (place + 1) prefix) ≡ prefix =
    (λ i. sym cut i ++ sym rest i) ∙ take-append-drop place prefix in
    omega (arith, ap spaces whole, spaces-append (take place text) (32 ∷ drop (place + 1) prefix))

-- what stands behind the longest prefix of fewer numbers: a space, the next number and then the others
pub record IsNext (text : List ℕ) (len n w : ℕ) (more : List ℕ) : Type 0 where
  pub space : get_or text len 0 ≡ 32
  pub number : IsNumberText (take (length (decimal w)) (drop (len + 1) text)) w
  pub ends : n ≡ len + 1 + length (decimal w) + length (items_text more)

next-split : (text ns us : List ℕ) (w : ℕ) (more : List ℕ) (i len n : ℕ) → IsLongestPrefix (AreNumbersText i) text ns len → n ≤ length text
    → length us ≡ i → AreSmall us → w < 2 ^ 64 → take n text ≡ items_text (us ++ w ∷ more) → IsNext text len n w more
next-split text ns us w more i len n longest within many small below is =
    let m = length (items_text us) in
    let d = length (decimal w) in
    let rest = decimal w ++ items_text more in
    let parts : take n text ≡ items_text us ++ (32 ∷ rest) = is ∙ flat_map-append (λ v. 32 ∷ decimal v) us (w ∷ more) in
    let long : n ≡ m + 1 + d + length (items_text more) =
    omega (arith, length-take-le n text within, ap length parts, length-append (items_text us) (32 ∷ rest), length-append (decimal w) (items_text more)) in
    let prefix : take m text ≡ items_text us =
    sym (take-take m n text (omega arith)) ∙ ap (take m) parts ∙ take_at (items_text us) (32 ∷ rest) m refl in
    let space : get_or text m 0 ≡ 32 =
    sym (get_or-take n text m 0 (omega arith)) ∙ ap (λ (l : List ℕ). get_or l m 0) parts ∙ get_or_at (items_text us) 32 rest 0 m refl in
    let same : m ≡ len = elim (cases_lt m len) [
      | inl less ↦
          let more_spaces = spaces-inside text m len less longest.within space in
          let few = ap spaces prefix ∙ spaces-numbers us small in
          let all = ap spaces longest.prefix.text ∙ spaces-numbers ns longest.prefix.below in
          absurd (omega (arith, more_spaces, few, all, many, longest.prefix.many))
      | inr le ↦ elim (cases_lt len m) [
        | inl beyond ↦ absurd (longest.longest m us beyond (omega arith) (record { text = prefix; many = many; below = small }))
        | inr ge ↦ omega arith
      ]
    ] in
    let behind : drop (m + 1) (take n text) ≡ rest =
    ap (drop (m + 1)) parts ∙ sym (drop-drop 1 m (items_text us ++ (32 ∷ rest))) ∙ ap (drop 1) (drop_at (items_text us) (32 ∷ rest) m refl) in
    let k = d + length (items_text more) in
    let cut : drop (m + 1) (take n text) ≡ take k (drop (m + 1) text) =
    let e : n ≡ m + 1 + k = omega arith in ap (λ (z : ℕ). drop (m + 1) (take z text)) e ∙ drop-take (m + 1) k text in
    let digits : take d (drop (m + 1) text) ≡ decimal w =
    sym (take-take d k (drop (m + 1) text) (omega arith)) ∙ ap (take d) (sym cut ∙ behind) ∙ take_at (decimal w) (items_text more) d refl in
    record {
      space = subst (λ (z : ℕ). get_or text z 0 ≡ 32) same space;
      number = record { digits = subst (λ (z : ℕ). take d (drop (z + 1) text) ≡ decimal w) same digits; below = below };
      ends = omega (arith, same, long);
    }

-- a prefix of more numbers goes on behind the longest prefix of the first ones
pub next : (text ns ws : List ℕ) (i count len n : ℕ) → IsLongestPrefix (AreNumbersText i) text ns len → n ≤ length text → i < count
    → AreNumbersText count (take n text) ws → IsNext text len n (get_or ws i 0) (drop (i + 1) ws)
next text ns ws i count len n longest within lt is =
    let P : ℕ → Type 0 = λ m. m < 2 ^ 64 in
    let room : i < length ws = omega (arith, is.many) in
    let split : ws ≡ take i ws ++ (get_or ws i 0 ∷ drop (i + 1) ws) =
    sym (take-append-drop i ws) ∙ ap (λ (l : List ℕ). take i ws ++ l) (drop_more ws i 0 room) in
    next-split text ns (take i ws) (get_or ws i 0) (drop (i + 1) ws) i len n longest within
    (length-take-le i ws (omega arith)) (All-take P i ws is.below) (All-get_or P ws i 0 room is.below)
    (is.text ∙ ap items_text split)

-- where no space follows, no prefix has more numbers
pub none-space : (text ns : List ℕ) (i count len : ℕ) → IsLongestPrefix (AreNumbersText i) text ns len → i < count
    → (get_or text len 0 ≡ 32 → ⊥) → HasNoPrefix (AreNumbersText count) text
none-space text ns i count len longest lt other n ws within is = other (next text ns ws i count len n longest within lt is).space

-- nor where no number follows
pub none-number : (text ns : List ℕ) (i count len : ℕ) → IsLongestPrefix (AreNumbersText i) text ns len → i < count
    → HasNoPrefix IsNumberText (drop (len + 1) text) → HasNoPrefix (AreNumbersText count) text
none-number text ns i count len longest lt none n ws within is =
    let behind = next text ns ws i count len n longest within lt is in
    none (length (decimal (get_or ws i 0))) (get_or ws i 0) (omega (arith, behind.ends, length-drop (len + 1) text)) behind.number

-- the longest prefix of numbers with the longest prefix behind the space is the longest with one more number
pub one-more : (text ns : List ℕ) (i len v width : ℕ) → IsLongestPrefix (AreNumbersText i) text ns len → len < length text → get_or text len 0 ≡ 32
    → IsLongestPrefix IsNumberText (drop (len + 1) text) v width → IsLongestPrefix (AreNumbersText (i + 1)) text (ns ++ v ∷ []) (len + (1 + width))
one-more text ns i len v width longest room space number =
    let rest : drop len text ≡ 32 ∷ drop (len + 1) text = drop_more text len 0 room ∙ ap (λ (b : ℕ). b ∷ drop (len + 1) text) space in
    let piece : take (1 + width) (drop len text) ≡ 32 ∷ decimal v =
    (let e : 1 + width ≡ suc width = omega arith in
    ap (take (1 + width)) rest ∙ ap (λ (z : ℕ). take z (32 ∷ drop (len + 1) text)) e ∙ ap (λ (l : List ℕ). 32 ∷ l) number.prefix.digits) in
    let last : items_text (ns ++ v ∷ []) ≡ items_text ns ++ (32 ∷ decimal v) =
    flat_map-append (λ (w : ℕ). 32 ∷ decimal w) ns (v ∷ []) ∙ ap (λ (l : List ℕ). items_text ns ++ (32 ∷ l)) (append-nil (decimal v)) in
    record {
      within = omega (arith, number.within, length-drop (len + 1) text);
      prefix = record {
        text = take-add len (1 + width) text ∙ (λ j. longest.prefix.text j ++ piece j) ∙ sym last;
        many = length_push ns v ∙ omega (arith, longest.prefix.many);
        below = All-push (λ (w : ℕ). w < 2 ^ 64) ns v longest.prefix.below number.prefix.below;
      };
      longest = λ n ws lt within is.
          let behind = next text ns ws i (i + 1) len n longest within (omega arith) is in
          let w = get_or ws i 0 in
          let end : length (drop (i + 1) ws) ≡ 0 = omega (arith, length-drop (i + 1) ws, is.many) in
          let none : drop (i + 1) ws ≡ [] = nil_from_length (drop (i + 1) ws) end in
          number.longest (length (decimal w)) w
          (omega (arith, behind.ends, ap (λ (l : List ℕ). length (items_text l)) none))
          (omega (arith, behind.ends, length-drop (len + 1) text)) behind.number;
    }

-- the numbers at the first three places
abbrev pub by_place : List ℕ → List ℕ
by_place xs = get_or xs 0 0 ∷ get_or xs 1 0 ∷ get_or xs 2 0 ∷ []

-- the front of three numbers by their places
pub first-three : (xs : List ℕ) (count : ℕ) → count ≤ length xs → count ≤ 3
    → take count (by_place xs) ≡ take count xs
first-three [] count le few = take-append-le count [] (0 ∷ 0 ∷ 0 ∷ []) le
first-three (x ∷ []) count le few = take-append-le count (x ∷ []) (0 ∷ 0 ∷ []) le
first-three (x ∷ y ∷ []) count le few = take-append-le count (x ∷ y ∷ []) (0 ∷ []) le
first-three (x ∷ y ∷ z ∷ zs) count le few = sym (take-append-le count (x ∷ y ∷ z ∷ []) zs few)

-- one number more before the text of those behind it
pub one-before : (numbers line tail : List ℕ) (i count : ℕ) → length (take count numbers) ≡ count → 0 < i → i ≤ count
    → line ≡ items_text (drop i (take count numbers)) ++ tail
    → 32 ∷ (decimal (get_or numbers (i - 1) 0) ++ line) ≡ items_text (drop (i - 1) (take count numbers)) ++ tail
one-before numbers line tail i count many some within is =
    let ns = take count numbers in
    let k = i - 1 in
    let n = get_or numbers k 0 in
    let next : k + 1 ≡ i = omega arith in
    let here : get_or ns k 0 ≡ n = get_or-take count numbers k 0 (omega arith) in
    let rest : drop k ns ≡ n ∷ drop i ns = drop_more ns k 0 (omega (arith, many)) ∙ (λ j. here j ∷ drop (next j) ns) in
    ap (λ (l : List ℕ). 32 ∷ (decimal n ++ l)) is
    ∙ sym (ap (λ (l : List ℕ). 32 ∷ l) (append_assoc (decimal n) (items_text (drop i ns)) tail))
    ∙ sym (ap (λ (l : List ℕ). items_text l ++ tail) rest)
