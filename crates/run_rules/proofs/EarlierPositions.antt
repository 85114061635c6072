-- A position with one entry more: those before it stay.
use Rattle.std.proofs.Common.{◌≡◌, ℕ, ◌+◌, ◌<◌, ◌≤◌, List, [], ◌∷◌, ◌++◌, length, map, take, drop, set, Option, Some, refl, ap, sym, ◌∙◌, arith}
use Rattle.std.proofs.Math.Seq.{take-length, drop-length}
use Rattle.std.proofs.lemmas.List.{take-append-le, drop-append-le, drop_more, length-append}
use Rattle.std.proofs.lemmas.Option.{get_or_from_slice_get}
use Rattle.std.proofs.lemmas.List.FromFn.{fill_by_all, get_or-map-range_with_len, length-map-range_with_len, map-range_with_len_more}
use Rattle.std.specs.List.{range_with_len}
use Rattle.event_class.specs.declared.event.Event.{Event}
use Rattle.run_rules.specs.declared.entry.Entry.{Entry}
use Rattle.run_rules.proofs.Prefixes.{IsNext, next-at}
use Rattle.run_rules.specs.Position.{Position, words_before, position_at, earlier}

words-append : (entries more : List Entry) (words : List (Option Event))
    → words_before (entries ++ more) words ≡ words_before entries (words_before more words)
unfolding words_before
words-append [] more words = refl
words-append (entry ∷ entries) more words = ap (λ rest. set rest entry.thread (Some entry.event)) (words-append entries more words)

words-more : (entries : List Entry) (entry : Entry) (words : List (Option Event))
    → words_before (entries ++ entry ∷ []) words ≡ words_before entries (set words entry.thread (Some entry.event))
unfolding words_before
words-more entries entry words = words-append entries (entry ∷ []) words

-- the position as it stands after the journal
pub position-here : (x : Position) → position_at x (length x.journal) ≡ x
unfolding position_at words_before
position-here x =
    ap (λ journal. record { journal = journal; words = words_before (drop (length x.journal) x.journal) x.words }) (take-length x.journal)
    ∙ ap (λ rest. record { journal = x.journal; words = words_before rest x.words }) (drop-length x.journal)

-- a position up to which an entry more changes nothing: before it the word of its thread is its event
pub position-again : (journal : List Entry) (entry : Entry) (before after : List (Option Event)) (k : ℕ)
    → set after entry.thread (Some entry.event) ≡ before → k ≤ length journal
    → position_at (record { journal = journal ++ entry ∷ []; words = after }) k ≡ position_at (record { journal = journal; words = before }) k
unfolding position_at
position-again journal entry before after k word within =
    ap (λ entries. record { journal = entries; words = words_before (drop k (journal ++ entry ∷ [])) after })
    (take-append-le k journal (entry ∷ []) within)
    ∙ ap (λ rest. record { journal = take k journal; words = rest })
    (ap (λ rest. words_before rest after) (drop-append-le k journal (entry ∷ []) within)
    ∙ words-more (drop k journal) entry after
    ∙ ap (λ words. words_before (drop k journal) words) word)

-- two functions that agree below a number have the same list
pub map-range-same : {X : Type 0} (f g : ℕ → X) (n : ℕ) → ((k : ℕ) → k < n → f k ≡ g k)
    → map f (range_with_len 0 n) ≡ map g (range_with_len 0 n)
map-range-same f g n same =
    fill_by_all g (map f (range_with_len 0 n)) n (f 0) (length-map-range_with_len f 0 n)
    (λ k below. get_or-map-range_with_len f 0 n k k (f 0) below (omega arith) ∙ same k below)

-- the positions before each entry, with one entry more
pub earlier-more : (journal : List Entry) (entry : Entry) (before after : List (Option Event))
    → set after entry.thread (Some entry.event) ≡ before
    → earlier (record { journal = journal ++ entry ∷ []; words = after })
    ≡ earlier (record { journal = journal; words = before }) ++ record { journal = journal; words = before } ∷ []
unfolding earlier
earlier-more journal entry before after word =
    let x : Position = record { journal = journal; words = before } in
    let y : Position = record { journal = journal ++ entry ∷ []; words = after } in
    ap (λ n. map (position_at y) (range_with_len 0 n)) (length-append journal (entry ∷ []))
    ∙ map-range_with_len_more (position_at y) 0 (length journal) (length journal) (omega arith)
    ∙ ap (λ xs. xs ++ position_at y (length journal) ∷ [])
    (map-range-same (position_at y) (position_at x) (length journal) (λ k below. position-again journal entry before after k word (omega arith)))
    ∙ ap (λ z. earlier x ++ z ∷ []) (position-again journal entry before after (length journal) word (omega arith) ∙ position-here x)

-- there are as many as entries
pub length-earlier : (x : Position) → length (earlier x) ≡ length x.journal
unfolding earlier
length-earlier x = length-map-range_with_len (position_at x) 0 (length x.journal)

-- the positions before a later one
pub earlier-next : (x : Position) (k : ℕ) → k < length x.journal → earlier (position_at x (k + 1)) ≡ earlier (position_at x k) ++ position_at x k ∷ []
unfolding position_at words_before
earlier-next x k within =
    let next : IsNext x.journal k = next-at x.journal k within in
    let entry : Entry = next.item in
    let after : List (Option Event) = words_before (drop (k + 1) x.journal) x.words in
    let cut : drop k x.journal ≡ entry ∷ drop (k + 1) x.journal =
    drop_more x.journal k entry within
    ∙ ap (λ e. e ∷ drop (k + 1) x.journal) (get_or_from_slice_get x.journal k entry entry next.there) in
    let words : words_before (drop k x.journal) x.words ≡ set after entry.thread (Some entry.event) = ap (λ es. words_before es x.words) cut in
    ap (λ journal. earlier (record { journal = journal; words = after })) next.cut
    ∙ earlier-more (take k x.journal) entry (words_before (drop k x.journal) x.words) after (sym words)
