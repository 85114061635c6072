-- What a text reads as, against the table of what it can have.
use Rattle.std.proofs.Common.{◌≡◌, ◌≢◌, ◌⊎◌, inl, inr, ℕ, ◌+◌, ◌<◌, ◌≤◌, nat_lt, nat_eq, Bool, true, false, List, [], ◌∷◌, ◌++◌, cond, length, map, drop, All, Option, Some, None, Result, Ok, Err, refl, ap, sym, subst, ◌∙◌, arith, length-append}
use Rattle.std.proofs.lemmas.Bool.{false≢true, ltb-true}
use Rattle.std.proofs.lemmas.List.{append-nil, append_assoc, drop_at, length-map}
use Rattle.std.proofs.lemmas.List.Elements.{All-append, All-cons, All-head, All-nil, All-tail}
use Rattle.std.proofs.lemmas.Option.{none-some}
use Rattle.std.specs.List.{flat_map, starts_with}
use Rattle.std.specs.Str.{bytes_eq}
use Rattle.surw_base.proofs.Digits.{none-other}
use Rattle.surw_base.proofs.Prefixes.{number-some}
use Rattle.surw_base.proofs.Tokens.{bytes-same, same-bytes}
use Rattle.surw_base.specs.declared.limits.TheConstants.{STEPS}
use Rattle.surw_base.specs.Lines.{line}
use Rattle.event_class.proofs.Events.{begins-true, true-begins}
use Rattle.event_class.specs.Event.{event_text}
use Rattle.walk_rules.specs.declared.asked.Asked.{Asked}
use Rattle.replay_text.specs.declared.replay_fault.ReplayFault.{ReplayFault}
use Rattle.replay_text.specs.declared.replay_fault.ReplayFault.TheVariants.{Header, Line, TooMany, NoEnd, OutOfMemory}
use Rattle.replay_text.specs.EntryOf.{entry_of}
use Rattle.replay_text.specs.FirstFault.{HasEntries, HasLines, IsFault}
use Rattle.replay_text.specs.Lines.{unfinished, whole_lines}
use Rattle.replay_text.specs.NameOf.{name_of}
use Rattle.replay_text.specs.Reading.{asked_of, body_of, entries_of, if_ended, if_last, run_of, saved_of, with_entry}
use Rattle.replay_text.specs.SavedRun.{IsEntry, IsName, IsSavedRun, SavedRun}
use Rattle.replay_text.specs.SavedText.{IsEntryText, end_text, entry_text, header, name_text, saved_text}
use Rattle.replay_text.proofs.EntryTexts.{entry-again, given-entry, none-read}
use Rattle.replay_text.proofs.Feeds.{NoFeed, entry-lines, joined, no-feed-end, no-feed-entry, no-feed-name, nothing-left, whole-again}
use Rattle.replay_text.proofs.NameTexts.{given-name, name-again, none-named}
use Rattle.replay_text.proofs.ReadLines.{asked-end, asked-many, entries-end, entries-none}
use Rattle.replay_text.proofs.SavedTexts.{behind-header, no-header}

-- the lines are those of these entries and what follows them
pub record AreFront (lines : List (List ℕ)) (entries : List Asked) (behind : List (List ℕ)) : Type 0 where
  pub whole : lines ≡ map entry_text entries ++ behind
  pub each : All IsEntry entries

with-front : (given : Option Asked) (text : List ℕ) (texts : List (List ℕ)) → entry_of text ≡ given → AreFront texts (entries_of texts) (drop (length (entries_of texts)) texts)
    → AreFront (text ∷ texts) (with_entry given (entries_of texts)) (drop (length (with_entry given (entries_of texts))) (text ∷ texts))
with-front None text texts gives front = record { whole = refl; each = All-nil IsEntry }
with-front (Some entry) text texts gives front =
    let is = given-entry text entry gives in
    record {
      whole = λ i. is.spelled i ∷ front.whole i;
      each = All-cons IsEntry entry (entries_of texts) is.fits front.each;
    }

front-of : (lines : List (List ℕ)) → AreFront lines (entries_of lines) (drop (length (entries_of lines)) lines)
unfolding entries_of
front-of [] = record { whole = refl; each = All-nil IsEntry }
front-of (text ∷ texts) = with-front (entry_of text) text texts refl (front-of texts)

-- no entry stands first behind them
stop-at : (given : Option Asked) (text : List ℕ) (texts : List (List ℕ)) (other : List ℕ) (others : List (List ℕ)) → entry_of text ≡ given
    → (drop (length (entries_of texts)) texts ≡ other ∷ others → entry_of other ≡ None)
    → drop (length (with_entry given (entries_of texts))) (text ∷ texts) ≡ other ∷ others → entry_of other ≡ None
stop-at None text texts other others gives later is = let same : text ≡ other = cc is in sym (ap entry_of same) ∙ gives
stop-at (Some entry) text texts other others gives later is = later is

stops : (lines : List (List ℕ)) (other : List ℕ) (others : List (List ℕ)) → drop (length (entries_of lines)) lines ≡ other ∷ others → entry_of other ≡ None
unfolding entries_of
stops [] other others is = cc is
stops (text ∷ texts) other others is = stop-at (entry_of text) text texts other others refl (stops texts other others) is

-- lines of entries give them
entries-again : (entries : List Asked) (behind : List (List ℕ)) → All IsEntry entries → entries_of (map entry_text entries ++ behind) ≡ entries ++ entries_of behind
unfolding entries_of
entries-again [] behind all = refl
entries-again (entry ∷ entries) behind all =
    ap (λ o. with_entry o (entries_of (map entry_text entries ++ behind))) (entry-again (entry_text entry) entry (record { spelled = refl; fits = All-head IsEntry entry entries all }))
    ∙ ap (λ l. entry ∷ l) (entries-again entries behind (All-tail IsEntry entry entries all))

-- behind a name and entries, what is left is read
read-front : (text : List ℕ) (entries : List Asked) (lines : List (List ℕ)) (rest : List ℕ) (has : HasEntries text entries lines rest)
    → saved_of text ≡ run_of (Some has.name) (asked_of (map entry_text entries ++ lines) rest)
read-front text entries lines rest has =
    behind-header text has.stand.body has.stand.first ∙ (λ i. body_of (has.stand.whole i) (has.stand.left i))
    ∙ ap (λ o. run_of o (asked_of (map entry_text entries ++ lines) rest)) (name-again (name_text has.name) has.name (record { spelled = refl; fits = has.named }))

no-feeds : (entries : List Asked) → All IsEntry entries → All NoFeed (map entry_text entries)
no-feeds [] all = All-nil NoFeed
no-feeds (entry ∷ entries) all =
    All-cons NoFeed (entry_text entry) (map entry_text entries) (no-feed-entry entry (All-head IsEntry entry entries all)) (no-feeds entries (All-tail IsEntry entry entries all))

at-most : (most count : ℕ) → nat_lt most count ≡ false → count ≤ most
at-most most count is = grind (arith, is)

-- where no entry follows them, the end has to
asked-front : (entries : List Asked) (behind : List (List ℕ)) (rest : List ℕ) → All IsEntry entries → length entries ≤ STEPS → entries_of behind ≡ []
    → asked_of (map entry_text entries ++ behind) rest ≡ if_ended entries behind rest
asked-front entries behind rest each few none =
    asked-end (map entry_text entries ++ behind) behind rest entries (entries-again entries behind each ∙ ap (λ l. entries ++ l) none ∙ append-nil entries)
    (drop_at (map entry_text entries) behind (length entries) (length-map entries entry_text)) few

many-front : (entries : List Asked) (behind : List (List ℕ)) (rest : List ℕ) → All IsEntry entries → STEPS < length entries
    → asked_of (map entry_text entries ++ behind) rest ≡ Err (TooMany (STEPS + 3))
many-front entries behind rest each many =
    asked-many (map entry_text entries ++ behind) rest (omega (arith, many, ap length (entries-again entries behind each), length-append entries (entries_of behind)))

-- the line of the end is that of no entry
end-other : (count : ℕ) (entry : Asked) → IsEntryText (end_text count) entry → ⊥
end-other count entry is =
    number-some (end_text count) (32 ∷ event_text entry.event) entry.thread is.spelled (omega (arith, is.fits.thread)) (λ digit. omega (arith, digit))
    (none-other (end_text count) (λ digit. omega (arith, digit)))

end-none : (count : ℕ) (behind : List (List ℕ)) → entries_of (end_text count ∷ behind) ≡ []
end-none count behind = entries-none (end_text count ∷ behind) (end_text count) behind refl (sym (none-read (end_text count) (end-other count)))

ended-so : (entries : List Asked) (behind : List (List ℕ)) (rest : List ℕ) → if_ended entries (end_text (length entries) ∷ behind) rest ≡ if_last entries behind rest
ended-so entries behind rest =
    ap (λ b. cond b (if_last entries behind rest) (Err (Line (length entries + 3)))) (same-bytes (end_text (length entries)) (end_text (length entries)) refl)

-- the parts of a run's text
text-parts : (saved : SavedRun) → saved_text saved
    ≡ header ++ (line (name_text saved.name) ++ (flat_map (λ entry. line (entry_text entry)) saved.entries ++ line (end_text (length saved.entries))))
unfolding saved_text
text-parts saved =
    let name = line (name_text saved.name) in
    let middle = flat_map (λ entry. line (entry_text entry)) saved.entries in
    let end = line (end_text (length saved.entries)) in
    append_assoc (header ++ name) middle end ∙ append_assoc header name (middle ++ end)

-- the text of a run has its lines
text-lines : (saved : SavedRun) → IsSavedRun saved → HasLines (saved_text saved) (name_text saved.name ∷ (map entry_text saved.entries ++ end_text (length saved.entries) ∷ [])) []
text-lines saved is =
    let end = end_text (length saved.entries) in
    let lines = name_text saved.name ∷ (map entry_text saved.entries ++ end ∷ []) in
    let all : All NoFeed lines =
    All-cons NoFeed (name_text saved.name) (map entry_text saved.entries ++ end ∷ []) (no-feed-name saved.name)
    (All-append NoFeed (map entry_text saved.entries) (end ∷ []) (no-feeds saved.entries is.each)
    (All-cons NoFeed end [] (no-feed-end (length saved.entries) (omega (arith, is.few))) (All-nil NoFeed))) in
    record {
      body = flat_map line lines;
      first = text-parts saved ∙ ap (λ l. header ++ (line (name_text saved.name) ++ l)) (sym (entry-lines saved.entries end));
      whole = whole-again lines all;
      left = nothing-left lines all;
    }

-- so it reads as the run
pub text-reads : (saved : SavedRun) (text : List ℕ) → IsSavedRun saved → text ≡ saved_text saved → saved_of text ≡ Ok saved
text-reads saved text is same =
    let end = end_text (length saved.entries) in
    let stand = text-lines saved is in
    ap saved_of same
    ∙ read-front (saved_text saved) saved.entries (end ∷ []) [] (record { name = saved.name; named = is.named; each = is.each; stand = stand })
    ∙ ap (run_of (Some saved.name)) (asked-front saved.entries (end ∷ []) [] is.each is.few (end-none (length saved.entries) []) ∙ ended-so saved.entries [] [])

-- a text of such lines and no more is the run's
lines-text : (text name : List ℕ) (entries : List Asked) → HasLines text (name_text name ∷ (map entry_text entries ++ end_text (length entries) ∷ [])) []
    → text ≡ saved_text (record { name = name; entries = entries })
lines-text text name entries has =
    let lines = name_text name ∷ (map entry_text entries ++ end_text (length entries) ∷ []) in
    has.first
    ∙ ap (λ l. header ++ l)
    (joined has.body ∙ (λ i. flat_map line (has.whole i) ++ has.left i) ∙ append-nil (flat_map line lines) ∙ ap (λ l. line (name_text name) ++ l) (entry-lines entries (end_text (length entries))))
    ∙ sym (text-parts (record { name = name; entries = entries }))

-- what a text that reads so has
abbrev IsReading : List ℕ → Result SavedRun ReplayFault → Type 0
IsReading text (Ok saved) = IsSavedRun saved × (text ≡ saved_text saved)
IsReading text (Err fault) = IsFault text fault

-- the lines of a name and entries, as far as they are read
record AreKept (text name : List ℕ) (entries : List Asked) (behind : List (List ℕ)) (rest : List ℕ) : Type 0 where
  pub named : IsName name
  pub each : All IsEntry entries
  pub stand : HasLines text (name_text name ∷ (map entry_text entries ++ behind)) rest

as-entries : (text name : List ℕ) (entries : List Asked) (behind : List (List ℕ)) (rest : List ℕ) → AreKept text name entries behind rest → HasEntries text entries behind rest
as-entries text name entries behind rest kept = record { name = name; named = kept.named; each = kept.each; stand = kept.stand }

reads-last : (text name : List ℕ) (entries : List Asked) (lines : List (List ℕ)) (rest : List ℕ) → length entries ≤ STEPS
    → AreKept text name entries (end_text (length entries) ∷ lines) rest → IsReading text (run_of (Some name) (if_last entries lines rest))
reads-last text name entries [] [] few kept = (record { named = kept.named; few = few; each = kept.each }, lines-text text name entries kept.stand)
reads-last text name entries [] (b ∷ bs) few kept = inr (inr (record {
  entries = entries;
  lines = [];
  rest = b ∷ bs;
  stand = as-entries text name entries (end_text (length entries) ∷ []) (b ∷ bs) kept;
  few = few;
  more = inr (omega arith);
  numbered = refl;
}))
reads-last text name entries (l ∷ ls) rest few kept = inr (inr (record {
  entries = entries;
  lines = l ∷ ls;
  rest = rest;
  stand = as-entries text name entries (end_text (length entries) ∷ l ∷ ls) rest kept;
  few = few;
  more = inl (omega arith);
  numbered = refl;
}))

reads-end : (text name : List ℕ) (entries : List Asked) (this : List ℕ) (lines : List (List ℕ)) (rest : List ℕ) (test : Bool) → length entries ≤ STEPS
    → AreKept text name entries (this ∷ lines) rest → entry_of this ≡ None → bytes_eq this (end_text (length entries)) ≡ test
    → IsReading text (run_of (Some name) (cond test (if_last entries lines rest) (Err (Line (length entries + 3)))))
reads-end text name entries this lines rest true few kept none is =
    reads-last text name entries lines rest few
    (subst (λ l. AreKept text name entries (l ∷ lines) rest) (sym (bytes-same this (end_text (length entries)) is)) kept)
reads-end text name entries this lines rest false few kept none is = inr (inl (record {
  entries = entries;
  line = this;
  lines = lines;
  rest = rest;
  stand = as-entries text name entries (this ∷ lines) rest kept;
  few = few;
  no_entry = λ entry text_of. none-some entry (sym none ∙ entry-again this entry text_of);
  no_end = λ same. false≢true (sym is ∙ same-bytes this (end_text (length entries)) (sym same));
  numbered = refl;
}))

reads-behind : (text name : List ℕ) (entries : List Asked) (behind : List (List ℕ)) (rest : List ℕ) → length entries ≤ STEPS → AreKept text name entries behind rest
    → ((this : List ℕ) (lines : List (List ℕ)) → behind ≡ this ∷ lines → entry_of this ≡ None) → IsReading text (run_of (Some name) (if_ended entries behind rest))
reads-behind text name entries [] rest few kept stop = inr (record { entries = entries; rest = rest; stand = as-entries text name entries [] rest kept; few = few })
reads-behind text name entries (this ∷ lines) rest few kept stop =
    reads-end text name entries this lines rest (bytes_eq this (end_text (length entries))) few kept (stop this lines refl) refl

reads-asked : (text name : List ℕ) (entries : List Asked) (behind : List (List ℕ)) (rest : List ℕ) (test : Bool) → nat_lt STEPS (length entries) ≡ test
    → AreKept text name entries behind rest → ((this : List ℕ) (lines : List (List ℕ)) → behind ≡ this ∷ lines → entry_of this ≡ None)
    → IsReading text (run_of (Some name) (cond test (Err (TooMany (STEPS + 3))) (if_ended entries behind rest)))
reads-asked text name entries behind rest true is kept stop = (
  refl,
  record {
    entries = entries;
    lines = behind;
    rest = rest;
    stand = as-entries text name entries behind rest kept;
    many = ltb-true STEPS (length entries) is;
  },
)
reads-asked text name entries behind rest false is kept stop = reads-behind text name entries behind rest (at-most STEPS (length entries) is) kept stop

reads-name : (text this : List ℕ) (lines : List (List ℕ)) (rest : List ℕ) (given : Option (List ℕ)) → name_of this ≡ given → HasLines text (this ∷ lines) rest
    → IsReading text (run_of given (asked_of lines rest))
unfolding asked_of
reads-name text this lines rest None gives has = inl (
  refl,
  record {
    line = this;
    lines = lines;
    rest = rest;
    stand = has;
    wrong = λ name is. none-some name (sym gives ∙ name-again this name is);
  },
)
reads-name text this lines rest (Some name) gives has =
    let is = given-name this name gives in
    let front = front-of lines in
    reads-asked text name (entries_of lines) (drop (length (entries_of lines)) lines) rest (nat_lt STEPS (length (entries_of lines))) refl
    (record {
      named = is.fits;
      each = front.each;
      stand = subst (λ ls. HasLines text ls rest) (λ i. is.spelled i ∷ front.whole i) has;
    })
    (stops lines)

reads-body : (text : List ℕ) (lines : List (List ℕ)) (rest : List ℕ) → HasLines text lines rest → IsReading text (body_of lines rest)
reads-body text [] rest has = inl (rest, has)
reads-body text (this ∷ lines) rest has = reads-name text this lines rest (name_of this) refl has

reads : (text : List ℕ) (test : Bool) → starts_with nat_eq text header ≡ test → IsReading text (saved_of text)
reads text true is =
    let begins = begins-true text header is in
    let body = drop (length header) text in
    subst (IsReading text) (sym (behind-header text body begins))
    (reads-body text (whole_lines body) (unfinished body) (record { body = body; first = begins; whole = refl; left = refl }))
reads text false is =
    let none : (body : List ℕ) → text ≡ header ++ body → ⊥ = λ body begins. false≢true (sym is ∙ true-begins text header body begins) in
    subst (IsReading text) (sym (no-header text none)) none

-- a text that reads as a run is its text
pub run-read : (saved : SavedRun) (text : List ℕ) → saved_of text ≡ Ok saved → IsSavedRun saved × (text ≡ saved_text saved)
run-read saved text is = subst (IsReading text) is (reads text (starts_with nat_eq text header) refl)

-- and one that reads as a fault has it
pub fault-read : (fault : ReplayFault) (text : List ℕ) → saved_of text ≡ Err fault → IsFault text fault
fault-read fault text is = subst (IsReading text) is (reads text (starts_with nat_eq text header) refl)

last-wrong : (entries : List Asked) (lines : List (List ℕ)) (rest : List ℕ) → (0 < length lines) ⊎ (0 < length rest) → if_last entries lines rest ≡ Err (Line (length entries + 4))
last-wrong entries [] [] (inl some) = absurd (omega (arith, some))
last-wrong entries [] [] (inr some) = absurd (omega (arith, some))
last-wrong entries [] (b ∷ bs) more = refl
last-wrong entries (l ∷ ls) rest more = refl

other-bytes : (xs ys : List ℕ) (test : Bool) → xs ≢ ys → bytes_eq xs ys ≡ test → test ≡ false
other-bytes xs ys true other is = absurd (other (sym (bytes-same xs ys is)))
other-bytes xs ys false other is = refl

-- the other way round: a text with a fault reads as it
pub fault-found : (fault : ReplayFault) (text : List ℕ) → IsFault text fault → saved_of text ≡ Err fault
fault-found Header text none = no-header text none
fault-found (Line number) text (inl (two, wrong)) =
    behind-header text wrong.stand.body wrong.stand.first ∙ (λ i. body_of (wrong.stand.whole i) (wrong.stand.left i))
    ∙ ap (λ o. run_of o (asked_of wrong.lines wrong.rest)) (sym (none-named wrong.line wrong.wrong)) ∙ ap (λ n. Err (Line n)) (sym two)
fault-found (Line number) text (inr (inl wrong)) =
    let count = length wrong.entries in
    read-front text wrong.entries (wrong.line ∷ wrong.lines) wrong.rest wrong.stand
    ∙ ap (run_of (Some wrong.stand.name))
    (asked-front wrong.entries (wrong.line ∷ wrong.lines) wrong.rest wrong.stand.each wrong.few
    (entries-none (wrong.line ∷ wrong.lines) wrong.line wrong.lines refl (sym (none-read wrong.line wrong.no_entry)))
    ∙ ap (λ b. cond b (if_last wrong.entries wrong.lines wrong.rest) (Err (Line (count + 3)))) (other-bytes wrong.line (end_text count) (bytes_eq wrong.line (end_text count)) wrong.no_end refl))
    ∙ ap (λ n. Err (Line n)) (sym wrong.numbered)
fault-found (Line number) text (inr (inr more)) =
    let end = end_text (length more.entries) in
    read-front text more.entries (end ∷ more.lines) more.rest more.stand
    ∙ ap (run_of (Some more.stand.name))
    (asked-front more.entries (end ∷ more.lines) more.rest more.stand.each more.few (end-none (length more.entries) more.lines)
    ∙ ended-so more.entries more.lines more.rest ∙ last-wrong more.entries more.lines more.rest more.more)
    ∙ ap (λ n. Err (Line n)) (sym more.numbered)
fault-found (TooMany number) text (numbered, many) =
    read-front text many.entries many.lines many.rest many.stand
    ∙ ap (run_of (Some many.stand.name)) (many-front many.entries many.lines many.rest many.stand.each many.many) ∙ ap (λ n. Err (TooMany n)) (sym numbered)
fault-found NoEnd text (inl (rest, has)) = behind-header text has.body has.first ∙ (λ i. body_of (has.whole i) (has.left i))
fault-found NoEnd text (inr early) =
    read-front text early.entries [] early.rest early.stand
    ∙ ap (run_of (Some early.stand.name)) (asked-front early.entries [] early.rest early.stand.each early.few (entries-end [] refl))
fault-found OutOfMemory text never = absurd never
