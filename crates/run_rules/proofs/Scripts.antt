-- The positions of a script: those before each entry of a legal journal are the positions after its prefixes.
use Rattle.std.proofs.Common.{◌≡◌, ◌≢◌, ℕ, zero, suc, ◌+◌, ◌-◌, ◌<◌, ◌≤◌, List, [], ◌∷◌, ◌++◌, length, map, take, set, get_or, Option, None, Some, ap, sym, ◌∙◌, inl, inr, arith}
use Rattle.std.proofs.Math.Seq.{take-length}
use Rattle.std.proofs.lemmas.Bool.{cases_eq}
use Rattle.std.proofs.lemmas.List.{get_or-set_same, get_or-set_other, length-set, length-take-le}
use Rattle.std.proofs.lemmas.List.FromFn.{fill_by_all, get_or-map-range_with_len, length-map-range_with_len}
use Rattle.std.specs.List.{range_with_len}
use Rattle.event_class.specs.declared.event.Event.{Event}
use Rattle.run_rules.specs.declared.entry.Entry.{Entry}
use Rattle.run_rules.specs.LegalJournal.{IsLegal, IsLegalNext}
use Rattle.run_rules.specs.Position.{position_at, position_of}
use Rattle.run_rules.specs.Replies.{announcement}
use Rattle.run_rules.specs.Setup.{Script}
use Rattle.run_rules.proofs.EarlierPositions.{position-again, position-here}
use Rattle.run_rules.proofs.Journals.{told-other}
use Rattle.run_rules.proofs.Prefixes.{IsNext, next-at, each-prefix, each-more}

-- an entry changes only what its own thread announces
pub announcement-other : (script : Script) (journal : List Entry) (entry : Entry) (thread : ℕ) → entry.thread ≢ thread
    → announcement script (journal ++ entry ∷ []) thread ≡ announcement script journal thread
announcement-other script journal entry thread ne = ap (λ replies. script.says thread replies) (told-other journal entry thread ne)

-- what the threads announce after a journal
abbrev words_of : Script → List Entry → List (Option Event)
words_of script journal = map (λ thread. announcement script journal thread) (range_with_len 0 script.setup.threads)

words-before : (script : Script) (journal : List Entry) (entry : Entry) → announcement script journal entry.thread ≡ Some entry.event
    → set (words_of script (journal ++ entry ∷ [])) entry.thread (Some entry.event) ≡ words_of script journal
words-before script journal entry announced =
    let longer : List Entry = journal ++ entry ∷ [] in
    let n : ℕ = script.setup.threads in
    let long : length (words_of script longer) ≡ n = length-map-range_with_len (λ thread. announcement script longer thread) 0 n in
    fill_by_all (λ thread. announcement script journal thread) (set (words_of script longer) entry.thread (Some entry.event)) n None
    (length-set (words_of script longer) entry.thread (Some entry.event) ∙ long)
    (λ k lt. elim (cases_eq k entry.thread) [
      | inl same ↦
          ap (λ thread. get_or (set (words_of script longer) thread (Some entry.event)) k None) (sym same)
          ∙ get_or-set_same (words_of script longer) k (Some entry.event) None (omega (arith, long))
          ∙ sym (ap (λ thread. announcement script journal thread) same ∙ announced)
      | inr differ ↦
          get_or-set_other (words_of script longer) entry.thread k (Some entry.event) None differ
          ∙ get_or-map-range_with_len (λ thread. announcement script longer thread) 0 n k k None lt (omega arith)
          ∙ announcement-other script journal entry k (λ same. differ (sym same))
    ])

-- a script's position has a word for each thread
pub length-words : (script : Script) (journal : List Entry) → length (position_of script journal).words ≡ script.setup.threads
unfolding position_of
length-words script journal = length-map-range_with_len (λ thread. announcement script journal thread) 0 script.setup.threads

-- the word of a thread is what it announces
pub word-announcement : (script : Script) (journal : List Entry) (thread : ℕ) → thread < script.setup.threads
    → get_or (position_of script journal).words thread None ≡ announcement script journal thread
unfolding position_of
word-announcement script journal thread within =
    get_or-map-range_with_len (λ t. announcement script journal t) 0 script.setup.threads thread thread None within (omega arith)

-- an entry more that was announced changes no position up to it
pub script-more : (script : Script) (journal : List Entry) (entry : Entry) (k : ℕ) → announcement script journal entry.thread ≡ Some entry.event → k ≤ length journal
    → position_at (position_of script (journal ++ entry ∷ [])) k ≡ position_at (position_of script journal) k
unfolding position_of
script-more script journal entry k announced within =
    position-again journal entry (words_of script journal) (words_of script (journal ++ entry ∷ [])) k (words-before script journal entry announced) within

pub script-here : (script : Script) (journal : List Entry) → position_at (position_of script journal) (length journal) ≡ position_of script journal
unfolding position_of
script-here script journal = position-here (position_of script journal)

-- the position after so many entries, by as many more
script-from : (script : Script) (journal : List Entry) (k more : ℕ) → IsLegal script journal → k + more ≤ length journal
    → position_at (position_of script (take (k + more) journal)) k ≡ position_of script (take k journal)
script-from script journal k zero legal within =
    let none : k + 0 ≡ k = omega arith in
    let long : k ≡ length (take k journal) = sym (length-take-le k journal (omega (arith, within))) in
    ap (λ n. position_at (position_of script (take n journal)) k) none
    ∙ ap (λ n. position_at (position_of script (take k journal)) n) long
    ∙ script-here script (take k journal)
script-from script journal k (suc more) legal within =
    let one : k + suc more ≡ k + more + 1 = omega arith in
    let next : IsNext journal (k + more) = next-at journal (k + more) (omega (arith, within)) in
    let long : length (take (k + more) journal) ≡ k + more = length-take-le (k + more) journal (omega (arith, within)) in
    ap (λ n. position_at (position_of script (take n journal)) k) one
    ∙ ap (λ prefix. position_at (position_of script prefix) k) next.cut
    ∙ script-more script (take (k + more) journal) next.item k (legal (k + more) next.item next.there).announced (omega (arith, long))
    ∙ script-from script journal k more legal (omega (arith, within))

-- the position before an entry is the one after the entries before it
pub script-again : (script : Script) (journal : List Entry) (k : ℕ) → IsLegal script journal → k ≤ length journal
    → position_at (position_of script journal) k ≡ position_of script (take k journal)
script-again script journal k legal within =
    let whole : k + (length journal - k) ≡ length journal = omega (arith, within) in
    ap (λ prefix. position_at (position_of script prefix) k) (sym (ap (λ n. take n journal) whole ∙ take-length journal))
    ∙ script-from script journal k (length journal - k) legal (omega (arith, whole))

-- a prefix of a legal journal is legal
pub legal-prefix : (script : Script) (journal : List Entry) (k : ℕ) → IsLegal script journal → IsLegal script (take k journal)
legal-prefix script journal k legal = each-prefix (IsLegalNext script) journal k legal

-- with an entry more that can follow it a legal journal is legal
pub legal-more : (script : Script) (journal : List Entry) (entry : Entry) → IsLegal script journal → IsLegalNext script journal entry
    → IsLegal script (journal ++ entry ∷ [])
legal-more script journal entry legal next = each-more (IsLegalNext script) journal entry legal next
