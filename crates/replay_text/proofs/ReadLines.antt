-- How far the lines behind the name are read.
use Rattle.std.proofs.Common.{◌≡◌, ℕ, ◌+◌, ◌<◌, ◌≤◌, nat_lt, false, List, [], ◌∷◌, ◌++◌, cond, length, drop, Some, None, Err, refl, ap, sym, ◌∙◌, arith, length-append}
use Rattle.std.proofs.lemmas.Bool.{lt-ltb}
use Rattle.std.proofs.lemmas.List.{append-nil, append_assoc, drop-drop}
use Rattle.surw_base.specs.declared.limits.TheConstants.{STEPS}
use Rattle.walk_rules.specs.declared.asked.Asked.{Asked}
use Rattle.replay_text.specs.declared.replay_fault.ReplayFault.TheVariants.{Line, TooMany, NoEnd}
use Rattle.replay_text.specs.EntryOf.{entry_of}
use Rattle.replay_text.specs.Lines.{unfinished, whole_lines}
use Rattle.replay_text.specs.Reading.{asked_of, entries_of, if_ended, if_last, with_entry}
use Rattle.replay_text.proofs.Lines.{rest-none}

-- these entries are read from the front of a text, and this is left
pub record AreRead (text rest : List ℕ) (entries : List Asked) : Type 0 where
  pub joined : entries_of (whole_lines text) ≡ entries ++ entries_of (whole_lines rest)
  pub left : drop (length entries) (whole_lines text) ≡ whole_lines rest
  pub same : unfinished text ≡ unfinished rest
  pub few : length entries ≤ STEPS

pub none-read : (text : List ℕ) → AreRead text text []
none-read text = record { joined = refl; left = refl; same = refl; few = omega arith }

-- the first line gives an entry
entries-some : (lines : List (List ℕ)) (line : List ℕ) (behind : List (List ℕ)) (entry : Asked) → lines ≡ line ∷ behind → entry_of line ≡ Some entry
    → entries_of lines ≡ entry ∷ entries_of behind
unfolding entries_of
entries-some lines line behind entry is gives = ap entries_of is ∙ ap (λ o. with_entry o (entries_of behind)) gives

-- or none
pub entries-none : (lines : List (List ℕ)) (line : List ℕ) (behind : List (List ℕ)) → lines ≡ line ∷ behind → entry_of line ≡ None → entries_of lines ≡ []
unfolding entries_of
entries-none lines line behind is gives = ap entries_of is ∙ ap (λ o. with_entry o (entries_of behind)) gives

pub entries-end : (lines : List (List ℕ)) → lines ≡ [] → entries_of lines ≡ []
unfolding entries_of
entries-end lines is = ap entries_of is

-- one entry more is read
pub more-read : (text rest line after : List ℕ) (entries : List Asked) (entry : Asked) → AreRead text rest entries → whole_lines rest ≡ line ∷ whole_lines after
    → unfinished rest ≡ unfinished after → entry_of line ≡ Some entry → length entries < STEPS → AreRead text after (entries ++ entry ∷ [])
more-read text rest line after entries entry read lines same gives room =
    let long : length (entries ++ entry ∷ []) ≡ length entries + 1 = length-append entries (entry ∷ []) in
    record {
      joined = read.joined ∙ ap (λ l. entries ++ l) (entries-some (whole_lines rest) line (whole_lines after) entry lines gives)
          ∙ sym (append_assoc entries (entry ∷ []) (entries_of (whole_lines after)));
      left = ap (λ n. drop n (whole_lines text)) long ∙ sym (drop-drop 1 (length entries) (whole_lines text)) ∙ ap (drop 1) (read.left ∙ lines);
      same = read.same ∙ same;
      few = omega (arith, long, room);
    }

-- where nothing more is an entry, what is left has to be the end
pub asked-end : (lines behind : List (List ℕ)) (rest : List ℕ) (entries : List Asked) → entries_of lines ≡ entries → drop (length entries) lines ≡ behind
    → length entries ≤ STEPS → asked_of lines rest ≡ if_ended entries behind rest
unfolding asked_of
asked-end lines behind rest entries all left few =
    let within : nat_lt STEPS (length entries) ≡ false = grind (arith, few) in
    ap (λ es. cond (nat_lt STEPS (length es)) (Err (TooMany (STEPS + 3))) (if_ended es (drop (length es) lines) rest)) all
    ∙ ap (λ b. cond b (Err (TooMany (STEPS + 3))) (if_ended entries (drop (length entries) lines) rest)) within
    ∙ ap (λ ls. if_ended entries ls rest) left

-- more than the most entries are too many
pub asked-many : (lines : List (List ℕ)) (rest : List ℕ) → STEPS < length (entries_of lines) → asked_of lines rest ≡ Err (TooMany (STEPS + 3))
unfolding asked_of
asked-many lines rest many =
    ap (λ b. cond b (Err (TooMany (STEPS + 3))) (if_ended (entries_of lines) (drop (length (entries_of lines)) lines) rest)) (lt-ltb STEPS (length (entries_of lines)) many)

pub stopped : (text rest : List ℕ) (entries : List Asked) → AreRead text rest entries → entries_of (whole_lines rest) ≡ []
    → asked_of (whole_lines text) (unfinished text) ≡ if_ended entries (whole_lines rest) (unfinished rest)
stopped text rest entries read none =
    asked-end (whole_lines text) (whole_lines rest) (unfinished text) entries (read.joined ∙ ap (λ l. entries ++ l) none ∙ append-nil entries) read.left read.few
    ∙ ap (if_ended entries (whole_lines rest)) read.same

pub too-many : (text rest line after : List ℕ) (entries : List Asked) (entry : Asked) → AreRead text rest entries → whole_lines rest ≡ line ∷ whole_lines after
    → entry_of line ≡ Some entry → length entries ≡ STEPS → asked_of (whole_lines text) (unfinished text) ≡ Err (TooMany (STEPS + 3))
too-many text rest line after entries entry read lines gives full =
    let all = read.joined ∙ ap (λ l. entries ++ l) (entries-some (whole_lines rest) line (whole_lines after) entry lines gives) in
    asked-many (whole_lines text) (unfinished text) (omega (arith, full, ap length all, length-append entries (entry ∷ entries_of (whole_lines after))))

-- the text ends there
pub no-end : (text rest : List ℕ) (entries : List Asked) → AreRead text rest entries → whole_lines rest ≡ [] → asked_of (whole_lines text) (unfinished text) ≡ Err NoEnd
no-end text rest entries read none =
    stopped text rest entries read (entries-end (whole_lines rest) none) ∙ ap (λ ls. if_ended entries ls (unfinished rest)) none

last-or-more : (entries : List Asked) (text : List ℕ) (lines : List (List ℕ)) (rest : List ℕ) → whole_lines text ≡ lines → unfinished text ≡ rest → 0 < length text
    → if_last entries lines rest ≡ Err (Line (length entries + 4))
last-or-more entries text [] [] none done some = absurd (omega (arith, some, ap length (sym done ∙ rest-none text none)))
last-or-more entries text [] (byte ∷ bytes) none done some = refl
last-or-more entries text (line ∷ lines) rest none done some = refl

-- something follows the end
pub more-behind : (entries : List Asked) (text : List ℕ) → 0 < length text → if_last entries (whole_lines text) (unfinished text) ≡ Err (Line (length entries + 4))
more-behind entries text some = last-or-more entries text (whole_lines text) (unfinished text) refl refl some
