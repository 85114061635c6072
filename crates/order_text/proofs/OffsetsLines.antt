-- The lines of offsets that are read so far.
use Rattle.std.proofs.Common.{◌≡◌, ℕ, zero, suc, ◌+◌, ◌<◌, ◌≤◌, List, [], ◌∷◌, ◌++◌, length, get_or, refl, ap, sym, subst, ◌∙◌, arith, append_assoc, append-nil, length-append, below_more, All}
use Rattle.std.proofs.lemmas.List.{get_or_append_left, get_or_at, ext_get_or}
use Rattle.std.proofs.lemmas.List.Elements.{All-from_get_or}
use Rattle.draw_split.proofs.Lists.{All-padded}
use Rattle.draw_split.specs.Split.{padded}
use Rattle.surw_base.specs.declared.limits.TheConstants.{STEPS}
use Rattle.order_text.specs.DrawsFile.{IsOffsetsLine, AreOffsetsLines, IsDrawsLine}
use Rattle.order_text.specs.FileFault.{IsFirstWrongLine, IsOtherFile, fault_at}
use Rattle.order_text.specs.Lines.{lines_of}
use Rattle.surw_base.specs.declared.list.ListFault.{ListFault}
use Rattle.surw_base.specs.declared.list.ListFault.TheVariants as list
use Rattle.order_text.proofs.WrongLines.{AreAsked, wrong-missing, wrong-list, wrong-extra}

-- the line lists these offsets of the thread, and no others
pub record IsReadLine (thread : ℕ) (offsets line : List ℕ) : Type 0 where
  pub listed : IsOffsetsLine thread offsets line
  pub one : (other : List ℕ) → IsOffsetsLine thread other line → offsets ≡ other

-- the lines of the threads below this one are read from the front of the text
pub record AreReadLines (text rest : List ℕ) (lists : List (List ℕ)) (thread : ℕ) : Type 0 where
  pub done : List (List ℕ)
  pub prefix : lines_of text ≡ done ++ lines_of rest
  pub long : length done ≡ thread
  pub full : length lists ≡ thread
  pub each : (k : ℕ) → k < thread → IsReadLine k (get_or lists k []) (get_or done k [])

pub no-lines_read : (text : List ℕ) → AreReadLines text text [] 0
no-lines_read text = record { done = []; prefix = refl; long = refl; full = refl; each = λ k lt. absurd (omega arith) }

same-read : (k : ℕ) (offsets others line other : List ℕ) → others ≡ offsets → other ≡ line → IsReadLine k offsets line → IsReadLine k others other
same-read k offsets others line other e f read =
    subst (λ (l : List ℕ). IsReadLine k others l) (sym f) (subst (λ (l : List ℕ). IsReadLine k l line) (sym e) read)

-- one line more is read
pub line-more : (text rest after : List ℕ) (lists more : List (List ℕ)) (thread : ℕ) (offsets line : List ℕ) → AreReadLines text rest lists thread
    → lines_of rest ≡ line ∷ lines_of after → IsReadLine thread offsets line → more ≡ lists ++ offsets ∷ [] → AreReadLines text after more (thread + 1)
line-more text rest after lists more thread offsets line read next is pushed =
    subst (λ (ls : List (List ℕ)). AreReadLines text after ls (thread + 1)) (sym pushed) record {
      done = read.done ++ line ∷ [];
      prefix = read.prefix ∙ ap (λ (ls : List (List ℕ)). read.done ++ ls) next ∙ sym (append_assoc read.done (line ∷ []) (lines_of after));
      long = length-append read.done (line ∷ []) ∙ omega (arith, read.long);
      full = length-append lists (offsets ∷ []) ∙ omega (arith, read.full);
      each = below_more (λ k. IsReadLine k (get_or (lists ++ offsets ∷ []) k []) (get_or (read.done ++ line ∷ []) k [])) thread
          (λ k lt. same-read k (get_or lists k []) _ (get_or read.done k []) _
          (get_or_append_left lists (offsets ∷ []) [] k (omega (arith, read.full))) (get_or_append_left read.done (line ∷ []) [] k (omega (arith, read.long)))
          (read.each k lt))
          (same-read thread offsets _ line _ (get_or_at lists offsets [] [] thread read.full) (get_or_at read.done line [] [] thread read.long) is);
    }

-- where nothing is left, all lines are read
whole : (text rest : List ℕ) (lists : List (List ℕ)) (thread : ℕ) (read : AreReadLines text rest lists thread) → lines_of rest ≡ [] → lines_of text ≡ read.done
whole text rest lists thread read none = read.prefix ∙ ap (λ (ls : List (List ℕ)). read.done ++ ls) none ∙ append-nil read.done

pub all-read : (text rest : List ℕ) (lists : List (List ℕ)) (threads : ℕ) → AreReadLines text rest lists threads → lines_of rest ≡ []
    → AreOffsetsLines threads lists (lines_of text)
all-read text rest lists threads read none =
    subst (AreOffsetsLines threads lists) (sym (whole text rest lists threads read none)) record {
      full = read.full;
      many = read.long;
      each = λ k lt. (read.each k lt).listed;
    }

pub read-once : (text rest : List ℕ) (lists offsets : List (List ℕ)) (threads : ℕ) → AreReadLines text rest lists threads → lines_of rest ≡ []
    → AreOffsetsLines threads offsets (lines_of text) → lists ≡ offsets
read-once text rest lists offsets threads read none are =
    let here = subst (AreOffsetsLines threads offsets) (whole text rest lists threads read none) are in
    ext_get_or [] lists offsets (read.full ∙ sym are.full) (λ k lt.
    let below : k < threads = omega (arith, read.full) in
    (read.each k below).one (get_or offsets k []) (here.each k below))

-- the lines are fewer than the threads
pub too-few : (text rest : List ℕ) (lists offsets : List (List ℕ)) (thread threads : ℕ) → AreReadLines text rest lists thread → thread < threads → lines_of rest ≡ []
    → AreOffsetsLines threads offsets (lines_of text) → ⊥
too-few text rest lists offsets thread threads read less none are =
    omega (arith, less, read.long, ap length (whole text rest lists thread read none), are.many)

-- the lines are more than the threads
pub too-many : (text rest : List ℕ) (lists offsets : List (List ℕ)) (threads : ℕ) → AreReadLines text rest lists threads → 0 < length (lines_of rest)
    → AreOffsetsLines threads offsets (lines_of text) → ⊥
too-many text rest lists offsets threads read some are =
    omega (arith, some, read.long, ap length read.prefix, length-append read.done (lines_of rest), are.many)

-- the next line has to list the next thread's offsets
pub next-line : (text rest : List ℕ) (lists offsets : List (List ℕ)) (thread threads : ℕ) (line : List ℕ) (more : List (List ℕ)) → AreReadLines text rest lists thread → thread < threads
    → lines_of rest ≡ line ∷ more → AreOffsetsLines threads offsets (lines_of text) → IsOffsetsLine thread (get_or offsets thread []) line
next-line text rest lists offsets thread threads line more read less next are =
    let at : get_or (lines_of text) thread [] ≡ line =
    ap (λ (ls : List (List ℕ)). get_or ls thread []) (read.prefix ∙ ap (λ (ls : List (List ℕ)). read.done ++ ls) next) ∙ get_or_at read.done line more [] thread read.long in
    subst (IsOffsetsLine thread (get_or offsets thread [])) at (are.each thread less)

-- the lines so far, behind those of the counts and of the order, are as asked
behind-two : (text rest : List ℕ) (lists : List (List ℕ)) (thread threads : ℕ) (first second : List ℕ) (read : AreReadLines text rest lists thread) → thread ≤ threads
    → IsDrawsLine threads 0 first → IsDrawsLine threads 1 second → AreAsked (IsDrawsLine threads) (first ∷ second ∷ read.done)
behind-two text rest lists thread threads first second read most one two zero lt = one
behind-two text rest lists thread threads first second read most one two (suc zero) lt = two
behind-two text rest lists thread threads first second read most one two (suc (suc k)) lt =
    let below : k < thread = omega (arith, lt, read.long) in
    (get_or lists k [], omega (arith, below, most), (read.each k below).listed)

-- the next thread's line is missing
pub missing-line : (text rest : List ℕ) (lists : List (List ℕ)) (thread threads number : ℕ) (first second : List ℕ) → AreReadLines text rest lists thread → thread < threads
    → lines_of rest ≡ [] → number ≡ thread + 3 → IsDrawsLine threads 0 first → IsDrawsLine threads 1 second
    → IsFirstWrongLine (IsDrawsLine threads) (threads + 2) (first ∷ second ∷ lines_of text) number
missing-line text rest lists thread threads number first second read less none numbered one two =
    wrong-missing (IsDrawsLine threads) (threads + 2) number (first ∷ second ∷ lines_of text) (first ∷ second ∷ read.done)
    (ap (λ (ls : List (List ℕ)). first ∷ second ∷ ls) (whole text rest lists thread read none))
    (behind-two text rest lists thread threads first second read (omega (arith, less)) one two)
    (omega (arith, read.long, less)) (omega (arith, read.long, numbered))

-- the next line doesn't list the next thread's offsets
pub other-line : (text rest : List ℕ) (lists : List (List ℕ)) (thread threads number : ℕ) (first second line : List ℕ) (more : List (List ℕ)) (fault : ListFault)
    → AreReadLines text rest lists thread → thread < threads → lines_of rest ≡ line ∷ more
    → ((offsets : List ℕ) → IsOffsetsLine thread offsets line → fault ≡ list.OutOfMemory)
    → number ≡ thread + 3 → IsDrawsLine threads 0 first → IsDrawsLine threads 1 second
    → IsOtherFile (IsFirstWrongLine (IsDrawsLine threads) (threads + 2) (first ∷ second ∷ lines_of text)) (fault_at fault number)
other-line text rest lists thread threads number first second line more fault read less next only numbered one two =
    wrong-list (IsDrawsLine threads) (threads + 2) number (suc (suc thread)) (first ∷ second ∷ lines_of text) (first ∷ second ∷ read.done) line more fault
    (ap (λ (ls : List (List ℕ)). first ∷ second ∷ ls) (read.prefix ∙ ap (λ (ls : List (List ℕ)). read.done ++ ls) next))
    (omega (arith, read.long))
    (behind-two text rest lists thread threads first second read (omega (arith, less)) one two)
    (λ right. only right.0 right.2)
    (omega (arith, numbered))

-- a line follows the last
pub extra-line : (text rest : List ℕ) (lists : List (List ℕ)) (threads number : ℕ) (first second : List ℕ) → AreReadLines text rest lists threads
    → 0 < length (lines_of rest) → number ≡ threads + 3 → IsDrawsLine threads 0 first → IsDrawsLine threads 1 second
    → IsFirstWrongLine (IsDrawsLine threads) (threads + 2) (first ∷ second ∷ lines_of text) number
extra-line text rest lists threads number first second read some numbered one two =
    wrong-extra (IsDrawsLine threads) (threads + 2) number (suc (suc threads)) (first ∷ second ∷ lines_of text) (first ∷ second ∷ read.done) (lines_of rest)
    (ap (λ (ls : List (List ℕ)). first ∷ second ∷ ls) read.prefix) some
    (omega (arith, read.long))
    (behind-two text rest lists threads threads first second read (omega arith) one two)
    (λ line right. let high : threads < threads = right.1 in omega (arith, high))
    (omega (arith, numbered))

-- no thread has more offsets than there are steps
pub few-offsets : (threads : ℕ) (lists lines : List (List ℕ)) → AreOffsetsLines threads lists lines → All (λ list. length list ≤ STEPS) (padded lists)
few-offsets threads lists lines are =
    All-padded STEPS lists (All-from_get_or (λ (list : List ℕ). length list ≤ STEPS) lists [] (λ k lt. (are.each k (omega (arith, are.full))).allowed.few))
