-- Why bytes are no file of draws.
use Rattle.std.proofs.Common.{◌≡◌, ℕ, ◌+◌, List, [], ◌∷◌, codes, length, get_or, ap, sym, subst, ◌∙◌, arith}
use Rattle.order_text.specs.Counts.{AreCounts}
use Rattle.order_text.specs.DrawsFile.{IsDrawsLine, IsOtherDraws}
use Rattle.order_text.specs.FileFault.{IsFirstWrongLine, IsOtherFile}
use Rattle.surw_base.specs.Lines.{IsListText, list_text}
use Rattle.order_text.specs.Lines.{lines_of}
use Rattle.order_text.specs.declared.file_fault.FileFault.{FileFault}
use Rattle.order_text.specs.declared.file_fault.FileFault.TheVariants.{Lines, OutOfMemory}
use Rattle.order_text.proofs.WrongLines.{none-asked, wrong-missing}

-- there are no lines
pub other-empty : (bytes : List ℕ) → lines_of bytes ≡ [] → IsOtherDraws bytes 1
other-empty bytes none = record {
  threads = 0;
  counted = λ counts is allowed.
      let empty : [] ≡ list_text (codes "counts") counts = ap (λ (ls : List (List ℕ)). get_or ls 0 []) (sym none) ∙ is.spelled in
      cc empty;
  first = wrong-missing (IsDrawsLine 0) (0 + 2) 1 (lines_of bytes) [] none (none-asked (IsDrawsLine 0)) (omega arith) (omega arith);
}

-- the first line lists these counts and no others
abbrev pub ListsOnly : List ℕ → List ℕ → Type 0
ListsOnly counts line = (other : List ℕ) → IsListText (codes "counts") other line → AreCounts other → counts ≡ other

-- a line behind that of the counts is wrong
pub other-line_number : (bytes first counts : List ℕ) (rest : List (List ℕ)) (number : ℕ) → lines_of bytes ≡ first ∷ rest → ListsOnly counts first
    → IsFirstWrongLine (IsDrawsLine (length counts)) (length counts + 2) (first ∷ rest) number → IsOtherDraws bytes number
other-line_number bytes first counts rest number are only wrong = record {
  threads = length counts;
  counted = λ other is allowed.
      ap length (sym (only other (subst (IsListText (codes "counts") other) (ap (λ (ls : List (List ℕ)). get_or ls 0 []) are) is) allowed));
  first = subst (λ (ls : List (List ℕ)). IsFirstWrongLine (IsDrawsLine (length counts)) (length counts + 2) ls number) (sym are) wrong;
}

pub other-draws : (bytes first counts : List ℕ) (rest : List (List ℕ)) (fault : FileFault) → lines_of bytes ≡ first ∷ rest → ListsOnly counts first
    → IsOtherFile (IsFirstWrongLine (IsDrawsLine (length counts)) (length counts + 2) (first ∷ rest)) fault → IsOtherFile (IsOtherDraws bytes) fault
other-draws bytes first counts rest (Lines number) are only wrong = other-line_number bytes first counts rest number are only wrong
other-draws bytes first counts rest OutOfMemory are only wrong = tt
