-- What was made on a shelf, with more bytes written.
use Rattle.std.proofs.Common.{◌≡◌, ℕ, List, ◌++◌, take, drop, Option, Some, None, is_some, refl, ap, ◌∙◌, append_assoc}
use Rattle.std.proofs.lemmas.List.{take-append-drop}
use Rattle.surw_io.specs.Made.{CreatedFile, Made, more_made, with_file, written}

-- bytes written to a new file are behind those that it has
pub written-with_file : (told : Option Made) (name a b : List ℕ) → written (with_file told name a) b ≡ with_file told name (a ++ b)
written-with_file None name a b = refl
written-with_file (Some made) name a b = refl

-- one more piece was written to the new file
pub one_more_write : (first before after : Option Made) (name prefix rest bytes : List ℕ) (n : ℕ) → prefix ++ rest ≡ bytes
    → before ≡ with_file first name prefix → after ≡ written before (take n rest)
    → (x : List ℕ) × (x ++ drop n rest ≡ bytes) × (after ≡ with_file first name x)
one_more_write first before after name prefix rest bytes n whole made more = (
  prefix ++ take n rest,
  append_assoc prefix (take n rest) (drop n rest) ∙ ap (λ (l : List ℕ). prefix ++ l) (take-append-drop n rest) ∙ whole,
  more ∙ ap (λ (t : Option Made). written t (take n rest)) made ∙ written-with_file first name prefix (take n rest),
)

-- a created file stays one with more bytes
pub more_ready : (made : Made) (bytes : List ℕ) → is_some (more_made made bytes).last ≡ is_some made.last
more_ready made bytes = elim made.last as (λ (last : Option CreatedFile). is_some (more_made (record { creates = made.creates; last = last }) bytes).last ≡ is_some last) [ None ↦ refl | Some file ↦ refl ]
