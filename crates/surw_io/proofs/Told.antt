-- What a device tells, with bytes before it or behind it.
use Rattle.std.proofs.Common.{◌≡◌, ℕ, ◌+◌, ◌≤◌, List, [], ◌++◌, length, take, drop, Option, Some, None, refl, ap, sym, subst, ◌∙◌, append_assoc, append-nil, arith, length-append}
use Rattle.std.proofs.lemmas.List.{take-append-drop, length-take}
use Rattle.surw_io.specs.Content.{Entry, File, Missing, content_of, IsFileOf, with_end, with_prefix, emptied, IsAtEnd}
use Rattle.surw_io.specs.Fetch.{TookAtMost}

-- two pieces behind it are one
pub with_end-twice : (told : Option (List ℕ)) (a b : List ℕ) → with_end (with_end told a) b ≡ with_end told (a ++ b)
with_end-twice None a b = refl
with_end-twice (Some held) a b = ap Some (append_assoc held a b)

-- no bytes behind it change nothing
pub with_end-nil : (told : Option (List ℕ)) → with_end told [] ≡ told
with_end-nil None = refl
with_end-nil (Some held) = ap Some (append-nil held)

-- two pieces before it are one
pub with_prefix-twice : (a b : List ℕ) (told : Option (List ℕ)) → with_prefix a (with_prefix b told) ≡ with_prefix (a ++ b) told
with_prefix-twice a b None = refl
with_prefix-twice a b (Some rest) = ap Some (sym (append_assoc a b rest))

-- no bytes before it change nothing
pub with_prefix-nil : (told : Option (List ℕ)) → with_prefix [] told ≡ told
with_prefix-nil None = refl
with_prefix-nil (Some rest) = refl

-- what was emptied is at its end
pub emptied_at_end : (told : Option (List ℕ)) → IsAtEnd (emptied told)
emptied_at_end None = tt
emptied_at_end (Some rest) = refl

-- one more piece was taken
pub one_more_piece : (first before after : Option (List ℕ)) (prefix rest bytes : List ℕ) (n : ℕ) → prefix ++ rest ≡ bytes → before ≡ with_end first prefix
    → after ≡ with_end before (take n rest) → (x : List ℕ) × (x ++ drop n rest ≡ bytes) × (after ≡ with_end first x)
one_more_piece first before after prefix rest bytes n whole told taken = (
  prefix ++ take n rest,
  append_assoc prefix (take n rest) (drop n rest) ∙ ap (λ (l : List ℕ). prefix ++ l) (take-append-drop n rest) ∙ whole,
  taken ∙ ap (λ (t : Option (List ℕ)). with_end t (take n rest)) told ∙ with_end-twice first prefix (take n rest),
)

-- one more piece was read
pub one_more_read : (first before after : Option (List ℕ)) (prefix piece : List ℕ) → first ≡ with_prefix prefix before → before ≡ with_prefix piece after
    → first ≡ with_prefix (prefix ++ piece) after
one_more_read first before after prefix piece told read = told ∙ ap (with_prefix prefix) read ∙ with_prefix-twice prefix piece after

-- a file that is there and was read to its end is the bytes read
pub read_to_end : (entry : Option Entry) (bytes : List ℕ) (left : Option (List ℕ)) → (entry ≡ Some Missing → ⊥) → content_of entry ≡ with_prefix bytes left
    → IsAtEnd left → IsFileOf entry bytes
read_to_end None bytes left there told end = tt
read_to_end (Some (File held)) bytes None there told end = cc
read_to_end (Some (File held)) bytes (Some rest) there told end =
    let whole : held ≡ bytes ++ rest = cc in
    whole ∙ ap (λ (l : List ℕ). bytes ++ l) end ∙ append-nil bytes
read_to_end (Some Missing) bytes left there told end = absurd (there refl)

-- a read of nothing leaves the end
pub still_at_end : (before after : Option (List ℕ)) (piece : List ℕ) → piece ≡ [] → IsAtEnd before → before ≡ with_prefix piece after → IsAtEnd after
still_at_end before after piece empty end read =
    subst IsAtEnd (read ∙ ap (λ (l : List ℕ). with_prefix l after) empty ∙ with_prefix-nil after) end

-- a piece read after a prefix is a longer prefix
pub took_piece : (first before after : Option (List ℕ)) (prefix into : List ℕ) (n most : ℕ) → first ≡ with_prefix prefix before
    → before ≡ with_prefix (take n into) after → length prefix + n ≤ most → TookAtMost most first after
took_piece first before after prefix into n most told read few = record {
  prefix = prefix ++ take n into;
  few = simp (length-append, length-take) (omega arith);
  rest = one_more_read first before after prefix (take n into) told read;
}
