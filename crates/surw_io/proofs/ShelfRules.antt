-- Looking a file up on the shelf in memory, reading what is left of it, and what creates and writes leave alone.
use Rattle.std.proofs.Common.{◌≡◌, ℕ, ◌+◌, ◌-◌, ◌<◌, ◌≤◌, Bool, true, false, if◌then◌else◌, List, [], ◌++◌, length, get_or, take, drop, Option, Some, None, String, Vec, string_bytes, refl, ap, sym, subst, ◌∙◌, arith}
use Rattle.std.specs.declared.alloc.Global.{Global}
use Rattle.std.proofs.lemmas.List.{take-append-drop, drop-drop, take-append-le, take-take, length-take-le, get_or-map, drop_all}
use Rattle.surw_io.specs.Calls.{is_listed}
use Rattle.surw_io.specs.Content.{Missing, content_of}
use Rattle.surw_io.specs.MemShelf.{ShelfState, named_bytes, file_of, entry, open_gives, read_gives, write_gives, started, wrote, refused, left_at, bytes_at, IsPlace}

-- what an open gives is the file of the name
pub given_file : (fails : Bool) (file : Option (List ℕ)) (left : List ℕ) → (if fails then None else file) ≡ Some left → file ≡ Some left
given_file true file left e = cc
given_file false file left e = e

pub open_finds : (shelf : ShelfState) (name left : List ℕ) → open_gives shelf name ≡ Some left → file_of shelf.files name ≡ Some left
open_finds shelf name left e = given_file _ _ _ e

-- so it is there
pub open_there : (shelf : ShelfState) (name left : List ℕ) → open_gives shelf name ≡ Some left → Some (entry (file_of shelf.files name)) ≡ Some Missing → ⊥
open_there shelf name left e missing = let found = ap entry (open_finds shelf name left e) in cc

pub open_content : (shelf : ShelfState) (name left : List ℕ) → open_gives shelf name ≡ Some left → Some left ≡ content_of (Some (entry (file_of shelf.files name)))
open_content shelf name left e = sym (ap (λ (file : Option (List ℕ)). content_of (Some (entry file))) (open_finds shelf name left e))

-- what a read gives is the number behind the test
given_count : (fails : Bool) (m n : ℕ) → (if fails then None else Some m) ≡ Some n → m ≡ n
given_count true m n e = cc
given_count false m n e = cc

-- no more is read than was asked
pub read_within : (shelf : ShelfState) (asked n : ℕ) → read_gives shelf asked ≡ Some n → n ≤ asked
read_within shelf asked n e = let same = given_count _ _ _ e in omega arith

-- no more is written than was offered
pub write_within : (shelf : ShelfState) (offered n : ℕ) → write_gives shelf offered ≡ Some n → n ≤ offered
write_within shelf offered n e = let same = given_count _ _ _ e in omega arith

-- the half that is read is as it was
pub record ReadsAlike (before now : ShelfState) : Type 0 where
  pub files : now.files ≡ before.files
  pub left : now.left ≡ before.left
  pub opens : now.opens ≡ before.opens
  pub in_faults : now.in_faults ≡ before.in_faults

-- so it is after a create
pub started_alike : (before now : ShelfState) (name : List ℕ) → now ≡ started before name → ReadsAlike before now
started_alike before now name e = subst (ReadsAlike before) (sym e) (record { files = refl; left = refl; opens = refl; in_faults = refl })

-- and after a write
pub wrote_alike : (before now : ShelfState) (bytes : List ℕ) → now ≡ wrote before bytes → ReadsAlike before now
wrote_alike before now bytes e = subst (ReadsAlike before) (sym e) (record { files = refl; left = refl; opens = refl; in_faults = refl })

-- and after either failed
pub refused_alike : (before now : ShelfState) → now ≡ refused before → ReadsAlike before now
refused_alike before now e = subst (ReadsAlike before) (sym e) (record { files = refl; left = refl; opens = refl; in_faults = refl })

-- the whole file is left
pub drop-none : (bytes : List ℕ) (n : ℕ) → n ≡ length bytes → drop (length bytes - n) bytes ≡ bytes
drop-none bytes n e = let none : length bytes - n ≡ 0 = omega (arith, e) in ap (λ (k : ℕ). drop k bytes) none

-- with fewer bytes left, those at the front are gone
pub left_at-less : (files : List (List ℕ × List ℕ)) (opened : Option ℕ) (left n : ℕ) → IsPlace files opened left → n ≤ left
    → left_at files opened (left - n) ≡ drop n (left_at files opened left)
left_at-less files None left n is few = sym (drop_all n [] (omega arith))
left_at-less files (Some place) left n is few =
    let bytes : List ℕ = bytes_at files place in
    let sum : (length bytes - left) + n ≡ length bytes - (left - n) = omega (arith, is.1) in
    sym (drop-drop n (length bytes - left) bytes ∙ ap (λ (k : ℕ). drop k bytes) sum)

-- an open that isn't listed gives the file of the name
pub open_ok : (shelf : ShelfState) (name : List ℕ) (files : List (List ℕ × List ℕ)) (bytes left : List ℕ) → is_listed shelf.fails shelf.calls ≡ false
    → shelf.files ≡ files → file_of files name ≡ Some bytes → left ≡ bytes → open_gives shelf name ≡ Some left
open_ok shelf name files bytes left passes same found whole =
    ap (λ (fails : Bool). if fails then None else file_of shelf.files name) passes ∙ ap (λ (all : List (List ℕ × List ℕ)). file_of all name) same
    ∙ found ∙ ap Some (sym whole)

-- a file of the list and its bytes
pub file_read : (files : List (String Global × Vec ℕ Global)) (place : ℕ) (file : String Global × Vec ℕ Global) → place < length files
    → file ≡ get_or files place file → file.1.items ≡ bytes_at (named_bytes files) place
file_read files place file within is =
    ap (λ (f : String Global × Vec ℕ Global). f.1.items) is
    ∙ sym (ap (λ (f : List ℕ × List ℕ). f.1) (get_or-map (λ (f : String Global × Vec ℕ Global). (string_bytes f.0, f.1.items)) files place file ([], []) within))

-- what was read and what is left then are what was left
pub read_moves : (files : List (List ℕ × List ℕ)) (opened : Option ℕ) (left n : ℕ) (old copied into : List ℕ) → IsPlace files opened left → n ≤ left
    → length (left_at files opened left) ≡ left → old ≡ left_at files opened left → copied ≡ take n (left_at files opened left)
    → old ≡ take n (copied ++ into) ++ left_at files opened (left - n)
read_moves files opened left n old copied into is few long same copy =
    let rest : List ℕ = left_at files opened left in
    let some : length copied ≡ n = ap length copy ∙ length-take-le n rest (omega (arith, long)) in
    let prefix : take n (copied ++ into) ≡ take n rest =
    take-append-le n copied into (omega (arith, some)) ∙ ap (take n) copy ∙ take-take n n rest (omega arith) in
    same ∙ sym (take-append-drop n rest) ∙ (λ i. sym prefix i ++ sym (left_at-less files opened left n is few) i)
