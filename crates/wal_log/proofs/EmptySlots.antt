-- How many slots up to the mark are empty, after one of them is filled and after the mark rises.
use Rattle.std.proofs.Common.{◌≡◌, ℕ, ◌+◌, ◌-◌, ◌<◌, ◌≤◌, cond, false, List, length, take, drop, get_or, Option, None, Some, refl, ap, sym, ◌∙◌, arith}
use Rattle.std.specs.Prelude.{slice_set, is_none, is_some}
use Rattle.std.specs.List.{count_by}
use Rattle.std.proofs.Math.Seq.{take-add, take-set-lt}
use Rattle.std.proofs.lemmas.List.{get_or-take, length-set, length-take}
use Rattle.std.proofs.lemmas.List.Sums.{sum_by-append, sum_by-set}
use Rattle.wal_log.specs.Log.{log_of, IsKept}

-- a slot counts 1 where it is empty
abbrev counts : Option ℕ → ℕ
counts slot = cond (is_none slot) 1 0

empty-counts : (slot : Option ℕ) → is_some slot ≡ false → counts slot ≡ 1
empty-counts None empty = refl
empty-counts (Some value) empty = absurd (cc)

-- one slot fewer is empty
fewer_empty : (reserved : List (Option ℕ)) (mark place value : ℕ) (slot : Option ℕ) → place < mark → place < length reserved
    → slot ≡ get_or reserved place slot → is_some slot ≡ false
    → count_by is_none (take mark (slice_set reserved place (Some value))) + 1 ≡ count_by is_none (take mark reserved)
fewer_empty reserved mark place value slot marked there is empty =
    let within : place < length (take mark reserved) = omega (arith, length-take mark reserved, marked, there) in
    let here : counts (get_or (take mark reserved) place slot) ≡ 1 =
    ap counts (get_or-take mark reserved place slot marked ∙ sym is) ∙ empty-counts slot empty in
    omega (
      arith,
      ap (count_by is_none) (take-set-lt mark reserved place (Some value) marked),
      sum_by-set counts (take mark reserved) place (Some value) slot within,
      here,
    )

pub kept-filled : (capacity count slots : ℕ) (reserved : List (Option ℕ)) (mark place value : ℕ) (slot : Option ℕ) → place < mark
    → place < length reserved → slot ≡ get_or reserved place slot → is_some slot ≡ false → IsKept capacity count (log_of slots reserved mark)
    → IsKept capacity (count - 1) (log_of slots (slice_set reserved place (Some value)) mark)
kept-filled capacity count slots reserved mark place value slot marked there is empty kept =
    let many : length (slice_set reserved place (Some value)) ≡ length reserved = length-set reserved place (Some value) in
    record {
      room = kept.room;
      empty = omega (arith, kept.empty, fewer_empty reserved mark place value slot marked there is empty);
      sound = record {
        slots = kept.sound.slots;
        reserved = omega (arith, many, kept.sound.reserved);
        mark = omega (arith, many, kept.sound.mark);
      };
    }

-- the slots between the marks are looked at
more_marked : (reserved : List (Option ℕ)) (mark n : ℕ) → mark ≤ n
    → count_by is_none (take n reserved) ≡ count_by is_none (take mark reserved) + count_by is_none (take (n - mark) (drop mark reserved))
more_marked reserved mark n up =
    ap (λ k. count_by is_none (take k reserved)) (omega (arith, up)) ∙ ap (count_by is_none) (take-add mark (n - mark) reserved)
    ∙ sum_by-append counts (take mark reserved) (take (n - mark) (drop mark reserved))

pub kept-marked : (capacity count slots : ℕ) (reserved : List (Option ℕ)) (mark n more : ℕ) → mark ≤ n → n ≤ length reserved
    → more ≡ count_by is_none (take (n - mark) (drop mark reserved)) → IsKept capacity count (log_of slots reserved mark)
    → IsKept capacity (count + more) (log_of slots reserved n)
kept-marked capacity count slots reserved mark n more up there is kept = record {
  room = kept.room;
  empty = omega (arith, kept.empty, is, more_marked reserved mark n up);
  sound = record { slots = kept.sound.slots; reserved = kept.sound.reserved; mark = there };
}
