-- Rooms, an offset at a time.
use Rattle.std.proofs.Common.{◌≡◌, ℕ, zero, suc, ◌+◌, ◌-◌, ◌<◌, List, [], ◌∷◌, length, get_or, drop, refl, arith}
use Rattle.std.proofs.lemmas.List.{length-drop, get_or-drop}
use Rattle.draw_split.specs.Rooms.{IsInRoom}

pub room-nil : (count : ℕ) → count ≡ 0 → IsInRoom count []
room-nil count none = record { full = omega arith; each = λ j lt. absurd (omega arith) }

room-each : (count offset : ℕ) (offsets : List ℕ) → offset < count → IsInRoom (count - 1) offsets
    → (j : ℕ) → j < length (offset ∷ offsets) → get_or (offset ∷ offsets) j 0 + j < count
room-each count offset offsets first later zero lt = omega arith
room-each count offset offsets first later (suc j) lt = omega (arith, later.each j (omega arith))

-- one offset more in front
pub room-cons : (count offset : ℕ) (offsets : List ℕ) → offset < count → IsInRoom (count - 1) offsets → IsInRoom count (offset ∷ offsets)
room-cons count offset offsets first later = record {
  full = omega (arith, later.full);
  each = room-each count offset offsets first later;
}

-- the first offset, and those after it
pub room-first : (count : ℕ) (offsets : List ℕ) → IsInRoom count offsets → 0 < count → get_or offsets 0 0 < count
room-first count offsets room some = omega (arith, room.each 0 (omega (arith, room.full)))

pub room-rest : (count : ℕ) (offsets : List ℕ) → IsInRoom count offsets → 0 < count → IsInRoom (count - 1) (drop 1 offsets)
room-rest count offsets room some = record {
  full = omega (arith, length-drop 1 offsets, room.full);
  each = λ j lt. omega (arith, get_or-drop 1 offsets j 0, room.each (1 + j) (omega (arith, length-drop 1 offsets)));
}

pub first-rest : (xs : List ℕ) → 0 < length xs → get_or xs 0 0 ∷ drop 1 xs ≡ xs
first-rest [] lt = absurd (omega arith)
first-rest (x ∷ xs) lt = refl
