-- The texts of two runs, and what some texts read as, worked out.
use Rattle.std.proofs.Common.{◌≡◌, ℕ, List, [], ◌∷◌, ◌++◌, codes, Ok, Err, refl}
use Rattle.std.specs.Fmt.{digits}
use Rattle.hex.specs.Hex.{decode_pairs, encode_with}
use Rattle.surw_base.specs.Tokens.{tokens}
use Rattle.event_class.specs.declared.event.Event.TheVariants.{Load, Store}
use Rattle.replay_text.specs.declared.replay_fault.ReplayFault.TheVariants.{Header, Line, NoEnd}
use Rattle.replay_text.specs.EntryOf.{entry_of}
use Rattle.replay_text.specs.Lines.{unfinished, whole_lines}
use Rattle.replay_text.specs.NameOf.{name_of}
use Rattle.replay_text.specs.Reading.{asked_of, entries_of, saved_of}
use Rattle.replay_text.specs.SavedRun.{SavedRun}
use Rattle.replay_text.specs.SavedText.{saved_text}

-- the SHA-256 of no bytes
abbrev name : List ℕ
name =
    0xe3 ∷ 0xb0 ∷ 0xc4 ∷ 0x42 ∷ 0x98 ∷ 0xfc ∷ 0x1c ∷ 0x14 ∷ 0x9a ∷ 0xfb ∷ 0xf4 ∷ 0xc8 ∷ 0x99 ∷ 0x6f ∷ 0xb9 ∷ 0x24
    ∷ 0x27 ∷ 0xae ∷ 0x41 ∷ 0xe4 ∷ 0x64 ∷ 0x9b ∷ 0x93 ∷ 0x4c ∷ 0xa4 ∷ 0x95 ∷ 0x99 ∷ 0x1b ∷ 0x78 ∷ 0x52 ∷ 0xb8 ∷ 0x55 ∷ []

abbrev lost_update : SavedRun
lost_update = record {
  name = name;
  entries = record { thread = 0; event = Load 0 } ∷ record { thread = 1; event = Load 0 }
      ∷ record { thread = 0; event = Store 0 1 } ∷ record { thread = 1; event = Store 0 1 } ∷ [];
}

abbrev front : List ℕ
front = codes "surw-replay 1\nscenario e3b0c44298fc1c149afbf4c8996fb92427ae41e4649b934ca495991b7852b855\n"

text-of-lost-update : saved_text lost_update ≡ front ++ codes "0 load 0\n1 load 0\n0 store 0 1\n1 store 0 1\nend 4\n"
unfolding saved_text encode_with digits
text-of-lost-update = refl

text-of-none : saved_text (record { name = name; entries = [] }) ≡ front ++ codes "end 0\n"
unfolding saved_text encode_with digits
text-of-none = refl

reads-as-lost-update : saved_of (front ++ codes "0 load 0\n1 load 0\n0 store 0 1\n1 store 0 1\nend 4\n") ≡ Ok lost_update
unfolding saved_of whole_lines unfinished name_of decode_pairs encode_with asked_of entries_of entry_of tokens digits
reads-as-lost-update = refl

-- the first line is another
another-version : saved_of (codes "surw-replay 2\nend 0\n") ≡ Err Header
unfolding saved_of
another-version = refl

-- the name has a capital digit
capital-digit : saved_of (codes "surw-replay 1\nscenario E3b0c44298fc1c149afbf4c8996fb92427ae41e4649b934ca495991b7852b855\nend 0\n") ≡ Err (Line 2)
unfolding saved_of whole_lines unfinished name_of decode_pairs encode_with asked_of
capital-digit = refl

-- a number has a leading zero
leading-zero : saved_of (front ++ codes "0 load 00\nend 1\n") ≡ Err (Line 3)
unfolding saved_of whole_lines unfinished name_of decode_pairs encode_with asked_of entries_of entry_of tokens digits
leading-zero = refl

-- there is no thread 16
no-thread : saved_of (front ++ codes "16 load 0\nend 1\n") ≡ Err (Line 3)
unfolding saved_of whole_lines unfinished name_of decode_pairs encode_with asked_of entries_of entry_of tokens digits
no-thread = refl

-- one entry is counted too many
other-count : saved_of (front ++ codes "0 load 0\nend 2\n") ≡ Err (Line 4)
unfolding saved_of whole_lines unfinished name_of decode_pairs encode_with asked_of entries_of entry_of tokens digits
other-count = refl

-- a byte follows the end
byte-behind : saved_of (front ++ codes "0 load 0\nend 1\n ") ≡ Err (Line 5)
unfolding saved_of whole_lines unfinished name_of decode_pairs encode_with asked_of entries_of entry_of tokens digits
byte-behind = refl

-- the text is cut off in the line of the end
cut-off : saved_of (front ++ codes "0 load 0\nend 1") ≡ Err NoEnd
unfolding saved_of whole_lines unfinished name_of decode_pairs encode_with asked_of entries_of entry_of tokens digits
cut-off = refl
