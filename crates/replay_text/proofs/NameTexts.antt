-- The name that a line gives.
use Rattle.std.proofs.Common.{◌≡◌, ℕ, ◌==◌, Bool, true, false, List, cond, length, drop, Option, Some, None, Result, Ok, Err, refl, ap, subst, ◌∙◌, arith}
use Rattle.std.proofs.lemmas.Bool.{and_parts, and_from, eq-eqb, eqb-true}
use Rattle.std.proofs.lemmas.Option.{none-some, same_Some}
use Rattle.std.specs.Str.{bytes_eq}
use Rattle.surw_base.proofs.Tokens.{same-bytes, bytes-same}
use Rattle.hex.specs.Hex.{decode_of, decode_sized}
use Rattle.hex.specs.declared.error.FromHexError.{FromHexError}
use Rattle.hex.proofs.HexLemmas.{decode_of-encode_lower, decode_of-ok, decode_sized-twice}
use Rattle.replay_text.specs.NameOf.{is_name_text, name_in, name_of}
use Rattle.replay_text.specs.SavedText.{IsNameText, name_text}

test-from : (text name : List ℕ) → IsNameText text name → is_name_text text name ≡ true
test-from text name is =
    and_from (bytes_eq (name_text name) text) (length name == 32) (same-bytes (name_text name) text is.spelled) (eq-eqb (length name) 32 is.fits.long)

-- the line of a name gives it
pub name-again : (text name : List ℕ) → IsNameText text name → name_of text ≡ Some name
unfolding name_of
name-again text name is =
    ap (name_in text) (ap (λ l. decode_of (drop 9 l)) is.spelled ∙ decode_of-encode_lower name is.fits.bytes)
    ∙ ap (λ b. cond b (Some name) None) (test-from text name is)

if-some : (b : Bool) (x y : List ℕ) → cond b (Some x) None ≡ Some y → (b ≡ true) × (x ≡ y)
if-some true x y is = (refl, same_Some x y is)
if-some false x y is = absurd (none-some y is)

given-in : (text name : List ℕ) (decoded : Result (List ℕ) FromHexError) → decode_of (drop 9 text) ≡ decoded → name_in text decoded ≡ Some name → IsNameText text name
given-in text name (Ok bytes) same is =
    let both = if-some (is_name_text text bytes) bytes name is in
    let parts = and_parts (bytes_eq (name_text bytes) text) (length bytes == 32) both.0 in
    let ok = decode_of-ok (drop 9 text) bytes same in
    subst (IsNameText text) both.1 (record {
      spelled = bytes-same (name_text bytes) text parts.0;
      fits = record { long = eqb-true (length bytes) 32 parts.1; bytes = ok.3 };
    })
given-in text name (Err fault) same is = absurd (none-some name is)

-- and a line that gives a name is its text
pub given-name : (text name : List ℕ) → name_of text ≡ Some name → IsNameText text name
unfolding name_of
given-name text name is = given-in text name (decode_of (drop 9 text)) refl is

none-given : (text : List ℕ) (answer : Option (List ℕ)) → name_of text ≡ answer → ((name : List ℕ) → IsNameText text name → ⊥) → None ≡ answer
none-given text None is none = refl
none-given text (Some name) is none = absurd (none name (given-name text name is))

-- a line that is the text of no name gives none
pub none-named : (text : List ℕ) → ((name : List ℕ) → IsNameText text name → ⊥) → None ≡ name_of text
none-named text none = none-given text (name_of text) refl none

-- digits that decode to as many bytes as there is room for
pub decode-room : (text name : List ℕ) (n : ℕ) → length name ≡ n → decode_of text ≡ Ok name → decode_sized text n ≡ Ok name
decode-room text name n long is =
    let ok = decode_of-ok text name is in
    decode_sized-twice text n (omega (arith, ok.2, long)) ∙ is
