use Rattle.std.proofs.Common.{◌≡◌, ◌∙◌, Some, None, Bool, true, false, not, ◌++◌, drop, codes, ap, sym, refl}
use Rattle.std.proofs.lemmas.Bool.Decides.{Decides-eqb}
use Rattle.std.proofs.lemmas.Bool.{false≢true}
use Rattle.std.proofs.lemmas.Option.{same_Some}
use Rattle.std.proofs.lemmas.Slice.Eq.{strip_prefix_is}
use Rattle.std.specs.Str.{bytes_eq}
use Rattle.surw_base.proofs.Tokens.{same-bytes, bytes-same}
use Rattle.hex.proofs.HexLemmas.{decode_of-encode_lower, decode_of-ok}
use Rattle.hex.specs.Hex.{encode_lower}
use Rattle.replay_text.proofs.NameTexts.{name-again, none-named}
use Rattle.replay_text.proofs.name_line.read_name.Goals as goal

not-false : (b : Bool) → not b ≡ false → b ≡ true
not-false true is = refl
not-false false is = absurd (false≢true (sym is))

pub returns-in-None : goal.returns-in-None
returns-in-None c = none-named c.args.line.now (λ name is.
    strip_prefix_is Decides-eqb c.args.line.now (codes "scenario ") None c.in-None.ensures.cases (encode_lower name) is.spelled)

pub returns-in-None-decoded : goal.returns-in-None-decoded
returns-in-None-decoded c = none-named c.args.line.now (λ name is.
    let line = strip_prefix_is Decides-eqb c.args.line.now (codes "scenario ") (Some c.in-Some.digits) c.in-Some.ensures.cases in
    let digits : c.in-Some.digits.now ≡ encode_lower name = ap (drop 9) (sym line ∙ is.spelled) in
    let none = c.in-None-decoded.ensures.only name is.fits.long (rw digits (decode_of-encode_lower name is.fits.bytes)) in
    cc)

pub returns-then-ne : goal.returns-then-ne
returns-then-ne c = none-named c.args.line.now (λ name is.
    let line = strip_prefix_is Decides-eqb c.args.line.now (codes "scenario ") (Some c.in-Some.digits) c.in-Some.ensures.cases in
    let digits : c.in-Some.digits.now ≡ encode_lower name = ap (drop 9) (sym line ∙ is.spelled) in
    let some = c.in-Some-decoded.ensures.only name is.fits.long (rw digits (decode_of-encode_lower name is.fits.bytes)) in
    let same : c.as_slice.result.now ≡ c.in-Some.digits.now =
    c.as_slice.ensures ∙ c.name_digits.ensures ∙ ap encode_lower (same_Some c.in-Some-decoded.name name some) ∙ sym digits in
    let equal : bytes_eq c.in-Some.digits.now c.as_slice.result.now ≡ true = same-bytes c.in-Some.digits.now c.as_slice.result.now same in
    false≢true (sym (c.ne.ensures ∙ ap not equal) ∙ c.if-ne.true))

pub returns-else-ne : goal.returns-else-ne
returns-else-ne c =
    let name = c.in-Some-decoded.name in
    let line = strip_prefix_is Decides-eqb c.args.line.now (codes "scenario ") (Some c.in-Some.digits) c.in-Some.ensures.cases in
    let digits : c.in-Some.digits.now ≡ encode_lower name =
    sym (bytes-same c.in-Some.digits.now c.as_slice.result.now (not-false (bytes_eq c.in-Some.digits.now c.as_slice.result.now) (sym c.ne.ensures ∙ c.if-ne.false)))
    ∙ c.as_slice.ensures ∙ c.name_digits.ensures in
    sym (name-again c.args.line.now name (record {
      spelled = line ∙ ap (λ l. codes "scenario " ++ l) digits;
      fits = record { long = c.in-Some-decoded.ensures.long; bytes = (decode_of-ok c.in-Some.digits.now name c.in-Some-decoded.ensures.found).3 };
    }))
