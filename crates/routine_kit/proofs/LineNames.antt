-- The line that a text names.
use Rattle.std.proofs.Common.{◌≡◌, ℕ, ◌+◌, ◌-◌, ◌^◌, ◌<◌, ◌≤◌, ◌==◌, ◌&&◌, not, cond, Bool, true, false, List, [], ◌∷◌, ◌++◌, length, get_or, map, take, drop, All, Option, Some, None, IsSome, IfSome, slice_get, codes, refl, ap, sym, subst, ◌∙◌, arith}
use Rattle.std.proofs.lemmas.Bool.{and_parts, and_from, ltb-true, lt-ltb, leb-true, le-leb, ne_eqb}
use Rattle.std.proofs.lemmas.List.{append-nil, take_at, drop_at}
use Rattle.std.proofs.lemmas.List.Elements.{All-nil, All-cons, All-head, All-tail, All-from_recursion, recursion_from_All}
use Rattle.std.specs.Char.{is_ascii_digit}
use Rattle.std.specs.List.{find, list_all, position_or_len, AllByRecursion}
use Rattle.std.specs.Fmt.{decimal}
use Rattle.std.specs.Str.{bytes_eq}
use Rattle.std.specs.Str.Parse.{digits_value}
use Rattle.surw_base.proofs.Searches.{found-at, found-left, found-map, found-right, read-found}
use Rattle.surw_base.proofs.Tokens.{NoSpace, tokens-prefix, tokens-last, value-decimal, same-bytes, bytes-same}
use Rattle.surw_base.specs.declared.limits.TheConstants.{LINES}
use Rattle.surw_base.specs.Tokens.{tokens}
use Rattle.routine_kit.specs.declared.line.Line.{Line}
use Rattle.routine_kit.specs.declared.line.Line.TheVariants.{Act, Plus, Skip}
use Rattle.routine_kit.specs.declared.operand.Operand.{Operand}
use Rattle.routine_kit.specs.declared.operand.Operand.TheVariants.{Num, Reg}
use Rattle.routine_kit.specs.declared.shape.Shape.{Shape}
use Rattle.routine_kit.specs.declared.shape.Shape.TheVariants.{Acquire}
use Rattle.routine_kit.specs.declared.token.Token.{Token}
use Rattle.routine_kit.specs.declared.token.Token.TheVariants.{Value, If, Equal, Unequal}
use Rattle.routine_kit.specs.Line.{IsLine, IsOperand, operands_of}
use Rattle.routine_kit.specs.LineText.{IsLineText, IsToken, into_tokens, line_text, line_tokens, line_verb, shape_verb, shapes, token_text, tokens_text}
use Rattle.routine_kit.specs.LineOf.{is_line_text, is_short, is_token, line_of, lines, operands, sign_of_part, silent_lines, target, token_of}
use Rattle.routine_kit.proofs.Replies.{fits-one, reply-fits}
use Rattle.routine_kit.proofs.Tokens.{cut, first-digit, no-space}

-- the tests tell what fits
token-test : (token : Token) → IsToken token → is_token token ≡ true
token-test (Value (Num n)) small = lt-ltb n (2 ^ 64) small
token-test (Value (Reg r)) small = lt-ltb r 4 small
token-test _ small = refl

test-token : (token : Token) → is_token token ≡ true → IsToken token
test-token (Value (Num n)) is = ltb-true n (2 ^ 64) is
test-token (Value (Reg r)) is = ltb-true r 4 is
test-token _ is = tt

tokens-test : (ts : List Token) → All IsToken ts → list_all is_token ts ≡ true
tokens-test [] all = refl
tokens-test (t ∷ ts) all = and_from (is_token t) (list_all is_token ts) (token-test t (All-head IsToken t ts all)) (tokens-test ts (All-tail IsToken t ts all))

test-tokens : (ts : List Token) → list_all is_token ts ≡ true → All IsToken ts
test-tokens [] is = All-nil IsToken
test-tokens (t ∷ ts) is =
    let p = and_parts (is_token t) (list_all is_token ts) is in All-cons IsToken t ts (test-token t p.0) (test-tokens ts p.1)

short-test : (line : Line) → IsLine line → is_short line ≡ true
short-test (Skip over reg equal with) fits = le-leb over LINES fits.0
short-test (Act shape into) fits = refl
short-test (Plus reg by) fits = refl

skip-fits : (over reg : ℕ) (sign : Token) (with : Operand) → All IsToken (Value (Num over) ∷ If ∷ Value (Reg reg) ∷ sign ∷ Value with ∷ []) → (reg < 4) × IsOperand with
skip-fits over reg sign with all =
    let parts = recursion_from_All IsToken (Value (Num over) ∷ If ∷ Value (Reg reg) ∷ sign ∷ Value with ∷ []) all in
    (parts.1.1.0, fits-one with parts.1.1.1.1.0)

line-fits : (line : Line) → All IsToken (line_tokens line) → is_short line ≡ true → IsLine line
line-fits (Act shape into) all short = reply-fits (line_tokens (Act shape into)) (operands_of shape) into refl all
line-fits (Plus reg by) all short =
    (All-head IsToken (Value (Reg reg)) (Value by ∷ []) all, fits-one by (All-head IsToken (Value by) [] (All-tail IsToken (Value (Reg reg)) (Value by ∷ []) all)))
line-fits (Skip over reg true with) all short = let p = skip-fits over reg Equal with all in (leb-true over LINES short, p.0, p.1)
line-fits (Skip over reg false with) all short = let p = skip-fits over reg Unequal with all in (leb-true over LINES short, p.0, p.1)

pub test-from : (text : List ℕ) (line : Line) → IsLineText text line → is_line_text text line ≡ true
test-from text line is =
    and_from (bytes_eq (line_text line) text) (list_all is_token (line_tokens line) && is_short line) (same-bytes (line_text line) text is.text)
    (and_from (list_all is_token (line_tokens line)) (is_short line) (tokens-test (line_tokens line) is.below) (short-test line is.fits))

pub from-test : (text : List ℕ) (line : Line) → is_line_text text line ≡ true → IsLineText text line
from-test text line is =
    let p = and_parts (bytes_eq (line_text line) text) (list_all is_token (line_tokens line) && is_short line) is in
    let q = and_parts (list_all is_token (line_tokens line)) (is_short line) p.1 in
    let all = test-tokens (line_tokens line) q.0 in
    record { text = bytes-same (line_text line) text p.0; below = all; fits = line-fits line all q.1 }

-- a token is read back
token-again : (token : Token) → IsToken token → token_of (token_text token) ≡ token
token-again (Value (Num n)) small =
    let first = get_or (decimal n) 0 0 in
    let digit = first-digit n small in
    let other : (first == 114) ≡ false = ne_eqb first 114 (λ e. omega (arith, digit, e)) in
    let is : is_ascii_digit first ≡ true = and_from _ _ (le-leb 48 first digit.0) (le-leb first 57 digit.1) in
    let number = Value (Num (digits_value 10 (decimal n))) in
    ap (λ b. cond b (Value (Reg (get_or (decimal n) 1 0 - 48))) (cond (is_ascii_digit first) number (sign_of_part (decimal n)))) other
    ∙ ap (λ b. cond b number (sign_of_part (decimal n))) is ∙ ap (λ k. Value (Num k)) (value-decimal n small)
token-again (Value (Reg r)) small = let e : 48 + r - 48 ≡ r = omega arith in ap (λ k. Value (Reg k)) e
token-again _ small = refl

tokens-again : (ts : List Token) → All IsToken ts → map token_of (map token_text ts) ≡ ts
tokens-again [] all = refl
tokens-again (t ∷ ts) all = λ i. token-again t (All-head IsToken t ts all) i ∷ tokens-again ts (All-tail IsToken t ts all) i

-- the parts of a text of tokens
parts-again : (verb : List ℕ) (ts : List Token) → NoSpace verb → All IsToken ts → tokens (verb ++ tokens_text ts) ≡ verb ∷ map token_text ts
parts-again verb [] none all = ap tokens (append-nil verb) ∙ tokens-last verb none
parts-again verb (t ∷ ts) none all =
    tokens-prefix verb (token_text t ++ tokens_text ts) none
    ∙ ap (λ l. verb ∷ l) (parts-again (token_text t) ts (no-space t (All-head IsToken t ts all)) (All-tail IsToken t ts all))

-- no verb has a space
abbrev unspaced : List ℕ → Bool
unspaced bytes = list_all (λ b. not (b == 32)) bytes

plain : (bytes : List ℕ) → unspaced bytes ≡ true → AllByRecursion (λ b. (b == 32) ≡ false) bytes
plain [] is = tt
plain (b ∷ bs) is = let p = and_parts (not (b == 32)) (unspaced bs) is in (grind (arith, p.0), plain bs p.1)

shape-plain : (shape : Shape) → unspaced (shape_verb shape) ≡ true
shape-plain (Acquire l) = refl
shape-plain _ = refl

no-space-in : (bytes : List ℕ) → unspaced bytes ≡ true → NoSpace bytes
no-space-in bytes is = All-from_recursion (λ b. (b == 32) ≡ false) bytes (plain bytes is)

verb-plain : (line : Line) → NoSpace (line_verb line)
verb-plain (Act shape into) = no-space-in (shape_verb shape) (shape-plain shape)
verb-plain (Plus reg by) = no-space-in (codes "plus") refl
verb-plain (Skip over reg equal with) = no-space-in (codes "skip") refl

-- the tokens of a line's text are the line's
behind-verb : (line : Line) → All IsToken (line_tokens line) → map token_of (drop 1 (tokens (line_text line))) ≡ line_tokens line
behind-verb line all =
    ap (λ l. map token_of (drop 1 l)) (parts-again (line_verb line) (line_tokens line) (verb-plain line) all) ∙ tokens-again (line_tokens line) all

-- its operands and its register are found among them
operands-again : (ops : List Operand) (into : Option ℕ) → operands (map Value ops ++ into_tokens into) ≡ ops
operands-again [] None = refl
operands-again [] (Some reg) = refl
operands-again (op ∷ ops) into = ap (λ l. op ∷ l) (operands-again ops into)

target-again : (ops : List Operand) (into : Option ℕ) → target (map Value ops ++ into_tokens into) ≡ into
target-again [] None = refl
target-again [] (Some reg) = refl
target-again (op ∷ ops) into = target-again ops into

-- the place of a shape among those of its operands
abbrev place : Shape → ℕ
place shape = position_or_len (λ other. bytes_eq (shape_verb other) (shape_verb shape)) (shapes (operands_of shape))

shape-at : (shape : Shape) → slice_get (shapes (operands_of shape)) (place shape) ≡ Some shape
shape-at (Acquire l) = refl
shape-at _ = refl

silent : (test : Line → Bool) (ts : List Token) (line : Line) → slice_get (silent_lines ts) 0 ≡ Some line → test line ≡ true → IsSome (find test (lines ts))
silent test ts line at passes =
    found-right test (map (λ s. Act s (target ts)) (shapes (operands ts))) (silent_lines ts) (found-at test (silent_lines ts) 0 line at passes)

-- so the line is among those that they make
among : (test : Line → Bool) (line : Line) → test line ≡ true → IsSome (find test (lines (line_tokens line)))
among test (Act shape into) passes =
    let ts = line_tokens (Act shape into) in
    found-left test (map (λ s. Act s (target ts)) (shapes (operands ts))) (silent_lines ts)
    (found-map test (λ s. Act s (target ts)) (shapes (operands ts)) (place shape) shape
    (ap (λ ops. slice_get (shapes ops) (place shape)) (operands-again (operands_of shape) into) ∙ shape-at shape)
    (ap (λ reg. test (Act shape reg)) (target-again (operands_of shape) into) ∙ passes))
among test (Plus reg by) passes = silent test (line_tokens (Plus reg by)) (Plus reg by) refl passes
among test (Skip over reg true with) passes = silent test (line_tokens (Skip over reg true with)) (Skip over reg true with) refl passes
among test (Skip over reg false with) passes = silent test (line_tokens (Skip over reg false with)) (Skip over reg false with) refl passes

-- a text of a line is that of one among those that its tokens make
found : (text : List ℕ) (line : Line) → IsLineText text line → IsSome (find (is_line_text text) (lines (map token_of (drop 1 (tokens text)))))
found text line is =
    subst (λ ts. IsSome (find (is_line_text text) (lines ts))) (sym (ap (λ l. map token_of (drop 1 (tokens l))) is.text ∙ behind-verb line is.below))
    (among (is_line_text text) line (test-from text line is))

-- so a reader of lines answers the one that the text names
pub line-read : (text : List ℕ) (answer : Option Line) → IfSome answer (IsLineText text)
    → ((line : Line) → IsLineText text line → answer ≡ Some line) → answer ≡ line_of text
unfolding line_of
line-read text None made only =
    read-found (is_line_text text) (lines (map token_of (drop 1 (tokens text)))) None tt (λ line passes. only line (from-test text line passes))
line-read text (Some line) made only =
    read-found (is_line_text text) (lines (map token_of (drop 1 (tokens text)))) (Some line) (found text line made)
    (λ other passes. only other (from-test text other passes))

pub none_read : (text : List ℕ) → ((line : Line) → IsLineText text line → ⊥) → None ≡ line_of text
none_read text none = line-read text None tt (λ line is. absurd (none line is))

-- the text of a line is cut behind its verb
pub split-line : (text verb rest : List ℕ) (n : ℕ) (line : Line) → IsLineText text line → n ≡ position_or_len (λ b. b == 32) text
    → verb ≡ take n text → rest ≡ drop n text → (verb ≡ line_verb line) × (rest ≡ tokens_text (line_tokens line))
split-line text verb rest n line is place front back =
    let behind = tokens_text (line_tokens line) in
    let long : n ≡ length (line_verb line) = place ∙ ap (position_or_len (λ b. b == 32)) is.text ∙ cut (line_verb line) (line_tokens line) (verb-plain line) in (
      front ∙ ap (take n) is.text ∙ take_at (line_verb line) behind n (sym long),
      back ∙ ap (drop n) is.text ∙ drop_at (line_verb line) behind n (sym long),
    )

-- a line has at most five tokens behind its verb
few-into : (into : Option ℕ) → length (into_tokens into) ≤ 2
few-into None = omega arith
few-into (Some reg) = omega arith

few-behind : (shape : Shape) (into : Option ℕ) → length (line_tokens (Act shape into)) ≤ 5
few-behind (Acquire l) into = omega (arith, few-into into)
few-behind shape into = omega (arith, few-into into)

pub few-tokens : (line : Line) → length (line_tokens line) ≤ 5
few-tokens (Act shape into) = few-behind shape into
few-tokens (Plus reg by) = omega arith
few-tokens (Skip over reg equal with) = omega arith

-- a line that is made of the verb and the tokens of a text has it
pub made-text : (text verb rest : List ℕ) (ts : List Token) (answer : Option Line) → text ≡ verb ++ rest → rest ≡ tokens_text ts → All IsToken ts
    → IfSome answer (λ line. (verb ≡ line_verb line) × (ts ≡ line_tokens line) × IsLine line) → IfSome answer (IsLineText text)
made-text text verb rest ts None is read all made = tt
made-text text verb rest ts (Some line) is read all made = record {
  text = is ∙ (λ i. made.0 i ++ (read ∙ ap tokens_text made.1) i);
  below = subst (λ (l : List Token). All IsToken l) made.1 all;
  fits = made.2;
}
