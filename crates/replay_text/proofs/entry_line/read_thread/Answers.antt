use Rattle.std.proofs.Common.{◌≡◌, ◌∙◌, Some, None, List, ℕ, [], ◌∷◌, drop, arith, ap, sym}
use Rattle.std.proofs.lemmas.Bool.Decides.{Decides-eqb}
use Rattle.std.proofs.lemmas.Grind.{common_steps}
use Rattle.std.proofs.lemmas.Slice.Eq.{strip_prefix_is}
use Rattle.surw_base.proofs.Prefixes.{number-again, number-some}
use Rattle.surw_base.specs.Number.{BeginsWithNoDigit}
use Rattle.replay_text.proofs.entry_line.read_thread.Goals as goal

no-digit : (rest : List ℕ) → BeginsWithNoDigit (32 ∷ rest)
no-digit rest digit = omega (arith, digit)

pub returns-in-None-clause-only : goal.returns-in-None-clause-only
returns-in-None-clause-only c = λ thread rest small is.
    number-some c.args.line.now (32 ∷ rest) thread is (omega (arith, small)) (no-digit rest) c.in-None.ensures

pub returns-then-number-clause-only : goal.returns-then-number-clause-only
returns-then-number-clause-only c = λ thread rest small is.
    let again = number-again c.args.line.now (32 ∷ rest) thread _ _ is (omega (arith, small)) (no-digit rest) c.in-Some.ensures in
    omega (arith, again.0, small, c.if-number.true)

pub returns-in-Some-strip_prefix-clause-only : goal.returns-in-Some-strip_prefix-clause-only
returns-in-Some-strip_prefix-clause-only c = λ thread rest small is.
    let again = number-again c.args.line.now (32 ∷ rest) thread _ _ is (omega (arith, small)) (no-digit rest) c.in-Some.ensures in
    let behind = strip_prefix_is Decides-eqb c.split_at.result.1.now (32 ∷ []) (Some c.in-Some-strip_prefix.text) c.in-Some-strip_prefix.ensures.cases in
    let whole : c.split_at.result.1.now ≡ 32 ∷ rest = c.split_at.ensures.back ∙ again.1 in
    let same : c.unwrap.result ≡ c.in-Some.found.0 = grind (arith, common_steps) in
    (same ∙ again.0, ap (drop 1) (sym behind ∙ whole))

pub returns-in-None-strip_prefix-clause-only : goal.returns-in-None-strip_prefix-clause-only
returns-in-None-strip_prefix-clause-only c = λ thread rest small is.
    let again = number-again c.args.line.now (32 ∷ rest) thread _ _ is (omega (arith, small)) (no-digit rest) c.in-Some.ensures in
    let other = strip_prefix_is Decides-eqb c.split_at.result.1.now (32 ∷ []) None c.in-None-strip_prefix.ensures.cases in
    other rest (c.split_at.ensures.back ∙ again.1)
