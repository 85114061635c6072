use Rattle.std.proofs.Common.{◌≤◌, ◌+◌, ℕ, List, ◌∷◌, [], length, refl, ap, sym, subst, ◌∙◌, arith}
use Rattle.std.proofs.lemmas.Grind.{common_steps}
use Rattle.std.proofs.lemmas.Result.{err_from_is_err_and}
use Rattle.std.proofs.lemmas.List.Elements.{All-same}
use Rattle.surw_base.specs.declared.limits.TheConstants.{STEPS}
use Rattle.order_text.specs.DrawsFile.{IsDrawsLine, IsOtherDraws}
use Rattle.order_text.specs.FileFault.{IsFirstWrongLine, IsOtherFile, fault_at}
use Rattle.order_text.specs.Lines.{lines_of}
use Rattle.order_text.proofs.OtherDraws.{other-empty, other-line_number, other-draws}
use Rattle.order_text.proofs.Lines.{empty-lines}
use Rattle.order_text.proofs.OffsetsLines.{few-offsets}
use Rattle.order_text.proofs.WrongLines.{one-asked, wrong-missing, wrong-list}
use Rattle.order_text.proofs.draws_file.read_draws_file.Goals as goal

pub returns-then-is_empty-clause-only : goal.returns-then-is_empty-clause-only
returns-then-is_empty-clause-only c = λ counts split form.
    let none = empty-lines c.args.bytes.now (λ some. grind (arith, common_steps)) in
    absurd (omega (arith, ap length form.lines, ap length none))

pub returns-then-is_empty-clause-wrong : goal.returns-then-is_empty-clause-wrong
returns-then-is_empty-clause-wrong c = other-empty c.args.bytes.now (empty-lines c.args.bytes.now (λ some. grind (arith, common_steps)))

pub returns-then-is_empty-2-clause-only : goal.returns-then-is_empty-2-clause-only
returns-then-is_empty-2-clause-only c = λ counts split form.
    let none = empty-lines c.first_line.result.1.now (λ some. grind (arith, common_steps)) in
    absurd (omega (arith, ap length form.lines, ap length c.first_line.ensures, ap length none))

pub returns-then-is_empty-2-clause-wrong : goal.returns-then-is_empty-2-clause-wrong
returns-then-is_empty-2-clause-wrong c =
    let none = empty-lines c.first_line.result.1.now (λ some. grind (arith, common_steps)) in
    let first = c.first_line.result.0.now in
    let counts : List ℕ = c.in-Ok.counts in
    let found = c.in-Ok.ensures.found in
    let IsAsked : ℕ → List ℕ → Type 0 = IsDrawsLine (length counts) in
    other-line_number c.args.bytes.now first counts [] 2 (c.first_line.ensures ∙ ap (λ (l : List (List ℕ)). first ∷ l) none)
    (λ other is allowed. c.in-Ok.ensures.only other is allowed)
    (wrong-missing IsAsked (length counts + 2) 2 (first ∷ []) (first ∷ []) refl (one-asked IsAsked first (counts, found.0, found.1)) (omega arith) (omega arith))

pub returns-in-Err-read_order-clause-wrong : goal.returns-in-Err-read_order-clause-wrong
returns-in-Err-read_order-clause-wrong c =
    let first = c.first_line.result.0.now in
    let second = c.first_line-2.result.0.now in
    let rest = lines_of c.first_line-2.result.1.now in
    let counts : List ℕ = c.in-Ok.counts in
    let found = c.in-Ok.ensures.found in
    let IsAsked : ℕ → List ℕ → Type 0 = IsDrawsLine (length counts) in
    subst (IsOtherFile (IsOtherDraws c.args.bytes.now)) (sym c.at-in-Err-read_order.ensures)
    (other-draws c.args.bytes.now first counts (second ∷ rest) (fault_at c.in-Err-read_order.fault 2)
    (c.first_line.ensures ∙ ap (λ (l : List (List ℕ)). first ∷ l) c.first_line-2.ensures)
    (λ other is allowed. c.in-Ok.ensures.only other is allowed)
    (wrong-list IsAsked (length counts + 2) 2 1 (first ∷ second ∷ rest) (first ∷ []) second rest c.in-Err-read_order.fault refl refl
    (one-asked IsAsked first (counts, found.0, found.1)) (λ right. c.in-Err-read_order.ensures.only right.0 right.1 right.2) refl))

pub returns-in_err-offsets-clause-wrong : goal.returns-in_err-offsets-clause-wrong
returns-in_err-offsets-clause-wrong c =
    let first = c.first_line.result.0.now in
    let second = c.first_line-2.result.0.now in
    let rest = lines_of c.first_line-2.result.1.now in
    let counts : List ℕ = c.in-Ok.counts in
    let found = c.in-Ok.ensures.found in
    let order = c.in-Ok-read_order.ensures.found in
    let p = err_from_is_err_and c.from_residual.result c.from_residual.ensures.1 in
    let fault = c.in_err-offsets.field-0.0 in
    rw (p.1, p.2) (other-draws c.args.bytes.now first counts (second ∷ rest) fault
    (c.first_line.ensures ∙ ap (λ (l : List (List ℕ)). first ∷ l) c.first_line-2.ensures)
    (λ other is allowed. c.in-Ok.ensures.only other is allowed)
    (subst (λ (n : ℕ). IsOtherFile (IsFirstWrongLine (IsDrawsLine n) (n + 2) (first ∷ second ∷ rest)) fault) c.threads.ensures.number
    (c.in_err-offsets.ensures.wrong first second (counts, found.0, found.1) (c.in-Ok-read_order.order.items, order.0, order.1))))

pub returns-clause-offsets : goal.returns-clause-offsets
returns-clause-offsets c =
    All-same (λ (list : List ℕ). length list ≤ STEPS) _ _ c.in_ok-split.ensures.offsets (few-offsets _ _ _ c.in_ok-offsets.ensures.found)
