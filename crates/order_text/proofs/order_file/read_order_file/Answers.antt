use Rattle.std.proofs.Common.{ℕ, List, ◌∷◌, [], length, ap, ◌∙◌, arith}
use Rattle.std.proofs.lemmas.Grind.{common_steps}
use Rattle.order_text.specs.Lines.{lines_of}
use Rattle.order_text.specs.OrderFile.{IsOrderLine}
use Rattle.order_text.proofs.Lines.{empty-lines, some-line}
use Rattle.order_text.proofs.OrderFiles.{two-lines}
use Rattle.order_text.proofs.WrongLines.{none-asked, one-asked, two-asked, wrong-missing, wrong-extra}
use Rattle.order_text.proofs.order_file.read_order_file.Goals as goal

pub returns-then-is_empty-clause-only : goal.returns-then-is_empty-clause-only
returns-then-is_empty-clause-only c = λ counts draws form.
    let none = empty-lines c.args.bytes.now (λ some. grind (arith, common_steps)) in
    absurd (omega (arith, two-lines c.args.bytes.now counts draws form, ap length none))

pub returns-then-is_empty-clause-wrong : goal.returns-then-is_empty-clause-wrong
returns-then-is_empty-clause-wrong c =
    wrong-missing IsOrderLine 2 1 (lines_of c.args.bytes.now) [] (empty-lines c.args.bytes.now (λ some. grind (arith, common_steps))) (none-asked IsOrderLine) (omega arith) (omega arith)

pub returns-then-is_empty-2-clause-only : goal.returns-then-is_empty-2-clause-only
returns-then-is_empty-2-clause-only c = λ counts draws form.
    let none = empty-lines c.first_line.result.1.now (λ some. grind (arith, common_steps)) in
    absurd (omega (arith, two-lines c.args.bytes.now counts draws form, ap length c.first_line.ensures, ap length none))

pub returns-then-is_empty-2-clause-wrong : goal.returns-then-is_empty-2-clause-wrong
returns-then-is_empty-2-clause-wrong c =
    let none = empty-lines c.first_line.result.1.now (λ some. grind (arith, common_steps)) in
    let found = c.in-Ok.ensures.found in
    let first = c.first_line.result.0.now in
    wrong-missing IsOrderLine 2 2 (lines_of c.args.bytes.now) (first ∷ []) (c.first_line.ensures ∙ ap (λ (l : List (List ℕ)). first ∷ l) none)
    (one-asked IsOrderLine first (c.in-Ok.counts, found.0, found.1)) (omega arith) (omega arith)

pub returns-then-not-is_empty-clause-only : goal.returns-then-not-is_empty-clause-only
returns-then-not-is_empty-clause-only c = λ counts draws form.
    let some = some-line c.first_line-2.result.1.now (grind (arith, common_steps)) in
    absurd (omega (arith, two-lines c.args.bytes.now counts draws form, ap length c.first_line.ensures, ap length c.first_line-2.ensures, some))

pub returns-then-not-is_empty-clause-wrong : goal.returns-then-not-is_empty-clause-wrong
returns-then-not-is_empty-clause-wrong c =
    let some = some-line c.first_line-2.result.1.now (grind (arith, common_steps)) in
    let found = c.in-Ok.ensures.found in
    let first = c.first_line.result.0.now in
    let second = c.first_line-2.result.0.now in
    wrong-extra IsOrderLine 2 3 2 (lines_of c.args.bytes.now) (first ∷ second ∷ []) (lines_of c.first_line-2.result.1.now)
    (c.first_line.ensures ∙ ap (λ (l : List (List ℕ)). first ∷ l) c.first_line-2.ensures) some (omega arith)
    (two-asked IsOrderLine first second (c.in-Ok.counts, found.0, found.1) (c.in-Ok-read_list.draws.items, c.in-Ok-read_list.ensures.found))
    (λ line right. right) (omega arith)

pub returns-clause-found : goal.returns-clause-found
returns-clause-found c =
    let none = empty-lines c.first_line-2.result.1.now (λ some. grind (arith, common_steps)) in
    record {
      counts_line = c.first_line.result.0.now;
      draws_line = c.first_line-2.result.0.now;
      lines = c.first_line.ensures
          ∙ ap (λ (l : List (List ℕ)). c.first_line.result.0.now ∷ l) (c.first_line-2.ensures ∙ ap (λ (l : List (List ℕ)). c.first_line-2.result.0.now ∷ l) none);
      counts_listed = c.in-Ok.ensures.found.0;
      counts_allowed = c.in-Ok.ensures.found.1;
      draws_listed = c.in-Ok-read_list.ensures.found;
    }
