use Rattle.std.proofs.Common.{◌≡◌, ◌∙◌, ◌+◌, ◌<◌, Ok, Err, true, cond, length, arith, ap, sym}
use Rattle.std.proofs.lemmas.Grind.{common_steps}
use Rattle.std.specs.Str.{bytes_eq}
use Rattle.replay_text.specs.declared.replay_fault.ReplayFault.TheVariants.{Line}
use Rattle.replay_text.specs.Lines.{unfinished, whole_lines}
use Rattle.replay_text.specs.Reading.{if_last}
use Rattle.replay_text.specs.SavedText.{end_text}
use Rattle.replay_text.proofs.Lines.{empty-lines}
use Rattle.replay_text.proofs.ReadLines.{more-behind}
use Rattle.replay_text.proofs.reading.ended.Goals as goal

pub returns-then-not-is_empty-clause-fault : goal.returns-then-not-is_empty-clause-fault
returns-then-not-is_empty-clause-fault c =
    let entries = c.args.entries.items in
    let after = c.args.after.now in
    let some : 0 < length after = grind (arith, common_steps) in
    let end : bytes_eq c.args.line.now (end_text (length entries)) ≡ true = grind (arith, common_steps) in
    let long : length entries ≡ c.len-count.result = grind (arith, common_steps) in
    ap (λ b. cond b (if_last entries (whole_lines after) (unfinished after)) (Err (Line (length entries + 3)))) end
    ∙ more-behind entries after some ∙ ap (λ n. Err (Line (n + 4))) long

pub returns-clause-found : goal.returns-clause-found
returns-clause-found c =
    let entries = c.args.entries.items in
    let after = c.args.after.now in
    let empty = empty-lines after (λ some. grind (arith, common_steps)) in
    let end : bytes_eq c.args.line.now (end_text (length entries)) ≡ true = grind (arith, common_steps) in
    ap (λ b. cond b (if_last entries (whole_lines after) (unfinished after)) (Err (Line (length entries + 3)))) end
    ∙ (λ i. if_last entries (empty.0 i) (empty.1 i)) ∙ ap Ok (sym c.new.ensures)
