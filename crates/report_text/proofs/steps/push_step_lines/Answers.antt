use Rattle.std.proofs.Common.{◌≡◌, ℕ, List, ◌++◌, length, Some, refl, ap, ◌∙◌}
use Rattle.std.proofs.lemmas.Option.{slice_get_read}
use Rattle.std.specs.List.{slice_get, flat_map, enumerate_from}
use Rattle.run_rules.specs.declared.entry.Entry.{Entry}
use Rattle.report_text.specs.StepLines.{step_line, steps_text}
use Rattle.report_text.proofs.TextPrefixes.{added, numbered, numbered-all, text-next}
use Rattle.report_text.proofs.steps.push_step_lines.Goals as goal

pub loop-k-preserved : goal.loop-k-preserved
loop-k-preserved c =
    let journal = c.args.journal.now in
    let k = c.loop-k.k in
    let entry = c.index-journal-k.result in
    let here : slice_get journal k ≡ Some entry = slice_get_read journal (length journal) k entry refl c.loop-k-test.true c.index-journal-k.is in
    let line = c.as_slice.ensures ∙ c.make_step_line.ensures in
    added _ _ _ _ _ _ c.loop-k.invariant (c.in_ok-extend_from_slice.ensures.items ∙ ap (λ (l : List ℕ). c.loop-k.text.items ++ l) line)
    (text-next (λ e. step_line e.0 e.1) (enumerate_from 0 journal) k (k, entry) (numbered journal k entry here))

pub returns : goal.returns
unfolding steps_text
returns c =
    let journal = c.args.journal.now in
    c.loop-k.invariant
    ∙ ap (λ (l : List (ℕ × Entry)). c.args.text.now.items ++ flat_map (λ e. step_line e.0 e.1) l) (numbered-all journal c.loop-k.k c.loop-k-test.false)
