use Rattle.std.proofs.lemmas.Option.{none-some, same_Some}
use Rattle.scenario_toml.proofs.Watches.{some-number, two-numbers, space-behind, not-at-end, second-number}
use Rattle.scenario_toml.proofs.watch.cell_end.Goals.{then-len-text-via-then-len-text, then-len-text-via-else-len-text+then-text-len-ne32}
use Rattle.scenario_toml.proofs.watch.cell_end.Goals as goal

pub returns-in_default-clause-only : goal.returns-in_default-clause-only
returns-in_default-clause-only c cell value is = absurd (some-number c.args.text.now cell value c.in_default.ensures is)

pub returns-then-len-text-clause-only : goal.returns-then-len-text-clause-only
returns-then-len-text-clause-only c cell value is = elim c.then-len-text.branch [
  | then-len-text-via-then-len-text w ↦ absurd (not-at-end c.args.text.now cell value c.in-Some.cell c.in-Some.len c.in-Some.ensures is w.if-len-text.true)
  | then-len-text-via-else-len-text+then-text-len-ne32 w ↦ absurd (w.if-text-len-ne32.true (space-behind c.args.text.now cell value c.in-Some.cell c.in-Some.len c.in-Some.ensures is))
]

pub returns-in-Some-read_whole_number-clause-only : goal.returns-in-Some-read_whole_number-clause-only
returns-in-Some-read_whole_number-clause-only c cell value is =
    let second = second-number c.args.text.now cell value c.in-Some.cell c.in-Some.len c.in-Some.ensures is in
    let first = (two-numbers c.args.text.now cell value c.in-Some.cell c.in-Some.len c.in-Some.ensures is).0 in
    let same = same_Some _ _ (c.in-Some-read_whole_number.ensures.only value (rw c.split_at.ensures.back second)) in
    rw (first, same)

pub returns-in-None-clause-only : goal.returns-in-None-clause-only
returns-in-None-clause-only c cell value is =
    let second = second-number c.args.text.now cell value c.in-Some.cell c.in-Some.len c.in-Some.ensures is in
    absurd (none-some value (c.in-None.ensures.only value (rw c.split_at.ensures.back second)))
