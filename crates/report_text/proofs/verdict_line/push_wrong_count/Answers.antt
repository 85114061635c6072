use Rattle.report_text.proofs.verdict_line.push_wrong_count.Goals as goal

pub returns : goal.returns
returns c = rw (c.from.ensures, c.from-2.ensures, c.get.ensures.same, c.from-3.ensures, c.from-4.ensures) at c.push_list.ensures
