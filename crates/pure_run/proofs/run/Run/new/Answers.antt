use Rattle.std.proofs.Common.{rules, ◌≡◌, length, ap, sym, ◌∙◌}
use Rattle.run_rules.specs.declared.verdict.Verdict.TheVariants.{Ended}
use Rattle.pure_run.specs.Run.{at_end}
use Rattle.pure_run.proofs.Places.{end-kept, length-end, not-ended}
use Rattle.pure_run.proofs.run.Run.new.Goals as goal
use Rattle.pure_run.proofs.run.Run.new.Goals.{in-Ended, in_default}

places : (c : goal.Joined-verdict)
    → c.match-verdict.failed.items ≡ at_end c.args.world (length c.args.journal.items) c.args.verdict c.args.failed.items c.args.monitors.items
places c =
    let steps : c.len-steps.result ≡ length c.args.journal.items = search rules in
    elim c.match-verdict.branch [
      | in-Ended w ↦
          ap (λ failed. failed.items) w.failed-is
          ∙ w.watch_cells.ensures
          ∙ ap (λ monitors. at_end c.args.world c.len-steps.result Ended c.args.failed.items monitors) w.as_slice.ensures.value
          ∙ ap (λ n. at_end c.args.world n Ended c.args.failed.items c.args.monitors.items) steps
          ∙ ap (λ verdict. at_end c.args.world (length c.args.journal.items) verdict c.args.failed.items c.args.monitors.items) (sym w.in-Ended.is)
      | in_default w ↦
          ap (λ failed. failed.items) w.failed-is
          ∙ sym (end-kept c.args.world (length c.args.journal.items) c.args.verdict c.args.failed.items c.args.monitors.items (not-ended c.args.verdict w.in_default.not-Ended))
    ]

pub invariant_of-result : goal.invariant_of-result
invariant_of-result c = record {
  short = c.requires.short;
  few = c.requires.few;
  each =
      ap (λ xs. length xs) (places c)
      ∙ length-end c.args.world (length c.args.journal.items) c.args.verdict c.args.failed.items c.args.monitors.items
      ∙ c.requires.each;
}

pub returns : goal.returns
returns c =
    ap (λ places. record { journal = c.args.journal.items; world = c.args.world; verdict = c.args.verdict; words = c.args.words.items; bent = c.args.bent; selection = c.args.selection; monitors = c.args.monitors.items; failed = places }) (places c)
