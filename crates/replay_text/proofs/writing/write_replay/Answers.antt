use Rattle.std.proofs.Common.{◌++◌, ap, ◌∙◌}
use Rattle.surw_base.specs.Lines.{line}
use Rattle.replay_text.specs.SavedText.{header, name_text}
use Rattle.replay_text.proofs.Written.{each-more, lines-more}
use Rattle.replay_text.proofs.writing.write_replay.Goals as goal

pub loop-entry-preserved : goal.loop-entry-preserved
loop-entry-preserved c =
    let entries = c.as_slice-entry-items.result.now in
    let front = header ++ line (name_text c.args.saved.now.name) in
    record {
      written = c.in_ok-extend_from_slice-2.ensures.items ∙ ap (λ l. c.loop-entry.text.items ++ l) (c.as_slice.ensures ∙ c.make_entry_line.ensures.text)
          ∙ lines-more c.loop-entry.text.items front entries c.loop-entry.entry-index c.entry-item.result c.loop-entry-test.true c.entry-item.is c.loop-entry.invariant.written;
      each = each-more entries c.loop-entry.entry-index c.entry-item.result c.loop-entry-test.true c.entry-item.is c.loop-entry.invariant.each c.make_entry_line.ensures.fits;
    }
