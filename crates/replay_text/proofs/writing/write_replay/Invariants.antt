use Rattle.std.proofs.Common.{◌≡◌, ◌++◌, All, take}
use Rattle.std.specs.List.{flat_map}
use Rattle.surw_base.specs.Lines.{line}
use Rattle.replay_text.specs.SavedRun.{IsEntry}
use Rattle.replay_text.specs.SavedText.{entry_text, header, name_text}
use Rattle.replay_text.proofs.writing.write_replay.Given as goal

abbrev pub invariant-loop-entry : goal.invariant-loop-entry
invariant-loop-entry l = record {
  written : l.text.items ≡ header ++ line (name_text l.saved.name) ++ flat_map (λ entry. line (entry_text entry)) (take l.entry-index l.entry-items);
  each : All IsEntry (take l.entry-index l.entry-items);
}
