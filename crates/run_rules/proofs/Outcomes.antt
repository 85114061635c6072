-- The outcome of a run is one.
use Rattle.std.proofs.Common.{◌≡◌, List, map, ap, sym, ◌∙◌}
use Rattle.std.proofs.lemmas.Option.{same_Some}
use Rattle.test_world.specs.World.{new_world}
use Rattle.run_rules.specs.declared.entry.Entry.{Entry}
use Rattle.run_rules.specs.MonitorFailures.{failed_at}
use Rattle.run_rules.specs.Position.{position_of, world_at}
use Rattle.run_rules.specs.Run.{OneOutcome, bent_at}
use Rattle.run_rules.specs.Setup.{Script}
use Rattle.run_rules.specs.Verdict.{verdict_at}
use Rattle.run_rules.proofs.Uniqueness.{run-unique}

-- two outcomes have one journal, and the journal gives the rest
pub one-outcome : (script : Script) → OneOutcome script
one-outcome script outcome other is twin =
    let journal : other.journal ≡ outcome.journal = run-unique script outcome.journal other.journal is.run twin.run in
    let verdict : other.verdict ≡ outcome.verdict =
    same_Some other.verdict outcome.verdict (sym twin.verdict ∙ ap (λ (j : List Entry). verdict_at script.setup (position_of script j)) journal ∙ is.verdict) in
    let words : other.words ≡ outcome.words = twin.words ∙ ap (λ (j : List Entry). (position_of script j).words) journal ∙ sym is.words in
    let world : other.world ≡ outcome.world = twin.world ∙ ap (λ (j : List Entry). world_at script.setup (position_of script j)) journal ∙ sym is.world in
    let bent : other.bent ≡ outcome.bent = twin.bent ∙ ap (λ (j : List Entry). bent_at script.setup (position_of script j)) journal ∙ sym is.bent in
    let selection : other.selection ≡ outcome.selection = twin.selection ∙ sym is.selection in
    let monitors : other.monitors ≡ outcome.monitors = twin.monitors ∙ sym is.monitors in
    let failed : other.failed ≡ outcome.failed =
    twin.failed ∙ (λ i. map (failed_at (new_world script.setup.size) (journal i) (verdict i)) (monitors i)) ∙ sym is.failed in
    (λ i. record {
      journal = journal i;
      world = world i;
      verdict = verdict i;
      words = words i;
      bent = bent i;
      selection = selection i;
      monitors = monitors i;
      failed = failed i;
    })
