use Rattle.std.proofs.Common.{ap, ◌∙◌}
use Rattle.std.specs.List.{list_any}
use Rattle.pure_run.specs.Core.{CoreState, is_due}
use Rattle.pure_run.proofs.InlineRun.{none-due}
use Rattle.routine_kit.specs.Adder.{adder_announced, adder_after}
use Rattle.seed_draws.specs.declared.loose_tape.LooseTape.{LooseTape}
use Rattle.seed_draws.specs.declared.strict_tape.StrictTape.{StrictTape}
use Rattle.gate_core.proofs.tests.gate_of.Goals as goal

pub new-requires-clause-said : goal.new-requires-clause-said
new-requires-clause-said c =
    ap (λ (core : CoreState StrictTape LooseTape). list_any is_due core.words) c.say_first_words.ensures ∙ none-due (record { announced = adder_announced; after_reply = adder_after }) c.as_slice.result.now
