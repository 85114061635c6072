use Rattle.std.proofs.Common.{sym, ◌∙◌}
use Rattle.scenario_toml.proofs.UnknownKeys.{unknown-here, unknown-behind}
use Rattle.scenario_toml.proofs.read.values.least_unknown.Goals as goal

pub returns-then-not-is_among : goal.returns-then-not-is_among
returns-then-not-is_among c =
    unknown-here _ c.loop-key.key-iterator c.next.new.self c.in-Some.key.now c.in-Some.field-0-1.now _ _
    c.in-Some.ensures.steps c.as_str-key.ensures.value (sym c.is_among.ensures ∙ c.if-not-is_among.true) c.loop-key.invariant.2

pub loop-key-preserved : goal.loop-key-preserved
loop-key-preserved c = (
  tt,
  tt,
  unknown-behind _ c.loop-key.key-iterator c.next.new.self c.in-Some.key.now c.in-Some.field-0-1.now _ _
      c.in-Some.ensures.steps c.as_str-key.ensures.value (sym c.is_among.ensures ∙ c.if-not-is_among.false) c.loop-key.invariant.2,
)
