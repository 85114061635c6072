use Rattle.std.proofs.Common.{◌≡◌, ◌++◌, List, length, All}
use Rattle.routine_kit.specs.declared.token.Token.{Token}
use Rattle.routine_kit.specs.LineText.{tokens_text, IsToken}
use Rattle.routine_kit.proofs.line_reading.read_tokens.Given as goal

abbrev pub invariant-loop-rest : goal.invariant-loop-rest
invariant-loop-rest l = record {
  text : l.text ≡ tokens_text l.tokens.items ++ l.rest;
  below : All IsToken l.tokens.items;
  only : (tokens : List Token) → l.text ≡ tokens_text tokens → All IsToken tokens → (more : List Token) × (tokens ≡ l.tokens.items ++ more) × (l.rest ≡ tokens_text more) × All IsToken more;
}

abbrev pub decreases-loop-rest : goal.decreases-loop-rest
decreases-loop-rest l = length l.rest
