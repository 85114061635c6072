use Rattle.std.proofs.Common.{inr, refl}
use Rattle.std.proofs.lemmas.Bool.{false≢true}
use Rattle.scenario_toml.proofs.Trees.{tree_of-text, tree_of-refused}
use Rattle.scenario_toml.proofs.read.read_tree.Goals as goal

pub returns-in-Ok-clause-ok : goal.returns-in-Ok-clause-ok
returns-in-Ok-clause-ok c = tree_of-text c.args.text.now _ c.in-Ok.ensures.ok.0 c.in-Ok.ensures.ok.1

pub returns-else-is_memory-clause-fault : goal.returns-else-is_memory-clause-fault
returns-else-is_memory-clause-fault c = inr (refl, tree_of-refused c.args.text.now (c.in-Err.ensures.refused (λ m. false≢true (c.if-is_memory.ensures.1 m))))
