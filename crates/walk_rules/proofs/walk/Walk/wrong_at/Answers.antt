use Rattle.std.proofs.Common.{◌≡◌, None, Some, rules, sym, ◌∙◌}
use Rattle.walk_rules.specs.Walk.{wrong_at}
use Rattle.walk_rules.proofs.WrongThreads.{wrong-alone}
use Rattle.walk_rules.proofs.walk.Walk.wrong_at.Goals as goal

pub returns-then-is_wrong-clause-alone : goal.returns-then-is_wrong-clause-alone
returns-then-is_wrong-clause-alone c others =
    let found : Some c.counted.result ≡ wrong_at c.args.self.now c.args.view.now c.args.thread = search rules in
    found ∙ sym (wrong-alone c.args.self.now c.args.view.now c.args.thread c.requires.thread others)

pub returns-else-counts_down-clause-alone : goal.returns-else-counts_down-clause-alone
returns-else-counts_down-clause-alone c others =
    let found : None ≡ wrong_at c.args.self.now c.args.view.now c.args.thread = search rules in
    found ∙ sym (wrong-alone c.args.self.now c.args.view.now c.args.thread c.requires.thread others)
