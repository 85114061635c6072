use Rattle.std.proofs.Common.{◌∙◌, ap, get_or, sym}
use Rattle.walk_rules.specs.declared.seen.Seen.TheVariants.{Over}
use Rattle.pure_run.specs.declared.word.Word.TheVariants.{Due}
use Rattle.pure_run.specs.Core.{last_word}
use Rattle.pure_run.specs.View.{seen_again}
use Rattle.pure_run.proofs.Views.{follows-lock}
use Rattle.pure_run.proofs.view.look_after.Goals as goal

pub returns-in-Some : goal.returns-in-Some
returns-in-Some c =
    follows-lock c.args.world.now c.args.event.now c.in-Some.lock (sym c.lock_of.ensures ∙ c.in-Some.is) c.args.words.now c.args.view.now c.look_again.new.view
    c.requires.each c.look_again.ensures.each
    (λ k below.
    c.look_again.ensures.seen k below
    ∙ ap (λ enabled. seen_again c.in-Some.lock enabled (last_word (get_or c.args.words.now k Due)) (get_or c.args.view.now k Over)) c.enabled-enabled.ensures)
