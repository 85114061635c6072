-- A core may be sent to another thread where its two sources may. Each type on the way is shown by itself, since one search for all of them runs out of steps.
use denote.RattleType.{RattleType}
use denote.Param.Send.{IsSend, sendable, view_send}
use denote.Param.SendFields.{as_row_send, declared_send}
use Rattle.std.proofs.Crossing.{crosses}
use Rattle.seed_draws.specs.declared.draws.Draws.{Ghosts}
use Rattle.draw_split.specs.contracts.weights.Weights as weights
use Rattle.event_class.specs.contracts.event.Event as event
use Rattle.event_class.specs.contracts.selection.Selection as selection
use Rattle.test_world.specs.contracts.world.World as world
use Rattle.walk_rules.specs.contracts.announced.Announced as announced
use Rattle.walk_rules.specs.contracts.asked.AskedList as asked_list
use Rattle.walk_rules.specs.contracts.ranks.Ranks as ranks
use Rattle.walk_rules.specs.contracts.rule.Rule as rule
use Rattle.walk_rules.specs.contracts.walk.Walk as walk
use Rattle.run_rules.specs.contracts.entry.Entry as entry
use Rattle.pure_run.specs.contracts.upcoming.Upcoming as upcoming
use Rattle.pure_run.specs.contracts.word.Word as word
use Rattle.pure_run.specs.contracts.opening.Opening as opening
use Rattle.pure_run.specs.contracts.history.History as history
use Rattle.pure_run.specs.contracts.running.Running as running
use Rattle.pure_run.specs.contracts.core_state.Core as core

-- 19 variants are more than a plain `search` tries
pub event_send : IsSend event.the_row
event_send = search sendable depth 30 fits 100000

weights_send : IsSend weights.the_row
weights_send = view_send weights.TheInside.the_row _ _ _ _ (declared_send weights.TheInside.the_type (search (as_row_send, sendable, crosses) depth 30 fits 100000))

selection_send : IsSend selection.the_row
selection_send = view_send selection.TheInside.the_row _ _ _ _ (declared_send selection.TheInside.the_type (search (as_row_send, sendable, crosses) depth 30 fits 100000))

entry_send : IsSend entry.the_row
entry_send = declared_send entry.the_type (search (as_row_send, event_send, sendable, crosses) depth 30 fits 100000)

word_send : IsSend word.the_row
word_send = search (event_send, sendable) depth 30 fits 100000

upcoming_send : IsSend upcoming.the_row
upcoming_send = view_send upcoming.TheInside.the_row _ _ _ _ (declared_send upcoming.TheInside.the_type (search (as_row_send, sendable, crosses) depth 60 fits 100000))

asked_list_send : IsSend asked_list.the_row
asked_list_send = view_send asked_list.TheInside.the_row _ _ _ _ (declared_send asked_list.TheInside.the_type (search (as_row_send, sendable, crosses) depth 30 fits 100000))

rule_send : IsSend rule.the_row
rule_send = search (asked_list_send, sendable) depth 30 fits 100000

ranks_send : IsSend ranks.the_row
ranks_send = view_send ranks.TheInside.the_row _ _ _ _ (declared_send ranks.TheInside.the_type (search (as_row_send, sendable, crosses) depth 30 fits 100000))

walk_send : IsSend walk.the_row
walk_send = view_send walk.TheInside.the_row _ _ _ _ (declared_send walk.TheInside.the_type (search (as_row_send, rule_send, weights_send, ranks_send, sendable, crosses) depth 30 fits 100000))

announced_send : IsSend announced.the_row
announced_send = view_send announced.TheInside.the_row _ _ _ _ (declared_send announced.TheInside.the_type (search (as_row_send, sendable, crosses) depth 30 fits 100000))

world_send : IsSend world.the_row
world_send = view_send world.TheInside.the_row _ _ _ _ (declared_send world.TheInside.the_type (search (as_row_send, sendable, crosses) depth 30 fits 100000))

running_send : (S O : RattleType) → IsSend S → IsSend O → IsSend (running.the_row S O)
running_send S O s o = declared_send (running.the_type S O) (
  search (world_send, sendable),
  (
    search (as_row_send, sendable),
    (
      search (as_row_send, announced_send),
      (search (walk_send, sendable), (search (s, sendable), (search (o, sendable), (search (as_row_send, sendable, crosses) depth 30, (search (upcoming_send, sendable), tt))))),
    ),
  ),
)

module _ (S O : RattleType) (s_ghosts : Ghosts S.Denot) (o_ghosts : Ghosts O.Denot) (s : IsSend S) (o : IsSend O) where
  opening_send : IsSend (opening.the_row S O s_ghosts o_ghosts)
  opening_send = view_send (opening.TheInside.the_row S O s_ghosts o_ghosts) _ _ _ _ (declared_send (opening.TheInside.the_type S O s_ghosts o_ghosts) (
    search (as_row_send, sendable) depth 30,
    (
      search (as_row_send, sendable),
      (
        search (as_row_send, selection_send),
        (search (walk_send, sendable), (search (s, sendable), (search (o, sendable), (search (as_row_send, sendable), (search (as_row_send, sendable, crosses) depth 30, tt))))),
      ),
    ),
  ))

  history_send : IsSend (history.the_row S O s_ghosts o_ghosts)
  history_send = view_send (history.TheInside.the_row S O s_ghosts o_ghosts) _ _ _ _ (declared_send (history.TheInside.the_type S O s_ghosts o_ghosts) (search (as_row_send, opening_send, entry_send, word_send, sendable, crosses) depth 30 fits 100000))

  pub core_send : IsSend (core.the_row S O s_ghosts o_ghosts)
  core_send = view_send (core.TheInside.the_row S O s_ghosts o_ghosts) _ _ _ _ (declared_send (core.TheInside.the_type S O s_ghosts o_ghosts) (search (history_send, running_send S O s o, sendable, crosses) depth 30 fits 100000))
