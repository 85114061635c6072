use Rattle.std.proofs.Common.{[], ◌∷◌, ◌++◌, ◌<◌, ◌≤◌, length, drop, suc, sym, append_assoc, arith}
use Rattle.std.proofs.lemmas.Result.{on_err_weaker}
use Rattle.surw_io.proofs.Results.{on_err}
use Rattle.fault_text.proofs.Taken.{all-taken, items_text, line-around, prefix_of_first, prefix_of_next}
use Rattle.fault_text.proofs.line.put_line.Goals as goal

pub returns-in_err-put_all-clause-prefix : goal.returns-in_err-put_all-clause-prefix
returns-in_err-put_all-clause-prefix g c =
    let word = c.args.word.now in
    let items = c.args.items.now in
    on_err _ (prefix_of_first _ _ word (items_text items ++ 10 ∷ []) _ (sym (append_assoc word (items_text items) (10 ∷ []))) c.in_err-put_all.ensures.prefix)

pub returns-in_err-put-clause-prefix : goal.returns-in_err-put-clause-prefix
returns-in_err-put-clause-prefix g c =
    let items = c.args.items.now in
    let index = c.loop-item.item-index in
    let within : index < length items = omega (arith, c.loop-item-test.true) in
    on_err _ (prefix_of_first _ _ _ (items_text (drop (suc index) items) ++ 10 ∷ []) _ (line-around c.args.word.now items index _ within)
    (prefix_of_next _ _ _ _ _ c.loop-item.invariant.taken c.in_err-put.ensures.prefix))

pub returns-clause-prefix : goal.returns-clause-prefix
returns-clause-prefix g c =
    let word = c.args.word.now in
    let items = c.args.items.now in
    let past : length items ≤ c.loop-item.item-index = omega (arith, c.loop-item-test.false) in
    on_err_weaker _ (prefix_of_next _ _ _ (word ++ items_text items) _ (all-taken _ _ word items c.loop-item.item-index past c.loop-item.invariant.taken))
    c.put_all-2.ensures.prefix
