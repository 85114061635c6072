use Rattle.std.proofs.Common.{◌≡◌, ◌-◌, ◌<◌, ◌≤◌, ℕ, List, [], get_or, length, sum, ap, sym, subst, ◌∙◌}
use Rattle.std.proofs.lemmas.List.{get_or_read}
use Rattle.std.proofs.lemmas.Result.{err_from_is_err_and}
use Rattle.draw_split.specs.Bag.{pick, offset, less_one}
use Rattle.draw_split.proofs.JoinedDraws.{join-next, names-all, names-one, next_offset}
use Rattle.draw_split.proofs.Refusals.{refused-only}
use Rattle.draw_split.proofs.joining.draws_of.Goals as goal

pub returns-in_err-checked-clause-only : goal.returns-in_err-checked-clause-only
returns-in_err-checked-clause-only c =
    let p = err_from_is_err_and c.from_residual.result c.from_residual.ensures.1 in rw (p.1, p.2) (refused-only _ _ _ c.in_err-checked.ensures.refused)

pub loop-thread-preserved : goal.loop-thread-preserved
loop-thread-preserved c =
    let order = c.args.split.now.order in
    let offsets = c.args.split.now.offsets in
    let left = c.loop-thread.left in
    let index = c.loop-thread.thread-index in
    let items : c.order-thread-items.result.now ≡ order = c.order-thread-items.ensures in
    let lt : index < length order = subst (λ (l : List ℕ). index < length l) items c.loop-thread-test.true in
    let thread : c.thread-item.result ≡ get_or order index 0 =
    get_or_read c.order-thread-items.result.now index c.thread-item.result c.loop-thread-test.true c.thread-item.is 0 ∙ ap (λ (l : List ℕ). get_or l index 0) items in
    let same : c.as_slice.result.now ≡ left = c.as_slice.ensures.same in
    let list : c.offsets.result.now ≡ get_or offsets c.thread-item.result [] = c.offsets.ensures.list in
    let counted : c.count_of.result ≡ get_or c.args.counts.now c.thread-item.result 0 = c.count_of.ensures in
    let remains : c.left.result ≡ get_or left c.thread-item.result 0 = c.left.ensures in
    join-next _ _ _ _ _ _ c.loop-thread.invariant lt c.join_one.result
    (subst (λ (l : List ℕ). c.join_one.result < sum l) same c.join_one.ensures.drawn)
    (ap (λ (l : List ℕ). pick l c.join_one.result) (sym same) ∙ c.join_one.ensures.thread ∙ thread)
    (ap (λ (l : List ℕ). offset l c.join_one.result) (sym same) ∙ c.join_one.ensures.offset
    ∙ (λ i. get_or (list i) (counted i - remains i) 0) ∙ ap (next_offset c.args.counts.now left offsets) thread)
    _ _ (c.take.ensures ∙ ap (less_one left) thread) c.in_ok-push.ensures.items

pub returns-clause-ok : goal.returns-clause-ok
returns-clause-ok c =
    let past : length c.args.split.now.order ≤ c.loop-thread.thread-index = subst (λ (l : List ℕ). length l ≤ c.loop-thread.thread-index) c.order-thread-items.ensures c.loop-thread-test.false in
    names-all _ _ _ _ _ c.loop-thread.invariant past c.in_ok-checked.ensures.fits c.in_ok-checked.ensures.rooms

pub returns-clause-only : goal.returns-clause-only
returns-clause-only c draws names =
    let past : length c.args.split.now.order ≤ c.loop-thread.thread-index = subst (λ (l : List ℕ). length l ≤ c.loop-thread.thread-index) c.order-thread-items.ensures c.loop-thread-test.false in
    names-one _ _ _ _ (names-all _ _ _ _ _ c.loop-thread.invariant past c.in_ok-checked.ensures.fits c.in_ok-checked.ensures.rooms) names
