use Rattle.std.proofs.Common.{◌≡◌, ◌∙◌, arith, sym}
use Rattle.std.proofs.lemmas.Grind.{common_steps}
use Rattle.walk_rules.proofs.AbleThreads.{kept-all, kept-found, kept-more, kept-same}
use Rattle.walk_rules.proofs.urw.kept_at.Goals as goal
use Rattle.walk_rules.proofs.urw.kept_at.Goals.{then-is_able+else-rest-number, else-is_able}

pub returns-then-rest-number : goal.returns-then-rest-number
returns-then-rest-number c =
    let found : c.unwrap.result ≡ c.loop-thread.thread = grind (arith, common_steps) in
    let able = sym c.is_able.ensures ∙ c.if-is_able.true in
    found
    ∙ sym (kept-found c.args.left.now c.args.view.now c.loop-thread.thread c.loop-thread-test.true able
    c.loop-thread.rest c.args.place c.loop-thread.invariant (omega (arith, c.if-rest-number.true, c.from-number.ensures)))

pub loop-thread-preserved : goal.loop-thread-preserved
loop-thread-preserved c =
    elim c.if-is_able.branch [
      | then-is_able+else-rest-number on ↦
          let able = sym c.is_able.ensures ∙ on.if-is_able.true in
          let more = kept-more c.args.left.now c.args.view.now c.loop-thread.thread c.loop-thread-test.true able in
          omega (arith, more, c.loop-thread.invariant, on.rest-is, on.if-rest-number.false, on.from-number.ensures)
      | else-is_able past ↦
          let cannot = sym c.is_able.ensures ∙ past.if-is_able.false in
          let same = kept-same c.args.left.now c.args.view.now c.loop-thread.thread c.loop-thread-test.true cannot in
          omega (arith, same, c.loop-thread.invariant, past.rest-is)
    ]

pub unreachable-requires : goal.unreachable-requires
unreachable-requires c =
    let all = kept-all c.args.left.now c.args.view.now c.loop-thread.thread c.loop-thread-test.false in
    omega (arith, all, c.loop-thread.invariant, c.requires.drawn)
