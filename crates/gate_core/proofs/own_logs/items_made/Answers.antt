use Rattle.std.proofs.Common.{◌≡◌, ◌<◌, length, get_or, replicate, Some, refl, subst, ◌∙◌, arith}
use Rattle.std.proofs.lemmas.List.{length-set}
use Rattle.std.proofs.lemmas.Option.{slice_get_read}
use Rattle.std.specs.List.{slice_get}
use Rattle.gate_core.proofs.Logs.{are-made-none, are-made-more, few-more, zeros}
use Rattle.gate_core.proofs.own_logs.items_made.Goals as goal

pub loop-entry-init : goal.loop-entry-init
loop-entry-init g c = record {
  threads = refl;
  few = λ thread. omega (arith, zeros 16 thread);
  items = are-made-none c.args.journal.now c.args.logs.now (replicate 16 0) (zeros 16);
}

pub loop-entry-preserved : goal.loop-entry-preserved
loop-entry-preserved g c =
    let journal = c.args.journal.now in
    let logs = c.args.logs.now in
    let k = c.loop-entry.entry-index in
    let entry = c.entry-item.result in
    let made = c.loop-entry.made in
    let thread = c.from-thread.result in
    let log = c.index-logs-thread.result in
    let i = c.loop-entry.invariant in
    let same : thread ≡ entry.thread = c.from-thread.ensures ∙ c.get.ensures.same in
    let within : thread < length made = omega (arith, i.threads, same, c.get.ensures.same, c.get.ensures.below) in
    let at = slice_get_read journal (length journal) k entry refl (omega (arith, c.loop-entry-test.true, c.loop-entry.auto.entry-index-end)) c.entry-item.is in
    let log-at = slice_get_read logs (length logs) thread c.index-logs-thread.result refl (omega (arith, c.if-thread-logs.false)) c.index-logs-thread.is in
    record {
      threads = length-set made thread _ ∙ i.threads;
      few = few-more k made thread i.few within;
      items = rw same (are-made-more journal k entry logs made log i.items at
          (subst (λ t. slice_get logs t ≡ Some log) same log-at)
          (subst (λ t. t < length made) same within)
          (subst (λ t. slice_get log.items (get_or made t 0) ≡ Some (entry.event, entry.reply)) same (c.if-not-has.ensures refl)));
    }
