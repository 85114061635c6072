use Rattle.std.proofs.Common.{◌≡◌, ◌++◌, ◌<◌, ◌+◌, [], ◌∷◌, length, get_or, map, take, ap, sym, ◌∙◌, arith}
use Rattle.std.proofs.Math.Seq.{take-length}
use Rattle.std.proofs.lemmas.Grind.{common_steps}
use Rattle.std.proofs.lemmas.List.{length-append, map-append, take_more}
use Rattle.gate_core.specs.Log.{LogState}
use Rattle.gate_core.proofs.Passes.{at-place}
use Rattle.gate_core.proofs.crew.jobs_of.Goals as goal

pub offset_bounds-routines-from : goal.offset_bounds-routines-from
offset_bounds-routines-from g c =
    let front = c.loop-pass.yielded in
    let kept : (front ++ c.in-Some.pass ∷ []) ++ c.next.new.self.rest.items ≡ c.args.passes.items = grind (arith, common_steps) in
    let at = at-place c.args.turnstile.now front c.in-Some.pass c.next.new.self.rest.items c.args.passes.items kept c.requires.passes in
    omega (arith, at.within, c.requires.threads, c.args.passes.ok, at.thread c.thread.result c.thread.ensures.thread, c.get.ensures.same, c.from.ensures)

pub bounds-routines-from : goal.bounds-routines-from
bounds-routines-from g c =
    let front = c.loop-pass.yielded in
    let kept : (front ++ c.in-Some.pass ∷ []) ++ c.next.new.self.rest.items ≡ c.args.passes.items = grind (arith, common_steps) in
    let at = at-place c.args.turnstile.now front c.in-Some.pass c.next.new.self.rest.items c.args.passes.items kept c.requires.passes in
    omega (arith, at.within, c.requires.threads, c.args.passes.ok, at.thread c.thread.result c.thread.ensures.thread, c.get.ensures.same, c.from.ensures)

pub invariant_of-push : goal.invariant_of-push
invariant_of-push g c =
    let front = c.loop-pass.yielded in
    let kept : (front ++ c.in-Some.pass ∷ []) ++ c.next.new.self.rest.items ≡ c.args.passes.items = grind (arith, common_steps) in
    let at = at-place c.args.turnstile.now front c.in-Some.pass c.next.new.self.rest.items c.args.passes.items kept c.requires.passes in
    record { of_table = at.table_is }

pub loop-pass-preserved : goal.loop-pass-preserved
loop-pass-preserved g c =
    let i = c.loop-pass.invariant in
    let routines = c.args.routines.now in
    let front = c.loop-pass.yielded in
    let kept : (front ++ c.in-Some.pass ∷ []) ++ c.next.new.self.rest.items ≡ c.args.passes.items = grind (arith, common_steps) in
    let at = at-place c.args.turnstile.now front c.in-Some.pass c.next.new.self.rest.items c.args.passes.items kept c.requires.passes in
    let here : c.from.result ≡ length front = omega (arith, at.thread c.thread.result c.thread.ensures.thread, c.get.ensures.same, c.from.ensures) in
    let item = c.index-routines-from.result in
    let within : length front < length routines = omega (arith, at.within, c.requires.threads, c.args.passes.ok) in
    let there : item ≡ get_or routines (length front) item = c.index-routines-from.is ∙ ap (λ n. get_or routines n item) here in
    let more : length (front ++ c.in-Some.pass ∷ []) ≡ length front + 1 = length-append front (c.in-Some.pass ∷ []) in (
      ap (map (λ job. job.pass)) c.in_ok-push.ensures.items ∙ map-append (λ job. job.pass) c.loop-pass.jobs.items _ ∙ ap (λ ps. ps ++ c.in-Some.pass ∷ []) i.0,
      ap (map (λ job. job.log.start)) c.in_ok-push.ensures.items
          ∙ map-append (λ job. job.log.start) c.loop-pass.jobs.items _
          ∙ ap (λ starts. starts ++ c.in_ok-log.log.start ∷ []) i.1
          ∙ ap (λ (log : LogState g.row.R.Denot). take (length front) routines ++ log.start ∷ []) c.in_ok-log.ensures
          ∙ ap (λ routine. take (length front) routines ++ routine ∷ []) there
          ∙ sym (take_more routines (length front) item within)
          ∙ ap (λ n. take n routines) (sym more),
      kept,
      i.3,
      i.4,
      tt,
      tt,
    )

pub returns-clause-logs : goal.returns-clause-logs
returns-clause-logs g c =
    let i = c.loop-pass.invariant in
    let routines = c.args.routines.now in
    let done : c.loop-pass.yielded ≡ c.args.passes.items = grind (arith, common_steps) in
    let long : length c.loop-pass.yielded ≡ length routines = omega (arith, ap length done, c.args.passes.ok, c.requires.threads) in
    i.1 ∙ ap (λ n. take n routines) long ∙ take-length routines
