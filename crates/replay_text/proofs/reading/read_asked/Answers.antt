use Rattle.std.proofs.Common.{◌≡◌, ◌∙◌, ◌<◌, ◌∷◌, inr, Ok, Err, IfOk, IfErr, length, arith, sym, subst}
use Rattle.std.proofs.lemmas.Grind.{common_steps}
use Rattle.std.proofs.lemmas.Result.{IfErr-weaker}
use Rattle.surw_base.specs.declared.limits.TheConstants.{STEPS}
use Rattle.replay_text.specs.Lines.{unfinished, whole_lines}
use Rattle.replay_text.specs.Reading.{asked_of, if_ended}
use Rattle.replay_text.proofs.ReadLines.{AreRead, entries-none, more-read, no-end, stopped, too-many}
use Rattle.replay_text.proofs.reading.read_asked.Goals as goal

pub returns-then-len-clause-fault : goal.returns-then-len-clause-fault
returns-then-len-clause-fault c =
    let full : length c.loop-line.entries.items ≡ STEPS = grind (arith, common_steps) in
    inr (too-many _ _ _ _ _ _ c.loop-line.invariant c.in-Some.ensures.lines (sym c.in-Some-read_entry.ensures) full)

pub loop-line-preserved : goal.loop-line-preserved
loop-line-preserved c =
    let room : length c.loop-line.entries.items < STEPS = grind (arith, common_steps, c.loop-line.invariant.few) in
    subst (AreRead c.args.text.now c.in-Some.after.now) (sym c.in_ok-push-in-Some-read_entry.ensures.items)
    (more-read _ _ _ _ _ _ c.loop-line.invariant c.in-Some.ensures.lines c.in-Some.ensures.rest (sym c.in-Some-read_entry.ensures) room)

-- what is left has to be the end
to-end : (c : goal.After-ended) → asked_of (whole_lines c.args.text.now) (unfinished c.args.text.now)
    ≡ if_ended c.loop-line.entries.items (c.in-Some.line.now ∷ whole_lines c.in-Some.after.now) (unfinished c.in-Some.after.now)
to-end c =
    stopped _ _ _ c.loop-line.invariant (entries-none _ _ _ c.in-Some.ensures.lines (sym c.in-None.ensures))
    ∙ (λ i. if_ended c.loop-line.entries.items (c.in-Some.ensures.lines i) (c.in-Some.ensures.rest i))

pub returns-in-None-clause-found : goal.returns-in-None-clause-found
returns-in-None-clause-found c =
    subst (λ r. IfOk c.ended.result (λ asked. r ≡ Ok asked)) (sym (to-end c)) c.ended.ensures.found

pub returns-in-None-clause-fault : goal.returns-in-None-clause-fault
returns-in-None-clause-fault c =
    IfErr-weaker c.ended.result (λ fault. asked_of (whole_lines c.args.text.now) (unfinished c.args.text.now) ≡ Err fault) _ (λ fault is. inr is)
    (subst (λ r. IfErr c.ended.result (λ fault. r ≡ Err fault)) (sym (to-end c)) c.ended.ensures.fault)

pub returns-clause-fault : goal.returns-clause-fault
returns-clause-fault c = inr (no-end _ _ _ c.loop-line.invariant c.in_default.ensures.lines)
