use Rattle.std.proofs.Common.{◌∙◌, inl, inr, Some, None, Ok, ap, sym}
use Rattle.std.proofs.lemmas.Bool.Decides.{Decides-eqb}
use Rattle.std.proofs.lemmas.Slice.Eq.{strip_prefix_is}
use Rattle.replay_text.specs.Lines.{unfinished, whole_lines}
use Rattle.replay_text.specs.Reading.{asked_of, body_of, run_of}
use Rattle.replay_text.specs.SavedText.{header}
use Rattle.replay_text.proofs.Runs.{run-read}
use Rattle.replay_text.proofs.SavedTexts.{behind-header, behind-name, no-header}
use Rattle.replay_text.proofs.reading.read_replay.Goals as goal

pub returns-in-None-clause-fault : goal.returns-in-None-clause-fault
returns-in-None-clause-fault c = inr (no-header c.args.text.now (strip_prefix_is Decides-eqb c.args.text.now header None c.in-None.ensures.cases))

pub returns-in-None-next_line-clause-fault : goal.returns-in-None-next_line-clause-fault
returns-in-None-next_line-clause-fault c =
    let body = c.in-Some.body.now in
    let text = strip_prefix_is Decides-eqb c.args.text.now header (Some c.in-Some.body) c.in-Some.ensures.cases in
    inr (behind-header c.args.text.now body text ∙ ap (λ ls. body_of ls (unfinished body)) c.in-None-next_line.ensures.lines)

pub returns-in-None-read_name-clause-fault : goal.returns-in-None-read_name-clause-fault
returns-in-None-read_name-clause-fault c =
    let cut = c.in-Some-next_line.cut in
    let text = strip_prefix_is Decides-eqb c.args.text.now header (Some c.in-Some.body) c.in-Some.ensures.cases in
    inr (behind-name c.args.text.now c.in-Some.body.now cut.0.now cut.1.now text c.in-Some-next_line.ensures.lines c.in-Some-next_line.ensures.rest
    ∙ ap (λ name. run_of name (asked_of (whole_lines cut.1.now) (unfinished cut.1.now))) (sym c.in-None-read_name.ensures))

pub returns-in-Ok-clause-found : goal.returns-in-Ok-clause-found
returns-in-Ok-clause-found c =
    let cut = c.in-Some-next_line.cut in
    let text = strip_prefix_is Decides-eqb c.args.text.now header (Some c.in-Some.body) c.in-Some.ensures.cases in
    behind-name c.args.text.now c.in-Some.body.now cut.0.now cut.1.now text c.in-Some-next_line.ensures.lines c.in-Some-next_line.ensures.rest
    ∙ ap (λ name. run_of name (asked_of (whole_lines cut.1.now) (unfinished cut.1.now))) (sym c.in-Some-read_name.ensures)
    ∙ ap (run_of (Some c.in-Some-read_name.name)) c.in-Ok.ensures.found
    ∙ (λ i. Ok (record { name = sym c.new.ensures.name i; entries = sym c.new.ensures.entries i }))

pub returns-in-Err-clause-fault : goal.returns-in-Err-clause-fault
returns-in-Err-clause-fault c =
    let cut = c.in-Some-next_line.cut in
    let text = strip_prefix_is Decides-eqb c.args.text.now header (Some c.in-Some.body) c.in-Some.ensures.cases in
    elim c.in-Err.ensures.fault [
      | inl memory ↦ inl memory
      | inr is ↦
          inr (behind-name c.args.text.now c.in-Some.body.now cut.0.now cut.1.now text c.in-Some-next_line.ensures.lines c.in-Some-next_line.ensures.rest
          ∙ ap (λ name. run_of name (asked_of (whole_lines cut.1.now) (unfinished cut.1.now))) (sym c.in-Some-read_name.ensures)
          ∙ ap (run_of (Some c.in-Some-read_name.name)) is)
    ]

pub returns-in-Ok-clause-within : goal.returns-in-Ok-clause-within
returns-in-Ok-clause-within c = (run-read c.new.result c.args.text.now (returns-in-Ok-clause-found c)).0
