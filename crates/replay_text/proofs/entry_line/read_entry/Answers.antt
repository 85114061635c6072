use Rattle.std.proofs.Common.{◌≡◌, ◌∙◌, ℕ, [], ◌∷◌, ◌++◌, length, arith, ap, sym}
use Rattle.std.proofs.lemmas.List.{take_all}
use Rattle.std.proofs.lemmas.Option.{same_Some}
use Rattle.std.specs.Fmt.{decimal}
use Rattle.event_class.specs.declared.event.Event.{Event}
use Rattle.event_class.specs.Event.{event_text}
use Rattle.replay_text.proofs.EntryTexts.{entry-again, none-read, whole-event}
use Rattle.replay_text.proofs.entry_line.read_entry.Goals as goal

pub returns-in-None : goal.returns-in-None
returns-in-None c = none-read c.args.line.now (λ entry is. c.in-None.ensures.only entry.thread (event_text entry.event) is.fits.thread is.spelled)

pub returns-then-len-text : goal.returns-then-len-text
returns-then-len-text c = none-read c.args.line.now (λ entry is.
    let front = c.in-Some.ensures.only entry.thread (event_text entry.event) is.fits.thread is.spelled in
    let again = c.in-Some-read_event.ensures.again entry.event [] (whole-event c.in-Some.front.1.now entry.event front.1 is.fits.numbers) in
    let long : c.in-Some-read_event.len ≡ length (event_text entry.event) =
    ap (λ (found : Event × ℕ). found.1) (same_Some (c.in-Some-read_event.event, c.in-Some-read_event.len) (entry.event, length (event_text entry.event)) again) in
    omega (arith, long, ap length front.1, c.if-len-text.true))

pub returns-else-len-text : goal.returns-else-len-text
returns-else-len-text c =
    let text = c.in-Some.front.1.now in
    let longest = c.in-Some-read_event.ensures.prefix in
    let event : text ≡ event_text c.in-Some-read_event.event =
    sym (take_all c.in-Some-read_event.len text (omega (arith, c.if-len-text.false))) ∙ longest.prefix.text in
    sym (entry-again c.args.line.now (record { thread = c.in-Some.front.0; event = c.in-Some-read_event.event }) (record {
      spelled = c.in-Some.ensures.found ∙ ap (λ l. decimal c.in-Some.front.0 ++ 32 ∷ l) event;
      fits = record { thread = c.in-Some.ensures.below; numbers = longest.prefix.below };
    }))

pub returns-in-None-read_event : goal.returns-in-None-read_event
returns-in-None-read_event c = none-read c.args.line.now (λ entry is.
    let front = c.in-Some.ensures.only entry.thread (event_text entry.event) is.fits.thread is.spelled in
    let again = c.in-None-read_event.ensures.again entry.event [] (whole-event c.in-Some.front.1.now entry.event front.1 is.fits.numbers) in
    cc)
