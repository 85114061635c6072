use Rattle.std.proofs.Common.{◌≡◌, ◌<◌, ◌≤◌, ℕ, List, ◌++◌, length, take, get_or, Option, None, Some, ap, sym, ◌∙◌, arith}
use Rattle.std.proofs.lemmas.Option.{slice_get-get_or}
use Rattle.std.specs.List.{slice_get, flat_map, enumerate_from}
use Rattle.event_class.specs.declared.event.Event.{Event}
use Rattle.report_text.specs.NextLines.{next_line, next_lines}
use Rattle.report_text.proofs.TextPrefixes.{added, numbered, numbered-all, text-next}
use Rattle.report_text.proofs.next_lines.push_next_lines.Goals as goal

pub loop-number-preserved : goal.loop-number-preserved
loop-number-preserved c =
    let words = c.args.run.now.words in
    let number = c.loop-number.number in
    let within : number < length words = omega (arith, c.threads-number-end.ensures.number) in
    let thread : c.unwrap-thread.result ≡ number = rw c.unwrap-thread.ensures at c.new.ensures.some in
    let next = c.next.result in
    let told : next ≡ get_or words number None = c.next.ensures ∙ ap (λ (t : ℕ). get_or words t None) thread in
    let here : slice_get words number ≡ Some next = slice_get-get_or words number None within ∙ ap Some (sym told) in
    let more = text-next (λ e. next_line e.0 e.1) (enumerate_from 0 words) number (number, next) (numbered words number next here)
    ∙ ap (λ (t : ℕ). flat_map (λ e. next_line e.0 e.1) (take number (enumerate_from 0 words)) ++ next_line t next) (sym thread) in
    added _ _ _ _ _ _ c.loop-number.invariant c.in_ok-push_next_line.ensures more

pub returns : goal.returns
unfolding next_lines
returns c =
    let words = c.args.run.now.words in
    let past : length words ≤ c.loop-number.number = omega (arith, c.threads-number-end.ensures.number) in
    c.loop-number.invariant ∙ ap (λ (l : List (ℕ × Option Event)). c.args.text.now.items ++ flat_map (λ e. next_line e.0 e.1) l) (numbered-all words c.loop-number.number past)
