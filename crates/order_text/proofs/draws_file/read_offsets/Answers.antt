use Rattle.std.proofs.Common.{◌≡◌, ◌<◌, ◌+◌, ℕ, List, ◌∷◌, [], map, get_or, refl, ap, sym, subst, ◌∙◌, arith, Vec, Global}
use Rattle.std.proofs.lemmas.Grind.{common_steps}
use Rattle.std.proofs.lemmas.List.{map-append}
use Rattle.order_text.specs.DrawsFile.{IsDrawsLine}
use Rattle.order_text.specs.FileFault.{IsFirstWrongLine, IsOtherFile, fault_at}
use Rattle.order_text.specs.Lines.{lines_of}
use Rattle.surw_base.specs.declared.list.ListFault.{ListFault}
use Rattle.order_text.proofs.Lines.{empty-lines, some-line}
use Rattle.order_text.proofs.OffsetsLines.{AreReadLines, line-more, all-read, read-once, too-few, too-many, next-line, missing-line, other-line, extra-line}
use Rattle.order_text.proofs.draws_file.read_offsets.Goals as goal

abbrev lists_of : List (Vec ℕ Global) → List (List ℕ)
lists_of lists = map (λ (list : Vec ℕ Global). list.items) lists

pub loop-thread-preserved : goal.loop-thread-preserved
loop-thread-preserved c =
    line-more c.args.text.now c.loop-thread.rest.now c.first_line.result.1.now (lists_of c.loop-thread.lists.items) (lists_of c.push.new.self.items)
    c.loop-thread.thread c.in-Ok.offsets.items c.first_line.result.0.now c.loop-thread.invariant c.first_line.ensures
    (record { listed = c.in-Ok.ensures.found; one = λ other is. c.in-Ok.ensures.only other is })
    (ap lists_of c.in_ok-push.ensures.items ∙ map-append (λ (list : Vec ℕ Global). list.items) c.loop-thread.lists.items (c.in-Ok.offsets ∷ []))

pub returns-then-is_empty-clause-only : goal.returns-then-is_empty-clause-only
returns-then-is_empty-clause-only c = λ offsets are.
    let none = empty-lines c.loop-thread.rest.now (λ some. grind (arith, common_steps)) in
    let less : c.loop-thread.thread < c.args.threads = omega arith in
    absurd (too-few c.args.text.now c.loop-thread.rest.now (lists_of c.loop-thread.lists.items) offsets c.loop-thread.thread c.args.threads c.loop-thread.invariant less none are)

pub returns-then-is_empty-clause-wrong : goal.returns-then-is_empty-clause-wrong
returns-then-is_empty-clause-wrong c = λ first second one two.
    let none = empty-lines c.loop-thread.rest.now (λ some. grind (arith, common_steps)) in
    let less : c.loop-thread.thread < c.args.threads = omega arith in
    missing-line c.args.text.now c.loop-thread.rest.now (lists_of c.loop-thread.lists.items) c.loop-thread.thread c.args.threads (c.loop-thread.thread + 3) first second
    c.loop-thread.invariant less none refl one two

pub returns-in-Err-clause-only : goal.returns-in-Err-clause-only
returns-in-Err-clause-only c = λ offsets are.
    let less : c.loop-thread.thread < c.args.threads = omega arith in
    let here = next-line c.args.text.now c.loop-thread.rest.now (lists_of c.loop-thread.lists.items) offsets c.loop-thread.thread c.args.threads
    c.first_line.result.0.now (lines_of c.first_line.result.1.now) c.loop-thread.invariant less c.first_line.ensures are in
    c.at.ensures ∙ ap (λ (fault : ListFault). fault_at fault (c.loop-thread.thread + 3)) (c.in-Err.ensures.only (get_or offsets c.loop-thread.thread []) here)

pub returns-in-Err-clause-wrong : goal.returns-in-Err-clause-wrong
returns-in-Err-clause-wrong c = λ first second one two.
    let less : c.loop-thread.thread < c.args.threads = omega arith in
    let threads = c.args.threads in
    subst (IsOtherFile (IsFirstWrongLine (IsDrawsLine threads) (threads + 2) (first ∷ second ∷ lines_of c.args.text.now))) (sym c.at.ensures)
    (other-line c.args.text.now c.loop-thread.rest.now (lists_of c.loop-thread.lists.items) c.loop-thread.thread threads (c.loop-thread.thread + 3) first second
    c.first_line.result.0.now (lines_of c.first_line.result.1.now) c.in-Err.fault c.loop-thread.invariant less c.first_line.ensures
    (λ offsets is. c.in-Err.ensures.only offsets is) refl one two)

pub returns-then-not-is_empty-clause-only : goal.returns-then-not-is_empty-clause-only
returns-then-not-is_empty-clause-only c = λ offsets are.
    let some = some-line c.loop-thread.rest.now (grind (arith, common_steps)) in
    let end : c.loop-thread.thread ≡ c.args.threads = omega arith in
    let read = subst (AreReadLines c.args.text.now c.loop-thread.rest.now (lists_of c.loop-thread.lists.items)) end c.loop-thread.invariant in
    absurd (too-many c.args.text.now c.loop-thread.rest.now (lists_of c.loop-thread.lists.items) offsets c.args.threads read some are)

pub returns-then-not-is_empty-clause-wrong : goal.returns-then-not-is_empty-clause-wrong
returns-then-not-is_empty-clause-wrong c = λ first second one two.
    let some = some-line c.loop-thread.rest.now (grind (arith, common_steps)) in
    let end : c.loop-thread.thread ≡ c.args.threads = omega arith in
    let read = subst (AreReadLines c.args.text.now c.loop-thread.rest.now (lists_of c.loop-thread.lists.items)) end c.loop-thread.invariant in
    extra-line c.args.text.now c.loop-thread.rest.now (lists_of c.loop-thread.lists.items) c.args.threads (c.args.threads + 3) first second read some refl one two

pub returns-clause-found : goal.returns-clause-found
returns-clause-found c =
    let none = empty-lines c.loop-thread.rest.now (λ some. grind (arith, common_steps)) in
    let end : c.loop-thread.thread ≡ c.args.threads = omega arith in
    let read = subst (AreReadLines c.args.text.now c.loop-thread.rest.now (lists_of c.loop-thread.lists.items)) end c.loop-thread.invariant in
    all-read c.args.text.now c.loop-thread.rest.now (lists_of c.loop-thread.lists.items) c.args.threads read none

pub returns-clause-only : goal.returns-clause-only
returns-clause-only c = λ offsets are.
    let none = empty-lines c.loop-thread.rest.now (λ some. grind (arith, common_steps)) in
    let end : c.loop-thread.thread ≡ c.args.threads = omega arith in
    let read = subst (AreReadLines c.args.text.now c.loop-thread.rest.now (lists_of c.loop-thread.lists.items)) end c.loop-thread.invariant in
    read-once c.args.text.now c.loop-thread.rest.now (lists_of c.loop-thread.lists.items) offsets c.args.threads read none are
