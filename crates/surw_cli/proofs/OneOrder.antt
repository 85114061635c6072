-- The job `order` makes one answer of some bytes.
use Rattle.std.proofs.Common.{◌≡◌, ℕ, List, None, length, refl, ap, sym, subst, ◌∙◌}
use Rattle.draw_split.specs.Named.{Names}
use Rattle.draw_split.specs.SplitFault.{IsRefused}
use Rattle.draw_split.specs.declared.naming.SplitFault.{SplitFault}
use Rattle.draw_split.specs.declared.naming.SplitFault.TheVariants as split
use Rattle.fault_text.specs.declared.fault.Fault.{Fault}
use Rattle.fault_text.specs.declared.fault.Fault.TheVariants.{Lines, Length, Large}
use Rattle.order_text.proofs.OrderFiles.{counts-one, draws-one, no-wrong, other-one}
use Rattle.order_text.proofs.OrderText.{text-one}
use Rattle.order_text.proofs.SplitFaults.{refused-one}
use Rattle.order_text.specs.OrderFile.{IsOrderFile, IsOtherOrder}
use Rattle.order_text.specs.OrderText.{order_text}
use Rattle.surw_cli.specs.Answer.{Answer, Report, Refusal}
use Rattle.surw_cli.specs.OrderAnswer.{order_answer, IsOrderReport, IsMisdrawn}
use Rattle.surw_cli.specs.Stop.{stop_of_split}
use Rattle.surw_cli.specs.declared.status.Status.TheVariants.{Done}
use Rattle.surw_cli.specs.declared.stop.Stop.TheVariants.{Refused}
use Rattle.surw_cli.proofs.OneFile.{MakesOne}

-- what holds of two readings of one order file
refused-here : (bytes counts draws : List ℕ) (is : IsOrderFile bytes counts draws) (fault : SplitFault) (twin : IsMisdrawn bytes fault) → IsRefused counts draws fault
refused-here bytes counts draws is fault twin =
    let counted : twin.counts ≡ counts = sym (counts-one bytes counts draws twin.counts twin.draws is twin.form) in
    let drawn : twin.draws ≡ draws = sym (draws-one bytes counts draws twin.counts twin.draws is twin.form) in
    subst (λ (ds : List ℕ). IsRefused counts ds fault) drawn (subst (λ (cs : List ℕ). IsRefused cs twin.draws fault) counted twin.refused)

report-one : (bytes text other : List ℕ) → IsOrderReport bytes text → IsOrderReport bytes other → other ≡ text
report-one bytes text other is twin =
    let counts : twin.counts ≡ is.counts = sym (counts-one bytes is.counts is.draws twin.counts twin.draws is.form twin.form) in
    let draws : twin.draws ≡ is.draws = sym (draws-one bytes is.counts is.draws twin.counts twin.draws is.form twin.form) in
    let named : Names is.counts is.draws twin.split =
    subst (λ (ds : List ℕ). Names is.counts ds twin.split) draws (subst (λ (cs : List ℕ). Names cs twin.draws twin.split) counts twin.named) in
    twin.printed ∙ ap (λ (cs : List ℕ). order_text (length cs) twin.split) counts ∙ text-one is.counts is.draws is.split twin.split is.named named ∙ sym is.printed

misdrawn-one : (bytes : List ℕ) (fault other : SplitFault) → IsMisdrawn bytes fault → IsMisdrawn bytes other → other ≡ fault
misdrawn-one bytes fault other is twin =
    refused-one is.counts is.draws fault other is.refused (refused-here bytes is.counts is.draws is.form other twin)

-- what the bytes are, by the answer that they have
data Case (bytes : List ℕ) (answer : Answer) : Type 0 where
  Other : (number : ℕ) → IsOtherOrder bytes number → answer ≡ Refusal (Lines number) → Case bytes answer
  Misdrawn : (fault : SplitFault) (refusal : Fault) → IsMisdrawn bytes fault → stop_of_split fault ≡ Refused refusal → answer ≡ Refusal refusal → Case bytes answer
  Named : (text : List ℕ) → IsOrderReport bytes text → answer ≡ Report Done text None → Case bytes answer

case : (bytes : List ℕ) (answer : Answer) → order_answer bytes answer → Case bytes answer
case bytes (Report Done text None) is = Named text is refl
case bytes (Refusal (Lines number)) is = Other number is refl
case bytes (Refusal (Length kept needed)) is = Misdrawn (split.Length kept needed) (Length kept needed) is refl refl
case bytes (Refusal (Large place kept below)) is = Misdrawn (split.Large place kept below) (Large place kept below) is refl refl
case bytes _ is = absurd is

named-misdrawn : (bytes text : List ℕ) (fault : SplitFault) (refusal : Fault) → IsOrderReport bytes text → IsMisdrawn bytes fault → stop_of_split fault ≡ Refused refusal → ⊥
named-misdrawn bytes text fault refusal is twin stop =
    let none : fault ≡ split.OutOfMemory =
    refused-one is.counts is.draws split.OutOfMemory fault is.named.list (refused-here bytes is.counts is.draws is.form fault twin) in
    cc (sym (ap stop_of_split none) ∙ stop)

refusal-one : (bytes : List ℕ) (fault other : SplitFault) (refusal twin : Fault) → IsMisdrawn bytes fault → IsMisdrawn bytes other
    → stop_of_split fault ≡ Refused refusal → stop_of_split other ≡ Refused twin → twin ≡ refusal
refusal-one bytes fault other refusal twin is are stop again =
    let stops : Refused twin ≡ Refused refusal = sym again ∙ ap stop_of_split (misdrawn-one bytes fault other is are) ∙ stop in
    cc stops

case-one : (bytes : List ℕ) (answer other : Answer) → Case bytes answer → Case bytes other → other ≡ answer
case-one bytes answer other (Other number wrong is) (Other twin again same) =
    same ∙ ap (λ (n : ℕ). Refusal (Lines n)) (other-one bytes number twin wrong again) ∙ sym is
case-one bytes answer other (Other number wrong is) (Misdrawn fault refusal drawn stop same) = absurd (no-wrong bytes drawn.counts drawn.draws number drawn.form wrong)
case-one bytes answer other (Other number wrong is) (Named text named same) = absurd (no-wrong bytes named.counts named.draws number named.form wrong)
case-one bytes answer other (Misdrawn fault refusal drawn stop is) (Other number wrong same) = absurd (no-wrong bytes drawn.counts drawn.draws number drawn.form wrong)
case-one bytes answer other (Misdrawn fault refusal drawn stop is) (Misdrawn cause twin redrawn again same) =
    same ∙ ap (λ (f : Fault). Refusal f) (refusal-one bytes fault cause refusal twin drawn redrawn stop again) ∙ sym is
case-one bytes answer other (Misdrawn fault refusal drawn stop is) (Named text named same) = absurd (named-misdrawn bytes text fault refusal named drawn stop)
case-one bytes answer other (Named text named is) (Other number wrong same) = absurd (no-wrong bytes named.counts named.draws number named.form wrong)
case-one bytes answer other (Named text named is) (Misdrawn fault refusal drawn stop same) = absurd (named-misdrawn bytes text fault refusal named drawn stop)
case-one bytes answer other (Named text named is) (Named again twin same) = same ∙ ap (λ (t : List ℕ). Report Done t None) (report-one bytes text again named twin) ∙ sym is

pub order-one : MakesOne order_answer
order-one bytes answer other is twin = case-one bytes answer other (case bytes answer is) (case bytes other twin)
