-- The job `draws` makes one answer of some bytes.
use Rattle.std.proofs.Common.{◌≡◌, ℕ, List, None, refl, ap, sym, subst, ◌∙◌}
use Rattle.draw_split.proofs.JoinedDraws.{names-one}
use Rattle.draw_split.proofs.Refusals.{refused-only}
use Rattle.draw_split.specs.JoinFault.{IsRefused}
use Rattle.draw_split.specs.Named.{Names}
use Rattle.draw_split.specs.Split.{Parts}
use Rattle.draw_split.specs.declared.joining.JoinFault.{JoinFault}
use Rattle.draw_split.specs.declared.joining.JoinFault.TheVariants as join
use Rattle.fault_text.specs.declared.fault.Fault.{Fault}
use Rattle.fault_text.specs.declared.fault.Fault.TheVariants.{Lines, Miscount, Offsets, Offset}
use Rattle.order_text.proofs.DrawsFiles.{counts-one, split-one, no-wrong, other-one}
use Rattle.order_text.proofs.JoinFaults.{refused-one}
use Rattle.order_text.specs.DrawsFile.{IsDrawsFile, IsOtherDraws}
use Rattle.order_text.specs.DrawsText.{draws_text}
use Rattle.surw_cli.specs.Answer.{Answer, Report, Refusal}
use Rattle.surw_cli.specs.DrawsAnswer.{draws_answer, IsDrawsReport, IsUnnamed}
use Rattle.surw_cli.specs.Stop.{stop_of_join}
use Rattle.surw_cli.specs.declared.status.Status.TheVariants.{Done}
use Rattle.surw_cli.specs.declared.stop.Stop.TheVariants.{Refused}
use Rattle.surw_cli.proofs.OneFile.{MakesOne}

-- what holds of two readings of one file of draws
refused-here : (bytes counts : List ℕ) (split : Parts) (is : IsDrawsFile bytes counts split) (fault : JoinFault) (twin : IsUnnamed bytes fault) → IsRefused counts split fault
refused-here bytes counts split is fault twin =
    let counted : twin.counts ≡ counts = sym (counts-one bytes counts twin.counts split twin.split is twin.form) in
    let parted : twin.split ≡ split = split-one bytes counts twin.counts split twin.split is twin.form in
    subst (λ (s : Parts). IsRefused counts s fault) parted (subst (λ (cs : List ℕ). IsRefused cs twin.split fault) counted twin.refused)

report-one : (bytes text other : List ℕ) → IsDrawsReport bytes text → IsDrawsReport bytes other → other ≡ text
report-one bytes text other is twin =
    let counts : twin.counts ≡ is.counts = sym (counts-one bytes is.counts twin.counts is.split twin.split is.form twin.form) in
    let split : twin.split ≡ is.split = split-one bytes is.counts twin.counts is.split twin.split is.form twin.form in
    let named : Names is.counts twin.draws is.split =
    subst (λ (s : Parts). Names is.counts twin.draws s) split (subst (λ (cs : List ℕ). Names cs twin.draws twin.split) counts twin.named) in
    twin.printed ∙ ap draws_text (sym (names-one is.counts is.draws twin.draws is.split is.named named)) ∙ sym is.printed

unnamed-one : (bytes : List ℕ) (fault other : JoinFault) → IsUnnamed bytes fault → IsUnnamed bytes other → other ≡ fault
unnamed-one bytes fault other is twin = refused-one is.counts is.split fault other is.refused (refused-here bytes is.counts is.split is.form other twin)

-- what the bytes are, by the answer that they have
data Case (bytes : List ℕ) (answer : Answer) : Type 0 where
  Other : (number : ℕ) → IsOtherDraws bytes number → answer ≡ Refusal (Lines number) → Case bytes answer
  Unnamed : (fault : JoinFault) (refusal : Fault) → IsUnnamed bytes fault → stop_of_join fault ≡ Refused refusal → answer ≡ Refusal refusal → Case bytes answer
  Named : (text : List ℕ) → IsDrawsReport bytes text → answer ≡ Report Done text None → Case bytes answer

case : (bytes : List ℕ) (answer : Answer) → draws_answer bytes answer → Case bytes answer
case bytes (Report Done text None) is = Named text is refl
case bytes (Refusal (Lines number)) is = Other number is refl
case bytes (Refusal (Miscount thread counted seen)) is = Unnamed (join.Miscount thread counted seen) (Miscount thread counted seen) is refl refl
case bytes (Refusal (Offsets thread counted seen)) is = Unnamed (join.Offsets thread counted seen) (Offsets thread counted seen) is refl refl
case bytes (Refusal (Offset thread place kept below)) is = Unnamed (join.Offset thread place kept below) (Offset thread place kept below) is refl refl
case bytes _ is = absurd is

named-unnamed : (bytes text : List ℕ) (fault : JoinFault) (refusal : Fault) → IsDrawsReport bytes text → IsUnnamed bytes fault → stop_of_join fault ≡ Refused refusal → ⊥
named-unnamed bytes text fault refusal is twin stop =
    let none : fault ≡ join.OutOfMemory = refused-only is.counts is.split fault (refused-here bytes is.counts is.split is.form fault twin) is.draws is.named in
    cc (sym (ap stop_of_join none) ∙ stop)

refusal-one : (bytes : List ℕ) (fault other : JoinFault) (refusal twin : Fault) → IsUnnamed bytes fault → IsUnnamed bytes other
    → stop_of_join fault ≡ Refused refusal → stop_of_join other ≡ Refused twin → twin ≡ refusal
refusal-one bytes fault other refusal twin is are stop again =
    let stops : Refused twin ≡ Refused refusal = sym again ∙ ap stop_of_join (unnamed-one bytes fault other is are) ∙ stop in
    cc stops

case-one : (bytes : List ℕ) (answer other : Answer) → Case bytes answer → Case bytes other → other ≡ answer
case-one bytes answer other (Other number wrong is) (Other twin again same) =
    same ∙ ap (λ (n : ℕ). Refusal (Lines n)) (other-one bytes number twin wrong again) ∙ sym is
case-one bytes answer other (Other number wrong is) (Unnamed fault refusal none stop same) = absurd (no-wrong bytes none.counts none.split number none.form wrong)
case-one bytes answer other (Other number wrong is) (Named text named same) = absurd (no-wrong bytes named.counts named.split number named.form wrong)
case-one bytes answer other (Unnamed fault refusal none stop is) (Other number wrong same) = absurd (no-wrong bytes none.counts none.split number none.form wrong)
case-one bytes answer other (Unnamed fault refusal none stop is) (Unnamed cause twin again stopped same) =
    same ∙ ap (λ (f : Fault). Refusal f) (refusal-one bytes fault cause refusal twin none again stop stopped) ∙ sym is
case-one bytes answer other (Unnamed fault refusal none stop is) (Named text named same) = absurd (named-unnamed bytes text fault refusal named none stop)
case-one bytes answer other (Named text named is) (Other number wrong same) = absurd (no-wrong bytes named.counts named.split number named.form wrong)
case-one bytes answer other (Named text named is) (Unnamed fault refusal none stop same) = absurd (named-unnamed bytes text fault refusal named none stop)
case-one bytes answer other (Named text named is) (Named again twin same) = same ∙ ap (λ (t : List ℕ). Report Done t None) (report-one bytes text again named twin) ∙ sym is

pub draws-one : MakesOne draws_answer
draws-one bytes answer other is twin = case-one bytes answer other (case bytes answer is) (case bytes other twin)
