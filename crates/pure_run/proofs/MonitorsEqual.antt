-- What `==` says of lists of monitors.
use Rattle.std.proofs.Common.{◌≡◌, ◌&&◌, eqb, Bool, true, false, Decides, refl, ◌∙◌, ap, List}
use Rattle.std.proofs.lemmas.Bool.{false≢true}
use Rattle.std.proofs.lemmas.Bool.Decides.{Decides-eqb}
use Rattle.std.proofs.lemmas.Slice.Eq.{slice_eq-Decides}
use Rattle.std.specs.Cmp.Lexicographic.{pointwise}
use Rattle.test_world.specs.declared.monitor.Monitor.{Monitor}
use Rattle.test_world.specs.declared.monitor.Monitor.TheVariants.{WriteAhead, LogWhole, Expect, CellEnd}
use Rattle.test_world.specs.contracts.monitor.MonitorPartialEq.TheImpl.{eq-value}

both-true : (x y : Bool) → (x && y) ≡ true → (x ≡ true) × (y ≡ true)
both-true true y h = (refl, h)
both-true false y h = absurd (false≢true h)

from-both : (x y : Bool) → x ≡ true → y ≡ true → (x && y) ≡ true
from-both x y p q = ap (λ (b : Bool). b && y) p ∙ q

same-monitor : (a b : Monitor) → Decides (eq-value.it a b) (a ≡ b)
same-monitor WriteAhead WriteAhead = (λ _. refl, λ _. refl)
same-monitor LogWhole LogWhole = (λ _. refl, λ _. refl)
same-monitor Expect Expect = (λ _. refl, λ _. refl)
same-monitor (CellEnd a v) (CellEnd b w) = (
  (λ h.
      let parts = both-true (eqb a b) (eqb v w) h in
      let cells : a ≡ b = (Decides-eqb a b).0 parts.0 in
      let values : v ≡ w = (Decides-eqb v w).0 parts.1 in
      cc),
  (λ h.
      let cells : a ≡ b = cc in
      let values : v ≡ w = cc in
      from-both (eqb a b) (eqb v w) ((Decides-eqb a b).1 cells) ((Decides-eqb v w).1 values)),
)
same-monitor a b = (λ h. cc, λ h. cc)

-- it is true exactly where the lists are equal
pub same_monitors : (xs ys : List Monitor) (r : Bool) → r ≡ pointwise eq-value.it xs ys → Decides r (xs ≡ ys)
same_monitors = slice_eq-Decides same-monitor
