-- An order and offsets that draws name are refused only for want of memory.
use Rattle.std.proofs.Common.{◌≡◌, ℕ, List, refl, sym, ◌∙◌, arith}
use Rattle.draw_split.specs.JoinFault.{IsRefused}
use Rattle.draw_split.specs.Named.{Names}
use Rattle.draw_split.specs.Split.{Parts}
use Rattle.draw_split.specs.declared.joining.JoinFault.{JoinFault}
use Rattle.draw_split.specs.declared.joining.JoinFault.TheVariants.{Miscount, Offsets, Offset, OutOfMemory}
use Rattle.draw_split.proofs.NamedOrders.{names-fits, names-rooms}

pub refused-only : (counts : List ℕ) (split : Parts) (fault : JoinFault) → IsRefused counts split fault → (draws : List ℕ) → Names counts draws split → fault ≡ OutOfMemory
refused-only counts split (Miscount thread counted seen) is draws names =
    let fits = names-fits counts draws split names in
    absurd (is.differ (is.counted_is ∙ sym (fits.each thread) ∙ sym is.seen_is))
refused-only counts split (Offsets thread counted seen) is draws names =
    let room = names-rooms counts draws split names thread in
    absurd (is.differ (is.counted_is ∙ sym room.full ∙ sym is.seen_is))
refused-only counts split (Offset thread place kept below) is draws names =
    let room = names-rooms counts draws split names thread in
    absurd (omega (arith, room.each place is.there, is.kept_is, is.left, is.large))
refused-only counts split OutOfMemory is draws names = refl
