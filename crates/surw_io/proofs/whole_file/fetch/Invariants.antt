use Rattle.std.proofs.Common.{◌≡◌, List, ℕ, Some, ◌-◌, ◌≤◌, length}
use Rattle.surw_io.specs.Cause.{one_more}
use Rattle.surw_io.specs.Content.{Missing, content_of, with_prefix}
use Rattle.surw_io.proofs.whole_file.fetch.Given as goal

abbrev pub invariant-loop-bytes : goal.invariant-loop-bytes
invariant-loop-bytes g l = record {
  there : g.F.Shelf.coming l.fn.shelf l.name ≡ Some Missing → ⊥;
  told : content_of (g.F.Shelf.coming l.fn.shelf l.name) ≡ with_prefix l.bytes.items (g.F.Shelf.left l.shelf);
  short : length l.bytes.items ≤ l.limit;
  moved : (other : List ℕ) → g.F.Shelf.coming l.shelf other ≡ g.F.Shelf.coming_after l.fn.shelf other;
  calm : g.F.Shelf.in_faults l.shelf ≡ g.F.Shelf.in_faults l.fn.shelf;
  opens : g.F.Shelf.opens l.shelf ≡ one_more (g.F.Shelf.opens l.fn.shelf);
  made : g.F.Shelf.made l.shelf ≡ g.F.Shelf.made l.fn.shelf;
  ready : g.F.Shelf.ready l.shelf ≡ g.F.Shelf.ready l.fn.shelf;
  out_faults : g.F.Shelf.out_faults l.shelf ≡ g.F.Shelf.out_faults l.fn.shelf;
  buffer : length l.buffer ≡ 8192;
}

abbrev pub decreases-loop-bytes : goal.decreases-loop-bytes
decreases-loop-bytes g l = l.limit - length l.bytes.items
