use Rattle.std.proofs.Common.{◌≡◌, List, ℕ, ◌++◌, length, IsTrue}
use Rattle.surw_io.specs.Made.{with_file}
use Rattle.surw_io.proofs.whole_file.put_file.Given as goal

abbrev pub invariant-loop-rest : goal.invariant-loop-rest
invariant-loop-rest g l = record {
  held : (prefix : List ℕ) × (prefix ++ l.rest ≡ l.bytes) × (g.F.Shelf.made l.shelf ≡ with_file (g.F.Shelf.made l.fn.shelf) l.name prefix);
  ready : IsTrue (g.F.Shelf.ready l.shelf);
  coming : (other : List ℕ) → g.F.Shelf.coming l.shelf other ≡ g.F.Shelf.coming l.fn.shelf other;
  coming_after : (other : List ℕ) → g.F.Shelf.coming_after l.shelf other ≡ g.F.Shelf.coming_after l.fn.shelf other;
  left : g.F.Shelf.left l.shelf ≡ g.F.Shelf.left l.fn.shelf;
  opens : g.F.Shelf.opens l.shelf ≡ g.F.Shelf.opens l.fn.shelf;
  in_faults : g.F.Shelf.in_faults l.shelf ≡ g.F.Shelf.in_faults l.fn.shelf;
  calm : g.F.Shelf.out_faults l.shelf ≡ g.F.Shelf.out_faults l.fn.shelf;
}

abbrev pub decreases-loop-rest : goal.decreases-loop-rest
decreases-loop-rest g l = length l.rest
