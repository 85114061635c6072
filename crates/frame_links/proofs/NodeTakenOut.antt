-- A node is taken out: the lists without it are linked.
use Rattle.std.proofs.Common.{◌≡◌, ◌≢◌, ℕ, ◌+◌, ◌^◌, ◌<◌, ◌≤◌, List, ◌∷◌, length, sym, subst, ◌∙◌, arith}
use Rattle.std.specs.Prelude.{slice_index}
use Rattle.std.proofs.lemmas.List.{get_or-set_same, get_or-set_other, length-set, length-map}
use Rattle.frame_links.specs.Lists.{times, times_in, without, list_of, node_count, taken_out}
use Rattle.frame_links.specs.Linked.{IsPath, points_past, AreLinked, way_without}
use Rattle.frame_links.proofs.Times.{times-cons_le}
use Rattle.frame_links.proofs.Counts.{times_in-taken_out_same, times_in-taken_out_other, list_of-taken_out, node_count-taken_out}
use Rattle.frame_links.proofs.PathsKept.{path-before_in, path-after_in, path-taken_out, IsTakenOut}
use Rattle.frame_links.proofs.PointsOfLists.{points-low, points-once, points-within, points-without, points-last}

-- lists are linked, all nodes but one
pub record AreLinkedBut (node : ℕ) (after before owners : List ℕ) (lists : List (List ℕ)) : Type 0 where
  pub path : IsPath (slice_index after) (slice_index before) (length owners) (points_past (length owners) lists)
  pub gone : times_in node lists ≡ 0
  pub once : (other : ℕ) → other ≢ node → other < length owners → times_in other lists ≡ 1
  pub within : (other : ℕ) → length owners ≤ other → times_in other lists ≡ 0
  pub owned : (other : ℕ) → other ≢ node → other < length owners → slice_index owners other ≡ list_of lists other
  pub nodes : node_count lists + 1 ≡ length owners
  pub points : length after ≡ length owners + length lists + 1
  pub both : length before ≡ length after
  pub fits : length owners < 2 ^ 16

-- both neighbours of a node that is linked
pub record HasNeighbours (after before : List ℕ) (node : ℕ) : Type 0 where
  pub next : slice_index after node < length before
  pub last : slice_index before node < length after

pub neighbours : (after before owners : List ℕ) (lists : List (List ℕ)) (node : ℕ) → AreLinked after before owners lists → node < length owners
    → HasNeighbours after before node
neighbours after before owners lists node are low =
    let there : 1 ≤ times node (points_past (length owners) lists) = omega (arith, points-low node (length owners) lists (omega (arith, low)), are.once node low) in
    let in_all : 1 ≤ times node (length owners ∷ points_past (length owners) lists) =
    omega (arith, there, times-cons_le node (length owners) (points_past (length owners) lists)) in
    let next_in : 1 ≤ times (slice_index after node) (points_past (length owners) lists) =
    path-after_in (slice_index after) (slice_index before) (length owners) (points_past (length owners) lists) node are.path in_all
    (λ e. omega (arith, e, low, points-last (length owners) lists)) in
    let last_in : 1 ≤ times (slice_index before node) (length owners ∷ points_past (length owners) lists) =
    path-before_in (slice_index after) (slice_index before) (length owners) (points_past (length owners) lists) node are.path there in
    record {
      next = omega (
        arith,
        are.both,
        are.points,
        points-within (slice_index after node) (length owners) lists are.within
            (omega (arith, next_in, times-cons_le (slice_index after node) (length owners) (points_past (length owners) lists))),
      );
      last = omega (arith, are.points, points-within (slice_index before node) (length owners) lists are.within last_in);
    }

-- what taking a node out writes
pub links-taken_out : (after before : List ℕ) (node : ℕ) → HasNeighbours after before node
    → IsTakenOut (slice_index after) (slice_index before) (slice_index (way_without after before node)) (slice_index (way_without before after node)) node
links-taken_out after before node has = record {
  after_before = get_or-set_same after (slice_index before node) (slice_index after node) 0 has.last;
  before_after = get_or-set_same before (slice_index after node) (slice_index before node) 0 has.next;
  other_after = λ i ne. get_or-set_other after (slice_index before node) i (slice_index after node) 0 ne;
  other_before = λ i ne. get_or-set_other before (slice_index after node) i (slice_index before node) 0 ne;
}

-- the lists with a node taken out are linked, but for it
pub links-without : (after before owners : List ℕ) (lists : List (List ℕ)) (node : ℕ) → AreLinked after before owners lists → node < length owners
    → AreLinkedBut node (way_without after before node) (way_without before after node) owners (taken_out node lists)
links-without after before owners lists node are low =
    let has = neighbours after before owners lists node are low in
    let there : 1 ≤ times node (points_past (length owners) lists) = omega (arith, points-low node (length owners) lists (omega (arith, low)), are.once node low) in
    let after_new : List ℕ = way_without after before node in
    let before_new : List ℕ = way_without before after node in
    record {
      path = subst (λ (l : List ℕ). IsPath (slice_index after_new) (slice_index before_new) (length owners) l)
          (sym (points-without node (length owners) lists (omega (arith, low))))
          (path-taken_out (slice_index after) (slice_index before) (slice_index after_new) (slice_index before_new) node (links-taken_out after before node has)
          (length owners) (points_past (length owners) lists) are.path (points-once (length owners) lists are.once are.within) there
          (λ e. omega (arith, e, low, points-last (length owners) lists)));
      gone = times_in-taken_out_same node lists;
      once = λ other ne lt. times_in-taken_out_other other node lists ne ∙ are.once other lt;
      within = λ other le. times_in-taken_out_other other node lists (λ e. omega (arith, e, low, le)) ∙ are.within other le;
      owned = λ other ne lt. are.owned other lt ∙ sym (list_of-taken_out other node lists ne);
      nodes = omega (arith, node_count-taken_out node lists, are.once node low, are.nodes);
      points = omega (arith, are.points, length-set after (slice_index before node) (slice_index after node), length-map lists (without node));
      both = omega (
        arith,
        are.both,
        length-set after (slice_index before node) (slice_index after node),
        length-set before (slice_index after node)
            (slice_index before node),
      );
      fits = are.fits;
    }
