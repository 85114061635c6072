-- A node is put in at a place of a list: all lists are linked again.
use Rattle.std.proofs.Common.{◌≡◌, ◌≢◌, ℕ, suc, ◌+◌, ◌<◌, ◌≤◌, inl, inr, List, ◌∷◌, ◌++◌, length, refl, ap, sym, subst, ◌∙◌, arith}
use Rattle.std.specs.Prelude.{slice_index, slice_set}
use Rattle.std.proofs.lemmas.Bool.{cases_eq}
use Rattle.std.proofs.lemmas.List.{get_or-set_same, get_or-set_other, length-set, length-append, append_assoc}
use Rattle.frame_links.specs.Lists.{times, times_in, list_at, list_of}
use Rattle.frame_links.specs.Linked.{IsPath, points_past, AreLinked, way_with}
use Rattle.frame_links.proofs.Times.{times-same, times-other, times-cons_le, times-append, times-apart}
use Rattle.frame_links.proofs.Counts.{times_in-set, node_count-set, list_of-set_new, list_of-set_other}
use Rattle.frame_links.proofs.PathsKept.{last_of, path-before_in, path-put_in, path-before, IsPutIn}
use Rattle.frame_links.proofs.PointsOfLists.{points-low, points-once_but, points-within, points-set, points-at, points_up_to, points_beyond}
use Rattle.frame_links.proofs.NodeTakenOut.{AreLinkedBut}

-- what putting a node in writes
pub links-put_in : (after before : List ℕ) (node right : ℕ) → node < length after → node < length before → right < length before → slice_index before right < length after
    → right ≢ node → slice_index before right ≢ node
    → IsPutIn (slice_index after) (slice_index before) (slice_index (way_with after (slice_index before right) node right))
    (slice_index (way_with before right node (slice_index before right))) (slice_index before right) node right
links-put_in after before node right node_after node_before right_in left_in right_apart left_apart =
    let left : ℕ = slice_index before right in
    record {
      left_after = get_or-set_other (slice_set after left node) node left right 0 left_apart ∙ get_or-set_same after left node 0 left_in;
      node_after = get_or-set_same (slice_set after left node) node right 0 (omega (arith, node_after, length-set after left node));
      node_before = get_or-set_same (slice_set before right node) node left 0 (omega (arith, node_before, length-set before right node));
      right_before = get_or-set_other (slice_set before right node) node right left 0 right_apart ∙ get_or-set_same before right node 0 right_in;
      other_after = λ i ne_left ne_node. get_or-set_other (slice_set after left node) node i right 0 ne_node ∙ get_or-set_other after left i node 0 ne_left;
      other_before = λ i ne_right ne_node. get_or-set_other (slice_set before right node) node i left 0 ne_node ∙ get_or-set_other before right i node 0 ne_right;
    }

-- the place in a list at which a node is put in: before this point
pub record IsPlace (nodes : ℕ) (lists : List (List ℕ)) (list : ℕ) (front back : List ℕ) (right : ℕ) (tail : List ℕ) : Type 0 where
  pub there : list < length lists
  pub parts : list_at lists list ≡ front ++ back
  pub next : back ++ suc (nodes + list) ∷ points_beyond nodes lists list ≡ right ∷ tail

-- the points round the place
pub place-points : (nodes : ℕ) (lists : List (List ℕ)) (list : ℕ) (front back : List ℕ) (right : ℕ) (tail : List ℕ) → IsPlace nodes lists list front back right tail
    → points_past nodes lists ≡ (points_up_to nodes lists list ++ front) ++ right ∷ tail
place-points nodes lists list front back right tail place =
    let ends : List ℕ = suc (nodes + list) ∷ points_beyond nodes lists list in
    points-at nodes lists list place.there
    ∙ ap (λ (l : List ℕ). points_up_to nodes lists list ++ (l ++ ends)) place.parts
    ∙ ap (λ (l : List ℕ). points_up_to nodes lists list ++ l) (append_assoc front back ends ∙ ap (λ (l : List ℕ). front ++ l) place.next)
    ∙ sym (append_assoc (points_up_to nodes lists list) front (right ∷ tail))

-- the points after a node was put in there
pub place-filled : (nodes : ℕ) (lists : List (List ℕ)) (list : ℕ) (front back : List ℕ) (right : ℕ) (tail : List ℕ) (node : ℕ)
    → IsPlace nodes lists list front back right tail
    → points_past nodes (slice_set lists list (front ++ node ∷ back)) ≡ (points_up_to nodes lists list ++ front) ++ node ∷ right ∷ tail
place-filled nodes lists list front back right tail node place =
    let ends : List ℕ = suc (nodes + list) ∷ points_beyond nodes lists list in
    points-set nodes lists list (front ++ node ∷ back) place.there
    ∙ ap (λ (l : List ℕ). points_up_to nodes lists list ++ l) (append_assoc front (node ∷ back) ends ∙ ap (λ (l : List ℕ). front ++ node ∷ l) place.next)
    ∙ sym (append_assoc (points_up_to nodes lists list) front (node ∷ right ∷ tail))

-- the lists with the node put in are linked
pub links-with : (after before owners : List ℕ) (lists : List (List ℕ)) (node list : ℕ) (front back : List ℕ) (right : ℕ) (tail : List ℕ)
    → AreLinkedBut node after before owners lists → node < length owners → IsPlace (length owners) lists list front back right tail
    → AreLinked (way_with after (slice_index before right) node right) (way_with before right node (slice_index before right)) (slice_set owners node list)
    (slice_set lists list (front ++ node ∷ back))
links-with after before owners lists node list front back right tail but low place =
    let end : ℕ = length owners in
    let left : ℕ = slice_index before right in
    let items : List ℕ = front ++ node ∷ back in
    let lists_new : List (List ℕ) = slice_set lists list items in
    let after_new : List ℕ = way_with after left node right in
    let before_new : List ℕ = way_with before right node left in
    let owners_new : List ℕ = slice_set owners node list in
    let ahead : List ℕ = points_up_to end lists list ++ front in
    let whole : points_past end lists ≡ ahead ++ right ∷ tail = place-points end lists list front back right tail place in
    let path : IsPath (slice_index after) (slice_index before) end (ahead ++ right ∷ tail) =
    subst (λ (l : List ℕ). IsPath (slice_index after) (slice_index before) end l) whole but.path in
    let most : (point : ℕ) → times point (end ∷ points_past end lists) ≤ 1 = points-once_but end lists node but.gone but.once but.within in
    let once : (point : ℕ) → times point (end ∷ ahead ++ right ∷ tail) ≤ 1 = subst (λ (l : List ℕ). (point : ℕ) → times point (end ∷ l) ≤ 1) whole most in
    let none : times node (end ∷ points_past end lists) ≡ 0 = times-other node end (points_past end lists) (λ e. omega (arith, e, low))
    ∙ points-low node end lists (omega (arith, low)) ∙ but.gone in
    let absent : times node (end ∷ ahead ++ right ∷ tail) ≡ 0 = subst (λ (l : List ℕ). times node (end ∷ l) ≡ 0) whole none in
    let last : left ≡ last_of end ahead = path-before (slice_index after) (slice_index before) end ahead right tail path in
    let right_there : 1 ≤ times right (ahead ++ right ∷ tail) = omega (arith, times-append right ahead (right ∷ tail), times-same right right tail refl) in
    let right_all : 1 ≤ times right (end ∷ points_past end lists) =
    omega (arith, subst (λ (l : List ℕ). 1 ≤ times right l) (sym whole) right_there, times-cons_le right end (points_past end lists)) in
    let left_all : 1 ≤ times left (end ∷ points_past end lists) =
    path-before_in (slice_index after) (slice_index before) end (points_past end lists) right but.path
    (subst (λ (l : List ℕ). 1 ≤ times right l) (sym whole) right_there) in
    let right_in : right < length before = omega (arith, but.both, but.points, points-within right end lists but.within right_all) in
    let left_in : left < length after = omega (arith, but.points, points-within left end lists but.within left_all) in
    let put : IsPutIn (slice_index after) (slice_index before) (slice_index after_new) (slice_index before_new) left node right =
    links-put_in after before node right (omega (arith, low, but.points)) (omega (arith, low, but.both, but.points)) right_in left_in
    (times-apart right node (end ∷ points_past end lists) right_all none) (times-apart left node (end ∷ points_past end lists) left_all none) in
    let same_end : length owners_new ≡ end = length-set owners node list in
    let length_after : length after_new ≡ length after = length-set (slice_set after left node) node right ∙ length-set after left node in
    let length_before : length before_new ≡ length before = length-set (slice_set before right node) node left ∙ length-set before right node in
    let path_new : IsPath (slice_index after_new) (slice_index before_new) end (points_past end lists_new) =
    subst (λ (l : List ℕ). IsPath (slice_index after_new) (slice_index before_new) end l) (sym (place-filled end lists list front back right tail node place))
    (path-put_in (slice_index after) (slice_index before) (slice_index after_new) (slice_index before_new) left node right put end ahead tail path
    (sym last) once absent) in
    let there_new : (other : ℕ) → times_in other lists_new + times other (front ++ back) ≡ times_in other lists + times other items =
    λ other. ap (λ (l : List ℕ). times_in other lists_new + times other l) (sym place.parts) ∙ times_in-set other lists list items place.there in
    let split : (other : ℕ) → times other (front ++ back) ≡ times other front + times other back = λ other. times-append other front back in
    let split_new : (other : ℕ) → times other items ≡ times other front + times other (node ∷ back) = λ other. times-append other front (node ∷ back) in
    let others : (other : ℕ) → other ≢ node → times other items ≡ times other (list_at lists list) =
    λ other ne. split_new other ∙ ap (λ n. times other front + n) (times-other other node back (λ e. ne (sym e))) ∙ sym (split other)
    ∙ ap (times other) (sym place.parts) in
    let in_items : 1 ≤ times node items = omega (arith, split_new node, times-same node node back refl) in
    record {
      path = subst (λ n. IsPath (slice_index after_new) (slice_index before_new) n (points_past n lists_new)) (sym same_end) path_new;
      once = λ other lt. elim (cases_eq other node) as (λ _. times_in other lists_new ≡ 1) [
        | inl same ↦ subst (λ n. times_in n lists_new ≡ 1) (sym same)
            (omega (arith, there_new node, split node, split_new node, times-same node node back refl, but.gone))
        | inr ne ↦ omega (
          arith,
          there_new other,
          split other,
          split_new other,
          times-other other node back (λ e. ne (sym e)),
          but.once other ne
              (omega (arith, lt, same_end)),
        )
      ];
      within = λ other le. omega (
        arith,
        there_new other,
        split other,
        split_new other,
        times-other other node back
            (λ e. omega (arith, e, low, le, same_end)),
        but.within other (omega (arith, le, same_end)),
      );
      owned = λ other lt. elim (cases_eq other node) as (λ _. slice_index owners_new other ≡ list_of lists_new other) [
        | inl same ↦ ap (slice_index owners_new) same ∙ get_or-set_same owners node list 0 low
            ∙ sym (ap (list_of lists_new) same ∙ list_of-set_new node lists list items place.there but.gone in_items)
        | inr ne ↦ get_or-set_other owners node other list 0 ne ∙ but.owned other ne (omega (arith, lt, same_end))
            ∙ sym (list_of-set_other other lists list items (others other ne))
      ];
      nodes = omega (
        arith,
        node_count-set lists list items place.there,
        ap length place.parts,
        length-append front back,
        length-append front
            (node ∷ back),
        but.nodes,
        same_end,
      );
      points = omega (arith, length_after, but.points, same_end, length-set lists list items);
      both = omega (arith, length_before, length_after, but.both);
      fits = omega (arith, same_end, but.fits);
    }

-- the points on both sides of the place
pub record IsInside (after before : List ℕ) (right : ℕ) : Type 0 where
  pub right_in : right < length before
  pub left_in : slice_index before right < length after

pub place-inside : (after before owners : List ℕ) (lists : List (List ℕ)) (node list : ℕ) (front back : List ℕ) (right : ℕ) (tail : List ℕ)
    → AreLinkedBut node after before owners lists → IsPlace (length owners) lists list front back right tail → IsInside after before right
place-inside after before owners lists node list front back right tail but place =
    let end : ℕ = length owners in
    let ahead : List ℕ = points_up_to end lists list ++ front in
    let whole : points_past end lists ≡ ahead ++ right ∷ tail = place-points end lists list front back right tail place in
    let there : 1 ≤ times right (points_past end lists) =
    subst (λ (l : List ℕ). 1 ≤ times right l) (sym whole) (omega (arith, times-append right ahead (right ∷ tail), times-same right right tail refl)) in
    let left_all : 1 ≤ times (slice_index before right) (end ∷ points_past end lists) =
    path-before_in (slice_index after) (slice_index before) end (points_past end lists) right but.path there in
    record {
      right_in = omega (arith, but.both, but.points, points-within right end lists but.within (omega (arith, there, times-cons_le right end (points_past end lists))));
      left_in = omega (arith, but.points, points-within (slice_index before right) end lists but.within left_all);
    }
