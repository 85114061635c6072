-- What holds of a journal so far, while no entry is forced: its selected events stand in the order that the draws name.
use Rattle.std.proofs.Common.{◌≡◌, ℕ, suc, ◌+◌, ◌&&◌, ◌<◌, not, Bool, true, false, cond, List, [], ◌∷◌, ◌++◌, length, map, sum, take, get_or, None, Some, Ok, refl, ap, sym, subst, ◌∙◌, inl, inr, arith}
use Rattle.std.proofs.Math.Seq.{take-length}
use Rattle.std.proofs.lemmas.Bool.{cases_Bool}
use Rattle.std.proofs.lemmas.List.{append_assoc, append-nil, length-map, map-append, take_more, length_push, get_or_push}
use Rattle.std.proofs.lemmas.List.Elements.{filter-append}
use Rattle.std.specs.List.{filter}
use Rattle.draw_split.specs.Bag.{pick, less_one}
use Rattle.draw_split.specs.Named.{named_order}
use Rattle.draw_split.proofs.Bag.{placed, sum-less_one}
use Rattle.draw_split.proofs.NamedOrders.{AreGood, good-cons, named_order-cons}
use Rattle.seed_draws.specs.Answers.{Source, IsSource}
use Rattle.seed_draws.specs.Falling.{falling}
use Rattle.event_class.specs.declared.pickable.Pickable.{Pickable}
use Rattle.event_class.specs.Selection.{has}
use Rattle.walk_rules.specs.declared.picked.Picked.TheVariants.{Grant}
use Rattle.run_rules.specs.declared.entry.Entry.{Entry}
use Rattle.run_rules.specs.EventsMade.{selected_order}
use Rattle.run_rules.specs.Intention.{ends_intention, ending_prefixes, intention_lefts, intended_by, intended_after}
use Rattle.run_rules.specs.NumbersLeft.{numbers_left}
use Rattle.run_rules.specs.Position.{Position}
use Rattle.run_rules.specs.Setup.{Setup}
use Rattle.run_rules.specs.SurwChoice.{surw_choice}
use Rattle.run_rules.proofs.Intentions.{lefts-kept, lefts-more, IsIntendedBy, intended-draw}
use Rattle.run_rules.proofs.Numbers.{left-kept, left-more, left-none}
use Rattle.selected_order.proofs.UnforcedGrants.{surw-intended}

-- the numbers left after a journal
abbrev pub left_of : Setup → List Entry → List ℕ
left_of setup journal = numbers_left setup.selection setup.counts journal

-- so many intentions were reached as selected events were made, each by the answer to its sum; the sums asked and those
-- still to come fall from the sum of the counts to 1; the order so far, and what any further draws name of the numbers left,
-- is what the draws and the further draws name of the counts
pub record IsInOrder (setup : Setup) (journal : List Entry) : Type 0 where
  pub before : List (List ℕ)
  pub draws : List ℕ
  pub asked : intention_lefts setup.selection setup.counts journal ≡ before ++ left_of setup journal ∷ []
  pub falls : map sum before ++ falling (sum (left_of setup journal)) ≡ falling (sum setup.counts)
  pub answered : setup.selected.answers (map sum before) ≡ Ok draws
  pub named : (rest : List ℕ) → named_order setup.counts (draws ++ rest) ≡ selected_order setup.selection journal ++ named_order (left_of setup journal) rest
  pub good : (rest : List ℕ) → AreGood (left_of setup journal) rest → AreGood setup.counts (draws ++ rest)

-- ---- at the start

pub in-order-none : (setup : Setup) → setup.selected.answers [] ≡ Ok [] → IsInOrder setup []
unfolding intention_lefts ending_prefixes selected_order
in-order-none setup none =
    let start : left_of setup [] ≡ setup.counts = left-none setup.selection setup.counts in
    record {
      before = [];
      draws = [];
      asked = refl;
      falls = ap (λ counts. falling (sum counts)) start;
      answered = none;
      named = λ rest. ap (λ counts. named_order counts rest) (sym start);
      good = λ rest are. subst (λ counts. AreGood counts rest) start are;
    }

-- ---- one entry more

order-kept : (selection : List Pickable) (journal : List Entry) (entry : Entry) → has selection entry.event ≡ false
    → selected_order selection (journal ++ entry ∷ []) ≡ selected_order selection journal
unfolding selected_order
order-kept selection journal entry skipped =
    ap (λ entries. map (λ (e : Entry). e.thread) entries)
    (filter-append (λ (e : Entry). has selection e.event) journal (entry ∷ [])
    ∙ ap (λ (b : Bool). filter (λ (e : Entry). has selection e.event) journal ++ cond b (entry ∷ []) []) skipped
    ∙ append-nil (filter (λ (e : Entry). has selection e.event) journal))

order-more : (selection : List Pickable) (journal : List Entry) (entry : Entry) → has selection entry.event ≡ true
    → selected_order selection (journal ++ entry ∷ []) ≡ selected_order selection journal ++ entry.thread ∷ []
unfolding selected_order
order-more selection journal entry selected =
    ap (λ entries. map (λ (e : Entry). e.thread) entries)
    (filter-append (λ (e : Entry). has selection e.event) journal (entry ∷ [])
    ∙ ap (λ (b : Bool). filter (λ (e : Entry). has selection e.event) journal ++ cond b (entry ∷ []) []) selected)
    ∙ map-append (λ (e : Entry). e.thread) (filter (λ (e : Entry). has selection e.event) journal) (entry ∷ [])

-- an entry that isn't selected changes nothing
in-order-skip : (setup : Setup) (journal : List Entry) (entry : Entry) → IsInOrder setup journal → has setup.selection entry.event ≡ false
    → IsInOrder setup (journal ++ entry ∷ [])
in-order-skip setup journal entry is skipped =
    let left : left_of setup (journal ++ entry ∷ []) ≡ left_of setup journal = left-kept setup.selection setup.counts journal entry skipped in
    let order = order-kept setup.selection journal entry skipped in
    let no_end : ends_intention setup.selection entry ≡ false = ap (λ (b : Bool). b && not entry.forced) skipped in
    record {
      before = is.before;
      draws = is.draws;
      asked = lefts-kept setup.selection setup.counts journal entry no_end ∙ is.asked ∙ ap (λ l. is.before ++ l ∷ []) (sym left);
      falls = ap (λ l. map sum is.before ++ falling (sum l)) left ∙ is.falls;
      answered = is.answered;
      named = λ rest. is.named rest ∙ (λ i. sym order i ++ named_order (sym left i) rest);
      good = λ rest are. is.good rest (subst (λ l. AreGood l rest) left are);
    }

-- one that is selected takes the next draw
pub falling-more : (sums : List ℕ) (left less : ℕ) → less + 1 ≡ left → sums ++ falling left ≡ (sums ++ left ∷ []) ++ falling less
unfolding falling
falling-more sums left less one =
    let next : left ≡ suc less = omega (arith, one) in
    ap (λ n. sums ++ falling n) next
    ∙ sym (append_assoc sums (suc less ∷ []) (falling less))
    ∙ ap (λ n. (sums ++ n ∷ []) ++ falling less) (sym next)

-- an answer to one bound more is the draws so far with one more
record IsOneMore (draws all : List ℕ) : Type 0 where
  draw : ℕ
  at : get_or all (length draws) 0 ≡ draw
  is : all ≡ draws ++ draw ∷ []

one-more : (source : Source) (bounds draws all : List ℕ) (bound : ℕ) → IsSource source.answers → source.answers bounds ≡ Ok draws
    → source.answers (bounds ++ bound ∷ []) ≡ Ok all → IsOneMore draws all
one-more source bounds draws all bound is_source before after =
    let prefix : Ok (take (length bounds) all) ≡ Ok draws = sym (is_source.first bounds (bound ∷ []) all after) ∙ before in
    let same : take (length bounds) all ≡ draws = cc in
    let short : length draws ≡ length bounds = is_source.each bounds draws before in
    let long : length all ≡ length bounds + 1 = is_source.each (bounds ++ bound ∷ []) all after ∙ length_push bounds bound in
    record {
      draw = get_or all (length bounds) 0;
      at = ap (λ n. get_or all n 0) short;
      is = sym (take-length all) ∙ ap (λ n. take n all) long ∙ take_more all (length bounds) 0 (omega (arith, long))
          ∙ ap (λ prefix. prefix ++ get_or all (length bounds) 0 ∷ []) same;
    }

in-order-take : (setup : Setup) (journal : List Entry) (entry : Entry) → IsSource setup.selected.answers → IsInOrder setup journal
    → has setup.selection entry.event ≡ true → entry.forced ≡ false → intended_after setup journal ≡ Ok (Some entry.thread)
    → IsInOrder setup (journal ++ entry ∷ [])
unfolding intended_after
in-order-take setup journal entry is_source is selected unforced intended =
    let longer : List Entry = journal ++ entry ∷ [] in
    let left : List ℕ = left_of setup journal in
    let answers = setup.selected.answers in
    let by : IsIntendedBy answers is.before left entry.thread =
    intended-draw answers is.before left entry.thread (ap (intended_by answers) (sym is.asked) ∙ intended) in
    let more : IsOneMore is.draws by.draws = one-more setup.selected (map sum is.before) is.draws by.draws (sum left) is_source is.answered by.answered in
    let many : length is.draws ≡ length is.before = is_source.each (map sum is.before) is.draws is.answered ∙ length-map is.before sum in
    let drawn : pick left more.draw ≡ entry.thread = ap (pick left) (sym more.at ∙ ap (λ n. get_or by.draws n 0) many) ∙ by.picked in
    let bounds : List ℕ = map sum is.before ++ sum left ∷ [] in
    let last : get_or bounds (length is.before) 0 ≡ sum left =
    get_or_push (map sum is.before) (sum left) 0 (length is.before) (length-map is.before sum) in
    let inside : length is.before < length bounds = omega (arith, length_push (map sum is.before) (sum left), length-map is.before sum) in
    let under = is_source.below bounds by.draws by.answered (length is.before) inside (omega (arith, last, by.some)) in
    let below : more.draw < sum left = omega (arith, last, many, more.at, ap (λ n. get_or by.draws n 0) many, under) in
    let place = placed left more.draw below in
    let some : 0 < get_or left entry.thread 0 = omega (arith, place.within, ap (λ t. get_or left t 0) drawn) in
    let less : left_of setup longer ≡ less_one left entry.thread = left-more setup.selection setup.counts journal entry selected in
    let fewer : sum (left_of setup longer) + 1 ≡ sum left = ap (λ l. sum l + 1) less ∙ sum-less_one left entry.thread some in
    let after : less_one left (pick left more.draw) ≡ left_of setup longer = ap (less_one left) drawn ∙ sym less in
    let end : ends_intention setup.selection entry ≡ true = (λ i. selected i && not (unforced i)) in
    let sums : map sum (is.before ++ left ∷ []) ≡ bounds = map-append sum is.before (left ∷ []) in
    record {
      before = is.before ++ left ∷ [];
      draws = by.draws;
      asked = lefts-more setup.selection setup.counts journal entry end ∙ ap (λ lefts. lefts ++ left_of setup longer ∷ []) is.asked;
      falls = ap (λ s. s ++ falling (sum (left_of setup longer))) sums
          ∙ sym (falling-more (map sum is.before) (sum left) (sum (left_of setup longer)) fewer) ∙ is.falls;
      answered = ap answers sums ∙ by.answered;
      named = λ rest.
          ap (λ ds. named_order setup.counts (ds ++ rest)) more.is
          ∙ ap (named_order setup.counts) (append_assoc is.draws (more.draw ∷ []) rest)
          ∙ is.named (more.draw ∷ rest)
          ∙ ap (λ order. selected_order setup.selection journal ++ order) (named_order-cons left more.draw rest)
          ∙ (λ i. selected_order setup.selection journal ++ drawn i ∷ named_order (after i) rest)
          ∙ sym (append_assoc (selected_order setup.selection journal) (entry.thread ∷ []) (named_order (left_of setup longer) rest))
          ∙ ap (λ order. order ++ named_order (left_of setup longer) rest) (sym (order-more setup.selection journal entry selected));
      good = λ rest are.
          subst (AreGood setup.counts) (sym (ap (λ ds. ds ++ rest) more.is ∙ append_assoc is.draws (more.draw ∷ []) rest))
          (is.good (more.draw ∷ rest) (good-cons left more.draw rest below (subst (λ l. AreGood l rest) (sym after) are)));
    }

-- an unforced entry that SURW chooses keeps the order
pub in-order-more : (setup : Setup) (x : Position) (entry : Entry) → IsSource setup.selected.answers → IsSource setup.other.answers
    → IsInOrder setup x.journal → entry.forced ≡ false → surw_choice setup x ≡ Grant entry.thread entry.forced
    → get_or x.words entry.thread None ≡ Some entry.event → IsInOrder setup (x.journal ++ entry ∷ [])
in-order-more setup x entry selected other is unforced chosen word = elim (cases_Bool (has setup.selection entry.event)) [
  | inl takes ↦
      in-order-take setup x.journal entry selected is takes unforced
      (surw-intended setup x entry.thread entry.event other (chosen ∙ ap (Grant entry.thread) unforced) word takes)
  | inr skips ↦ in-order-skip setup x.journal entry is skips
]
