-- The draws of the first pick: an order, and then the change points.
use Rattle.std.proofs.Common.{◌≡◌, ℕ, zero, suc, ◌+◌, ◌-◌, ◌<◌, Bool, cond, List, [], ◌∷◌, ◌++◌, length, drop, take, replicate, map, None, Result, Ok, Err, refl, ap, sym, ◌∙◌, arith}
use Rattle.std.proofs.lemmas.Bool.{eq-eqb, ne_eqb}
use Rattle.std.specs.List.{range_with_len}
use Rattle.draw_split.specs.Bag.{less_one, pick}
use Rattle.draw_split.specs.Named.{named_order}
use Rattle.draw_split.proofs.NamedOrders.{named_order-cons, named_order-nil}
use Rattle.pct_draws.specs.Order.{order_found}
use Rattle.pct_draws.proofs.DrawSteps.{after-cons, after-nil, answers-cons, answers-nil, prepended, prepended-none}
use Rattle.seed_draws.proofs.Asked.{after_bounds-append}
use Rattle.seed_draws.specs.Answers.{after_bounds, answers, unless_refused, with_first}
use Rattle.seed_draws.specs.Falling.{falling}
use Rattle.seed_draws.specs.declared.draw_fault.DrawFault.{DrawFault}
use Rattle.seed_draws.specs.declared.draws.Draws.{Ghosts}
use Rattle.walk_rules.specs.Pct.{first_memory, found_by, pct_asked, pct_bounds, place_of}
use Rattle.walk_rules.specs.Ranked.{Ranked}
use Rattle.walk_rules.specs.State.{Memory, memory_of}
use Rattle.walk_rules.specs.PctDraws.{draws_found}

-- both, one after the other
joined : Result (List ℕ) DrawFault → Result (List ℕ) DrawFault → Result (List ℕ) DrawFault
joined (Ok prefix) rest = prepended prefix rest
joined (Err fault) rest = Err fault

with-joined : (draw : ℕ) (rest more : Result (List ℕ) DrawFault) → with_first (Ok draw) (joined rest more) ≡ joined (with_first (Ok draw) rest) more
unfolding joined
with-joined draw (Ok prefix) (Ok back) = refl
with-joined draw (Ok prefix) (Err fault) = refl
with-joined draw (Err fault) more = refl

joined-after : {S : Type 0} (first : Result ℕ DrawFault) (rest : Result (List ℕ) DrawFault) (here later : S) (answer : S → Result (List ℕ) DrawFault)
    → with_first first (joined rest (answer later)) ≡ joined (with_first first rest) (answer (unless_refused first here later))
unfolding joined
joined-after (Err fault) rest here later answer = refl
joined-after (Ok draw) rest here later answer = with-joined draw rest (answer later)

joined-none : (r : Result (List ℕ) DrawFault) → r ≡ joined (Ok []) r
unfolding joined
joined-none r = sym (prepended-none r)

answers-joined : {S : Type 0} (draws : Ghosts S) (source : S) (bounds more : List ℕ)
    → answers draws source (bounds ++ more) ≡ joined (answers draws source bounds) (answers draws (after_bounds draws source bounds) more)
answers-joined draws source [] more =
    joined-none (answers draws source more)
    ∙ (λ i. joined (sym (answers-nil draws source) i) (answers draws (sym (after-nil draws source) i) more))
answers-joined draws source (bound ∷ bounds) more =
    answers-cons draws source bound (bounds ++ more)
    ∙ ap (with_first (draws.answer source bound)) (answers-joined draws (draws.after_answer source bound) bounds more)
    ∙ joined-after (draws.answer source bound) (answers draws (draws.after_answer source bound) bounds) (draws.after_answer source bound)
    (after_bounds draws (draws.after_answer source bound) bounds) (λ s. answers draws s more)
    ∙ (λ i. joined (sym (answers-cons draws source bound bounds) i) (answers draws (sym (after-cons draws source bound bounds) i) more))

length-named : (left draws : List ℕ) → length (named_order left draws) ≡ length draws
length-named left [] = ap length (named_order-nil left)
length-named left (draw ∷ draws) = ap length (named_order-cons left draw draws) ∙ ap suc (length-named (less_one left (pick left draw)) draws)

take-prefix : (prefix back : List ℕ) (n : ℕ) → length prefix ≡ n → take n (prefix ++ back) ≡ prefix
take-prefix [] back zero is = refl
take-prefix [] back (suc n) is = absurd (omega (arith, is))
take-prefix (x ∷ xs) back zero is = absurd (omega (arith, is))
take-prefix (x ∷ xs) back (suc n) is = ap (λ l. x ∷ l) (take-prefix xs back n (omega (arith, is)))

drop-prefix : (prefix back : List ℕ) (n : ℕ) → length prefix ≡ n → drop n (prefix ++ back) ≡ back
drop-prefix [] back zero is = refl
drop-prefix [] back (suc n) is = absurd (omega (arith, is))
drop-prefix (x ∷ xs) back zero is = absurd (omega (arith, is))
drop-prefix (x ∷ xs) back (suc n) is = drop-prefix xs back n (omega (arith, is))

both-found : (threads : ℕ) (first second : Result (List ℕ) DrawFault) (order changes : List ℕ) → order_found (replicate threads 1) first ≡ Ok order
    → length order ≡ threads → second ≡ Ok changes
    → draws_found threads (joined first second) ≡ Ok (order, changes)
unfolding joined
both-found threads (Err fault) second order changes named long is = absurd (cc)
both-found threads (Ok draws) second order changes named long is =
    let same : named_order (replicate threads 1) draws ≡ order = cc in
    let short : length draws ≡ threads = sym (length-named (replicate threads 1) draws) ∙ ap length same ∙ long in
    ap (λ r. draws_found threads (joined (Ok draws) r)) is
    ∙ (λ i. Ok (named_order (replicate threads 1) (take-prefix draws changes threads short i), drop-prefix draws changes threads short i))
    ∙ ap (λ l. Ok (l, changes)) same

pub draws-both : {S : Type 0} (draws : Ghosts S) (source next : S) (threads : ℕ) (more order changes : List ℕ)
    → order_found (replicate threads 1) (answers draws source (falling threads)) ≡ Ok order → length order ≡ threads
    → next ≡ after_bounds draws source (falling threads) → answers draws next more ≡ Ok changes
    → draws_found threads (answers draws source (falling threads ++ more)) ≡ Ok (order, changes)
draws-both draws source next threads more order changes named long next_is found =
    ap (draws_found threads) (answers-joined draws source (falling threads) more)
    ∙ both-found threads (answers draws source (falling threads)) (answers draws (after_bounds draws source (falling threads)) more) order changes named long
    (ap (λ s. answers draws s more) (sym next_is) ∙ found)

-- a refusal of the first bounds, or of those after them
joined-first : (first second : Result (List ℕ) DrawFault) (fault : DrawFault) → first ≡ Err fault → joined first second ≡ Err fault
unfolding joined
joined-first (Ok prefix) second fault is = absurd (cc)
joined-first (Err other) second fault is = cc

joined-second : (first second : Result (List ℕ) DrawFault) (prefix : List ℕ) (fault : DrawFault) → first ≡ Ok prefix → second ≡ Err fault → joined first second ≡ Err fault
unfolding joined
joined-second (Ok other) second prefix fault is refused = ap (prepended other) refused
joined-second (Err other) second prefix fault is refused = absurd (cc)

pub first-refused : {S : Type 0} (draws : Ghosts S) (source : S) (bounds more : List ℕ) (fault : DrawFault) → answers draws source bounds ≡ Err fault
    → answers draws source (bounds ++ more) ≡ Err fault
first-refused draws source bounds more fault is =
    answers-joined draws source bounds more ∙ joined-first (answers draws source bounds) (answers draws (after_bounds draws source bounds) more) fault is

refused-same : {S : Type 0} (first : Result ℕ DrawFault) (rest : Result (List ℕ) DrawFault) (fault : DrawFault) (here one other : S)
    → with_first first rest ≡ Err fault → (rest ≡ Err fault → one ≡ other)
    → unless_refused first here one ≡ unless_refused first here other
refused-same (Err refusal) rest fault here one other is same = refl
refused-same (Ok draw) (Err refusal) fault here one other is same = same is
refused-same (Ok draw) (Ok draws) fault here one other is same = absurd (cc)

pub after-refused : {S : Type 0} (draws : Ghosts S) (source : S) (bounds more : List ℕ) (fault : DrawFault) → answers draws source bounds ≡ Err fault
    → after_bounds draws source (bounds ++ more) ≡ after_bounds draws source bounds
after-refused draws source [] more fault is = let none : Ok [] ≡ Err fault = sym (answers-nil draws source) ∙ is in absurd (cc)
after-refused draws source (bound ∷ bounds) more fault is =
    after-cons draws source bound (bounds ++ more)
    ∙ refused-same (draws.answer source bound) (answers draws (draws.after_answer source bound) bounds) fault (draws.after_answer source bound)
    (after_bounds draws (draws.after_answer source bound) (bounds ++ more))
    (after_bounds draws (draws.after_answer source bound) bounds) (sym (answers-cons draws source bound bounds) ∙ is)
    (λ rest. after-refused draws (draws.after_answer source bound) bounds more fault rest)
    ∙ sym (after-cons draws source bound bounds)

record HasAnswers (r : Result (List ℕ) DrawFault) : Type 0 where
  draws : List ℕ
  is : r ≡ Ok draws

named-answers : (left : List ℕ) (r : Result (List ℕ) DrawFault) (order : List ℕ) → order_found left r ≡ Ok order → HasAnswers r
named-answers left (Ok draws) order is = record { draws = draws; is = refl }
named-answers left (Err fault) order is = absurd (cc)

-- after an order was drawn the change points are drawn from what is left of the source
pub second-refused : {S : Type 0} (draws : Ghosts S) (source next : S) (threads : ℕ) (more order : List ℕ) (fault : DrawFault)
    → order_found (replicate threads 1) (answers draws source (falling threads)) ≡ Ok order
    → next ≡ after_bounds draws source (falling threads) → answers draws next more ≡ Err fault → answers draws source (falling threads ++ more) ≡ Err fault
second-refused draws source next threads more order fault named next_is refused =
    let found = named-answers (replicate threads 1) (answers draws source (falling threads)) order named in
    answers-joined draws source (falling threads) more
    ∙ joined-second (answers draws source (falling threads)) (answers draws (after_bounds draws source (falling threads)) more) found.draws fault found.is
    (ap (λ s. answers draws s more) (sym next_is) ∙ refused)

pub after-both : {S : Type 0} (draws : Ghosts S) (source next last : S) (threads : ℕ) (more order : List ℕ)
    → order_found (replicate threads 1) (answers draws source (falling threads)) ≡ Ok order
    → next ≡ after_bounds draws source (falling threads) → last ≡ after_bounds draws next more → last ≡ after_bounds draws source (falling threads ++ more)
after-both draws source next last threads more order named next_is last_is =
    let found = named-answers (replicate threads 1) (answers draws source (falling threads)) order named in
    last_is ∙ ap (λ s. after_bounds draws s more) next_is ∙ sym (after_bounds-append draws source (falling threads) more found.draws found.is)

-- after the first step nothing is drawn
pub later-asks : (depth step : ℕ) (counts : List ℕ) → 0 < step → pct_asked depth step counts ≡ []
later-asks depth step counts later = ap (λ (b : Bool). cond b (pct_bounds depth counts) []) (ne_eqb step 0 (λ e. omega (arith, e, later)))

pub first-asks : (depth step : ℕ) (counts : List ℕ) → step ≡ 0 → pct_asked depth step counts ≡ pct_bounds depth counts
first-asks depth step counts first = ap (λ (b : Bool). cond b (pct_bounds depth counts) []) (eq-eqb step 0 first)

pub later-found : {S : Type 0} (draws : Ghosts S) (source : S) (depth step : ℕ) (counts : List ℕ) (memory : Memory) → 0 < step
    → found_by depth step counts memory (answers draws source (pct_asked depth step counts)) ≡ Ok memory
later-found draws source depth step counts memory later =
    ap (found_by depth step counts memory) (ap (answers draws source) (later-asks depth step counts later) ∙ answers-nil draws source)
    ∙ ap (λ (b : Bool). Ok (cond b (first_memory depth counts []) memory)) (ne_eqb step 0 (λ e. omega (arith, e, later)))

pub first-found : (depth step : ℕ) (counts : List ℕ) (memory : Memory) (after : Ranked) (order changes : List ℕ) (r : Result (List ℕ) DrawFault)
    → draws_found (length counts) r ≡ Ok (order, changes) → step ≡ 0 → length order ≡ length counts
    → after.priorities ≡ map (λ thread. depth - 1 + length order - place_of order thread) (range_with_len 0 (length order)) → after.changes ≡ changes
    → found_by depth step counts memory r ≡ Ok (memory_of after)
unfolding first_memory
first-found depth step counts memory after order changes (Err fault) found first long priorities points = absurd (cc)
first-found depth step counts memory after order changes (Ok draws) found first long priorities points =
    let both : ◌≡◌ {A = List ℕ × List ℕ} (named_order (replicate (length counts) 1) (take (length counts) draws), drop (length counts) draws) (order, changes) = cc in
    ap (λ (b : Bool). Ok (cond b (first_memory depth counts draws) memory)) (eq-eqb step 0 first)
    ∙ (λ i. Ok (record {
      intended = None;
      priorities =
          map (λ thread. depth - 1 + sym long i - place_of ((both i).0) thread) (range_with_len 0 (sym long i));
      changes = (both i).1;
    }))
    ∙ (λ i. Ok (record { intended = None; priorities = sym priorities i; changes = sym points i }))
