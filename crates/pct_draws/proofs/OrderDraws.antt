-- The draws of an order, one after another.
use Rattle.std.proofs.Common.{◌≡◌, ℕ, zero, suc, ◌+◌, ◌-◌, ◌<◌, ◌≤◌, inl, inr, List, [], ◌∷◌, ◌++◌, length, get_or, sum, replicate, Result, Ok, Err, refl, ap, sym, ◌∙◌, arith}
use Rattle.std.proofs.lemmas.List.{append_assoc, append-nil, length_push}
use Rattle.std.proofs.lemmas.Bool.{cases_eq}
use Rattle.std.proofs.lemmas.List.Sums.{sum_by-cons}
use Rattle.draw_split.specs.Bag.{less_one, pick}
use Rattle.draw_split.specs.Named.{named_order}
use Rattle.draw_split.proofs.Bag.{placed, sum-less_one}
use Rattle.draw_split.proofs.NamedOrders.{less_one-other, less_one-same, named_order-cons, named_order-nil, none-left}
use Rattle.frame_links.specs.Lists.{times}
use Rattle.frame_links.proofs.Times.{times-append, times-other, times-same}
use Rattle.pct_draws.specs.Order.{IsOrder, order_found}
use Rattle.pct_draws.proofs.DrawSteps.{after-cons, after-nil, answers-cons, answers-nil, prepended, prepended-none}
use Rattle.seed_draws.specs.Answers.{after_bounds, answers, unless_refused, with_first}
use Rattle.seed_draws.specs.Falling.{falling}
use Rattle.seed_draws.specs.declared.draw_fault.DrawFault.{DrawFault}
use Rattle.seed_draws.specs.declared.draws.Draws.{Ghosts}

-- a thread more in front
named-first : (left order : List ℕ) (draw : ℕ) (r : Result (List ℕ) DrawFault)
    → prepended order (order_found left (with_first (Ok draw) r)) ≡ prepended (order ++ pick left draw ∷ []) (order_found (less_one left (pick left draw)) r)
named-first left order draw (Ok draws) =
    ap (λ l. Ok (order ++ l)) (named_order-cons left draw draws)
    ∙ ap Ok (sym (append_assoc order (pick left draw ∷ []) (named_order (less_one left (pick left draw)) draws)))
named-first left order draw (Err fault) = refl

found-err : (left : List ℕ) (r : Result (List ℕ) DrawFault) (fault : DrawFault) → order_found left r ≡ Err fault → r ≡ Err fault
found-err left (Ok draws) fault is = absurd (cc)
found-err left (Err other) fault is = cc

falling-suc : (n m : ℕ) → n ≡ suc m → falling n ≡ n ∷ falling m
unfolding falling
falling-suc n m is = ap falling is ∙ ap (λ k. k ∷ falling m) (sym is)

falling-zero : (n : ℕ) → n ≡ 0 → falling n ≡ []
unfolding falling
falling-zero n is = ap falling is

sum-ones : (n : ℕ) → sum (replicate n 1) ≡ n
sum-ones zero = refl
sum-ones (suc n) = sum_by-cons (λ x. x) 1 (replicate n 1) ∙ omega (arith, sum-ones n)

past-ones : (n thread : ℕ) → n ≤ thread → ◌≡◌ {A = ℕ} (get_or (replicate n 1) thread 0) 0
past-ones zero thread past = refl
past-ones (suc n) zero past = absurd (omega (arith, past))
past-ones (suc n) (suc thread) past = past-ones n thread (omega (arith, past))

ones-at : (n thread : ℕ) → thread < n → ◌≡◌ {A = ℕ} (get_or (replicate n 1) thread 0) 1
ones-at zero thread lt = absurd (omega (arith, lt))
ones-at (suc n) zero lt = refl
ones-at (suc n) (suc thread) lt = ones-at n thread (omega (arith, lt))

-- a draw's thread has a count
pub some-there : (left : List ℕ) (draw : ℕ) → draw < sum left → 0 < get_or left (pick left draw) 0
some-there left draw low = let at = placed left draw low in omega (arith, at.within)

module _ {S : Type 0} (draws : Ghosts S) where
  -- an order that is drawn so far
  pub record IsOrderSoFar (before now : S) (threads : ℕ) (left order : List ℕ) : Type 0 where
    pub found : prepended order (order_found left (answers draws now (falling (sum left)))) ≡ order_found (replicate threads 1) (answers draws before (falling threads))
    pub source : after_bounds draws now (falling (sum left)) ≡ after_bounds draws before (falling threads)
    pub counted : (thread : ℕ) → times thread order + get_or left thread 0 ≡ get_or (replicate threads 1) thread 0
    pub room : length order + sum left ≡ threads

  pub ordered-start : (before : S) (threads : ℕ) (left : List ℕ) → left ≡ replicate threads 1 → IsOrderSoFar before before threads left []
  ordered-start before threads left is =
      let all : sum left ≡ threads = ap sum is ∙ sum-ones threads in
      record {
        found = (λ i. prepended [] (order_found (is i) (answers draws before (falling (all i)))))
            ∙ prepended-none (order_found (replicate threads 1) (answers draws before (falling threads)));
        source = ap (λ n. after_bounds draws before (falling n)) all;
        counted = λ thread. omega (arith, ap (λ l. get_or l thread 0) is);
        room = omega (arith, all);
      }

  pub ordered-more : (before now next : S) (threads draw thread number : ℕ) (left order after more : List ℕ) → IsOrderSoFar before now threads left order → 0 < sum left
      → draws.answer now (sum left) ≡ Ok draw → draw < sum left → next ≡ draws.after_answer now (sum left) → thread ≡ pick left draw → number ≡ thread
      → after ≡ less_one left thread → more ≡ order ++ number ∷ []
      → IsOrderSoFar before next threads after more
  ordered-more before now next threads draw thread number left order after more to some answered low next_is thread_is number_is after_is more_is =
      let at = placed left draw low in
      let there : 0 < get_or left (pick left draw) 0 = omega (arith, at.within) in
      let after_pick : after ≡ less_one left (pick left draw) = after_is ∙ ap (less_one left) thread_is in
      let more_pick : more ≡ order ++ pick left draw ∷ [] = more_is ∙ ap (λ n. order ++ n ∷ []) (number_is ∙ thread_is) in
      let total : sum after + 1 ≡ sum left = ap (λ l. sum l + 1) after_pick ∙ sum-less_one left (pick left draw) there in
      let bounds : falling (sum left) ≡ sum left ∷ falling (sum after) = falling-suc (sum left) (sum after) (omega (arith, total)) in
      let whole : answers draws now (falling (sum left)) ≡ with_first (Ok draw) (answers draws next (falling (sum after))) =
      ap (answers draws now) bounds ∙ answers-cons draws now (sum left) (falling (sum after))
      ∙ (λ i. with_first (answered i) (answers draws (sym next_is i) (falling (sum after)))) in
      record {
        found =
            (λ i. prepended (more_pick i) (order_found (after_pick i) (answers draws next (falling (sum after)))))
            ∙ sym (named-first left order draw (answers draws next (falling (sum after))))
            ∙ ap (λ r. prepended order (order_found left r)) (sym whole)
            ∙ to.found;
        source =
            sym (ap (after_bounds draws now) bounds ∙ after-cons draws now (sum left) (falling (sum after))
            ∙ (λ i. unless_refused (answered i) (sym next_is i) (after_bounds draws (sym next_is i) (falling (sum after)))))
            ∙ to.source;
        counted = λ other. rw (after_pick, more_pick)
            (elim (cases_eq (pick left draw) other) as (λ _. times other (order ++ pick left draw ∷ []) + get_or
            (less_one left (pick left draw)) other 0 ≡ get_or (replicate threads 1) other 0) [
              | inl same ↦ omega (
                arith,
                to.counted other,
                times-append other order (pick left draw ∷ []),
                times-same other (pick left draw) [] same,
                less_one-same left (pick left draw) there,
                ap (λ n. get_or left n 0) same,
                ap (λ n. get_or (less_one left (pick left draw)) n 0) same,
              )
              | inr differ ↦ omega (
                arith,
                to.counted other,
                times-append other order (pick left draw ∷ []),
                times-other other
                    (pick left draw) [] differ,
                less_one-other left (pick left draw) other differ,
              )
            ]);
        room = omega (arith, to.room, total, ap length more_is, length_push order number);
      }

  pub order-refused : (before now next : S) (threads : ℕ) (left order : List ℕ) (fault : DrawFault) → IsOrderSoFar before now threads left order
      → 0 < sum left → draws.answer now (sum left) ≡ Err fault
      → next ≡ draws.after_answer now (sum left) → (answers draws before (falling threads) ≡ Err fault) × (next ≡ after_bounds draws before (falling threads))
  order-refused before now next threads left order fault to some refused next_is =
      let bounds : falling (sum left) ≡ sum left ∷ falling (sum left - 1) = falling-suc (sum left) (sum left - 1) (omega (arith, some)) in
      let whole : answers draws now (falling (sum left)) ≡ Err fault =
      ap (answers draws now) bounds ∙ answers-cons draws now (sum left) (falling (sum left - 1))
      ∙ ap (λ r. with_first r (answers draws (draws.after_answer now (sum left)) (falling (sum left - 1)))) refused in (
        found-err (replicate threads 1) (answers draws before (falling threads)) fault (sym to.found ∙ ap (λ r. prepended order (order_found left r)) whole),
        next_is
            ∙ sym (ap (after_bounds draws now) bounds ∙ after-cons draws now (sum left) (falling (sum left - 1))
            ∙ ap (λ r. unless_refused r (draws.after_answer now (sum left)) (after_bounds draws (draws.after_answer now (sum left)) (falling (sum left - 1)))) refused)
            ∙ to.source,
      )

  pub order-all : (before now : S) (threads : ℕ) (left order : List ℕ) → IsOrderSoFar before now threads left order → sum left ≡ 0
      → (order_found (replicate threads 1) (answers draws before (falling threads)) ≡ Ok order) × IsOrder threads order ×
      (now ≡ after_bounds draws before (falling threads))
  order-all before now threads left order to none =
      let bounds : falling (sum left) ≡ [] = falling-zero (sum left) none in (
        sym to.found ∙ ap (λ r. prepended order (order_found left r)) (ap (answers draws now) bounds ∙ answers-nil draws now)
            ∙ ap (λ l. Ok (order ++ l)) (named_order-nil left) ∙ ap Ok (append-nil order),
        record {
          long = omega (arith, to.room, none);
          once = λ thread low. omega (arith, to.counted thread, none-left left thread none, ones-at threads thread low);
          only = λ thread high. omega (arith, to.counted thread, past-ones threads thread high);
        },
        sym (after-nil draws now) ∙ ap (after_bounds draws now) (sym bounds) ∙ to.source,
      )
