use Rattle.std.proofs.Common.{◌≡◌, ◌≤◌, ◌<◌, ℕ, ◌+◌, ◌-◌, ◌/◌, ◌%◌, true, false, get_or, ap, sym, ◌∙◌, subst, arith}
use Rattle.seed_draws.specs.Share.{is_accepted}
use Rattle.seed_draws.specs.Seeded.{SeededState, after_bent, after_word, after_words, next_words, tries, word_of}
use Rattle.seed_draws.proofs.Shares.{accepted, left_over, share-some}
use Rattle.seed_draws.proofs.Drawn.{NoneBefore, after_none, after_one, before-more, drawn-found, drawn-none, next_word}
use Rattle.seed_draws.proofs.seeded.Seeded.draw.Goals as goal

pub loop-turn-init : goal.loop-turn-init
loop-turn-init c = record {
  here = sym (after_none c.args.self.now);
  before = record { none = λ j less. absurd (omega (arith, less)) };
  last = λ less. absurd (omega (arith, less));
}

pub returns-then-draw-bound : goal.returns-then-draw-bound
returns-then-draw-bound c =
    let k = c.loop-turn._turn in
    let s = c.args.self.now in
    let bound = c.args.bound in
    let less : k < tries = c.loop-turn-test.true in
    let word : c.word-word.result ≡ get_or (next_words s) k 0 =
    c.word-word.ensures.word ∙ ap word_of c.loop-turn.invariant.here ∙ sym (next_word k s less) in
    let after : c.word-word.new.self ≡ after_words (k + 1) s =
    c.word-word.ensures.after ∙ ap after_word c.loop-turn.invariant.here ∙ sym (after_one k s) in
    let here : is_accepted bound c.word-word.result ≡ true =
    accepted bound c.word-word.result (share-some bound (omega (arith, c.requires)) c.ranges.bound.fits)
    (subst (λ (q : ℕ). c.word-word.result / q < bound) c.share_of-share.ensures c.if-draw-bound.true) in
    let found = drawn-found bound k s less c.loop-turn.invariant.before (sym (ap (is_accepted bound) word) ∙ here) in
    rw (c.share_of-share.ensures, word, after) (sym found)

pub loop-turn-preserved : goal.loop-turn-preserved
loop-turn-preserved c =
    let k = c.loop-turn._turn in
    let s = c.args.self.now in
    let bound = c.args.bound in
    let less : k < tries = c.loop-turn-test.true in
    let word : c.word-word.result ≡ get_or (next_words s) k 0 =
    c.word-word.ensures.word ∙ ap word_of c.loop-turn.invariant.here ∙ sym (next_word k s less) in
    let here : is_accepted bound c.word-word.result ≡ false =
    left_over bound c.word-word.result (share-some bound (omega (arith, c.requires)) c.ranges.bound.fits)
    (subst (λ (q : ℕ). bound ≤ c.word-word.result / q) c.share_of-share.ensures c.if-draw-bound.false) in
    let now : k + 1 - 1 ≡ k = omega arith in
    record {
      here = c.word-word.ensures.after ∙ ap after_word c.loop-turn.invariant.here ∙ sym (after_one k s);
      before = before-more bound k s c.loop-turn.invariant.before (sym (ap (is_accepted bound) word) ∙ here);
      last = λ _. word ∙ ap (λ i. get_or (next_words s) i 0) (sym now);
    }

pub returns : goal.returns
returns c =
    let s = c.args.self.now in
    let bound = c.args.bound in
    let end : c.loop-turn._turn ≡ tries = omega (arith, c.loop-turn-test.false, c.loop-turn.auto._turn-end) in
    let none = drawn-none bound s (subst (NoneBefore bound s) end c.loop-turn.invariant.before) in
    let word : c.loop-turn.word ≡ get_or (next_words s) (tries - 1) 0 =
    c.loop-turn.invariant.last (omega (arith, end)) ∙ ap (λ n. get_or (next_words s) (n - 1) 0) end in
    let after : c.loop-turn.self ≡ after_words tries s = c.loop-turn.invariant.here ∙ ap (λ n. after_words n s) end in
    rw c.saturating_add-self-inside.ensures (ap (λ (state : SeededState). (c.loop-turn.word % bound, after_bent state)) (c.self.view_is ∙ after))
    ∙ ap (λ w. (w % bound, after_bent (after_words tries s))) word ∙ sym none
