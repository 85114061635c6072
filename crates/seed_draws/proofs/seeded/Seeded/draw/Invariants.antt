use Rattle.std.proofs.Common.{◌≡◌, ◌<◌, ◌-◌, get_or}
use Rattle.seed_draws.specs.Seeded.{after_words, next_words}
use Rattle.seed_draws.proofs.Drawn.{NoneBefore}
use Rattle.seed_draws.proofs.seeded.Seeded.draw.Given as goal

abbrev pub invariant-loop-turn : goal.invariant-loop-turn
invariant-loop-turn l = record {
  here : l.self ≡ after_words l._turn l.fn.self;
  before : NoneBefore l.bound l.fn.self l._turn;
  last : 0 < l._turn → l.word ≡ get_or (next_words l.fn.self) (l._turn - 1) 0;
}
