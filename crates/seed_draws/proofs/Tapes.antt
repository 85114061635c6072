-- What tapes answer.
use Rattle.std.proofs.Common.{◌≡◌, ℕ, zero, suc, ◌+◌, ◌<◌, ltb, true, cond, List, length, drop, get_or, Ok, Err, refl, sym, ap, ◌∙◌, arith}
use Rattle.std.proofs.lemmas.Bool.{lt-ltb}
use Rattle.std.proofs.lemmas.List.{drop_more, drop_all}
use Rattle.seed_draws.specs.declared.draw_fault.DrawFault.TheVariants.{Short, Large}
use Rattle.seed_draws.specs.Answers.{IsSource, NeverRefuses, answers, source_of, with_first}
use Rattle.seed_draws.specs.Falling.{falling}
use Rattle.seed_draws.specs.Tape.{Tape, one_taken, strict_answer, strict_after}
use Rattle.seed_draws.specs.TapeLaws.{strict_below, loose_below}
use Rattle.seed_draws.specs.TapeSource.{loose_draws, loose_tape, strict_draws, strict_tape}
use Rattle.seed_draws.proofs.Asked.{is-source, never-refuses}

pub strict-source : (entries : List ℕ) → IsSource (strict_tape entries).answers
strict-source entries = is-source strict_draws strict_below (record { entries = entries; taken = 0 })

pub loose-source : (entries : List ℕ) → IsSource (loose_tape entries).answers
loose-source entries = is-source loose_draws loose_below (record { entries = entries; taken = 0 })

-- a loose tape never refuses, in whatever state
pub loose-never : (tape : Tape) → NeverRefuses (source_of loose_draws tape).answers
loose-never tape =
    never-refuses loose_draws (λ _. Unit {0}) (record { answered = λ source bound is. refl; stays = λ source bound is. tt }) tape tt

-- a strict tape gives an entry that is below its bound
strict-next : (entries : List ℕ) (taken bound : ℕ) → taken < length entries → get_or entries taken 0 < bound
    → (strict_answer (record { entries = entries; taken = taken }) bound ≡ Ok (get_or entries taken 0))
    × (strict_after (record { entries = entries; taken = taken }) bound ≡ record { entries = entries; taken = taken + 1 })
strict-next entries taken bound there below =
    let tape : Tape = record { entries = entries; taken = taken } in
    let inside : ltb taken (length entries) ≡ true = lt-ltb taken (length entries) there in
    let small : ltb (get_or entries taken 0) bound ≡ true = lt-ltb (get_or entries taken 0) bound below in (
      (λ i. cond (inside i) (cond (small i) (Ok (get_or entries taken 0)) (Err (Large taken (get_or entries taken 0) bound))) (Err (Short taken))),
      (λ i. cond (inside i) (cond (small i) (one_taken tape) tape) tape),
    )

strict-rest : (entries : List ℕ) (m taken : ℕ) → taken + m ≡ length entries
    → ((k : ℕ) → k < length entries → get_or entries k 0 + k < length entries)
    → answers strict_draws (record { entries = entries; taken = taken }) (falling m) ≡ Ok (drop taken entries)
unfolding answers falling
strict-rest entries zero taken long each = ap Ok (sym (drop_all taken entries (omega (arith, long))))
strict-rest entries (suc m) taken long each =
    let there : taken < length entries = omega (arith, long) in
    let next = strict-next entries taken (suc m) there (omega (arith, long, each taken there)) in
    ap (λ first. with_first first (answers strict_draws (strict_after (record { entries = entries; taken = taken }) (suc m)) (falling m))) next.0
    ∙ ap (λ tape. with_first (Ok (get_or entries taken 0)) (answers strict_draws tape (falling m))) next.1
    ∙ ap (with_first (Ok (get_or entries taken 0))) (strict-rest entries m (taken + 1) (omega (arith, long)) each)
    ∙ ap Ok (sym (drop_more entries taken 0 there))

-- a strict tape whose entries are a draw list gives them
pub strict-drawn : (entries : List ℕ) (n : ℕ) → length entries ≡ n → ((k : ℕ) → k < length entries → get_or entries k 0 + k < length entries)
    → (strict_tape entries).answers (falling n) ≡ Ok entries
strict-drawn entries n full each = strict-rest entries n 0 (omega (arith, full)) each
