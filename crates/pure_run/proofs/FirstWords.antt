-- The least thread with a word.
use Rattle.std.proofs.Common.{◌≡◌, ℕ, ◌<◌, Bool, true, false, List, length, get_or, map, None, Some, is_some, ap, sym, subst, ◌∙◌}
use Rattle.std.proofs.Math.ListN.{get_or-map}
use Rattle.std.proofs.lemmas.List.{length-map}
use Rattle.walk_rules.proofs.WrongThreads.{first-passes, passes-none}
use Rattle.run_rules.specs.Verdict.{first_with_word}
use Rattle.pure_run.specs.declared.word.Word.{Word}
use Rattle.pure_run.specs.declared.word.Word.TheVariants.{Due}
use Rattle.pure_run.specs.Core.{last_word}

-- whether this thread has a word
abbrev pub has_word_at : List Word → ℕ → Bool
has_word_at words thread = is_some (last_word (get_or words thread Due))

abbrev mapped_at : List Word → ℕ → Bool
mapped_at words thread = is_some (get_or (map last_word words) thread None)

same-at : (words : List Word) (thread : ℕ) → mapped_at words thread ≡ has_word_at words thread
same-at words thread = ap is_some (get_or-map last_word words thread Due)

pub first-word-at : (words : List Word) (thread : ℕ) → thread < length words → ((j : ℕ) → j < thread → has_word_at words j ≡ false)
    → has_word_at words thread ≡ true → first_with_word (map last_word words) ≡ Some thread
first-word-at words thread within before here =
    first-passes (mapped_at words) (length (map last_word words)) thread (subst (λ n. thread < n) (sym (length-map words last_word)) within)
    (λ j below. same-at words j ∙ before j below) (same-at words thread ∙ here)

pub first-word-none : (words : List Word) → ((j : ℕ) → j < length words → has_word_at words j ≡ false) → first_with_word (map last_word words) ≡ None
first-word-none words none =
    passes-none (mapped_at words) (length (map last_word words))
    (λ j below. same-at words j ∙ none j (subst (λ n. j < n) (length-map words last_word) below))

-- what the pass over the words finds
pub ruleset first_words = (first-word-at, first-word-none)
