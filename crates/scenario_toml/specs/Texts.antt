-- What the texts of a scenario stand for.
use Rattle.std.specs.Prelude.{ℕ, ◌^◌, ◌&&◌, ltb, Bool, true, List, [], ◌∷◌, ◌++◌, Option, codes}
use Rattle.std.specs.List.{find}
use Rattle.std.specs.Fmt.{decimal}
use Rattle.std.specs.Str.{bytes_eq}
use Rattle.surw_base.specs.Tokens.{tokens, number_at}
use Rattle.scenario_toml.specs.declared.strategy.Strategy.{Strategy}
use Rattle.scenario_toml.specs.declared.strategy.Strategy.TheVariants.{Urw, Surw, Pct, Plain}
use Rattle.scenario_toml.specs.declared.watch.Watch.{Watch}
use Rattle.scenario_toml.specs.declared.watch.Watch.TheVariants.{WriteAhead, LogWhole, Expect, CellEnd}

-- the words of `strategy`
abbrev pub strategy_text : Strategy → List ℕ
strategy_text Urw = codes "urw"
strategy_text Surw = codes "surw"
strategy_text Pct = codes "pct"
strategy_text Plain = codes "plain"

abbrev pub strategy_of : List ℕ → Option Strategy
strategy_of text = find (λ strategy. bytes_eq (strategy_text strategy) text) (Urw ∷ Surw ∷ Pct ∷ Plain ∷ [])

-- a number below 2 ^ 64
abbrev pub is_small : ℕ → Bool
is_small n = ltb n (2 ^ 64)

-- the texts of `monitors`
abbrev pub watch_text : Watch → List ℕ
watch_text WriteAhead = codes "write_ahead"
watch_text LogWhole = codes "log_whole"
watch_text Expect = codes "expect"
watch_text (CellEnd cell value) = codes "cell_end " ++ decimal cell ++ 32 ∷ decimal value

-- what a text of `monitors` can stand for: what has no numbers, or a cell and a value that are the text's
abbrev pub watches : List (List ℕ) → List Watch
watches parts = WriteAhead ∷ LogWhole ∷ Expect ∷ CellEnd (number_at parts 1) (number_at parts 2) ∷ []

abbrev pub is_watch : Watch → Bool
is_watch (CellEnd cell value) = is_small cell && is_small value
is_watch _ = true

-- whether this is the text of what is watched for
abbrev pub is_text_of_watch : List ℕ → Watch → Bool
is_text_of_watch text watch = bytes_eq (watch_text watch) text && is_watch watch

-- what is watched for, by its text
unfoldable pub watch_of : List ℕ → Option Watch
watch_of text = find (is_text_of_watch text) (watches (tokens text))
