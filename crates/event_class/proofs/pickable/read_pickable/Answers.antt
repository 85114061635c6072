use Rattle.std.proofs.Common.{◌-◌, ◌++◌, ◌∙◌, codes, arith, refl, lit<, ap, length, List, ℕ}
use Rattle.std.proofs.lemmas.Option.{none-some}
use Rattle.std.proofs.lemmas.Slice.Eq.{text_from_reads}
use Rattle.event_class.specs.declared.event.Class.{Class}
use Rattle.event_class.specs.declared.pickable.Pickable.TheVariants.{Every, Of, LockNo, CellNo}
use Rattle.event_class.proofs.Pickables.{item_read, none_read, lock-none, cell-none, behind-five}
use Rattle.event_class.proofs.pickable.read_pickable.Goals as goal

pub returns-in-all-clause-same : goal.returns-in-all-clause-same
returns-in-all-clause-same c =
    item_read c.args.text.now Every (record { text = text_from_reads c.args.text.now (codes "all") (omega arith) (omega arith, (omega arith, (omega arith, tt))); below = tt })

pub returns-in-lock-clause-same : goal.returns-in-lock-clause-same
returns-in-lock-clause-same c =
    item_read c.args.text.now (Of Class.Lock) (record { text = text_from_reads c.args.text.now (codes "lock") (omega arith) (omega arith, (omega arith, (omega arith, (omega arith, tt)))); below = tt })

pub returns-in-cell-clause-same : goal.returns-in-cell-clause-same
returns-in-cell-clause-same c =
    item_read c.args.text.now (Of Class.Cell) (record { text = text_from_reads c.args.text.now (codes "cell") (omega arith) (omega arith, (omega arith, (omega arith, (omega arith, tt)))); below = tt })

pub returns-in-cache-clause-same : goal.returns-in-cache-clause-same
returns-in-cache-clause-same c =
    item_read c.args.text.now (Of Class.Cache) (record { text = text_from_reads c.args.text.now (codes "cache") (omega arith) (omega arith, (omega arith, (omega arith, (omega arith, (omega arith, tt))))); below = tt })

pub returns-in-disk-clause-same : goal.returns-in-disk-clause-same
returns-in-disk-clause-same c =
    item_read c.args.text.now (Of Class.Disk) (record { text = text_from_reads c.args.text.now (codes "disk") (omega arith) (omega arith, (omega arith, (omega arith, (omega arith, tt)))); below = tt })

pub returns-in-log-clause-same : goal.returns-in-log-clause-same
returns-in-log-clause-same c =
    item_read c.args.text.now (Of Class.Log) (record { text = text_from_reads c.args.text.now (codes "log") (omega arith) (omega arith, (omega arith, (omega arith, tt))); below = tt })

pub returns-in-check-clause-same : goal.returns-in-check-clause-same
returns-in-check-clause-same c =
    item_read c.args.text.now (Of Class.Check) (record { text = text_from_reads c.args.text.now (codes "check") (omega arith) (omega arith, (omega arith, (omega arith, (omega arith, (omega arith, tt))))); below = tt })

pub returns-in_ok-l-in-108-clause-same : goal.returns-in_ok-l-in-108-clause-same
returns-in_ok-l-in-108-clause-same c =
    let text = c.args.text.now in
    let whole = behind-five text 108 111 99 107 32 (length text - 5) refl (lit< tt) (grind arith) (grind arith) (grind arith) (grind arith) (grind arith) in
    let found = c.in_ok-l-in-108.ensures.found in
    item_read text (LockNo _) (record { text = whole ∙ ap (λ (l : List ℕ). codes "lock " ++ l) found.digits; below = found.below })

pub returns-in_err-l-in-108-clause-same : goal.returns-in_err-l-in-108-clause-same
returns-in_err-l-in-108-clause-same c =
    let text = c.args.text.now in
    let whole = behind-five text 108 111 99 107 32 (length text - 5) refl (lit< tt) (grind arith) (grind arith) (grind arith) (grind arith) (grind arith) in
    let none = lock-none text _ whole (λ n is. none-some n (c.in_err-l-in-108.ensures.only n is)) in
    c.from_residual.ensures ∙ none_read text none

pub returns-in_err-l-in-108-clause-only : goal.returns-in_err-l-in-108-clause-only
returns-in_err-l-in-108-clause-only c item is =
    let text = c.args.text.now in
    let whole = behind-five text 108 111 99 107 32 (length text - 5) refl (lit< tt) (grind arith) (grind arith) (grind arith) (grind arith) (grind arith) in
    let none = lock-none text _ whole (λ n is. none-some n (c.in_err-l-in-108.ensures.only n is)) in
    absurd (none item is)

pub returns-in_ok-c-in-99-clause-same : goal.returns-in_ok-c-in-99-clause-same
returns-in_ok-c-in-99-clause-same c =
    let text = c.args.text.now in
    let whole = behind-five text 99 101 108 108 32 (length text - 5) refl (lit< tt) (grind arith) (grind arith) (grind arith) (grind arith) (grind arith) in
    let found = c.in_ok-c-in-99.ensures.found in
    item_read text (CellNo _) (record { text = whole ∙ ap (λ (l : List ℕ). codes "cell " ++ l) found.digits; below = found.below })

pub returns-in_err-c-in-99-clause-same : goal.returns-in_err-c-in-99-clause-same
returns-in_err-c-in-99-clause-same c =
    let text = c.args.text.now in
    let whole = behind-five text 99 101 108 108 32 (length text - 5) refl (lit< tt) (grind arith) (grind arith) (grind arith) (grind arith) (grind arith) in
    let none = cell-none text _ whole (λ n is. none-some n (c.in_err-c-in-99.ensures.only n is)) in
    c.from_residual-in_err-c-in-99.ensures ∙ none_read text none

pub returns-in_err-c-in-99-clause-only : goal.returns-in_err-c-in-99-clause-only
returns-in_err-c-in-99-clause-only c item is =
    let text = c.args.text.now in
    let whole = behind-five text 99 101 108 108 32 (length text - 5) refl (lit< tt) (grind arith) (grind arith) (grind arith) (grind arith) (grind arith) in
    let none = cell-none text _ whole (λ n is. none-some n (c.in_err-c-in-99.ensures.only n is)) in
    absurd (none item is)
