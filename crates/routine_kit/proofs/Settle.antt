-- Lines that are passed over, and rounds.
use Rattle.std.proofs.Common.{◌≡◌, ℕ, zero, suc, ◌+◌, ◌-◌, ◌<◌, ◌≤◌, min, ltb, List, [], ◌∷◌, length, get_or, drop, refl, ap, sym, subst, ◌∙◌, arith, if◌then◌else◌, length-drop}
use Rattle.std.proofs.lemmas.Bool.{lt-ltb, le-ltb}
use Rattle.std.proofs.lemmas.List.{drop-drop, drop_all, drop_more, drop_min}
use Rattle.routine_kit.specs.declared.line.Line.{Line}
use Rattle.routine_kit.specs.Steps.{Stand, settle, settled}

-- passing over lines is going on behind them
settle-over : (rest : List Line) (place over : ℕ) (registers : List ℕ) → settle place rest over registers ≡ settle (place + min over (length rest)) (drop over rest) 0 registers
unfolding settle
settle-over [] place over registers =
    let here : place + min over 0 ≡ place = omega arith in
    let none : drop over [] ≡ [] = drop_all {X = Line} over [] (omega arith) in
    sym (ap (λ (rest : List Line). settle (place + min over 0) rest 0 registers) none ∙ ap (λ (p : ℕ). settle p [] 0 registers) here)
settle-over (line ∷ rest) place zero registers =
    let here : place + min 0 (length (line ∷ rest)) ≡ place = omega arith in sym (ap (λ (p : ℕ). settle p (line ∷ rest) 0 registers) here)
settle-over (line ∷ rest) place (suc over) registers =
    let there : place + 1 + min over (length rest) ≡ place + min (suc over) (length (line ∷ rest)) = omega arith in
    settle-over rest (place + 1) over registers ∙ ap (λ (p : ℕ). settle p (drop over rest) 0 registers) there

-- the end of the list
pub settle-end : (lines : List Line) (place : ℕ) (registers : List ℕ) → length lines ≤ place → settle place (drop place lines) 0 registers ≡ record { place = place; registers = registers }
unfolding settle
settle-end lines place registers le = ap (λ (rest : List Line). settle place rest 0 registers) (drop_all place lines le)

-- the lines left at a place begin with the line there
pub settle-at : (lines : List Line) (d : Line) (place : ℕ) (registers : List ℕ) → place < length lines
    → settle place (drop place lines) 0 registers ≡ settle place (get_or lines place d ∷ drop (place + 1) lines) 0 registers
settle-at lines d place registers lt = ap (λ (rest : List Line). settle place rest 0 registers) (drop_more lines place d lt)

-- a line that is passed with so many of the next
pub settle-passed : (lines : List Line) (d : Line) (place over : ℕ) (old new : List ℕ) → place < length lines
    → settle place (get_or lines place d ∷ drop (place + 1) lines) 0 old ≡ settle (place + 1) (drop (place + 1) lines) over new
    → settle place (drop place lines) 0 old ≡ settle (min (length lines) (place + 1 + over)) (drop (min (length lines) (place + 1 + over)) lines) 0 new
settle-passed lines d place over old new lt passes =
    let next = min (length lines) (place + 1 + over) in
    let rest = drop (place + 1) lines in
    let there : place + 1 + min over (length rest) ≡ next = omega (arith, length-drop (place + 1) lines) in
    let turned : min (place + 1 + over) (length lines) ≡ next = omega arith in
    let left : drop over rest ≡ drop next lines =
    drop-drop over (place + 1) lines ∙ sym (drop_min (place + 1 + over) lines) ∙ ap (λ (n : ℕ). drop n lines) turned in
    settle-at lines d place old lt ∙ passes ∙ settle-over rest (place + 1) over new
    ∙ (λ i. settle (there i) (left i) 0 new)

-- a round that stops at an event line
pub settled-stands : (lines : List Line) (left place : ℕ) (registers : List ℕ) (stand : Stand) → 0 < left → stand ≡ settle place (drop place lines) 0 registers → stand.place < length lines
    → settled lines left place registers ≡ record { lines = lines; times = left; place = stand.place; registers = stand.registers }
unfolding settled
settled-stands lines zero place registers stand some is lt = absurd (omega arith)
settled-stands lines (suc more) place registers stand some is lt =
    let P : Stand → Type 0 = λ next.
    (if ltb next.place (length lines)
    then record { lines = lines; times = suc more; place = next.place; registers = next.registers }
    else settled lines more 0 next.registers) ≡ record { lines = lines; times = suc more; place = stand.place; registers = stand.registers } in
    subst P is (rw (lt-ltb stand.place (length lines) lt) refl)

-- a round that comes to the end of the list
pub settled-round : (lines : List Line) (left place : ℕ) (registers : List ℕ) (stand : Stand) → 0 < left → stand ≡ settle place (drop place lines) 0 registers → length lines ≤ stand.place
    → settled lines left place registers ≡ settled lines (left - 1) 0 stand.registers
unfolding settled
settled-round lines zero place registers stand some is le = absurd (omega arith)
settled-round lines (suc more) place registers stand some is le =
    let P : Stand → Type 0 = λ next.
    (if ltb next.place (length lines)
    then record { lines = lines; times = suc more; place = next.place; registers = next.registers }
    else settled lines more 0 next.registers) ≡ settled lines (suc more - 1) 0 stand.registers in
    subst P is (rw (le-ltb stand.place (length lines) le) (let same : more ≡ suc more - 1 = omega arith in ap (λ (n : ℕ). settled lines n 0 stand.registers) same))

-- no times left
pub settled-none : (lines : List Line) (place : ℕ) (registers : List ℕ) → settled lines 0 place registers ≡ record { lines = lines; times = 0; place = 0; registers = registers }
unfolding settled
settled-none lines place registers = refl
