-- The shapes by their verbs.
use Rattle.std.proofs.Common.{◌≡◌, ℕ, Bool, true, false, cond, List, [], ◌∷◌, refl, sym, Option, Some, IfSome, find}
use Rattle.std.specs.List.{AllByRecursion}
use Rattle.std.proofs.lemmas.Slice.Eq.{bytes_eq-Decides}
use Rattle.std.specs.Str.{bytes_eq}
use Rattle.routine_kit.specs.declared.shape.Shape.{Shape}
use Rattle.routine_kit.specs.LineText.{shape_verb}

found-by : (verb : List ℕ) (Q : Shape → Type 0) (shape : Shape) (others : Option Shape) (b : Bool) → bytes_eq (shape_verb shape) verb ≡ b → Q shape
    → IfSome others (λ s. (verb ≡ shape_verb s) × Q s) → IfSome (cond b (Some shape) others) (λ s. (verb ≡ shape_verb s) × Q s)
found-by verb Q shape others true is here rest = (sym ((bytes_eq-Decides (shape_verb shape) verb).0 is), here)
found-by verb Q shape others false is here rest = rest

-- the first shape with a verb has it, and what all of them have
pub found-verb : (verb : List ℕ) (Q : Shape → Type 0) (shapes : List Shape) → AllByRecursion Q shapes
    → IfSome (find (λ shape. bytes_eq (shape_verb shape) verb) shapes) (λ shape. (verb ≡ shape_verb shape) × Q shape)
found-verb verb Q [] all = tt
found-verb verb Q (shape ∷ shapes) all =
    found-by verb Q shape (find (λ s. bytes_eq (shape_verb s) verb) shapes) (bytes_eq (shape_verb shape) verb) refl all.0 (found-verb verb Q shapes all.1)
