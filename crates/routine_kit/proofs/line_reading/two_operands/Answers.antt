use Rattle.std.proofs.Common.{◌≡◌, ◌∷◌, [], refl, sym, subst, IfSome, Option}
use Rattle.routine_kit.specs.declared.shape.Shape.{Shape}
use Rattle.routine_kit.specs.Line.{operands_of}
use Rattle.routine_kit.specs.LineText.{shape_verb, shapes}
use Rattle.routine_kit.proofs.Shapes.{found-verb}
use Rattle.routine_kit.proofs.line_reading.two_operands.Goals as goal

pub returns-clause-found : goal.returns-clause-found
returns-clause-found c =
    let Q : Shape → Type 0 = λ shape. operands_of shape ≡ c.args.x ∷ c.args.y ∷ [] in
    subst (λ (r : Option Shape). IfSome r (λ shape. (c.args.verb.now ≡ shape_verb shape) × Q shape)) (sym c.with_verb.ensures)
    (found-verb c.args.verb.now Q (shapes (c.args.x ∷ c.args.y ∷ [])) (refl, (refl, (refl, (refl, (refl, tt))))))
