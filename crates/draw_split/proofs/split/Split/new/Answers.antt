use Rattle.surw_base.specs.declared.limits.TheConstants.{THREADS}
use Rattle.std.proofs.Common.{◌≡◌, ℕ, ◌-◌, ◌≤◌, List, [], ◌∷◌, ◌++◌, map, length, replicate, ap, sym, ◌∙◌, arith, Vec, Global}
use Rattle.std.proofs.lemmas.List.{map_push, length_push, length-map}
use Rattle.draw_split.proofs.Lists.{missing-more}
use Rattle.draw_split.proofs.split.Split.new.Goals as goal

pub loop-missing-preserved : goal.loop-missing-preserved
loop-missing-preserved c =
    let items : Vec ℕ Global → List ℕ = λ v. v.items in
    let before : List (List ℕ) = map items c.args.offsets.items in
    let now : List (List ℕ) = map items c.loop-missing.offsets.items in
    let more : length c.loop-missing.offsets.items ≡ c.loop-missing._missing = c.loop-missing.invariant.0 in
    let le : length c.args.offsets.items ≤ c.loop-missing._missing = omega (arith, c.loop-missing.auto._missing, c.len-missing.ensures) in (
      omega (arith, ap length c.in_ok-push.ensures.items, length_push c.loop-missing.offsets.items c.new.result),
      ap (map items) c.in_ok-push.ensures.items
          ∙ map_push items c.loop-missing.offsets.items c.new.result
          ∙ ap (λ (l : List ℕ). now ++ l ∷ []) c.new.ensures.items
          ∙ missing-more now before c.loop-missing._missing (length c.args.offsets.items) le c.loop-missing.invariant.1,
    )

pub returns-clause-offsets : goal.returns-clause-offsets
returns-clause-offsets c =
    let items : Vec ℕ Global → List ℕ = λ v. v.items in
    let before : List (List ℕ) = map items c.args.offsets.items in
    let end : c.loop-missing._missing ≡ THREADS = omega (arith, c.loop-missing.auto._missing-end, c.loop-missing-test.false, c.len-missing.ensures, c.requires) in
    c.loop-missing.invariant.1
    ∙ (λ i. before ++ replicate (end i - sym (length-map c.args.offsets.items items) i) [])
