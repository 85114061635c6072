use Rattle.surw_base.specs.declared.limits.TheConstants.{THREADS}
use Rattle.std.proofs.Common.{◌≡◌, ℕ, ◌<◌, List, [], ◌∷◌, ◌++◌, map, ap, sym, ◌∙◌, length, get_or, set, arith, Vec, Global}
use Rattle.std.proofs.lemmas.List.{map-set, get_or-map}
use Rattle.draw_split.proofs.split.Split.push.Goals as goal

pub returns-clause-offsets : goal.returns-clause-offsets
returns-clause-offsets c =
    let items : Vec ℕ Global → List ℕ = λ v. v.items in
    let old : map items c.self.inside.offsets.items ≡ c.args.self.now.offsets = ap (λ p. p.offsets) c.self.view_is in
    let same : c.from.result ≡ c.args.thread = c.from.ensures ∙ c.get.ensures.same in
    let within : c.from.result < length c.self.inside.offsets.items =
    let lists : length c.self.inside.offsets.items ≡ THREADS = c.self.invariant in omega (arith, c.from.ensures, c.get.ensures.below) in
    let was : c.index_mut.result.now.items ≡ get_or (map items c.self.inside.offsets.items) c.from.result [] =
    ap items c.index_mut.ensures.value ∙ sym (get_or-map items c.self.inside.offsets.items c.from.result c.index_mut.result.now [] within) in
    map-set items c.self.inside.offsets.items c.from.result c.push-2.new.self
    ∙ ap (set (map items c.self.inside.offsets.items) c.from.result) (c.in_ok-push-2.ensures.items ∙ ap (λ (l : List ℕ). l ++ c.args.offset ∷ []) was)
    ∙ (λ i. set (old i) (same i) (get_or (old i) (same i) [] ++ c.args.offset ∷ []))
