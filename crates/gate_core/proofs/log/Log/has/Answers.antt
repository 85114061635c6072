use Rattle.std.proofs.Common.{◌≡◌, length, Some, refl, ap, sym, ◌∙◌}
use Rattle.std.proofs.lemmas.Bool.Decides.{Decides-eqb}
use Rattle.std.proofs.lemmas.Option.{slice_get_read}
use Rattle.std.specs.List.{slice_get}
use Rattle.event_class.proofs.Same.{same_event}
use Rattle.gate_core.proofs.log.Log.has.Goals as goal

pub returns-then-eq : goal.returns-then-eq
returns-then-eq g c same =
    let items = c.deref.result.now in
    let item = c.in-Some.field-0.now in
    let found = c.in-Some.ensures.lookup in
    let event : item.0 ≡ c.args.entry.now.event = same_event _ _ (sym c.eq.ensures ∙ c.if-eq.true) in
    let reply : item.1 ≡ c.args.entry.now.reply = (Decides-eqb _ _).0 same in
    ap (λ xs. slice_get xs c.args.place) (sym (c.deref.ensures.value ∙ ap (λ v. v.items) c.self.view_is))
    ∙ slice_get_read items (length items) c.args.place item refl found.3.0 found.1
    ∙ ap Some (λ j. (event j, reply j))
