use Rattle.std.proofs.Common.{◌≡◌, ℕ, List, ◌∷◌, [], ◌++◌, codes, ap, sym, ◌∙◌, append_assoc, slice_index_or}
use Rattle.std.specs.List.{flat_map, range_with_len}
use Rattle.surw_base.specs.Lines.{list_line}
use Rattle.order_text.specs.OrderText.{offsets_line}
use Rattle.order_text.proofs.OrderText.{lines-more}
use Rattle.order_text.proofs.printing.order_text.Goals as goal

pub loop-number-preserved : goal.loop-number-preserved
loop-number-preserved c =
    let split = c.args.split.now in
    let number = c.loop-number.number in
    let before : List ℕ = list_line (codes "order") split.order in
    let so_far : List ℕ = flat_map (offsets_line split) (range_with_len 0 number) in
    let thread : c.unwrap-thread.result ≡ number = rw c.unwrap-thread.ensures at c.new.ensures.some in
    let offsets = c.offsets.ensures.list ∙ ap (λ (t : ℕ). slice_index_or split.offsets t []) thread in
    let added = c.in_ok-push_offsets.ensures
    ∙ (λ i. c.loop-number.invariant i ++ list_line (codes "offsets") (thread i ∷ offsets i)) in
    added ∙ append_assoc before so_far (offsets_line split number) ∙ ap (λ (l : List ℕ). before ++ l) (sym (lines-more split number))
