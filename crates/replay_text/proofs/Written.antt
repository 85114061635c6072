-- One entry more is written.
use Rattle.std.proofs.Common.{◌≡◌, ℕ, ◌+◌, ◌<◌, List, [], ◌∷◌, ◌++◌, All, length, get_or, take, ap, sym, subst, ◌∙◌}
use Rattle.std.proofs.lemmas.Grind.{flat_map-append}
use Rattle.std.proofs.lemmas.List.{append-nil, append_assoc, take_more}
use Rattle.std.proofs.lemmas.List.Elements.{All-push}
use Rattle.std.specs.List.{flat_map}
use Rattle.surw_base.specs.Lines.{line}
use Rattle.walk_rules.specs.declared.asked.Asked.{Asked}
use Rattle.replay_text.specs.SavedRun.{IsEntry}
use Rattle.replay_text.specs.SavedText.{entry_text}

taken-more : (entries : List Asked) (i : ℕ) (entry : Asked) → i < length entries → entry ≡ get_or entries i entry → take (i + 1) entries ≡ take i entries ++ entry ∷ []
taken-more entries i entry lt is = take_more entries i entry lt ∙ ap (λ e. take i entries ++ e ∷ []) (sym is)

pub lines-more : (text front : List ℕ) (entries : List Asked) (i : ℕ) (entry : Asked) → i < length entries → entry ≡ get_or entries i entry
    → text ≡ front ++ flat_map (λ e. line (entry_text e)) (take i entries)
    → text ++ line (entry_text entry) ≡ front ++ flat_map (λ e. line (entry_text e)) (take (i + 1) entries)
lines-more text front entries i entry lt is so_far =
    let done = flat_map (λ e. line (entry_text e)) (take i entries) in
    ap (λ l. l ++ line (entry_text entry)) so_far ∙ append_assoc front done (line (entry_text entry))
    ∙ ap (λ l. front ++ l)
    (sym (ap (flat_map (λ e. line (entry_text e))) (taken-more entries i entry lt is)
    ∙ flat_map-append (λ e. line (entry_text e)) (take i entries) (entry ∷ []) ∙ ap (λ l. done ++ l) (append-nil (line (entry_text entry)))))

pub each-more : (entries : List Asked) (i : ℕ) (entry : Asked) → i < length entries → entry ≡ get_or entries i entry → All IsEntry (take i entries) → IsEntry entry
    → All IsEntry (take (i + 1) entries)
each-more entries i entry lt is each fits = subst (All IsEntry) (sym (taken-more entries i entry lt is)) (All-push IsEntry (take i entries) entry each fits)
