use Rattle.std.proofs.Common.{◌≡◌, ◌+◌, ◌-◌, ◌∷◌, [], ap, sym, ◌∙◌, arith, codes, get_or, Some}
use Rattle.std.proofs.lemmas.Slice.Eq.{text_from_reads}
use Rattle.routine_kit.specs.declared.operand.Operand.TheVariants.{Reg}
use Rattle.routine_kit.specs.declared.token.Token.TheVariants.{Value, If, Equal, Unequal, Arrow}
use Rattle.routine_kit.proofs.Tokens.{same-token}
use Rattle.routine_kit.proofs.token.read_token.Goals as goal

pub returns-in-61-clause-only : goal.returns-in-61-clause-only
returns-in-61-clause-only c token is fits =
    let here : c.args.text.now ≡ codes "=" = text_from_reads c.args.text.now (codes "=") (omega arith) (omega arith, tt) in
    ap Some (same-token Equal token (sym here ∙ is) tt fits)

pub returns-in-if-clause-only : goal.returns-in-if-clause-only
returns-in-if-clause-only c token is fits =
    let here : c.args.text.now ≡ codes "if" = text_from_reads c.args.text.now (codes "if") (omega arith) (omega arith, (omega arith, tt)) in
    ap Some (same-token If token (sym here ∙ is) tt fits)

pub returns-in-33-clause-only : goal.returns-in-33-clause-only
returns-in-33-clause-only c token is fits =
    let here : c.args.text.now ≡ codes "!=" = text_from_reads c.args.text.now (codes "!=") (omega arith) (omega arith, (omega arith, tt)) in
    ap Some (same-token Unequal token (sym here ∙ is) tt fits)

pub returns-in-45-clause-only : goal.returns-in-45-clause-only
returns-in-45-clause-only c token is fits =
    let here : c.args.text.now ≡ codes "->" = text_from_reads c.args.text.now (codes "->") (omega arith) (omega arith, (omega arith, tt)) in
    ap Some (same-token Arrow token (sym here ∙ is) tt fits)

pub returns-in-114-clause-only : goal.returns-in-114-clause-only
returns-in-114-clause-only c token is fits =
    let text = c.args.text.now in
    let reg = get_or text 1 0 - 48 in
    let here : text ≡ 114 ∷ (48 + reg) ∷ [] = text_from_reads text (114 ∷ (48 + reg) ∷ []) (omega arith) (omega arith, (omega arith, tt)) in
    ap Some (same-token (Value (Reg reg)) token (sym here ∙ is) (omega arith) fits)
