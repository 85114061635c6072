use Rattle.std.proofs.Common.{◌<◌, ◌++◌, ◌∷◌, [], ◌∙◌, List, length, ap, sym, subst, rules, All}
use Rattle.std.proofs.lemmas.List.{append_assoc}
use Rattle.std.proofs.lemmas.List.Elements.{All-push}
use Rattle.routine_kit.specs.declared.token.Token.{Token}
use Rattle.routine_kit.specs.LineText.{tokens_text, IsToken}
use Rattle.routine_kit.proofs.Tokens.{none-read, one-read, text-more}
use Rattle.routine_kit.proofs.line_reading.read_tokens.Goals as goal

pub returns-in-None-clause-only : goal.returns-in-None-clause-only
returns-in-None-clause-only c tokens text all few =
    let some : 0 < length c.loop-rest.rest.now = search rules in
    let left = c.loop-rest.invariant.only tokens text all in
    none-read left.0 c.loop-rest.rest.now _ _ _ some c.split_at.ensures.back c.token_len.ensures.place c.split_at-in-loop-rest.ensures.front left.2 left.3
    (λ w is fits. let none = c.in-None.ensures.only w is fits in cc)

pub loop-rest-preserved : goal.loop-rest-preserved
loop-rest-preserved c =
    let some : 0 < length c.loop-rest.rest.now = search rules in
    let items = c.loop-rest.tokens.items in
    let token = c.in-Some.token in
    let behind = c.split_at-in-loop-rest.result.1.now in
    let found = c.in-Some.ensures.found in
    record {
      text = text-more c.args.text.now items c.loop-rest.rest.now _ _ _ _ token c.loop-rest.invariant.text c.if-rest-ne32.false some c.split_at.ensures.back
          c.split_at-in-loop-rest.ensures.front c.split_at-in-loop-rest.ensures.back found.0
          ∙ ap (λ (ws : List Token). tokens_text ws ++ behind) (sym c.push.ensures.items);
      below = subst (λ (ws : List Token). All IsToken ws) (sym c.push.ensures.items) (All-push IsToken items token c.loop-rest.invariant.below found.1);
      only = λ tokens text all.
          let left = c.loop-rest.invariant.only tokens text all in
          let one = one-read left.0 c.loop-rest.rest.now _ _ _ _ token some c.split_at.ensures.back c.token_len.ensures.place
          c.split_at-in-loop-rest.ensures.front c.split_at-in-loop-rest.ensures.back found.0 found.1 left.2 left.3 in (
            one.0,
            left.1 ∙ ap (λ (ws : List Token). items ++ ws) one.1 ∙ sym (append_assoc items (token ∷ []) one.0) ∙ ap (λ (ws : List Token). ws ++ one.0) (sym c.push.ensures.items),
            one.2,
            one.3,
          );
    }
