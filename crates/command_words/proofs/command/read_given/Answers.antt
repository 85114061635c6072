use Rattle.std.proofs.Common.{◌≡◌, List, [], ◌∷◌, true, false, arith, ⊎_elim, ap, ◌∙◌, codes, refl, map, string_bytes, subst}
use Rattle.clap.specs.Words.{App, IsAmong, Kinds, Text, found_of, fault_of, first_of, first_value, is_simple, is_simple_and_free, kind_of, matches_of}
use Rattle.clap.specs.Walk.{is_empty}
use Rattle.clap.specs.declared.error.ErrorKind.{ErrorKind}
use Rattle.clap.proofs.OnLiterals.{clap_on_literals}
use Rattle.clap.proofs.WalkLemmas.{first_value-rows}
use Rattle.command_words.specs.Command.{surw_app, given, is_taken}
use Rattle.command_words.proofs.command.read_given.Goals as goal

simple : is_simple surw_app ≡ true
unfolding surw_app clap_on_literals
simple = refl

free : is_simple_and_free surw_app ≡ true
unfolding surw_app clap_on_literals
free = refl

given-is : (id : Text) (words : List Text) → first_of id (matches_of surw_app words) ≡ given id words
unfolding given
given-is id words = refl

taken-is : (words : List Text) → fault_of surw_app words ≡ [] → is_taken words ≡ true
unfolding is_taken
taken-is words none = ap is_empty none

some-kind : (kinds : Kinds) (kind : ErrorKind) → IsAmong kind kinds → is_empty kinds ≡ false
some-kind [] kind is = absurd is
some-kind (first ∷ rest) kind is = grind arith

not-taken : (words : List Text) (kind : ErrorKind) → IsAmong kind (fault_of surw_app words) → is_taken words ≡ false
unfolding is_taken
not-taken words kind is = some-kind (fault_of surw_app words) kind is

pub returns-in-Ok-try_get_matches_from-clause-given : goal.returns-in-Ok-try_get_matches_from-clause-given
returns-in-Ok-try_get_matches_from-clause-given c =
    let is = c.in-Ok.ensures in
    let words = map string_bytes c.args.words.now in
    let found = found_of c.in-Ok-try_get_matches_from.matches in
    let rows = (c.in-Ok-try_get_matches_from.ensures.matches (ap is_simple is ∙ simple)).0 in
    let at : (id : Text) → first_value found id ≡ given id words =
    λ id. first_value-rows found id ∙ ap (first_of id) (rows ∙ ap (λ (app : App). matches_of app words) is) ∙ given-is id words in
    record {
      taken = taken-is words (subst (λ (app : App). fault_of app words ≡ []) is (c.in-Ok-try_get_matches_from.ensures.kinds (ap is_simple_and_free is ∙ free)));
      job = c.get_str.ensures ∙ at (codes "job");
      name = c.get_str-in-Ok-try_get_matches_from.ensures ∙ at (codes "name");
      saved = c.get_str-in-Ok-try_get_matches_from-2.ensures ∙ at (codes "saved");
      strategy = c.get_str-in-Ok-try_get_matches_from-3.ensures ∙ at (codes "strategy");
      seed = c.get_str-in-Ok-try_get_matches_from-4.ensures ∙ at (codes "seed");
      depth = c.get_str-in-Ok-try_get_matches_from-5.ensures ∙ at (codes "depth");
      save = c.get_str-in-Ok-try_get_matches_from-6.ensures ∙ at (codes "save");
    }

pub returns-clause-refused : goal.returns-clause-refused
returns-clause-refused c = λ _.
    let is = c.in-Ok.ensures in
    let words = map string_bytes c.args.words.now in
    let kind = kind_of c.in-Err-try_get_matches_from.error in
    let kinds = c.in-Err-try_get_matches_from.ensures.kinds (ap is_simple_and_free is ∙ free) in
    not-taken words kind (⊎_elim (λ h. absurd (c.in_default.not-OutOfMemory (c.kind.ensures ∙ h))) (λ among. subst (λ (app : App). IsAmong kind (fault_of app words)) is among) kinds)
