-- Journals that go on, by the positions after their prefixes.
use Rattle.std.proofs.Common.{List, sym, subst, arith}
use Rattle.std.proofs.lemmas.Option.{slice_get_within}
use Rattle.run_rules.specs.declared.entry.Entry.{Entry}
use Rattle.run_rules.specs.LegalJournal.{IsLegal}
use Rattle.run_rules.specs.Position.{position_of}
use Rattle.run_rules.specs.Run.{GoesOn, GoesOnWith}
use Rattle.run_rules.specs.Setup.{Script}
use Rattle.run_rules.proofs.GrantedChoices.{GoesSoFar}
use Rattle.run_rules.proofs.Prefixes.{AtEach, IsNext, next-at}
use Rattle.run_rules.proofs.Scripts.{script-again}

-- after a prefix of the journal the run goes on with the entry that follows
abbrev pub GoesOnAfter : Script → List Entry → Entry → Type 0
GoesOnAfter script prefix entry = GoesOnWith script.setup (position_of script prefix) entry

pub going-prefixes : (script : Script) (journal : List Entry) → IsLegal script journal → GoesOn script.setup (position_of script journal)
    → AtEach (GoesOnAfter script) journal
unfolding position_of
going-prefixes script journal legal going k entry at =
    subst (λ x. GoesOnWith script.setup x entry)
    (script-again script journal k legal (omega (arith, slice_get_within journal k entry at))) (going k entry at)

pub prefixes-going : (script : Script) (journal : List Entry) → IsLegal script journal → AtEach (GoesOnAfter script) journal
    → GoesOn script.setup (position_of script journal)
unfolding position_of
prefixes-going script journal legal going k entry at =
    subst (λ x. GoesOnWith script.setup x entry)
    (sym (script-again script journal k legal (omega (arith, slice_get_within journal k entry at)))) (going k entry at)

-- no earlier position has a verdict
pub goes-so-far : (script : Script) (journal : List Entry) → GoesOn script.setup (position_of script journal) → GoesSoFar script.setup (position_of script journal)
unfolding position_of
goes-so-far script journal going k lt =
    let next : IsNext journal k = next-at journal k lt in
    (going k next.item next.there).going
