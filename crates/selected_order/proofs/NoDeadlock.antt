-- No position of a run before its end is a deadlock.
use Rattle.std.proofs.Common.{◌≡◌, ℕ, ◌<◌, List, length, take, None, subst, sym, arith}
use Rattle.run_rules.specs.declared.entry.Entry.{Entry}
use Rattle.run_rules.specs.LegalJournal.{IsLegal}
use Rattle.run_rules.specs.Position.{position_at, position_of}
use Rattle.run_rules.specs.Setup.{Script}
use Rattle.run_rules.specs.Verdict.{deadlock}
use Rattle.run_rules.proofs.Prefixes.{AtEach, IsNext, next-at}
use Rattle.run_rules.proofs.RunPrefixes.{GoesOnAfter}
use Rattle.run_rules.proofs.Scripts.{script-again}
use Rattle.run_rules.proofs.Verdicts.{verdict-none}

pub no-deadlock : (script : Script) (journal : List Entry) → IsLegal script journal → AtEach (GoesOnAfter script) journal
    → (k : ℕ) → k < length journal → deadlock script.setup (position_at (position_of script journal) k) ≡ None
no-deadlock script journal legal going k lt =
    let next : IsNext journal k = next-at journal k lt in
    let here = script-again script journal k legal (omega (arith, lt)) in
    let parts = verdict-none script.setup (position_of script (take k journal)) (going k next.item next.there).going in
    subst (λ x. deadlock script.setup x ≡ None) (sym here) parts.able
