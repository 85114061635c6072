use Rattle.std.proofs.Common.{◌≡◌, List, [], ℕ, ◌∷◌, drop, Result, Ok, Err, IfOk, IfErr, MatchResult, Some, None, Vec, Global, ap, sym, subst, ◌∙◌}
use Rattle.std.proofs.lemmas.Bool.Decides.{Decides-eqb}
use Rattle.std.proofs.lemmas.Result.{err_from_is_err_and}
use Rattle.std.proofs.lemmas.Slice.Eq.{strip_prefix_is}
use Rattle.order_text.specs.DrawsFile.{AreOffsets}
use Rattle.surw_base.specs.declared.list.ListFault.{ListFault}
use Rattle.surw_base.specs.declared.list.ListFault.TheVariants as list
use Rattle.order_text.proofs.draws_file.read_offsets_line.Goals as goal

pub returns-in_err-numbers-clause-only : goal.returns-in_err-numbers-clause-only
returns-in_err-numbers-clause-only c = λ offsets is.
    let p = err_from_is_err_and c.from_residual.result c.from_residual.ensures.1 in
    rw (p.1, p.2) (c.in_err-numbers.ensures.only (c.args.thread ∷ offsets) is.listed)

pub returns-clause-only : goal.returns-clause-only
returns-clause-only c = λ offsets is.
    let numbers = c.in_ok-numbers.ensures.only (c.args.thread ∷ offsets) is.listed in
    let other = strip_prefix_is Decides-eqb c.as_slice.result.now (c.args.thread ∷ []) None c.in-None.ensures.cases in
    absurd (other offsets (c.as_slice.ensures.value ∙ numbers))

-- numbers that are these offsets are read as them
read-as : (result : Result (Vec ℕ Global) ListFault) (numbers offsets : List ℕ) → IfOk result (λ found. (found.items ≡ numbers) × AreOffsets numbers)
    → (AreOffsets numbers → IfErr result (λ fault. fault ≡ list.OutOfMemory)) → numbers ≡ offsets → AreOffsets offsets
    → MatchResult result (λ found. found.items ≡ offsets) (λ fault. fault ≡ list.OutOfMemory)
read-as (Ok found) numbers offsets ok only same are = ok.0 ∙ same
read-as (Err fault) numbers offsets ok only same are = only (subst AreOffsets (sym same) are)

pub returns-in-Some-clause-only : goal.returns-in-Some-clause-only
returns-in-Some-clause-only c = λ offsets is.
    let numbers = c.in_ok-numbers.ensures.only (c.args.thread ∷ offsets) is.listed in
    let behind = strip_prefix_is Decides-eqb c.as_slice.result.now (c.args.thread ∷ []) (Some c.in-Some.offsets) c.in-Some.ensures.cases in
    let same = ap (drop 1) (sym behind ∙ c.as_slice.ensures.value ∙ numbers) in
    read-as c.offsets_of.result c.in-Some.offsets.now offsets c.offsets_of.ensures.found c.offsets_of.ensures.only same is.allowed
