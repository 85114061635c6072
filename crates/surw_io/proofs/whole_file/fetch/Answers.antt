use Rattle.std.proofs.Common.{◌+◌, ◌≤◌, length, arith}
use Rattle.std.proofs.lemmas.Grind.{common_steps}
use Rattle.std.proofs.lemmas.Result.{err_from_is_err_and}
use Rattle.surw_io.proofs.Told.{took_piece}
use Rattle.surw_io.proofs.whole_file.fetch.Goals as goal

pub returns-then-n-most-clause-rest : goal.returns-then-n-most-clause-rest
returns-then-n-most-clause-rest g c =
    let few : length c.loop-bytes.bytes.items + c.in_ok-n.n ≤ c.args.limit + 1 = grind (arith, common_steps, c.in_ok-n.ensures.within, c.min-asked.ensures, c.len.ensures) in
    took_piece _ _ _ c.loop-bytes.bytes.items _ c.in_ok-n.n _ c.loop-bytes.invariant.told c.in_ok-n.ensures.moved few

pub returns-in_err-extend_from_slice-clause-rest : goal.returns-in_err-extend_from_slice-clause-rest
returns-in_err-extend_from_slice-clause-rest g c =
    let few : length c.loop-bytes.bytes.items + c.in_ok-n.n ≤ c.args.limit + 1 = grind (arith, common_steps, c.if-n-most.false, c.len-in-loop-bytes.ensures, c.loop-bytes.invariant.short) in
    let p = err_from_is_err_and c.from_residual-in_err-extend_from_slice.result c.from_residual-in_err-extend_from_slice.ensures.1 in
    rw (p.1, p.2) (took_piece _ _ _ c.loop-bytes.bytes.items _ c.in_ok-n.n _ c.loop-bytes.invariant.told c.in_ok-n.ensures.moved few)
