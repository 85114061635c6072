use Rattle.std.proofs.lemmas.Result.{err_from_is_err_and}
use Rattle.surw_cli.proofs.Stops.{draws-stop}
use Rattle.surw_cli.proofs.jobs.draws.report_of_draws.Goals as goal

pub returns-in_err-file-clause-stopped : goal.returns-in_err-file-clause-stopped
returns-in_err-file-clause-stopped c =
    let p = err_from_is_err_and c.from_residual.result c.from_residual.ensures.1 in
    rw (p.1, p.2) (draws-stop c.args.bytes.now c.in_err-file.field-0.0 c.in_err-file.ensures.wrong)
