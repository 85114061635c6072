use Rattle.std.proofs.Common.{Result, Err, ap, refl, subst, ◌∙◌}
use Rattle.surw_cli.specs.CommandAnswer.{IsAnswer}
use Rattle.surw_cli.specs.Ending.{Call}
use Rattle.surw_cli.specs.Reached.{ComesTo}
use Rattle.surw_cli.specs.declared.report.Report.{Report}
use Rattle.surw_cli.specs.declared.stop.Stop.{Stop}
use Rattle.fault_text.specs.FaultText.{fault_text}
use Rattle.surw_cli.proofs.Stops.{refusal-ends, told}
use Rattle.surw_cli.proofs.tell.tell.Goals as goal

pub returns-in-Ok-clause-ends : goal.returns-in-Ok-clause-ends
returns-in-Ok-clause-ends g c jobs words files before comes =
    let answer = subst (λ (report : Result Report Stop). ComesTo (IsAnswer jobs words files) before (g.F.Shelf.in_faults c.args.shelf.now) report) c.in-Ok.is comes in
    c.write_report.ensures.ends jobs words files before answer.0 answer.1

pub returns-in-Err-Refused-clause-ends : goal.returns-in-Err-Refused-clause-ends
returns-in-Err-Refused-clause-ends g c jobs words files before comes =
    let call : Call = record {
      jobs = jobs;
      words = words;
      files = files;
      before = record {
        in_faults = before;
        out_faults = g.F.Shelf.out_faults c.args.shelf.now;
        made = g.F.Shelf.made c.args.shelf.now;
        sink_faults = g.O.Sink.faults c.args.out.now;
        taken = g.O.Sink.taken c.args.out.now;
      };
      now = record {
        in_faults = g.F.Shelf.in_faults c.args.shelf.now;
        out_faults = g.F.Shelf.out_faults c.args.shelf.now;
        made = g.F.Shelf.made c.args.shelf.now;
        sink_faults = g.O.Sink.faults c.put.new.out;
        taken = g.O.Sink.taken c.put.new.out;
      };
    } in
    let fault = c.in-Err-Refused.fault in
    let stopped = subst (λ (report : Result Report Stop). ComesTo (IsAnswer jobs words files) before (g.F.Shelf.in_faults c.args.shelf.now) report)
    (c.in-Err-Refused.is ∙ ap {B = Result Report Stop} Err c.in-Err-Refused.field-0-is) comes in
    rw c.of.ensures
    (refusal-ends call fault stopped (told call (fault_text fault) c.put.result c.put.ensures.all c.put.ensures.prefix c.put.ensures.cause)
    (record { made = refl; calm = refl }))
