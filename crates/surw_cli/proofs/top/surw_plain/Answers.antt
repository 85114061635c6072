use Rattle.std.proofs.Common.{Err, Result, ap, inl, map, string_bytes, subst, sym}
use Rattle.command_words.specs.Ask.{ask_by}
use Rattle.surw_cli.specs.CommandAnswer.{Files, IsAnswer, IsAskAnswer, OfJob}
use Rattle.surw_cli.specs.Ending.{Call}
use Rattle.surw_cli.specs.Jobs.{plain_jobs}
use Rattle.surw_cli.specs.Reached.{ComesTo}
use Rattle.surw_cli.specs.declared.report.Report.{Report}
use Rattle.surw_cli.specs.declared.stop.Stop.{Stop}
use Rattle.surw_cli.proofs.Comes.{comes-map, ends-from, opens-for}
use Rattle.surw_cli.proofs.Depths.{has-depth}
use Rattle.surw_cli.proofs.WordStops.{words-opened, words-status, words-stop}
use Rattle.surw_cli.proofs.top.surw_plain.Goals as goal

pub report_of-report-requires : goal.report_of-report-requires
report_of-report-requires g c = has-depth plain_jobs (map string_bytes c.args.words.now) (ask_by c.in-Ok.ask) c.in-Ok.ensures.ok

pub returns-in-Ok-clause-ends : goal.returns-in-Ok-clause-ends
returns-in-Ok-clause-ends g c =
    let words = map string_bytes c.args.words.now in
    let files : Files = record { first = g.F.Shelf.coming c.args.shelf.now; second = g.F.Shelf.coming_after c.args.shelf.now } in
    let ask = ask_by c.in-Ok.ask in
    let result = c.report_of-report.result in
    let call : Call = record {
      jobs = plain_jobs;
      words = words;
      files = files;
      before = record {
        in_faults = g.F.Shelf.in_faults c.args.shelf.now;
        out_faults = g.F.Shelf.out_faults c.args.shelf.now;
        made = g.F.Shelf.made c.args.shelf.now;
        sink_faults = g.O.Sink.faults c.args.out.now;
        taken = g.O.Sink.taken c.args.out.now;
      };
      now = record {
        in_faults = g.F.Shelf.in_faults c.tell.new.shelf;
        out_faults = g.F.Shelf.out_faults c.tell.new.shelf;
        made = g.F.Shelf.made c.tell.new.shelf;
        sink_faults = g.O.Sink.faults c.tell.new.out;
        taken = g.O.Sink.taken c.tell.new.out;
      };
    } in
    ends-from call _ _ c.tell.result c.report_of-report.ensures.out_faults c.report_of-report.ensures.made
    (c.tell.ensures.ends plain_jobs words files call.before.in_faults
    (comes-map (IsAskAnswer ask files) (IsAnswer plain_jobs words files) _ _ result (λ answer made. OfJob ask c.in-Ok.ensures.ok made) c.report_of-report.ensures.comes))

pub returns-in-Ok-clause-opened : goal.returns-in-Ok-clause-opened
returns-in-Ok-clause-opened g c ask asked =
    inl
    (opens-for plain_jobs (map string_bytes c.args.words.now) (ask_by c.in-Ok.ask) ask _ _ _ c.in-Ok.ensures.ok asked c.report_of-report.ensures.opened
    c.tell.ensures.opens)

pub returns-in-Ok-clause-unasked : goal.returns-in-Ok-clause-unasked
returns-in-Ok-clause-unasked g c = λ none. absurd (none (ask_by c.in-Ok.ask) c.in-Ok.ensures.ok)

pub returns-in-Ok-clause-unopened : goal.returns-in-Ok-clause-unopened
returns-in-Ok-clause-unopened g c = λ none. absurd (none (ask_by c.in-Ok.ask) c.in-Ok.ensures.ok)

pub returns-in-Err-clause-ends : goal.returns-in-Err-clause-ends
returns-in-Err-clause-ends g c =
    let words = map string_bytes c.args.words.now in
    let files : Files = record { first = g.F.Shelf.coming c.args.shelf.now; second = g.F.Shelf.coming_after c.args.shelf.now } in
    let before = g.F.Shelf.in_faults c.args.shelf.now in
    c.tell-in-Err.ensures.ends plain_jobs words files before
    (subst (λ (stop : Stop). ComesTo (IsAnswer plain_jobs words files) before before (Err stop)) (sym c.from.ensures)
    (words-stop plain_jobs words files before c.in-Err.fault c.in-Err.ensures.form))

pub returns-in-Err-clause-unasked : goal.returns-in-Err-clause-unasked
returns-in-Err-clause-unasked g c = λ none.
    words-status c.in-Err.fault _ _ (ap {B = Result Report Stop} Err c.from.ensures) c.tell-in-Err.ensures.refused c.tell-in-Err.ensures.no_memory

pub returns-in-Err-clause-opened : goal.returns-in-Err-clause-opened
returns-in-Err-clause-opened g c ask asked =
    words-opened plain_jobs (map string_bytes c.args.words.now) ask c.in-Err.fault _ _ _ _ c.in-Err.ensures.form asked (ap {B = Result Report Stop} Err c.from.ensures)
    c.tell-in-Err.ensures.no_memory c.tell-in-Err.ensures.opens
