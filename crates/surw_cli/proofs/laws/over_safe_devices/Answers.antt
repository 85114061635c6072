use Rattle.std.proofs.Common.{◌≡◌, ◌⊎◌, Some, None, map, string_bytes, subst, arith}
use Rattle.surw_cli.specs.Jobs.{plain_jobs}
use Rattle.surw_cli.specs.CommandAnswer.{Files, safe_files}
use Rattle.surw_cli.specs.Ending.{Call, IsAnswered}
use Rattle.surw_cli.specs.declared.status.Status.TheVariants.{OutOfMemory}
use Rattle.surw_cli.proofs.Safe.{safe-answered}
use Rattle.surw_io.specs.Content.{File}
use Rattle.surw_cli.proofs.laws.over_safe_devices.Goals as goal

pub returns-clause-answered : goal.returns-clause-answered
returns-clause-answered c =
    let words = map string_bytes c.args.words.now in
    let held : Files = record { first = λ name. Some (File c.new-shelf.result.first); second = λ name. Some (File c.new-shelf.result.second) } in
    let same : held ≡ safe_files c.args.first.now c.args.second.now =
    λ i. record { first = λ name. c.new-shelf.ensures.coming name i; second = λ name. c.new-shelf.ensures.coming_after name i } in
    let call : Call = record {
      jobs = plain_jobs;
      words = words;
      files = held;
      before = record { in_faults = 0; out_faults = 0; made = None; sink_faults = 0; taken = None };
      now = record { in_faults = 0; out_faults = 0; made = None; sink_faults = 0; taken = None };
    } in
    let status = c.surw_plain.result in
    subst (λ (files : Files). (status ≡ OutOfMemory) ⊎ IsAnswered plain_jobs words files status) same
    (safe-answered call status
    (record {
      opens = λ rose. omega arith;
      creates = λ rose. omega arith;
      sink = λ rose. omega arith;
      first = λ name is. cc is;
      second = λ name is. cc is;
    }) c.surw_plain.ensures.ends)
