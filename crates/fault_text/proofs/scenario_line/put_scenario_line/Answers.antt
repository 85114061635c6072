use Rattle.std.proofs.Common.{rules, ◌≡◌, sym, to_z, of_z, w64}
use Rattle.fault_text.proofs.scenario_line.put_scenario_line.Goals as goal

pub returns-in-Missing-clause-all : goal.returns-in-Missing-clause-all
returns-in-Missing-clause-all g c = rw (c.in-Missing.is, sym c.as_bytes.ensures) c.put_line-in-Missing.ensures.all

pub returns-in-WrongKind-clause-all : goal.returns-in-WrongKind-clause-all
returns-in-WrongKind-clause-all g c = rw (c.in-WrongKind.is, sym c.as_bytes-in-WrongKind.ensures) c.put_line-in-WrongKind.ensures.all

pub returns-in-Unknown-clause-all : goal.returns-in-Unknown-clause-all
returns-in-Unknown-clause-all g c = rw (c.in-Unknown.is, sym c.as_bytes-in-Unknown.ensures) c.put_line-in-Unknown.ensures.all

pub returns-in-Range-clause-all : goal.returns-in-Range-clause-all
returns-in-Range-clause-all g c =
    let kept : to_z w64 (of_z w64 c.in-Range.kept) ≡ c.in-Range.kept = search rules in
    let least : to_z w64 (of_z w64 c.in-Range.least) ≡ c.in-Range.least = search rules in
    let most : to_z w64 (of_z w64 c.in-Range.most) ≡ c.in-Range.most = search rules in
    rw (c.in-Range.is, sym c.as_bytes-in-Range.ensures, sym kept, sym least, sym most) c.put_line-in-Range.ensures.all

pub returns-in-Name-clause-all : goal.returns-in-Name-clause-all
returns-in-Name-clause-all g c =
    rw (c.in-Name.is, sym c.as_bytes-in-Name.ensures, sym c.as_bytes-in-Name-2.ensures) c.put_line-in-Name.ensures.all
