use Rattle.std.proofs.Common.{sym, ◌∙◌}
use Rattle.fault_text.proofs.fault.Fault.put.Goals as goal

pub returns-in-Length-clause-all : goal.returns-in-Length-clause-all
returns-in-Length-clause-all g c = rw c.in-Length.is c.put_line-in-Length.ensures.all

pub returns-in-Large-clause-all : goal.returns-in-Large-clause-all
returns-in-Large-clause-all g c = rw (c.in-Large.is, sym c.from.ensures) c.put_line-in-Large.ensures.all

pub returns-in-Miscount-clause-all : goal.returns-in-Miscount-clause-all
returns-in-Miscount-clause-all g c =
    rw (c.in-Miscount.is, sym (c.from-in-Miscount.ensures ∙ c.get.ensures.same), sym c.from-in-Miscount-2.ensures, sym c.from-in-Miscount-3.ensures)
    c.put_line-in-Miscount.ensures.all

pub returns-in-Offsets-clause-all : goal.returns-in-Offsets-clause-all
returns-in-Offsets-clause-all g c =
    rw (c.in-Offsets.is, sym (c.from-in-Offsets.ensures ∙ c.get-in-Offsets.ensures.same), sym c.from-in-Offsets-2.ensures, sym c.from-in-Offsets-3.ensures)
    c.put_line-in-Offsets.ensures.all

pub returns-in-Offset-clause-all : goal.returns-in-Offset-clause-all
returns-in-Offset-clause-all g c =
    rw (c.in-Offset.is, sym (c.from-in-Offset.ensures ∙ c.get-in-Offset.ensures.same), sym c.from-in-Offset-2.ensures, sym c.from-in-Offset-3.ensures, sym c.from-in-Offset-4.ensures)
    c.put_line-in-Offset.ensures.all

pub returns-in-TooLong-clause-all : goal.returns-in-TooLong-clause-all
returns-in-TooLong-clause-all g c = rw (c.in-TooLong.is, sym c.from-in-TooLong.ensures) c.put_line-in-TooLong.ensures.all

pub returns-in-ProfileDeadlock-clause-all : goal.returns-in-ProfileDeadlock-clause-all
returns-in-ProfileDeadlock-clause-all g c =
    rw (c.in-ProfileDeadlock.is, sym c.from-in-ProfileDeadlock.ensures) c.put_line-in-ProfileDeadlock.ensures.all

pub returns-in-OtherScenario-clause-all : goal.returns-in-OtherScenario-clause-all
returns-in-OtherScenario-clause-all g c =
    rw (c.in-OtherScenario.is, sym c.name_digits.ensures, sym c.name_digits-in-OtherScenario.ensures) c.put_line-in-OtherScenario.ensures.all
