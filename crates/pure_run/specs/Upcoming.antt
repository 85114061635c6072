-- What comes next, as a grant and a verdict that stand apart.
use Rattle.std.specs.Prelude.{Option, None, Some}
use Rattle.walk_rules.specs.declared.picked.Grant.{Grant}
use Rattle.run_rules.specs.declared.verdict.Verdict.{Verdict}
use Rattle.pure_run.specs.declared.next.Next.{Next}
use Rattle.pure_run.specs.declared.next.Next.TheVariants.{Due, Granted, Stopped}

-- a grant, else a verdict, else a word that is due
abbrev pub next_of : Option Grant → Option Verdict → Next
next_of (Some grant) stopped = Granted grant
next_of None (Some verdict) = Stopped verdict
next_of None None = Due

-- the grant, if it is one
abbrev pub granted_in : Next → Option Grant
granted_in (Granted grant) = Some grant
granted_in next = None
