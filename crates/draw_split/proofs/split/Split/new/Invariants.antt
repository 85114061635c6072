use Rattle.std.proofs.Common.{◌≡◌, ◌-◌, ◌++◌, [], length, map, replicate}
use Rattle.draw_split.proofs.split.Split.new.Given as goal

abbrev pub invariant-loop-missing : goal.invariant-loop-missing
invariant-loop-missing l =
    (length l.offsets.items ≡ l._missing)
    × (map (λ list. list.items) l.offsets.items ≡ map (λ list. list.items) l.initial.offsets.items ++ replicate (l._missing - length l.initial.offsets.items) [])
