-- Facts that hold whatever a call answered.
use Rattle.std.proofs.Common.{Result, Ok, Err, OnOk, OnErr, IsOk, MatchResult}

pub on_ok : {T E : Type 0} (result : Result T E) {P : Type 0} → P → OnOk result P
on_ok (Ok x) p = p
on_ok (Err e) p = tt

pub on_err : {T E : Type 0} (result : Result T E) {P : Type 0} → P → OnErr result P
on_err (Ok x) p = tt
on_err (Err e) p = p

-- nothing is owed at an error where there is none
pub on_err_none : {T E : Type 0} (result : Result T E) (P : Type 0) → IsOk result → OnErr result P
on_err_none (Ok x) P ok = tt
on_err_none (Err e) P ok = cc

-- what holds at either answer holds
pub either : {T E : Type 0} (result : Result T E) {P : Type 0} → MatchResult result (λ _. P) (λ _. P) → P
either (Ok x) p = p
either (Err e) p = p
