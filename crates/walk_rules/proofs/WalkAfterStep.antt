-- What holds of a walk after a step is told.
use Rattle.std.proofs.Common.{◌≡◌, ℕ, ◌+◌, ◌-◌, ◌<◌, ◌≤◌, List, length, get_or, set, IsSome, Option, None, Some, Bool, true, false, cond, not, ◌&&◌, refl, ap, ◌∙◌, subst, sym, inl, inr, arith}
use Rattle.std.proofs.lemmas.Bool.{false≢true, cases_lt, cases_eq}
use Rattle.std.proofs.lemmas.List.{length-set, get_or_past, get_or-set_same, get_or-set_other}
use Rattle.draw_split.specs.Bag.{less_one}
use Rattle.walk_rules.specs.declared.picked.Grant.{Grant}
use Rattle.walk_rules.specs.declared.rule.Rule.{Rule}
use Rattle.walk_rules.specs.declared.rule.Rule.TheVariants.{Pct}
use Rattle.walk_rules.specs.Ranked.{Ranked}
use Rattle.walk_rules.specs.UnderPct.{AreReady, IsUnderPct, reached}
use Rattle.walk_rules.specs.WalkInside.{IsWalk}
use Rattle.walk_rules.specs.declared.walk.Walk.TheInside.{Inside}

length-less_one : (left : List ℕ) (thread : ℕ) → length (less_one left thread) ≡ length left
unfolding less_one
length-less_one left thread = length-set left thread (get_or left thread 0 - 1)

-- no count rises
less_one-le : (left : List ℕ) (thread other : ℕ) → get_or (less_one left thread) other 0 ≤ get_or left other 0
unfolding less_one
less_one-le left thread other =
    let less : ℕ = get_or left thread 0 - 1 in
    elim (cases_eq other thread) [
      | inl same ↦ elim (cases_lt other (length left)) [
        | inl below ↦
            let within : thread < length left = omega arith in
            let now : get_or (set left thread less) thread 0 ≤ get_or left thread 0 = omega (arith, get_or-set_same left thread less 0 within) in
            subst (λ (t : ℕ). get_or (set left thread less) t 0 ≤ get_or left t 0) (sym same) now
        | inr past ↦ omega (arith, get_or_past (set left thread less) other 0 (omega (arith, length-set left thread less)))
      ]
      | inr differ ↦ omega (arith, get_or-set_other left thread other less 0 differ)
    ]

-- a step that is told reaches no further than its grant
pub reached-waiting : (steps : ℕ) (waiting : Option Grant) → IsSome waiting → reached steps waiting ≡ steps + 1
reached-waiting steps None waits = absurd (false≢true waits)
reached-waiting steps (Some grant) waits = refl

pct-told : (rule : Rule) (threads before now : ℕ) (intended later : Option ℕ) (ranks : Option Ranked) → before ≡ now → (intended ≡ None → later ≡ None)
    → IsUnderPct rule threads before intended ranks
    → IsUnderPct rule threads now later ranks
pct-told (Pct depth) threads before now intended later ranks same idle is = (is.0, idle is.1, subst (λ n. AreReady threads n ranks) same is.2)
pct-told rule threads before now intended later ranks same idle is = is

cond-same : (b : Bool) → cond {A = Option ℕ} b None None ≡ None
cond-same true = refl
cond-same false = refl

-- whatever a step was, no thread is intended after it where none was before
pub idle-after : (chosen forced : Bool) (intended : Option ℕ) → intended ≡ None → cond (chosen && not forced) None intended ≡ None
idle-after chosen forced intended none = ap (cond (chosen && not forced) None) none ∙ cond-same (chosen && not forced)

-- where a step is told and the numbers left stay as they were
pub told-same : (walk : Inside) (intended : Option ℕ) (steps : ℕ) → steps ≡ walk.steps + 1 → (walk.intended ≡ None → intended ≡ None) → IsWalk walk → IsSome walk.waiting
    → IsWalk record { rule = walk.rule; counts = walk.counts; steps = steps; left = walk.left; intended = intended; ranks = walk.ranks; waiting = None }
told-same walk intended steps more idle is waits =
    let room = is.room waits in
    record {
      few = is.few;
      each = is.each;
      within = is.within;
      told = omega arith;
      room = λ none. absurd (false≢true none);
      pct =
          pct-told walk.rule (length walk.counts) (reached walk.steps walk.waiting) steps walk.intended intended walk.ranks
          (reached-waiting walk.steps walk.waiting waits ∙ sym more) idle is.pct;
    }

-- and where they are one less for a thread
pub told-less : (walk : Inside) (intended : Option ℕ) (steps thread : ℕ) (left : List ℕ) → steps ≡ walk.steps + 1 → (walk.intended ≡ None → intended ≡ None)
    → left ≡ less_one walk.left thread
    → IsWalk walk → IsSome walk.waiting
    → IsWalk record { rule = walk.rule; counts = walk.counts; steps = steps; left = left; intended = intended; ranks = walk.ranks; waiting = None }
told-less walk intended steps thread left more idle less is waits =
    let room = is.room waits in
    let kept : IsWalk record {
      rule = walk.rule;
      counts = walk.counts;
      steps = steps;
      left = less_one walk.left thread;
      intended = intended;
      ranks =
          walk.ranks;
      waiting = None;
    } =
    record {
      few = is.few;
      each = omega (arith, length-less_one walk.left thread, is.each);
      within = λ other. omega (arith, less_one-le walk.left thread other, is.within other);
      told = omega arith;
      room = λ none. absurd (false≢true none);
      pct = pct-told walk.rule (length walk.counts) (reached walk.steps walk.waiting) steps walk.intended intended walk.ranks
          (reached-waiting walk.steps walk.waiting waits ∙ sym more) idle is.pct;
    } in
    subst (λ (l : List ℕ). IsWalk record
    { rule = walk.rule; counts = walk.counts; steps = steps; left = l; intended = intended; ranks = walk.ranks; waiting = None }) (sym less) kept
