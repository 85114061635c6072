-- No two frames hold one page, also after one of them holds another.
use Rattle.std.proofs.Common.{◌≡◌, ◌≢◌, ℕ, zero, suc, ◌+◌, ◌<◌, inl, inr, Bool, cond, true, false, List, [], ◌∷◌, length, Option, None, Some, ap, sym, ◌∙◌}
use Rattle.std.specs.Prelude.{slice_set, slice_index_or}
use Rattle.std.specs.List.{position_from}
use Rattle.std.proofs.lemmas.Bool.{cases_eq, eqb-true, false≢true}
use Rattle.std.proofs.lemmas.List.{get_or-set_same, get_or-set_other}
use Rattle.page_cache.specs.declared.held.Held.{Held}
use Rattle.page_cache.specs.Cache.{holds}
use Rattle.page_cache.specs.Sound.{ArePagesApart}

-- nothing is found further on either
later-none : (b : Bool) (from : ℕ) (later : Option ℕ) → cond b (Some from) later ≡ None → later ≡ None
later-none true from later none = absurd (cc)
later-none false from later none = none

-- a page for which no frame is found is held in none
none-holds : (page from : ℕ) (frames : List (Option Held)) (frame : ℕ) → position_from (holds page) from frames ≡ None
    → holds page (slice_index_or frames frame None) ≡ true → ⊥
none-holds page from [] frame none there = false≢true there
none-holds page from (first ∷ rest) zero none there = absurd (cc (sym (ap (λ (b : Bool). cond b (Some from) (position_from
    (holds page) (from + 1) rest)) there) ∙ none))
none-holds page from (first ∷ rest) (suc frame) none there = none-holds page (from + 1) rest frame (later-none (holds page first) from
    (position_from (holds page) (from + 1) rest) none) there

-- a frame holds a page that no other holds
pub apart-set : (frames : List (Option Held)) (frame : ℕ) (held : Held) → frame < length frames → ArePagesApart frames
    → ((other : ℕ) → other ≢ frame → holds held.page (slice_index_or frames other None) ≡ true → ⊥)
    → ArePagesApart (slice_set frames frame (Some held))
apart-set frames frame held lt are none =
    let frames_new : List (Option Held) = slice_set frames frame (Some held) in
    let here : slice_index_or frames_new frame None ≡ Some held = get_or-set_same frames frame (Some held) None lt in
    let others : (other : ℕ) → other ≢ frame → slice_index_or frames_new other None ≡ slice_index_or frames other None =
    λ other ne. get_or-set_other frames frame other (Some held) None ne in
    let page_is : (page one : ℕ) → one ≡ frame → holds page (slice_index_or frames_new one None) ≡ true → held.page ≡ page =
    λ page one e there. eqb-true held.page page (sym (ap (λ n. holds page (slice_index_or frames_new n None)) e ∙ ap (holds page) here)
    ∙ there) in
    let elsewhere : (page other : ℕ) → held.page ≡ page → other ≢ frame → holds page (slice_index_or frames_new other None) ≡ true → ⊥ =
    λ page other is ne there. none other ne (ap (λ n. holds n (slice_index_or frames other None)) is
    ∙ ap (holds page) (sym (others other ne)) ∙ there) in
    record {
      apart = λ page one other one_there other_there. elim (cases_eq one frame) as (λ _. one ≡ other) [
        | inl one_here ↦ elim (cases_eq other frame) as (λ _. one ≡ other) [
          | inl other_here ↦ one_here ∙ sym other_here
          | inr other_ne ↦ absurd (elsewhere page other (page_is page one one_here one_there) other_ne other_there)
        ]
        | inr one_ne ↦ elim (cases_eq other frame) as (λ _. one ≡ other) [
          | inl other_here ↦ absurd (elsewhere page one (page_is page other other_here other_there) one_ne one_there)
          | inr other_ne ↦ are.apart page one other (ap (holds page) (sym (others one one_ne))
              ∙ one_there) (ap (holds page) (sym (others other other_ne)) ∙ other_there)
        ]
      ];
    }

pub apart-claimed : (frames : List (Option Held)) (frame : ℕ) (held : Held) → frame < length frames → ArePagesApart frames
    → position_from (holds held.page) 0 frames ≡ None → ArePagesApart (slice_set frames frame (Some held))
apart-claimed frames frame held lt are none = apart-set frames frame held lt are
    (λ other ne there. none-holds held.page 0 frames other none there)
