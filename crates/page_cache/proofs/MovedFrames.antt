-- A frame that leaves its list and stands last in another leaves a cache sound.
use Rattle.std.proofs.Common.{◌≡◌, ◌≢◌, ℕ, ◌==◌, ◌<◌, inl, inr, not, true, false, List, length, Option, None, Some, refl, ap, sym, subst, ◌∙◌, arith}
use Rattle.std.specs.Prelude.{slice_set, slice_index_or, is_none}
use Rattle.std.proofs.lemmas.Bool.{cases_eq, eqb-true}
use Rattle.std.proofs.lemmas.List.{length-set, get_or-set_same, get_or-set_other}
use Rattle.frame_links.specs.Lists.{times_in, without, list_at, list_of, at_back, HasSameNodes}
use Rattle.frame_links.proofs.Times.{times-without_same, times-without_other}
use Rattle.frame_links.proofs.Changes.{at_back-other, list_of-has}
use Rattle.page_cache.specs.declared.held.Held.{Held}
use Rattle.page_cache.specs.declared.content.Content.{Content}
use Rattle.page_cache.specs.Cache.{has}
use Rattle.page_cache.specs.Sound.{IsSound, ArePagesApart}

-- the frames but for one are as before, and that one holds a page of the disk
pub record HoldsAt (frames frames_new : List (Option Held)) (disk : List Content) (frame : ℕ) : Type 0 where
  pub many : length frames_new ≡ length frames
  pub others : (other : ℕ) → other ≢ frame → slice_index_or frames_new other None ≡ slice_index_or frames other None
  pub some : is_none (slice_index_or frames_new frame None) ≡ false
  pub on_disk : (held : Held) → slice_index_or frames_new frame None ≡ Some held → held.page < length disk
  pub apart : ArePagesApart frames_new

pub sound-moved : (lists lists_new : List (List ℕ)) (frames frames_new : List (Option Held)) (disk : List Content) (list frame : ℕ)
    → IsSound lists frames disk → lists_new ≡ at_back lists list frame → HasSameNodes lists lists_new → 0 ≢ list
    → HoldsAt frames frames_new disk frame → IsSound lists_new frames_new disk
sound-moved lists lists_new frames frames_new disk list frame sound is same apart holds =
    let free : list_at lists_new 0 ≡ without frame (list_at lists 0) = ap (λ (l : List (List ℕ)). list_at l 0) is
    ∙ at_back-other lists list 0 frame apart in
    let has_now : (other : ℕ) → has other (list_at lists_new 0) ≡ has other (without frame (list_at lists 0)) =
    λ other. ap (has other) free in
    record {
      three = same.lists ∙ sound.three;
      nodes = same.nodes ∙ sound.nodes ∙ sym holds.many;
      each_once = same.each_once;
      few = omega (arith, holds.many, sound.few);
      pages = sound.pages;
      free = λ other lt. elim (cases_eq other frame) as (λ _. is_none (slice_index_or frames_new other None) ≡ has other
          (list_at lists_new 0)) [
            | inl here ↦
                ap (λ n. is_none (slice_index_or frames_new n None)) here ∙ holds.some
                ∙ sym (has_now other ∙ ap (λ n. has n (without frame (list_at lists 0))) here
                ∙ ap (λ n. not (n == 0)) (times-without_same frame (list_at lists 0)))
            | inr ne ↦
                ap is_none (holds.others other ne) ∙ sound.free other (omega (arith, lt, holds.many))
                ∙ sym (has_now other ∙ ap (λ n. not (n == 0)) (times-without_other other frame (list_at lists 0) ne))
          ];
      on_disk = λ other held there. elim (cases_eq other frame) as (λ _. held.page < length disk) [
        | inl here ↦ holds.on_disk held (ap (λ n. slice_index_or frames_new n None) (sym here) ∙ there)
        | inr ne ↦ sound.on_disk other held (sym (holds.others other ne) ∙ there)
      ];
      apart = holds.apart;
    }

-- nothing else changes
pub holds-same : (lists : List (List ℕ)) (frames : List (Option Held)) (disk : List Content) (frame : ℕ) → IsSound lists frames disk
    → frame < length frames → has frame (list_at lists 0) ≡ false → HoldsAt frames frames disk frame
holds-same lists frames disk frame sound lt held = record {
  many = refl;
  others = λ other ne. refl;
  some = sound.free frame lt ∙ held;
  on_disk = λ held there. sound.on_disk frame held there;
  apart = sound.apart;
}

-- it holds another page
pub holds-new : (frames : List (Option Held)) (disk : List Content) (frame : ℕ) (held : Held) → frame < length frames
    → held.page < length disk → ArePagesApart (slice_set frames frame (Some held))
    → HoldsAt frames (slice_set frames frame (Some held)) disk frame
holds-new frames disk frame held lt page apart =
    let now : slice_index_or (slice_set frames frame (Some held)) frame None ≡ Some held =
    get_or-set_same frames frame (Some held) None lt in
    record {
      many = length-set frames frame (Some held);
      others = λ other ne. get_or-set_other frames frame other (Some held) None ne;
      some = ap is_none now;
      on_disk = λ other there. let same : held ≡ other = cc in subst (λ (h : Held). h.page < length disk) same page;
      apart = apart;
    }

-- a free frame isn't dirty
pub free-apart : (lists : List (List ℕ)) (frame : ℕ) → times_in frame lists ≡ 1 → length lists ≡ 3 → has frame (list_at lists 0) ≡ true
    → has frame (list_at lists 2) ≡ false
free-apart lists frame once three free =
    let first : list_of lists frame ≡ 0 = eqb-true (list_of lists frame) 0 (list_of-has lists 0 frame once (omega (arith, three)) ∙ free) in
    sym (list_of-has lists 2 frame once (omega (arith, three))) ∙ ap (λ n. n == 2) first
