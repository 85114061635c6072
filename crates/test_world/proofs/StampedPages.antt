-- What a flush that replies 0 does to the disk.
use Rattle.std.proofs.Common.{◌≡◌, ℕ, ◌<◌, ◌≤◌, Bool, cond, true, false, List, length, Option, None, Some, refl, ap, sym, ◌∙◌}
use Rattle.std.specs.Prelude.{slice_set, nat_lt, if◌then◌else◌}
use Rattle.std.specs.List.{list_any}
use Rattle.std.proofs.lemmas.Bool.{lt-ltb, le-ltb}
use Rattle.surw_base.specs.Number.{greatest}
use Rattle.page_cache.specs.declared.held.Held.{Held}
use Rattle.page_cache.specs.declared.content.Content.{Content}
use Rattle.page_cache.specs.Cache.{CacheState, is_past, has, held_in, dirty_in, last_of_clean, stored}
use Rattle.page_cache.specs.Events.{Answer, stays, answer, where_some, flush, stamp}
use Rattle.test_world.specs.Monitor.{is_above}
use Rattle.test_world.proofs.PagesAhead.{set-above, set-below}

-- one page of the disk has got this stamp
pub record HasStamped (old new : List Content) (stamp : ℕ) : Type 0 where
  pub page : ℕ
  pub content : Content
  pub there : page < length old
  pub is : new ≡ slice_set old page content
  pub stamp_is : content.stamp ≡ stamp

-- what a frame holds is what it holds if it is dirty
held-dirty : (dirty : Bool) (held_there : Option Held) (held : Held) → cond dirty held_there None ≡ Some held → held_there ≡ Some held
held-dirty true held_there held is = is
held-dirty false held_there held is = absurd (cc)

-- what a flush answers, by whether the frame is past the size and what it holds if it is dirty
abbrev flushed : CacheState → ℕ → Bool → Option Held → Answer
flushed cache frame past dirty =
    if past then stays cache greatest else (
    where_some dirty (λ held. answer 0 (last_of_clean (stored cache held) frame)) (stays cache 1))

stamped-in : (cache : CacheState) (frame : ℕ) (past : Bool) (dirty : Option Held)
    → ((held : Held) → held_in cache frame ≡ Some held → held.page < length cache.disk) → dirty_in cache frame ≡ dirty
    → (flushed cache frame past dirty).reply ≡ 0
    → HasStamped cache.disk (flushed cache frame past dirty).after.disk (stamp (flushed cache frame past dirty).after frame).reply
stamped-in cache frame true dirty on_disk is done = absurd (cc)
stamped-in cache frame false None on_disk is done = absurd (cc)
stamped-in cache frame false (Some held) on_disk is done =
    let after : CacheState = last_of_clean (stored cache held) frame in
    let here : held_in cache frame ≡ Some held = held-dirty (has frame cache.dirty) (held_in cache frame) held is in
    record {
      page = held.page;
      content = held.content;
      there = on_disk held here;
      is = refl;
      stamp_is = sym (ap (λ (h : Option Held). (where_some h (λ there. stays after there.content.stamp) (stays after greatest)).reply) here);
    }

-- a flush that replies 0 has stamped a page of the disk as the frame is
pub stamped : (cache : CacheState) (frame : ℕ) → ((held : Held) → held_in cache frame ≡ Some held → held.page < length cache.disk)
    → (flush cache frame).reply ≡ 0 → HasStamped cache.disk (flush cache frame).after.disk (stamp (flush cache frame).after frame).reply
stamped cache frame on_disk done = stamped-in cache frame (is_past cache.frames frame) (dirty_in cache frame) on_disk refl done

-- a page is ahead where that stamp is above the mark
pub stamped-above : (mark : ℕ) (old new : List Content) (stamp : ℕ) → HasStamped old new stamp → mark < stamp
    → list_any (is_above mark) new ≡ true
stamped-above mark old new stamp has above = ap (list_any (is_above mark)) has.is
    ∙ set-above mark old has.page has.content has.there (ap (nat_lt mark) has.stamp_is ∙ lt-ltb mark stamp above)

-- no page is ahead where none was, and that stamp isn't above the mark
pub stamped-below : (mark : ℕ) (old new : List Content) (stamp : ℕ) → HasStamped old new stamp → stamp ≤ mark
    → list_any (is_above mark) old ≡ false → list_any (is_above mark) new ≡ false
stamped-below mark old new stamp has below none = ap (list_any (is_above mark)) has.is
    ∙ set-below mark old has.page has.content (ap (nat_lt mark) has.stamp_is ∙ le-ltb mark stamp below) none
