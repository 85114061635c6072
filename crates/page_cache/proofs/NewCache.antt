-- A cache as a test begins is sound.
use Rattle.std.proofs.Common.{◌≡◌, ℕ, zero, suc, ◌==◌, ◌≤◌, not, List, length, map, replicate, Option, None, refl, ap, sym, ◌∙◌, arith}
use Rattle.std.specs.Prelude.{slice_index_or, is_none}
use Rattle.std.specs.List.{range_with_len}
use Rattle.std.proofs.lemmas.Bool.{false≢true}
use Rattle.std.proofs.lemmas.List.{length-replicate}
use Rattle.std.proofs.lemmas.List.FromFn.{length-map-range_with_len}
use Rattle.surw_base.specs.declared.limits.TheConstants.{FRAMES, PAGES}
use Rattle.frame_links.specs.Lists.{times, times_in, list_at, node_count, first_lists, HasEachOnce}
use Rattle.page_cache.specs.declared.held.Held.{Held}
use Rattle.page_cache.specs.declared.content.Content.{Content}
use Rattle.page_cache.specs.Cache.{holds, new_page}
use Rattle.page_cache.specs.Sound.{IsSound}

-- nothing is held anywhere
none-held : (frames frame : ℕ) → slice_index_or (replicate {A = Option Held} frames None) frame None ≡ None
none-held zero frame = refl
none-held (suc frames) zero = refl
none-held (suc frames) (suc frame) = none-held frames frame

pub sound-new : (count pages : ℕ) (lists : List (List ℕ)) (frames : List (Option Held)) (disk : List Content) → count ≤ FRAMES
    → pages ≤ PAGES
    → lists ≡ first_lists count 3 → node_count lists ≡ count → HasEachOnce lists → frames ≡ replicate count None
    → disk ≡ map new_page (range_with_len 0 pages) → IsSound lists frames disk
sound-new count pages lists frames disk few some is nodes each_once none is_disk =
    let many : length frames ≡ count = ap length none ∙ length-replicate {A = Option Held} count None in
    let nothing : (frame : ℕ) → slice_index_or frames frame None ≡ None =
    λ frame. ap (λ (l : List (Option Held)). slice_index_or l frame None) none ∙ none-held count frame in
    record {
      three = ap length is;
      nodes = nodes ∙ sym many;
      each_once = each_once;
      few = omega (arith, many, few);
      pages = omega (arith, ap length is_disk, length-map-range_with_len new_page 0 pages, some);
      free = λ frame lt.
          let there : times frame (list_at lists 0) ≡ 1 =
          ap (λ (l : List (List ℕ)). times frame (list_at l 0)) is ∙ omega (
            arith,
            ap (times_in frame) is,
            each_once.once frame (omega
                (arith, lt, many, nodes)),
          ) in
          ap is_none (nothing frame) ∙ sym (ap (λ n. not (n == 0)) there);
      on_disk = λ frame held there. absurd (cc (nothing frame, there));
      apart = record { apart = λ page one other there _. absurd (false≢true (sym (ap (holds page) (nothing one)) ∙ there)) };
    }
