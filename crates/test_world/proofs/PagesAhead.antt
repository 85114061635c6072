-- Whether a page is ahead of a mark: on a new disk, after a page has got a stamp, and where the mark rises.
use Rattle.std.proofs.Common.{◌≡◌, ℕ, zero, suc, ◌+◌, ◌<◌, ◌≤◌, true, false, List, [], ◌∷◌, length, map, refl, ap, ◌∙◌, arith}
use Rattle.std.specs.Prelude.{slice_set}
use Rattle.std.specs.List.{list_any, range_with_len}
use Rattle.std.proofs.lemmas.List.{length-set, get_or-set_same}
use Rattle.std.proofs.lemmas.List.Folds.{list_any_at}
use Rattle.page_cache.specs.declared.content.Content.{Content}
use Rattle.page_cache.specs.Cache.{new_page}
use Rattle.test_world.specs.Monitor.{is_above}

-- the pages of a new disk have stamp 0
pub new-below : (from count : ℕ) → list_any (is_above 0) (map new_page (range_with_len from count)) ≡ false
new-below from zero = refl
new-below from (suc count) = new-below (from + 1) count

-- a page that gets a higher stamp is ahead
pub set-above : (mark : ℕ) (disk : List Content) (page : ℕ) (content : Content) → page < length disk → is_above mark content ≡ true
    → list_any (is_above mark) (slice_set disk page content) ≡ true
set-above mark disk page content there above = list_any_at (is_above mark) (slice_set disk page content) page content
    (omega (arith, length-set disk page content, there)) (ap (is_above mark) (get_or-set_same disk page content content there) ∙ above)

-- no page is ahead where one gets a stamp that isn't higher
pub set-below : (mark : ℕ) (disk : List Content) (page : ℕ) (content : Content) → is_above mark content ≡ false
    → list_any (is_above mark) disk ≡ false → list_any (is_above mark) (slice_set disk page content) ≡ false
set-below mark [] page content below none = none
set-below mark (first ∷ rest) zero content below none = grind (arith)
set-below mark (first ∷ rest) (suc page) content below none = grind (arith, set-below mark rest page content below)

-- no page gets ahead of a mark that rises
pub raised-below : (mark n : ℕ) (disk : List Content) → mark ≤ n → list_any (is_above mark) disk ≡ false → list_any (is_above n) disk ≡ false
raised-below mark n [] up none = refl
raised-below mark n (first ∷ rest) up none = grind (arith, raised-below mark n rest up)
