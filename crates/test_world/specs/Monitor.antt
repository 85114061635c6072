-- Monitors.
use Rattle.std.specs.Prelude.{◌≡◌, ◌<◌, ◌==◌, ℕ, Bool, not, nat_lt, slice_index}
use Rattle.std.specs.List.{list_any}
use Rattle.page_cache.specs.declared.content.Content.{Content}
use Rattle.wal_log.specs.Log.{is_whole}
use Rattle.test_world.specs.declared.monitor.Monitor.{Monitor}
use Rattle.test_world.specs.declared.monitor.Monitor.TheVariants.{WriteAhead, LogWhole, Expect, CellEnd}
use Rattle.test_world.specs.declared.size.WorldSize.{WorldSize}
use Rattle.test_world.specs.Size.{IsOfSize}
use Rattle.test_world.specs.World.{WorldState}

-- the cell that a monitor watches is there
abbrev pub CanWatch : WorldSize → Monitor → Type 0
CanWatch size (CellEnd cell value) = cell < size.cells
CanWatch size _ = Unit {0}

-- whether the stamp of a page is above a mark
abbrev pub is_above : ℕ → Content → Bool
is_above mark page = nat_lt mark page.stamp

-- whether a page of the disk has a stamp above the mark of the log
abbrev pub is_ahead : WorldState → Bool
is_ahead w = list_any (is_above w.log.mark) w.cache.disk

-- whether a monitor fails in a world
abbrev pub is_failing : WorldState → Monitor → Bool
is_failing w WriteAhead = is_ahead w
is_failing w LogWhole = not (is_whole w.log)
is_failing w Expect = nat_lt 0 w.checks
is_failing w (CellEnd cell value) = not (slice_index w.cells cell == value)

-- the parts of a world are as its size says, and it is kept whether a page is ahead of the log
pub record IsKept (kept : Bool) (world : WorldState) : Type 0 where
  pub size : IsOfSize world
  pub ahead : kept ≡ is_ahead world
