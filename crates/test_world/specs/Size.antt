-- Sizes of worlds, and the worlds of a size.
use Rattle.std.specs.Prelude.{◌≡◌, ◌≤◌, length}
use Rattle.surw_base.specs.declared.limits.TheConstants.{CELLS, LOCKS, FRAMES, PAGES, SLOTS}
use Rattle.test_world.specs.declared.size.WorldSize.{WorldSize}
use Rattle.test_world.specs.World.{WorldState}

-- a size within the limits
pub record IsWithinLimits (size : WorldSize) : Type 0 where
  pub cells : size.cells ≤ CELLS
  pub locks : size.locks ≤ LOCKS
  pub frames : size.frames ≤ FRAMES
  pub pages : size.pages ≤ PAGES
  pub slots : size.slots ≤ SLOTS

-- the parts of a world are as its size says, which is within the limits
pub record IsOfSize (world : WorldState) : Type 0 where
  pub limits : IsWithinLimits world.size
  pub cells : length world.cells ≡ world.size.cells
  pub locks : length world.locks ≡ world.size.locks
  pub frames : length world.cache.frames ≡ world.size.frames
  pub pages : length world.cache.disk ≡ world.size.pages
  pub slots : world.log.slots ≡ world.size.slots
