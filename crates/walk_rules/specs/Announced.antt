-- What holds of every `Announced`.
use Rattle.std.specs.Prelude.{◌≡◌, ◌≤◌, length, map}
use Rattle.std.specs.Simd.Lanes.{mask_l}
use Rattle.surw_base.specs.declared.limits.TheConstants.{THREADS}
use Rattle.walk_rules.specs.declared.announced.Announced.TheInside.{Inside}
use Rattle.walk_rules.specs.Seen.{is_able, is_announcing, is_unselected}

-- the threads that announce an event are in one set, those that can go on in another, and in a third those of them whose event isn't selected
pub record AreKept (announced : Inside) : Type 0 where
  pub few : length announced.seen.items ≤ THREADS
  pub announcing_marked : announced.announcing.bits ≡ mask_l (map is_announcing announced.seen.items)
  pub able_marked : announced.able.bits ≡ mask_l (map is_able announced.seen.items)
  pub unselected_marked : announced.unselected.bits ≡ mask_l (map is_unselected announced.seen.items)
