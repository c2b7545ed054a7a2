-- The ranges of a run's sizes.
use Rattle.std.specs.Prelude.{◌≡◌, ◌≤◌, ◌%◌}
use Rattle.fib_core.specs.declared.settings.Settings.{Settings}

-- each size lies in its range
pub record InRange (s : Settings) : Type 0 where
  pub some_worker : 1 ≤ s.workers
  pub few_workers : s.workers ≤ 8
  pub enough_objects : 64 ≤ s.objects
  pub objects_fit : s.objects ≤ 131072
  pub even_objects : s.objects % 2 ≡ 0
  pub short_walk : s.walk ≤ 65535
