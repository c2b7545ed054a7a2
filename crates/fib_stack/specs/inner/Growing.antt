-- Puts in place of Drop: edges only come.
use Rattle.std.specs.Prelude.{◌≡◌, ℕ, ◌+◌, ◌≤◌}
use Rattle.fib_reach.specs.Walks.{Leads}
use Rattle.fib_plane_view.specs.View.{View, Edge, IsLive, SameRecords}

-- what is live keeps the walks that begin at it, and what the control plane holds stays
pub record Grew (u v : View) : Type 0 where
  pub walks : (y z : ℕ) → IsLive v y → Leads (Edge u) y z → Leads (Edge v) y z
  pub held : (y : ℕ) → v.is_held y ≡ u.is_held y
  pub records : SameRecords u v
  pub retired : v.retired ≡ u.retired
  pub free : u.free ≤ v.free
  pub stored : u.stored ≤ v.stored
  pub spare : u.spare ≤ v.spare + 1
