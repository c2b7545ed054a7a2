-- What others may do to the plane while nothing is put.
use Rattle.std.specs.Prelude.{◌≡◌, ℕ, ◌<◌, Option}
use Rattle.fib_addr.specs.Prefixes.{Prefix}
use Rattle.fib_pool.specs.declared.object.AdjacencyRecord.{AdjacencyRecord}
use Rattle.fib_core_steady.specs.Names.{Names}
use Rattle.fib_plane_view.specs.Frames.{IsQuiet}
use Rattle.fib_plane_view.specs.Promise.{Promise, Serves}
use Rattle.fib_plane_view.specs.View.{View, IsBalance}

-- balances that are held keep their cells, none is new, and records with users keep their objects
pub record IsMoved (p : Promise) (u v : View) : Type 0 where
  pub users : (m : AdjacencyRecord) → v.users m ≡ u.users m
  pub records : (m : AdjacencyRecord) → 0 < u.users m → v.record_of m ≡ u.record_of m
  pub stay : (x : ℕ) → IsBalance u x → IsBalance v x
  pub fresh : (x : ℕ) → IsBalance v x → IsBalance u x
  pub cells : (x k : ℕ) → IsBalance u x → v.cell x k ≡ u.cell x k
  pub quiet : (look : Prefix → Option ℕ) → IsQuiet look u v
  pub serves : (n : Names) → Serves p n u → Serves p n v
