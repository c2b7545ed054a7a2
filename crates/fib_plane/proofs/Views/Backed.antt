-- Where the adjacencies that are held were held, and the records are the same, each is a record's still.
use Rattle.std.proofs.Common.{◌≡◌, ℕ, true, ap, ◌∙◌}
use Rattle.std.specs.Prelude.{is_some}
use Rattle.fib_base_interned.specs.Interned.{kept_of}
use Rattle.fib_pool.specs.Objects.{at}
use Rattle.fib_plane.specs.Planes.{IsHeld, Plane}
use Rattle.fib_plane.specs.Views.{AreRecorded, is_adjacency_at}

pub recorded_by : (p q : Plane) → AreRecorded p → ((y : ℕ) → is_adjacency_at (at q.objects y) ≡ true → IsHeld q.board q.objects y → (is_adjacency_at (at p.objects y) ≡ true) × IsHeld p.board p.objects y)
    → q.records ≡ p.records → AreRecorded q
recorded_by p q all back records o is h = let b = back o is h in ap (λ rows. is_some (kept_of rows o)) records ∙ all o b.0 b.1
