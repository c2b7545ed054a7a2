-- Tables with their entries, and what is kept for checks of them.
use Rattle.fib_entries_rows.specs.Known.{StandsFor, rank_of}
use Rattle.fib_urpf.specs.Kept.{IsFor}
use Rattle.test_urpf.specs.declared.rig.Rig.{Rig}

pub record IsRigged (r : Rig) : Type 0 where
  pub stands : StandsFor r.entries r.config.tables
  pub kept : IsFor r.urpf r.config.tables (rank_of r.entries.rows)
