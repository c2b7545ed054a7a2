-- How the fields of a configuration fit together. No contract of a public call rests on this.
use Rattle.std.specs.Prelude.{ℕ}
use Rattle.fib_resolve.specs.declared.types.Tables.{Tables}
use Rattle.fib_config.specs.Config.{IsFine}
use Rattle.fib_config.specs.inner.Digest.{IsDigest}
use Rattle.fib_config.specs.declared.digest.Digest.{Digest}

-- sound tables, and what is known of them
pub record AreFields (tables : Tables) (room : ℕ) (known : Digest) : Type 0 where
  pub fine : IsFine (record { tables = tables; room = room })
  pub digest : IsDigest tables known
