-- A version as one word: the settled number above, the applied one in the lower 32 bits.
use Rattle.std.specs.Prelude.{ℕ, ◌+◌, ◌*◌, ◌/◌, ◌%◌, ◌^◌}
use Rattle.fib_core_results.specs.declared.record.Version.{Version}

unfoldable pub packed : Version → ℕ
packed v = v.settled * 2 ^ 32 + v.applied

unfoldable pub unpacked : ℕ → Version
unpacked n = record { settled = n / 2 ^ 32; applied = n % 2 ^ 32 }
