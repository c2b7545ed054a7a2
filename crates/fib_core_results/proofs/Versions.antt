-- A version's word says the version.
use Rattle.std.proofs.Common.{arith, ◌≡◌, ◌<◌, ◌+◌, ◌*◌, ◌/◌, ◌%◌, ◌^◌}
use Rattle.fib_core_results.specs.declared.record.Version.{Version}
use Rattle.fib_core_results.specs.Versions.{packed, unpacked}

pub unpacked_packed : (v : Version) → v.applied < 2 ^ 32 → unpacked (packed v) ≡ v
unfolding packed unpacked
unpacked_packed v lt =
    let d : (v.settled * 4294967296 + v.applied) / 4294967296 ≡ v.settled = omega arith in
    let m : (v.settled * 4294967296 + v.applied) % 4294967296 ≡ v.applied = omega arith in
    λ i. record { settled = d i; applied = m i }
