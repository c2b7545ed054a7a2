use Rattle.std.proofs.Common.{arith, ℕ, ◌/◌, ◌^◌, ◌<◌, ◌≤◌}
use Rattle.std.proofs.Math.Nat.{div-mul-le_self, mul-mod_left}
use Rattle.fib_addr.specs.Prefixes.{IsPrefix, size_of, masked}
use Rattle.fib_addr.proofs.net.Prefix.masked.Goals as goal

masked_is_prefix : (a len : ℕ) → len ≤ 32 → a < 2 ^ 32 → IsPrefix (masked a len)
masked_is_prefix a len short fits = record {
  short = short;
  fits = omega (arith, div-mul-le_self a (size_of len));
  cleared = mul-mod_left (a / size_of len) (size_of len);
}

pub invariant_of-result : goal.invariant_of-result
invariant_of-result c = rw c.cleared.ensures (masked_is_prefix _ c.args.len c.requires (omega arith))
