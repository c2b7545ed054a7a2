-- Prefixes that differ aren't the same.
use Rattle.std.proofs.Common.{◌≡◌, ◌≢◌, false, inl, inr}
use Rattle.fib_base_list.proofs.Lists.{either}
use Rattle.fib_addr.specs.Prefixes.{Prefix, same_prefix}
use Rattle.fib_addr.proofs.PrefixLaws.{same_prefix-Decides}

pub same_not : (d e : Prefix) → d ≢ e → same_prefix d e ≡ false
same_not d e off = elim (either (same_prefix d e)) [ inl is ↦ absurd (off ((same_prefix-Decides d e).0 is)) | inr isnt ↦ isnt ]
