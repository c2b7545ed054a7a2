-- Equality of prefixes as a test.
use Rattle.std.specs.Prelude.{◌≡◌, ℕ, ◌==◌, Decides}
use Rattle.std.specs.Cmp.{IsEquivalence, decided}
use Rattle.std.proofs.Common.{ap, ◌∙◌}
use Rattle.std.proofs.lemmas.Bool.Decides.{Decides-and, Decides-eqb, Decides-like}
use Rattle.fib_addr.specs.Prefixes.{Prefix, same_prefix}

prefix_with : ℕ → ℕ → Prefix
prefix_with bits len = record { bits = bits; len = len }

pub same_fields : (p q : Prefix) → (p.bits ≡ q.bits) × (p.len ≡ q.len) → p ≡ q
unfolding prefix_with
same_fields p q h = ap (λ n. prefix_with n p.len) h.0 ∙ ap (λ n. prefix_with q.bits n) h.1

pub same_prefix-Decides : (p q : Prefix) → Decides (same_prefix p q) (p ≡ q)
same_prefix-Decides p q =
    Decides-like (same_prefix p q) (same_fields p q) (λ e. (ap (λ (x : Prefix). x.bits) e, ap (λ (x : Prefix). x.len) e))
    (Decides-and (p.bits == q.bits) (p.len == q.len) (Decides-eqb p.bits q.bits) (Decides-eqb p.len q.len))

pub same_prefix_equiv : IsEquivalence same_prefix
same_prefix_equiv = decided same_prefix same_prefix-Decides
