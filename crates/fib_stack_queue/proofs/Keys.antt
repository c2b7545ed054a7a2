-- Keys tell prefixes apart, and are ordered as the code compares them.
use Rattle.std.proofs.Common.{arith, ◌≡◌, ℕ, ◌+◌, ◌*◌, ◌-◌, ◌<◌, ◌≤◌, get_or, length, take, drop, Bool, true, false, eq-eqb, ne_eqb, List, refl, sym, ap, ap₂, ◌∙◌}
use Rattle.std.specs.Prelude.{◌==◌}
use Rattle.std.proofs.lemmas.List.{take-append-drop}
use native.Mathlib.Decide.{ℕ_discrete}
use mathlib.Core.Logic.{dite}
use Rattle.fib_addr.specs.Prefixes.{Prefix, IsPrefix, same_prefix}
use Rattle.fib_addr.proofs.PrefixLaws.{same_prefix-Decides}
use Rattle.fib_base_ordered.specs.Sets.{IsAscending}
use Rattle.fib_base_ordered.specs.inner.Blocks.{IsCut}
use Rattle.fib_base_ordered.proofs.Cuts.{from_on, up_to}
use Rattle.fib_stack_queue.specs.Queues.{prefix_key, turn_key, key_in}
use Rattle.fib_stack_queue.specs.declared.order.Queued.{Queued}

pub not_true : (b : Bool) → (b ≡ true → ⊥) → b ≡ false
not_true true h = absurd (h refl)
not_true false h = refl

equal_parts : (b b' l l' : ℕ) → l < 64 → l' < 64 → 64 * b + l ≡ 64 * b' + l' → (b ≡ b') × (l ≡ l')
equal_parts b b' l l' lt lt' e = (omega arith, omega arith)

pub same_key : (p q : Prefix) → p.len < 64 → q.len < 64 → prefix_key p ≡ prefix_key q → p ≡ q
same_key p q lt lt' e =
    let h = equal_parts p.bits q.bits p.len q.len lt lt' e in
    ap₂ (λ (b l : ℕ). let r : Prefix = record { bits = b; len = l } in r) h.0 h.1

pub short : (p : Prefix) → IsPrefix p → p.len < 64
short p h = let l = h.short in omega (arith, l)

below_32 : (r r' b b' l l' : ℕ) → b < 4294967296 → b' < 4294967296 → l < 64 → l' < 64 → 64 * (4294967296 * r + b) + l ≡ 64 * (4294967296 * r' + b') + l' → 64 * b + l ≡ 64 * b' + l'
below_32 r r' b b' l l' lt lt' s s' e = omega arith

-- equal turns are of one prefix
pub same_turn : (x y : Queued) → IsPrefix x.prefix → IsPrefix y.prefix → turn_key x ≡ turn_key y → key_in x ≡ key_in y
same_turn x y p q e = below_32 x.rank y.rank x.prefix.bits y.prefix.bits x.prefix.len y.prefix.len p.fits q.fits (short x.prefix p) (short y.prefix q) e

-- a smaller rank, or the same rank and a smaller key
by_rank : (r r' b b' l l' : ℕ) → b < 4294967296 → l < 64 → r < r' → 64 * (4294967296 * r + b) + l < 64 * (4294967296 * r' + b') + l'
by_rank r r' b b' l l' lt s h = omega arith

pub rank_before : (x y : Queued) → IsPrefix x.prefix → x.rank < y.rank → turn_key x < turn_key y
rank_before x y p h = by_rank x.rank y.rank x.prefix.bits y.prefix.bits x.prefix.len y.prefix.len p.fits (short x.prefix p) h

by_key : (r r' b b' l l' : ℕ) → r ≤ r' → 64 * b + l < 64 * b' + l' → 64 * (4294967296 * r + b) + l < 64 * (4294967296 * r' + b') + l'
by_key r r' b b' l l' h k = omega arith

pub key_before : (x y : Queued) → x.rank ≤ y.rank → key_in x < key_in y → turn_key x < turn_key y
key_before x y h k = by_key x.rank y.rank x.prefix.bits y.prefix.bits x.prefix.len y.prefix.len h k

not_by_key : (r r' b b' l l' : ℕ) → r ≤ r' → 64 * b + l ≤ 64 * b' + l' → 64 * (4294967296 * r + b) + l ≤ 64 * (4294967296 * r' + b') + l'
not_by_key r r' b b' l l' h k = omega arith

pub key_not_before : (x y : Queued) → x.rank ≤ y.rank → key_in x ≤ key_in y → turn_key x ≤ turn_key y
key_not_before x y h k = not_by_key x.rank y.rank x.prefix.bits y.prefix.bits x.prefix.len y.prefix.len h k

-- who is taken before has no greater rank
not_greater : (r r' b b' l l' : ℕ) → b' < 4294967296 → l' < 64 → 64 * (4294967296 * r + b) + l < 64 * (4294967296 * r' + b') + l' → r ≤ r'
not_greater r r' b b' l l' lt s h = omega arith

pub before_rank : (x y : Queued) → IsPrefix y.prefix → turn_key x < turn_key y → x.rank ≤ y.rank
before_rank x y p h = not_greater x.rank y.rank x.prefix.bits y.prefix.bits x.prefix.len y.prefix.len p.fits (short y.prefix p) h

-- keys are equal exactly where prefixes are
pub test_key : (e p : Prefix) → e.len < 64 → p.len < 64 → (prefix_key e == prefix_key p) ≡ same_prefix e p
test_key e p lt lt' = dite (ℕ_discrete (prefix_key e) (prefix_key p))
    (λ same. eq-eqb (prefix_key e) (prefix_key p) same ∙ sym ((same_prefix-Decides e p).1 (same_key e p lt lt' same)))
    (λ ne. ne_eqb (prefix_key e) (prefix_key p) ne ∙ sym (not_true (same_prefix e p) (λ is. ne (ap prefix_key ((same_prefix-Decides e p).0 is)))))

-- a list in order is cut where a search ends
pub cut_at : (key : ℕ) (xs : List Queued) (j : ℕ) → IsAscending turn_key xs → j ≤ length xs → ((d : Queued) → 0 < j → turn_key (get_or xs (j - 1) d) < key) → ((d : Queued) → j < length xs → key ≤ turn_key (get_or xs j d)) → IsCut turn_key key xs (take j xs) (drop j xs)
cut_at key xs j asc le low high = record { whole = sym (take-append-drop j xs); lower = up_to turn_key key xs j asc le low; upper = from_on turn_key key xs j asc high }
