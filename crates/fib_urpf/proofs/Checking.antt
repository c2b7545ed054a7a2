-- What is kept of the longest entry that contains an address answers both checks.
use Rattle.std.proofs.Common.{⊎_elim, ◌≡◌, ℕ, zero, suc, ◌<◌, ◌≤◌, Bool, true, false, not, ◌||◌, List, [], length, refl, sym, ap, ◌∙◌, arith}
use Rattle.std.specs.Prelude.{Contains, is_some, ◌↔◌}
use Rattle.std.specs.Set.{is_member}
use Rattle.std.specs.List.{list_any}
use Rattle.std.proofs.lemmas.Bool.{cases_lt}
use Rattle.fib_base_list.proofs.Booleans.{or_left, or_right}
use Rattle.fib_addr.specs.Prefixes.{Prefix, same_prefix}
use Rattle.fib_resolve.specs.Pairs.{best, entries}
use Rattle.fib_resolve.specs.Tables.{IsSound}
use Rattle.fib_resolve.specs.declared.types.Tables.{Tables}
use Rattle.fib_resolve_changes.specs.Ranks.{has_entry}
use Rattle.fib_resolve_changes.proofs.Ranking.{ranked}
use Rattle.fib_stack_queue.specs.Queues.{rank_in}
use Rattle.fib_stack_queue.specs.declared.order.Queued.{Queued}
use Rattle.fib_urpf.specs.declared.interfaces.Interfaces.{Interfaces}
use Rattle.fib_urpf.specs.Interfaces.{has}
use Rattle.fib_urpf.specs.Kept.{IsFor, Kept, state_of}
use Rattle.fib_urpf.specs.ReversePath.{below, is_reverse, loose, strict}
use Rattle.fib_urpf.specs.Sets.{kept_in}
use Rattle.fib_urpf.proofs.Keeping.{quiet_is_reverse}
use Rattle.fib_urpf.proofs.Members.{back, there}
use Rattle.fib_urpf.proofs.Ranges.{reverse_inside}

none_queued : (v : Kept) → v.queue ≡ [] → (e : Prefix) → is_some (rank_in v.queue e) ≡ false
none_queued v quiet e = ap (λ (l : List Queued). is_some (rank_in l e)) quiet

-- the members are the entries
pub members_are : (v : Kept) (S : Tables) (rank : Prefix → ℕ) → IsFor v S rank → v.queue ≡ [] → (q : Prefix) → Contains v.members q ↔ Contains (entries S) q
members_are v S rank for quiet q =
    let known : is_member same_prefix v.members q ≡ has_entry S q = (for.stands.done q (none_queued v quiet q)).known in
    ((λ c. back (entries S) q (sym known ∙ there v.members q c)), (λ c. back v.members q (known ∙ there (entries S) q c)))

pub checked_is : (v : Kept) (S : Tables) (rank : Prefix → ℕ) (a : ℕ) (e : Prefix) → IsFor v S rank → v.queue ≡ [] → e ≡ best S a → (i : ℕ) → i < 256 → kept_in v.rows i e ≡ strict S a i
unfolding strict
checked_is v S rank a e for quiet is i few =
    quiet_is_reverse S rank (state_of v) (ranked S rank for.falls) for.stands (none_queued v quiet) e i few ∙ ap (is_reverse S i) is

any_below : (f : ℕ → Bool) (n i : ℕ) → i < n → f i ≡ true → list_any f (below n) ≡ true
any_below f zero i lt is = absurd (omega (arith, lt))
any_below f (suc n) i lt is = ⊎_elim
    (λ (less : i < n). or_right (f n) (list_any f (below n)) (any_below f n i less is))
    (λ (le : n ≤ i). let same : i ≡ n = omega (arith, lt, le) in or_left (f n) (list_any f (below n)) (ap f (sym same) ∙ is))
    (cases_lt i n)

none_below : (f : ℕ → Bool) (n : ℕ) → ((i : ℕ) → i < n → f i ≡ false) → list_any f (below n) ≡ false
none_below f zero h = refl
none_below f (suc n) h = ap (λ b. b || list_any f (below n)) (h n (omega arith)) ∙ none_below f n (λ i lt. h i (omega (arith, lt)))

-- a set without a member is a loose check that fails
pub loose_none : (S : Tables) (a : ℕ) (set : Interfaces) → IsSound S → ((i : ℕ) → i < 256 → has set i ≡ strict S a i) → ((i : ℕ) → has set i ≡ false) → loose S a ≡ false
unfolding loose
loose_none S a set sound each none =
    let few = sound.few_interfaces in
    none_below (strict S a) (length S.interfaces) (λ i lt. sym (each i (omega (arith, lt, few))) ∙ none i)

pub loose_some : (S : Tables) (a : ℕ) (set : Interfaces) → ((i : ℕ) → i < 256 → has set i ≡ strict S a i) → (i : ℕ) → i < 256 → has set i ≡ true → loose S a ≡ true
unfolding loose strict
loose_some S a set each i few is =
    let passes : strict S a i ≡ true = sym (each i few) ∙ is in
    any_below (strict S a) (length S.interfaces) i (reverse_inside S i (best S a) passes) passes

-- the loose check by whether the set has no member
pub loose_is : (S : Tables) (a : ℕ) (set : Interfaces) (empty : Bool) → IsSound S → ((i : ℕ) → i < 256 → has set i ≡ strict S a i)
    → (empty ≡ true → (i : ℕ) → has set i ≡ false) → (empty ≡ false → (i : ℕ) × (i < 256) × (has set i ≡ true)) → not empty ≡ loose S a
loose_is S a set true sound each none some = sym (loose_none S a set sound each (none refl))
loose_is S a set false sound each none some = let k = some refl in sym (loose_some S a set each k.0 k.1 k.2)
