-- The answer never needs more steps than there are entries.
use Rattle.std.proofs.Common.{arith, add-zero, add-suc, ◌≡◌, ℕ, zero, suc, ◌+◌, ◌-◌, ◌/◌, ◌%◌, ◌≤◌, true, Option, Some, None, ◌⊎◌, inl, inr, refl, sym, ◌∙◌, ap}
use Rattle.std.specs.Prelude.{Contains, slice_get, IfSome}
use Rattle.fib_base_list.proofs.Lists.{each-at, each-weaker}
use Rattle.fib_reach.specs.Walks.{Walk}
use Rattle.fib_base_list.proofs.Booleans.{and_both}
use Rattle.fib_addr.specs.Prefixes.{Prefix, host}
use Rattle.fib_resolve.specs.Pairs.{cover, chosen}
use Rattle.fib_resolve.specs.Loops.{Kept}
use Rattle.fib_resolve.specs.Forwarding.{usable, usable_kind, forwards, limit}
use Rattle.fib_resolve.specs.Buckets.{wanted}
use Rattle.fib_resolve.specs.Resolution.{follow, take_path, take_kind, goes_on}
use Rattle.fib_resolve.specs.Tables.{IsSound}
use Rattle.fib_resolve.specs.declared.types.Path.{Path}
use Rattle.fib_resolve.specs.declared.types.PathKind.{PathKind}
use Rattle.fib_resolve.specs.declared.types.PathKind.TheVariants as kinds
use Rattle.fib_resolve.specs.declared.types.Tables.{Tables}
use Rattle.fib_resolve.proofs.KeptEdges.{short_way}
use Rattle.fib_resolve.proofs.Taken.{IsWanted, wanted_taken}

-- a path on which the answer goes on has an edge that is left
abbrev pub Leads : Tables → Prefix → PathKind → Type 0
Leads S e (kinds.Recursive a) = Kept S e (host a)
Leads S e kinds.Cover = Kept S e (cover S e.bits)
Leads S e kinds.Drop = Unit {0}
Leads S e kinds.Local = Unit {0}
Leads S e (kinds.Attached i) = Unit {0}
Leads S e (kinds.Hop a i) = Unit {0}

abbrev Undecided : Tables → ℕ → Prefix → ℕ → Type 0
Undecided S n e h = (follow S n e h ≡ follow S (suc n) e h) ⊎ ((to : Prefix) × Walk (Kept S) n e to)

by_kind : (S : Tables) (n : ℕ) (e : Prefix) (h : ℕ) (kind : PathKind) → Leads S e kind → ((t : Prefix) → Undecided S n t (h / 2)) →
    (take_kind S (follow S n) e h kind ≡ take_kind S (follow S (suc n)) e h kind) ⊎ ((to : Prefix) × Walk (Kept S) (suc n) e to)
by_kind S n e h kinds.Drop k go_on = inl refl
by_kind S n e h kinds.Local k go_on = inl refl
by_kind S n e h (kinds.Attached i) k go_on = inl refl
by_kind S n e h (kinds.Hop a i) k go_on = inl refl
by_kind S n e h (kinds.Recursive a) k go_on =
    elim (go_on (host a)) [
      | inl same ↦ inl (ap (goes_on e (kinds.Recursive a)) same)
      | inr way ↦ inr (way.0, (host a, k, way.1))
    ]
by_kind S n e h kinds.Cover k go_on =
    elim (go_on (cover S e.bits)) [
      | inl same ↦ inl (ap (goes_on e kinds.Cover) same)
      | inr way ↦ inr (way.0, (cover S e.bits, k, way.1))
    ]

by_path : (S : Tables) (n : ℕ) (e : Prefix) (h : ℕ) (o : Option Path) → IfSome o (λ p. Leads S e p.kind) → ((t : Prefix) → Undecided S n t (h / 2)) →
    (take_path S (follow S n) e h o ≡ take_path S (follow S (suc n)) e h o) ⊎ ((to : Prefix) × Walk (Kept S) (suc n) e to)
by_path S n e h None k go_on = inl refl
by_path S n e h (Some p) k go_on = by_kind S n e h p.kind k go_on

lead_kind : (S : Tables) (e : Prefix) (p : Path) (kind : PathKind) → p.kind ≡ kind → Contains (chosen S e) p → usable_kind S (forwards S) e p.need kind ≡ true → Leads S e kind
lead_kind S e p kinds.Drop k c u = tt
lead_kind S e p kinds.Local k c u = tt
lead_kind S e p (kinds.Attached i) k c u = tt
lead_kind S e p (kinds.Hop a i) k c u = tt
lead_kind S e p (kinds.Recursive a) k c u = (p, c, rw k ((and_both _ _ u).0), rw k (0, omega arith, refl))
lead_kind S e p kinds.Cover k c u = (p, c, rw k refl, rw k (0, omega arith, refl))

leads : (S : Tables) (e : Prefix) (p : Path) → IsWanted S e p → Leads S e p.kind
unfolding usable
leads S e p taken = lead_kind S e p p.kind refl taken.0 taken.1

same_or_way : (S : Tables) (n : ℕ) (e : Prefix) (h : ℕ) → Undecided S n e h
unfolding follow
same_or_way S zero e h = inr (e, refl)
same_or_way S (suc n) e h =
    by_path S n e h (slice_get (wanted S e) (h % 16))
    (each-at (λ p. Leads S e p.kind) (wanted S e) (h % 16) (each-weaker (IsWanted S e) (λ p. Leads S e p.kind) (leads S e) (wanted S e) (wanted_taken S e)))
    (λ t. same_or_way S n t (h / 2))

one_step : (S : Tables) → IsSound S → (n : ℕ) (e : Prefix) (h : ℕ) → limit S ≤ n → follow S n e h ≡ follow S (suc n) e h
unfolding limit
one_step S sound n e h long =
    elim (same_or_way S n e h) [
      | inl same ↦ same
      | inr way ↦ absurd (omega (arith, short_way S sound n e way.0 way.1, long))
    ]

later : (S : Tables) → IsSound S → (k : ℕ) (e : Prefix) (h : ℕ) → follow S (limit S + k) e h ≡ follow S (limit S) e h
later S sound zero e h = rw add-zero refl
later S sound (suc k) e h = rw add-suc (sym (one_step S sound (limit S + k) e h (omega arith)) ∙ later S sound k e h)

-- every limit from that on gives the same
pub follow-steady : (S : Tables) → IsSound S → (n : ℕ) (e : Prefix) (h : ℕ) → limit S ≤ n → follow S n e h ≡ follow S (limit S) e h
follow-steady S sound n e h long =
    let split : limit S + (n - limit S) ≡ n = omega (arith, long) in
    rw split at (later S sound (n - limit S) e h)
