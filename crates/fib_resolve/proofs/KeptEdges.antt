-- The edges that are left without looped paths close no cycle.
use Rattle.std.proofs.Common.{arith, ◌≡◌, ℕ, zero, suc, ◌<◌, ◌≤◌, Bool, true, false, not, [], ◌∷◌, length, inl, inr, refl, sym, ◌∙◌, ap, subst}
use Rattle.std.specs.Prelude.{Contains}
use Rattle.std.proofs.lemmas.Bool.{false≢true}
use Rattle.std.proofs.lemmas.Map.Views.{Contains-from_any}
use Rattle.fib_base_list.proofs.Lists.{Contains-flat_map, Contains-nil}
use Rattle.fib_reach.specs.Walks.{Walk, Leads, IsAcyclic, Next}
use Rattle.fib_reach.proofs.Walking.{leads_cases, leads-map, then_edge, reaches_leads, walk_no_longer}
use Rattle.fib_addr.specs.Prefixes.{Prefix, host}
use Rattle.fib_addr.proofs.PrefixLaws.{same_prefix-Decides}
use Rattle.fib_resolve.specs.Pairs.{entries, cover, chosen}
use Rattle.fib_resolve.specs.Loops.{targets, kind_targets, looped, is_kept, Kept}
use Rattle.fib_resolve.specs.Tables.{IsSound}
use Rattle.fib_resolve.specs.declared.types.Path.{Path}
use Rattle.fib_resolve.specs.declared.types.PathKind.{PathKind}
use Rattle.fib_resolve.specs.declared.types.PathKind.TheVariants as kinds
use Rattle.fib_resolve.specs.declared.types.Tables.{Tables}
use Rattle.fib_resolve.proofs.Entries.{targets_from_entries}
use Rattle.fib_resolve.proofs.LoopTests.{looped-Decides}
use Rattle.fib_resolve.proofs.PairLaws.{cover_at_host, cover_short}

only_one : {X : Type 0} (x y : X) → Contains (x ∷ []) y → x ≡ y
only_one x y (zero, lt, is) = is
only_one x y (suc k, lt, is) = absurd (omega (arith, lt))

pub not_true : (b : Bool) → not b ≡ true → b ≡ false
not_true true h = absurd (false≢true h)
not_true false h = refl

pub kept_target : (S : Tables) (e to : Prefix) → Kept S e to → Next (targets S) e to
unfolding targets
kept_target S e to k = Contains-flat_map (λ q. kind_targets S e q.kind) (chosen S e) k.0 to k.1 k.3

-- an edge is of a recursive path that isn't looped, or leads from a host to its shorter cover
pub data Reason (S : Tables) (e to : Prefix) : Type 0 where
  hop : (a : ℕ) → looped S e a ≡ false → host a ≡ to → Reason S e to
  up : e.len ≡ 32 → to.len < 32 → Reason S e to

by_kind : (S : Tables) → IsSound S → (e to : Prefix) (p : Path) (kind : PathKind) → p.kind ≡ kind → Contains (chosen S e) p → is_kept S e kind ≡ true → Contains (kind_targets S e kind) to → Reason S e to
by_kind S h e to p (kinds.Recursive a) k c is t = hop a (not_true (looped S e a) is) (only_one (host a) to t)
by_kind S h e to p kinds.Cover k c is t = up (cover_at_host S h e p c k) (subst (λ (q : Prefix). q.len < 32) (only_one (cover S e.bits) to t) (cover_short S e.bits))
by_kind S h e to p kinds.Drop k c is t = absurd (Contains-nil to t)
by_kind S h e to p kinds.Local k c is t = absurd (Contains-nil to t)
by_kind S h e to p (kinds.Attached i) k c is t = absurd (Contains-nil to t)
by_kind S h e to p (kinds.Hop a i) k c is t = absurd (Contains-nil to t)

reason : (S : Tables) → IsSound S → (e to : Prefix) → Kept S e to → Reason S e to
reason S h e to k = by_kind S h e to k.0 k.0.kind refl k.1 k.2 k.3

not_looped : (S : Tables) (e : Prefix) (a : ℕ) (to : Prefix) → looped S e a ≡ false → host a ≡ to → Leads (Kept S) to e → ⊥
not_looped S e a to l same w =
    false≢true (sym l ∙ (looped-Decides S e a).1 (leads-map (Kept S) (Next (targets S)) (kept_target S) (host a) e (subst (λ q. Leads (Kept S) q e) (sym same) w)))

-- the second edge of a cycle that begins with a cover
second : (S : Tables) → IsSound S → (e mid : Prefix) → Kept S e mid → e.len ≡ 32 → mid.len < 32 → (to : Prefix) → Reason S mid to → Leads (Kept S) to e → ⊥
second S h e mid k long short to (hop a l same) w = not_looped S mid a to l same (reaches_leads (Kept S) to mid (then_edge (Kept S) to e mid w k))
second S h e mid k long short to (up is s) w = omega (arith, is, short)

first : (S : Tables) → IsSound S → (e to : Prefix) → Kept S e to → Reason S e to → Leads (Kept S) to e → ⊥
first S h e to k (hop a l same) w = not_looped S e a to l same w
first S h e to k (up long short) w =
    elim (leads_cases (Kept S) to e w) [
      | inl same ↦ (let n : to.len ≡ e.len = ap (λ (q : Prefix). q.len) same in omega (arith, n, long, short))
      | inr r ↦ second S h e to k long short r.1.0 (reason S h to r.1.0 r.1.1) (r.0, r.1.2)
    ]

pub kept_acyclic : (S : Tables) → IsSound S → IsAcyclic (Kept S)
kept_acyclic S h e r = first S h e r.1.0 r.1.1 (reason S h e r.1.0 r.1.1) (r.0, r.1.2)

leaves_entry : (S : Tables) (e to : Prefix) → Kept S e to → Contains (entries S) e
leaves_entry S e to k = Contains-from_any (λ x y. (same_prefix-Decides x y).0) e (entries S) (targets_from_entries S e to (kept_target S e to k))

-- a way along them has no more edges than there are entries
pub short_way : (S : Tables) → IsSound S → (n : ℕ) (e to : Prefix) → Walk (Kept S) n e to → n ≤ length (entries S)
short_way S h = walk_no_longer (Kept S) (kept_acyclic S h) (entries S) (leaves_entry S)
