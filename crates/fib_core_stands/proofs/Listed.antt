-- Entries, plies and adjacencies of tables: what is listed.
use Rattle.std.proofs.Common.{◌≡◌, ℕ, suc, ◌⊎◌, inl, inr, true, List, ◌∷◌, refl, sym, ap, ◌∙◌, subst, arith}
use Rattle.std.specs.Prelude.{Contains, filter, flat_map, slice_get, IfSome}
use Rattle.std.specs.List.{list_any}
use Rattle.std.specs.Set.{is_member}
use Rattle.std.specs.Cmp.{IsEquivalence}
use Rattle.std.proofs.lemmas.Bool.{false≢true}
use Rattle.std.proofs.lemmas.Bool.Decides.{nat_tests}
use Rattle.std.proofs.lemmas.Map.Views.{Contains-from_any}
use Rattle.std.proofs.lemmas.Cmp.{nat_eq_equiv, on_equiv, and_equiv}
use Rattle.fib_base_list.proofs.Lists.{either, each-at, Contains-flat_map, Contains-nil}
use Rattle.fib_base_list.proofs.Booleans.{and_both}
use Rattle.fib_addr.specs.Prefixes.{Prefix, host, same_prefix}
use Rattle.fib_addr.proofs.PrefixLaws.{same_prefix-Decides}
use Rattle.fib_resolve.specs.Pairs.{entries, chosen, cover}
use Rattle.fib_resolve.specs.Forwarding.{forwards, usable, usable_kind}
use Rattle.fib_resolve.specs.Buckets.{wanted}
use Rattle.fib_resolve.specs.Resolution.{ends, entry_ends, kind_end}
use Rattle.fib_resolve.specs.Sizes.{adjacencies, adjacencies_of, kind_adjacency, same_adjacency}
use Rattle.fib_resolve.specs.declared.pairs.Adjacency.{Adjacency}
use Rattle.fib_resolve.specs.declared.types.End.{End}
use Rattle.fib_resolve.specs.declared.types.End.TheVariants as answers
use Rattle.fib_resolve.specs.declared.types.Path.{Path}
use Rattle.fib_resolve.specs.declared.types.PathKind.{PathKind}
use Rattle.fib_resolve.specs.declared.types.PathKind.TheVariants as kinds
use Rattle.fib_resolve.specs.declared.types.Need.{Need}
use Rattle.fib_resolve.specs.declared.types.Tables.{Tables}
use Rattle.fib_resolve.proofs.Answering.{forwards_is_usable}
use Rattle.fib_resolve.proofs.Covering.{unique_in, filter_in}
use Rattle.fib_resolve.proofs.Entries.{chosen-no_entry}
use Rattle.fib_resolve.proofs.Taken.{IsWanted, wanted_taken}

pub member_is : (S : Tables) (e : Prefix) → is_member same_prefix (entries S) e ≡ true → Contains (entries S) e
member_is S e is = Contains-from_any (λ x y. (same_prefix-Decides x y).0) e (entries S) is

-- what has a path is an entry
pub with_path : (S : Tables) (e : Prefix) (p : Path) → Contains (chosen S e) p → Contains (entries S) e
with_path S e p c =
    elim (either (is_member same_prefix (entries S) e)) [
      | inl is ↦ member_is S e is
      | inr isnt ↦ absurd (Contains-nil p (rw (chosen-no_entry S e isnt) at c))
    ]

-- what forwards is an entry
pub forwarding_entry : (S : Tables) (e : Prefix) → forwards S e ≡ true → Contains (entries S) e
forwarding_entry S e f =
    elim (either (is_member same_prefix (entries S) e)) [
      | inl is ↦ member_is S e is
      | inr isnt ↦ absurd (false≢true (sym (forwards_is_usable S e ∙ ap (list_any (usable S e)) (chosen-no_entry S e isnt)) ∙ f))
    ]

kind_target : (S : Tables) (e : Prefix) (need : Need) (kind : PathKind) → usable_kind S (forwards S) e need kind ≡ true → (t : Prefix) → (kind ≡ kinds.Cover) × (t ≡ cover S e.bits) ⊎ ((a : ℕ) × (kind ≡ kinds.Recursive a) × (t ≡ host a)) → Contains (entries S) t
kind_target S e need kind u t (inl c) = subst (Contains (entries S)) (sym c.1) (forwarding_entry S (cover S e.bits) (subst (λ k. usable_kind S (forwards S) e need k ≡ true) c.0 u))
kind_target S e need kind u t (inr r) = subst (Contains (entries S)) (sym r.2) (forwarding_entry S (host r.0) (and_both _ _ (and_both _ _ (subst (λ k. usable_kind S (forwards S) e need k ≡ true) r.1 u)).1).1)

-- the targets of wanted paths are entries
pub recursive_entry : (S : Tables) (e : Prefix) (p : Path) (a : ℕ) → IsWanted S e p → p.kind ≡ kinds.Recursive a → Contains (entries S) (host a)
unfolding usable
recursive_entry S e p a t is = kind_target S e p.need p.kind t.1 (host a) (inr (a, is, refl))

pub cover_entry : (S : Tables) (e : Prefix) (p : Path) → IsWanted S e p → p.kind ≡ kinds.Cover → Contains (entries S) (cover S e.bits)
unfolding usable
cover_entry S e p t is = kind_target S e p.need p.kind t.1 (cover S e.bits) (inl (is, refl))

-- what stands in a bucket
pub at_bucket : (S : Tables) (e : Prefix) (k : ℕ) → IfSome (slice_get (wanted S e) k) (IsWanted S e)
at_bucket S e k = each-at (IsWanted S e) (wanted S e) k (wanted_taken S e)

-- the adjacency of a chosen path is listed
same_adjacency_equiv : IsEquivalence same_adjacency
same_adjacency_equiv = and_equiv (on_equiv (λ (x : Adjacency). x.interface) nat_eq_equiv) (on_equiv (λ (x : Adjacency). x.next_hop) nat_eq_equiv)

adjacency_is : (x y : Adjacency) → same_adjacency x y ≡ true → x ≡ y
adjacency_is x y e = let i : x.interface ≡ y.interface = grind (arith, nat_tests) in let n : x.next_hop ≡ y.next_hop = grind (arith, nat_tests) in λ j. record { interface = i j; next_hop = n j }

pub adjacency_listed : (S : Tables) (e : Prefix) (p : Path) (x : Adjacency) → Contains (chosen S e) p → Contains (kind_adjacency e p.kind) x → Contains (adjacencies S) x
unfolding adjacencies
adjacency_listed S e p x c k = (unique_in same_adjacency same_adjacency_equiv adjacency_is (flat_map (adjacencies_of S) (entries S)) x).0
    (Contains-flat_map (adjacencies_of S) (entries S) e x (with_path S e p c) (Contains-flat_map (λ q. kind_adjacency e q.kind) (chosen S e) p x c k))

-- the end of a usable path is a possible end
later_in : {X : Type 0} (x y : X) (xs : List X) → Contains xs y → Contains (x ∷ xs) y
later_in x y xs h = (suc h.0, omega (arith, h.1), h.2)

pub end_possible : (S : Tables) (e : Prefix) (p : Path) (end : End) → IsWanted S e p → Contains (kind_end S e p.kind) end → Contains (ends S) end
unfolding ends
end_possible S e p end taken c =
    later_in answers.Drop end (flat_map (entry_ends S) (entries S))
    (Contains-flat_map (entry_ends S) (entries S) e end (with_path S e p taken.0)
    (Contains-flat_map (λ q. kind_end S e q.kind) (filter (usable S e) (chosen S e)) p end (filter_in (usable S e) (chosen S e) p taken.0 taken.1) c))

pub first_in : {X : Type 0} (x : X) (xs : List X) → Contains (x ∷ xs) x
first_in x xs = (0, omega arith, refl)
