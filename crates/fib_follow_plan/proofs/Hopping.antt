-- Which hosts are next hops after changes.
use Rattle.std.proofs.Common.{arith, ◌≡◌, ◌+◌, ℕ, length, List, [], ◌∷◌, take, Some, inl, inr, ◌⊎◌, ◌↔◌, refl, sym, subst, ◌≤◌, ◌<◌, slice_get}
use Rattle.std.proofs.Common.{Bool}
use Rattle.std.specs.Prelude.{Contains, IsTrue}
use Rattle.fib_base_list.proofs.Lists.{Contains-nil}
use Rattle.fib_addr.specs.Prefixes.{Prefix, host}
use Rattle.fib_cover.proofs.Sets.{take_whole}
use Rattle.fib_resolve.specs.declared.types.Tables.{Tables}
use Rattle.fib_resolve_changes.specs.Sources.{all_hops}
use Rattle.fib_follow_pairs.specs.Fresh.{HoldsWays}
use Rattle.fib_follow_features.specs.Holders.{Holders, holders}
use Rattle.fib_follow_features.specs.declared.feature.Feature.TheVariants as features
use Rattle.fib_follow_features.proofs.Tabled.{via_found}
use Rattle.fib_follow_looked.specs.Looks.{AreHops}
use Rattle.fib_follow_looked.specs.declared.named.Named.{Named}
use Rattle.fib_follow_looked.proofs.Turning.{take_in}
use Rattle.fib_follow_looked.proofs.Ways.{named_hop, ways_stay}
use Rattle.fib_follow_plan.specs.inner.Hops.{AddsHop, AreHopsAmong, IsGiven}

-- what is found by the address holds the ways that the named routes leave
pub hop_given : (T : Tables) (x : Named) (sets : List Holders) (a : ℕ) (among : List Prefix) (b : Bool) → among ≡ holders sets (features.Via a)
    → ((Contains x.hops (host a) → Contains (all_hops T) a) → ((Contains x.hops (host a) → ⊥) → HoldsWays T a among)
    → IsTrue b ↔ Contains (all_hops T) a) → IsGiven T x sets → IsTrue b ↔ Contains (all_hops T) a
hop_given T x sets a among b is told g = told
    (named_hop g.known g.changes g.tables T g.is_before x g.named a)
    (ways_stay g.known g.changes g.tables T g.is_before x g.named a among
    (λ r c hop. subst (λ l. Contains l r.prefix) (sym is) (via_found g.known g.tables sets g.is_before.stands g.noted r a c hop)))

pub hop_long : (T : Tables) (e : Prefix) (set : List Prefix) → e.len < 32 → AddsHop T e set set
hop_long T e set short = record {
  stays = λ q c. c;
  real = λ q c. inl c;
  found = λ long hop. absurd (omega (arith, short, long));
}

pub hop_none : (T : Tables) (e : Prefix) (set : List Prefix) → (Contains (all_hops T) e.bits → ⊥) → AddsHop T e set set
hop_none T e set off = record {
  stays = λ q c. c;
  real = λ q c. inl c;
  found = λ long hop. absurd (off hop);
}

pub hop_put : (T : Tables) (e : Prefix) (old new : List Prefix) → Contains (all_hops T) e.bits
    → ((q : Prefix) → Contains new q ↔ Contains old q ⊎ (q ≡ e)) → AddsHop T e old new
hop_put T e old new hop put = record {
  stays = λ q c. (put q).1 (inl c);
  real = λ q c. elim ((put q).0 c) [
    | inl there ↦ inl there
    | inr is ↦ inr (subst (λ (z : Prefix). Contains (all_hops T) z.bits) (sym is) hop)
  ];
  found = λ long here. (put e).1 (inr refl);
}

pub hops_none : (T : Tables) (list : List Prefix) → AreHopsAmong T (take 0 list) []
hops_none T [] = record { real = λ q c. absurd (Contains-nil q c); found = λ q c long hop. absurd (Contains-nil q c) }
hops_none T (x ∷ xs) = record { real = λ q c. absurd (Contains-nil q c); found = λ q c long hop. absurd (Contains-nil q c) }

pub hops_step : (T : Tables) (list : List Prefix) (k : ℕ) (e : Prefix) (old new : List Prefix) → slice_get list k ≡ Some e
    → AreHopsAmong T (take k list) old → AddsHop T e old new → AreHopsAmong T (take (k + 1) list) new
hops_step T list k e old new here before put = record {
  real = λ q c. elim (put.real q c) [ inl there ↦ before.real q there | inr hop ↦ hop ];
  found = λ q c long hop. elim ((take_in list k e q here).0 c) [
    | inl early ↦ put.stays q (before.found q early long hop)
    | inr same ↦ subst (Contains new) same
        (put.found (subst (λ (z : Prefix). z.len ≡ 32) (sym same) long) (subst (λ (z : Prefix). Contains (all_hops T) z.bits) (sym same) hop))
  ];
}

pub hops_whole : (T : Tables) (list : List Prefix) (k : ℕ) (hops : List Prefix) → length list ≤ k → AreHopsAmong T (take k list) hops
    → AreHopsAmong T list hops
hops_whole T list k hops le h = subst (λ l. AreHopsAmong T l hops) (take_whole list k le) h

pub hops_known : (T : Tables) (list hops : List Prefix) → AreHopsAmong T list hops → AreHops T list hops
hops_known T list hops h e c long = (h.real e, h.found e c long)
