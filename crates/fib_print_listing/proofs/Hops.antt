-- What a map of Hop ends tells of the listing.
use Rattle.std.proofs.Common.{◌≡◌, ℕ, Bool, true, false, ◌==◌, cond, List, [], ◌∷◌, map, Option, Some, refl, sym, ◌∙◌, ap, subst, ◌↔◌}
use Rattle.std.specs.Prelude.{Contains, flat_map}
use Rattle.std.specs.Map.{lookup}
use Rattle.std.specs.Ordering.{is_eq, nat_cmp, ordering_then}
use Rattle.fib_base_list.proofs.Lists.{Contains-flat_map}
use Rattle.fib_addr.specs.Prefixes.{Prefix}
use Rattle.fib_resolve.specs.Pairs.{entries, chosen}
use Rattle.fib_resolve.specs.Aims.{marked, marked_list, kind_aim}
use Rattle.fib_resolve.specs.Resolution.{mac_of, hop_end}
use Rattle.fib_resolve.specs.Sizes.{same_adjacency, kind_adjacency, adjacencies_of, adjacencies}
use Rattle.fib_resolve.specs.declared.aims.Aim.TheVariants as aims
use Rattle.fib_resolve.specs.declared.pairs.Adjacency.{Adjacency}
use Rattle.fib_resolve.specs.declared.types.End.TheVariants as answers
use Rattle.fib_resolve.specs.declared.types.PathKind.{PathKind}
use Rattle.fib_resolve.specs.declared.types.PathKind.TheVariants as kinds
use Rattle.fib_resolve.specs.declared.types.Tables.{Tables}
use Rattle.fib_resolve.proofs.Covering.{adjacencies_apart, unique_in}
use Rattle.fib_resolve_changes.proofs.SamePairs.{map_in, map_from, flat_map_from}
use Rattle.fib_entries_rows.specs.Known.{Known, StandsFor, prefix_of}
use Rattle.fib_entries_rows.proofs.LeafSizes.{adjacency_equiv, adjacency_is}
use Rattle.fib_print_listing.specs.Adjacencies.{adjacencies_text}
use Rattle.fib_print_listing.specs.Order.{in_order, adjacency_before}
use Rattle.fib_print_listing.specs.inner.Added.{under}
use Rattle.fib_print_listing.specs.inner.Hops.{Hop, AddsHops, aim_hops, mark_hops, hops_at, hop_key, AreHops, AreHopsOrdered, hop_line}
use Rattle.fib_print_listing.proofs.Orders.{adjacency_off, adjacency_trans, adjacency_apart, adjacency_tied}
use Rattle.fib_print_listing.proofs.Sorting.{listed}
use Rattle.fib_print_listing.proofs.Adding.{adds_one, told}

-- one that was put in a map
abbrev at_key : Adjacency → Adjacency → Bool
at_key x k = is_eq (ordering_then (nat_cmp x.interface k.interface) (nat_cmp x.next_hop k.next_hop))

got : (x : Adjacency) (es : List Hop) → lookup (at_key x) es ≡ under same_adjacency (λ k. k) x es
got x [] = refl
got x (e ∷ es) = ap (λ b. cond b (Some e.1) (lookup (at_key x) es)) (adjacency_tied x e.0) ∙ ap (λ o. cond (same_adjacency x e.0) (Some e.1) o) (got x es)

pub hop_one : (k : Adjacency) (mac : Option ℕ) (old new : List Hop) → ((q : Adjacency) → lookup (at_key q) new ≡ cond (at_key k q) (Some mac) (lookup (at_key q) old)) → AddsHops ((k, mac) ∷ []) old new
hop_one k mac old new sets = adds_one same_adjacency (λ x. x) adjacency_equiv.refl adjacency_is k mac old new (λ x.
    sym (got x new) ∙ sets x ∙ ap (λ b. cond b (Some mac) (lookup (at_key x) old)) (adjacency_tied k x) ∙ ap (λ o. cond (same_adjacency k x) (Some mac) o) (got x old))

-- with the MAC that the tables say
with_mac : Tables → Adjacency → Hop
with_mac S x = (x, mac_of S x.interface x.next_hop)

kind_hops : (S : Tables) (e : Prefix) (kind : PathKind) → aim_hops (kind_aim S e kind) ≡ map (with_mac S) (kind_adjacency e kind)
unfolding with_mac
kind_hops S e kinds.Drop = refl
kind_hops S e kinds.Local = refl
kind_hops S e (kinds.Attached i) = by (e.len == 32)
  where
    by : (b : Bool) → aim_hops (aims.Ends (cond b (hop_end S i e.bits) (answers.Glean i))) ≡ map (with_mac S) (cond b (record { interface = i; next_hop = e.bits } ∷ []) [])
    by true = refl
    by false = refl
kind_hops S e (kinds.Hop a i) = refl
kind_hops S e (kinds.Recursive a) = refl
kind_hops S e kinds.Cover = refl

hop_of : (S : Tables) (e : Prefix) (h : Hop) → Contains (hops_at S e) h → (x : Adjacency) × Contains (adjacencies_of S e) x × (with_mac S x ≡ h)
unfolding marked_list
hop_of S e h c =
    let m = flat_map_from mark_hops (map (marked S e) (chosen S e)) h c in
    let p = map_from (marked S e) (chosen S e) m.0 m.1 in
    let here : Contains (map (with_mac S) (kind_adjacency e p.0.kind)) h = subst (λ l. Contains l h) (ap mark_hops (sym p.2) ∙ kind_hops S e p.0.kind) m.2 in
    let x = map_from (with_mac S) (kind_adjacency e p.0.kind) h here in (x.0, Contains-flat_map (λ q. kind_adjacency e q.kind) (chosen S e) p.0 x.0 p.1 x.1, x.2)

hop_in : (S : Tables) (e : Prefix) (x : Adjacency) → Contains (adjacencies_of S e) x → Contains (hops_at S e) (with_mac S x)
unfolding marked_list
hop_in S e x c =
    let p = flat_map_from (λ q. kind_adjacency e q.kind) (chosen S e) x c in
    let here : Contains (mark_hops (marked S e p.0)) (with_mac S x) = subst (λ l. Contains l (with_mac S x)) (sym (kind_hops S e p.0.kind)) (map_in (with_mac S) (kind_adjacency e p.0.kind) x p.2) in
    Contains-flat_map mark_hops (map (marked S e) (chosen S e)) (marked S e p.0) (with_mac S x) (map_in (marked S e) (chosen S e) p.0 p.1) here

module _ (v : Known) (S : Tables) (h : StandsFor v S) (es : List Hop) (are : AreHops v S es) (o : AreHopsOrdered es) where
  news : List Hop
  news = flat_map (hops_at S) (map prefix_of v.rows)

  valued : (x : Adjacency) (mac : Option ℕ) → Contains news (x, mac) → mac ≡ mac_of S x.interface x.next_hop
  unfolding news with_mac
  valued x mac c =
      let e = flat_map_from (hops_at S) (map prefix_of v.rows) (x, mac) c in
      let y = hop_of S e.0 (x, mac) e.2 in
      subst (λ (g : Hop). g.1 ≡ mac_of S g.0.interface g.0.next_hop) y.2 refl

  members : (x : Adjacency) → Contains (in_order adjacency_before (adjacencies S)) x ↔ Contains (map hop_key news) x
  unfolding news adjacencies with_mac
  members x =
      let all = flat_map (adjacencies_of S) (entries S) in
      let l = (listed adjacency_before same_adjacency adjacency_trans adjacency_apart (adjacencies S) (adjacencies_apart S)).members x in
      let u = unique_in same_adjacency adjacency_equiv adjacency_is all x in (
        λ c. (let e = flat_map_from (adjacencies_of S) (entries S) x (u.1 (l.0 c)) in
            map_in hop_key news (with_mac S x) (Contains-flat_map (hops_at S) (map prefix_of v.rows) e.0 (with_mac S x) ((h.entries e.0).1 e.1) (hop_in S e.0 x e.2))),
        λ c. (let g = map_from hop_key news x c in
            let e = flat_map_from (hops_at S) (map prefix_of v.rows) g.0 g.1 in
            let y = hop_of S e.0 g.0 e.2 in
            l.1 (u.0 (Contains-flat_map (adjacencies_of S) (entries S) e.0 x ((h.entries e.0).0 e.1) (subst (Contains (adjacencies_of S e.0)) (ap hop_key y.2 ∙ g.2) y.1)))),
      )

  pub hops_told : flat_map (hop_line S) es ≡ adjacencies_text S
  unfolding adjacencies_text news
  hops_told =
      told same_adjacency (λ x. x) adjacency_equiv.refl adjacency_is adjacency_before adjacency_off adjacency_trans news es are o (λ x. mac_of S x.interface x.next_hop) valued
      (λ x mac. hop_line S (x, mac)) (in_order adjacency_before (adjacencies S)) (listed adjacency_before same_adjacency adjacency_trans adjacency_apart (adjacencies S) (adjacencies_apart S)).ordered members
