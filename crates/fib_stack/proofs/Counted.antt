-- What the tables' size counts, and that it counts the Hop ends which entries list.
use Rattle.std.proofs.Common.{◌≡◌, ◌≢◌, ℕ, ⊎_elim, Bool, true, false, true≢false, List, [], ◌∷◌, ◌++◌, length, map, Option, refl, sym, ap, ap₂, ◌∙◌, subst, arith}
use Rattle.std.specs.Prelude.{Contains, ◌==◌, flat_map, if◌then◌else◌}
use Rattle.std.specs.List.{AllByRecursion}
use Rattle.std.proofs.lemmas.List.{length-map, length-append}
use Rattle.std.proofs.lemmas.List.Elements.{Contains-append_left, Contains-append_right}
use Rattle.std.proofs.lemmas.Map.Made.{is_member-Decides}
use Rattle.fib_base_list.proofs.Lists.{Contains-flat_map, each-append, each-map, either}
use Rattle.fib_addr.specs.Prefixes.{Prefix}
use Rattle.fib_addr.proofs.PrefixLaws.{same_prefix-Decides}
use Rattle.fib_reach.specs.Walks.{AllDiffer}
use Rattle.fib_reach.proofs.Through.{decides_equiv}
use Rattle.fib_resolve.specs.Aims.{kind_aim, marked, marked_list}
use Rattle.fib_resolve.specs.Pairs.{chosen, entries}
use Rattle.fib_resolve.specs.Resolution.{hop_end, mac_of}
use Rattle.fib_resolve.specs.Sizes.{adjacencies, adjacencies_of, kind_adjacency, plies, same_adjacency, size}
use Rattle.fib_resolve.specs.declared.aims.Aim.TheVariants as aims
use Rattle.fib_resolve.specs.declared.aims.Marked.{Marked}
use Rattle.fib_resolve.specs.declared.pairs.Adjacency.{Adjacency}
use Rattle.fib_resolve.specs.declared.types.End.TheVariants as answers
use Rattle.fib_resolve.specs.declared.types.Path.{Path}
use Rattle.fib_resolve.specs.declared.types.PathKind.{PathKind}
use Rattle.fib_resolve.specs.declared.types.PathKind.TheVariants as kinds
use Rattle.fib_resolve.specs.declared.types.Tables.{Tables}
use Rattle.fib_resolve.proofs.Covering.{unique_in}
use Rattle.fib_resolve_changes.specs.Ranks.{IsRanked, has_entry}
use Rattle.fib_resolve_changes.proofs.CauseLaws.{any_from}
use Rattle.fib_resolve_changes.proofs.SamePairs.{map_from}
use Rattle.fib_config.proofs.Within.{same_adjacency-Decides}
use Rattle.fib_core.specs.StandsFor.{Thing, ply_of, balance_of, adjacency_of, IsCounted}
use Rattle.fib_pool.specs.declared.object.AdjacencyRecord.{AdjacencyRecord}
use Rattle.fib_core_stands.proofs.Nibbles.{map_at}
use Rattle.fib_stack.specs.States.{ends_there, has_hop}
use Rattle.fib_stack.proofs.Listing.{record_is}

-- lists whose elements differ
pub differ_map : {A B : Type 0} (f : A → B) (P : A → Type 0) → ((x y : A) → P x → P y → f x ≡ f y → x ≡ y) → (xs : List A) → AllByRecursion P xs → AllDiffer xs → AllDiffer (map f xs)
differ_map f P one [] all d = tt
differ_map {A} {B} f P one (x ∷ xs) all d = (each-map (λ y. f x ≢ y) f xs (apart xs all.1 d.0), differ_map f P one xs all.1 d.1)
  where
    apart : (ys : List A) → AllByRecursion P ys → AllByRecursion (λ y. x ≢ y) ys → AllByRecursion (λ y. f x ≢ f y) ys
    apart [] h e = tt
    apart (y ∷ ys) h e = (λ is. e.0 (one x y all.0 h.0 is), apart ys h.1 e.1)

pub differ_append : {A : Type 0} (xs ys : List A) → AllDiffer xs → AllDiffer ys → AllByRecursion (λ x. AllByRecursion (λ y. x ≢ y) ys) xs → AllDiffer (xs ++ ys)
differ_append [] ys d e h = e
differ_append (x ∷ xs) ys d e h = (each-append (λ y. x ≢ y) xs ys d.0 h.0, differ_append xs ys d.1 e h.1)

-- what the size counts
abbrev pub things : Tables → List Thing
things S = map ply_of (plies S) ++ (map balance_of (entries S) ++ map adjacency_of (adjacencies S))

pub things_long : (S : Tables) → length (things S) ≡ size S
unfolding size
things_long S =
    let a = length-append (map ply_of (plies S)) (map balance_of (entries S) ++ map adjacency_of (adjacencies S)) in
    let b = length-append (map balance_of (entries S)) (map adjacency_of (adjacencies S)) in
    let p = length-map (plies S) ply_of in
    let e = length-map (entries S) balance_of in
    let x = length-map (adjacencies S) adjacency_of in
    omega (arith, a, b, p, e, x)

pub thing_in : (S : Tables) (t : Thing) → IsCounted S t → Contains (things S) t
thing_in S (ply_of q) c = Contains-append_left (map ply_of (plies S)) (map balance_of (entries S) ++ map adjacency_of (adjacencies S)) (ply_of q) (map_at ply_of (plies S) q c)
thing_in S (balance_of e) c = Contains-append_right (map ply_of (plies S)) (map balance_of (entries S) ++ map adjacency_of (adjacencies S)) (balance_of e) (Contains-append_left (map balance_of (entries S)) (map adjacency_of (adjacencies S)) (balance_of e) (map_at balance_of (entries S) e c))
thing_in S (adjacency_of x) c = Contains-append_right (map ply_of (plies S)) (map balance_of (entries S) ++ map adjacency_of (adjacencies S)) (adjacency_of x) (Contains-append_right (map balance_of (entries S)) (map adjacency_of (adjacencies S)) (adjacency_of x) (map_at adjacency_of (adjacencies S) x c))

module _ (S : Tables) where
  -- a Hop end of a marked list is counted, with the MAC that the tables have
  abbrev pub IsListed : Prefix → Path → ℕ → ℕ → Option ℕ → Type 0
  IsListed e q i a x = Contains (kind_adjacency e q.kind) (record { interface = i; next_hop = a }) × (mac_of S i a ≡ x)

  hop_same : (i a j b : ℕ) (x : Option ℕ) → ends_there (answers.Hop i a x) (aims.Ends (hop_end S j b)) ≡ true → (record { interface = j; next_hop = b; mac = mac_of S j b }) ≡ (let r : AdjacencyRecord = record { interface = i; next_hop = a; mac = x } in r)
  hop_same i a j b x h = record_is (record { interface = j; next_hop = b; mac = mac_of S j b }) (record { interface = i; next_hop = a; mac = x }) h

  one_listed : (e : Prefix) (i a j b : ℕ) (x : Option ℕ) (ys : List Adjacency) → ys ≡ record { interface = j; next_hop = b } ∷ [] → ends_there (answers.Hop i a x) (aims.Ends (hop_end S j b)) ≡ true
      → Contains ys (record { interface = i; next_hop = a }) × (mac_of S i a ≡ x)
  one_listed e i a j b x ys is h =
      let same = hop_same i a j b x h in
      let interface : j ≡ i = ap (λ (r : AdjacencyRecord). r.interface) same in
      let hop : b ≡ a = ap (λ (r : AdjacencyRecord). r.next_hop) same in
      let mac : mac_of S j b ≡ x = ap (λ (r : AdjacencyRecord). r.mac) same in (
        subst (λ (zs : List Adjacency). Contains zs (record { interface = i; next_hop = a })) (sym is) (0, omega arith, ap₂ (λ (c d : ℕ). record { interface = c; next_hop = d }) interface hop),
        ap₂ (mac_of S) (sym interface) (sym hop) ∙ mac,
      )

  by_length : (e : Prefix) (i a j : ℕ) (x : Option ℕ) (b : Bool) → ends_there (answers.Hop i a x) (aims.Ends (if b then hop_end S j e.bits else answers.Glean j)) ≡ true
      → Contains (if b then (let r : Adjacency = record { interface = j; next_hop = e.bits } in r) ∷ [] else []) (record { interface = i; next_hop = a }) × (mac_of S i a ≡ x)
  by_length e i a j x true h = one_listed e i a j e.bits x _ refl h
  by_length e i a j x false h = absurd (true≢false (sym h))

  by_kind : (e : Prefix) (i a : ℕ) (x : Option ℕ) (k : PathKind) → ends_there (answers.Hop i a x) (kind_aim S e k) ≡ true → Contains (kind_adjacency e k) (record { interface = i; next_hop = a }) × (mac_of S i a ≡ x)
  by_kind e i a x (kinds.Hop b j) h = one_listed e i a j b x _ refl h
  by_kind e i a x (kinds.Attached j) h = by_length e i a j x (e.len == 32) h
  by_kind e i a x kinds.Drop h = absurd (true≢false (sym h))
  by_kind e i a x kinds.Local h = absurd (true≢false (sym h))
  by_kind e i a x (kinds.Recursive b) h = absurd (true≢false (sym h))
  by_kind e i a x kinds.Cover h = absurd (true≢false (sym h))

  pub listed : (e : Prefix) (i a : ℕ) (x : Option ℕ) → has_hop (marked_list S e) (answers.Hop i a x) ≡ true → (q : Path) × Contains (chosen S e) q × IsListed e q i a x
  unfolding marked_list
  listed e i a x has =
      let m = any_from (λ m. ends_there (answers.Hop i a x) m.aim) (map (marked S e) (chosen S e)) has in
      let q = map_from (marked S e) (chosen S e) m.0 m.1 in
      (q.0, q.1, by_kind e i a x q.0.kind (ap (λ (k : Marked). ends_there (answers.Hop i a x) k.aim) q.2 ∙ m.2))

  pub effective : (rank : Prefix → ℕ) → IsRanked S rank → (e : Prefix) (i a : ℕ) (x : Option ℕ) → has_hop (marked_list S e) (answers.Hop i a x) ≡ true → Contains (entries S) e
  effective rank ranked e i a x has = ⊎_elim
      (λ (yes : has_entry S e ≡ true). (is_member-Decides same_prefix-Decides (entries S) e).0 yes)
      (λ (no : has_entry S e ≡ false). absurd (true≢false (sym has ∙ ap (λ ms. has_hop ms (answers.Hop i a x)) (ranked.absent e no))))
      (either (has_entry S e))

  pub counted : (e : Prefix) (q : Path) (x : Adjacency) → Contains (entries S) e → Contains (chosen S e) q → Contains (kind_adjacency e q.kind) x → Contains (adjacencies S) x
  unfolding adjacencies
  counted e q x c c' c'' = (unique_in same_adjacency (decides_equiv same_adjacency same_adjacency-Decides) (λ a b. (same_adjacency-Decides a b).0) (flat_map (adjacencies_of S) (entries S)) x).0
      (Contains-flat_map (adjacencies_of S) (entries S) e x c (Contains-flat_map (λ k. kind_adjacency e k.kind) (chosen S e) q x c' c''))
