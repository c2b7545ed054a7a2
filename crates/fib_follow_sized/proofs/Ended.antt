-- Which Hop ends of changed entries are there: their own, and those that an entry beside them has.
use Rattle.std.proofs.Common.{◌≡◌, Bool, true, false, List, ◌++◌, length, filter, flat_map, map, ◌⊎◌, inl, inr, sym, ◌∙◌, ap, subst, ◌↔◌}
use Rattle.std.specs.Prelude.{Contains}
use Rattle.std.specs.List.{IsDistinct}
use Rattle.std.specs.Set.{is_member, unique_keys}
use Rattle.std.proofs.lemmas.List.Elements.{Contains-append_cases, Contains-append_left, Contains-append_right}
use Rattle.std.proofs.lemmas.Map.Made.{length-from_same_keys}
use Rattle.std.proofs.lemmas.Map.Views.{Contains-from_any, list_any-from_Contains}
use Rattle.fib_base_list.proofs.Lists.{Contains-flat_map, Contains-nil, either}
use Rattle.fib_addr.specs.Prefixes.{Prefix}
use Rattle.fib_resolve.specs.Pairs.{entries}
use Rattle.fib_resolve.specs.Sizes.{adjacencies, adjacencies_of, kind_adjacency, same_adjacency}
use Rattle.fib_resolve.specs.declared.pairs.Adjacency.{Adjacency}
use Rattle.fib_resolve.specs.declared.types.Tables.{Tables}
use Rattle.fib_resolve.proofs.Apart.{apart-filter}
use Rattle.fib_resolve.proofs.Covering.{distinct_keys, filter_from, filter_in, unique_in}
use Rattle.fib_resolve.proofs.Entries.{chosen-no_entry}
use Rattle.fib_resolve_changes.specs.Ranks.{has_entry}
use Rattle.fib_resolve_changes.proofs.SamePairs.{flat_map_from, map_from, map_in}
use Rattle.fib_entries_rows.proofs.LeafSizes.{adjacency_equiv, adjacency_is}
use Rattle.fib_follow_view.specs.Views.{anew_prefix, is_changed}
use Rattle.fib_follow_view.specs.declared.view.Anew.{Anew}
use Rattle.fib_follow_sized.specs.inner.Counts.{ends_count}
use Rattle.fib_follow_sized.proofs.Plied.{among, member_of, same_if}

ends_member : (xs : List Adjacency) (x : Adjacency) → Contains xs x → is_member same_adjacency xs x ≡ true
ends_member xs x c = list_any-from_Contains adjacency_equiv x xs c

ends_among : (xs : List Adjacency) (x : Adjacency) → is_member same_adjacency xs x ≡ true → Contains xs x
ends_among xs x is = Contains-from_any adjacency_is x xs is

pub once_in : (xs : List Adjacency) (x : Adjacency) → Contains xs x ↔ Contains (unique_keys same_adjacency xs) x
once_in = unique_in same_adjacency adjacency_equiv adjacency_is

pub once_apart : (xs : List Adjacency) → IsDistinct same_adjacency (unique_keys same_adjacency xs)
once_apart = distinct_keys same_adjacency adjacency_equiv

-- lists without repeats of the same ends are equally long
as_many : (xs ys : List Adjacency) → IsDistinct same_adjacency xs → IsDistinct same_adjacency ys → ((x : Adjacency) → Contains xs x ↔ Contains ys x)
    → length xs ≡ length ys
as_many xs ys a b same = length-from_same_keys adjacency_equiv xs ys a b (λ x. same_if (is_member same_adjacency xs x) (is_member same_adjacency ys x)
    (λ is. ends_member ys x ((same x).0 (ends_among xs x is)))
    (λ is. ends_member xs x ((same x).1 (ends_among ys x is))))

-- the Hop ends of tables are those of their prefixes: what is no entry has none
pub end_from : (U : Tables) (x : Adjacency) → Contains (adjacencies U) x → (e : Prefix) × Contains (adjacencies_of U e) x
unfolding adjacencies
end_from U x c =
    let r = flat_map_from (adjacencies_of U) (entries U) x ((once_in (flat_map (adjacencies_of U) (entries U)) x).1 c) in
    (r.0, r.2)

pub end_there : (U : Tables) (e : Prefix) (x : Adjacency) → Contains (adjacencies_of U e) x → Contains (adjacencies U) x
unfolding adjacencies
end_there U e x c = elim (either (has_entry U e)) [
  | inl is ↦ (once_in (flat_map (adjacencies_of U) (entries U)) x).0 (Contains-flat_map (adjacencies_of U) (entries U) e x (among (entries U) e is) c)
  | inr isnt ↦ absurd (Contains-nil x (subst (λ l. Contains (flat_map (λ p. kind_adjacency e p.kind) l) x) (chosen-no_entry U e isnt) c))
]

-- the Hop ends of changed entries, listed
module _ (changed : List Anew) (f : Prefix → List Adjacency) (U : Tables) (is : (e : Prefix) → f e ≡ adjacencies_of U e) where
  pub listed_from : (x : Adjacency) → Contains (flat_map (λ (a : Anew). f a.prefix) changed) x
      → (e : Prefix) × (is_changed changed e ≡ true) × Contains (adjacencies_of U e) x
  listed_from x c =
      let r = flat_map_from (λ (a : Anew). f a.prefix) changed x c in
      (r.0.prefix, member_of (map anew_prefix changed) r.0.prefix (map_in anew_prefix changed r.0 r.1), subst (λ l. Contains l x) (is r.0.prefix) r.2)

  pub listed_has : (e : Prefix) (x : Adjacency) → is_changed changed e ≡ true → Contains (adjacencies_of U e) x
      → Contains (flat_map (λ (a : Anew). f a.prefix) changed) x
  listed_has e x own c =
      let m = map_from anew_prefix changed e (among (map anew_prefix changed) e own) in
      Contains-flat_map (λ (a : Anew). f a.prefix) changed m.0 x m.1 (subst (λ l. Contains l x) (sym (is m.0.prefix ∙ ap (adjacencies_of U) m.2)) c)

-- those that are there, where own lists those of changed entries
module _ (U : Tables) (changed : Prefix → Bool) (own others held ends : List Adjacency) (once : IsDistinct same_adjacency ends)
    (all : (x : Adjacency) → Contains ends x ↔ Contains own x ⊎ Contains others x)
    (from : (x : Adjacency) → Contains own x → (e : Prefix) × (changed e ≡ true) × Contains (adjacencies_of U e) x)
    (has : (e : Prefix) (x : Adjacency) → changed e ≡ true → Contains (adjacencies_of U e) x → Contains own x)
    (holds : (x : Adjacency) → Contains others x → Contains held x ↔ ((e : Prefix) × (changed e ≡ false) × Contains (adjacencies_of U e) x)) where
  abbrev counted : List Adjacency
  counted = filter (is_member same_adjacency held) others ++ own

  pub ends_there : length (filter (is_member same_adjacency (adjacencies U)) ends) ≡ ends_count own others held
  ends_there = as_many (filter (is_member same_adjacency (adjacencies U)) ends) (unique_keys same_adjacency counted)
      (apart-filter same_adjacency (is_member same_adjacency (adjacencies U)) ends once) (once_apart counted) (λ x. (
        λ c. (let f = filter_from (is_member same_adjacency (adjacencies U)) ends x c
            in (once_in counted x).0 (forth x f.0 (ends_among (adjacencies U) x f.1))),
        λ c. (let b = back x ((once_in counted x).1 c) in filter_in (is_member same_adjacency (adjacencies U)) ends x b.0 (ends_member (adjacencies U) x b.1)),
      ))
    where
      forth : (x : Adjacency) → Contains ends x → Contains (adjacencies U) x → Contains counted x
      forth x asked there =
          let e = end_from U x there in
          elim (either (changed e.0)) [
            | inl is ↦ Contains-append_right (filter (is_member same_adjacency held) others) own x (has e.0 x is e.1)
            | inr isnt ↦ elim ((all x).0 asked) [
              | inl mine ↦ Contains-append_right (filter (is_member same_adjacency held) others) own x mine
              | inr other ↦ Contains-append_left (filter (is_member same_adjacency held) others) own x
                  (filter_in (is_member same_adjacency held) others x other (ends_member held x ((holds x other).1 (e.0, isnt, e.1))))
            ]
          ]

      back : (x : Adjacency) → Contains counted x → Contains ends x × Contains (adjacencies U) x
      back x c = elim (Contains-append_cases (filter (is_member same_adjacency held) others) own x c) [
        | inl other ↦ (let f = filter_from (is_member same_adjacency held) others x other in
            let e = (holds x f.0).0 (ends_among held x f.1) in
            ((all x).1 (inr f.0), end_there U e.0 x e.2))
        | inr mine ↦ (let e = from x mine in ((all x).1 (inl mine), end_there U e.0 x e.2))
      ]
