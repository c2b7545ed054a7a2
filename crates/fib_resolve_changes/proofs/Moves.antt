-- How the size moves is told by what moves.
use Rattle.std.proofs.Common.{arith, ◌≡◌, ℕ, ◌+◌, Bool, true, false, ◌==◌, List, ◌∷◌, length, filter, inl, inr, sym, ◌∙◌, ap, subst, ◌↔◌}
use Rattle.std.specs.Prelude.{Contains, flat_map}
use Rattle.std.specs.List.{IsDistinct}
use Rattle.std.specs.Set.{is_member, unique_keys}
use Rattle.std.specs.Cmp.{IsEquivalence}
use Rattle.std.proofs.lemmas.Bool.{false≢true}
use Rattle.std.proofs.lemmas.Bool.Decides.{Decides-eqb}
use Rattle.std.proofs.lemmas.Cmp.{nat_eq_equiv, on_equiv, and_equiv}
use Rattle.fib_base_list.proofs.Lists.{is_member-unique_keys}
use Rattle.std.proofs.lemmas.Map.Views.{Contains-from_any, list_any-from_Contains}
use Rattle.fib_base_list.proofs.Booleans.{and_both}
use Rattle.fib_base_list.proofs.Lists.{either, Contains-flat_map}
use Rattle.fib_addr.specs.Longest.{everything}
use Rattle.fib_addr.specs.Prefixes.{Prefix, same_prefix}
use Rattle.fib_addr.proofs.PrefixLaws.{same_prefix-Decides, same_prefix_equiv}
use Rattle.fib_resolve.specs.Pairs.{entries}
use Rattle.fib_resolve.specs.Sizes.{plies, plies_of, size, adjacencies, adjacencies_of, same_adjacency}
use Rattle.fib_resolve.specs.declared.pairs.Adjacency.{Adjacency}
use Rattle.fib_resolve.specs.declared.types.Tables.{Tables}
use Rattle.fib_resolve.proofs.Covering.{distinct_keys, entries_apart}
use Rattle.fib_resolve_changes.specs.Moves.{AreMoves, there_of}
use Rattle.fib_resolve_changes.proofs.Edits.{in_cases, in_front, in_rest, clash}
use Rattle.fib_resolve_changes.proofs.Moved.{moved_distinct}
use Rattle.fib_resolve_changes.proofs.SamePairs.{flat_map_from}

module _ {X : Type 0} (eq : X → X → Bool) (laws : IsEquivalence eq) (exact : (x y : X) → eq x y ≡ true → x ≡ y) where
  member_at : (us vs : List X) (q : X) → Contains us q ↔ Contains vs q → is_member eq us q ≡ is_member eq vs q
  member_at us vs q same = elim (either (is_member eq us q)) [
    | inl is ↦ is ∙ sym (list_any-from_Contains laws q vs (same.0 (Contains-from_any exact q us is)))
    | inr isnt ↦ elim (either (is_member eq vs q)) [
      | inl there ↦ absurd (false≢true (sym isnt ∙ list_any-from_Contains laws q us (same.1 (Contains-from_any exact q vs there))))
      | inr neither ↦ isnt ∙ sym neither
    ]
  ]

  off_list : (xs : List X) (q : X) → is_member eq xs q ≡ false → Contains xs q → ⊥
  off_list xs q off c = clash (is_member eq xs q) (list_any-from_Contains laws q xs c) off

  counted : (us vs xs : List X) → IsDistinct eq xs → ((q : X) → (Contains xs q → ⊥) → Contains us q ↔ Contains vs q)
      → length (unique_keys eq vs) + length (filter (is_member eq (unique_keys eq us)) xs) ≡ length (unique_keys eq us) + length (filter (is_member eq (unique_keys eq vs)) xs)
  counted us vs xs once same = moved_distinct eq laws exact (unique_keys eq us) (unique_keys eq vs) xs (distinct_keys eq laws us) (distinct_keys eq laws vs) once
      (λ q off. is_member-unique_keys laws q us ∙ (member_at us vs q (same q (off_list xs q off)) ∙ sym (is_member-unique_keys laws q vs)))

prefix_is : (p q : Prefix) → same_prefix p q ≡ true → p ≡ q
prefix_is p q = (same_prefix-Decides p q).0

adjacency_equiv : IsEquivalence same_adjacency
adjacency_equiv = and_equiv (on_equiv (λ (x : Adjacency). x.interface) nat_eq_equiv) (on_equiv (λ (x : Adjacency). x.next_hop) nat_eq_equiv)

adjacency_with : ℕ → ℕ → Adjacency
adjacency_with i a = record { interface = i; next_hop = a }

adjacency_is : (x y : Adjacency) → same_adjacency x y ≡ true → x ≡ y
unfolding adjacency_with
adjacency_is x y h = let both = and_both (x.interface == y.interface) (x.next_hop == y.next_hop) h in
    ap (λ i. adjacency_with i x.next_hop) ((Decides-eqb x.interface y.interface).0 both.0) ∙ ap (adjacency_with y.interface) ((Decides-eqb x.next_hop y.next_hop).0 both.1)

plies_half : (S T : Tables) (moved on_way : List Prefix) → ((e : Prefix) → is_member same_prefix moved e ≡ false → Contains (entries S) e → Contains (entries T) e)
    → ((e q : Prefix) → is_member same_prefix moved e ≡ true → Contains (plies_of e) q → Contains on_way q)
    → (q : Prefix) → (Contains on_way q → ⊥) → Contains (everything ∷ flat_map plies_of (entries S)) q → Contains (everything ∷ flat_map plies_of (entries T)) q
plies_half S T moved on_way stays has q off c = elim (in_cases everything q (flat_map plies_of (entries S)) c) [
  | inl first ↦ in_front everything q (flat_map plies_of (entries T)) first
  | inr later ↦ (let r = flat_map_from plies_of (entries S) q later in elim (either (is_member same_prefix moved r.0)) [
    | inl is ↦ absurd (off (has r.0 q is r.2))
    | inr isnt ↦ in_rest everything q (flat_map plies_of (entries T)) (Contains-flat_map plies_of (entries T) r.0 q (stays r.0 isnt r.1) r.2)
  ])
]

ends_half : (S T : Tables) (changed : List Prefix) (ends : List Adjacency) → ((e : Prefix) → is_member same_prefix changed e ≡ false → (Contains (entries S) e → Contains (entries T) e) × (adjacencies_of S e ≡ adjacencies_of T e))
    → ((e : Prefix) (x : Adjacency) → is_member same_prefix changed e ≡ true → Contains (adjacencies_of S e) x → Contains ends x)
    → (x : Adjacency) → (Contains ends x → ⊥) → Contains (flat_map (adjacencies_of S) (entries S)) x → Contains (flat_map (adjacencies_of T) (entries T)) x
ends_half S T changed ends beside has x off c =
    let r = flat_map_from (adjacencies_of S) (entries S) x c in
    elim (either (is_member same_prefix changed r.0)) [
      | inl is ↦ absurd (off (has r.0 x is r.2))
      | inr isnt ↦ (let b = beside r.0 isnt in Contains-flat_map (adjacencies_of T) (entries T) r.0 x (b.0 r.1) (subst (λ l. Contains l x) b.1 r.2))
    ]

module _ (S T : Tables) (moved on_way changed : List Prefix) (ends : List Adjacency) (h : AreMoves S T moved on_way changed ends) where
  plies_move : length (plies T) + length (filter (is_member same_prefix (plies S)) on_way) ≡ length (plies S) + length (filter (is_member same_prefix (plies T)) on_way)
  unfolding plies
  plies_move = counted same_prefix same_prefix_equiv prefix_is (everything ∷ flat_map plies_of (entries S)) (everything ∷ flat_map plies_of (entries T)) on_way h.on_way_once (λ q off. (
    plies_half S T moved on_way (λ e isnt. (h.stays e isnt).0) h.ways q off,
    plies_half T S moved on_way (λ e isnt. (h.stays e isnt).1) h.ways q off,
  ))

  ends_move : length (adjacencies T) + length (filter (is_member same_adjacency (adjacencies S)) ends) ≡ length (adjacencies S) + length (filter (is_member same_adjacency (adjacencies T)) ends)
  unfolding adjacencies
  ends_move = counted same_adjacency adjacency_equiv adjacency_is (flat_map (adjacencies_of S) (entries S)) (flat_map (adjacencies_of T) (entries T)) ends h.ends_once (λ x off. (
    ends_half S T changed ends (λ e isnt. (let b = h.beside e isnt in (b.0.0, b.1))) (λ e x is c. h.inside e x is (inl c)) x off,
    ends_half T S changed ends (λ e isnt. (let b = h.beside e isnt in (b.0.1, sym b.1))) (λ e x is c. h.inside e x is (inr c)) x off,
  ))

  entries_move : length (entries T) + length (filter (is_member same_prefix (entries S)) moved) ≡ length (entries S) + length (filter (is_member same_prefix (entries T)) moved)
  entries_move = moved_distinct same_prefix same_prefix_equiv prefix_is (entries S) (entries T) moved (entries_apart S) (entries_apart T) h.moved_once
      (λ q off. member_at same_prefix same_prefix_equiv prefix_is (entries S) (entries T) q (h.stays q off))

  pub size_moves : size T + there_of S moved on_way ends ≡ size S + there_of T moved on_way ends
  unfolding size
  size_moves =
      let a = plies_move in
      let b = entries_move in
      let c = ends_move in
      omega (arith, a, b, c)

pub sizes_move : (S T : Tables) (moved on_way changed : List Prefix) (ends : List Adjacency) → AreMoves S T moved on_way changed ends → size T + there_of S moved on_way ends ≡ size S + there_of T moved on_way ends
sizes_move = size_moves
