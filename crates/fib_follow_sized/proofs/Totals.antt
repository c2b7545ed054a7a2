-- The size after the change, by what is counted.
use Rattle.std.proofs.Common.{arith, if◌then◌else◌, ◌≡◌, ℕ, ◌+◌, Bool, true, false, not, List, [], ◌∷◌, ◌++◌, map, flat_map, filter}
use Rattle.std.proofs.Common.{length, ◌⊎◌, inl, inr, refl, sym, ◌∙◌, ap, subst, ◌↔◌}
use Rattle.std.specs.Prelude.{Contains}
use Rattle.std.specs.List.{IsDistinct}
use Rattle.std.specs.Set.{is_member, unique_keys}
use Rattle.std.proofs.lemmas.Bool.{false≢true}
use Rattle.std.proofs.lemmas.List.Elements.{Contains-append_cases, Contains-append_left, Contains-append_right}
use Rattle.fib_base_list.proofs.Lists.{Contains-flat_map, either}
use Rattle.fib_addr.specs.Prefixes.{Prefix, same_prefix}
use Rattle.fib_addr.proofs.PrefixLaws.{same_prefix-Decides, same_prefix_equiv}
use Rattle.fib_cover.specs.Covers.{IsAscending}
use Rattle.fib_resolve.specs.Pairs.{entries}
use Rattle.fib_resolve.specs.Sizes.{adjacencies, adjacencies_of, kind_adjacency, plies, plies_of, same_adjacency, size}
use Rattle.fib_resolve.specs.declared.pairs.Adjacency.{Adjacency}
use Rattle.fib_resolve.specs.declared.types.Tables.{Tables}
use Rattle.fib_resolve.proofs.Apart.{apart-filter}
use Rattle.fib_resolve.proofs.Covering.{distinct_keys, filter_in, unique_in}
use Rattle.fib_resolve_changes.specs.Moves.{AreMoves}
use Rattle.fib_resolve_changes.specs.Ranks.{has_entry}
use Rattle.fib_resolve_changes.proofs.Edits.{in_front, in_rest}
use Rattle.fib_resolve_changes.proofs.Moves.{sizes_move}
use Rattle.fib_resolve_changes.proofs.SamePairs.{flat_map_from, same_chosen}
use Rattle.fib_entries_rows.proofs.Orders.{ascending_distinct}
use Rattle.fib_follow_view.specs.Views.{IsAfter, Seen, anew_prefix, is_changed}
use Rattle.fib_follow_view.specs.declared.view.Anew.{Anew}
use Rattle.fib_follow_view.specs.inner.Told.{entry_in}
use Rattle.fib_follow_view.proofs.After.{chosen_after, entry_after, same_there}
use Rattle.fib_follow_view.proofs.Told.{row_chosen, row_is}
use Rattle.fib_follow_sized.specs.Holders.{AreHolders, IsAsked}
use Rattle.fib_follow_sized.specs.inner.Below.{is_ply, was_ply}
use Rattle.fib_follow_sized.specs.inner.Counts.{ends_after, ends_are, ends_before, ends_count, ends_were, less_of, more_of, moved_of}
use Rattle.fib_follow_sized.specs.inner.Counts.{moves, moving, on_way_of, was_entry}
use Rattle.fib_follow_sized.proofs.Ended.{ends_there, listed_from, listed_has, once_apart, once_in}
use Rattle.fib_follow_sized.proofs.Plied.{IsPly, among, is_ply_there, member_of, was_ply_there, way_ply}

-- tests that agree on a list keep the same of it
filter_same : {X : Type 0} (f g : X → Bool) (xs : List X) → ((x : X) → Contains xs x → f x ≡ g x) → filter f xs ≡ filter g xs
filter_same f g [] h = refl
filter_same f g (x ∷ xs) h = rw (h x (in_front x x xs refl), filter_same f g xs (λ y c. h y (in_rest x y xs c))) refl

-- those that come or go are changed ones
moved_filter : (v : Seen) (changed : List Anew) → flat_map (moving v) changed ≡ filter (moves v) (map anew_prefix changed)
moved_filter v [] = refl
moved_filter v (x ∷ xs) = elim (either (moves v x.prefix)) [
  | inl is ↦ rw (is, moved_filter v xs) refl
  | inr isnt ↦ rw (isnt, moved_filter v xs) refl
]

alike : (b c : Bool) → (if b then not c else c) ≡ false → b ≡ c
alike true true h = refl
alike true false h = absurd (false≢true (sym h))
alike false true h = absurd (false≢true (sym h))
alike false false h = refl

same_iff : (S T : Tables) (e : Prefix) → has_entry S e ≡ has_entry T e → Contains (entries S) e ↔ Contains (entries T) e
same_iff S T e same = (
  λ c. among (entries T) e (sym same ∙ member_of (entries S) e c),
  λ c. among (entries S) e (same ∙ member_of (entries T) e c),
)

-- all that changed entries have before or after
abbrev pub ends_all : Seen → List Adjacency
ends_all v = unique_keys same_adjacency (ends_were v ++ ends_are v)

module _ (v : Seen) (S T : Tables) (h : IsAfter v S T) where
  ends_before_are : (e : Prefix) → ends_before v e ≡ adjacencies_of S e
  ends_before_are e = ap (flat_map (λ p. kind_adjacency e p.kind)) (row_chosen v.before S h.stands e)

  ends_after_are : (e : Prefix) → ends_after v e ≡ adjacencies_of T e
  ends_after_are e = ap (flat_map (λ p. kind_adjacency e p.kind)) (chosen_after v S T h e)

  were_from : (x : Adjacency) → Contains (ends_were v) x → (e : Prefix) × (is_changed v.changed e ≡ true) × Contains (adjacencies_of S e) x
  were_from = listed_from v.changed (ends_before v) S ends_before_are

  are_from : (x : Adjacency) → Contains (ends_are v) x → (e : Prefix) × (is_changed v.changed e ≡ true) × Contains (adjacencies_of T e) x
  are_from = listed_from v.changed (ends_after v) T ends_after_are

  were_has : (e : Prefix) (x : Adjacency) → is_changed v.changed e ≡ true → Contains (adjacencies_of S e) x → Contains (ends_were v) x
  were_has = listed_has v.changed (ends_before v) S ends_before_are

  are_has : (e : Prefix) (x : Adjacency) → is_changed v.changed e ≡ true → Contains (adjacencies_of T e) x → Contains (ends_are v) x
  are_has = listed_has v.changed (ends_after v) T ends_after_are

  all_cases : (x : Adjacency) → Contains (ends_all v) x → Contains (ends_were v) x ⊎ Contains (ends_are v) x
  all_cases x c = Contains-append_cases (ends_were v) (ends_are v) x ((once_in (ends_were v ++ ends_are v) x).1 c)

  all_has : (x : Adjacency) → Contains (ends_were v) x ⊎ Contains (ends_are v) x → Contains (ends_all v) x
  all_has x (inl c) = (once_in (ends_were v ++ ends_are v) x).0 (Contains-append_left (ends_were v) (ends_are v) x c)
  all_has x (inr c) = (once_in (ends_were v ++ ends_are v) x).0 (Contains-append_right (ends_were v) (ends_are v) x c)

  asked_were : (x : Adjacency) → Contains (ends_were v) x → IsAsked v S T x
  asked_were x c = let r = were_from x c in (r.0, r.1, inl r.2)

  asked_are : (x : Adjacency) → Contains (ends_are v) x → IsAsked v S T x
  asked_are x c = let r = are_from x c in (r.0, r.1, inr r.2)

  -- the Hop ends of which it has to be known whether others have them
  pub all_asked : (x : Adjacency) → Contains (ends_all v) x ↔ IsAsked v S T x
  all_asked x = (
    λ c. elim (all_cases x c) [ inl were ↦ asked_were x were | inr are ↦ asked_are x are ],
    λ a. all_has x (elim a.2 [ inl c ↦ inl (were_has a.0 x a.1 c) | inr c ↦ inr (are_has a.0 x a.1 c) ]),
  )

  -- beside the changed ones all is the same
  same_beside : (e : Prefix) → is_changed v.changed e ≡ false → (has_entry S e ≡ has_entry T e) × (adjacencies_of S e ≡ adjacencies_of T e)
  same_beside e off =
      let same = (h.caught e off).pairs in
      (same_there S T e same, ap (flat_map (λ p. kind_adjacency e p.kind)) (same_chosen S T e h.sound same))

  was_there : (e : Prefix) → was_entry v e ≡ has_entry S e
  was_there e = row_is v.before S h.stands e

  -- what comes or goes is among those that move
  stays_there : (e : Prefix) → is_member same_prefix (moved_of v) e ≡ false → has_entry S e ≡ has_entry T e
  stays_there e off = elim (either (is_changed v.changed e)) [
    | inr isnt ↦ (same_beside e isnt).0
    | inl is ↦ elim (either (moves v e)) [
      | inl moved ↦ absurd (false≢true (sym off ∙ member_of (moved_of v) e
          (subst (λ l. Contains l e) (sym (moved_filter v v.changed))
          (filter_in (moves v) (map anew_prefix v.changed) e (among (map anew_prefix v.changed) e is) moved))))
      | inr still ↦ sym (was_there e) ∙ (alike (was_entry v e) (entry_in v e) still ∙ entry_after v S T h e)
    ]
  ]

  moved_apart : IsAscending (map anew_prefix v.changed) → IsDistinct same_prefix (moved_of v)
  moved_apart asc = subst (IsDistinct same_prefix) (sym (moved_filter v v.changed))
      (apart-filter same_prefix (moves v) (map anew_prefix v.changed) (ascending_distinct (map anew_prefix v.changed) asc))

  prefix_once : (xs : List Prefix) (q : Prefix) → Contains xs q ↔ Contains (unique_keys same_prefix xs) q
  prefix_once = unique_in same_prefix same_prefix_equiv (λ p q. (same_prefix-Decides p q).0)

  are_moves : IsAscending (map anew_prefix v.changed) → AreMoves S T (moved_of v) (on_way_of (moved_of v)) (map anew_prefix v.changed) (ends_all v)
  are_moves asc = record {
    moved_once = moved_apart asc;
    on_way_once = distinct_keys same_prefix same_prefix_equiv (flat_map plies_of (moved_of v));
    ends_once = once_apart (ends_were v ++ ends_are v);
    stays = λ e off. same_iff S T e (stays_there e off);
    ways = λ e q is c. (prefix_once (flat_map plies_of (moved_of v)) q).0 (Contains-flat_map plies_of (moved_of v) e q (among (moved_of v) e is) c);
    beside = λ e off. (let s = same_beside e off in (same_iff S T e s.0, s.1));
    inside = λ e x is has. (all_asked x).1 (e, is, has);
  }

  -- each ply on the way is one on the way to some prefix
  way_is : (q : Prefix) → Contains (on_way_of (moved_of v)) q → IsPly q
  way_is q c = let r = flat_map_from plies_of (moved_of v) q ((prefix_once (flat_map plies_of (moved_of v)) q).1 c) in way_ply r.0 q r.2

  plies_were : length (filter (was_ply v.before.rows) (on_way_of (moved_of v)))
      ≡ length (filter (is_member same_prefix (plies S)) (on_way_of (moved_of v)))
  plies_were = ap length (filter_same (was_ply v.before.rows) (is_member same_prefix (plies S)) (on_way_of (moved_of v))
      (λ q c. was_ply_there v S T h q (way_is q c)))

  plies_are : length (filter (is_ply v v.before.rows) (on_way_of (moved_of v))) ≡ length (filter (is_member same_prefix (plies T)) (on_way_of (moved_of v)))
  plies_are = ap length (filter_same (is_ply v v.before.rows) (is_member same_prefix (plies T)) (on_way_of (moved_of v))
      (λ q c. is_ply_there v S T h q (way_is q c)))

  entries_were : length (filter (was_entry v) (moved_of v)) ≡ length (filter (is_member same_prefix (entries S)) (moved_of v))
  entries_were = ap length (filter_same (was_entry v) (is_member same_prefix (entries S)) (moved_of v) (λ e c. was_there e))

  entries_are : length (filter (entry_in v) (moved_of v)) ≡ length (filter (is_member same_prefix (entries T)) (moved_of v))
  entries_are = ap length (filter_same (entry_in v) (is_member same_prefix (entries T)) (moved_of v) (λ e c. entry_after v S T h e))

  module _ (held : List Adjacency) (holds : AreHolders v S T held) where
    held_after : (x : Adjacency) → IsAsked v S T x → Contains held x ↔ ((e : Prefix) × (is_changed v.changed e ≡ false) × Contains (adjacencies_of T e) x)
    held_after x asked = (
      λ c. (let b = (holds x asked).0 c in (b.0, b.1, subst (λ l. Contains l x) (same_beside b.0 b.1).1 b.2)),
      λ b. (holds x asked).1 (b.0, b.1, subst (λ l. Contains l x) (sym (same_beside b.0 b.1).1) b.2),
    )

    swapped : {A B : Type 0} → A ⊎ B → B ⊎ A
    swapped (inl a) = inr a
    swapped (inr b) = inl b

    ends_were_there : length (filter (is_member same_adjacency (adjacencies S)) (ends_all v)) ≡ ends_count (ends_were v) (ends_are v) held
    ends_were_there = ends_there S (is_changed v.changed) (ends_were v) (ends_are v) held (ends_all v) (once_apart (ends_were v ++ ends_are v))
        (λ x. (all_cases x, all_has x)) were_from were_has (λ x c. holds x (asked_are x c))

    ends_are_there : length (filter (is_member same_adjacency (adjacencies T)) (ends_all v)) ≡ ends_count (ends_are v) (ends_were v) held
    ends_are_there = ends_there T (is_changed v.changed) (ends_are v) (ends_were v) held (ends_all v) (once_apart (ends_were v ++ ends_are v))
        (λ x. (λ c. swapped (all_cases x c), λ d. all_has x (swapped d))) are_from are_has (λ x c. held_after x (asked_were x c))

    sums : (a b c x y z : ℕ) → a ≡ x → b ≡ y → c ≡ z → a + b + c ≡ x + y + z
    sums a b c x y z d e f = omega (arith, d, e, f)

    pub size_counted : IsAscending (map anew_prefix v.changed) → size T + less_of v held ≡ size S + more_of v held
    size_counted asc =
        ap (λ n. size T + n) (sums _ _ _ _ _ _ plies_were entries_were (sym ends_were_there))
        ∙ (sizes_move S T (moved_of v) (on_way_of (moved_of v)) (map anew_prefix v.changed) (ends_all v) (are_moves asc)
        ∙ ap (λ n. size S + n) (sym (sums _ _ _ _ _ _ plies_are entries_are (sym ends_are_there))))
