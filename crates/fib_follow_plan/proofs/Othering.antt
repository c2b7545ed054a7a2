-- Each entry that a change can touch from beside the changed ones is found by its features.
use Rattle.std.proofs.Common.{arith, ◌≡◌, ◌≢◌, ◌==◌, ◌&&◌, ◌++◌, ℕ, Bool, true, false, cond, List, [], ◌∷◌, map, flat_map, inl, inr, refl, sym, ◌∙◌, ap, subst}
use Rattle.std.proofs.Common.{Option, Some, None}
use Rattle.std.specs.Prelude.{Contains, not}
use Rattle.std.specs.List.{list_any}
use Rattle.std.proofs.lemmas.Bool.{false≢true}
use Rattle.std.proofs.lemmas.Bool.Decides.{Decides-eqb}
use Rattle.std.proofs.lemmas.List.Elements.{Contains-append_left, Contains-append_right}
use Rattle.fib_base_list.proofs.Booleans.{and_both, or_cases}
use Rattle.fib_base_list.proofs.Lists.{Contains-flat_map, either}
use Rattle.fib_addr.specs.Prefixes.{Prefix, host}
use Rattle.fib_resolve.specs.Forwarding.{is_up}
use Rattle.fib_resolve.specs.Pairs.{chosen}
use Rattle.fib_resolve.specs.Resolution.{mac_of}
use Rattle.fib_resolve.specs.Sizes.{adjacencies_of, kind_adjacency}
use Rattle.fib_resolve.specs.Touched.{differ, other_flag, other_mac, same_mac}
use Rattle.fib_resolve.specs.declared.pairs.Adjacency.{Adjacency}
use Rattle.fib_resolve.specs.declared.types.Need.TheVariants as needs
use Rattle.fib_resolve.specs.declared.types.Path.{Path}
use Rattle.fib_resolve.specs.declared.types.PathKind.{PathKind}
use Rattle.fib_resolve.specs.declared.types.PathKind.TheVariants as kinds
use Rattle.fib_resolve.specs.declared.types.Tables.{Tables}
use Rattle.fib_resolve_changes.specs.Causes.{means_else}
use Rattle.fib_resolve_changes.specs.Differ.{Differ}
use Rattle.fib_resolve_changes.specs.declared.change.Change.{Change}
use Rattle.fib_resolve_changes.specs.declared.change.Change.TheVariants as changes
use Rattle.fib_resolve_changes.proofs.CauseLaws.{any_from}
use Rattle.fib_resolve_changes.proofs.Edits.{any_in}
use Rattle.fib_resolve_changes.proofs.SamePairs.{map_from}
use Rattle.fib_entries_rows.specs.Known.{Known, StandsFor, prefix_of}
use Rattle.fib_follow_view.specs.Views.{anew_prefix, is_changed}
use Rattle.fib_follow_view.specs.declared.view.Anew.{Anew}
use Rattle.fib_follow_sized.proofs.Plied.{among}
use Rattle.fib_follow_features.specs.FoundBy.{AreNoted}
use Rattle.fib_follow_features.specs.Holders.{Holders, IsFound}
use Rattle.fib_follow_features.specs.declared.feature.Feature.TheVariants as features
use Rattle.fib_follow_features.proofs.Tabled.{attached_found, end_found, hop_found, need_found}
use Rattle.fib_follow_told.specs.Told.{AreOthers}
use Rattle.fib_follow_plan.specs.inner.Others.{needing, over_or_at}

is_flag : ℕ → Change → Bool
is_flag i (changes.Flag j) = j == i
is_flag i (changes.Address a) = false
is_flag i (changes.Neighbor j a) = false
is_flag i (changes.Route p s) = false

is_near : ℕ → ℕ → Change → Bool
is_near i a (changes.Flag j) = false
is_near i a (changes.Address b) = false
is_near i a (changes.Neighbor j b) = (j == i) && (b == a)
is_near i a (changes.Route p s) = false

flag_is : (i : ℕ) (c : Change) → is_flag i c ≡ true → c ≡ changes.Flag i
unfolding is_flag
flag_is i (changes.Flag j) h = ap changes.Flag ((Decides-eqb j i).0 h)
flag_is i (changes.Address a) h = absurd (false≢true h)
flag_is i (changes.Neighbor j a) h = absurd (false≢true h)
flag_is i (changes.Route p s) h = absurd (false≢true h)

near_is : (i a : ℕ) (c : Change) → is_near i a c ≡ true → c ≡ changes.Neighbor i a
unfolding is_near
near_is i a (changes.Flag j) h = absurd (false≢true h)
near_is i a (changes.Address b) h = absurd (false≢true h)
near_is i a (changes.Neighbor j b) h =
    let both = and_both (j == i) (b == a) h in
    ap (λ n. changes.Neighbor n b) ((Decides-eqb j i).0 both.0) ∙ ap (changes.Neighbor i) ((Decides-eqb b a).0 both.1)
near_is i a (changes.Route p s) h = absurd (false≢true h)

flag_self : (i : ℕ) → is_flag i (changes.Flag i) ≡ true
unfolding is_flag
flag_self i = (Decides-eqb i i).1 refl

near_self : (i a : ℕ) → is_near i a (changes.Neighbor i a) ≡ true
unfolding is_near
near_self i a = rw ((Decides-eqb i i).1 refl, (Decides-eqb a a).1 refl) refl

differ_self : (b : Bool) → differ b b ≡ true → ⊥
differ_self true h = false≢true h
differ_self false h = false≢true h

same_mac_self : (m : Option ℕ) → not (same_mac m m) ≡ true → ⊥
same_mac_self None h = false≢true h
same_mac_self (Some n) h = false≢true (sym (ap not ((Decides-eqb n n).1 refl)) ∙ h)

-- the changes name what is another
module _ (list : List Change) (S T : Tables) (d : Differ list S T) where
  flag_named : (i : ℕ) → other_flag S T i ≡ true → Contains list (changes.Flag i)
  flag_named i other = elim (either (list_any (is_flag i) list)) [
    | inl is ↦ (let w = any_from (is_flag i) list is in subst (Contains list) (flag_is i w.0 w.2) w.1)
    | inr isnt ↦ (let same = d.flags i (λ c. false≢true (sym isnt ∙ any_in (is_flag i) list (changes.Flag i) c (flag_self i))) in
        absurd (differ_self (is_up T i) (subst (λ b. differ b (is_up T i) ≡ true) same other)))
  ]

  near_named : (i a : ℕ) → other_mac S T i a ≡ true → Contains list (changes.Neighbor i a)
  near_named i a other = elim (either (list_any (is_near i a) list)) [
    | inl is ↦ (let w = any_from (is_near i a) list is in subst (Contains list) (near_is i a w.0 w.2) w.1)
    | inr isnt ↦ (let same = d.neighbors i a (λ c. false≢true (sym isnt ∙ any_in (is_near i a) list (changes.Neighbor i a) c (near_self i a))) in
        absurd (same_mac_self (mac_of T i a) (subst (λ m. not (same_mac m (mac_of T i a)) ≡ true) same other)))
  ]

abbrev end_at : ℕ → ℕ → Adjacency
end_at i a = record { interface = i; next_hop = a }

-- a path with a Hop end gives it to its entry
end_of_path : (S : Tables) (e : Prefix) (p : Path) (x : Adjacency) → Contains (chosen S e) p → Contains (kind_adjacency e p.kind) x
    → Contains (adjacencies_of S e) x
end_of_path S e p x c has = Contains-flat_map (λ q. kind_adjacency e q.kind) (chosen S e) p x c has

module _ (v : Known) (S T : Tables) (sets : List Holders) (h : StandsFor v S) (noted : AreNoted v.lists (map prefix_of v.rows) v.rows sets)
    (list : List Change) (d : Differ list S T) (changed : List Anew) where
  abbrev needs_all : List Prefix
  needs_all = flat_map (λ (x : Anew). needing sets x.prefix) changed

  abbrev ends_all : List Prefix
  ends_all = flat_map (over_or_at sets) list

  by_need : (e : Prefix) (p : Path) (a : ℕ) → Contains (chosen S e) p → p.kind ≡ kinds.Recursive a → p.need ≢ needs.Any
      → is_changed changed (host a) ≡ true → Contains needs_all e
  by_need e p a c is off own =
      let m = map_from anew_prefix changed (host a) (among (map anew_prefix changed) (host a) own) in
      Contains-flat_map (λ (x : Anew). needing sets x.prefix) changed m.0 e m.1
      (subst (λ z. Contains (needing sets z) e) (sym m.2) (need_found v S sets h noted e p a c is off))

  by_flag : (e : Prefix) (i : ℕ) → other_flag S T i ≡ true → IsFound sets (features.Over i) e → Contains ends_all e
  by_flag e i other found = Contains-flat_map (over_or_at sets) list (changes.Flag i) e (flag_named list S T d i other) found

  by_mac : (e : Prefix) (i a : ℕ) → other_mac S T i a ≡ true → Contains (adjacencies_of S e) (end_at i a) → Contains ends_all e
  by_mac e i a other has = Contains-flat_map (over_or_at sets) list (changes.Neighbor i a) e (near_named list S T d i a other)
      (end_found v S sets h noted e (end_at i a) has)

  by_end : (e : Prefix) (p : Path) → Contains (chosen S e) p → means_else S T e p.kind ≡ true → Contains ends_all e
  by_end e p c other = by p.kind refl other
    where
      by : (kind : PathKind) → p.kind ≡ kind → means_else S T e kind ≡ true → Contains ends_all e
      by (kinds.Attached i) is m = elim (or_cases (other_flag S T i) ((e.len == 32) && other_mac S T i e.bits) m) [
        | inl flag ↦ by_flag e i flag (attached_found v S sets h noted e p i c is)
        | inr both ↦ (let b = and_both (e.len == 32) (other_mac S T i e.bits) both in
            by_mac e i e.bits b.1 (end_of_path S e p (end_at i e.bits) c
            (subst (λ k. Contains (kind_adjacency e k) (end_at i e.bits)) (sym is)
            (subst (λ t. Contains (cond t (end_at i e.bits ∷ []) []) (end_at i e.bits)) (sym b.0) (0, omega arith, refl)))))
      ]
      by (kinds.Hop a i) is m = elim (or_cases (other_flag S T i) (other_mac S T i a) m) [
        | inl flag ↦ by_flag e i flag (hop_found v S sets h noted e p a i c is)
        | inr mac ↦ by_mac e i a mac (end_of_path S e p (end_at i a) c
            (subst (λ k. Contains (kind_adjacency e k) (end_at i a)) (sym is) (0, omega arith, refl)))
      ]
      by kinds.Drop is m = absurd (false≢true m)
      by kinds.Local is m = absurd (false≢true m)
      by (kinds.Recursive a) is m = absurd (false≢true m)
      by kinds.Cover is m = absurd (false≢true m)

  pub are_others : (out : List Prefix) → out ≡ needs_all ++ ends_all → AreOthers S T (is_changed changed) out
  are_others out is = record {
    needing = λ e p a c kind off own. subst (λ l. Contains l e) (sym is) (Contains-append_left needs_all ends_all e (by_need e p a c kind off own));
    ends = λ e p c other. subst (λ l. Contains l e) (sym is) (Contains-append_right needs_all ends_all e (by_end e p c other));
  }
