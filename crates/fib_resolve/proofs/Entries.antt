-- What has a path is an entry.
use Rattle.std.proofs.Common.{◌≡◌, true, false, List, [], ◌∷◌, map, None, inl, inr, refl, sym, ◌∙◌, ap}
use Rattle.std.specs.Prelude.{Contains}
use Rattle.std.specs.List.{list_any}
use Rattle.std.specs.Set.{is_member}
use Rattle.std.proofs.lemmas.Bool.{false≢true}
use Rattle.fib_base_list.proofs.Lists.{either, is_member-unique_keys, list_any-map, Contains-nil}
use Rattle.fib_addr.specs.Prefixes.{Prefix, same_prefix}
use Rattle.fib_addr.proofs.PrefixLaws.{same_prefix_equiv}
use Rattle.fib_resolve.specs.Pairs.{pairs, entries, best_pair, paths_of, prefix_of, chosen}
use Rattle.fib_resolve.specs.Loops.{targets}
use Rattle.fib_resolve.specs.declared.pairs.Pair.{Pair}
use Rattle.fib_resolve.specs.declared.types.Tables.{Tables}

-- no pair of the prefix, no best one
pub no_pair : (e : Prefix) (xs : List Pair) → list_any (λ x. same_prefix e x.prefix) xs ≡ false → best_pair e xs ≡ None
unfolding best_pair
no_pair e [] h = refl
no_pair e (x ∷ xs) h =
    elim (either (same_prefix e x.prefix)) [
      | inl is ↦ absurd (false≢true (sym h ∙ rw is refl))
      | inr isnt ↦ rw isnt (no_pair e xs (rw isnt at h))
    ]

-- an entry is a prefix of a pair
pub is_entry : (S : Tables) (e : Prefix) → is_member same_prefix (entries S) e ≡ list_any (λ x. same_prefix e x.prefix) (pairs S)
unfolding entries
is_entry S e = is_member-unique_keys same_prefix_equiv e (map prefix_of (pairs S)) ∙ list_any-map prefix_of (same_prefix e) (pairs S)

-- what is no entry has no path
pub chosen-no_entry : (S : Tables) (e : Prefix) → is_member same_prefix (entries S) e ≡ false → chosen S e ≡ []
unfolding chosen
chosen-no_entry S e h = ap paths_of (no_pair e (pairs S) (sym (is_entry S e) ∙ h))

-- what has an edge is an entry
pub targets_from_entries : (S : Tables) (e to : Prefix) → Contains (targets S e) to → is_member same_prefix (entries S) e ≡ true
unfolding targets
targets_from_entries S e to h =
    elim (either (is_member same_prefix (entries S) e)) [
      | inl is ↦ is
      | inr isnt ↦ absurd (Contains-nil to (rw (chosen-no_entry S e isnt) at h))
    ]
