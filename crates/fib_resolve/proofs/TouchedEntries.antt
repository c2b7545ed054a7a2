-- The touched prefixes as a list.
use Rattle.std.proofs.Common.{◌≡◌, true, false, [], ◌++◌, ◌⊎◌, inl, inr, refl, sym, ◌∙◌, ◌↔◌}
use Rattle.std.specs.Prelude.{Contains}
use Rattle.std.specs.Set.{is_member, unique_keys}
use Rattle.std.proofs.lemmas.Bool.{false≢true}
use Rattle.std.proofs.lemmas.List.Elements.{Contains-append_left, Contains-append_right}
use Rattle.std.proofs.lemmas.Map.Views.{Contains-from_any}
use Rattle.fib_base_list.proofs.Lists.{either}
use Rattle.fib_addr.specs.Prefixes.{Prefix, same_prefix}
use Rattle.fib_addr.proofs.PrefixLaws.{same_prefix-Decides, same_prefix_equiv}
use Rattle.fib_resolve.specs.Pairs.{pairs, entries}
use Rattle.fib_resolve.specs.Touched.{pairs_of, is_touched, touched}
use Rattle.fib_resolve.specs.declared.types.Tables.{Tables}
use Rattle.fib_resolve.proofs.Entries.{is_entry, chosen-no_entry}
use Rattle.fib_resolve.proofs.Answering.{none_pass}
use Rattle.fib_resolve.proofs.Covering.{filter_in, filter_from, unique_in}

no_pairs : (S : Tables) (e : Prefix) → is_member same_prefix (entries S) e ≡ false → pairs_of S e ≡ []
no_pairs S e h = none_pass (λ x. same_prefix e x.prefix) (pairs S) (sym (is_entry S e) ∙ h)

nowhere_untouched : (S T : Tables) (e : Prefix) → is_member same_prefix (entries S) e ≡ false → is_member same_prefix (entries T) e ≡ false → is_touched S T e ≡ false
unfolding is_touched
nowhere_untouched S T e h k = rw (no_pairs S e h, no_pairs T e k, chosen-no_entry S e h) refl

entry_of : (S : Tables) (e : Prefix) → is_member same_prefix (entries S) e ≡ true → Contains (entries S) e
entry_of S e h = Contains-from_any (λ x y. (same_prefix-Decides x y).0) e (entries S) h

-- what is touched is effective before or after
pub touched_effective : (S T : Tables) (e : Prefix) → is_touched S T e ≡ true → Contains (entries S) e ⊎ Contains (entries T) e
touched_effective S T e h =
    elim (either (is_member same_prefix (entries S) e)) [
      | inl before ↦ inl (entry_of S e before)
      | inr not_before ↦ elim (either (is_member same_prefix (entries T) e)) [
        | inl after ↦ inr (entry_of T e after)
        | inr not_after ↦ absurd (false≢true (sym (nowhere_untouched S T e not_before not_after) ∙ h))
      ]
    ]

both_in : (S T : Tables) (e : Prefix) → Contains (entries S) e ⊎ Contains (entries T) e → Contains (entries S ++ entries T) e
both_in S T e (inl c) = Contains-append_left (entries S) (entries T) e c
both_in S T e (inr c) = Contains-append_right (entries S) (entries T) e c

-- the list has exactly the touched prefixes
pub touched_listed : (S T : Tables) (e : Prefix) → Contains (touched S T) e ↔ (is_touched S T e ≡ true)
unfolding touched
touched_listed S T e = (
  λ c. (filter_from (is_touched S T) (unique_keys same_prefix (entries S ++ entries T)) e c).1,
  λ h. filter_in (is_touched S T) (unique_keys same_prefix (entries S ++ entries T)) e ((unique_in same_prefix same_prefix_equiv (λ x y. (same_prefix-Decides x y).0) (entries S ++ entries T) e).0 (both_in S T e (touched_effective S T e h))) h,
)
