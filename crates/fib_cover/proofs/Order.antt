-- The order of prefixes tells them apart; a set that changes by one member.
use Rattle.std.proofs.Common.{◌≡◌, ◌≢◌, ℕ, Bool, true, false, cond, not, IsTrue, ◌↔◌, ◌⊎◌, inl, inr, refl, sym, ◌∙◌, ap, subst}
use Rattle.std.specs.Prelude.{Contains}
use Rattle.std.specs.BTreeSet.{BTreeSet, contains}
use Rattle.std.specs.Cmp.{IsTotalOrder, then_total, on_total, nat_cmp_total, tied_itself}
use Rattle.std.specs.Ordering.{nat_cmp, is_eq}
use Rattle.std.specs.declared.cmp.Ordering.{Ordering}
use Rattle.std.specs.declared.cmp.Ordering.TheVariants.{Less, Equal, Greater}
use Rattle.std.proofs.lemmas.Bool.{false≢true}
use Rattle.std.proofs.lemmas.Map.Lookups.{CmpEqualImpliesEq, exact_pairs, exact_unsigned}
use Rattle.std.proofs.lemmas.Map.Views.{btree_set_contains_iff}
use Rattle.fib_addr.specs.Prefixes.{Prefix, IsPrefix}
use Rattle.fib_addr.proofs.PrefixLaws.{same_fields}
use Rattle.fib_cover.specs.Covers.{prefix_cmp, ArePrefixes}
use Rattle.fib_base_list.proofs.Lists.{either}

pub prefix_total : IsTotalOrder prefix_cmp
prefix_total = then_total (on_total (λ (p : Prefix). p.bits) nat_cmp_total) (on_total (λ (p : Prefix). p.len) nat_cmp_total)

pub prefix_exact : CmpEqualImpliesEq prefix_cmp
prefix_exact p q h =
    let e = exact_pairs nat_cmp nat_cmp exact_unsigned exact_unsigned (p.bits, p.len) (q.bits, q.len) h in
    same_fields p q (ap (λ (x : ℕ × ℕ). x.0) e, ap (λ (x : ℕ × ℕ). x.1) e)

pub contains_iff : (s : BTreeSet Prefix) (p : Prefix) → IsTrue (contains prefix_cmp s p) ↔ Contains s.keys p
contains_iff s p = btree_set_contains_iff prefix_total prefix_exact s p

-- the test of the order
is_same : (p q : Prefix) → is_eq (prefix_cmp p q) ≡ true → p ≡ q
is_same p q h = prefix_exact p q (tied (prefix_cmp p q) h)
  where
    tied : (o : Ordering) → is_eq o ≡ true → o ≡ Equal
    tied Less h = absurd (false≢true h)
    tied Equal h = refl
    tied Greater h = absurd (false≢true h)

same_is : (p q : Prefix) → p ≡ q → is_eq (prefix_cmp p q) ≡ true
same_is p q e = subst (λ (x : Prefix). is_eq (prefix_cmp p x) ≡ true) e (ap is_eq (tied_itself prefix_total p))

module _ (s n : BTreeSet Prefix) (p : Prefix) where
  -- one member more
  pub inserted_iff : ((q : Prefix) → contains prefix_cmp n q ≡ cond (is_eq (prefix_cmp p q)) true (contains prefix_cmp s q)) → (q : Prefix) → Contains n.keys q ↔ Contains s.keys q ⊎ (q ≡ p)
  inserted_iff u q = (there, back)
    where
      there : Contains n.keys q → Contains s.keys q ⊎ (q ≡ p)
      there c = elim (either (is_eq (prefix_cmp p q))) [
        | inl is ↦ inr (sym (is_same p q is))
        | inr isnt ↦ inl ((contains_iff s q).0 (sym (u q ∙ rw isnt refl) ∙ (contains_iff n q).1 c))
      ]

      back : Contains s.keys q ⊎ (q ≡ p) → Contains n.keys q
      back (inl c) = elim (either (is_eq (prefix_cmp p q))) [
        | inl is ↦ (contains_iff n q).0 (u q ∙ rw is refl)
        | inr isnt ↦ (contains_iff n q).0 (u q ∙ rw isnt ((contains_iff s q).1 c))
      ]
      back (inr e) = (contains_iff n q).0 (u q ∙ rw (same_is p q (sym e)) refl)

  -- one member less
  pub removed_iff : ((q : Prefix) → contains prefix_cmp n q ≡ cond (is_eq (prefix_cmp p q)) false (contains prefix_cmp s q)) → (q : Prefix) → Contains n.keys q ↔ Contains s.keys q × (q ≢ p)
  removed_iff u q = (there, back)
    where
      there : Contains n.keys q → Contains s.keys q × (q ≢ p)
      there c = elim (either (is_eq (prefix_cmp p q))) [
        | inl is ↦ absurd (false≢true (sym (u q ∙ rw is refl) ∙ (contains_iff n q).1 c))
        | inr isnt ↦ ((contains_iff s q).0 (sym (u q ∙ rw isnt refl) ∙ (contains_iff n q).1 c), λ e. absurd (false≢true (sym isnt ∙ same_is p q (sym e))))
      ]

      back : Contains s.keys q × (q ≢ p) → Contains n.keys q
      back h = elim (either (is_eq (prefix_cmp p q))) [
        | inl is ↦ absurd (h.1 (sym (is_same p q is)))
        | inr isnt ↦ (contains_iff n q).0 (u q ∙ rw isnt ((contains_iff s q).1 h.0))
      ]

  pub prefixes_inserted : ((q : Prefix) → contains prefix_cmp n q ≡ cond (is_eq (prefix_cmp p q)) true (contains prefix_cmp s q)) → IsPrefix p → ArePrefixes s.keys → ArePrefixes n.keys
  prefixes_inserted u is all q c = elim ((inserted_iff u q).0 c) [
    | inl old ↦ all q old
    | inr same ↦ subst IsPrefix (sym same) is
  ]

  pub prefixes_removed : ((q : Prefix) → contains prefix_cmp n q ≡ cond (is_eq (prefix_cmp p q)) false (contains prefix_cmp s q)) → ArePrefixes s.keys → ArePrefixes n.keys
  prefixes_removed u all q c = all q ((removed_iff u q).0 c).0

-- a test that says the contrary
pub not_iff : (b : Bool) (P : Type 0) → IsTrue b ↔ P → IsTrue (not b) ↔ (P → ⊥)
not_iff true P f = (λ t p. absurd (false≢true t), λ no. absurd (no (f.0 refl)))
not_iff false P f = (λ t p. absurd (false≢true (f.1 p)), λ no. refl)
