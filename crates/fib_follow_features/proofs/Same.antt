-- The test of features tells them apart, and is that of the Rust type.
use Rattle.std.proofs.Common.{◌≡◌, ◌==◌, ℕ, Bool, true, false, cond, List, Option, refl, sym, ◌∙◌, ap, ap₂, subst}
use Rattle.std.specs.Prelude.{Contains}
use Rattle.std.specs.List.{list_any}
use Rattle.std.specs.Map.{lookup}
use Rattle.std.proofs.lemmas.Bool.{false≢true}
use Rattle.std.proofs.lemmas.Bool.Decides.{Decides-eqb}
use Rattle.fib_base_list.proofs.Booleans.{and_both}
use Rattle.fib_addr.proofs.PrefixLaws.{same_prefix-Decides}
use Rattle.fib_resolve.specs.Sizes.{same_adjacency}
use Rattle.fib_resolve.specs.declared.pairs.Adjacency.{Adjacency}
use Rattle.fib_resolve_changes.proofs.CauseLaws.{any_from}
use Rattle.fib_resolve_changes.proofs.Edits.{any_in}
use Rattle.fib_follow_features.specs.Holders.{same_feature}
use Rattle.fib_follow_features.specs.contracts.feature.FeaturePartialEq.TheImpl.{ghosts}
use Rattle.fib_follow_features.specs.declared.feature.Feature.{Feature}
use Rattle.fib_follow_features.specs.declared.feature.Feature.TheVariants as features

same_number : (i j : ℕ) → (i == j) ≡ true → i ≡ j
same_number i j h = (Decides-eqb i j).0 h

pub number_self : (i : ℕ) → (i == i) ≡ true
number_self i = (Decides-eqb i i).1 refl

same_end : (x y : Adjacency) → same_adjacency x y ≡ true → x ≡ y
same_end x y h =
    let both = and_both (x.interface == y.interface) (x.next_hop == y.next_hop) h in
    let i = same_number x.interface y.interface both.0 in
    let a = same_number x.next_hop y.next_hop both.1 in
    λ k. record { interface = i k; next_hop = a k }

end_self : (x : Adjacency) → same_adjacency x x ≡ true
end_self x = rw (number_self x.interface, number_self x.next_hop) refl

pub same_is : (f g : Feature) → same_feature f g ≡ true → f ≡ g
same_is (features.Over i) (features.Over j) h = ap features.Over (same_number i j h)
same_is (features.End x) (features.End y) h = ap features.End (same_end x y h)
same_is (features.Needs a) (features.Needs b) h = ap features.Needs (same_number a b h)
same_is (features.Via a) (features.Via b) h = ap features.Via (same_number a b h)
same_is (features.Under p) (features.Under q) h = ap features.Under ((same_prefix-Decides p q).0 h)
same_is f g h = absurd (false≢true h)

pub same_self : (f : Feature) → same_feature f f ≡ true
same_self (features.Over i) = number_self i
same_self (features.End x) = end_self x
same_self (features.Needs a) = number_self a
same_self (features.Via a) = number_self a
same_self (features.Under p) = (same_prefix-Decides p p).1 refl

-- the test of the Rust type
abbrev pub rust_same : Feature → Feature → Bool
rust_same = ghosts.eq

rust_is : (f g : Feature) → rust_same f g ≡ same_feature f g
rust_is (features.Over i) (features.Over j) = refl
rust_is (features.End x) (features.End y) = refl
rust_is (features.Needs a) (features.Needs b) = refl
rust_is (features.Via a) (features.Via b) = refl
rust_is (features.Under p) (features.Under q) = refl
rust_is f g = refl

-- a look-up by the one is a look-up by the other
pub lookup_is : {X : Type 0} (f : Feature) (rows : List (Feature × X)) → lookup (rust_same f) rows ≡ lookup (same_feature f) rows
lookup_is f rows = λ k. lookup (λ g. rust_is f g k) rows

pub updated_is : {X : Type 0} (old new : List (Feature × X)) (f : Feature) (o : Option X)
    → ((g : Feature) → lookup (rust_same g) new ≡ cond (rust_same f g) o (lookup (rust_same g) old))
    → (g : Feature) → lookup (same_feature g) new ≡ cond (same_feature f g) o (lookup (same_feature g) old)
updated_is old new f o set g = sym (lookup_is g new) ∙ (set g ∙ ap₂ (λ b l. cond b o l) (rust_is f g) (lookup_is g old))

-- a search in a list
pub listed : (fs : List Feature) (f : Feature) → list_any (λ g. rust_same g f) fs ≡ true → Contains fs f
listed fs f h = let r = any_from (λ g. rust_same g f) fs h in subst (Contains fs) (same_is r.0 f (sym (rust_is r.0 f) ∙ r.2)) r.1

pub unlisted : (fs : List Feature) (f : Feature) → list_any (λ g. rust_same g f) fs ≡ false → Contains fs f → ⊥
unlisted fs f h c = false≢true (sym h ∙ any_in (λ g. rust_same g f) fs f c (rust_is f f ∙ same_self f))
