-- What an edit touches.
use Rattle.std.proofs.Common.{◌≡◌, ℕ, zero, suc, true, false, not, ◌&&◌, ◌==◌, List, [], ◌∷◌, ◌++◌, Option, Some, None, inl, inr, refl, sym, ◌∙◌, ap, subst, slice_get}
use Rattle.std.specs.Prelude.{Contains}
use Rattle.std.proofs.lemmas.Bool.{false≢true}
use Rattle.std.proofs.lemmas.Bool.Decides.{Decides-eqb}
use Rattle.fib_base_list.proofs.Booleans.{or_cases, and_both}
use Rattle.fib_addr.specs.Prefixes.{Prefix}
use Rattle.fib_resolve.specs.Pairs.{chosen, base_pairs, attached_by, cover, short_prefixes}
use Rattle.fib_resolve.specs.Forwarding.{is_up, up_of}
use Rattle.fib_resolve.specs.Resolution.{mac_of}
use Rattle.fib_resolve.specs.Tables.{IsSound}
use Rattle.fib_resolve.specs.Edits.{edited, with_interfaces, with_neighbors, set_neighbor}
use Rattle.fib_resolve.specs.Refusals.{has_neighbor}
use Rattle.fib_resolve.specs.declared.types.Neighbor.{Neighbor}
use Rattle.fib_resolve.specs.Touched.{is_touched, other_flag, other_mac, differ, same_mac}
use Rattle.fib_resolve.specs.declared.types.Interface.{Interface}
use Rattle.fib_resolve.specs.declared.types.Path.{Path}
use Rattle.fib_resolve.specs.declared.types.PathKind.{PathKind}
use Rattle.fib_resolve.specs.declared.types.PathKind.TheVariants as kinds
use Rattle.fib_resolve.specs.declared.types.Tables.{Tables}
use Rattle.fib_resolve.specs.declared.types.Edit.{Edit}
use Rattle.fib_resolve.specs.declared.types.Edit.TheVariants as edits
use Rattle.fib_resolve_changes.specs.Sources.{ArePrefixes}
use Rattle.fib_resolve_changes.specs.Causes.{IsCaught, means_else, Cause, own, ends, needing, loops}
use Rattle.fib_resolve_changes.specs.Affected.{affected_by}
use Rattle.fib_resolve_changes.proofs.CauseLaws.{touched_comes, differ_self}
use Rattle.fib_resolve_changes.proofs.SamePairs.{same_pairs_from}
use Rattle.fib_resolve_changes.proofs.Edits.{set_near}
use Rattle.fib_resolve_changes.proofs.EveryEdit.{edit_caught}

-- each prefix that an edit touches has a cause in the prefixes that it affects
pub edit_touches : (S : Tables) (e : Edit) (q : Prefix) → IsSound S → IsSound (edited S e) → ArePrefixes (edited S e) → is_touched S (edited S e) q ≡ true → Cause S (edited S e) (affected_by S e) q
edit_touches S e q before after good h = touched_comes S (edited S e) (affected_by S e) before after (edit_caught S e before after good) q h

same_mac_self : (m : Option ℕ) → not (same_mac m m) ≡ true → ⊥
same_mac_self None h = false≢true h
same_mac_self (Some n) h = clash n h
  where
    clash : (n : ℕ) → not (n == n) ≡ true → ⊥
    clash n h = false≢true (sym (ap not ((Decides-eqb n n).1 refl)) ∙ h)

-- where no flag and no MAC is another, no end is
module _ (S T : Tables) (flags : (i : ℕ) → is_up S i ≡ is_up T i) (macs : (i a : ℕ) → mac_of S i a ≡ mac_of T i a) where
  no_flag : (i : ℕ) → other_flag S T i ≡ true → ⊥
  no_flag i h = differ_self (is_up T i) (subst (λ b. differ b (is_up T i) ≡ true) (flags i) h)

  no_mac : (i a : ℕ) → other_mac S T i a ≡ true → ⊥
  no_mac i a h = same_mac_self (mac_of T i a) (subst (λ m. not (same_mac m (mac_of T i a)) ≡ true) (macs i a) h)

  pub no_end : (e : Prefix) (kind : PathKind) → means_else S T e kind ≡ true → ⊥
  no_end e kinds.Drop h = false≢true h
  no_end e kinds.Local h = false≢true h
  no_end e (kinds.Attached i) h = elim (or_cases (other_flag S T i) ((e.len == 32) && other_mac S T i e.bits) h) [ inl flag ↦ no_flag i flag | inr mac ↦ no_mac i e.bits (and_both (e.len == 32) (other_mac S T i e.bits) mac).1 ]
  no_end e (kinds.Hop a i) h = elim (or_cases (other_flag S T i) (other_mac S T i a) h) [ inl flag ↦ no_flag i flag | inr mac ↦ no_mac i a mac ]
  no_end e (kinds.Recursive a) h = false≢true h
  no_end e kinds.Cover h = false≢true h

-- a new interface touches nothing
new_down : (is : List Interface) (name : List ℕ) (i : ℕ) → up_of (slice_get is i) ≡ up_of (slice_get (is ++ record { name = name; up = false } ∷ []) i)
new_down [] name zero = refl
new_down [] name (suc i) = refl
new_down (x ∷ xs) name zero = refl
new_down (x ∷ xs) name (suc i) = new_down xs name i

-- flags decide no entry
pub flags_alone : (S : Tables) (is : List Interface) → IsCaught S (with_interfaces S is) (λ q. false)
unfolding base_pairs attached_by cover short_prefixes
flags_alone S is e quiet = record {
  pairs = same_pairs_from S (with_interfaces S is) e (record { base = λ x p. (λ c. c, λ c. c); attached = λ a p. refl; neighbor = λ a i p. (λ c. c, λ c. c); hop = λ a p. (λ c. c, λ c. c) });
  cover = λ p c k. refl;
}

-- nor does another MAC
pub macs_alone : (S : Tables) (n : Neighbor) → has_neighbor S n ≡ true → IsCaught S (with_neighbors S (set_neighbor n S.neighbors)) (λ q. false)
unfolding base_pairs attached_by cover short_prefixes
macs_alone S n there e quiet = record {
  pairs = same_pairs_from S (with_neighbors S (set_neighbor n S.neighbors)) e (record {
    base = λ x p. (λ c. c, λ c. c);
    attached = λ a p. refl;
    neighbor = λ a i p. set_near S n a i (ap (λ b. not b && (n.addr == a)) there);
    hop = λ a p. (λ c. c, λ c. c);
  });
  cover = λ p c k. refl;
}

-- a path of its list means something else
abbrev pub HasEnd : Tables → Tables → Prefix → Type 0
HasEnd S T q = (p : Path) × Contains (chosen S q) p × (means_else S T q p.kind ≡ true)

only_ends : (S T : Tables) (q : Prefix) → Cause S T (λ z. false) q → HasEnd S T q
only_ends S T q (own is) = absurd (false≢true is)
only_ends S T q (ends p c means) = (p, c, means)
only_ends S T q (needing p a c k need is) = absurd (false≢true is)
only_ends S T q (loops p a c k (inl t)) = absurd (false≢true t.is_changed)
only_ends S T q (loops p a c k (inr t)) = absurd (false≢true t.is_changed)

-- a flag touches those alone of which a path is over its interface
pub flags_touch : (S : Tables) (is : List Interface) (q : Prefix) → IsSound S → IsSound (with_interfaces S is) → is_touched S (with_interfaces S is) q ≡ true → HasEnd S (with_interfaces S is) q
flags_touch S is q before after h = only_ends S (with_interfaces S is) q (touched_comes S (with_interfaces S is) (λ z. false) before after (flags_alone S is) q h)

-- a MAC touches those alone that have its Hop end
pub macs_touch : (S : Tables) (n : Neighbor) (q : Prefix) → has_neighbor S n ≡ true → IsSound S → IsSound (with_neighbors S (set_neighbor n S.neighbors)) → is_touched S (with_neighbors S (set_neighbor n S.neighbors)) q ≡ true
    → HasEnd S (with_neighbors S (set_neighbor n S.neighbors)) q
macs_touch S n q there before after h =
    only_ends S (with_neighbors S (set_neighbor n S.neighbors)) q (touched_comes S (with_neighbors S (set_neighbor n S.neighbors)) (λ z. false) before after (macs_alone S n there) q h)

-- a new interface touches nothing
pub interface_touches : (S : Tables) (name : List ℕ) (q : Prefix) → IsSound S → IsSound (edited S (edits.CreateInterface name)) → is_touched S (edited S (edits.CreateInterface name)) q ≡ true → ⊥
unfolding edited
interface_touches S name q before after h =
    let e = flags_touch S (S.interfaces ++ record { name = name; up = false } ∷ []) q before after h in
    no_end S (with_interfaces S (S.interfaces ++ record { name = name; up = false } ∷ [])) (new_down S.interfaces name) (λ i a. refl) q e.0.kind e.2
