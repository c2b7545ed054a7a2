-- A neighbor that its cover attaches is an address: past the addresses only the prefix of every address covers.
use Rattle.std.proofs.Common.{arith, ◌≡◌, ℕ, ◌+◌, ◌-◌, ◌*◌, ◌/◌, ◌<◌, ◌≤◌, ◌^◌, ◌==◌, ◌↔◌, Bool, true, false, List, [], ◌∷◌, take, Option, Some, None}
use Rattle.std.proofs.Common.{inl, inr, refl, sym, ◌∙◌, ap, subst}
use Rattle.std.specs.Prelude.{Contains, IsTrue, nat_lt}
use Rattle.std.specs.List.{AllByRecursion, list_all}
use Rattle.std.proofs.Math.Nat.{div-lt_iff_lt-mul, le-div_iff_mul-le}
use Rattle.std.proofs.Math.Pow.{pow_pos, pow-add}
use Rattle.std.proofs.lemmas.Bool.{ltb-true, ltb-false}
use Rattle.std.proofs.lemmas.Bool.Decides.{Decides-eqb, nat_tests}
use Rattle.std.specs.Cmp.Derive.{both_true}
use Rattle.fib_base_list.proofs.Booleans.{and_both}
use Rattle.fib_base_list.proofs.Lists.{either}
use Rattle.fib_base_interned.proofs.Finding.{none_some}
use Rattle.fib_addr.specs.Longest.{everything, longer, longest}
use Rattle.fib_addr.specs.Prefixes.{IsPrefix, Prefix, contains, size_of}
use Rattle.fib_resolve.specs.Pairs.{attached_by, cover, short_prefixes}
use Rattle.fib_resolve.specs.declared.types.Neighbor.{Neighbor}
use Rattle.fib_resolve.specs.declared.types.Tables.{Tables}
use Rattle.fib_resolve_changes.specs.Looked.{attached_at}
use Rattle.fib_resolve_changes.specs.Sources.{ArePrefixes}
use Rattle.fib_resolve_changes.specs.declared.change.Change.{Change}
use Rattle.fib_resolve_changes.specs.declared.change.Change.TheVariants as changes
use Rattle.fib_resolve_changes.proofs.Edits.{in_front, in_rest}
use Rattle.fib_follow_pairs.proofs.Hosted.{attached_through}
use Rattle.fib_follow_looked.specs.Looks.{AreNear, IsShortChange}
use Rattle.fib_follow_looked.specs.inner.Naming.{is_short_change}

none_far : (p : Prefix) (a : ℕ) → IsPrefix p → 2 ^ 32 ≤ a → contains p a ≡ false
none_far p a h far = elim (either (contains p a)) [
  | inl is ↦ (
      let short = h.short in
      let whole : 2 ^ p.len * size_of p.len ≡ 2 ^ 32 = let sum : p.len + (32 - p.len) ≡ 32 = omega (arith, short) in rw (← pow-add, sum) refl in
      let fits = h.fits in
      let low : p.bits / size_of p.len < 2 ^ p.len = (div-lt_iff_lt-mul (pow_pos (32 - p.len))).1 (omega (arith, whole, fits)) in
      let high : 2 ^ p.len ≤ a / size_of p.len = (le-div_iff_mul-le (pow_pos (32 - p.len))).1 (omega (arith, whole, far)) in
      let same : a / size_of p.len ≡ p.bits / size_of p.len = (Decides-eqb (a / size_of p.len) (p.bits / size_of p.len)).0 is in
      absurd (omega (arith, low, high, same))
      )
  | inr isnt ↦ isnt
]

longest_far : (a : ℕ) (ps : List Prefix) → 2 ^ 32 ≤ a → ((q : Prefix) → Contains ps q → IsPrefix q) → longest a ps ≡ everything
unfolding longest longer
longest_far a [] far good = refl
longest_far a (p ∷ ps) far good =
    rw (none_far p a (good p (in_front p p ps refl)) far) (longest_far a ps far (λ q c. good q (in_rest p q ps c)))

cover_far : (T : Tables) (a : ℕ) → ArePrefixes T → 2 ^ 32 ≤ a → cover T a ≡ everything
unfolding cover
cover_far T a good far = longest_far a (short_prefixes T) far good

-- where the prefix of every address attaches to no interface
pub near_none : (T : Tables) (o : Option ℕ) → o ≡ attached_at T everything → o ≡ None → AreNear T
near_none T o is none = λ good i a near at. elim (either (nat_lt a (2 ^ 32))) [
  | inl lt ↦ ltb-true a (2 ^ 32) lt
  | inr far ↦ absurd (none_some i (sym none ∙ (is ∙ (ap (attached_at T) (sym (cover_far T a good (ltb-false a (2 ^ 32) far)))
      ∙ (attached_through T a ∙ at)))))
]

-- where all were read
pub near_seen : (T : Tables) → ((n : Neighbor) → Contains T.neighbors n → n.addr < 2 ^ 32) → AreNear T
near_seen T seen = λ good i a near at. subst (λ z. z < 2 ^ 32) near.3 (seen near.0 near.1)

short_one : (c : Change) → is_short_change c ≡ true ↔ IsShortChange c
short_one (changes.Address a) = (λ t. grind (arith, nat_tests, t), λ h. grind (arith, nat_tests, h))
short_one (changes.Flag i) = (λ t. tt, λ h. refl)
short_one (changes.Neighbor i a) = (λ t. tt, λ h. refl)
short_one (changes.Route p s) = (λ t. tt, λ h. refl)

pub are_short : (cs : List Change) → IsTrue (list_all is_short_change cs) ↔ AllByRecursion IsShortChange cs
are_short [] = (λ t. tt, λ h. refl)
are_short (c ∷ cs) = (
  λ t. (let both = and_both (is_short_change c) (list_all is_short_change cs) t in ((short_one c).0 both.0, (are_short cs).0 both.1)),
  λ h. both_true ((short_one c).1 h.0) ((are_short cs).1 h.1),
)
