-- An address that isn't looked at has the same pairs; and the same cover, where a pair of it depends on that.
use Rattle.std.proofs.Common.{arith, ◌≡◌, ℕ, ◌+◌, ◌-◌, ◌*◌, ◌/◌, ◌<◌, ◌≤◌, ◌^◌, ◌==◌, true, List, [], ◌∷◌, Option, Some, None, ◌⊎◌, inl, inr, refl, sym, ◌∙◌, ap, subst, ◌↔◌}
use Rattle.std.specs.Prelude.{Contains, nat_lt}
use Rattle.std.specs.Set.{is_member}
use Rattle.std.proofs.lemmas.Bool.{false≢true, ltb-true, ltb-false}
use Rattle.std.proofs.lemmas.Bool.Decides.{Decides-eqb}
use Rattle.std.proofs.lemmas.Map.Views.{Contains-from_any}
use Rattle.std.proofs.lemmas.Nat.{pow-add}
use Rattle.std.proofs.Math.Nat.{div-div-eq-div-mul}
use Rattle.fib_base_list.proofs.Lists.{either}
use Rattle.fib_addr.specs.Prefixes.{Prefix, IsPrefix, contains, host, same_prefix, size_of}
use Rattle.fib_addr.specs.Longest.{IsLongest}
use Rattle.fib_addr.proofs.LongestLaws.{longest_is_longest, longest_is_unique}
use Rattle.fib_addr.proofs.PrefixLaws.{same_prefix-Decides}
use Rattle.fib_resolve.specs.Pairs.{base_pairs, cover, short_prefixes, attached_by, is_interface}
use Rattle.fib_resolve.specs.declared.pairs.Pair.{Pair}
use Rattle.fib_resolve.specs.declared.types.Tables.{Tables}
use Rattle.fib_resolve_changes.specs.Sources.{ArePrefixes, HasNeighbor, all_hops, SamePairs}
use Rattle.fib_resolve_changes.specs.Looked.{attached_at, IsHosted, IsAbove, IsPassed}
use Rattle.fib_resolve_changes.proofs.Covers.{whole_there}
use Rattle.fib_resolve_changes.proofs.Edits.{in_cases, any_in, clash}
use Rattle.fib_resolve_changes.proofs.SamePairs.{Origin, origin, from_origin, base, neighbor, derived, near_from, near_host, derived_host, same_pairs_from}

-- a prefix that is no longer has all addresses of another or none
pub block_same : (q p : Prefix) (a : ℕ) → q.len ≤ p.len → p.len ≤ 32 → contains p a ≡ true → contains q a ≡ contains q p.bits
block_same q p a le small inside =
    let parts : a / size_of p.len ≡ p.bits / size_of p.len = (Decides-eqb (a / size_of p.len) (p.bits / size_of p.len)).0 inside in
    let apart : 32 - q.len ≡ (32 - p.len) + (p.len - q.len) = omega (arith, le, small) in
    let sizes : size_of q.len ≡ size_of p.len * 2 ^ (p.len - q.len) = ap (λ m. 2 ^ m) apart ∙ pow-add 2 (32 - p.len) (p.len - q.len) in
    let same : a / size_of q.len ≡ p.bits / size_of q.len =
    ap (λ m. a / m) sizes ∙ (sym (div-div-eq-div-mul a (size_of p.len) (2 ^ (p.len - q.len))) ∙ (ap (λ m. m / 2 ^ (p.len - q.len)) parts
    ∙ (div-div-eq-div-mul p.bits (size_of p.len) (2 ^ (p.len - q.len)) ∙ ap (λ m. p.bits / m) (sym sizes)))) in
    ap (λ x. x == (q.bits / size_of q.len)) same

decide : (qs : List Prefix) (q : Prefix) → Contains qs q ⊎ (Contains qs q → ⊥)
decide qs q = elim (either (is_member same_prefix qs q)) [
  | inl is ↦ inl (Contains-from_any (λ x y. (same_prefix-Decides x y).0) q qs is)
  | inr isnt ↦ inr (λ c. clash (is_member same_prefix qs q) (any_in (same_prefix q) qs q c ((same_prefix-Decides q q).1 refl)) isnt)
]

at_interface : (o : Option ℕ) (i : ℕ) → is_interface o i ≡ true → o ≡ Some i
at_interface None i h = absurd (false≢true h)
at_interface (Some j) i h = ap Some (sym ((Decides-eqb i j).0 h))

to_interface : (o : Option ℕ) (i : ℕ) → o ≡ Some i → is_interface o i ≡ true
to_interface o i e = ap (λ z. is_interface z i) e ∙ (Decides-eqb i i).1 refl

as_long : (p q r : Prefix) → p.len ≡ q.len → Contains (p ∷ q ∷ []) r → r.len ≡ q.len
as_long p q r e c = elim (in_cases p r (q ∷ []) c) [
  | inl first ↦ sym (ap (λ z. z.len) first) ∙ e
  | inr later ↦ elim (in_cases q r [] later) [
    | inl second ↦ sym (ap (λ z. z.len) second)
    | inr none ↦ absurd (omega (arith, none.1))
  ]
]

-- two prefixes of one length that contain an address are one
one_block : (a : ℕ) (p q : Prefix) → IsPrefix p → IsPrefix q → contains p a ≡ true → contains q a ≡ true → p.len ≡ q.len → p ≡ q
one_block a p q fp fq mp mq e = longest_is_unique a (p ∷ q ∷ []) p q fp fq
    (record { member = inl (0, omega arith, refl); matches = mp; longest = λ r c m. (let l = as_long p q r e c in omega (arith, l, e)) })
    (record { member = inl (1, omega arith, refl); matches = mq; longest = λ r c m. (let l = as_long p q r e c in omega (arith, l)) })

-- a pair of an address of which none depends on its cover
pub carry : (a : ℕ) (U V : Tables) (x : Pair) → host a ≡ x.prefix → (Contains (base_pairs U) x → Contains (base_pairs V) x) → (IsHosted U a → ⊥) → Origin U x → Origin V x
carry a U V x p moved off (base own) = base (moved own)
carry a U V x p moved off (neighbor n c near) =
    let r = near_from U n x near in
    let at : host a ≡ host n.addr = p ∙ (ap (λ z. z.prefix) (sym r.1) ∙ near_host n.addr n.interface) in
    let addr : n.addr ≡ a = sym (ap (λ z. z.bits) at) in
    absurd (off (inr (n.interface, (n, c, refl, addr), at_interface (attached_by U a) n.interface (subst (λ z. is_interface (attached_by U z) n.interface ≡ true) addr r.0))))
carry a U V x p moved off (derived b c is) =
    let at : host a ≡ host b = p ∙ (ap (λ z. z.prefix) (sym is) ∙ derived_host U b) in
    absurd (off (inl (subst (Contains (all_hops U)) (sym (ap (λ z. z.bits) at)) c)))

module _ (a : ℕ) (small : a < 2 ^ 32) where
  top : (U : Tables) → IsLongest a (short_prefixes U) (cover U a)
  unfolding cover
  top U = longest_is_longest a (short_prefixes U) small

  there_in : (U : Tables) → Contains (short_prefixes U) (cover U a)
  there_in U = elim (top U).member [ inl c ↦ c | inr e ↦ subst (Contains (short_prefixes U)) (sym e) (whole_there U) ]

  -- the cover is above each longer prefix with the address that can't be one
  above : (U : Tables) (q : Prefix) → IsPrefix q → contains q a ≡ true → (cover U a).len < q.len → IsAbove U q (cover U a)
  above U q fq inside lt = record {
    member = there_in U;
    shorter = lt;
    holds = sym (block_same (cover U a) q a (omega (arith, lt)) fq.short inside) ∙ (top U).matches;
    longest = λ r c less m. (top U).longest r c (block_same r q a (omega (arith, less)) fq.short inside ∙ m);
  }

  module _ (S T : Tables) (good_before : ArePrefixes S) (good : ArePrefixes T) (h : IsPassed S T a) where
    first : IsPrefix (cover S a)
    first = good_before (cover S a) (there_in S)

    last : IsPrefix (cover T a)
    last = good (cover T a) (there_in T)

    pub cover_stays : IsHosted S a → cover S a ≡ cover T a
    cover_stays hosted =
        let up = (top T).longest (cover S a) (h.stays hosted).0 (top S).matches in
        elim (decide (short_prefixes S) (cover T a)) [
          | inl there ↦ (let down = (top S).longest (cover T a) there (top T).matches in
              one_block a (cover S a) (cover T a) first last (top S).matches (top T).matches (omega (arith, up, down)))
          | inr new ↦ elim (either (nat_lt (cover S a).len (cover T a).len)) [
            | inl lt ↦ absurd (h.between (cover T a) (cover S a) hosted (there_in T) new (top T).matches (above S (cover T a) last (top T).matches (ltb-true (cover S a).len (cover T a).len lt)) refl)
            | inr ge ↦ (let least = ltb-false (cover S a).len (cover T a).len ge in
                one_block a (cover S a) (cover T a) first last (top S).matches (top T).matches (omega (arith, up, least)))
          ]
        ]

    pub attached_stays : IsHosted S a → attached_by S a ≡ attached_by T a
    unfolding attached_by
    attached_stays hosted = (h.stays hosted).1 ∙ ap (attached_at T) (cover_stays hosted)

    gone_above : (i : ℕ) → Contains (short_prefixes S) (cover T a) → (Contains (short_prefixes T) (cover S a) → ⊥) → attached_at T (cover T a) ≡ Some i → HasNeighbor T i a → ⊥
    gone_above i there gone at near =
        let down = (top S).longest (cover T a) there (top T).matches in
        elim (either (nat_lt (cover T a).len (cover S a).len)) [
          | inl lt ↦ h.went (cover S a) (cover T a) i (there_in S) gone (top S).matches (above T (cover S a) first (top S).matches (ltb-true (cover T a).len (cover S a).len lt)) at near
          | inr ge ↦ (let least = ltb-false (cover T a).len (cover S a).len ge in
              gone (subst (Contains (short_prefixes T)) (one_block a (cover T a) (cover S a) last first (top T).matches (top S).matches (omega (arith, down, least))) (there_in T)))
        ]

    still_same : (i : ℕ) → Contains (short_prefixes S) (cover T a) → Contains (short_prefixes T) (cover S a) → cover S a ≡ cover T a
    still_same i there still =
        let down = (top S).longest (cover T a) there (top T).matches in
        let up = (top T).longest (cover S a) still (top S).matches in
        one_block a (cover S a) (cover T a) first last (top S).matches (top T).matches (omega (arith, up, down))

    near_comes : (i : ℕ) → (IsHosted S a → ⊥) → HasNeighbor T i a → attached_by T a ≡ Some i → ⊥
    unfolding attached_by
    near_comes i off near at = elim (decide (short_prefixes S) (cover T a)) [
      | inr new ↦ h.came (cover T a) i (there_in T) (λ there. absurd (new there)) (top T).matches at near
      | inl there ↦ elim (either (is_interface (attached_at S (cover T a)) i)) [
        | inr differs ↦ h.came (cover T a) i (there_in T) (λ k e. clash (is_interface (attached_at S (cover T a)) i) (to_interface (attached_at S (cover T a)) i (e ∙ at)) differs) (top T).matches at near
        | inl same ↦ elim (decide (short_prefixes T) (cover S a)) [
          | inl still ↦ off (inr (i, (h.near i).1 near, ap (attached_at S) (still_same i there still) ∙ at_interface (attached_at S (cover T a)) i same))
          | inr gone ↦ gone_above i there gone at near
        ]
      ]
    ]

    pub none_comes : (IsHosted S a → ⊥) → IsHosted T a → ⊥
    none_comes off (inl hop) = off (inl (h.hops.1 hop))
    none_comes off (inr w) = near_comes w.0 off w.1 w.2

    pub same_host : IsHosted S a ⊎ (IsHosted S a → ⊥) → SamePairs S T (host a)
    same_host (inl hosted) = same_pairs_from S T (host a) (record {
      base = h.base;
      attached = λ b at. subst (λ z. attached_by S z ≡ attached_by T z) (ap (λ z. z.bits) at) (attached_stays hosted);
      neighbor = λ b i at. subst (λ z. HasNeighbor S i z ↔ HasNeighbor T i z) (ap (λ z. z.bits) at) (h.near i);
      hop = λ b at. subst (λ z. Contains (all_hops S) z ↔ Contains (all_hops T) z) (ap (λ z. z.bits) at) h.hops;
    })
    same_host (inr off) = λ x p. (
      λ c. from_origin T x (carry a S T x p (h.base x p).0 off (origin S x c)),
      λ c. from_origin S x (carry a T S x p (h.base x p).1 (none_comes off) (origin T x c)),
    )

pub unlooked_same : (S T : Tables) (a : ℕ) → a < 2 ^ 32 → ArePrefixes S → ArePrefixes T → IsPassed S T a → IsHosted S a ⊎ (IsHosted S a → ⊥) → SamePairs S T (host a) × (IsHosted S a → cover S a ≡ cover T a)
unlooked_same S T a small before after h known = (same_host a small S T before after h known, cover_stays a small S T before after h)
