-- Which plies on the way to entries that come or go are there, by what lies below them.
use Rattle.std.proofs.Common.{arith, ◌≡◌, ℕ, zero, suc, ◌+◌, ◌*◌, ◌/◌, ◌<◌, ◌≤◌, Bool, true, false, ◌&&◌, ◌||◌, List, ◌∷◌, map, flat_map}
use Rattle.std.proofs.Common.{Option, None, Some, inl, inr, refl, sym, ◌∙◌, ap, subst}
use Rattle.std.specs.Prelude.{Contains}
use Rattle.std.specs.List.{list_any, range_with_len}
use Rattle.std.specs.Set.{is_member}
use Rattle.std.proofs.lemmas.Bool.{cases_eq}
use Rattle.std.proofs.lemmas.Map.Made.{is_member-Decides}
use Rattle.fib_base_list.proofs.Booleans.{and_both, or_cases, or_left, or_right}
use Rattle.fib_base_list.proofs.Lists.{Contains-flat_map, Contains-nil, is_member-unique_keys}
use Rattle.fib_addr.specs.Longest.{everything}
use Rattle.fib_addr.specs.Prefixes.{Prefix, masked, same_prefix}
use Rattle.fib_addr.proofs.PrefixLaws.{same_prefix-Decides, same_prefix_equiv}
use Rattle.fib_resolve.specs.Pairs.{entries}
use Rattle.fib_resolve.specs.Sizes.{plies, plies_of}
use Rattle.fib_resolve.specs.declared.types.Tables.{Tables}
use Rattle.fib_resolve_changes.specs.Ranks.{has_entry}
use Rattle.fib_resolve_changes.proofs.CauseLaws.{any_from}
use Rattle.fib_resolve_changes.proofs.Edits.{any_in, in_cases, in_front, in_rest}
use Rattle.fib_resolve_changes.proofs.SamePairs.{flat_map_from, map_from, map_in}
use Rattle.fib_entries_rows.specs.Known.{prefix_of}
use Rattle.fib_follow_view.specs.Views.{IsAfter, Seen, anew_prefix, made_of}
use Rattle.fib_follow_view.specs.declared.view.Anew.{Anew}
use Rattle.fib_follow_view.specs.inner.Told.{entry_in}
use Rattle.fib_follow_view.proofs.After.{entry_after, made_there, same_beside, same_there}
use Rattle.fib_follow_sized.specs.inner.Below.{any_below, is_below, is_ply, was_ply}
use Rattle.fib_follow_sized.proofs.Walking.{below_from, below_parts}

pub same_if : (b c : Bool) → (b ≡ true → c ≡ true) → (c ≡ true → b ≡ true) → b ≡ c
same_if true c f g = sym (f refl)
same_if false true f g = g refl
same_if false false f g = refl

pub member_of : (xs : List Prefix) (e : Prefix) → Contains xs e → is_member same_prefix xs e ≡ true
member_of xs e c = (is_member-Decides same_prefix-Decides xs e).1 c

pub among : (xs : List Prefix) (e : Prefix) → is_member same_prefix xs e ≡ true → Contains xs e
among xs e is = (is_member-Decides same_prefix-Decides xs e).0 is

-- the numbers of a range
in_range : (a n j : ℕ) → Contains (range_with_len a n) j → (a ≤ j) × (j < a + n)
in_range a zero j c = absurd (Contains-nil j c)
in_range a (suc n) j c = elim (in_cases a j (range_with_len (a + 1) n) c) [
  | inl is ↦ (omega (arith, is), omega (arith, is))
  | inr later ↦ (let r = in_range (a + 1) n j later in (omega (arith, r.0), omega (arith, r.1)))
]

range_in : (a n j : ℕ) → a ≤ j → j < a + n → Contains (range_with_len a n) j
range_in a zero j le lt = absurd (omega (arith, le, lt))
range_in a (suc n) j le lt = elim (cases_eq a j) [
  | inl is ↦ in_front a j (range_with_len (a + 1) n) is
  | inr off ↦ in_rest a j (range_with_len (a + 1) n) (range_in (a + 1) n j (omega (arith, le, off)) (omega (arith, lt)))
]

-- a prefix has this ply on its way: it lies below
way_below : (e q : Prefix) → Contains (plies_of e) q → is_below q e ≡ true
way_below e q c =
    let m = map_from (λ k. masked e.bits (4 * k)) (range_with_len 0 ((e.len + 3) / 4)) q c in
    let lt = (in_range 0 ((e.len + 3) / 4) m.0 m.1).1 in
    let len : 4 * m.0 ≡ q.len = ap (λ z. z.len) m.2 in
    below_from q e (omega (arith, lt, len)) (sym m.2 ∙ ap (masked e.bits) len)

-- it is one on the way to some prefix
abbrev pub IsPly : Prefix → Type 0
IsPly q = (k : ℕ) × (4 * k ≡ q.len)

pub way_ply : (e q : Prefix) → Contains (plies_of e) q → IsPly q
way_ply e q c = let m = map_from (λ k. masked e.bits (4 * k)) (range_with_len 0 ((e.len + 3) / 4)) q c in (m.0, ap (λ z. z.len) m.2)

below_way : (e q : Prefix) → IsPly q → is_below q e ≡ true → Contains (plies_of e) q
below_way e q ply h =
    let b = below_parts q e h in
    let lt = b.0 in
    let len = ply.1 in
    subst (Contains (plies_of e)) (ap (masked e.bits) len ∙ sym b.1)
    (map_in (λ k. masked e.bits (4 * k)) (range_with_len 0 ((e.len + 3) / 4)) ply.0 (range_in 0 ((e.len + 3) / 4) ply.0 (omega arith) (omega (arith, lt, len))))

-- a ply of the tables is that of all addresses, or an entry lies below it
pub ply_there : (U : Tables) (q : Prefix) → IsPly q
    → is_member same_prefix (plies U) q ≡ (same_prefix q everything || list_any (is_below q) (entries U))
unfolding plies
ply_there U q ply =
    is_member-unique_keys same_prefix_equiv q (everything ∷ flat_map plies_of (entries U))
    ∙ ap (λ b. same_prefix q everything || b) (same_if (is_member same_prefix (flat_map plies_of (entries U)) q) (list_any (is_below q) (entries U))
    (λ is. (let r = flat_map_from plies_of (entries U) q (among (flat_map plies_of (entries U)) q is)
    in any_in (is_below q) (entries U) r.0 r.1 (way_below r.0 q r.2)))
    (λ is. (let r = any_from (is_below q) (entries U) is
    in member_of (flat_map plies_of (entries U)) q (Contains-flat_map plies_of (entries U) r.0 q r.1 (below_way r.0 q ply r.2)))))

both_true : (b c : Bool) → b ≡ true → c ≡ true → (b && c) ≡ true
both_true b c x y = rw (x, y) refl

-- what lies below and passes a test
below_any : (f : Prefix → Bool) (order : List Prefix) (q e : Prefix) → Contains order e → is_below q e ≡ true → f e ≡ true → any_below f order q ≡ true
below_any f order q e c is passes = any_in (λ z. is_below q z && f z) order e c (both_true (is_below q e) (f e) is passes)

any_below_from : (f : Prefix → Bool) (order : List Prefix) (q : Prefix) → any_below f order q ≡ true
    → (e : Prefix) × Contains order e × (is_below q e ≡ true) × (f e ≡ true)
any_below_from f order q h =
    let r = any_from (λ z. is_below q z && f z) order h in
    let both = and_both (is_below q r.0) (f r.0) r.2 in
    (r.0, r.1, both.0, both.1)

module _ (v : Seen) (S T : Tables) (h : IsAfter v S T) where
  -- a ply of the entries before
  pub was_ply_there : (q : Prefix) → IsPly q → was_ply v.before.rows q ≡ is_member same_prefix (plies S) q
  was_ply_there q ply = sym (ply_there S q ply ∙ ap (λ b. same_prefix q everything || b) (same_if
      (list_any (is_below q) (entries S)) (any_below (λ e. true) (map prefix_of v.before.rows) q)
      (λ is. (let r = any_from (is_below q) (entries S) is
      in below_any (λ e. true) (map prefix_of v.before.rows) q r.0 ((h.stands.entries r.0).1 r.1) r.2 refl))
      (λ is. (let r = any_below_from (λ e. true) (map prefix_of v.before.rows) q is
      in any_in (is_below q) (entries S) r.0 ((h.stands.entries r.0).0 r.1) r.2))))

  -- an entry after the change was one or was made anew
  found_after : (q e : Prefix) → Contains (entries T) e → is_below q e ≡ true
      → (any_below (entry_in v) (map prefix_of v.before.rows) q || any_below (entry_in v) (map anew_prefix v.changed) q) ≡ true
  found_after q e there is = by (made_of v.changed e) refl
    where
      now_in : entry_in v e ≡ true
      now_in = entry_after v S T h e ∙ member_of (entries T) e there

      by : (o : Option Anew) → made_of v.changed e ≡ o
          → (any_below (entry_in v) (map prefix_of v.before.rows) q || any_below (entry_in v) (map anew_prefix v.changed) q) ≡ true
      by None at =
          let was : has_entry S e ≡ true = same_there S T e (same_beside v S T h e at).pairs ∙ member_of (entries T) e there in
          or_left (any_below (entry_in v) (map prefix_of v.before.rows) q) (any_below (entry_in v) (map anew_prefix v.changed) q)
          (below_any (entry_in v) (map prefix_of v.before.rows) q e ((h.stands.entries e).1 (among (entries S) e was)) is now_in)
      by (Some x) at =
          let t = made_there v.changed e x at in
          or_right (any_below (entry_in v) (map prefix_of v.before.rows) q) (any_below (entry_in v) (map anew_prefix v.changed) q)
          (below_any (entry_in v) (map anew_prefix v.changed) q e
          (subst (Contains (map anew_prefix v.changed)) t.1 (map_in anew_prefix v.changed x t.0)) is now_in)

  there_after : (order : List Prefix) (q : Prefix) → any_below (entry_in v) order q ≡ true → list_any (is_below q) (entries T) ≡ true
  there_after order q is =
      let r = any_below_from (entry_in v) order q is in
      any_in (is_below q) (entries T) r.0 (among (entries T) r.0 (sym (entry_after v S T h r.0) ∙ r.3)) r.2

  -- a ply of those after
  pub is_ply_there : (q : Prefix) → IsPly q → is_ply v v.before.rows q ≡ is_member same_prefix (plies T) q
  is_ply_there q ply = sym (ply_there T q ply ∙ ap (λ b. same_prefix q everything || b) (same_if (list_any (is_below q) (entries T)) _
      (λ is. (let r = any_from (is_below q) (entries T) is in found_after q r.0 r.1 r.2))
      (λ is. elim (or_cases (any_below (entry_in v) (map prefix_of v.before.rows) q) (any_below (entry_in v) (map anew_prefix v.changed) q) is) [
        | inl kept ↦ there_after (map prefix_of v.before.rows) q kept
        | inr made ↦ there_after (map anew_prefix v.changed) q made
      ])))
