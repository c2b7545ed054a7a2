-- Ranks of a part that fall there and raise no entry fall everywhere.
use Rattle.std.proofs.Common.{arith, ◌≡◌, ℕ, zero, suc, ◌+◌, ◌<◌, ◌≤◌, Bool, true, false, List, [], ◌∷◌, map, length, Option, Some, None, inl}
use Rattle.std.proofs.Common.{inr, refl, sym, ◌∙◌, ap, subst, slice_get}
use Rattle.std.specs.Prelude.{Contains, position, slice_index}
use Rattle.std.specs.List.{list_all}
use Rattle.std.proofs.lemmas.Bool.{false≢true, ltb-true}
use Rattle.std.proofs.lemmas.Option.{slice_get_within}
use Rattle.fib_base_list.proofs.Lists.{Contains-nil, either}
use Rattle.fib_base_list.proofs.Booleans.{and_both}
use Rattle.fib_addr.specs.Prefixes.{Prefix, same_prefix}
use Rattle.fib_addr.proofs.PrefixLaws.{same_prefix-Decides}
use Rattle.fib_resolve.specs.Loops.{Kept, targets}
use Rattle.fib_resolve.specs.Pairs.{entries}
use Rattle.fib_resolve.specs.declared.types.Tables.{Tables}
use Rattle.fib_resolve.proofs.KeptEdges.{kept_target}
use Rattle.fib_resolve_changes.proofs.Edits.{any_in, in_cases, in_front}
use Rattle.fib_resolve_changes.proofs.Reached.{lowered_fall}
use Rattle.fib_base_interned.proofs.Finding.{contains_at, none_some, some_is}
use Rattle.fib_entries_rows.specs.Known.{rank_in, rank_of, row_of}
use Rattle.fib_entries_rows.specs.Rows.{Row}
use Rattle.fib_entries_rows.proofs.Loopings.{once_in, place_found, place_missed}
use Rattle.fib_entries_rows.proofs.PartRows.{kept_wakes}
use Rattle.fib_entries_rows.proofs.PlyOrder.{index_of}
use Rattle.fib_entries_rows.proofs.Standing.{no_entry}
use Rattle.fib_follow_view.specs.Views.{Seen, IsAfter, is_changed}
use Rattle.fib_follow_part.specs.Parts.{AreRanks, IsPart, Part, in_part, rank_after, rank_at, rank_before, rank_or_top}
use Rattle.fib_follow_part.specs.inner.Ranked.{IsBlock, below_at, does_fall, falls_at, leaves_below}
use Rattle.fib_follow_part.proofs.Parting.{among, member_of}
use Rattle.fib_follow_part.proofs.Searching.{get_map, map_length}

index_at : (xs : List ℕ) (i x : ℕ) → slice_get xs i ≡ Some x → slice_index xs i ≡ x
index_at [] i x at = absurd (none_some x at)
index_at (y ∷ ys) zero x at = some_is y x at
index_at (y ∷ ys) (suc i) x at = index_at ys i x at

get_at : {X : Type 0} (xs : List X) (i : ℕ) → i < length xs → (x : X) × (slice_get xs i ≡ Some x)
get_at [] i lt = absurd (omega (arith, lt))
get_at (x ∷ xs) zero lt = (x, refl)
get_at (x ∷ xs) (suc i) lt = get_at xs i (omega (arith, lt))

-- ranks fall along the edges that leave the part
abbrev pub LeavesBelow : Seen → Part → List ℕ → Type 0
LeavesBelow v p ranks = (d : ℕ × Prefix) → Contains p.out d → rank_of v.before.rows d.1 < slice_index ranks d.0

module _ (v : Seen) (S T : Tables) (h : IsAfter v S T) (p : Part) (is : IsPart v S T p) (ranks : List ℕ) (each : length ranks ≡ length p.members) where
  -- a member's rank stands at its place
  at_place : (e : Prefix) (k : ℕ) → slice_get p.members k ≡ Some e → rank_after v p ranks e ≡ slice_index ranks k
  at_place e k at = by (position (same_prefix e) p.members) refl
    where
      by : (o : Option ℕ) → position (same_prefix e) p.members ≡ o → rank_at v ranks e o ≡ slice_index ranks k
      by None none = absurd (place_missed p.members e (sym none) (contains_at p.members k e at))
      by (Some j) some = ap (slice_index ranks) (once_in p.members is.once j k e (place_found p.members e j (sym some)) at)

  beside : (e : Prefix) → in_part p e ≡ false → rank_after v p ranks e ≡ rank_of v.before.rows e
  beside e off = by (position (same_prefix e) p.members) refl
    where
      by : (o : Option ℕ) → position (same_prefix e) p.members ≡ o → rank_at v ranks e o ≡ rank_of v.before.rows e
      by None none = refl
      by (Some j) some = absurd (false≢true (sym off ∙ member_of p.members e (contains_at p.members j e (place_found p.members e j (sym some)))))

  inside : ((d : ℕ × ℕ) → Contains p.left d → slice_index ranks d.1 < slice_index ranks d.0) → LeavesBelow v p ranks
      → (e t : Prefix) → in_part p e ≡ true → Kept T e t → rank_after v p ranks t < rank_after v p ranks e
  inside falls leave e t there kept = elim (either (in_part p t)) [
    | inl is_in ↦ (let j = index_of p.members t (among p.members t is_in) in
        let lt = falls (i.0, j.0) ((is.left (i.0, j.0)).1 (slice_get_within p.members i.0 e i.1, (e, t, i.1, j.1, kept_wakes T e t kept))) in
        let a = at_place e i.0 i.1 in
        let b = at_place t j.0 j.1 in
        omega (arith, lt, a, b))
    | inr off ↦ (let beyond : Contains p.members t → ⊥ = λ c. false≢true (sym off ∙ member_of p.members t c) in
        let lt = leave (i.0, t) ((is.out (i.0, t)).1 (e, i.1, kept_target T e t kept, beyond)) in
        let a = at_place e i.0 i.1 in
        let b = beside t off in
        omega (arith, lt, a, b))
  ]
    where
      i : (k : ℕ) × (slice_get p.members k ≡ Some e)
      i = index_of p.members e (among p.members e there)

  -- no entry of before is raised
  low_all : ((k : ℕ) (e : Prefix) → slice_get p.members k ≡ Some e → slice_index ranks k ≤ rank_before v e) → (e : Prefix)
      → Contains (entries S) e → rank_after v p ranks e ≤ rank_of v.before.rows e
  low_all low e there = by (position (same_prefix e) p.members) refl
    where
      row_there : (o : Option Row) → row_of v.before.rows e ≡ o → rank_or_top o ≡ rank_in o
      row_there None none = absurd (false≢true (sym (no_entry v.before S h.stands e none) ∙ any_in (same_prefix e) (entries S) e there ((same_prefix-Decides e e).1 refl)))
      row_there (Some r) at = refl

      by : (o : Option ℕ) → position (same_prefix e) p.members ≡ o → rank_at v ranks e o ≤ rank_of v.before.rows e
      by None none = omega arith
      by (Some k) some = (let le = low k e (place_found p.members e k (sym some)) in let same = row_there (row_of v.before.rows e) refl
          in omega (arith, le, same))

  -- no entry is raised to which one beside the part leads, where only members lead to members
  low_apart : p.is_apart ≡ true → (x e : Prefix) → in_part p x ≡ false → Contains (targets T x) e → rank_after v p ranks e ≤ rank_of v.before.rows e
  low_apart is_so x e off c = elim (either (in_part p e)) [
    | inl on ↦ absurd (false≢true (sym off ∙ is.apart is_so x e on c))
    | inr out ↦ (let same = beside e out in omega (arith, same))
  ]

  ranks_fall : ((x e : Prefix) → in_part p x ≡ false → Contains (targets T x) e → Contains (entries S) e → rank_after v p ranks e ≤ rank_of v.before.rows e)
      → ((d : ℕ × ℕ) → Contains p.left d → slice_index ranks d.1 < slice_index ranks d.0) → LeavesBelow v p ranks → AreRanks v S T p ranks
  ranks_fall low falls leave = record {
    each = each;
    falls = lowered_fall S T (is_changed v.changed) (in_part p) (rank_of v.before.rows)
        (rank_after v p ranks) h.stands.sound h.sound is.reached h.stands.falls beside low (inside falls leave);
  }

  are_ranks : ((k : ℕ) (e : Prefix) → slice_get p.members k ≡ Some e → slice_index ranks k ≤ rank_before v e)
      → ((d : ℕ × ℕ) → Contains p.left d → slice_index ranks d.1 < slice_index ranks d.0) → LeavesBelow v p ranks → AreRanks v S T p ranks
  are_ranks low falls leave = ranks_fall (λ x e off c there. low_all low e there) falls leave

all_hold : {X : Type 0} (test : X → Bool) (xs : List X) → list_all test xs ≡ true → (x : X) → Contains xs x → test x ≡ true
all_hold test [] all x c = absurd (Contains-nil x c)
all_hold test (y ∷ ys) all x c =
    let both = and_both (test y) (list_all test ys) all in
    elim (in_cases y x ys c) [ inl same ↦ subst (λ z. test z ≡ true) same both.0 | inr later ↦ all_hold test ys both.1 x later ]

-- of a test that doesn't hold of each there is something to test
pub some_fails : {X : Type 0} (test : X → Bool) (xs : List X) → list_all test xs ≡ false → (x : X) × Contains xs x
some_fails test [] none = absurd (false≢true (sym none))
some_fails test (x ∷ xs) none = (x, in_front x x xs refl)

pub leave_below : (v : Seen) (p : Part) (ranks : List ℕ) → list_all (leaves_below v ranks) p.out ≡ true → LeavesBelow v p ranks
leave_below v p ranks all d c = by (slice_get ranks d.0) refl (all_hold (leaves_below v ranks) p.out all d c)
  where
    by : (a : Option ℕ) → slice_get ranks d.0 ≡ a → below_at (rank_of v.before.rows d.1) a ≡ true → rank_of v.before.rows d.1 < slice_index ranks d.0
    by None x f = absurd (false≢true f)
    by (Some a) x f = (let m = index_at ranks d.0 a x in let lt = ltb-true (rank_of v.before.rows d.1) a f in omega (arith, m, lt))

fall_index : (ranks : List ℕ) (d : ℕ × ℕ) → does_fall ranks d ≡ true → slice_index ranks d.1 < slice_index ranks d.0
fall_index ranks d falls = by (slice_get ranks d.0) (slice_get ranks d.1) refl refl falls
  where
    by : (a b : Option ℕ) → slice_get ranks d.0 ≡ a → slice_get ranks d.1 ≡ b → falls_at a b ≡ true → slice_index ranks d.1 < slice_index ranks d.0
    by None b x y f = absurd (false≢true f)
    by (Some a) None x y f = absurd (false≢true f)
    by (Some a) (Some b) x y f = (let m = index_at ranks d.0 a x in let n = index_at ranks d.1 b y in let lt = ltb-true b a f in omega (arith, m, n, lt))

-- the ranks that the members had
pub stay_ranks : (v : Seen) (S T : Tables) (p : Part) (ranks : List ℕ) → IsAfter v S T → IsPart v S T p
    → ranks ≡ map (rank_before v) p.members → list_all (does_fall ranks) p.left ≡ true → list_all (leaves_below v ranks) p.out ≡ true
    → AreRanks v S T p ranks
stay_ranks v S T p ranks h is made falls leave =
    are_ranks v S T h p is ranks (ap length made ∙ map_length (rank_before v) p.members)
    (λ k e at. (let same = index_at ranks k (rank_before v e) (ap (λ l. slice_get l k) made ∙ get_map (rank_before v) p.members k e at) in omega (arith, same)))
    (λ d c. fall_index ranks d (all_hold (does_fall ranks) p.left falls d c))
    (leave_below v p ranks leave)

-- a member's rank, by its number
numbered : (v : Seen) (p : Part) (base : ℕ) (ranks : List ℕ) → ranks ≡ map (λ n. base + n) p.numbers → length p.numbers ≡ length p.members
    → (k : ℕ) → k < length p.members → slice_index ranks k ≡ base + slice_index p.numbers k
numbered v p base ranks made len k lt =
    let x = get_at p.numbers k (omega (arith, lt, len)) in
    let a = index_at p.numbers k x.0 x.1 in
    let b = index_at ranks k (base + x.0) (ap (λ l. slice_get l k) made ∙ get_map (λ n. base + n) p.numbers k x.0 x.1) in
    omega (arith, a, b)

-- a block below them
pub block_ranks : (v : Seen) (S T : Tables) (p : Part) (before ranks : List ℕ) → IsAfter v S T → IsPart v S T p
    → length p.numbers ≡ length p.members → before ≡ map (rank_before v) p.members → IsBlock before p.numbers ranks
    → list_all (leaves_below v ranks) p.out ≡ true → AreRanks v S T p ranks
block_ranks v S T p before ranks h is len was block leave =
    are_ranks v S T h p is ranks each
    (λ k e at. (let inside = slice_get_within p.members k e at in
    let x = get_at ranks k (omega (arith, inside, each)) in
    let same = index_at ranks k x.0 x.1 in
    let old = ap (λ l. slice_get l k) was ∙ get_map (rank_before v) p.members k e at in
    let lt = block.low x.0 (rank_before v e) (contains_at ranks k x.0 x.1) (contains_at before k (rank_before v e) old) in
    omega (arith, same, lt)))
    (λ d c. (let k = (is.left d).0 c in
    let a = numbered v p block.base ranks block.made len d.0 (slice_get_within p.members d.0 k.1.0 k.1.2) in
    let b = numbered v p block.base ranks block.made len d.1 (slice_get_within p.members d.1 k.1.1 k.1.3) in
    let lt = is.falls d c in
    omega (arith, a, b, lt)))
    (leave_below v p ranks leave)
  where
    each : length ranks ≡ length p.members
    each = ap length block.made ∙ (map_length (λ n. block.base + n) p.numbers ∙ len)

-- numbers above all to which edges leave
pub above_ranks : (v : Seen) (S T : Tables) (p : Part) (base : ℕ) (ranks : List ℕ) → IsAfter v S T → IsPart v S T p → p.is_apart ≡ true
    → length p.numbers ≡ length p.members → ranks ≡ map (λ n. base + n) p.numbers
    → ((d : ℕ × Prefix) → Contains p.out d → rank_of v.before.rows d.1 < base) → AreRanks v S T p ranks
above_ranks v S T p base ranks h is is_so len made high =
    ranks_fall v S T h p is ranks each (λ x e off c there. low_apart v S T h p is ranks each is_so x e off c)
    (λ d c. (let k = (is.left d).0 c in
    let a = numbered v p base ranks made len d.0 (slice_get_within p.members d.0 k.1.0 k.1.2) in
    let b = numbered v p base ranks made len d.1 (slice_get_within p.members d.1 k.1.1 k.1.3) in
    let lt = is.falls d c in
    omega (arith, a, b, lt)))
    (λ d c. (let x = (is.out d).0 c in
    let a = numbered v p base ranks made len d.0 (slice_get_within p.members d.0 x.0 x.1) in
    let lt = high d c in
    omega (arith, a, lt)))
  where
    each : length ranks ≡ length p.members
    each = ap length made ∙ (map_length (λ n. base + n) p.numbers ∙ len)
