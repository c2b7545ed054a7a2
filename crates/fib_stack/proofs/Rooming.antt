-- Room for objects between two changes of the tables.
use Rattle.std.proofs.Common.{◌≡◌, ◌≢◌, ℕ, zero, suc, ◌+◌, ◌*◌, ◌/◌, ◌<◌, ◌≤◌, Bool, true, false, true≢false, List, [], ◌∷◌, ◌++◌, length, map, refl, sym, ap, ◌∙◌, subst, arith}
use Rattle.std.specs.Prelude.{Contains, Option}
use Rattle.std.specs.List.{AllByRecursion, range_with_len}
use Rattle.std.proofs.lemmas.List.{length-append, length-map}
use Rattle.std.proofs.lemmas.List.FromFn.{get_or-range_with_len, length-range_with_len}
use mathlib.Core.Logic.{dite}
use Rattle.fib_base_list.proofs.Lists.{each-append, each-map, each-weaker}
use Rattle.fib_addr.specs.Prefixes.{Prefix, host, masked, same_prefix}
use Rattle.fib_addr.proofs.PrefixLaws.{same_prefix-Decides, same_prefix_equiv}
use Rattle.fib_reach.specs.Walks.{AllDiffer}
use Rattle.fib_reach.proofs.Places.{length-le_from_differ}
use Rattle.fib_resolve.specs.Aims.{marked_list}
use Rattle.fib_resolve.specs.Pairs.{all_pairs, base_pairs, entries, one, pairs, prefix_of, same_pair}
use Rattle.fib_resolve.specs.Resolution.{hop_end}
use Rattle.fib_resolve.specs.Sizes.{plies_of, size}
use Rattle.fib_resolve.specs.declared.pairs.Pair.{Pair}
use Rattle.fib_resolve.specs.declared.types.End.{End}
use Rattle.fib_resolve.specs.declared.types.FibSource.TheVariants as sources
use Rattle.fib_resolve.specs.declared.types.PathKind.TheVariants as kinds
use Rattle.fib_resolve.specs.declared.types.Tables.{Tables}
use Rattle.fib_resolve.proofs.Covering.{unique_in}
use Rattle.fib_resolve.proofs.Touching.{same_pair-Decides, same_pair_equiv}
use Rattle.fib_resolve_changes.specs.Ranks.{IsRanked, has_entry}
use Rattle.fib_core.specs.StandsFor.{Thing, ply_of, balance_of, adjacency_of, IsCounted}
use Rattle.fib_core_promise.specs.Stack.{is_some}
use Rattle.fib_core_stands.proofs.Nibbles.{map_at, ply_there}
use Rattle.fib_plane_view.specs.Promise.{Promise, IsBegun}
use Rattle.fib_plane_view.specs.View.{View}
use Rattle.fib_stack.specs.Joined.{Joined, Parts, state_in}
use Rattle.fib_stack.specs.Room.{HasRoomLeft, IsMade, IsSeated, Makes, Took}
use Rattle.fib_stack.specs.States.{State, has_hop}
use Rattle.fib_stack.specs.Steps.{Removed, Restacked}
use Rattle.fib_stack.proofs.Counted.{differ_append, differ_map, thing_in, things, things_long}
use Rattle.fib_stack.proofs.Keeping.{prefix_discrete}
use Rattle.fib_stack.proofs.Settling.{is_entry}

-- counted things that differ are no more than the size says
pub few : (S : Tables) (xs : List Thing) → AllDiffer xs → AllByRecursion (IsCounted S) xs → length xs ≤ size S
few S xs d h =
    let l = length-le_from_differ xs (things S) d (each-weaker (IsCounted S) (λ x. Contains (things S) x) (λ x c. thing_in S x c) xs h) in
    let s = things_long S in
    omega (arith, l, s)

-- what is new differs from what is made
pub both_differ : (S : Tables) (s : State) (new made : List Thing) → AllDiffer new → AllDiffer made → AllByRecursion (λ x. IsMade S s x → ⊥) new → AllByRecursion (IsMade S s) made → AllDiffer (new ++ made)
both_differ S s new made d e out there =
    differ_append new made d e
    (each-weaker (λ x. IsMade S s x → ⊥) (λ x. AllByRecursion (λ y. x ≢ y) made) (λ x no. each-weaker (IsMade S s) (λ y. x ≢ y) (λ y yes is. no (subst (IsMade S s) (sym is) yes)) made there) new out)

-- things that the size counts and that aren't made yet have their objects, and eight are left
pub finds : (S : Tables) (free : ℕ) (s : State) (new : List Thing) → HasRoomLeft S free s → AllDiffer new → AllByRecursion (IsCounted S) new → AllByRecursion (λ x. IsMade S s x → ⊥) new → 8 + length new ≤ free
finds S free s new room d counted out =
    let all = few S (new ++ room.made) (both_differ S s new room.made d room.apart out room.there) (each-append (IsCounted S) new room.made counted room.counted) in
    let long = length-append new room.made in
    let enough = room.enough in
    omega (arith, all, long, enough)

-- a step that loses nothing of it
pub left_after : (S : Tables) (s t : State) (free left : ℕ) → HasRoomLeft S free s → Makes S s t free left → ((x : Thing) → IsMade S s x → IsMade S t x) → HasRoomLeft S left t
left_after S s t free left room m stays = record {
  made = m.made ++ room.made;
  apart = both_differ S s m.made room.made m.apart room.apart m.new room.there;
  counted = each-append (IsCounted S) m.made room.made m.counted room.counted;
  there = each-append (IsMade S t) m.made room.made m.there (each-weaker (IsMade S s) (IsMade S t) stays room.made room.there);
  enough = (let long = length-append m.made room.made in let enough = room.enough in let paid = m.paid in omega (arith, long, enough, paid));
}

pub makes_none : (S : Tables) (s t : State) (free left : ℕ) → free ≤ left → Makes S s t free left
makes_none S s t free left le = record { made = []; apart = tt; counted = tt; new = tt; there = tt; paid = omega (arith, le) }

pub room_left : (S : Tables) (s t : State) (free left : ℕ) → free ≤ left → ((x : Thing) → IsMade S s x → IsMade S t x) → HasRoomLeft S free s → HasRoomLeft S left t
room_left S s t free left le stays room = left_after S s t free left room (makes_none S s t free left le) stays

pub took_none : (S : Tables) (s t : State) (free left : ℕ) → free ≤ left → ((x : Thing) → IsMade S s x → IsMade S t x) → Took S s t free left
took_none S s t free left le stays = record { makes = makes_none S s t free left le; stays = stays }

-- what steps take adds up
pub took_then : (S : Tables) (s t r : State) (f g h : ℕ) → Took S s t f g → Took S t r g h → Took S s r f h
took_then S s t r f g h a b = record {
  makes = record {
    made = b.makes.made ++ a.makes.made;
    apart = both_differ S t b.makes.made a.makes.made b.makes.apart a.makes.apart b.makes.new a.makes.there;
    counted = each-append (IsCounted S) b.makes.made a.makes.made b.makes.counted a.makes.counted;
    new = each-append (λ x. IsMade S s x → ⊥) b.makes.made a.makes.made (each-weaker (λ x. IsMade S t x → ⊥) (λ x. IsMade S s x → ⊥) (λ x no made. no (a.stays x made)) b.makes.made b.makes.new) a.makes.new;
    there = each-append (IsMade S r) b.makes.made a.makes.made b.makes.there (each-weaker (IsMade S t) (IsMade S r) b.stays a.makes.made a.makes.there);
    paid = (let long = length-append b.makes.made a.makes.made in let p = a.makes.paid in let q = b.makes.paid in omega (arith, long, p, q));
  };
  stays = λ x made. b.stays x (a.stays x made);
}

-- a turn of an entry
module _ (S : Tables) (e : Prefix) (o : ℕ) (s t : State) (r : Restacked S e o s t) where
  seated_restacked : (d : Prefix) → IsSeated S s d → IsSeated S t d
  seated_restacked d h = (h.0, dite (prefix_discrete d e) (λ is. ap (λ x. is_some (t.objects.balance x)) is ∙ ap is_some r.here) (λ ne. ap is_some (r.others d ne) ∙ h.1))

  pub made_restacked : (x : Thing) → IsMade S s x → IsMade S t x
  made_restacked (ply_of q) h = (h.0, seated_restacked h.0 h.1, h.2)
  made_restacked (balance_of d) h = seated_restacked d h
  made_restacked (adjacency_of x) h = (
    h.0,
    h.1,
    dite (prefix_discrete h.0 e)
        (λ is. ap (λ d. t.holds d (hop_end S x.interface x.next_hop)) is ∙ r.holding (hop_end S x.interface x.next_hop) ∙ ap (λ d. has_hop (marked_list S d) (hop_end S x.interface x.next_hop)) (sym is) ∙ h.1)
        (λ ne. r.others_holding h.0 (hop_end S x.interface x.next_hop) ne ∙ h.2),
  )

-- a turn of a prefix that left
module _ (S : Tables) (rank : Prefix → ℕ) (e : Prefix) (s t : State) (ranked : IsRanked S rank) (left : has_entry S e ≡ false) (r : Removed e s t) where
  other : (d : Prefix) → has_entry S d ≡ true → d ≡ e → ⊥
  other d has is = true≢false (sym has ∙ ap (has_entry S) is ∙ left)

  seated_removed : (d : Prefix) → IsSeated S s d → IsSeated S t d
  seated_removed d h = (h.0, ap is_some (r.others d (other d h.0)) ∙ h.1)

  pub made_removed : (x : Thing) → IsMade S s x → IsMade S t x
  made_removed (ply_of q) h = (h.0, seated_removed h.0 h.1, h.2)
  made_removed (balance_of d) h = seated_removed d h
  made_removed (adjacency_of x) h = (
    h.0,
    h.1,
    dite (prefix_discrete h.0 e)
        (λ is. absurd (true≢false (sym h.1 ∙ ap (λ d. has_hop (marked_list S d) (hop_end S x.interface x.next_hop)) is ∙ ap (λ ms. has_hop ms (hop_end S x.interface x.next_hop)) (ranked.absent e left))))
        (λ ne. r.others_holding h.0 (hop_end S x.interface x.next_hop) ne ∙ h.2),
  )

-- nothing of the table or of what entries use is other
module _ (S : Tables) (s t : State) (balances : t.objects.balance ≡ s.objects.balance) (holds : t.holds ≡ s.holds) where
  seated_alike : (d : Prefix) → IsSeated S s d → IsSeated S t d
  seated_alike d h = (h.0, ap (λ (f : Prefix → Option ℕ). is_some (f d)) balances ∙ h.1)

  pub made_alike : (x : Thing) → IsMade S s x → IsMade S t x
  made_alike (ply_of q) h = (h.0, seated_alike h.0 h.1, h.2)
  made_alike (balance_of d) h = seated_alike d h
  made_alike (adjacency_of x) h = (h.0, h.1, ap (λ (f : Prefix → End → Bool). f h.0 (hop_end S x.interface x.next_hop)) holds ∙ h.2)

-- numbers of a range
pub range_within : (low high a n : ℕ) → low ≤ a → a + n ≤ high → AllByRecursion (λ k. (low ≤ k) × (k < high)) (range_with_len a n)
range_within low high a zero le less = tt
range_within low high a (suc n) le less = ((le, omega arith), range_within low high (a + 1) n (omega arith) (omega arith))

range_differ : (a n : ℕ) → AllDiffer (range_with_len a n)
range_differ a zero = tt
range_differ a (suc n) = (each-weaker (λ k. (a + 1 ≤ k) × (k < a + 1 + n)) (λ k. a ≢ k) (λ k b is. omega (arith, b.0, is)) (range_with_len (a + 1) n) (range_within (a + 1) (a + 1 + n) (a + 1) n (omega arith) (omega arith)), range_differ (a + 1) n)

-- the plies on the way to a prefix, from a depth on
abbrev pub plies_from : Prefix → ℕ → ℕ → List Thing
plies_from e a n = map (λ k. ply_of (masked e.bits (4 * k))) (range_with_len a n)

ply_one : (x y : Prefix) → ply_of x ≡ ply_of y → x ≡ y
ply_one x y is = cc

same_depth : (b x y : ℕ) → ply_of (masked b (4 * x)) ≡ ply_of (masked b (4 * y)) → x ≡ y
same_depth b x y is = let l : 4 * x ≡ 4 * y = ap (λ (q : Prefix). q.len) (ply_one (masked b (4 * x)) (masked b (4 * y)) is) in omega (arith, l)

all_units : (xs : List ℕ) → AllByRecursion (λ k. Unit {0}) xs
all_units [] = tt
all_units (x ∷ xs) = (tt, all_units xs)

pub plies_differ : (e : Prefix) (a n : ℕ) → AllDiffer (plies_from e a n)
plies_differ e a n = differ_map (λ k. ply_of (masked e.bits (4 * k))) (λ k. Unit {0}) (λ x y p q is. same_depth e.bits x y is) (range_with_len a n) (all_units (range_with_len a n)) (range_differ a n)

pub plies_counted : (S : Tables) (e : Prefix) (a n : ℕ) → Contains (entries S) e → a + n ≤ (e.len + 3) / 4 → AllByRecursion (IsCounted S) (plies_from e a n)
plies_counted S e a n c le =
    each-map (IsCounted S) (λ k. ply_of (masked e.bits (4 * k))) (range_with_len a n)
    (each-weaker (λ k. (a ≤ k) × (k < (e.len + 3) / 4)) (λ k. IsCounted S (ply_of (masked e.bits (4 * k)))) (λ k b. ply_there S e k c (omega (arith, b.1))) (range_with_len a n)
    (range_within a ((e.len + 3) / 4) a n (omega arith) le))

-- such a ply is on the way to the prefix
ply_on_way : (e : Prefix) (k : ℕ) → k < (e.len + 3) / 4 → Contains (plies_of e) (masked e.bits (4 * k))
ply_on_way e k lt =
    let range : Contains (range_with_len 0 ((e.len + 3) / 4)) k = (k, (let n = length-range_with_len 0 ((e.len + 3) / 4) in omega (arith, n, lt)), get_or-range_with_len 0 ((e.len + 3) / 4) k k lt ∙ (let z : 0 + k ≡ k = omega arith in z)) in
    map_at (λ i. masked e.bits (4 * i)) (range_with_len 0 ((e.len + 3) / 4)) k range

pub plies_made : (S : Tables) (s : State) (e : Prefix) (a n : ℕ) → IsSeated S s e → a + n ≤ (e.len + 3) / 4 → AllByRecursion (IsMade S s) (plies_from e a n)
plies_made S s e a n seat le =
    each-map (IsMade S s) (λ k. ply_of (masked e.bits (4 * k))) (range_with_len a n)
    (each-weaker (λ k. (a ≤ k) × (k < (e.len + 3) / 4)) (λ k. IsMade S s (ply_of (masked e.bits (4 * k)))) (λ k b. (e, seat, ply_on_way e k b.1)) (range_with_len a n)
    (range_within a ((e.len + 3) / 4) a n (omega arith) le))

pub plies_long : (e : Prefix) (a n : ℕ) → length (plies_from e a n) ≡ n
plies_long e a n = length-map (range_with_len a n) (λ k. ply_of (masked e.bits (4 * k))) ∙ length-range_with_len a n

-- 0.0.0.0/32 is an entry of all tables, and nine things are made with it
pub zero_entry : (S : Tables) → Contains (entries S) (host 0)
unfolding entries pairs all_pairs base_pairs
zero_entry S =
    let p : Pair = one (host 0) sources.Special kinds.Drop in
    let second : Contains (all_pairs S) p = (1, omega arith, refl) in
    let there : Contains (pairs S) p = (unique_in same_pair same_pair_equiv (λ x y. (same_pair-Decides x y).0) (all_pairs S) p).0 second in
    (unique_in same_prefix same_prefix_equiv (λ x y. (same_prefix-Decides x y).0) (map prefix_of (pairs S)) (host 0)).0 (map_at prefix_of (pairs S) p there)

no_ply : (e q : Prefix) → balance_of e ≡ ply_of q → ⊥
no_ply e q is = cc

pub room_at_change : (S : Tables) (rank : Prefix → ℕ) (p : Promise) (v : View) (s : Parts) → Joined S rank p v s → IsBegun p → size S ≤ v.free → HasRoomLeft S v.free (state_in v s)
room_at_change S rank p v s j begun le =
    let at = (j.fits begun).all (host 0) (λ T c. zero_entry T) in
    let seat : IsSeated S (state_in v s) (host 0) = (is_entry S (host 0) (zero_entry S), ap is_some at.1) in
    let long = plies_long (host 0) 0 8 in
    record {
      made = balance_of (host 0) ∷ plies_from (host 0) 0 8;
      apart = (each-map (λ y. balance_of (host 0) ≢ y) (λ k. ply_of (masked (host 0).bits (4 * k))) (range_with_len 0 8) (each-weaker (λ k. Unit {0}) (λ k. balance_of (host 0) ≢ ply_of (masked (host 0).bits (4 * k))) (λ k u is. no_ply (host 0) (masked (host 0).bits (4 * k)) is) (range_with_len 0 8) (all_units (range_with_len 0 8))), plies_differ (host 0) 0 8);
      counted = (zero_entry S, plies_counted S (host 0) 0 8 (zero_entry S) (omega arith));
      there = (seat, plies_made S (state_in v s) (host 0) 0 8 seat (omega arith));
      enough = omega (arith, le, long);
    }
