-- Covers, and how a host is attached, change only with the base pairs of a cover.
use Rattle.std.proofs.Common.{arith, ◌≡◌, ℕ, ◌<◌, ◌^◌, Bool, true, false, not, ◌||◌, ◌&&◌, map, inl, inr, refl, sym, ◌∙◌, ap, subst, ◌↔◌}
use Rattle.std.specs.Prelude.{Contains, nat_lt}
use Rattle.std.proofs.lemmas.Bool.{false≢true, ltb-true}
use Rattle.std.proofs.lemmas.Bool.Decides.{Decides-eqb}
use Rattle.fib_addr.specs.Prefixes.{Prefix, host}
use Rattle.fib_addr.specs.Longest.{everything, IsLongest}
use Rattle.fib_addr.proofs.LongestLaws.{longest_is_longest, longest_is_unique}
use Rattle.fib_resolve.specs.Pairs.{base_pairs, cover, short_prefixes, attached_by, attached_of, best_pair, paths_of, prefix_of, is_short}
use Rattle.fib_resolve.specs.Tables.{IsSound}
use Rattle.fib_resolve.specs.declared.pairs.Pair.{Pair}
use Rattle.fib_resolve.specs.declared.types.Tables.{Tables}
use Rattle.fib_resolve.proofs.OneList.{one_list}
use Rattle.fib_resolve.proofs.PairLaws.{cover_at_host}
use Rattle.fib_resolve.proofs.Touching.{best_of, best_paths_same}
use Rattle.fib_resolve.proofs.Covering.{filter_in, filter_from}
use Rattle.fib_resolve_changes.specs.Sources.{HasNeighbor, all_hops, BaseCaught, HopsCaught, NeighborsCaught, ArePrefixes, affected}
use Rattle.fib_resolve_changes.specs.Causes.{IsCaught}
use Rattle.fib_resolve_changes.proofs.SamePairs.{map_in, map_from, from_origin, base, same_pairs_from}

pub short_from : (S : Tables) (q : Prefix) → Contains (short_prefixes S) q → (x : Pair) × Contains (base_pairs S) x × (x.prefix ≡ q) × (is_short q ≡ true)
unfolding short_prefixes
short_from S q c =
    let r = filter_from is_short (map prefix_of (base_pairs S)) q c in
    let x = map_from prefix_of (base_pairs S) q r.0 in (x.0, x.1, x.2, r.1)

short_in : (S : Tables) (x : Pair) → Contains (base_pairs S) x → is_short x.prefix ≡ true → Contains (short_prefixes S) x.prefix
unfolding short_prefixes
short_in S x c short = filter_in is_short (map prefix_of (base_pairs S)) x.prefix (map_in prefix_of (base_pairs S) x c) short

pub whole_there : (S : Tables) → Contains (short_prefixes S) everything
unfolding short_prefixes base_pairs
whole_there S = (0, omega arith, refl)

module _ (S T : Tables) (own : Prefix → Bool) (caught : BaseCaught S T own) where
  short_carried : (q : Prefix) → own q ≡ false → Contains (short_prefixes S) q → Contains (short_prefixes T) q
  short_carried q quiet c =
      let r = short_from S q c in
      subst (Contains (short_prefixes T)) r.2 (short_in T r.0 ((caught r.0 (subst (λ z. own z ≡ false) (sym r.2) quiet)).0 r.1) (subst (λ z. is_short z ≡ true) (sym r.2) r.3))

longest_cover : (S : Tables) (a : ℕ) → a < 2 ^ 32 → IsLongest a (short_prefixes S) (cover S a)
unfolding cover
longest_cover S a small = longest_is_longest a (short_prefixes S) small

member : (S : Tables) (a : ℕ) (p : Prefix) → IsLongest a (short_prefixes S) p → Contains (short_prefixes S) p
member S a p h = elim h.member [ inl c ↦ c | inr e ↦ subst (Contains (short_prefixes S)) (sym e) (whole_there S) ]

module _ (S T : Tables) (own : Prefix → Bool) (caught : BaseCaught S T own) (good : ArePrefixes T) where
  flipped : BaseCaught T S own
  flipped x quiet = ((caught x quiet).1, (caught x quiet).0)

  -- where neither cover has other base pairs, they are one
  pub covers_agree : (a : ℕ) → a < 2 ^ 32 → own (cover S a) ≡ false → own (cover T a) ≡ false → cover S a ≡ cover T a
  covers_agree a small before after =
      let s = longest_cover S a small in
      let t = longest_cover T a small in
      let s_in = short_carried S T own caught (cover S a) before (member S a (cover S a) s) in
      let t_in = short_carried T S own flipped (cover T a) after (member T a (cover T a) t) in
      let up = t.longest (cover S a) s_in s.matches in
      let down = s.longest (cover T a) t_in t.matches in
      longest_is_unique a (short_prefixes T) (cover S a) (cover T a) (good (cover S a) s_in) (good (cover T a) (member T a (cover T a) t))
      (record { member = inl s_in; matches = s.matches; longest = λ q c m. (let most = t.longest q c m in omega (arith, most, down)) }) t

  -- and the address is attached as before
  pub attached_agrees : (a : ℕ) → IsSound T → a < 2 ^ 32 → own (cover S a) ≡ false → own (cover T a) ≡ false → attached_by S a ≡ attached_by T a
  unfolding attached_by
  attached_agrees a sound small before after =
      let e = covers_agree a small before after in
      ap attached_of (
      best_paths_same (cover S a) (base_pairs S) (base_pairs T) (λ x y c d p q. one_list T sound x y (from_origin T x (base c)) (from_origin T y (base d)) p q)
      (λ x p. caught x (subst (λ z. own z ≡ false) p before)) (best_pair (cover S a) (base_pairs S)) (best_pair (cover S a) (base_pairs T)) (best_of (cover S a) (base_pairs S)) (best_of (cover S a) (base_pairs T)))
      ∙ ap (λ z. attached_of (paths_of (best_pair z (base_pairs T)))) e

neither : (b c : Bool) → (b || c) ≡ false → (b ≡ false) × (c ≡ false)
neither true c h = absurd (false≢true (sym h))
neither false c h = (refl, h)

record Quiet (S T : Tables) (own : Prefix → Bool) (late : ℕ → Bool) (e : Prefix) : Type 0 where
  before : own (cover S e.bits) ≡ false
  after : own (cover T e.bits) ≡ false
  on_time : late e.bits ≡ false
  small : e.bits < 2 ^ 32

quiet_of : (S T : Tables) (own : Prefix → Bool) (late : ℕ → Bool) (e : Prefix) → affected S T own late e ≡ false → e.len ≡ 32 → Quiet S T own late e
quiet_of S T own late e h long =
    let one = neither (own e) _ h in
    let two = sym (ap (λ b. b && (own (cover S e.bits) || (own (cover T e.bits) || (late e.bits || not (nat_lt e.bits (2 ^ 32)))))) ((Decides-eqb e.len 32).1 long)) ∙ one.1 in
    let three = neither (own (cover S e.bits)) _ two in
    let four = neither (own (cover T e.bits)) _ three.1 in
    let five = neither (late e.bits) _ four.1 in
    record { before = three.0; after = four.0; on_time = five.0; small = ltb-true e.bits (2 ^ 32) (unturned (nat_lt e.bits (2 ^ 32)) five.1) }
  where
    unturned : (b : Bool) → not b ≡ false → b ≡ true
    unturned true h = refl
    unturned false h = absurd (false≢true (sym h))

-- the affected prefixes are all whose entry can be another
pub affected_catch : (S T : Tables) (own : Prefix → Bool) (hops near : ℕ → Bool) → IsSound S → IsSound T → ArePrefixes T → BaseCaught S T own → HopsCaught S T hops → NeighborsCaught S T near
    → IsCaught S T (affected S T own (λ a. hops a || near a))
affected_catch S T own hops near before sound good based hopping nearing e h =
    let quiet : (a : ℕ) → e ≡ host a → Quiet S T own (λ z. hops z || near z) e = λ a at. quiet_of S T own (λ z. hops z || near z) e h (ap (λ z. z.len) at) in
    record {
      pairs = same_pairs_from S T e (record {
        base = λ x p. based x (subst (λ z. own z ≡ false) p (neither (own e) _ h).0);
        attached = λ a at. (let q = quiet a at in subst (λ z. attached_by S z ≡ attached_by T z) (ap (λ z. z.bits) at) (attached_agrees S T own based good e.bits sound q.small q.before q.after));
        neighbor = λ a i at. (let q = quiet a at in subst (λ z. HasNeighbor S i z ↔ HasNeighbor T i z) (ap (λ z. z.bits) at) (nearing e.bits i (neither (hops e.bits) (near e.bits) q.on_time).1));
        hop = λ a at. (let q = quiet a at in subst (λ z. Contains (all_hops S) z ↔ Contains (all_hops T) z) (ap (λ z. z.bits) at) (hopping e.bits (neither (hops e.bits) (near e.bits) q.on_time).0));
      });
      cover = λ p c is. (let q = quiet_of S T own (λ z. hops z || near z) e h (cover_at_host S before e p c is) in covers_agree S T own based good e.bits q.small q.before q.after);
    }
