-- The neighbors that a turned prefix can concern.
use Rattle.std.proofs.Common.{◌≡◌, ℕ, ◌+◌, ◌≤◌, ◌==◌, List, [], ◌∷◌, take, filter, Option, Some, None, ◌⊎◌, inl, inr, refl, sym, ◌∙◌}
use Rattle.std.proofs.Common.{true, ap, subst, ◌↔◌}
use Rattle.std.proofs.Common.{slice_get}
use Rattle.std.specs.Prelude.{Contains}
use Rattle.std.proofs.lemmas.Bool.{false≢true}
use Rattle.std.proofs.lemmas.Bool.Decides.{Decides-eqb}
use Rattle.fib_base_list.proofs.Lists.{Contains-nil}
use Rattle.fib_base_list.proofs.Booleans.{and_both}
use Rattle.fib_base_interned.proofs.Finding.{none_some, some_is}
use Rattle.fib_addr.specs.Prefixes.{Prefix, contains, host, same_prefix}
use Rattle.fib_addr.proofs.PrefixLaws.{same_prefix-Decides}
use Rattle.fib_cover.specs.Covers.{IsLongestMatch}
use Rattle.fib_resolve.specs.Pairs.{short_prefixes}
use Rattle.fib_resolve.specs.declared.types.Tables.{Tables}
use Rattle.fib_resolve.proofs.Covering.{filter_in, filter_from}
use Rattle.fib_resolve_changes.specs.Looked.{attached_at}
use Rattle.fib_resolve_changes.specs.Sources.{ArePrefixes}
use Rattle.fib_resolve_changes.proofs.CauseLaws.{any_from}
use Rattle.fib_resolve_changes.proofs.Edits.{any_in}
use Rattle.fib_follow_looked.specs.Looks.{IsNearOf, IsOver}
use Rattle.fib_follow_looked.specs.declared.shorts.Turn.TheVariants as turns
use Rattle.fib_follow_looked.specs.declared.shorts.Turned.{Turned}
use Rattle.fib_follow_looked.specs.inner.Adding.{Adds, AddsMore}
use Rattle.fib_follow_looked.specs.inner.Turning.{HasNear, HasNearEach, IsNearAny, is_near, near_inside}
use Rattle.fib_follow_looked.proofs.Above.{above_is}
use Rattle.fib_follow_looked.proofs.Turning.{take_in}

-- what is above one that goes
pub over_gone : (T : Tables) (q c : Prefix) (o : Option Prefix) → ArePrefixes T → q.len ≤ 32 → IsLongestMatch (short_prefixes T) q.len q.bits o
    → (o ≡ Some c) ↔ IsOver T q turns.Goes c
over_gone T q c o good le m = above_is T (short_prefixes T) q good le (λ e short. (λ d. d, λ d. d)) o m c

-- one that comes or attaches otherwise decides itself
pub over_itself : (T : Tables) (q c : Prefix) → (Some q ≡ Some c) ↔ (q ≡ c)
over_itself T q c = (λ e. some_is q c e, λ e. ap Some e)

-- no others are put to the set
pub near_only : (T : Tables) (x : Turned) (above : Prefix) (old new : List Prefix) (attached : Option ℕ) → IsOver T x.prefix x.how above
    → attached ≡ attached_at T above → Adds (near_inside T x.prefix attached) old new → (q : Prefix) → Contains new q
    → Contains old q ⊎ IsNearOf T x q
near_only T x above old new attached over is put q c = elim ((put q).0 c) [ inl there ↦ inl there | inr near ↦ inr (by attached refl near) ]
  where
    by : (o : Option ℕ) → attached ≡ o → near_inside T x.prefix o q ≡ true → IsNearOf T x q
    by None e h = absurd (false≢true h)
    by (Some i) e h =
        let w = any_from (λ n. is_near i n q) (filter (λ n. contains x.prefix n.addr) T.neighbors) h in
        let f = filter_from (λ n. contains x.prefix n.addr) T.neighbors w.0 w.1 in
        let both = and_both (w.0.interface == i) (same_prefix q (host w.0.addr)) w.2 in (
          above,
          i,
          w.0.addr,
          over,
          sym is ∙ e,
          f.1,
          (w.0, f.0, (Decides-eqb w.0.interface i).0 both.0, refl),
          (same_prefix-Decides q (host w.0.addr)).0 both.1,
        )

pub only_step : (T : Tables) (xs : List Turned) (k : ℕ) (t : Turned) (first old new : List Prefix) → slice_get xs k ≡ Some t
    → ((q : Prefix) → Contains old q → Contains first q ⊎ IsNearAny T (take k xs) q) → ((q : Prefix) → Contains new q → Contains old q ⊎ IsNearOf T t q)
    → (q : Prefix) → Contains new q → Contains first q ⊎ IsNearAny T (take (k + 1) xs) q
only_step T xs k t first old new here before step q c = elim (step q c) [
  | inl was ↦ elim (before q was) [
    | inl start ↦ inl start
    | inr w ↦ inr (w.0, (take_in xs k t w.0 here).1 (inl w.1), w.2)
  ]
  | inr near ↦ inr (t, (take_in xs k t t here).1 (inr refl), near)
]

near_there : (T : Tables) (x : Turned) (over : Prefix) (old new : List Prefix) (attached : Option ℕ) → attached ≡ attached_at T over
    → Adds (near_inside T x.prefix attached) old new → ((c : Prefix) → IsOver T x.prefix x.how c → Some over ≡ Some c) → HasNear T x new
near_there T x over old new attached is put only c i a above at holds n =
    let same = some_is over c (only c above) in
    let on : attached ≡ Some i = is ∙ (ap (attached_at T) same ∙ at) in
    (put (host a)).1 (inr (ap (λ o. near_inside T x.prefix o (host a)) on
    ∙ any_in (λ m. is_near i m (host a)) (filter (λ m. contains x.prefix m.addr) T.neighbors) n.0
    (filter_in (λ m. contains x.prefix m.addr) T.neighbors n.0 n.1 (ap (contains x.prefix) n.3 ∙ holds))
    (rw ((Decides-eqb n.0.interface i).1 n.2, (same_prefix-Decides (host a) (host n.0.addr)).1 (ap host (sym n.3))) refl)))

pub near_has : (T : Tables) (x : Turned) (over : Prefix) (old new : List Prefix) (attached : Option ℕ) (o : Option Prefix) → o ≡ Some over
    → attached ≡ attached_at T over → Adds (near_inside T x.prefix attached) old new → ((c : Prefix) → IsOver T x.prefix x.how c → o ≡ Some c)
    → HasNear T x new
near_has T x over old new attached o at is put only = near_there T x over old new attached is put (λ c h. sym at ∙ only c h)

pub near_nothing : (T : Tables) (x : Turned) (hosts : List Prefix) (o : Option Prefix) → o ≡ None
    → ((c : Prefix) → IsOver T x.prefix x.how c → o ≡ Some c) → HasNear T x hosts
near_nothing T x hosts o none only c i a above at holds n = absurd (none_some c (sym none ∙ only c above))

near_stays : (T : Tables) (x : Turned) (old new : List Prefix) → AddsMore old new → HasNear T x old → HasNear T x new
near_stays T x old new more h c i a above at holds n = more (host a) (h c i a above at holds n)

pub each_none : (T : Tables) (xs : List Turned) (hosts : List Prefix) → HasNearEach T (take 0 xs) hosts
each_none T [] hosts x c = absurd (Contains-nil x c)
each_none T (y ∷ ys) hosts x c = absurd (Contains-nil x c)

pub each_step : (T : Tables) (xs : List Turned) (k : ℕ) (t : Turned) (old new : List Prefix) → slice_get xs k ≡ Some t → HasNearEach T (take k xs) old
    → AddsMore old new → HasNear T t new → HasNearEach T (take (k + 1) xs) new
each_step T xs k t old new here before more own x c = elim ((take_in xs k t x here).0 c) [
  | inl early ↦ near_stays T x old new more (before x early)
  | inr same ↦ subst (λ z. HasNear T z new) same own
]
