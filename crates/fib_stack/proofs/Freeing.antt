-- Records that are given back with their last users free their objects, where no edge leads there.
use Rattle.std.proofs.Common.{◌≡◌, ℕ, suc, ◌+◌, ◌<◌, ◌≤◌, ⊎_elim, Bool, true, false, true≢false, cond, List, [], ◌∷◌, length, map, take, get_or, refl, sym, ap, ◌∙◌, subst, arith}
use Rattle.std.specs.Prelude.{Contains, Option, Some, None, Ok}
use Rattle.std.specs.List.{AllByRecursion, list_any}
use Rattle.std.proofs.lemmas.List.Elements.{All-contains, All-from_recursion}
use native.Mathlib.Decide.{ℕ_discrete}
use mathlib.Core.Logic.{dite}
use Rattle.fib_base_list.proofs.Lists.{either}
use Rattle.fib_reach.proofs.Places.{length-le_from_differ}
use Rattle.fib_resolve_changes.proofs.CauseLaws.{any_from}
use Rattle.fib_resolve_changes.proofs.Edits.{any_in}
use Rattle.fib_pool.specs.declared.object.AdjacencyRecord.{AdjacencyRecord}
use Rattle.fib_stack_ledger.specs.declared.ledger.Use.{Use}
use Rattle.fib_stack_ledger.specs.Ledgers.{record_used, same_record, times}
use Rattle.fib_plane_view.specs.View.{View, GaveRecord, HasIn, IsPlane, TookRecord}
use Rattle.fib_stack.specs.Records.{AreNew, Freed, GaveAll, IsAlone, TookAll, TookFor}
use Rattle.fib_stack.proofs.Listing.{record_is, record_self, times-take_next}
use Rattle.fib_stack.proofs.Newly.{listed_times}

none_some : (x : Option ℕ) (o : ℕ) → x ≡ None → x ≡ Some o → ⊥
none_some x o e f = let bad : Some o ≡ None = sym f ∙ e in cc

-- what has no users is alone
pub alone_none : (u : View) (m : AdjacencyRecord) → IsPlane u → u.users m ≡ 0 → IsAlone u m
alone_none u m plane none x at h = none_some (u.record_of m) x (plane.forgotten m none) at

-- a record was taken, and new ones are alone still
alone_took : (u0 u v : View) (r : AdjacencyRecord) (x : ℕ) → IsPlane v → ((m : AdjacencyRecord) → u0.users m ≡ 0 → IsAlone u m) → TookRecord u v r x → (m : AdjacencyRecord) → u0.users m ≡ 0 → IsAlone v m
alone_took u0 u v r x plane alone t m none = dite (ℕ_discrete (u.users m) 0)
    (λ z. ⊎_elim
    (λ (is : same_record m r ≡ true).
    let same : m ≡ r = record_is m r is in
    λ y at h. t.alone (subst (λ (k : AdjacencyRecord). u.users k ≡ 0) same z) (subst (HasIn v) (one y x (sym at ∙ ap v.record_of same ∙ t.here)) h))
    (λ (isnt : same_record m r ≡ false). alone_none v m plane (t.others m (λ same. true≢false (sym (ap (λ (k : AdjacencyRecord). same_record k r) same ∙ record_self r) ∙ isnt)) ∙ z))
    (either (same_record m r)))
    (λ some y at h. alone m none y (sym (t.kept m (omega (arith, some))) ∙ at) (h.0, h.1, h.2, h.3, t.edges h.0 h.1 y h.2 h.3 h.4))
  where
    one : (a b : ℕ) → Some a ≡ Some b → a ≡ b
    one a b e = cc

pub alone_step : (u0 u v : View) (us vs : List Use) (o : Option AdjacencyRecord) (x : Unit) → IsPlane v → ((m : AdjacencyRecord) → u0.users m ≡ 0 → IsAlone u m) → TookFor u v o us vs (Ok x) → (m : AdjacencyRecord) → u0.users m ≡ 0 → IsAlone v m
alone_step u0 u v us vs None x plane alone h m none = subst (λ (w : View). IsAlone w m) (sym h.0) (alone m none)
alone_step u0 u v us vs (Some r) x plane alone h m none = alone_took u0 u v r h.0 plane alone h.1 m none

pub freed_none : (u : View) (xs : List Use) (ms : List AdjacencyRecord) → Freed u u (take 0 xs) ms
freed_none u xs ms = ([], omega arith, λ m c e lt. absurd (no_times xs m lt))
  where
    no_times : (ys : List Use) (m : AdjacencyRecord) → 0 < times m (take 0 ys) → ⊥
    no_times [] m lt = omega (arith, lt)
    no_times (y ∷ ys) m lt = omega (arith, lt)

-- the next one was given back
module _ (u v w : View) (xs : List Use) (i : ℕ) (d : Use) (lt : i < length xs) (is : get_or xs i d ≡ d) (enough : (m : AdjacencyRecord) → times m xs ≤ u.users m) (before : 0 < v.users (record_used d)) (object : v.record_of (record_used d) ≡ Some d.object) (gave : GaveAll u v (take i xs)) (next : GaveRecord v w (record_used d))
    (sole : (x : ℕ) → HasIn v x → HasIn u x) (ms : List AdjacencyRecord) (alone : AllByRecursion (IsAlone u) ms) (h : Freed u v (take i xs) ms) where
  abbrev r : AdjacencyRecord
  r = record_used d

  step : (m : AdjacencyRecord) → times m (take (i + 1) xs) ≡ cond (same_record m r) 1 0 + times m (take i xs)
  step m = subst (λ (q : Use). times m (take (i + 1) xs) ≡ cond (same_record m (record_used q)) 1 0 + times m (take i xs)) is (times-take_next m d xs i lt)

  -- another one that lost all its users had lost them before
  other : (m : AdjacencyRecord) → same_record m r ≡ false → Contains ms m → u.users m ≡ times m (take (i + 1) xs) → 0 < times m (take (i + 1) xs) → Contains h.0 m
  other m isnt c all some =
      let same : times m (take (i + 1) xs) ≡ 0 + times m (take i xs) = step m ∙ ap (λ (b : Bool). cond b 1 0 + times m (take i xs)) isnt in
      h.2 m c (omega (arith, all, same)) (omega (arith, some, same))

  -- the last user of it is this one
  last : (m : AdjacencyRecord) → same_record m r ≡ true → u.users m ≡ times m (take (i + 1) xs) → v.users r ≡ 1
  last m it all =
      let same : times m (take (i + 1) xs) ≡ 1 + times m (take i xs) = step m ∙ ap (λ (b : Bool). cond b 1 0 + times m (take i xs)) it in
      let users = gave.users m in
      let one : v.users m ≡ 1 = omega (arith, all, same, users) in
      subst (λ (k : AdjacencyRecord). v.users k ≡ 1) (record_is m r it) one

  -- it was no one's last, or isn't asked for
  still : ((m : AdjacencyRecord) → Contains ms m → same_record m r ≡ true → u.users m ≡ times m (take (i + 1) xs) → ⊥) → Freed u w (take (i + 1) xs) ms
  still never = (
    h.0,
    (let f = next.swept.free in omega (arith, h.1, f)),
    λ m c all some. ⊎_elim
        (λ (it : same_record m r ≡ true). absurd (never m c it all))
        (λ (isnt : same_record m r ≡ false). other m isnt c all some)
        (either (same_record m r)),
  )

  more : Contains ms r → v.users r ≡ 1 → Freed u w (take (i + 1) xs) ms
  more c one =
      let a : IsAlone u r = All-contains (IsAlone u) ms r (All-from_recursion (IsAlone u) ms alone) c in
      let there : u.record_of r ≡ Some d.object = sym (gave.kept r before) ∙ object in
      let free = next.freed d.object object one (λ led. a d.object there (sole d.object led)) in (
        r ∷ h.0,
        omega (arith, h.1, free),
        λ m c' all some. ⊎_elim
            (λ (it : same_record m r ≡ true). (0, omega arith, sym (record_is m r it)))
            (λ (isnt : same_record m r ≡ false). let q = other m isnt c' all some in (suc q.0, omega (arith, q.1), q.2))
            (either (same_record m r)),
      )

  pub freed_next : Freed u w (take (i + 1) xs) ms
  freed_next = dite (ℕ_discrete (v.users r) 1)
      (λ one. ⊎_elim
      (λ (member : list_any (λ k. same_record k r) ms ≡ true). let q = any_from (λ k. same_record k r) ms member in more (subst (Contains ms) (record_is q.0 r q.2) q.1) one)
      (λ (none : list_any (λ k. same_record k r) ms ≡ false). still (λ m c it all. true≢false (sym (any_in (λ k. same_record k r) ms m c it) ∙ none)))
      (either (list_any (λ k. same_record k r) ms)))
      (λ ne. still (λ m c it all. ne (last m it all)))

-- what was taken for new records is free again
pub given_back : (u v w : View) (us : List Use) (rs ms : List AdjacencyRecord) → TookAll u v us → map record_used us ≡ rs → AreNew u rs ms → u.free ≤ v.free + length ms → Freed v w us ms → u.free ≤ w.free
given_back u v w us rs ms took listed new paid freed =
    let some : (m : AdjacencyRecord) → Contains rs m → 0 < times m us = λ m c. listed_times us m (subst (λ (l : List AdjacencyRecord). Contains l m) (sym listed) c) in
    let long : length ms ≤ length freed.0 = length-le_from_differ ms freed.0 new.apart (each_in ms some new.new (λ m c. c)) in
    omega (arith, long, paid, freed.1)
  where
    each_in : (ks : List AdjacencyRecord) → ((m : AdjacencyRecord) → Contains rs m → 0 < times m us) → AllByRecursion (λ m. (u.users m ≡ 0) × Contains rs m) ks → ((m : AdjacencyRecord) → Contains ks m → Contains ms m) → AllByRecursion (λ m. Contains freed.0 m) ks
    each_in [] some all inside = tt
    each_in (k ∷ ks) some all inside = (
      freed.2 k (inside k (0, omega arith, refl)) (let t = took.users k in let z = all.0.0 in omega (arith, t, z)) (some k all.0.1),
      each_in ks some all.1 (λ m c. inside m (suc c.0, omega (arith, c.1), c.2)),
    )
