-- From what stands between all to what the plane's calls and the table's ask.
use Rattle.std.proofs.Common.{◌≡◌, ℕ, ◌<◌, inl, Bool, true, false, List, [], ◌∷◌, refl, sym, ap, ◌∙◌, subst, arith}
use Rattle.std.specs.Prelude.{Option, Some, None, if◌then◌else◌}
use Rattle.fib_addr.specs.Prefixes.{Prefix}
use Rattle.fib_resolve.specs.declared.aims.Aim.{Aim}
use Rattle.fib_resolve.specs.declared.aims.Aim.TheVariants as aims
use Rattle.fib_resolve.specs.declared.types.End.{End}
use Rattle.fib_resolve.specs.declared.types.End.TheVariants as answers
use Rattle.fib_stack_ledger.specs.declared.ledger.Use.{Use}
use Rattle.fib_stack_ledger.specs.Ledgers.{record_used}
use Rattle.fib_ply.specs.Rows.{held}
use Rattle.fib_ply.specs.Tables.{Table, Stands, watch_of}
use Rattle.fib_ply.specs.Served.{KeepsBeside}
use Rattle.fib_ply.proofs.Promises.{serves_of}
use Rattle.fib_ply.proofs.Quiet.{quiet_stands}
use Rattle.fib_ply.proofs.Rewatching.{rewatch}
use Rattle.fib_core_promise.specs.Kept.{same_end}
use Rattle.fib_core_promise.specs.Matches.{look_of}
use Rattle.fib_core_promise.specs.Stack.{Objects, aim_word, to_adjacency, to_balance}
use Rattle.fib_core_steady.specs.Names.{Names}
use Rattle.fib_plane_view.specs.Frames.{IsQuiet}
use Rattle.fib_plane_view.specs.Promise.{Promise, Allows, EndsIn, IsBegun, IsEndOf, KeepsBuckets, MayClear, Serves}
use Rattle.fib_plane_view.specs.View.{View, HasKind, IsBalance, IsPlane, IsRecord}
use Rattle.fib_stack.specs.Joined.{in_change}
use Rattle.fib_stack.specs.Records.{AreObjects, end_used}
use Rattle.fib_stack.specs.inner.Readied.{found_in}

-- names for which the promise holds, the table's own
pub table_names : (p : Promise) (t : Table) (v : View) → Stands (in_change p) t v → (n : Names) × (n.balance ≡ held t.rows.members) × Serves p n v
table_names p t v s =
    let serves = serves_of (watch_of (in_change p) t) v s.2.at.kept s.1 s.2.at.served in
    (record { depth = s.1.depth; value = s.1.value; balance = held t.rows.members }, refl, record { paths = serves.paths; promised = serves.promised; still = serves.still })

pub begun_of : (p : Promise) → p.settled < p.applied → IsBegun p
begun_of p lt = omega (arith, lt)

pub may_clear : (p : Promise) (n : Names) (v : View) → p.settled < p.applied → Serves p n v → MayClear p v
may_clear p n v lt s = (inl lt, (n, s))

-- what is kept beside the plies, for names of the table
pub kept_by : (p q : Promise) (t : Table) (u v : View) (n : Names) → Allows q → q.applied ≡ p.applied → q.versions ≡ p.versions → KeepsBeside (watch_of p t) u → n.balance ≡ held t.rows.members → Serves q n v → KeepsBeside (watch_of q t) v
kept_by p q t u v n allowed applied versions k names s = record {
  allowed = allowed;
  newest = k.newest;
  older = k.older;
  versions = versions ∙ k.versions;
  buckets = λ b. subst (λ (f : Prefix → Option ℕ). KeepsBuckets q.versions f v) names (s.promised b).buckets;
  still = s.still;
}

pub serves_change : (p : Promise) (n : Names) (v : View) → Serves p n v → Serves (in_change p) n v
serves_change p n v s = record { paths = s.paths; promised = s.promised; still = s.still }

-- what is quiet keeps the table
pub table_quiet : (p : Promise) (t : Table) (u v : View) (n : Names) → IsBegun p → Stands (in_change p) t u → IsQuiet (held t.rows.members) u v → IsPlane v → n.balance ≡ held t.rows.members → Serves p n v → Stands (in_change p) t v
table_quiet p t u v n begun s quiet plane names serves =
    quiet_stands (in_change p) t u v s quiet plane.kinds
    (kept_by (in_change p) (in_change p) t u v n (inl begun) refl refl s.2.at.kept names (serves_change p n v serves))
    (λ z. absurd (let b : 0 < p.applied = begun in omega (arith, z, b)))

-- at a time at which stores are allowed, and back
pub to_now : (p : Promise) (t : Table) (v : View) → Allows p → Stands (in_change p) t v → Stands p t v
to_now p t v allowed s = (
  s.0,
  s.1,
  rewatch (watch_of (in_change p) t) (watch_of p t) (λ a o h. h) (λ z. z) (look_of (held t.rows.members)) s.0 s.1 v
      (record { allowed = allowed; newest = s.2.at.kept.newest; older = s.2.at.kept.older; versions = s.2.at.kept.versions; buckets = s.2.at.kept.buckets; still = s.2.at.kept.still }) s.2,
  s.3,
  s.4,
)

pub to_change : (p : Promise) (t : Table) (v : View) → IsBegun p → Stands p t v → Stands (in_change p) t v
to_change p t v begun s = (
  s.0,
  s.1,
  rewatch (watch_of p t) (watch_of (in_change p) t) (λ a o h. h) (λ z. z) (look_of (held t.rows.members)) s.0 s.1 v
      (record { allowed = inl begun; newest = s.2.at.kept.newest; older = s.2.at.kept.older; versions = s.2.at.kept.versions; buckets = s.2.at.kept.buckets; still = s.2.at.kept.still }) s.2,
  s.3,
  s.4,
)

-- a found object is a record's
pub found_record : (v : View) (us : List Use) (end : End) (x : ℕ) → AreObjects v us → found_in us end ≡ Some x → IsRecord v x
found_record v [] end x objects e = absurd (cc)
found_record v (u ∷ us) end x objects e = by_first (same_end (end_used u) end) refl (found_record v us end x objects.1)
  where
    by_first : (b : Bool) → same_end (end_used u) end ≡ b → (found_in us end ≡ Some x → IsRecord v x) → IsRecord v x
    by_first true is rest = (record_used u, objects.0 ∙ (sym (ap (λ b. if b then Some u.object else found_in us end) is) ∙ e))
    by_first false is rest = rest (sym (ap (λ b. if b then Some u.object else found_in us end) is) ∙ e)

-- what the word of an aim leads to
module _ (v : View) (names : Objects) (o : ℕ) (mine : IsBalance v o) (balances : (t : Prefix) (x : ℕ) → names.balance t ≡ Some x → IsBalance v x) (records : (end : End) (x : ℕ) → names.record_of end ≡ Some x → IsRecord v x) where
  adjacency_kind : (r : Option ℕ) → ((x : ℕ) → r ≡ Some x → IsRecord v x) → HasKind v o (to_adjacency r)
  adjacency_kind None h = mine.1
  adjacency_kind (Some x) h = (mine.1, h x refl)

  balance_kind : (r : Option ℕ) → ((x : ℕ) → r ≡ Some x → IsBalance v x) → HasKind v o (to_balance r)
  balance_kind None h = mine.1
  balance_kind (Some x) h = h x refl

  pub word_kind : (m : Aim) → HasKind v o (aim_word names m)
  word_kind (aims.Ends answers.Drop) = mine.1
  word_kind (aims.Ends answers.Receive) = mine.1
  word_kind (aims.Ends (answers.Glean i)) = mine.1
  word_kind (aims.Ends (answers.Hop i a x)) = adjacency_kind (names.record_of (answers.Hop i a x)) (λ y e. records (answers.Hop i a x) y e)
  word_kind (aims.On t) = balance_kind (names.balance t) (λ y e. balances t y e)

-- where it ends packets
module _ (p : Promise) (v : View) (names : Objects) (plane : IsPlane v) where
  adjacency_ends : (i a : ℕ) (x : Option ℕ) (r : Option ℕ) → ((y : ℕ) → r ≡ Some y → v.record_of (record { interface = i; next_hop = a; mac = x }) ≡ Some y) → IsEndOf p (answers.Hop i a x) → EndsIn p v (to_adjacency r)
  adjacency_ends i a x None h end = tt
  adjacency_ends i a x (Some y) h end = subst (IsEndOf p) (sym (plane.written (record { interface = i; next_hop = a; mac = x }) y (h y refl))) end

  balance_ends : (r : Option ℕ) → EndsIn p v (to_balance r)
  balance_ends None = tt
  balance_ends (Some y) = tt

  pub word_ends : (m : Aim) → ((end : End) → m ≡ aims.Ends end → IsEndOf p end) → ((i a : ℕ) (x : Option ℕ) (y : ℕ) → m ≡ aims.Ends (answers.Hop i a x) → names.record_of (answers.Hop i a x) ≡ Some y → v.record_of (record { interface = i; next_hop = a; mac = x }) ≡ Some y) → EndsIn p v (aim_word names m)
  word_ends (aims.Ends answers.Drop) end hop = tt
  word_ends (aims.Ends answers.Receive) end hop = end answers.Receive refl
  word_ends (aims.Ends (answers.Glean i)) end hop = end (answers.Glean i) refl
  word_ends (aims.Ends (answers.Hop i a x)) end hop = adjacency_ends i a x (names.record_of (answers.Hop i a x)) (λ y e. hop i a x y refl e) (end (answers.Hop i a x) refl)
  word_ends (aims.On t) end hop = balance_ends (names.balance t)
