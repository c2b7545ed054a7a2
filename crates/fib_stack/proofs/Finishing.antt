-- What a turn leaves is what stood before it.
use Rattle.std.proofs.Common.{◌≡◌, ℕ, ◌%◌, ◌<◌, ◌≤◌, inl, ⊎_elim, Bool, true, false, true≢false, not, ◌&&◌, List, refl, sym, ap, ◌∙◌, subst, arith}
use Rattle.std.specs.Prelude.{Contains, Err, Ok, OnErr, OnOk, Option, Result, Some, None, ◌⊎◌, if◌then◌else◌}
use Rattle.std.proofs.lemmas.Map.Made.{is_member-Decides}
use native.Mathlib.Decide.{ℕ_discrete}
use mathlib.Core.Logic.{dite}
use Rattle.fib_addr.specs.Longest.{everything}
use Rattle.fib_addr.specs.Prefixes.{IsPrefix, Prefix, same_prefix, size_of}
use Rattle.fib_addr.proofs.PrefixLaws.{same_prefix-Decides}
use Rattle.fib_resolve.specs.Pairs.{entries}
use Rattle.fib_resolve.specs.declared.types.Tables.{Tables}
use Rattle.fib_resolve_changes.specs.Ranks.{IsRanked, has_entry}
use Rattle.fib_core_stands.proofs.Nibbles.{everything_entry}
use Rattle.fib_core_steady.specs.Aims.{IsLasting}
use Rattle.fib_plane_view.specs.Promise.{Promise, MayClear, MayLetGo}
use Rattle.fib_plane_view.specs.View.{View, IsBalance, IsLetGo, IsPlane}
use Rattle.fib_ply.specs.Rows.{held}
use Rattle.fib_ply.specs.Tables.{Came, Table, Stands, object_in}
use Rattle.fib_stack_queue.specs.Queues.{rank_in}
use Rattle.fib_core_promise.specs.Matches.{FitsVersions, added, removed}
use Rattle.fib_core_promise.specs.Stack.{is_some}
use Rattle.fib_stack.specs.Joined.{IsLaid, Joined, Parts, balance_in, in_change, state_in, table_of}
use Rattle.fib_stack.specs.Steps.{IsLeast, Removed, Restacked}
use Rattle.fib_stack_waking.proofs.Woken.{self_same}
use Rattle.fib_stack.proofs.Clearing.{let_go_serves}
use Rattle.fib_stack.proofs.Joining.{begun_of, table_names, table_quiet, to_change, to_now}
use Rattle.fib_stack.proofs.Keeping.{ne_prefix, prefix_discrete, removed_keeps, restacked_keeps}
use Rattle.fib_stack.proofs.Leaving.{let_go_quiet}
use Rattle.fib_stack.proofs.Settling.{is_entry, removed_steady, restacked_steady}

-- one prefix more or less
pub added_here : (look : Prefix → Option ℕ) (e : Prefix) (o : ℕ) → added look e o e ≡ Some o
added_here look e o = ap (λ b. if b then Some o else look e) (self_same e)

pub added_there : (look : Prefix → Option ℕ) (e : Prefix) (o : ℕ) (d : Prefix) → (d ≡ e → ⊥) → added look e o d ≡ look d
added_there look e o d ne = ap (λ b. if b then Some o else look d) (ne_prefix d e ne)

pub removed_here : (look : Prefix → Option ℕ) (e : Prefix) → removed look e e ≡ None
removed_here look e = ap (λ b. if b then None else look e) (self_same e)

pub removed_there : (look : Prefix → Option ℕ) (e d : Prefix) → (d ≡ e → ⊥) → removed look e d ≡ look d
removed_there look e d ne = ap (λ b. if b then None else look d) (ne_prefix d e ne)

turned : (d e : Prefix) → same_prefix e d ≡ same_prefix d e
turned d e = dite (prefix_discrete d e)
    (λ is. (same_prefix-Decides e d).1 (sym is) ∙ sym ((same_prefix-Decides d e).1 is))
    (λ ne. ne_prefix e d (λ is. ne (sym is)) ∙ sym (ne_prefix d e ne))

-- a prefix left the queue
pub queue_removed : (new now : Option ℕ) (e d : Prefix) → new ≡ (if same_prefix e d then None else now) → is_some new ≡ is_some now && not (same_prefix d e)
queue_removed new now e d is = ap is_some is ∙ by (same_prefix e d) ∙ ap (λ b. is_some now && not b) (turned d e)
  where
    by : (b : Bool) → is_some (if b then None else now) ≡ is_some now && not b
    by true = none_and (is_some now)
      where
        none_and : (c : Bool) → false ≡ c && false
        none_and true = refl
        none_and false = refl
    by false = all_and (is_some now)
      where
        all_and : (c : Bool) → c ≡ c && true
        all_and true = refl
        all_and false = refl

pub rank_left : (new now : Option ℕ) (e d : Prefix) (r : ℕ) → new ≡ (if same_prefix e d then None else now) → new ≡ Some r → now ≡ Some r
rank_left new now e d r is at = by (same_prefix e d) refl
  where
    by : (b : Bool) → same_prefix e d ≡ b → now ≡ Some r
    by true t = absurd (let bad : None ≡ Some r = sym (is ∙ ap (λ b. if b then None else now) t) ∙ at in cc)
    by false f = sym (is ∙ ap (λ b. if b then None else now) f) ∙ at

bits_none : (b : ℕ) → b < 4294967296 → b % 4294967296 ≡ 0 → b ≡ 0
bits_none b lt m = omega (arith, lt, m)

pub whole_is : (e : Prefix) → IsPrefix e → e.len ≡ 0 → e ≡ everything
whole_is e h z =
    let c : e.bits % 4294967296 ≡ 0 = subst (λ (n : ℕ). e.bits % size_of n ≡ 0) z h.cleared in
    let b : e.bits ≡ 0 = bits_none e.bits h.fits c in
    λ k. record { bits = b k; len = z k }

pub none_came : (look : Prefix → Option ℕ) (e : Prefix) → Came look e 0
none_came look e = record { few = omega arith; bare = λ d lt le needs. absurd (omega (arith, lt, le)) }

-- 0.0.0.0/0 is in every table, and among all entries
pub some_length : (p : Promise) (t : Table) (v : View) (e : Prefix) → Stands p t v → IsPrefix e → object_in t e ≡ None → 1 ≤ e.len
some_length p t v e s prefix none = dite (ℕ_discrete e.len 0)
    (λ z. absurd (let w = s.2.at.sound.whole in let bad : None ≡ Some w.0 = sym none ∙ ap (object_in t) (whole_is e prefix z) ∙ w.1 in cc))
    (λ ne. omega (arith, ne))

pub some_length_left : (S : Tables) (e : Prefix) → IsPrefix e → has_entry S e ≡ false → 1 ≤ e.len
some_length_left S e prefix left = dite (ℕ_discrete e.len 0)
    (λ z. absurd (true≢false (sym (is_entry S everything (everything_entry S)) ∙ ap (has_entry S) (sym (whole_is e prefix z)) ∙ left)))
    (λ ne. omega (arith, ne))

pub stands_clear : (p : Promise) (t : Table) (v : View) → p.settled < p.applied → Stands p t v → MayClear p v
stands_clear p t v lt s = let n = table_names p t v (to_change p t v (begun_of p lt) s) in (inl lt, (n.0, n.2))

-- a balance that no prefix of the table has may be let go, and is let go beside it
module _ (p : Promise) (t : Table) (u : View) (o : ℕ) (lt : p.settled < p.applied) (s : Stands p t u) (none : (d : Prefix) → object_in t d ≡ Some o → ⊥) where
  pub may_let_go : MayLetGo p u o
  may_let_go = let n = table_names p t u (to_change p t u (begun_of p lt) s) in
      (inl lt, (n.0, n.2, λ b e lasts is. none e (subst (λ (f : Prefix → Option ℕ). f e ≡ Some o) n.1 is)))

  pub left_stands : (v : View) → IsPlane v → IsBalance u o → IsLetGo u v o → Stands p t v
  left_stands v plane mine go =
      let n = table_names p t u (to_change p t u (begun_of p lt) s) in
      to_now p t v (inl lt)
      (table_quiet p t u v n.0 (begun_of p lt) (to_change p t u (begun_of p lt) s)
      (let_go_quiet u v o plane mine go (held t.rows.members) (λ m. none m.0 m.1)) plane n.1
      (let_go_serves p n.0 u v o go (λ b e lasts is. none e (subst (λ (f : Prefix → Option ℕ). f e ≡ Some o) n.1 is)) n.2))

pub gone_none : (f g : Prefix → Option ℕ) (e : Prefix) (o : ℕ) → g e ≡ None → ((d : Prefix) → (d ≡ e → ⊥) → g d ≡ f d) → f e ≡ Some o → ((d : Prefix) (x : ℕ) → f e ≡ Some x → f d ≡ Some x → d ≡ e) → (d : Prefix) → g d ≡ Some o → ⊥
gone_none f g e o here there at apart d is = dite (prefix_discrete d e)
    (λ same. let bad : None ≡ Some o = sym here ∙ ap g (sym same) ∙ is in cc)
    (λ ne. ne (apart d o at (sym (there d ne) ∙ is)))

pub not_lasting : (J : List Tables) (S : Tables) (e : Prefix) → Contains J S → has_entry S e ≡ false → IsLasting J e → ⊥
not_lasting J S e c left lasts = true≢false (sym (is_entry S e (lasts S c)) ∙ left)

pub entry_there : (S : Tables) (e : Prefix) → has_entry S e ≡ true → Contains (entries S) e
entry_there S e h = (is_member-Decides same_prefix-Decides (entries S) e).0 h

-- all that stands, after a turn of an entry
pub joined_restacked : (S : Tables) (rank : Prefix → ℕ) (p : Promise) (v0 v : View) (e : Prefix) (o : ℕ) (s t : Parts) → IsRanked S rank → Joined S rank p v0 s → IsLeast rank (state_in v0 s) e → has_entry S e ≡ true → p.settled < p.applied
    → Restacked S e o (state_in v0 s) (state_in v t) → IsLaid v t → Stands (in_change p) (table_of t) v → FitsVersions p.versions (balance_in t)
    → ((d : Prefix) (r : ℕ) → rank_in t.queue d ≡ Some r → (rank_in s.queue d ≡ Some r) ⊎ (r ≡ rank d)) → Joined S rank p v t
joined_restacked S rank p v0 v e o s t ranked j least has waits turn laid table fits ranks = record {
  kept = restacked_keeps S rank e o (state_in v0 s) (state_in v t) ranked j.kept least has turn;
  laid = laid;
  table = table;
  fits = λ b. fits;
  steady = λ b. restacked_steady p.versions S (j.newest b) e o (state_in v0 s) (state_in v t) (j.steady b) turn;
  newest = j.newest;
  ranked = λ d r at. ⊎_elim (λ (old : rank_in s.queue d ≡ Some r). j.ranked d r old) (λ (new : r ≡ rank d). new) (ranks d r at);
  waiting = λ d r at. waits;
  deferred = λ d k w at. waits;
}

-- and after one of a prefix that left
pub joined_removed : (S : Tables) (rank : Prefix → ℕ) (p : Promise) (v0 v : View) (e : Prefix) (s t : Parts) → IsRanked S rank → Joined S rank p v0 s → IsLeast rank (state_in v0 s) e → has_entry S e ≡ false → p.settled < p.applied
    → Removed e (state_in v0 s) (state_in v t) → IsLaid v t → Stands (in_change p) (table_of t) v → FitsVersions p.versions (balance_in t)
    → ((d : Prefix) (r : ℕ) → rank_in t.queue d ≡ Some r → rank_in s.queue d ≡ Some r) → Joined S rank p v t
joined_removed S rank p v0 v e s t ranked j least left waits turn laid table fits ranks = record {
  kept = removed_keeps S rank e (state_in v0 s) (state_in v t) ranked j.kept least.queued left turn;
  laid = laid;
  table = table;
  fits = λ b. fits;
  steady = λ b. removed_steady p.versions S rank (j.newest b) e (state_in v0 s) (state_in v t) ranked left (j.steady b) turn;
  newest = j.newest;
  ranked = λ d r at. j.ranked d r (ranks d r at);
  waiting = λ d r at. waits;
  deferred = λ d k w at. waits;
}

some_rank : (o : Option ℕ) → is_some o ≡ true → (r : ℕ) × (o ≡ Some r)
some_rank None h = absurd (cc)
some_rank (Some r) h = (r, refl)

pub waits_of : (S : Tables) (rank : Prefix → ℕ) (p : Promise) (v : View) (s : Parts) (e : Prefix) → Joined S rank p v s → IsLeast rank (state_in v s) e → p.settled < p.applied
waits_of S rank p v s e j least = let q = some_rank (rank_in s.queue e) least.queued in j.waiting e q.0 q.1

pub ok_no_err : {A B : Type 0} {x : A} {e : B} → ◌≡◌ {A = Result A B} (Ok x) (Err e) → ⊥
ok_no_err is = cc

pub on_any : {A B : Type 0} {P : Type 0} (r : Result A B) → P → OnOk r P
on_any (Ok x) h = h
on_any (Err e) h = tt

pub on_ok : {A B : Type 0} {P Q : Type 0} (r : Result A B) → (P → Q) → OnOk r P → OnOk r Q
on_ok (Ok x) f h = f h
on_ok (Err e) f h = tt

pub both_ok : {A B : Type 0} {P Q R : Type 0} (r : Result A B) → (P → Q → R) → OnOk r P → OnOk r Q → OnOk r R
both_ok (Ok x) f h k = f h k
both_ok (Err e) f h k = tt

pub both_err : {A B : Type 0} {P Q R : Type 0} (r : Result A B) → (P → Q → R) → OnErr r P → OnErr r Q → OnErr r R
both_err (Ok x) f h k = tt
both_err (Err e) f h k = f h k

pub either_way : {A B : Type 0} {P Q R : Type 0} (r : Result A B) → (P → R) → (Q → R) → OnOk r P → OnErr r Q → R
either_way (Ok x) f g h k = f h
either_way (Err e) f g h k = g k
