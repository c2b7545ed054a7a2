-- A version more: what stands between all stays, once what the change touches is queued.
use Rattle.std.proofs.Common.{◌≡◌, ℕ, zero, suc, ◌<◌, ◌||◌, inl, true, List, [], ◌∷◌, ◌++◌, refl, sym, ap, ◌∙◌, subst, arith}
use Rattle.std.specs.Prelude.{Option, Some, None, Contains, nat_lt, if◌then◌else◌}
use Rattle.std.proofs.lemmas.Bool.Decides.{nat_tests}
use Rattle.fib_addr.specs.Prefixes.{Prefix}
use Rattle.fib_resolve.specs.Tables.{IsSound}
use Rattle.fib_resolve.specs.Touched.{is_touched}
use Rattle.fib_resolve.specs.declared.types.Tables.{Tables}
use Rattle.fib_stack_queue.specs.Queues.{rank_in}
use Rattle.fib_stack_queue.specs.declared.order.Queued.{Queued}
use Rattle.fib_core_promise.specs.Matches.{FitsVersions, Promised, look_of, promised_by}
use Rattle.fib_core_promise.proofs.Answers.{promised_from, promised_to}
use Rattle.fib_plane_view.specs.Promise.{IsBegun, Promise}
use Rattle.fib_plane_view.specs.View.{View}
use Rattle.fib_ply.specs.Tables.{Stands, watch_of}
use Rattle.fib_ply.specs.Served.{KeepsBeside, Wanted}
use Rattle.fib_ply.proofs.Rewatching.{rewatch, wanted_begun}
use Rattle.fib_stack.specs.Joined.{Joined, Parts, balance_in, in_change, queued_in, state_in, table_of}
use Rattle.fib_stack.specs.Steps.{Applied}
use Rattle.fib_stack.proofs.Keeping.{applied_keeps}
use Rattle.fib_stack.proofs.Settling.{applied_steady, wider_steady}

-- more versions
more_there : (J : List Tables) (T V : Tables) → Contains J V → Contains (J ++ T ∷ []) V
more_there [] T V c = absurd (let lt = c.1 in omega (arith, lt))
more_there (U ∷ J) T V (zero, lt, is) = (0, omega arith, is)
more_there (U ∷ J) T V (suc k, lt, is) = let r = more_there J T V (k, omega (arith, lt), is) in (suc r.0, omega (arith, r.1), r.2)

last_there : (J : List Tables) (T : Tables) → Contains (J ++ T ∷ []) T
last_there [] T = (0, omega arith, refl)
last_there (U ∷ J) T = let r = last_there J T in (suc r.0, omega (arith, r.1), r.2)

begun_true : (n : ℕ) → 0 < n → nat_lt 0 n ≡ true
begun_true n lt = grind (arith, nat_tests)

module _ (S T : Tables) (rank new : Prefix → ℕ) (q r : Promise) (v : View) (s : Parts) (queue : List Queued) (j : Joined S rank q v s)
    (begun : IsBegun q) (began : IsBegun r) (waits : r.settled < r.applied) (versions : r.versions ≡ q.versions ++ T ∷ []) (sound : IsSound T)
    (queued : (e : Prefix) → queued_in (record s { queue = queue }) e ≡ queued_in s e || is_touched S T e)
    (ranks : (e : Prefix) (k : ℕ) → rank_in queue e ≡ Some k → k ≡ new e) where
  abbrev t : Parts
  t = record s { queue = queue }

  more : (V : Tables) → Contains q.versions V → Contains r.versions V
  more V c = subst (λ (J : List Tables). Contains J V) (sym versions) (more_there q.versions T V c)

  last : Contains r.versions T
  last = subst (λ (J : List Tables). Contains J T) (sym versions) (last_there q.versions T)

  applied : Applied S T (state_in v s) (state_in v t)
  applied = record { queue = queued; objects = refl; cell = refl; was = refl; late = refl; holds = refl }

  fits : FitsVersions r.versions (balance_in s)
  fits =
      let f = j.fits begun in record {
        some = λ e o at. (let g = f.some e o at in (g.0, (g.1.0, more g.1.0 g.1.1, g.1.2)));
        all = λ e lasts. f.all e (λ V c. lasts V (more V c));
      }

  abbrev balances : Prefix → Option ℕ
  balances = balance_in s

  -- less is promised
  fewer : (a o : ℕ) → Wanted (watch_of (in_change r) (table_of s)) a o → Wanted (watch_of (in_change q) (table_of s)) a o
  fewer a o want =
      let b = wanted_begun (watch_of (in_change r) (table_of s)) a o want in
      let p : Promised r.versions balances a o = promised_from r.versions balances a o b.1 in
      let k = j.table.2.at.kept in
      let was : Promised (k.newest ∷ k.older) balances a o = (p.0, (λ V c. p.1 V (more V (subst (λ (J : List Tables). Contains J V) (sym k.versions) c))), p.2) in
      let by : promised_by q.versions balances a ≡ Some o = ap (λ J. promised_by J balances a) k.versions ∙ promised_to k.newest k.older balances a o was in
      let on_time : nat_lt 0 q.applied ≡ true = begun_true q.applied begun in
      ap (λ b. if b then promised_by q.versions balances a else None) on_time ∙ by

  kept : KeepsBeside (watch_of (in_change r) (table_of s)) v
  kept =
      let k = j.table.2.at.kept in record {
        allowed = inl began;
        newest = k.newest;
        older = k.older ++ T ∷ [];
        versions = versions ∙ ap (λ J. J ++ T ∷ []) k.versions;
        buckets = λ b.
            let was = k.buckets begun in record {
              named = λ e lasts. was.named e (λ V c. lasts V (more V c));
              held = λ e o lasts at. was.held e o (λ V c. lasts V (more V c)) at;
              aimed = λ e o x m lasts at lt alike. was.aimed e o x m (λ V c. lasts V (more V c)) at lt (λ V c. alike V (more V c));
            };
        still = λ z. absurd (let b : 0 < r.applied = began in omega (arith, z, b));
      }

  table : Stands (in_change r) (table_of s) v
  table = (
    j.table.0,
    j.table.1,
    rewatch (watch_of (in_change q) (table_of s)) (watch_of (in_change r) (table_of s)) fewer (λ z. absurd (let b : 0 < r.applied = began in omega (arith, z, b))) (look_of balances) j.table.0 j.table.1 v kept j.table.2,
    j.table.3,
    j.table.4,
  )

  pub joined_changed : Joined T new r v t
  joined_changed = record {
    kept = applied_keeps S T (state_in v s) (state_in v t) sound j.kept applied;
    laid = record { counted = j.laid.counted; objects = j.laid.objects; balances = j.laid.balances; owned = j.laid.owned };
    table = table;
    fits = λ b. fits;
    steady = λ b. wider_steady q.versions r.versions (state_in v t) more (applied_steady q.versions S T (state_in v s) (state_in v t) (j.steady begun) applied);
    newest = λ b. last;
    ranked = ranks;
    waiting = λ e k at. waits;
    deferred = λ e k w at. waits;
  }
