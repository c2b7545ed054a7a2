use Rattle.std.proofs.Common.{◌≡◌, ◌∙◌, ◌<◌, ◌+◌, ◌||◌, ◌&&◌, not, ℕ, List, ap, inl, inr, ⊎_elim, sym, subst, arith}
use Rattle.std.specs.Prelude.{Option, Some, slice_get}
use Rattle.fib_addr.specs.Prefixes.{Prefix, same_prefix}
use Rattle.fib_resolve.specs.declared.aims.Marked.{Marked}
use Rattle.fib_resolve.specs.declared.types.Tables.{Tables}
use Rattle.fib_resolve_changes.specs.Wanted.{aim_of}
use Rattle.fib_pool.specs.declared.object.AdjacencyRecord.{AdjacencyRecord}
use Rattle.fib_stack_ledger.specs.declared.ledger.Known.{Known}
use Rattle.fib_stack_ledger.specs.declared.ledger.Use.{Use}
use Rattle.fib_stack_ledger.specs.Ledgers.{known_of, times, total, used_by}
use Rattle.fib_stack_ledger.proofs.Books.{times_within}
use Rattle.fib_core_promise.specs.Matches.{FitsVersions, IsSometime}
use Rattle.fib_core_promise.specs.Stack.{aim_word, is_some}
use Rattle.fib_plane_view.specs.Promise.{Promise, MayClear, Serves}
use Rattle.fib_plane_view.specs.Stores.{IsFreed, StoresEach}
use Rattle.fib_plane_view.specs.View.{View, IsLive}
use Rattle.fib_ply.specs.Rows.{held}
use Rattle.fib_ply.specs.Tables.{Stands, object_in}
use Rattle.fib_stack_queue.specs.Queues.{rank_in}
use Rattle.fib_stack.specs.Records.{AreObjects, GaveAll}
use Rattle.fib_stack.specs.Runs.{AreReady, word_in}
use Rattle.fib_stack.specs.Moments.{Moment, moment, parts_of}
use Rattle.fib_stack.specs.inner.Readied.{Course, IsFinished, IsUnderway, found_in, names_for}
use Rattle.fib_stack_waking.specs.Waking.{are_among, have_ranks}
use Rattle.fib_stack.proofs.Assembled.{has_run, is_restacked, laid_after, restacked}
use Rattle.fib_stack.proofs.Exact.{turn_stores}
use Rattle.fib_stack.proofs.Calling.{gives_then}
use Rattle.fib_stack.proofs.Filled.{filled_by}
use Rattle.fib_stack.proofs.Finishing.{entry_there, joined_restacked, queue_removed, rank_left}
use Rattle.fib_stack.proofs.Joining.{begun_of, table_quiet, to_change, to_now}
use Rattle.fib_stack.proofs.Leaving.{quiet_then}
use Rattle.fib_stack.proofs.Listing.{objects_kept}
use Rattle.fib_stack.proofs.Underway.{ready, the_names, waits}
use Rattle.fib_stack.proofs.finish.finish.Goals.{After-words-1, After-place-arg-3-1, After-drop-plan-2}
use Rattle.fib_stack.proofs.finish.finish.Goals as goal

-- what the words are
words : (g : _) (c : After-words-1 g) → (k : ℕ) → k < 16 → word_in c.words_of-words.result k ≡ aim_word (names_for (parts_of c.args.table.now c.args.stack.now c.args.queue.now) c.args.plan.uses.items) (aim_of (slice_get c.args.plan.wanted.items k))
words g c k lt =
    c.words_of-words.ensures.words k lt
    ∙ ap (λ (us : List Use). aim_word (record { balance = object_in c.args.table.now; record_of = found_in us }) (aim_of (slice_get c.as_slice-2.result.now k))) c.as_slice.ensures.value
    ∙ ap (λ (ms : List Marked). aim_word (record { balance = object_in c.args.table.now; record_of = found_in c.args.plan.uses.items }) (aim_of (slice_get ms k))) c.as_slice-2.ensures.value

are_ready : (g : _) (c : After-words-1 g) (S : Tables) (rank : Prefix → ℕ) (v0 : View) (h : IsUnderway S rank (g.P.Objects.promise c.args.on.now) v0 (moment (g.P.Objects.view c.args.on.now) c.args.table.now c.args.stack.now c.args.queue.now) c.args.plan)
    → AreReady (g.P.Objects.promise c.args.on.now) (the_names S rank _ v0 _ c.args.plan h).0 (g.P.Objects.view c.args.on.now) c.args.plan.object 0 c.words_of-words.result
are_ready g c S rank v0 h = ready S rank (g.P.Objects.promise c.args.on.now) v0 (moment (g.P.Objects.view c.args.on.now) c.args.table.now c.args.stack.now c.args.queue.now) c.args.plan h (g.met.P.Objects.sound c.args.on.now) (λ m. times_within c.args.stack.now.ledger.rows c.args.plan.entry m) c.words_of-words.result (words g c)

pub fill-answers-requires-clause-allowed : goal.fill-answers-requires-clause-allowed
fill-answers-requires-clause-allowed g c = let u = c.requires.underway in inl (waits u.0 u.1 _ u.2 _ c.args.plan u.3)

pub fill-answers-requires-clause-begun : goal.fill-answers-requires-clause-begun
fill-answers-requires-clause-begun g c = let u = c.requires.underway in begun_of (g.P.Objects.promise c.args.on.now) (waits u.0 u.1 _ u.2 _ c.args.plan u.3)

pub fill-answers-requires-clause-balance : goal.fill-answers-requires-clause-balance
fill-answers-requires-clause-balance g c = c.requires.underway.3.readied.here

pub fill-answers-requires-clause-ready : goal.fill-answers-requires-clause-ready
fill-answers-requires-clause-ready g c = let u = c.requires.underway in ((the_names u.0 u.1 _ u.2 _ c.args.plan u.3).0, are_ready g c u.0 u.1 u.2 u.3)

pub give_old-requires-clause-users : goal.give_old-requires-clause-users
give_old-requires-clause-users g c = λ m.
    let h = c.requires.underway.3 in
    let e = ap (λ (o : Option Known). times m (used_by o)) c.set-old.ensures.result in
    let w = times_within c.args.stack.now.ledger.rows c.args.plan.entry m in
    let f = filled_by (g.P.Objects.view c.args.on.now) (g.P.Objects.view c.fill-answers.new.on) c.args.plan.object 0 c.words_of-words.result c.fill-answers.result h.readied.here c.fill-answers.ensures.puts in
    let u = ap (λ (x : AdjacencyRecord → ℕ). x m) f.records.users in
    omega (arith, e, w, u, h.readied.users m, h.joined.laid.counted m)

pub give_old-requires-clause-objects : goal.give_old-requires-clause-objects
give_old-requires-clause-objects g c =
    let h = c.requires.underway.3 in
    let f = filled_by (g.P.Objects.view c.args.on.now) (g.P.Objects.view c.fill-answers.new.on) c.args.plan.object 0 c.words_of-words.result c.fill-answers.result h.readied.here c.fill-answers.ensures.puts in
    subst (λ (o : Option Known). AreObjects (g.P.Objects.view c.fill-answers.new.on) (used_by o)) (sym c.set-old.ensures.result)
    (objects_kept c.requires.underway.2 (g.P.Objects.view c.fill-answers.new.on) (used_by (known_of c.args.stack.now.ledger.rows c.args.plan.entry))
    (λ m lt. ap (λ (x : AdjacencyRecord → Option ℕ). x m) f.records.record_of ∙ h.readied.kept m (omega (arith, lt, times_within c.args.stack.now.ledger.rows c.args.plan.entry m, h.joined.laid.counted m)))
    (h.joined.laid.objects c.args.plan.entry))

pub give_old-requires-clause-promise : goal.give_old-requires-clause-promise
give_old-requires-clause-promise g c =
    let u = c.requires.underway in
    subst (λ (p : Promise). MayClear p (g.P.Objects.view c.fill-answers.new.on)) (sym c.fill-answers.ensures.promise) (
      inl (waits u.0 u.1 _ u.2 _ c.args.plan u.3),
      (
        (the_names u.0 u.1 _ u.2 _ c.args.plan u.3).0,
        (c.fill-answers.ensures.ready (the_names u.0 u.1 _ u.2 _ c.args.plan u.3).0
            (ready u.0 u.1 (g.P.Objects.promise c.args.on.now) u.2 (moment (g.P.Objects.view c.args.on.now) c.args.table.now c.args.stack.now c.args.queue.now) c.args.plan u.3 (g.met.P.Objects.sound c.args.on.now) (λ m. times_within c.args.stack.now.ledger.rows c.args.plan.entry m) c.words_of-words.result
            (λ k lt.
            c.words_of-words.ensures.words k lt
            ∙ ap (λ (us : List Use). aim_word (record { balance = object_in c.args.table.now; record_of = found_in us }) (aim_of (slice_get c.as_slice-2.result.now k))) c.as_slice.ensures.value
            ∙ ap (λ (ms : List Marked). aim_word (record { balance = object_in c.args.table.now; record_of = found_in c.args.plan.uses.items }) (aim_of (slice_get ms k))) c.as_slice-2.ensures.value))).serves,
      ),
    )

serves4 : (g : _) (c : After-place-arg-3-1 g) (S : Tables) (rank : Prefix → ℕ) (v0 : View) (h : IsUnderway S rank (g.P.Objects.promise c.args.on.now) v0 (moment (g.P.Objects.view c.args.on.now) c.args.table.now c.args.stack.now c.args.queue.now) c.args.plan)
    → Serves (g.P.Objects.promise c.args.on.now) (the_names S rank _ v0 _ c.args.plan h).0 (g.P.Objects.view c.give_old.new.on)
serves4 g c S rank v0 h =
    let n = (the_names S rank _ v0 _ c.args.plan h).0 in
    subst (λ (p : Promise). Serves p n (g.P.Objects.view c.fill-answers.new.on) → Serves p n (g.P.Objects.view c.give_old.new.on)) c.fill-answers.ensures.promise (c.give_old.ensures.serves n)
    ((c.fill-answers.ensures.ready n
    (ready S rank (g.P.Objects.promise c.args.on.now) v0 (moment (g.P.Objects.view c.args.on.now) c.args.table.now c.args.stack.now c.args.queue.now) c.args.plan h (g.met.P.Objects.sound c.args.on.now) (λ m. times_within c.args.stack.now.ledger.rows c.args.plan.entry m) c.words_of-words.result
    (λ k lt.
    c.words_of-words.ensures.words k lt
    ∙ ap (λ (us : List Use). aim_word (record { balance = object_in c.args.table.now; record_of = found_in us }) (aim_of (slice_get c.as_slice-2.result.now k))) c.as_slice.ensures.value
    ∙ ap (λ (ms : List Marked). aim_word (record { balance = object_in c.args.table.now; record_of = found_in c.args.plan.uses.items }) (aim_of (slice_get ms k))) c.as_slice-2.ensures.value))).serves)

pub place-requires-clause-stands : goal.place-requires-clause-stands
place-requires-clause-stands g c =
    let u = c.requires.underway in
    let p = g.P.Objects.promise c.args.on.now in
    let h = u.3 in
    let b = begun_of p (waits u.0 u.1 _ u.2 _ c.args.plan h) in
    let n = the_names u.0 u.1 _ u.2 _ c.args.plan h in
    let quiet = quiet_then (held c.args.table.now.rows.members) u.2 (g.P.Objects.view c.args.on.now) (g.P.Objects.view c.give_old.new.on) (h.readied.quiet _) (quiet_then _ _ (g.P.Objects.view c.fill-answers.new.on) _ (c.fill-answers.ensures.quiet _) (c.give_old.ensures.quiet _)) in
    subst (λ (q : Promise). Stands q c.args.table.now (g.P.Objects.view c.give_old.new.on)) (sym (c.give_old.ensures.promise ∙ c.fill-answers.ensures.promise))
    (to_now p c.args.table.now (g.P.Objects.view c.give_old.new.on) (inl (waits u.0 u.1 _ u.2 _ c.args.plan h))
    (table_quiet p c.args.table.now u.2 (g.P.Objects.view c.give_old.new.on) n.0 b h.joined.table quiet (g.met.P.Objects.sound c.give_old.new.on) n.1 (serves4 g c u.0 u.1 u.2 h)))

pub place-requires-clause-fits : goal.place-requires-clause-fits
place-requires-clause-fits g c =
    let u = c.requires.underway in
    subst (λ (q : Promise). FitsVersions q.versions (object_in c.args.table.now)) (sym (c.give_old.ensures.promise ∙ c.fill-answers.ensures.promise))
    (u.3.joined.fits (begun_of (g.P.Objects.promise c.args.on.now) (waits u.0 u.1 _ u.2 _ c.args.plan u.3)))

pub place-requires-clause-sometime : goal.place-requires-clause-sometime
place-requires-clause-sometime g c =
    let u = c.requires.underway in
    subst (λ (q : Promise). IsSometime q.versions c.args.plan.entry) (sym (c.give_old.ensures.promise ∙ c.fill-answers.ensures.promise))
    (u.0, u.3.joined.newest (begun_of (g.P.Objects.promise c.args.on.now) (waits u.0 u.1 _ u.2 _ c.args.plan u.3)), entry_there u.0 c.args.plan.entry u.3.effective)

pub place-requires-clause-free : goal.place-requires-clause-free
place-requires-clause-free g c = λ none.
    let h = c.requires.underway.3 in
    let f = filled_by (g.P.Objects.view c.args.on.now) (g.P.Objects.view c.fill-answers.new.on) c.args.plan.object 0 c.words_of-words.result c.fill-answers.result h.readied.here c.fill-answers.ensures.puts in
    omega (arith, h.free none, f.free, c.give_old.ensures.gave.free)

pub place-requires-clause-begun : goal.place-requires-clause-begun
place-requires-clause-begun g c =
    let u = c.requires.underway in
    subst (λ (q : Promise). 0 < q.applied) (sym (c.give_old.ensures.promise ∙ c.fill-answers.ensures.promise)) (begun_of (g.P.Objects.promise c.args.on.now) (waits u.0 u.1 _ u.2 _ c.args.plan u.3))

pub place-requires-clause-which : goal.place-requires-clause-which
place-requires-clause-which g c = ⊎_elim (λ (a : object_in c.args.table.now c.args.plan.entry ≡ Some c.args.plan.object). inl a) (λ b. inr b.0) c.requires.underway.3.readied.which

pub place-requires-clause-balance : goal.place-requires-clause-balance
place-requires-clause-balance g c = c.give_old.ensures.gave.balances.stay c.args.plan.object c.fill-answers.ensures.balance

abbrev begun : (g : _) (c : After-drop-plan-2 g) → Moment
begun g c = moment (g.P.Objects.view c.args.on.now) c.args.table.now c.args.stack.now c.args.queue.now

abbrev ended : (g : _) (c : After-drop-plan-2 g) → Moment
ended g c = moment (g.P.Objects.view c.place.new.on) c.place.new.table (record { ledger = c.set-old.new.self; late = c.defer-deferred.new.late }) c.wake_all.new.queue

abbrev course : (g : _) (c : After-drop-plan-2 g) → Course
course g c = record { words = c.words_of-words.result; answers = c.fill-answers.result; filled = g.P.Objects.view c.fill-answers.new.on; given = g.P.Objects.view c.give_old.new.on }

-- what the calls of the body did
steps : (g : _) (c : After-drop-plan-2 g) (S : Tables) (rank : Prefix → ℕ) (v0 : View) → IsUnderway S rank (g.P.Objects.promise c.args.on.now) v0 (begun g c) c.args.plan
    → IsFinished S c.args.plan (begun g c) (course g c) (ended g c)
steps g c S rank v0 h = record {
  puts = c.fill-answers.ensures.puts;
  sixteen = c.words_of-words.ensures.sixteen;
  words = λ k lt.
      c.words_of-words.ensures.words k lt
      ∙ ap (λ (us : List Use). aim_word (record { balance = object_in c.args.table.now; record_of = found_in us }) (aim_of (slice_get c.as_slice-2.result.now k))) c.as_slice.ensures.value
      ∙ ap (λ (ms : List Marked). aim_word (record { balance = object_in c.args.table.now; record_of = found_in c.args.plan.uses.items }) (aim_of (slice_get ms k))) c.as_slice-2.ensures.value;
  late = c.defer-deferred.ensures.here;
  others_late = λ d k ne. c.defer-deferred.ensures.others d k ne ∙ c.clear.ensures.others d k ne;
  known = c.set-old.ensures.here ∙ ap (λ (l : List Use). Some (record { forwarded = c.args.plan.forwards; uses = l })) c.from_vec.ensures;
  others_known = c.set-old.ensures.others;
  totals = λ m.
      ap (λ (o : Option Known). times m (used_by o) + total c.set-old.new.self.rows m) (sym c.set-old.ensures.result)
      ∙ c.set-old.ensures.total m
      ∙ ap (λ (l : List Use). times m l + total c.args.stack.now.ledger.rows m) c.from_vec.ensures;
  counted0 = λ d m. times_within c.args.stack.now.ledger.rows d m;
  counted1 = λ d m. times_within c.set-old.new.self.rows d m;
  back = subst (λ (o : Option Known). GaveAll (g.P.Objects.view c.fill-answers.new.on) (g.P.Objects.view c.give_old.new.on) (used_by o)) c.set-old.ensures.result c.give_old.ensures.gave;
  placed = c.place.ensures.beside;
  plane = g.met.P.Objects.sound c.place.new.on;
  balance = c.place.ensures.here;
  others_balance = c.place.ensures.others;
  queue = λ d.
      c.wake_all.ensures.queued d
      ∙ ap (λ b. b || are_among c.as_slice-3.result.now d) (queue_removed (rank_in c.remove.new.self.members d) (rank_in c.args.queue.now.members d) c.args.plan.entry d (c.remove.ensures.ranks d))
      ∙ ap (λ b. (is_some (rank_in c.args.queue.now.members d) && not (same_prefix d c.args.plan.entry)) || b) (ap (λ qs. are_among qs d) c.as_slice-3.ensures.value ∙ h.woken d);
}

pub returns-clause-turn : goal.returns-clause-turn
returns-clause-turn g c = λ S rank v0 h.
    let p = g.P.Objects.promise c.args.on.now in
    let v2 = g.P.Objects.view c.args.on.now in
    let v3 = g.P.Objects.view c.fill-answers.new.on in
    let v4 = g.P.Objects.view c.give_old.new.on in
    let v5 = g.P.Objects.view c.place.new.on in
    let us = c.args.plan.uses.items in
    let lt = waits S rank p v0 (begun g c) c.args.plan h in
    let laid = laid_after S rank p v0 c.args.plan (begun g c) (course g c) (ended g c) h.ranked h.joined.kept h.least h.joined.laid h.readied (steps g c S rank v0 h) in
    let promised = c.place.ensures.promise ∙ c.give_old.ensures.promise ∙ c.fill-answers.ensures.promise in
    let known = c.set-old.ensures.here ∙ ap (λ (l : List Use). Some (record { forwarded = c.args.plan.forwards; uses = l })) c.from_vec.ensures in
    record {
      turn = is_restacked S rank p v0 c.args.plan (begun g c) (course g c) (ended g c) h.ranked h.joined.kept h.least h.joined.laid h.readied (steps g c S rank v0 h);
      run = λ u took.
          has_run S rank p v0 c.args.plan (begun g c) (course g c) (ended g c) h.ranked h.joined.kept h.least h.joined.laid h.readied (steps g c S rank v0 h)
          u took (gives_then _ _ _ c.give_old.ensures.given c.place.ensures.given);
      stores = λ u at f.
          let same : v5 ≡ v4 = c.place.ensures.same at in
          turn_stores u v2 v3 v5 c.args.plan.object us (g.met.P.Objects.sound c.args.on.now) h.readied.here (laid.balances c.args.plan.entry c.args.plan.object c.place.ensures.here) h.readied.objects
          (subst (λ (o : Option Known). AreObjects v5 (used_by o)) known (laid.objects c.args.plan.entry))
          c.fill-answers.ensures.alive (λ y live. c.give_old.ensures.alive y (subst (λ (v : View). IsLive v y) same live))
          f c.fill-answers.ensures.stores (subst (λ (v : View). StoresEach (λ y t. IsFreed v3 v y) v3 v) (sym same) c.give_old.ensures.stores);
      joined =
          joined_restacked S rank p v0 v5 c.args.plan.entry c.args.plan.object _ _ h.ranked h.joined h.least h.effective lt
          (restacked S rank p v0 c.args.plan (begun g c) (course g c) (ended g c) h.ranked h.joined.kept h.least h.joined.laid h.readied (steps g c S rank v0 h))
          laid
          (to_change p c.place.new.table v5 (begun_of p lt) (subst (λ (q : Promise). Stands q c.place.new.table v5) promised c.place.ensures.stands))
          (subst (λ (q : Promise). FitsVersions q.versions (object_in c.place.new.table)) promised c.place.ensures.fits)
          (λ d r at. ⊎_elim
          (λ (old : rank_in c.remove.new.self.members d ≡ Some r). inl (rank_left (rank_in c.remove.new.self.members d) (rank_in c.args.queue.now.members d) c.args.plan.entry d r (c.remove.ensures.ranks d) old))
          (λ (new : r ≡ rank d). inr new)
          (c.wake_all.ensures.ranks rank (subst (have_ranks rank) (sym c.as_slice-3.ensures.value) h.ranks) d r at));
    }

pub returns-clause-stored : goal.returns-clause-stored
returns-clause-stored g c =
    let h = c.requires.underway.3 in
    let f = filled_by (g.P.Objects.view c.args.on.now) (g.P.Objects.view c.fill-answers.new.on) c.args.plan.object 0 c.words_of-words.result c.fill-answers.result h.readied.here c.fill-answers.ensures.puts in
    omega (arith, f.stored, c.give_old.ensures.gave.stored, c.place.ensures.stored)

pub returns-clause-came : goal.returns-clause-came
returns-clause-came g c =
    let h = c.requires.underway.3 in
    let f = filled_by (g.P.Objects.view c.args.on.now) (g.P.Objects.view c.fill-answers.new.on) c.args.plan.object 0 c.words_of-words.result c.fill-answers.result h.readied.here c.fill-answers.ensures.puts in
    (c.place.ensures.came.0, c.place.ensures.came.1, omega (arith, c.place.ensures.came.2, f.free, c.give_old.ensures.gave.free))
