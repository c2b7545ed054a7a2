-- The steps of a turn make a turn of the definition.
use Rattle.std.proofs.Common.{◌≡◌, ◌≢◌, ℕ, ◌+◌, ◌<◌, ◌≤◌, inl, inr, ⊎_elim, Bool, true, false, true≢false, not, ◌&&◌, ◌||◌, cond, List, [], ◌∷◌, ◌++◌, map, refl, sym, ap, ◌∙◌, subst, arith}
use Rattle.std.specs.Prelude.{Option, Some, None, filter, slice_get, option_to_list, if◌then◌else◌}
use Rattle.std.proofs.lemmas.Bool.Decides.{nat_tests}
use Rattle.std.specs.List.{list_any}
use mathlib.Core.Logic.{dite}
use Rattle.fib_addr.specs.Prefixes.{Prefix, same_prefix}
use Rattle.fib_resolve.specs.Aims.{aim, marked_list}
use Rattle.fib_resolve.specs.Forwarding.{forwards}
use Rattle.fib_resolve.specs.Touched.{differ}
use Rattle.fib_resolve.specs.declared.aims.Aim.{Aim}
use Rattle.fib_resolve.specs.declared.aims.Aim.TheVariants as aims
use Rattle.fib_resolve.specs.declared.aims.Marked.{Marked}
use Rattle.fib_resolve.specs.declared.types.End.{End}
use Rattle.fib_resolve.specs.declared.types.End.TheVariants as answers
use Rattle.fib_resolve.specs.declared.types.Tables.{Tables}
use Rattle.fib_core.specs.declared.word.Word.{Word}
use Rattle.fib_pool.specs.declared.object.AdjacencyRecord.{AdjacencyRecord}
use Rattle.fib_resolve_changes.specs.Ranks.{counts_on, is_usable_mark, wakes, IsRanked}
use Rattle.fib_resolve_changes.specs.Wanted.{aim_by, aim_of, of_least_mark, spread_marks}
use Rattle.fib_resolve_changes.proofs.MarkLaws.{aim_is}
use Rattle.fib_stack_ledger.specs.declared.ledger.Known.{Known}
use Rattle.fib_stack_ledger.specs.declared.ledger.Use.{Use}
use Rattle.fib_stack_ledger.specs.Deferred.{late_at}
use Rattle.fib_stack_ledger.specs.Ledgers.{forwarded_by, record_used, same_record, times, used_by}
use Rattle.fib_core_promise.specs.Kept.{same_end}
use Rattle.fib_core_promise.specs.Stack.{Objects, aim_word, is_some}
use Rattle.fib_plane_view.specs.declared.put.Put.{Put}
use Rattle.fib_plane_view.specs.declared.put.Put.TheVariants as puts
use Rattle.fib_plane_view.specs.Promise.{Promise}
use Rattle.fib_plane_view.specs.View.{View, IsBalance}
use Rattle.fib_stack.specs.Buckets.{recorded}
use Rattle.fib_stack.specs.Joined.{Parts, IsLaid, balance_in, holds_by, queued_in, state_in, was_by}
use Rattle.fib_stack.specs.Records.{AreObjects, end_used, holds_in, record_for, records_for}
use Rattle.fib_stack.specs.Runs.{word_in, put_in, Settled, IsFilled, deferred_at, late_word}
use Rattle.fib_stack.specs.States.{Fits, Kept, ends_there, has_hop, is_recorded}
use Rattle.fib_stack.specs.Steps.{IsLeast, Restacked}
use Rattle.fib_stack.specs.Calls.{GivesOnly, TakesOnly}
use Rattle.fib_stack.specs.Turns.{HasRun, IsRestacked}
use Rattle.fib_stack.specs.Moments.{Moment}
use Rattle.fib_stack.specs.declared.stack.Plan.{Plan}
use Rattle.fib_stack.specs.inner.Readied.{Course, IsReadied, IsFinished, found_in, names_for}
use Rattle.fib_stack.proofs.Aiming.{aim_agree, forwards_agree}
use Rattle.fib_stack.proofs.Filled.{filled_by, settled_at}
use Rattle.fib_stack.proofs.Keeping.{prefix_discrete, was_true, word_same}
use Rattle.fib_stack.proofs.Listing.{objects_kept, record_is}
use Rattle.fib_stack.proofs.Settling.{aims_hop, aims_on}

-- ends and records

same_end_is : (u : Use) (i a : ℕ) (x : Option ℕ) → same_end (end_used u) (answers.Hop i a x) ≡ same_record (record_used u) (record { interface = i; next_hop = a; mac = x })
same_end_is u i a x = refl

turned : (r q : AdjacencyRecord) → same_record r q ≡ true → same_record q r ≡ true
turned r q e = let is : r ≡ q = record_is r q e in subst (λ (z : AdjacencyRecord). same_record z r ≡ true) is (subst (λ (z : AdjacencyRecord). same_record r z ≡ true) (sym is) e)

some_more : (b c : Bool) (n : ℕ) → (b ≡ true → c ≡ true) → b ≡ true → 0 < cond c 1 0 + n
some_more b true n f e = omega arith
some_more b false n f e = absurd (true≢false (sym (f e)))

more_more : (c : Bool) (n : ℕ) → 0 < n → 0 < cond c 1 0 + n
more_more true n lt = omega arith
more_more false n lt = omega (arith, lt)

-- what is held has users
pub some_times : (us : List Use) (i a : ℕ) (x : Option ℕ) → holds_in us (answers.Hop i a x) ≡ true → 0 < times (record { interface = i; next_hop = a; mac = x }) us
some_times [] i a x h = absurd (true≢false (sym h))
some_times (u ∷ us) i a x h = by_first (same_end (end_used u) (answers.Hop i a x)) refl (some_times us i a x)
  where
    m : AdjacencyRecord
    m = record { interface = i; next_hop = a; mac = x }

    by_first : (b : Bool) → same_end (end_used u) (answers.Hop i a x) ≡ b → (holds_in us (answers.Hop i a x) ≡ true → 0 < times m us) → 0 < times m (u ∷ us)
    by_first true e rest = some_more (same_record (record_used u) m) (same_record m (record_used u)) (times m us) (turned (record_used u) m) e
    by_first false e rest = more_more (same_record m (record_used u)) (times m us) (rest (sym (ap (λ b. b || holds_in us (answers.Hop i a x)) e) ∙ h))

-- the object that is found is the record's
pub found_object : (v : View) (us : List Use) (i a : ℕ) (x : Option ℕ) → AreObjects v us → holds_in us (answers.Hop i a x) ≡ true → found_in us (answers.Hop i a x) ≡ v.record_of (record { interface = i; next_hop = a; mac = x })
found_object v [] i a x objects h = absurd (true≢false (sym h))
found_object v (u ∷ us) i a x objects h = by_first (same_end (end_used u) (answers.Hop i a x)) refl (found_object v us i a x objects.1)
  where
    m : AdjacencyRecord
    m = record { interface = i; next_hop = a; mac = x }

    by_first : (b : Bool) → same_end (end_used u) (answers.Hop i a x) ≡ b → (holds_in us (answers.Hop i a x) ≡ true → found_in us (answers.Hop i a x) ≡ v.record_of m) → found_in (u ∷ us) (answers.Hop i a x) ≡ v.record_of m
    by_first true e rest =
        ap (λ b. if b then Some u.object else found_in us (answers.Hop i a x)) e
        ∙ sym objects.0 ∙ ap v.record_of (record_is (record_used u) m e)
    by_first false e rest =
        ap (λ b. if b then Some u.object else found_in us (answers.Hop i a x)) e
        ∙ rest (sym (ap (λ b. b || holds_in us (answers.Hop i a x)) e) ∙ h)

-- an end without a record is held by nobody
abbrev pub HasNone : End → Type 0
HasNone answers.Drop = Unit {0}
HasNone answers.Receive = Unit {0}
HasNone (answers.Glean i) = Unit {0}
HasNone (answers.Hop i a x) = ⊥

pub holds_hop_only : (us : List Use) (end : End) → HasNone end → holds_in us end ≡ true → ⊥
holds_hop_only [] end none h = true≢false (sym h)
holds_hop_only (u ∷ us) answers.Drop none h = holds_hop_only us answers.Drop none h
holds_hop_only (u ∷ us) answers.Receive none h = holds_hop_only us answers.Receive none h
holds_hop_only (u ∷ us) (answers.Glean i) none h = holds_hop_only us (answers.Glean i) none h
holds_hop_only (u ∷ us) (answers.Hop i a x) none h = none

-- what is taken for a list of paths is what the list has
abbrev pub end_of : AdjacencyRecord → End
end_of r = answers.Hop r.interface r.next_hop r.mac

abbrev pub any_end : List AdjacencyRecord → End → Bool
any_end rs end = list_any (λ r. same_end (end_of r) end) rs

held_records : (us : List Use) (end : End) → holds_in us end ≡ any_end (map record_used us) end
held_records [] end = refl
held_records (u ∷ us) end = ap (λ b. same_end (end_used u) end || b) (held_records us end)

or_false : (b : Bool) → b ≡ false || b
or_false b = refl

one_end : (f end : End) (rest : Bool) (rs : List AdjacencyRecord) → rest ≡ any_end rs end → (is_recorded f && same_end f end) || rest ≡ any_end (option_to_list (record_for (aims.Ends f)) ++ rs) end
one_end answers.Drop end rest rs e = e
one_end answers.Receive end rest rs e = e
one_end (answers.Glean i) end rest rs e = e
one_end (answers.Hop i a x) end rest rs e = ap (λ b. same_end (answers.Hop i a x) end || b) e

one_aim : (m : Aim) (end : End) (rest : Bool) (rs : List AdjacencyRecord) → rest ≡ any_end rs end → ends_there end m || rest ≡ any_end (option_to_list (record_for m) ++ rs) end
one_aim (aims.Ends f) end rest rs e = one_end f end rest rs e
one_aim (aims.On t) end rest rs e = e

pub hops_listed : (ms : List Marked) (end : End) → has_hop ms end ≡ any_end (records_for ms) end
hops_listed [] end = refl
hops_listed (m ∷ ms) end = one_aim m.aim end (has_hop ms end) (records_for ms) (hops_listed ms end)

pub holds_hops : (us : List Use) (ms : List Marked) (end : End) → map record_used us ≡ records_for ms → holds_in us end ≡ has_hop ms end
holds_hops us ms end e = held_records us end ∙ ap (λ rs. any_end rs end) e ∙ sym (hops_listed ms end)

aim_spread : (f : Prefix → Bool) (qs ms : List Marked) (k : ℕ) → qs ≡ spread_marks (of_least_mark (filter (is_usable_mark f) ms)) → aim_of (slice_get qs k) ≡ aim_by f ms k
unfolding aim_by
aim_spread f qs ms k e = ap (λ l. aim_of (slice_get l k)) e

-- a settled bucket fits what is deferred
fits_put : (before now w : Word) (a : Put) → Settled before now w a → Fits (late_word w a) now w
fits_put before now w puts.Same h = h.1
fits_put before now w puts.Stored h = h.1
fits_put before now w puts.Dropped h = (refl, h.1)

same_put : (before now w : Word) (a : Put) → Settled before now w a → before ≡ w → late_word w a ≡ None
same_put before now w puts.Same h e = refl
same_put before now w puts.Stored h e = refl
same_put before now w puts.Dropped h e = absurd (h.0 e)

late_is : (ws : List Word) (gave : List Put) (k : ℕ) → k < 16 → deferred_at ws gave k ≡ late_word (word_in ws k) (put_in gave k)
late_is ws gave k lt = grind (arith, nat_tests)

module _ (S : Tables) (rank : Prefix → ℕ) (p : Promise) (v0 : View) (m : Moment) (plan : Plan)
    (ranked : IsRanked S rank) (kept : Kept S (state_in v0 m.parts)) (least : IsLeast rank (state_in v0 m.parts) plan.entry) (r : IsReadied S p v0 m plan) where
  targets : (u : Prefix) → counts_on (marked_list S plan.entry) u ≡ true → was_by m.parts u ≡ forwards S u
  targets u lead =
      let falls : rank u < rank plan.entry = (ranked.falls plan.entry u (ranked.woken plan.entry u lead)).1 in
      was_true S rank (state_in v0 m.parts) ranked kept (rank plan.entry) least.least u falls

  pub bit_here : plan.forwards ≡ forwards S plan.entry
  bit_here = r.does ∙ forwards_agree (was_by m.parts) (forwards S) (marked_list S plan.entry) targets ∙ sym (ranked.forwarding plan.entry)

  pub aim_here : (k : ℕ) → aim_of (slice_get plan.wanted.items k) ≡ aim S plan.entry k
  aim_here k =
      aim_spread (was_by m.parts) plan.wanted.items (marked_list S plan.entry) k r.wanted
      ∙ aim_agree (was_by m.parts) (forwards S) (marked_list S plan.entry) k targets ∙ sym (aim_is S plan.entry k)

module _ (S : Tables) (rank : Prefix → ℕ) (p : Promise) (v0 : View) (plan : Plan) (m2 : Moment) (course : Course) (m5 : Moment)
    (ranked : IsRanked S rank) (kept : Kept S (state_in v0 m2.parts)) (least : IsLeast rank (state_in v0 m2.parts) plan.entry) (laid : IsLaid v0 m2.parts)
    (r : IsReadied S p v0 m2 plan) (d : IsFinished S plan m2 course m5) where
  abbrev v2 : View
  v2 = m2.view

  abbrev v3 : View
  v3 = course.filled

  abbrev v4 : View
  v4 = course.given

  abbrev v5 : View
  v5 = m5.view

  abbrev s : Parts
  s = m2.parts

  abbrev t : Parts
  t = m5.parts

  abbrev e : Prefix
  e = plan.entry

  abbrev o : ℕ
  o = plan.object

  abbrev us : List Use
  us = plan.uses.items

  abbrev ws : List Word
  ws = course.words

  abbrev gave : List Put
  gave = course.answers

  filled : IsFilled v2 v3 o 0 ws gave
  filled = filled_by v2 v3 o 0 ws gave r.here d.puts

  apart_self : (u : Prefix) → counts_on (marked_list S e) u ≡ true → u ≡ e → ⊥
  apart_self u lead is = let falls : rank u < rank e = (ranked.falls e u (ranked.woken e u lead)).1 in let loop : rank e < rank e = subst (λ i. rank i < rank e) is falls in absurd (omega (arith, loop))

  bit : plan.forwards ≡ forwards S e
  bit = bit_here S rank p v0 m2 plan ranked kept least r

  users3 : (m : AdjacencyRecord) → v3.users m ≡ times m us + v0.users m
  users3 m = ap (λ (g : AdjacencyRecord → ℕ). g m) filled.records.users ∙ r.users m

  users5 : (m : AdjacencyRecord) → v5.users m ≡ v4.users m
  users5 m = ap (λ (g : AdjacencyRecord → ℕ). g m) d.placed.records.users

  pub counted : (m : AdjacencyRecord) → v5.users m ≡ t.total m
  counted m = omega (arith, users5 m, d.back.users m, users3 m, laid.counted m, d.totals m)

  uses_here : used_by (t.known e) ≡ us
  uses_here = ap used_by d.known

  used : (x : Prefix) (i a : ℕ) (y : Option ℕ) → holds_by t x (answers.Hop i a y) ≡ true → 0 < v5.users (record { interface = i; next_hop = a; mac = y })
  used x i a y h =
      let m : AdjacencyRecord = record { interface = i; next_hop = a; mac = y } in
      omega (arith, some_times (used_by (t.known x)) i a y h, d.counted1 x m, counted m)

  used_before : (x : Prefix) (i a : ℕ) (y : Option ℕ) → holds_by s x (answers.Hop i a y) ≡ true → 0 < v0.users (record { interface = i; next_hop = a; mac = y })
  used_before x i a y h =
      let m : AdjacencyRecord = record { interface = i; next_hop = a; mac = y } in
      omega (arith, some_times (used_by (s.known x)) i a y h, d.counted0 x m, laid.counted m)

  records2 : (m : AdjacencyRecord) → 0 < v5.users m → v5.record_of m ≡ v2.record_of m
  records2 m left =
      ap (λ (g : AdjacencyRecord → Option ℕ). g m) d.placed.records.record_of
      ∙ d.back.kept m (omega (arith, users5 m, left))
      ∙ ap (λ (g : AdjacencyRecord → Option ℕ). g m) filled.records.record_of

  pub holds_hop : (end : End) → holds_by t e end ≡ has_hop (marked_list S e) end
  holds_hop end = ap (λ l. holds_in l end) uses_here ∙ holds_hops us (marked_list S e) end r.records

  abbrev objects5 : Objects
  objects5 = record { balance = balance_in t; record_of = recorded v5 }

  word_is : (k : ℕ) → k < 16 → word_in ws k ≡ aim_word objects5 (aim S e k)
  word_is k lt =
      d.words k lt ∙ ap (aim_word (names_for s us)) (aim_here S rank p v0 m2 plan ranked kept least r k)
      ∙ sym (word_same (names_for s us) objects5 (aim S e k)
      (λ u is. d.others_balance u (apart_self u (aims_on S e u k is)))
      (λ i a x is.
      let has : has_hop (marked_list S e) (answers.Hop i a x) ≡ true = aims_hop S e k i a x is in
      let mine : holds_in us (answers.Hop i a x) ≡ true = holds_hops us (marked_list S e) (answers.Hop i a x) r.records ∙ has in
      records2 (record { interface = i; next_hop = a; mac = x }) (used e i a x (holds_hop (answers.Hop i a x) ∙ has)) ∙ sym (found_object v2 us i a x r.objects mine)))

  stay5 : (x : ℕ) → IsBalance v2 x → IsBalance v5 x
  stay5 x b = d.placed.balances x (d.back.balances.stay x (filled.stay x b))

  cells5 : (x k : ℕ) → IsBalance v3 x → v5.cell x k ≡ v3.cell x k
  cells5 x k b = d.placed.cells x k (d.back.balances.stay x b) ∙ d.back.balances.cells x k b

  not_here : (c : Prefix) (x : ℕ) → (c ≡ e → ⊥) → balance_in s c ≡ Some x → x ≢ o
  not_here c x ne at is = ⊎_elim
      (λ (b : balance_in s e ≡ Some o). ne ((kept.placed e).apart c o b (at ∙ ap Some is)))
      (λ (b : (balance_in s e ≡ None) × (IsBalance v0 o → ⊥)). b.1 (subst (λ (i : ℕ). IsBalance v0 i) is (laid.balances c x at)))
      r.which

  others_cell : (c : Prefix) (x k : ℕ) → (c ≡ e → ⊥) → balance_in s c ≡ Some x → v5.cell x k ≡ v0.cell x k
  others_cell c x k ne at =
      let b : IsBalance v0 x = laid.balances c x at in
      let b2 : IsBalance v2 x = r.stay x b in
      cells5 x k (filled.stay x b2) ∙ filled.others x k b2 (not_here c x ne at) ∙ r.cells x k b

  at_slot : (k : ℕ) → k < 16 → Settled (v2.cell o k) (v3.cell o k) (word_in ws k) (put_in gave k)
  at_slot k lt = settled_at v2 v3 o ws gave filled k (omega (arith, lt, d.sixteen))

  held_hop : (c : Prefix) (end : End) → holds_by t c end ≡ true → is_some (recorded v5 end) ≡ true
  held_hop c answers.Drop h = absurd (holds_hop_only (used_by (t.known c)) answers.Drop tt h)
  held_hop c answers.Receive h = absurd (holds_hop_only (used_by (t.known c)) answers.Receive tt h)
  held_hop c (answers.Glean i) h = absurd (holds_hop_only (used_by (t.known c)) (answers.Glean i) tt h)
  held_hop c (answers.Hop i a x) h =
      let q = d.plane.recorded (record { interface = i; next_hop = a; mac = x }) (used c i a x h) in ap is_some q.1

  same_hop : (c b : Prefix) (end : End) → holds_by t c end ≡ true → holds_by s b end ≡ true → recorded v5 end ≡ recorded v0 end
  same_hop c b answers.Drop h h' = refl
  same_hop c b answers.Receive h h' = refl
  same_hop c b (answers.Glean i) h h' = refl
  same_hop c b (answers.Hop i a x) h h' =
      let m : AdjacencyRecord = record { interface = i; next_hop = a; mac = x } in
      records2 m (used c i a x h) ∙ r.kept m (used_before b i a x h')

  pub restacked : Restacked S e o (state_in v0 s) (state_in v5 t)
  restacked = record {
    here = d.balance;
    before = ⊎_elim
        (λ (b : balance_in s e ≡ Some o). inl b)
        (λ (b : (balance_in s e ≡ None) × (IsBalance v0 o → ⊥)). inr (b.0, λ c at. absurd (b.1 (laid.balances c o at))))
        r.which;
    others = d.others_balance;
    forwarded = ap forwarded_by d.known ∙ bit;
    others_was = λ c ne. ap forwarded_by (d.others_known c ne);
    filled = λ k lt.
        subst (λ w. Fits (late_at t.late e k) (v5.cell o k) w) (word_is k lt)
        (subst (λ l. Fits l (v5.cell o k) (word_in ws k)) (sym (d.late k ∙ late_is ws gave k lt))
        (subst (λ c. Fits (late_word (word_in ws k) (put_in gave k)) c (word_in ws k)) (sym (cells5 o k (filled.stay o r.here)))
        (fits_put (v2.cell o k) (v3.cell o k) (word_in ws k) (put_in gave k) (at_slot k lt))));
    same = λ k lt at holds.
        d.late k ∙ late_is ws gave k lt ∙ same_put (v2.cell o k) (v3.cell o k) (word_in ws k) (put_in gave k) (at_slot k lt) (r.cells o k (laid.balances e o at) ∙ holds ∙ sym (word_is k lt));
    others_cell = others_cell;
    others_late = d.others_late;
    holding = holds_hop;
    others_holding = λ c end ne. ap (λ q. holds_in (used_by q) end) (d.others_known c ne);
    held = held_hop;
    same_record = same_hop;
    queue = λ c. d.queue c ∙ ap (λ b. (queued_in s c && not (same_prefix c e)) || (differ (was_by s e) b && wakes S c e)) bit;
  }

  pub is_restacked : IsRestacked S e (state_in v0 s) (state_in v5 t)
  is_restacked = record {
    object = o;
    turn = restacked;
  }

  -- and its puts are a run, whatever the plane was before it took what it needs
  pub has_run : (u : View) → TakesOnly u v2 → GivesOnly v3 v5 → HasRun S e u v5 (state_in v5 t)
  has_run u took given = (
    o,
    d.balance,
    record { before = v2; taken = took; wanted = ws; answers = gave; after = v3; puts = d.puts; given = given; words = word_is; late = d.late },
  )

  objects_there : (c : Prefix) → AreObjects v5 (used_by (t.known c))
  objects_there c = dite (prefix_discrete c e)
      (λ is. subst (λ (x : Prefix). AreObjects v5 (used_by (t.known x))) (sym is) (subst (AreObjects v5) (sym uses_here)
      (objects_kept v2 v5 us (λ m lt. records2 m (omega (arith, counted m, lt, subst (λ (l : List Use). times m l ≤ t.total m) uses_here (d.counted1 e m)))) r.objects)))
      (λ ne. subst (λ (q : Option Known). AreObjects v5 (used_by q)) (sym (d.others_known c ne))
      (objects_kept v0 v5 (used_by (s.known c))
      (λ m lt.
      records2 m (omega (arith, counted m, lt, subst (λ (q : Option Known). times m (used_by q) ≤ t.total m) (d.others_known c ne) (d.counted1 c m)))
      ∙ r.kept m (omega (arith, laid.counted m, lt, d.counted0 c m)))
      (laid.objects c)))

  pub laid_after : IsLaid v5 t
  laid_after = record {
    counted = counted;
    objects = objects_there;
    balances = λ c x at. dite (prefix_discrete c e)
        (λ is. let both : Some x ≡ Some o = sym at ∙ ap (balance_in t) is ∙ d.balance in let same : o ≡ x = cc in subst (λ (i : ℕ). IsBalance v5 i) same (stay5 o r.here))
        (λ ne. stay5 x (r.stay x (laid.balances c x (sym (d.others_balance c ne) ∙ at))));
    owned = λ x b. ⊎_elim own_before (λ (is : x ≡ o). (e, d.balance ∙ ap Some (sym is))) (r.fresh x (filled.fresh x (d.back.balances.fresh x (d.placed.fresh x b))));
  }
    where
      own_before : {x : ℕ} → IsBalance v0 x → (c : Prefix) × (balance_in t c ≡ Some x)
      own_before {x} b =
          let w = laid.owned x b in
          dite (prefix_discrete w.0 e)
          (λ is. (
            e,
            d.balance ∙ ⊎_elim
                (λ (h : balance_in s e ≡ Some o). sym h ∙ ap (balance_in s) (sym is) ∙ w.1)
                (λ (h : (balance_in s e ≡ None) × (IsBalance v0 o → ⊥)). absurd (let bad : None ≡ Some x = sym h.0 ∙ ap (balance_in s) (sym is) ∙ w.1 in cc))
                r.which,
          ))
          (λ ne. (w.0, d.others_balance w.0 ne ∙ w.1))
