-- Each step keeps what stands of the prefixes.
use Rattle.std.proofs.Common.{◌≡◌, ℕ, suc, ◌<◌, ◌≤◌, ◌⊎◌, inl, inr, ⊎_elim, Bool, true, false, not, ◌&&◌, ◌||◌, true≢false, [], refl, sym, ap, ◌∙◌, subst, arith}
use Rattle.std.specs.Prelude.{Option, Some, None}
use mathlib.Core.Logic.{dite}
use Rattle.fib_base_list.proofs.Lists.{either}
use Rattle.fib_addr.specs.Prefixes.{Prefix, same_prefix}
use Rattle.fib_addr.proofs.PrefixLaws.{same_prefix-Decides}
use Rattle.fib_resolve.specs.Aims.{aim, marked_list}
use Rattle.fib_resolve.specs.Forwarding.{forwards}
use Rattle.fib_resolve.specs.Tables.{IsSound}
use Rattle.fib_resolve.specs.Touched.{is_touched, differ}
use Rattle.fib_resolve.specs.declared.aims.Aim.{Aim}
use Rattle.fib_resolve.specs.declared.aims.Aim.TheVariants as aims
use Rattle.fib_resolve.specs.declared.types.End.{End}
use Rattle.fib_resolve.specs.declared.types.End.TheVariants as answers
use Rattle.fib_resolve.specs.declared.types.Tables.{Tables}
use Rattle.fib_core.specs.declared.word.Word.{Word}
use Rattle.fib_resolve_changes.specs.Ranks.{counts_on, has_entry, wakes, IsRanked}
use Rattle.fib_resolve_changes.specs.Wanted.{aim_by}
use Rattle.fib_resolve_changes.proofs.MarkLaws.{aim_is, untouched_marked, untouched_stays, untouched_came}
use Rattle.fib_core_promise.specs.Stack.{Objects, aim_word, to_adjacency, to_balance, is_some}
use Rattle.fib_stack.specs.States.{State, Fits, IsDone, IsPlaced, Kept, IsQuiet, forwards_by, has_hop}
use Rattle.fib_stack.specs.Steps.{IsLeast, Restacked, Removed, Applied, StillOrStored, Retried, StandsFor}
use Rattle.fib_stack_waking.proofs.Woken.{and_join}
use Rattle.fib_stack.proofs.Aiming.{forwards_agree, aim_agree, settled_below, bucket_on, bucket_hop}

pub eq_prefix : (d e : Prefix) → d ≡ e → same_prefix d e ≡ true
eq_prefix d e h = (same_prefix-Decides d e).1 h

pub ne_prefix : (d e : Prefix) → (d ≡ e → ⊥) → same_prefix d e ≡ false
ne_prefix d e ne = by_bool (same_prefix d e) refl
  where
    by_bool : (b : Bool) → same_prefix d e ≡ b → same_prefix d e ≡ false
    by_bool true is = absurd (ne ((same_prefix-Decides d e).0 is))
    by_bool false is = is

pub prefix_discrete : (d e : Prefix) → Dec (d ≡ e)
prefix_discrete d e = by_bool (same_prefix d e) refl
  where
    by_bool : (b : Bool) → same_prefix d e ≡ b → Dec (d ≡ e)
    by_bool true is = yes ((same_prefix-Decides d e).0 is)
    by_bool false is = no (λ h. true≢false (sym (eq_prefix d e h) ∙ is))

pub option_cases : {A : Type 0} (o : Option A) → (o ≡ None) ⊎ ((x : A) × (o ≡ Some x))
option_cases None = inl refl
option_cases (Some x) = inr (x, refl)

pub some_there : {A : Type 0} (o : Option A) → is_some o ≡ true → (x : A) × (o ≡ Some x)
some_there None e = absurd (cc)
some_there (Some x) e = (x, refl)

or_false : (a b : Bool) → a || b ≡ false → (a ≡ false) × (b ≡ false)
or_false true b e = absurd (cc)
or_false false b e = (refl, e)

and_false : (a b : Bool) → a && b ≡ false → a ≡ true → b ≡ false
and_false true b e h = e
and_false false b e h = absurd (cc)

same_bits : (a b : Bool) → differ a b ≡ false → a ≡ b
same_bits true true e = refl
same_bits true false e = absurd (cc)
same_bits false true e = absurd (cc)
same_bits false false e = refl

not_self : (d e : Prefix) → (d ≡ e → ⊥) → not (same_prefix d e) ≡ true
not_self d e ne = ap not (ne_prefix d e ne)

-- a word rests on the names that its aim cites
pub word_same : (n m : Objects) (w : Aim) → ((t : Prefix) → w ≡ aims.On t → m.balance t ≡ n.balance t) → ((i a : ℕ) (x : Option ℕ) → w ≡ aims.Ends (answers.Hop i a x) → m.record_of (answers.Hop i a x) ≡ n.record_of (answers.Hop i a x)) → aim_word m w ≡ aim_word n w
word_same n m (aims.Ends answers.Drop) on_them hop_them = refl
word_same n m (aims.Ends answers.Receive) on_them hop_them = refl
word_same n m (aims.Ends (answers.Glean x)) on_them hop_them = refl
word_same n m (aims.Ends (answers.Hop i a x)) on_them hop_them = ap to_adjacency (hop_them i a x refl)
word_same n m (aims.On t) on_them hop_them = ap to_balance (on_them t refl)

-- fits_at: the parts may be replaced by equal ones
pub fits_at : (l l' : Option Word) (c c' w w' : Word) → l' ≡ l → c' ≡ c → w' ≡ w → Fits l c w → Fits l' c' w'
fits_at l l' c c' w w' el ec ew h = subst (λ i. Fits i c' w') (sym el) (subst (λ i. Fits l i w') (sym ec) (subst (λ i. Fits l c i) (sym ew) h))

-- a prefix below the queue forwards as the tables say
pub was_true : (S : Tables) (rank : Prefix → ℕ) (s : State) → IsRanked S rank → Kept S s → (r : ℕ) → ((d : Prefix) → s.queued d ≡ true → r ≤ rank d) → (t : Prefix) → rank t < r → s.was t ≡ forwards S t
was_true S rank s sound kept r low t lt = settled_below S rank s.was sound r (λ d l. (kept.done d (unqueued d l)).known) t lt
  where
    unqueued : (d : Prefix) → rank d < r → s.queued d ≡ false
    unqueued d l = elim (either (s.queued d)) [ inl q ↦ absurd (let le : r ≤ rank d = low d q in omega arith) | inr q ↦ q ]

-- the frame of a turn at e: what is done of others stays, where those with an open edge to e are queued if e changed
pub record Frame (S : Tables) (e : Prefix) (s t : State) : Type 0 where
  pub others : (d : Prefix) → (d ≡ e → ⊥) → t.objects.balance d ≡ s.objects.balance d
  pub others_was : (d : Prefix) → (d ≡ e → ⊥) → t.was d ≡ s.was d
  pub others_cell : (d : Prefix) (x k : ℕ) → (d ≡ e → ⊥) → s.objects.balance d ≡ Some x → t.cell x k ≡ s.cell x k
  pub others_late : (d : Prefix) (k : ℕ) → (d ≡ e → ⊥) → t.late d k ≡ s.late d k
  pub others_holding : (d : Prefix) (m : End) → (d ≡ e → ⊥) → t.holds d m ≡ s.holds d m
  pub same_record : (d : Prefix) (m : End) → t.holds d m ≡ true → s.holds d m ≡ true → t.objects.record_of m ≡ s.objects.record_of m
  -- where e forwarded, it keeps its object, or no prefix leads to it
  pub same_here : (d : Prefix) → counts_on (marked_list S d) e ≡ true → s.was e ≡ true → t.objects.balance e ≡ s.objects.balance e
  pub woken : (d : Prefix) → counts_on (marked_list S d) e ≡ true → (d ≡ e → ⊥) → t.queued d ≡ false → t.was e ≡ s.was e
  pub still : (d : Prefix) → (d ≡ e → ⊥) → t.queued d ≡ false → s.queued d ≡ false

pub frame_done : (S : Tables) (e : Prefix) (s t : State) → Frame S e s t → (d : Prefix) → (d ≡ e → ⊥) → t.queued d ≡ false → IsDone S s d → IsDone S t d
frame_done S e s t frame d ne quiet done =
    record {
      placed = ap is_some (frame.others d ne) ∙ done.placed;
      known = frame.others_was d ne ∙ done.known ∙ forwards_agree s.was t.was (marked_list S d) agree;
      filled = λ o k at lt.
          let was_at : s.objects.balance d ≡ Some o = sym (frame.others d ne) ∙ at in
          fits_at (s.late d k) (t.late d k) (s.cell o k) (t.cell o k)
          (aim_word s.objects (aim_by s.was (marked_list S d) k)) (aim_word t.objects (aim_by t.was (marked_list S d) k))
          (frame.others_late d k ne) (frame.others_cell d o k ne was_at) (same_word k) (done.filled o k was_at lt);
      holding = λ m. frame.others_holding d m ne ∙ done.holding m;
    }
  where
    agree : (u : Prefix) → counts_on (marked_list S d) u ≡ true → s.was u ≡ t.was u
    agree u o = dite (prefix_discrete u e)
        (λ is. let at : counts_on (marked_list S d) e ≡ true = subst (λ i. counts_on (marked_list S d) i ≡ true) is o in subst (λ i. s.was i ≡ t.was i) (sym is) (sym (frame.woken d at ne quiet)))
        (λ isnt. sym (frame.others_was u isnt))

    hop_same : (k i a : ℕ) (x : Option ℕ) → aim_by s.was (marked_list S d) k ≡ aims.Ends (answers.Hop i a x) → t.objects.record_of (answers.Hop i a x) ≡ s.objects.record_of (answers.Hop i a x)
    hop_same k i a x at =
        let mine : s.holds d (answers.Hop i a x) ≡ true = done.holding (answers.Hop i a x) ∙ bucket_hop s.was (marked_list S d) k i a x at in
        frame.same_record d (answers.Hop i a x) (frame.others_holding d (answers.Hop i a x) ne ∙ mine) mine

    on_same : (k : ℕ) (u : Prefix) → aim_by s.was (marked_list S d) k ≡ aims.On u → t.objects.balance u ≡ s.objects.balance u
    on_same k u at =
        let on : (counts_on (marked_list S d) u ≡ true) × (s.was u ≡ true) = bucket_on s.was (marked_list S d) k u at in
        dite (prefix_discrete u e)
        (λ is. subst (λ i. t.objects.balance i ≡ s.objects.balance i) (sym is) (frame.same_here d (subst (λ i. counts_on (marked_list S d) i ≡ true) is on.0) (subst (λ i. s.was i ≡ true) is on.1)))
        (λ isnt. frame.others u isnt)

    same_word : (k : ℕ) → aim_word t.objects (aim_by t.was (marked_list S d) k) ≡ aim_word s.objects (aim_by s.was (marked_list S d) k)
    same_word k = ap (aim_word t.objects) (sym (aim_agree s.was t.was (marked_list S d) k agree)) ∙ word_same s.objects t.objects (aim_by s.was (marked_list S d) k) (on_same k) (hop_same k)

-- the record of an effective prefix's turn gives a frame
pub restacked_frame : (S : Tables) (rank : Prefix → ℕ) (e : Prefix) (o : ℕ) (s t : State) → IsRanked S rank → Kept S s → Restacked S e o s t → Frame S e s t
restacked_frame S rank e o s t sound kept r =
    record {
      others = r.others;
      others_was = r.others_was;
      others_cell = r.others_cell;
      others_late = r.others_late;
      others_holding = r.others_holding;
      same_record = λ d m h h'. r.same_record d d m h h';
      same_here = λ d lead w. ⊎_elim
          (λ (b : s.objects.balance e ≡ Some o). r.here ∙ sym b)
          (λ (b : (s.objects.balance e ≡ None) × ((x : Prefix) → s.objects.balance x ≡ Some o → x ≡ e)). absurd (let some : is_some (s.objects.balance e) ≡ true = (kept.placed e).forwarded w in let none : is_some (s.objects.balance e) ≡ false = ap is_some b.0 in true≢false (sym some ∙ none)))
          r.before;
      woken = λ d lead ne q.
          let parts = or_false (s.queued d && not (same_prefix d e)) (differ (s.was e) (forwards S e) && wakes S d e) (sym (r.queue d) ∙ q) in
          elim (either (differ (s.was e) (forwards S e))) [
            | inl is ↦ absurd (true≢false (sym (and_join (differ (s.was e) (forwards S e)) (wakes S d e) is (sound.woken d e lead)) ∙ parts.1))
            | inr isnt ↦ r.forwarded ∙ sym (same_bits (s.was e) (forwards S e) isnt)
          ];
      still = λ d ne q.
          let parts = or_false (s.queued d && not (same_prefix d e)) (differ (s.was e) (forwards S e) && wakes S d e) (sym (r.queue d) ∙ q) in
          elim (either (s.queued d)) [
            | inl is ↦ absurd (true≢false (sym (and_join (s.queued d) (not (same_prefix d e)) is (not_self d e ne)) ∙ parts.0))
            | inr isnt ↦ isnt
          ];
    }

-- a turn of an effective prefix
pub restacked_keeps : (S : Tables) (rank : Prefix → ℕ) (e : Prefix) (o : ℕ) (s t : State) → IsRanked S rank → Kept S s → IsLeast rank s e → has_entry S e ≡ true → Restacked S e o s t → Kept S t
restacked_keeps S rank e o s t sound kept least has r =
    record {
      done = λ d q. dite (prefix_discrete d e)
          (λ is. subst (λ i. IsDone S t i) (sym is) here)
          (λ isnt. frame_done S e s t frame d isnt q (kept.done d (frame.still d isnt q)));
      placed = λ d. dite (prefix_discrete d e) (λ is. subst (λ i. IsPlaced t i) (sym is) placed_here) (placed_there d);
    }
  where
    frame : Frame S e s t
    frame = restacked_frame S rank e o s t sound kept r

    -- the targets of e are below it, so they were at their turns what they are now
    targets : (u : Prefix) → counts_on (marked_list S e) u ≡ true → forwards S u ≡ t.was u
    targets u lead =
        let falls : rank u < rank e = (sound.falls e u (sound.woken e u lead)).1 in
        let ne : u ≡ e → ⊥ = λ is. (let loop : rank e < rank e = subst (λ i. rank i < rank e) is falls in omega arith) in
        sym (r.others_was u ne ∙ was_true S rank s sound kept (rank e) least.least u falls)

    here : IsDone S t e
    here = record {
      placed = ap is_some r.here ∙ sym has;
      known = r.forwarded ∙ sound.forwarding e ∙ forwards_agree (forwards S) t.was (marked_list S e) targets;
      filled = λ x k at lt.
          let same : x ≡ o = (let h : Some x ≡ Some o = sym at ∙ r.here in cc) in
          fits_at (t.late e k) (t.late e k) (t.cell o k) (t.cell x k) (aim_word t.objects (aim S e k)) (aim_word t.objects (aim_by t.was (marked_list S e) k))
          refl (ap (λ i. t.cell i k) same) (ap (aim_word t.objects) (sym (aim_is S e k ∙ aim_agree (forwards S) t.was (marked_list S e) k targets))) (r.filled k lt);
      holding = r.holding;
    }

    some_here : is_some (t.objects.balance e) ≡ true
    some_here = ap is_some r.here

    only_here : (d : Prefix) (x : ℕ) → t.objects.balance e ≡ Some x → t.objects.balance d ≡ Some x → d ≡ e
    only_here d x at there = dite (prefix_discrete d e) (λ is. is) (λ isnt.
        let same : x ≡ o = (let h : Some x ≡ Some o = sym at ∙ r.here in cc) in
        let old : s.objects.balance d ≡ Some o = sym (r.others d isnt) ∙ there ∙ ap (λ i. Some i) same in
        ⊎_elim (λ (b : s.objects.balance e ≡ Some o). (kept.placed e).apart d o b old) (λ (b : (s.objects.balance e ≡ None) × ((y : Prefix) → s.objects.balance y ≡ Some o → y ≡ e)). b.1 d old) r.before)

    placed_here : IsPlaced t e
    placed_here = record {
      forwarded = λ w. some_here;
      recorded = λ m h. r.held e m h;
      late = λ k none. absurd (true≢false (sym some_here ∙ none));
      apart = only_here;
    }

    placed_there : (d : Prefix) → (d ≡ e → ⊥) → IsPlaced t d
    placed_there d ne =
        let was : IsPlaced s d = kept.placed d in
        record {
          forwarded = λ w. ap is_some (r.others d ne) ∙ was.forwarded (sym (r.others_was d ne) ∙ w);
          recorded = λ m h. r.held d m h;
          late = λ k none. r.others_late d k ne ∙ was.late k (sym (ap is_some (r.others d ne)) ∙ none);
          apart = λ c x at there. dite (prefix_discrete c e)
              (λ is. absurd (ne (only_here d x (subst (λ i. t.objects.balance i ≡ Some x) is there) at)))
              (λ isnt. was.apart c x (sym (r.others d ne) ∙ at) (sym (r.others c isnt) ∙ there));
        }

-- a turn of a prefix that left
pub removed_keeps : (S : Tables) (rank : Prefix → ℕ) (e : Prefix) (s t : State) → IsRanked S rank → Kept S s → s.queued e ≡ true → has_entry S e ≡ false → Removed e s t → Kept S t
removed_keeps S rank e s t sound kept queued left r =
    record {
      done = λ d q. dite (prefix_discrete d e)
          (λ is. subst (λ i. IsDone S t i) (sym is) here)
          (λ isnt. frame_done S e s t frame d isnt q (kept.done d (frame.still d isnt q)));
      placed = λ d. dite (prefix_discrete d e) (λ is. subst (λ i. IsPlaced t i) (sym is) placed_here) (placed_there d);
    }
  where
    no_edge : (d : Prefix) → counts_on (marked_list S d) e ≡ true → ⊥
    no_edge d lead = true≢false (sym (sound.falls d e (sound.woken d e lead)).0 ∙ left)

    frame : Frame S e s t
    frame = record {
      others = r.others;
      others_was = r.others_was;
      others_cell = r.others_cell;
      others_late = r.others_late;
      others_holding = r.others_holding;
      same_record = λ d m h h'. r.same_record d d m h h';
      same_here = λ d lead w. absurd (no_edge d lead);
      woken = λ d lead ne q. absurd (no_edge d lead);
      still = λ d ne q. elim (either (s.queued d)) [
        | inl is ↦ absurd (true≢false (sym (r.queue d ∙ and_join (s.queued d) (not (same_prefix d e)) is (not_self d e ne)) ∙ q))
        | inr isnt ↦ isnt
      ];
    }

    empty : (marked_list S) e ≡ []
    empty = sound.absent e left

    none_here : is_some (t.objects.balance e) ≡ false
    none_here = ap is_some r.gone

    here : IsDone S t e
    here = record {
      placed = none_here ∙ sym left;
      known = r.forwarded ∙ sym (ap (forwards_by t.was) empty);
      filled = λ x k at lt. absurd (true≢false (sym (ap is_some at) ∙ none_here));
      holding = λ m. r.holding m ∙ sym (ap (λ ps. has_hop ps m) empty);
    }

    placed_here : IsPlaced t e
    placed_here = record {
      forwarded = λ w. absurd (true≢false (sym w ∙ r.forwarded));
      recorded = λ m h. r.held e m h;
      late = λ k none. r.late k;
      apart = λ d x at there. absurd (true≢false (sym (ap is_some at) ∙ none_here));
    }

    placed_there : (d : Prefix) → (d ≡ e → ⊥) → IsPlaced t d
    placed_there d ne =
        let was : IsPlaced s d = kept.placed d in
        record {
          forwarded = λ w. ap is_some (r.others d ne) ∙ was.forwarded (sym (r.others_was d ne) ∙ w);
          recorded = λ m h. r.held d m h;
          late = λ k none. r.others_late d k ne ∙ was.late k (sym (ap is_some (r.others d ne)) ∙ none);
          apart = λ c x at there. dite (prefix_discrete c e)
              (λ is. absurd (true≢false (sym (ap is_some (subst (λ i. t.objects.balance i ≡ Some x) is there)) ∙ none_here)))
              (λ isnt. was.apart c x (sym (r.others d ne) ∙ at) (sym (r.others c isnt) ∙ there));
        }

-- a change of the tables
same_entry : (S T : Tables) (e : Prefix) → is_touched S T e ≡ false → has_entry T e ≡ has_entry S e
same_entry S T e h = both (has_entry S e) (has_entry T e) (untouched_stays S T e h) (untouched_came S T e h)
  where
    both : (x y : Bool) → (x ≡ true → y ≡ true) → (y ≡ true → x ≡ true) → y ≡ x
    both true y f g = f refl
    both false true f g = sym (g refl)
    both false false f g = refl

pub applied_keeps : (S T : Tables) (s t : State) → IsSound T → Kept S s → Applied S T s t → Kept T t
applied_keeps S T s t sound kept a =
    record {
      done = λ e q.
          let parts = or_false (s.queued e) (is_touched S T e) (sym (a.queue e) ∙ q) in
          let old : IsDone S s e = kept.done e parts.0 in
          let same : (marked_list T e ≡ marked_list S e) × (has_entry T e ≡ has_entry S e) = (sym (untouched_marked S T e sound parts.1), same_entry S T e parts.1) in
          record {
            placed = ap (λ (n : Objects). is_some (n.balance e)) a.objects ∙ old.placed ∙ sym same.1;
            known = ap (λ (f : Prefix → Bool). f e) a.was ∙ old.known ∙ ap (λ (f : Prefix → Bool). forwards_by f (marked_list S e)) (sym a.was) ∙ ap (λ ps. forwards_by t.was ps) (sym same.0);
            filled = λ o k at lt.
                let was_at : s.objects.balance e ≡ Some o = ap (λ (n : Objects). n.balance e) (sym a.objects) ∙ at in
                fits_at (s.late e k) (t.late e k) (s.cell o k) (t.cell o k) (aim_word s.objects (aim_by s.was (marked_list S e) k)) (aim_word t.objects (aim_by t.was (marked_list T e) k))
                (ap (λ (f : Prefix → ℕ → Option Word). f e k) a.late) (ap (λ (f : ℕ → ℕ → Word). f o k) a.cell)
                (ap (λ (n : Objects). aim_word n (aim_by t.was (marked_list T e) k)) a.objects ∙ ap (λ (f : Prefix → Bool). aim_word s.objects (aim_by f (marked_list T e) k)) a.was ∙ ap (λ ps. aim_word s.objects (aim_by s.was ps k)) same.0)
                (old.filled o k was_at lt);
            holding = λ m. ap (λ (f : Prefix → End → Bool). f e m) a.holds ∙ old.holding m ∙ ap (λ ps. has_hop ps m) (sym same.0);
          };
      placed = λ e.
          let old : IsPlaced s e = kept.placed e in
          record {
            forwarded = λ w. ap (λ (n : Objects). is_some (n.balance e)) a.objects ∙ old.forwarded (ap (λ (f : Prefix → Bool). f e) (sym a.was) ∙ w);
            recorded = λ m h. ap (λ (n : Objects). is_some (n.record_of m)) a.objects ∙ old.recorded m (ap (λ (f : Prefix → End → Bool). f e m) (sym a.holds) ∙ h);
            late = λ k none. ap (λ (f : Prefix → ℕ → Option Word). f e k) a.late ∙ old.late k (ap (λ (n : Objects). is_some (n.balance e)) (sym a.objects) ∙ none);
            apart = λ d o at there. old.apart d o (ap (λ (n : Objects). n.balance e) (sym a.objects) ∙ at) (ap (λ (n : Objects). n.balance d) (sym a.objects) ∙ there);
          };
    }

still_fits : (l l' : Option Word) (c c' w : Word) → StillOrStored l l' c c' → Fits l c w → Fits l' c' w
still_fits None l' c c' w (e, f) h = subst (λ i. Fits i c' w) (sym e) (f ∙ h)
still_fits (Some v) l' c c' w (inl (e, f)) (h, g) = subst (λ i. Fits i c' w) (sym e) (h, f ∙ g)
still_fits (Some v) l' c c' w (inr (e, f)) (h, g) = subst (λ i. Fits i c' w) (sym e) (f ∙ h)

-- a retry
pub retried_keeps : (S : Tables) (s t : State) → Kept S s → Retried s t → Kept S t
retried_keeps S s t kept r =
    record {
      done = λ e q.
          let quiet : s.queued e ≡ false = ap (λ (f : Prefix → Bool). f e) (sym r.queue) ∙ q in
          let old : IsDone S s e = kept.done e quiet in
          record {
            placed = ap (λ (n : Objects). is_some (n.balance e)) r.objects ∙ old.placed;
            known = ap (λ (f : Prefix → Bool). f e) r.was ∙ old.known ∙ ap (λ (f : Prefix → Bool). forwards_by f (marked_list S e)) (sym r.was);
            filled = λ o k at lt.
                let was_at : s.objects.balance e ≡ Some o = ap (λ (n : Objects). n.balance e) (sym r.objects) ∙ at in
                let word = ap (λ (n : Objects). aim_word n (aim_by t.was (marked_list S e) k)) r.objects ∙ ap (λ (f : Prefix → Bool). aim_word s.objects (aim_by f (marked_list S e) k)) r.was in
                subst (λ i. Fits (t.late e k) (t.cell o k) i) (sym word)
                (still_fits (s.late e k) (t.late e k) (s.cell o k) (t.cell o k) (aim_word s.objects (aim_by s.was (marked_list S e) k)) (r.cells e o k was_at lt quiet) (old.filled o k was_at lt));
            holding = λ m. ap (λ (f : Prefix → End → Bool). f e m) r.holds ∙ old.holding m;
          };
      placed = λ e.
          let old : IsPlaced s e = kept.placed e in
          record {
            forwarded = λ w. ap (λ (n : Objects). is_some (n.balance e)) r.objects ∙ old.forwarded (ap (λ (f : Prefix → Bool). f e) (sym r.was) ∙ w);
            recorded = λ m h. ap (λ (n : Objects). is_some (n.record_of m)) r.objects ∙ old.recorded m (ap (λ (f : Prefix → End → Bool). f e m) (sym r.holds) ∙ h);
            late = λ k none. r.no_more e k (old.late k (ap (λ (n : Objects). is_some (n.balance e)) (sym r.objects) ∙ none));
            apart = λ d o at there. old.apart d o (ap (λ (n : Objects). n.balance e) (sym r.objects) ∙ at) (ap (λ (n : Objects). n.balance d) (sym r.objects) ∙ there);
          };
    }

-- with nothing queued, each prefix forwards at its last turn as the tables say
pub was_all : (S : Tables) (rank : Prefix → ℕ) (s : State) → IsRanked S rank → Kept S s → ((e : Prefix) → s.queued e ≡ false) → (e : Prefix) → s.was e ≡ forwards S e
was_all S rank s sound kept quiet e = let lt : rank e < suc (rank e) = omega arith in was_true S rank s sound kept (suc (rank e)) (λ d q. absurd (true≢false (sym q ∙ quiet d))) e lt

-- quiet: the cells stand for the tables
pub quiet_stands : (S : Tables) (rank : Prefix → ℕ) (s : State) → IsRanked S rank → Kept S s → IsQuiet s → StandsFor S s
quiet_stands S rank s sound kept quiet =
    record {
      placed = λ e. (kept.done e (quiet.0 e)).placed;
      filled = λ e o k at lt.
          let fits : Fits (s.late e k) (s.cell o k) (aim_word s.objects (aim_by s.was (marked_list S e) k)) = (kept.done e (quiet.0 e)).filled o k at lt in
          let now : Fits None (s.cell o k) (aim_word s.objects (aim_by s.was (marked_list S e) k)) = subst (λ i. Fits i (s.cell o k) (aim_word s.objects (aim_by s.was (marked_list S e) k))) (quiet.1 e k) fits in
          now ∙ ap (aim_word s.objects) (aim_agree s.was (forwards S) (marked_list S e) k (λ u lead. was_all S rank s sound kept quiet.0 u) ∙ sym (aim_is S e k));
      holding = λ e m. (kept.done e (quiet.0 e)).holding m;
    }

-- the same where all that is queued has a greater rank
pub was_below : (S : Tables) (rank : Prefix → ℕ) (s : State) (r : ℕ) (e : Prefix) → IsRanked S rank → Kept S s → ((d : Prefix) → s.queued d ≡ true → r ≤ rank d) → rank e < r → s.was e ≡ forwards S e
was_below S rank s r e sound kept low lt = was_true S rank s sound kept r low e lt
