-- Who had a turn, one turn after the other.
use Rattle.std.proofs.Common.{inl, inr, ⊎_elim, ◌⊎◌, ◌≡◌, ℕ, ◌||◌, ◌&&◌, not, Bool, true, false, true≢false, List, [], ◌∷◌, ◌++◌, refl, sym, ap, ◌∙◌, subst}
use Rattle.std.specs.Prelude.{◌↔◌, Some, None}
use Rattle.std.proofs.lemmas.List.{append_assoc, append-nil}
use Rattle.std.proofs.lemmas.List.Folds.{list_any-append}
use Rattle.fib_base_list.proofs.Booleans.{and_both, or_cases, or_left, or_right}
use Rattle.fib_base_list.proofs.Lists.{either}
use Rattle.fib_addr.specs.Prefixes.{Prefix, same_prefix}
use Rattle.fib_addr.proofs.PrefixLaws.{same_prefix-Decides}
use Rattle.fib_resolve.specs.Forwarding.{forwards}
use Rattle.fib_resolve.specs.Touched.{differ}
use Rattle.fib_resolve.specs.declared.types.Tables.{Tables}
use Rattle.fib_resolve_changes.specs.Ranks.{has_entry, wakes}
use Rattle.fib_ply.specs.Rows.{held}
use Rattle.fib_config.specs.Config.{Setup}
use Rattle.fib_core_promise.specs.Stack.{is_some}
use Rattle.fib_stack.specs.Done.{TurnDone}
use Rattle.fib_stack.specs.Joined.{Parts, queued_in, was_by}
use Rattle.fib_stack.specs.States.{State}
use Rattle.fib_stack.specs.Steps.{Removed}
use Rattle.fib_stack.specs.Turns.{IsRestacked}
use Rattle.fib_stack.specs.declared.turn.Turn.{Turn}
use Rattle.fib_stack.specs.declared.turn.Turn.TheVariants as turns
use Rattle.fib_stack_waking.specs.Waking.{is_among}
use Rattle.fib_stack_queue.specs.Queues.{rank_in}
use Rattle.fib_control.specs.Controls.{Control, IsDoneAfter, IsSettled, is_queued, parts_in, state_now, tables_in}
use Rattle.fib_control.specs.Turning.{HaveTurned, IsDue, IsWoken}
use Rattle.fib_control.specs.inner.Underway.{AreTurning}

both_and : (a b : Bool) → a ≡ true → b ≡ true → a && b ≡ true
both_and true b x y = y
both_and false b x y = absurd (true≢false (sym x))

neither_left : (a b : Bool) → a || b ≡ false → a ≡ false
neither_left true b h = absurd (true≢false h)
neither_left false b h = refl

neither_right : (a b : Bool) → a || b ≡ false → b ≡ false
neither_right true b h = absurd (true≢false h)
neither_right false b h = h

not_false : (b : Bool) → b ≡ false → not b ≡ true
not_false true h = absurd (true≢false h)
not_false false h = refl

among_last : (had : List Prefix) (e : Prefix) → is_among (had ++ e ∷ []) e ≡ true
among_last had e = list_any-append (λ x. same_prefix x e) had (e ∷ [])
    ∙ or_right (is_among had e) (same_prefix e e || false) (or_left (same_prefix e e) false ((same_prefix-Decides e e).1 refl))

among_more : (had : List Prefix) (e d : Prefix) → is_among had d ≡ true → is_among (had ++ e ∷ []) d ≡ true
among_more had e d h = list_any-append (λ x. same_prefix x d) had (e ∷ []) ∙ or_left (is_among had d) (is_among (e ∷ []) d) h

-- it is the last one, or one of the others
among_which : (had : List Prefix) (e d : Prefix) → is_among (had ++ e ∷ []) d ≡ true → (is_among had d ≡ true) ⊎ (e ≡ d)
among_which had e d h = ⊎_elim
    (λ (a : is_among had d ≡ true). inl a)
    (λ (b : (same_prefix e d || false) ≡ true). inr (⊎_elim
    (λ (is : same_prefix e d ≡ true). (same_prefix-Decides e d).0 is)
    (λ (is : false ≡ true). absurd (true≢false (sym is)))
    (or_cases (same_prefix e d) false b)))
    (or_cases (is_among had d) (is_among (e ∷ []) d) (sym (list_any-append (λ x. same_prefix x d) had (e ∷ [])) ∙ h))

due_more : (S : Tables) (s : State) (had : List Prefix) (e d : Prefix) → IsDue S s had d → IsDue S s (had ++ e ∷ []) d
due_more S s had e d h = ⊎_elim
    (λ (q : s.queued d ≡ true). inl q)
    (λ (w : IsWoken S s had d). inr (record { by = w.by; among = among_more had e w.by w.among; entry = w.entry; other = w.other; wakes = w.wakes }))
    h

-- before the first turn
pub none_turned : (c : Control) → AreTurning c c
none_turned c = record {
  turned = record {
    had = [];
    done = sym (append-nil c.done);
    due = λ e. (
      (λ (q : is_queued c e ≡ true). inl q),
      (λ (h : IsDue (tables_in c) (state_now c) [] e). ⊎_elim
          (λ (q : is_queued c e ≡ true). q)
          (λ (w : IsWoken (tables_in c) (state_now c) [] e). absurd (true≢false (sym w.among)))
          h),
    );
    objects = λ e o entry at. at;
  };
  was = λ e none. refl;
}

-- what a turn of one prefix does to who is due and who waits
record IsStep (S : Tables) (s t : State) (e : Prefix) : Type 0 where
  waited : s.queued e ≡ true
  from : (d : Prefix) → t.queued d ≡ true → (s.queued d ≡ true) ⊎ ((has_entry S e ≡ true) × (differ (s.was e) (forwards S e) ≡ true) × (wakes S d e ≡ true))
  stays : (d : Prefix) → s.queued d ≡ true → (e ≡ d → ⊥) → t.queued d ≡ true
  woken : (d : Prefix) → has_entry S e ≡ true → differ (s.was e) (forwards S e) ≡ true → wakes S d e ≡ true → t.queued d ≡ true
  kept : (d : Prefix) (o : ℕ) → has_entry S d ≡ true → s.objects.balance d ≡ Some o → t.objects.balance d ≡ Some o
  was : (d : Prefix) → (d ≡ e → ⊥) → t.was d ≡ s.was d

apart : (d e : Prefix) → (e ≡ d → ⊥) → not (same_prefix d e) ≡ true
apart d e off = elim (either (same_prefix d e)) [
  | inl is ↦ absurd (off (sym ((same_prefix-Decides d e).0 is)))
  | inr none ↦ not_false (same_prefix d e) none
]

restacked_step : (S : Tables) (e : Prefix) (s t : State) → s.queued e ≡ true → has_entry S e ≡ true → IsRestacked S e s t → IsStep S s t e
restacked_step S e s t waited entry r =
    let turn = r.turn in
    record {
      waited = waited;
      from = λ d q. ⊎_elim
          (λ (a : (s.queued d && not (same_prefix d e)) ≡ true). inl (and_both (s.queued d) (not (same_prefix d e)) a).0)
          (λ (b : (differ (s.was e) (forwards S e) && wakes S d e) ≡ true). let two = and_both (differ (s.was e) (forwards S e)) (wakes S d e) b in inr (entry, two.0, two.1))
          (or_cases (s.queued d && not (same_prefix d e)) (differ (s.was e) (forwards S e) && wakes S d e) (sym (turn.queue d) ∙ q));
      stays = λ d q off. turn.queue d ∙ or_left (s.queued d && not (same_prefix d e)) (differ (s.was e) (forwards S e) && wakes S d e)
          (both_and (s.queued d) (not (same_prefix d e)) q (apart d e off));
      woken = λ d is other wake. turn.queue d ∙ or_right (s.queued d && not (same_prefix d e)) (differ (s.was e) (forwards S e) && wakes S d e)
          (both_and (differ (s.was e) (forwards S e)) (wakes S d e) other wake);
      kept = λ d o is at. elim (either (same_prefix d e)) [
        | inl same ↦ (let one : d ≡ e = (same_prefix-Decides d e).0 same in
            ⊎_elim
            (λ (b : s.objects.balance e ≡ Some r.object). ap t.objects.balance one ∙ (turn.here ∙ (sym b ∙ (sym (ap s.objects.balance one) ∙ at))))
            (λ (b : (s.objects.balance e ≡ None) × ((x : Prefix) → s.objects.balance x ≡ Some r.object → x ≡ e)). absurd (none_some o (sym b.0 ∙ (sym (ap s.objects.balance one) ∙ at))))
            turn.before)
        | inr none ↦ turn.others d (λ one. true≢false (sym ((same_prefix-Decides d e).1 one) ∙ none)) ∙ at
      ];
      was = turn.others_was;
    }
  where
    none_some : (o : ℕ) → None ≡ Some o → ⊥
    none_some o is = true≢false (sym (ap is_some is))

removed_step : (S : Tables) (e : Prefix) (s t : State) → s.queued e ≡ true → has_entry S e ≡ false → Removed e s t → IsStep S s t e
removed_step S e s t waited gone r = record {
  waited = waited;
  from = λ d q. inl (and_both (s.queued d) (not (same_prefix d e)) (sym (r.queue d) ∙ q)).0;
  stays = λ d q off. r.queue d ∙ both_and (s.queued d) (not (same_prefix d e)) q (apart d e off);
  woken = λ d is other wake. absurd (true≢false (sym is ∙ gone));
  kept = λ d o is at. r.others d (λ one. true≢false (sym is ∙ (ap (has_entry S) one ∙ gone))) ∙ at;
  was = r.others_was;
}

step_more : (c l m : Control) (e : Prefix) → AreTurning c l → IsStep (tables_in c) (state_now l) (state_now m) e → m.done ≡ l.done ++ e ∷ [] → is_among l.done e ≡ false → AreTurning c m
step_more c l m e i step done new =
    let S = tables_in c in
    let s = state_now c in
    let h = i.turned in
    let had = h.had in
    let fresh : is_among had e ≡ false = neither_right (is_among c.done e) (is_among had e)
    (sym (list_any-append (λ x. same_prefix x e) c.done had) ∙ (sym (ap (λ (xs : List Prefix). is_among xs e) h.done) ∙ new)) in
    let was : (state_now l).was e ≡ s.was e = i.was e fresh in
    let there : (d : Prefix) → (is_among had d || is_queued l d) ≡ true → (is_among (had ++ e ∷ []) d || is_queued m d) ≡ true = λ d old. ⊎_elim
    (λ (a : is_among had d ≡ true). or_left (is_among (had ++ e ∷ []) d) (is_queued m d) (among_more had e d a))
    (λ (q : is_queued l d ≡ true). elim (either (same_prefix e d)) [
      | inl same ↦ or_left (is_among (had ++ e ∷ []) d) (is_queued m d) (subst (λ (x : Prefix). is_among (had ++ e ∷ []) x ≡ true) ((same_prefix-Decides e d).0 same) (among_last had e))
      | inr none ↦ or_right (is_among (had ++ e ∷ []) d) (is_queued m d) (step.stays d q (λ one. true≢false (sym ((same_prefix-Decides e d).1 one) ∙ none)))
    ])
    (or_cases (is_among had d) (is_queued l d) old) in
    record {
      turned = record {
        had = had ++ e ∷ [];
        done = done ∙ (ap (λ (xs : List Prefix). xs ++ e ∷ []) h.done ∙ append_assoc c.done had (e ∷ []));
        due = λ d. (
          (λ (now : (is_among (had ++ e ∷ []) d || is_queued m d) ≡ true). ⊎_elim
              (λ (a : is_among (had ++ e ∷ []) d ≡ true). ⊎_elim
              (λ (b : is_among had d ≡ true). due_more S s had e d ((h.due d).0 (or_left (is_among had d) (is_queued l d) b)))
              (λ (one : e ≡ d). subst (λ (x : Prefix). IsDue S s (had ++ e ∷ []) x) one (due_more S s had e e ((h.due e).0 (or_right (is_among had e) (is_queued l e) step.waited))))
              (among_which had e d a))
              (λ (q : is_queued m d ≡ true). ⊎_elim
              (λ (old : is_queued l d ≡ true). due_more S s had e d ((h.due d).0 (or_right (is_among had d) (is_queued l d) old)))
              (λ (w : (has_entry S e ≡ true) × (differ ((state_now l).was e) (forwards S e) ≡ true) × (wakes S d e ≡ true)). inr (record {
                by = e;
                among = among_last had e;
                entry = w.0;
                other = subst (λ (b : Bool). differ b (forwards S e) ≡ true) was w.1;
                wakes = w.2;
              }))
              (step.from d q))
              (or_cases (is_among (had ++ e ∷ []) d) (is_queued m d) now)),
          (λ (due : IsDue S s (had ++ e ∷ []) d). ⊎_elim
              (λ (q : s.queued d ≡ true). there d ((h.due d).1 (inl q)))
              (λ (w : IsWoken S s (had ++ e ∷ []) d). ⊎_elim
              (λ (a : is_among had w.by ≡ true). there d ((h.due d).1 (inr (record { by = w.by; among = a; entry = w.entry; other = w.other; wakes = w.wakes }))))
              (λ (one : e ≡ w.by). or_right (is_among (had ++ e ∷ []) d) (is_queued m d) (step.woken d
              (ap (has_entry S) one ∙ w.entry)
              (subst (λ (b : Bool). differ b (forwards S e) ≡ true) (sym was) (ap (λ (x : Prefix). differ (s.was x) (forwards S x)) one ∙ w.other))
              (ap (wakes S d) one ∙ w.wakes)))
              (among_which had e w.by w.among))
              due),
        );
        objects = λ d o entry at. step.kept d o entry (h.objects d o entry at);
      };
      was = λ d none. step.was d (λ one. true≢false (sym (among_last had e) ∙ (sym (ap (is_among (had ++ e ∷ [])) one) ∙ none))) ∙ i.was d (before d none);
    }
  where
    before : (d : Prefix) → is_among (i.turned.had ++ e ∷ []) d ≡ false → is_among i.turned.had d ≡ false
    before d none = neither_left (is_among i.turned.had d) (is_among (e ∷ []) d) (sym (list_any-append (λ x. same_prefix x d) i.turned.had (e ∷ [])) ∙ none)

-- a call that gives nobody a turn and moves no object
abbrev pub turned_same : (c l m : Control) → HaveTurned c l → m.done ≡ l.done → ((d : Prefix) → held m.rows d ≡ held l.rows d) → ((d : Prefix) → is_queued m d ≡ is_queued l d) → HaveTurned c m
turned_same c l m i done rows queued = record {
  had = i.had;
  done = done ∙ i.done;
  due = λ d. subst (λ (b : Bool). (is_among i.had d || b) ≡ true ↔ IsDue (tables_in c) (state_now c) i.had d) (sym (queued d)) (i.due d);
  objects = λ d o entry at. rows d ∙ i.objects d o entry at;
}

-- a turn that found nothing queued, or a call that gives nobody a turn and moves no object
none_more : (c l m : Control) → AreTurning c l → m.done ≡ l.done → ((d : Prefix) → held m.rows d ≡ held l.rows d) → ((d : Prefix) → is_queued m d ≡ is_queued l d)
    → ((d : Prefix) → (state_now m).was d ≡ (state_now l).was d) → AreTurning c m
none_more c l m i done rows queued was = record {
  turned = turned_same c l m i.turned done rows queued;
  was = λ d none. was d ∙ i.was d none;
}

-- after want of memory nobody had one
pub same_turning : (c l m : Control) → AreTurning c l → parts_in m ≡ parts_in l → m.done ≡ l.done → AreTurning c m
same_turning c l m i parts done = none_more c l m i done (λ d. ap (λ (p : Parts). held p.rows d) parts) (λ d. ap (λ (p : Parts). queued_in p d) parts) (λ d. ap (λ (p : Parts). was_by p d) parts)

pub turned_parts : (c l m : Control) → HaveTurned c l → parts_in m ≡ parts_in l → m.done ≡ l.done → HaveTurned c m
turned_parts c l m i parts done = turned_same c l m i done (λ d. ap (λ (p : Parts). held p.rows d) parts) (λ d. ap (λ (p : Parts). queued_in p d) parts)

by_turn : (c l m : Control) (rank : Prefix → ℕ) (turn : Turn) → AreTurning c l → TurnDone (tables_in c) rank turn (state_now l) (state_now m) → IsDoneAfter turn l.done m.done → AreTurning c m
by_turn c l m rank turns.Idle i done noted = none_more c l m i noted
    (λ d. ap (λ (s : State). s.objects.balance d) done.0) (λ d. ap (λ (s : State). s.queued d) done.0) (λ d. ap (λ (s : State). s.was d) done.0)
by_turn c l m rank (turns.Restacked e stores dropped) i done noted = step_more c l m e i
    (⊎_elim
    (λ (r : (has_entry (tables_in c) e ≡ true) × IsRestacked (tables_in c) e (state_now l) (state_now m)). restacked_step (tables_in c) e (state_now l) (state_now m) done.0.queued r.0 r.1)
    (λ (r : (has_entry (tables_in c) e ≡ false) × Removed e (state_now l) (state_now m)). removed_step (tables_in c) e (state_now l) (state_now m) done.0.queued r.0 r.1)
    done.1)
    noted.0 noted.1

pub turn_more : (c l m : Control) (rank : Prefix → ℕ) (turn : Turn) → l.setup ≡ c.setup → AreTurning c l → TurnDone (tables_in l) rank turn (state_now l) (state_now m) → IsDoneAfter turn l.done m.done → AreTurning c m
turn_more c l m rank turn same i done noted =
    by_turn c l m rank turn i (subst (λ (s : Setup). TurnDone s.tables rank turn (state_now l) (state_now m)) same done) noted

-- what a scan, a retry and the mark behind them leave
pub turned_on : (c l a b d : Control) → HaveTurned c l → (parts_in a ≡ parts_in l) × (a.done ≡ l.done) → (b.rows ≡ a.rows) × (b.plies ≡ a.plies) × (b.queue ≡ a.queue) × (b.done ≡ a.done) → (d ≡ b) ⊎ IsSettled b d → HaveTurned c d
turned_on c l a b d i scan retry mark =
    let rows : d.rows ≡ l.rows = ⊎_elim (λ (is : d ≡ b). ap (λ (x : Control). x.rows) is) (λ (s : IsSettled b d). ap (λ (x : Control). x.rows) s.others) mark ∙ (retry.0 ∙ ap (λ (p : Parts). p.rows) scan.0) in
    let queue : d.queue ≡ l.queue = ⊎_elim (λ (is : d ≡ b). ap (λ (x : Control). x.queue) is) (λ (s : IsSettled b d). ap (λ (x : Control). x.queue) s.others) mark ∙ (retry.2 ∙ ap (λ (p : Parts). p.queue) scan.0) in
    let done : d.done ≡ l.done = ⊎_elim (λ (is : d ≡ b). ap (λ (x : Control). x.done) is) (λ (s : IsSettled b d). ap (λ (x : Control). x.done) s.others) mark ∙ (retry.3 ∙ scan.1) in
    turned_same c l d i done (λ e. ap (λ rs. held rs e) rows) (λ e. ap (λ qs. is_some (rank_in qs e)) queue)
