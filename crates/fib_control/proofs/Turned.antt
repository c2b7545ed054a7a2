-- Turns, and what else leaves the tables as they are.
use native.Mathlib.Decide.{ℕ_discrete}
use Rattle.std.proofs.Common.{map, inl, inr, ⊎_elim, ◌≡◌, ◌≢◌, ◌⊎◌, ℕ, zero, suc, ◌+◌, ◌-◌, ◌<◌, ◌≤◌, ◌||◌, ◌&&◌, not, Bool, true, false, true≢false, List, [], ◌∷◌, ◌++◌, length, refl, sym, ap, ◌∙◌, subst, arith}
use Rattle.std.specs.Prelude.{Contains, Option, Some, None, slice_get, if◌then◌else◌}
use Rattle.std.specs.List.{AllByRecursion, list_any}
use Rattle.std.proofs.lemmas.List.Folds.{list_any-append}
use Rattle.fib_base_list.proofs.Booleans.{and_both, or_cases}
use Rattle.fib_base_list.proofs.Lists.{each-weaker, either}
use Rattle.fib_addr.specs.Prefixes.{Prefix, same_prefix}
use Rattle.fib_addr.proofs.PrefixLaws.{same_prefix-Decides}
use Rattle.fib_reach.specs.Walks.{AllDiffer}
use Rattle.fib_resolve.specs.Sizes.{size}
use Rattle.fib_resolve.specs.declared.types.Tables.{Tables}
use Rattle.fib_config.specs.Config.{Setup}
use Rattle.fib_resolve_changes.specs.Ranks.{IsRanked, has_entry}
use Rattle.fib_resolve_changes.proofs.Edits.{any_in}
use Rattle.fib_entries_rows.specs.Known.{Known, StandsFor, rank_of}
use Rattle.fib_core_lawful.specs.State.{Log}
use Rattle.fib_stack_queue.specs.Queues.{rank_in}
use Rattle.fib_stack_queue.specs.declared.order.Queued.{Queued}
use Rattle.std.proofs.lemmas.List.{length-map}
use Rattle.fib_core_board.specs.Told.{IsHistory}
use Rattle.fib_core.specs.Union.{Retired as Copy}
use Rattle.fib_plane.specs.Views.{copy_seen}
use Rattle.fib_plane_view.specs.Promise.{MayClear, Promise}
use Rattle.fib_stack.proofs.Joining.{table_names}
use Rattle.fib_core_promise.specs.Stack.{is_some}
use Rattle.fib_stack.specs.Done.{HadItsTurn, TurnDone}
use Rattle.fib_stack.specs.Joined.{Joined, queued_in, table_of}
use Rattle.fib_stack.specs.Orders.{InOrder, did_also}
use Rattle.fib_stack.specs.Room.{HasRoomLeft}
use Rattle.fib_stack.specs.States.{State}
use Rattle.fib_stack.specs.Steps.{IsLeast, Removed}
use Rattle.fib_stack.specs.Turns.{IsRestacked}
use Rattle.fib_stack.specs.declared.turn.Turn.{Turn}
use Rattle.fib_stack.specs.declared.turn.Turn.TheVariants as turns
use Rattle.fib_stack.proofs.Ordering.{removed_in_order, restacked_in_order, was_not_done}
use Rattle.fib_control.proofs.Queued.{swapped}
use Rattle.fib_stack_waking.specs.Waking.{is_among}
use Rattle.fib_control.specs.Controls.{Control, IsBeneath, IsDoneAfter, had_turn, is_queued, noted, parts_in, promise_in, rank_by, state_now, tables_in, view_in}
use Rattle.fib_control.specs.inner.Standing.{IsStanding}

-- a turn that was noted also
pub also_among : (done : List Prefix) (e d : Prefix) → is_among (done ++ e ∷ []) d ≡ did_also e (is_among done) d
also_among done e d = list_any-append (λ x. same_prefix x d) done (e ∷ []) ∙ turned (is_among done d) (same_prefix e d) (same_prefix d e) (swapped e d)
  where
    turned : (a x y : Bool) → x ≡ y → a || (x || false) ≡ y || a
    turned true true y s = ap (λ b. b || true) s
    turned true false y s = ap (λ b. b || true) s
    turned false true y s = s ∙ sym (or_false y)
      where
        or_false : (b : Bool) → b || false ≡ b
        or_false true = refl
        or_false false = refl
    turned false false y s = s ∙ sym (or_false y)
      where
        or_false : (b : Bool) → b || false ≡ b
        or_false true = refl
        or_false false = refl

pub order_same : (rank : Prefix → ℕ) (s t : State) (did now : Prefix → Bool) → ((d : Prefix) → t.queued d ≡ s.queued d) → ((d : Prefix) → now d ≡ did d) → InOrder rank s did → InOrder rank t now
order_same rank s t did now queued same order = record {
  once = λ d dd q. order.once d (sym (same d) ∙ dd) (sym (queued d) ∙ q);
  behind = λ d x dd q. order.behind d x (sym (same d) ∙ dd) (sym (queued x) ∙ q);
}

-- a turn that was noted keeps the order
pub turned_order : (S : Tables) (rank : Prefix → ℕ) (turn : Turn) (s t : State) (before after : List Prefix) → IsRanked S rank → TurnDone S rank turn s t → InOrder rank s (is_among before) → IsDoneAfter turn before after → InOrder rank t (is_among after)
turned_order S rank turns.Idle s t before after sound done order noted =
    order_same rank s t (is_among before) (is_among after) (λ d. ap (λ (x : State). x.queued d) done.0) (λ d. ap (λ (xs : List Prefix). is_among xs d) noted) order
turned_order S rank (turns.Restacked e stores dropped) s t before after sound done order noted =
    order_same rank t t (did_also e (is_among before)) (is_among after) (λ d. refl)
    (λ d. ap (λ (xs : List Prefix). is_among xs d) noted.0 ∙ also_among before e d)
    (⊎_elim
    (λ (r : (has_entry S e ≡ true) × IsRestacked S e s t). restacked_in_order S rank e r.1.object s t (is_among before) sound order done.0 r.1.turn)
    (λ (r : (has_entry S e ≡ false) × Removed e s t). removed_in_order rank e s t (is_among before) order done.0 r.1)
    done.1)

-- who has a turn had none since the last change
pub turn_new : (S : Tables) (rank : Prefix → ℕ) (e : Prefix) (s t : State) (before : List Prefix) → HadItsTurn S rank e s t → InOrder rank s (is_among before) → is_among before e ≡ false
turn_new S rank e s t before taken order = elim (either (is_among before e)) [
  | inl is ↦ absurd (was_not_done rank s (is_among before) e order taken.0.queued is)
  | inr none ↦ none
]

once_more : (e : Prefix) (xs : List Prefix) → is_among xs e ≡ false → AllDiffer xs → AllDiffer (xs ++ e ∷ [])
once_more e [] new once = (tt, tt)
once_more e (x ∷ xs) new once =
    let apart : (same_prefix x e ≡ false) × (is_among xs e ≡ false) = neither (same_prefix x e) (is_among xs e) new in
    (each_last xs once.0 (λ is. true≢false (sym ((same_prefix-Decides x e).1 is) ∙ apart.0)), once_more e xs apart.1 once.1)
  where
    neither : (a b : Bool) → a || b ≡ false → (a ≡ false) × (b ≡ false)
    neither true b h = absurd (true≢false h)
    neither false b h = (refl, h)

    each_last : (ys : List Prefix) → AllByRecursion (λ y. x ≢ y) ys → x ≢ e → AllByRecursion (λ y. x ≢ y) (ys ++ e ∷ [])
    each_last [] h n = (n, tt)
    each_last (y ∷ ys) h n = (h.0, each_last ys h.1 n)

pub turned_once : (turn : Turn) (before after : List Prefix) → IsDoneAfter turn before after → AllDiffer before → AllDiffer after
turned_once turns.Idle before after noted once = subst AllDiffer (sym noted) once
turned_once (turns.Restacked e stores dropped) before after noted once = subst AllDiffer (sym noted.0) (once_more e before noted.1 once)

-- what is queued waits for a change that is being made
pub waits : (c : Control) → IsStanding c → (q : Queued) (more : List Queued) → c.queue ≡ q ∷ more → c.plane.board.log.version.settled < c.plane.board.log.version.applied
waits c i q more is = i.joined.waiting q.prefix q.rank (ap (λ (xs : List Queued). rank_in xs q.prefix) is ∙ here (same_prefix q.prefix q.prefix) ((same_prefix-Decides q.prefix q.prefix).1 refl))
  where
    here : (b : Bool) → b ≡ true → (if b then Some q.rank else rank_in more q.prefix) ≡ Some q.rank
    here true h = refl
    here false h = absurd (true≢false (sym h))

module _ (c d : Control) (i : IsStanding c) (same : IsBeneath c d) where
  same_log : d.plane.board.log ≡ c.plane.board.log
  same_log = ap (λ (p : Promise). p.rest.log) same.promise

  same_objects : d.plane.board.objects ≡ c.plane.board.objects
  same_objects = ap (λ (p : Promise). p.rest.objects) same.promise

  same_tables : tables_in d ≡ tables_in c
  same_tables = ap (λ (s : Setup). s.tables) same.setup

  same_room : d.setup.room ≡ c.setup.room
  same_room = ap (λ (s : Setup). s.room) same.setup

  -- what a call keeps that makes no change of the tables
  pub beneath : Joined (tables_in c) (rank_by c) (promise_in d) (view_in d) (parts_in d)
      → (c.plane.board.log.version.settled ≡ c.plane.board.log.version.applied → d.plane.board.union.retired ≡ [])
      → (0 < c.plane.board.log.version.applied → HasRoomLeft (tables_in c) (view_in d).free (state_now d))
      → InOrder (rank_by c) (state_now d) (had_turn d) → AllDiffer d.done → IsStanding d
  beneath joined calm roomy ordered once = record {
    stands = subst (λ (S : Tables). StandsFor d.entries S) (sym same_tables) (subst (λ (v : Known). StandsFor v (tables_in c)) (sym same.entries) i.stands);
    joined = subst (λ (S : Tables). Joined S (rank_by d) (promise_in d) (view_in d) (parts_in d)) (sym same_tables)
        (subst (λ (v : Known). Joined (tables_in c) (rank_of v.rows) (promise_in d) (view_in d) (parts_in d)) (sym same.entries) joined);
    newest = subst (λ (l : Log). slice_get l.history l.version.applied ≡ Some (tables_in d)) (sym same_log) (i.newest ∙ ap (λ (S : Tables). Some S) (sym same_tables));
    calm = λ (z : d.plane.board.log.version.settled ≡ d.plane.board.log.version.applied). calm (subst (λ (l : Log). l.version.settled ≡ l.version.applied) same_log z);
    roomy = λ begun. subst (λ (S : Tables). HasRoomLeft S (view_in d).free (state_now d)) (sym same_tables) (roomy (subst (λ (l : Log). 0 < l.version.applied) same_log begun));
    ordered = subst (λ (v : Known). InOrder (rank_of v.rows) (state_now d) (had_turn d)) (sym same.entries) ordered;
    once = once;
    fits = subst (λ (s : Setup). size s.tables ≤ s.room) (sym same.setup) i.fits;
    room = (let r = i.room in let s = same_room in omega (arith, r, s));
    half = (let h = i.half in let s = same_room in let o = same_objects in omega (arith, h, s, o));
  }

pub empty_by : {A : Type 0} (xs : List A) (n : ℕ) → n ≡ length xs → n ≡ 0 → xs ≡ []
empty_by [] n is none = refl
empty_by (x ∷ xs) n is none = absurd (omega (arith, is, none))

pub empty_from : {A B : Type 0} (f : A → B) (xs : List A) → map f xs ≡ [] → xs ≡ []
empty_from f xs is = empty_by xs (length xs) refl (sym (length-map xs f) ∙ ap length is)

-- something is queued: a change is being made
pub busy_waits : (c : Control) → IsStanding c → (n : ℕ) → n ≡ length c.queue → (n ≡ 0 → ⊥) → c.plane.board.log.version.settled < c.plane.board.log.version.applied
busy_waits c i n is some = by_list c.queue refl
  where
    by_list : (qs : List Queued) → c.queue ≡ qs → c.plane.board.log.version.settled < c.plane.board.log.version.applied
    by_list [] at = absurd (some (is ∙ ap length at))
    by_list (q ∷ qs) at = waits c i q qs at

-- something is retired: then too
pub retired_waits : (c : Control) → IsStanding c → IsHistory c.plane.board → (n : ℕ) → n ≡ length (map copy_seen c.plane.board.union.retired) → (n ≡ 0 → ⊥) → c.plane.board.log.version.settled < c.plane.board.log.version.applied
retired_waits c i h n is some = elim (ℕ_discrete c.plane.board.log.version.settled c.plane.board.log.version.applied) [
  | yes same ↦ absurd (some (is ∙ ap (λ (xs : List Copy). length (map copy_seen xs)) (i.calm same)))
  | no apart ↦ (let o = h.order in omega (arith, o, apart))
]

pub may_clear_now : (c : Control) → IsStanding c → c.plane.board.log.version.settled < c.plane.board.log.version.applied → MayClear (promise_in c) (view_in c)
may_clear_now c i lt = (let n = table_names (promise_in c) (table_of (parts_in c)) (view_in c) i.joined.table in (inl lt, (n.0, n.2)))

pub noted_after : (S : Tables) (rank : Prefix → ℕ) (turn : Turn) (s t : State) (before after : List Prefix) → TurnDone S rank turn s t → InOrder rank s (is_among before) → after ≡ noted turn before → IsDoneAfter turn before after
noted_after S rank turns.Idle s t before after done order is = is
noted_after S rank (turns.Restacked e stores dropped) s t before after done order is = (is, turn_new S rank e s t before done order)
