-- Turns end: each takes a prefix that had none since the last change, and all that may be taken are listed.
use Rattle.std.proofs.Common.{inl, inr, ⊎_elim, ◌⊎◌, ◌≡◌, ℕ, ◌+◌, ◌-◌, ◌<◌, ◌≤◌, ◌||◌, ◌&&◌, not, Bool, true, false, true≢false, List, [], ◌∷◌, ◌++◌, length, map, refl, sym, ap, ◌∙◌, subst, arith}
use Rattle.std.specs.Prelude.{Contains, Option, Some, None, if◌then◌else◌}
use Rattle.std.specs.List.{AllByRecursion, list_any}
use Rattle.std.proofs.lemmas.List.Folds.{list_any-append}
use Rattle.std.proofs.lemmas.List.{length-append}
use Rattle.std.proofs.lemmas.Map.Made.{is_member-Decides}
use Rattle.fib_base_list.proofs.Booleans.{and_both, or_cases}
use Rattle.fib_base_list.proofs.Lists.{each-weaker}
use Rattle.fib_addr.specs.Prefixes.{Prefix, same_prefix}
use Rattle.fib_addr.proofs.PrefixLaws.{same_prefix-Decides}
use Rattle.fib_reach.specs.Walks.{AllDiffer}
use Rattle.fib_reach.proofs.Places.{length-le_from_differ}
use Rattle.fib_resolve.specs.Pairs.{entries}
use Rattle.fib_resolve.specs.declared.types.Tables.{Tables}
use Rattle.fib_resolve.proofs.OneList.{each-itself}
use Rattle.fib_resolve_changes.specs.Ranks.{IsRanked, has_entry, wakes}
use Rattle.fib_resolve_changes.proofs.CauseLaws.{any_from}
use Rattle.fib_resolve_changes.proofs.Edits.{any_in}
use Rattle.fib_stack_queue.specs.Queues.{rank_in}
use Rattle.fib_stack_queue.specs.declared.order.Queued.{Queued}
use Rattle.fib_core_promise.specs.Stack.{is_some}
use Rattle.fib_stack.specs.Done.{TurnDone}
use Rattle.fib_stack.specs.States.{State}
use Rattle.fib_stack.specs.Steps.{Removed}
use Rattle.fib_stack.specs.Turns.{IsRestacked}
use Rattle.fib_stack.specs.declared.turn.Turn.{Turn}
use Rattle.fib_stack.specs.declared.turn.Turn.TheVariants as turns
use Rattle.fib_stack.proofs.Ordering.{who_is_queued}
use Rattle.fib_stack_waking.specs.Waking.{is_among}
use Rattle.fib_control.specs.Controls.{Control, IsBeneath, IsDoneAfter, is_queued, tables_in}
use Rattle.fib_control.proofs.Turned.{also_among}

-- all that can have a turn before the next change
abbrev pub may_turn : Control → List Prefix
may_turn c = map (λ (q : Queued). q.prefix) c.queue ++ (entries (tables_in c) ++ c.done)

or_right : (a b : Bool) → b ≡ true → a || b ≡ true
or_right true b h = refl
or_right false b h = h

or_left : (a b : Bool) → a ≡ true → a || b ≡ true
or_left true b h = refl
or_left false b h = absurd (true≢false (sym h))

among_left : (xs ys : List Prefix) (d : Prefix) → is_among xs d ≡ true → is_among (xs ++ ys) d ≡ true
among_left xs ys d h = list_any-append (λ x. same_prefix x d) xs ys ∙ or_left (is_among xs d) (is_among ys d) h

among_right : (xs ys : List Prefix) (d : Prefix) → is_among ys d ≡ true → is_among (xs ++ ys) d ≡ true
among_right xs ys d h = list_any-append (λ x. same_prefix x d) xs ys ∙ or_right (is_among xs d) (is_among ys d) h

among_contains : (xs : List Prefix) (d : Prefix) → Contains xs d → is_among xs d ≡ true
among_contains xs d c = any_in (λ x. same_prefix x d) xs d c ((same_prefix-Decides d d).1 refl)

contains_among : (xs : List Prefix) (d : Prefix) → is_among xs d ≡ true → Contains xs d
contains_among xs d h = (let r = any_from (λ x. same_prefix x d) xs h in subst (λ (x : Prefix). Contains xs x) ((same_prefix-Decides r.0 d).0 r.2) r.1)

listed_next : (q : Queued) (qs : List Queued) (d : Prefix) (b : Bool) → same_prefix q.prefix d ≡ b → (is_some (rank_in qs d) ≡ true → is_among (map (λ (x : Queued). x.prefix) qs) d ≡ true)
    → is_some (if same_prefix q.prefix d then Some q.rank else rank_in qs d) ≡ true → same_prefix q.prefix d || is_among (map (λ (x : Queued). x.prefix) qs) d ≡ true
listed_next q qs d true is later h = or_left (same_prefix q.prefix d) (is_among (map (λ (x : Queued). x.prefix) qs) d) is
listed_next q qs d false is later h = or_right (same_prefix q.prefix d) (is_among (map (λ (x : Queued). x.prefix) qs) d)
    (later (sym (ap (λ b. is_some (if b then Some q.rank else rank_in qs d)) is) ∙ h))

listed : (qs : List Queued) (d : Prefix) → is_some (rank_in qs d) ≡ true → is_among (map (λ (q : Queued). q.prefix) qs) d ≡ true
listed [] d h = absurd (true≢false (sym h))
listed (q ∷ qs) d h = listed_next q qs d (same_prefix q.prefix d) refl (listed qs d) h

pub queued_may : (c : Control) (d : Prefix) → is_queued c d ≡ true → is_among (may_turn c) d ≡ true
queued_may c d h = among_left (map (λ (q : Queued). q.prefix) c.queue) (entries (tables_in c) ++ c.done) d (listed c.queue d h)

pub entry_may : (c : Control) (d : Prefix) → has_entry (tables_in c) d ≡ true → is_among (may_turn c) d ≡ true
entry_may c d h = among_right (map (λ (q : Queued). q.prefix) c.queue) (entries (tables_in c) ++ c.done) d
    (among_left (entries (tables_in c)) c.done d (among_contains (entries (tables_in c)) d ((is_member-Decides same_prefix-Decides (entries (tables_in c)) d).0 h)))

pub done_may : (c : Control) (d : Prefix) → is_among c.done d ≡ true → is_among (may_turn c) d ≡ true
done_may c d h = among_right (map (λ (q : Queued). q.prefix) c.queue) (entries (tables_in c) ++ c.done) d (among_right (entries (tables_in c)) c.done d h)

-- who is queued after a turn was queued before it, or is an entry
pub queued_after : (S : Tables) (rank : Prefix → ℕ) (turn : Turn) (s t : State) → IsRanked S rank → TurnDone S rank turn s t → (d : Prefix) → t.queued d ≡ true → (s.queued d ≡ true) ⊎ (has_entry S d ≡ true)
queued_after S rank turns.Idle s t sound h d q = inl (sym (ap (λ (x : State). x.queued d) h.0) ∙ q)
queued_after S rank (turns.Restacked e stores dropped) s t sound h d q = ⊎_elim
    (λ (r : (has_entry S e ≡ true) × IsRestacked S e s t). ⊎_elim
    (λ (a : (s.queued d ≡ true) × (d ≡ e → ⊥)). inl a.0)
    (λ (w : wakes S d e ≡ true). inr (sound.effective d e w))
    (who_is_queued S e r.1.object s t r.1.turn d q))
    (λ (r : (has_entry S e ≡ false) × Removed e s t). inl (and_both (s.queued d) (not (same_prefix d e)) (sym (r.1.queue d) ∙ q)).0)
    h.1

-- who had a turn after it may have had one
pub done_after : (all : List Prefix) (S : Tables) (rank : Prefix → ℕ) (turn : Turn) (s t : State) (before after : List Prefix) → TurnDone S rank turn s t → IsDoneAfter turn before after
    → ((d : Prefix) → s.queued d ≡ true → is_among all d ≡ true) → ((d : Prefix) → is_among before d ≡ true → is_among all d ≡ true) → (d : Prefix) → is_among after d ≡ true → is_among all d ≡ true
done_after all S rank turns.Idle s t before after h noted waiting taken d q = taken d (sym (ap (λ (xs : List Prefix). is_among xs d) noted) ∙ q)
done_after all S rank (turns.Restacked e stores dropped) s t before after h noted waiting taken d q = ⊎_elim
    (λ (is : same_prefix d e ≡ true). subst (λ (x : Prefix). is_among all x ≡ true) (sym ((same_prefix-Decides d e).0 is)) (waiting e h.0.queued))
    (λ (old : is_among before d ≡ true). taken d old)
    (or_cases (same_prefix d e) (is_among before d) (sym (also_among before e d) ∙ sym (ap (λ (xs : List Prefix). is_among xs d) noted.0) ∙ q))

-- so less is left
pub less_left : (all before after : List Prefix) (e : Prefix) → after ≡ before ++ e ∷ [] → AllDiffer after → ((d : Prefix) → is_among after d ≡ true → is_among all d ≡ true) → length all - length after < length all - length before
less_left all before after e is once within =
    let le = length-le_from_differ after all once (each-weaker (Contains after) (Contains all) (λ d c. contains_among all d (within d (among_contains after d c))) after (each-itself after)) in
    let long : length after ≡ length before + 1 = ap length is ∙ length-append before (e ∷ []) in
    omega (arith, le, long)

pub smaller : (all : List Prefix) (S : Tables) (rank : Prefix → ℕ) (turn : Turn) (s t : State) (before after : List Prefix) → (d : Prefix) × (s.queued d ≡ true) → TurnDone S rank turn s t → IsDoneAfter turn before after → AllDiffer after
    → ((d : Prefix) → is_among after d ≡ true → is_among all d ≡ true) → length all - length after < length all - length before
smaller all S rank turns.Idle s t before after some h noted once within = absurd (true≢false (sym some.1 ∙ h.1 some.0))
smaller all S rank (turns.Restacked e stores dropped) s t before after some h noted once within = less_left all before after e noted.0 once within

pub first_queued : (c : Control) (n : ℕ) → n ≡ length c.queue → (n ≡ 0 → ⊥) → (d : Prefix) × (is_queued c d ≡ true)
first_queued c n is some = by_list c.queue refl
  where
    here : (q : Queued) (b : Bool) (o : Option ℕ) → b ≡ true → is_some (if b then Some q.rank else o) ≡ true
    here q true o h = refl
    here q false o h = absurd (true≢false (sym h))

    by_list : (qs : List Queued) → c.queue ≡ qs → (d : Prefix) × (is_queued c d ≡ true)
    by_list [] at = absurd (some (is ∙ ap length at))
    by_list (q ∷ qs) at = (q.prefix, ap (λ (xs : List Queued). is_some (rank_in xs q.prefix)) at ∙ here q (same_prefix q.prefix q.prefix) (rank_in qs q.prefix) ((same_prefix-Decides q.prefix q.prefix).1 refl))

pub beneath_then : (a b c : Control) → IsBeneath a b → IsBeneath b c → IsBeneath a c
beneath_then a b c p q = record { setup = q.setup ∙ p.setup; entries = q.entries ∙ p.entries; promise = q.promise ∙ p.promise }
