-- What a turn's calls make of the sets and the queue is a turn.
use Rattle.std.proofs.Common.{⊎_elim, ◌≡◌, ◌⊎◌, ℕ, ◌<◌, Bool, true, false, not, ◌&&◌, ◌||◌, true≢false, List, [], ◌∷◌, ◌++◌, refl, sym, ap, ◌∙◌, subst, arith}
use Rattle.std.specs.Prelude.{Contains, Option, Some, None, if◌then◌else◌, is_some}
use Rattle.std.specs.Set.{is_member}
use Rattle.fib_addr.specs.Prefixes.{Prefix, same_prefix}
use Rattle.fib_addr.proofs.PrefixLaws.{same_prefix-Decides}
use Rattle.fib_resolve.specs.Aims.{marked_list}
use Rattle.fib_resolve.specs.declared.types.Tables.{Tables}
use Rattle.fib_resolve_changes.specs.Ranks.{has_entry, wakes}
use Rattle.fib_resolve_changes.proofs.Ranking.{ranked}
use Rattle.fib_base_ordered.specs.Sets.{first_of}
use Rattle.fib_stack_queue.specs.Queues.{IsLeast, rank_in}
use Rattle.fib_stack_queue.specs.declared.order.Queued.{Queued}
use Rattle.fib_stack_waking.specs.Waking.{AreRanked, are_among}
use Rattle.fib_urpf.specs.declared.interfaces.Interfaces.{Interfaces}
use Rattle.fib_urpf.specs.Interfaces.{has}
use Rattle.fib_urpf.specs.Sets.{set_of, has_by, kept_in}
use Rattle.fib_urpf.specs.Marks.{marks_lead}
use Rattle.fib_urpf.specs.Kept.{IsFor, IsSame, Kept, state_of}
use Rattle.fib_urpf.specs.States.{Stands, State, Turned}
use Rattle.fib_urpf.proofs.Keeping.{taken_anew, turn_keeps}

some_of : {A : Type 0} (o : Option A) → is_some o ≡ true → (x : A) × (o ≡ Some x)
some_of None e = absurd (true≢false (sym e))
some_of (Some x) e = (x, refl)

was_same : (b : Bool) → not b ≡ false → b ≡ true
was_same true e = refl
was_same false e = absurd (true≢false e)

was_other : (b : Bool) → not b ≡ true → b ≡ false
was_other true e = absurd (true≢false (sym e))
was_other false e = refl

turned_round : (d e : Prefix) → same_prefix e d ≡ same_prefix d e
turned_round d e = by (same_prefix e d) (same_prefix d e) refl refl
  where
    by : (a b : Bool) → same_prefix e d ≡ a → same_prefix d e ≡ b → same_prefix e d ≡ same_prefix d e
    by true b p q = p ∙ sym ((same_prefix-Decides d e).1 (sym ((same_prefix-Decides e d).0 p)))
    by false true p q = absurd (true≢false (sym ((same_prefix-Decides e d).1 (sym ((same_prefix-Decides d e).0 q))) ∙ p))
    by false false p q = p ∙ sym q

left_out : {A : Type 0} (b : Bool) (o : Option A) → is_some (if b then None else o) ≡ is_some o && not b
left_out true None = refl
left_out true (Some x) = refl
left_out false None = refl
left_out false (Some x) = refl

pub turned : (S : Tables) (rank : Prefix → ℕ) (v w : Kept) (q : Queued) (set old : Interfaces) (same : Bool) (woken mid : List Queued)
    → AreRanked rank v.queue → IsLeast v.queue q
    → is_member same_prefix w.members q.prefix ≡ has_entry S q.prefix
    → ((d : Prefix) → (d ≡ q.prefix → ⊥) → is_member same_prefix w.members d ≡ is_member same_prefix v.members d)
    → ((i : ℕ) → i < 256 → has set i ≡ marks_lead i (kept_in v.rows i) (marked_list S q.prefix)) → ((i : ℕ) → has old i ≡ kept_in v.rows i q.prefix)
    → ((i : ℕ) → kept_in w.rows i q.prefix ≡ has set i) → ((d : Prefix) → (d ≡ q.prefix → ⊥) → set_of w.rows d ≡ set_of v.rows d)
    → (same ≡ true → set ≡ old) → (same ≡ false → ((i : ℕ) → i < 256 → has set i ≡ has old i) → ⊥)
    → ((d : Prefix) → rank_in mid d ≡ (if same_prefix q.prefix d then None else rank_in v.queue d))
    → ((d : Prefix) → is_some (rank_in w.queue d) ≡ is_some (rank_in mid d) || are_among woken d)
    → ((d : Prefix) → are_among woken d ≡ not same && wakes S d q.prefix)
    → w.done ≡ v.done ++ q.prefix ∷ []
    → Turned S rank q.prefix (state_of v) (state_of w)
turned S rank v w q set old same woken mid ranks least known others_known gathered was kept others alike unlike left queue among done = record {
  queued = ap is_some least.here;
  least = λ d there. (let k = some_of (rank_in v.queue d) there in let a = ranks q.prefix q.rank least.here in let b = ranks d k.0 k.1 in let c = least.least d k.0 k.1 in omega (arith, a, b, c));
  known = known;
  set = λ i few. kept i ∙ gathered i few;
  others_known = others_known;
  others = λ d i ne. ap (λ o. has_by o i) (others d ne);
  changed = not same;
  same = λ c i. kept i ∙ ap (λ (s : Interfaces). has s i) (alike (was_same same c)) ∙ was i;
  other = λ c h. unlike (was_other same c) (λ i few. sym (kept i) ∙ h i few ∙ sym (was i));
  queue = λ d. queue d ∙ ap (λ o. is_some o || are_among woken d) (left d) ∙ ap (λ b. b || are_among woken d) (left_out (same_prefix q.prefix d) (rank_in v.queue d))
      ∙ ap (λ b. (is_some (rank_in v.queue d) && not b) || are_among woken d) (turned_round d q.prefix) ∙ ap (λ b. (is_some (rank_in v.queue d) && not (same_prefix d q.prefix)) || b) (among d);
  done = done;
}

-- each queued prefix has its rank still
pub ranked_after : (rank : Prefix → ℕ) (e : Prefix) (before mid after : List Queued) → AreRanked rank before → ((d : Prefix) → rank_in mid d ≡ (if same_prefix e d then None else rank_in before d))
    → ((d : Prefix) (r : ℕ) → rank_in after d ≡ Some r → (rank_in mid d ≡ Some r) ⊎ (r ≡ rank d)) → AreRanked rank after
ranked_after rank e before mid after ranks left came d r at = ⊎_elim
    (λ (m : rank_in mid d ≡ Some r). ranks d r (still (same_prefix e d) (rank_in before d) (sym (left d) ∙ m)))
    (λ (is : r ≡ rank d). is)
    (came d r at)
  where
    still : (b : Bool) (o : Option ℕ) → (if b then None else o) ≡ Some r → o ≡ Some r
    still true o h = absurd (let bad : None ≡ Some r = h in cc)
    still false o h = h

-- what keeps a turn's promise
pub stands_after : (S : Tables) (rank : Prefix → ℕ) (e : Prefix) (v w : Kept) → IsFor v S rank → Turned S rank e (state_of v) (state_of w) → AreRanked rank w.queue → IsFor w S rank
stands_after S rank e v w for turn ranks = record {
  sound = for.sound;
  falls = for.falls;
  stands = turn_keeps S rank e (state_of v) (state_of w) (ranked S rank for.falls) for.stands turn;
  ranked = ranks;
}

pub anew : (S : Tables) (rank : Prefix → ℕ) (e : Prefix) (v w : Kept) → IsFor v S rank → Turned S rank e (state_of v) (state_of w) → Contains v.done e → ⊥
anew S rank e v w for turn = taken_anew S rank e (state_of v) (state_of w) (ranked S rank for.falls) for.stands turn

-- where nothing is other, the same stands
abbrev state_by : (Prefix → Option Interfaces) → List Prefix → List Queued → List Prefix → State
state_by sets members queue done = record {
  kept = λ e i. has_by (sets e) i;
  known = λ e. is_member same_prefix members e;
  queued = λ e. is_some (rank_in queue e);
  done = done;
}

same_state : (v w : Kept) → IsSame v w → state_of v ≡ state_of w
same_state v w same =
    ap (λ f. state_by f v.members v.queue v.done) (sym same.sets)
    ∙ ap (λ l. state_by (set_of w.rows) l v.queue v.done) (sym same.members)
    ∙ ap (λ l. state_by (set_of w.rows) w.members l v.done) (sym same.queue)
    ∙ ap (λ l. state_by (set_of w.rows) w.members w.queue l) (sym same.done)

pub same_for : (S : Tables) (rank : Prefix → ℕ) (v w : Kept) → IsSame v w → IsFor v S rank → IsFor w S rank
same_for S rank v w same for = record {
  sound = for.sound;
  falls = for.falls;
  stands = subst (Stands S rank) (same_state v w same) for.stands;
  ranked = subst (AreRanked rank) (sym same.queue) for.ranked;
}

-- nothing is taken exactly where nothing is queued
pub none_first : (qs : List Queued) → first_of qs ≡ None → qs ≡ []
none_first [] e = refl
none_first (q ∷ qs) e = absurd (let bad : Some q ≡ None = e in cc)

pub some_first : (qs : List Queued) (q : Queued) → first_of qs ≡ Some q → qs ≡ [] → ⊥
some_first [] q e h = let bad : None ≡ Some q = e in cc
some_first (x ∷ qs) q e h = cc
