-- Turns and changes keep what stands, and with nothing queued the kept sets are the reverse path interfaces.
use Rattle.std.proofs.Common.{inl, inr, ⊎_elim, ◌≡◌, ◌≢◌, ◌⊎◌, ℕ, zero, suc, ◌<◌, ◌≤◌, Bool, true, false, not, ◌&&◌, ◌||◌, true≢false, List, [], ◌∷◌, ◌++◌, refl, sym, ap, ◌∙◌, subst, arith}
use Rattle.std.specs.Prelude.{Contains}
use mathlib.Core.Logic.{dite}
use Rattle.std.proofs.lemmas.Bool.{false≢true}
use Rattle.std.proofs.lemmas.List.Elements.{Contains-push_cases}
use Rattle.fib_base_list.proofs.Lists.{each-append, Contains-nil}
use Rattle.fib_base_list.proofs.Booleans.{or_left, or_right, or_cases, and_both}
use Rattle.fib_reach.specs.Walks.{AllDiffer}
use Rattle.fib_addr.specs.Prefixes.{Prefix, same_prefix}
use Rattle.fib_addr.proofs.PrefixLaws.{same_prefix-Decides}
use Rattle.fib_resolve.specs.Aims.{marked_list}
use Rattle.fib_resolve.specs.Tables.{IsSound}
use Rattle.fib_resolve.specs.Touched.{is_touched}
use Rattle.fib_resolve.specs.declared.aims.Aim.{Aim}
use Rattle.fib_resolve.specs.declared.aims.Aim.TheVariants as aims
use Rattle.fib_resolve.specs.declared.aims.Marked.{Marked}
use Rattle.fib_resolve.specs.declared.types.Tables.{Tables}
use Rattle.fib_resolve_changes.specs.Ranks.{counts_on, is_aimed_at, has_entry, wakes, IsRanked}
use Rattle.fib_resolve_changes.proofs.MarkLaws.{untouched_marked, untouched_stays, untouched_came}
use Rattle.fib_urpf.specs.ReversePath.{is_reverse}
use Rattle.fib_urpf.specs.Marks.{aim_leads, marks_lead}
use Rattle.fib_urpf.specs.States.{State, over, IsDone, Stands, Turned, Followed}
use Rattle.fib_urpf.proofs.Marked.{reverse_marked}

same_self : (t : Prefix) → same_prefix t t ≡ true
same_self t = (same_prefix-Decides t t).1 refl

prefix_discrete : (d e : Prefix) → Dec (d ≡ e)
prefix_discrete d e = by_bool (same_prefix d e) refl
  where
    by_bool : (b : Bool) → same_prefix d e ≡ b → Dec (d ≡ e)
    by_bool true is = yes ((same_prefix-Decides d e).0 is)
    by_bool false is = no (λ h. true≢false (sym ((same_prefix-Decides d e).1 h) ∙ is))

differ_here : (d e : Prefix) → d ≢ e → same_prefix d e ≡ false
differ_here d e ne = by_bool (same_prefix d e) refl
  where
    by_bool : (b : Bool) → same_prefix d e ≡ b → same_prefix d e ≡ false
    by_bool true is = absurd (ne ((same_prefix-Decides d e).0 is))
    by_bool false is = is

-- where the targets on which a list counts have the same, the list gives the same

aim_agree : (i : ℕ) (f g : Prefix → Bool) (b : Bool) (a : Aim) → ((t : Prefix) → b && is_aimed_at t a ≡ true → f t ≡ g t) → b && aim_leads i f a ≡ b && aim_leads i g a
aim_agree i f g false a h = refl
aim_agree i f g true (aims.Ends end) h = refl
aim_agree i f g true (aims.On t) h = h t (same_self t)

pub marks_agree : (i : ℕ) (f g : Prefix → Bool) (ms : List Marked) → ((t : Prefix) → counts_on ms t ≡ true → f t ≡ g t) → marks_lead i f ms ≡ marks_lead i g ms
marks_agree i f g [] h = refl
marks_agree i f g (m ∷ ms) h =
    let here = aim_agree i f g m.counts m.aim (λ t e. h t (or_left (m.counts && is_aimed_at t m.aim) (counts_on ms t) e)) in
    let rest = marks_agree i f g ms (λ t e. h t (or_right (m.counts && is_aimed_at t m.aim) (counts_on ms t) e)) in
    ap (λ b. b || marks_lead i f ms) here ∙ ap (λ b. (m.counts && aim_leads i g m.aim) || b) rest

-- by rank: prefixes below r that stand by their targets have their reverse path interfaces
settled_below : (S : Tables) (rank : Prefix → ℕ) (i : ℕ) (f : Prefix → Bool) → IsRanked S rank → (r : ℕ)
    → ((e : Prefix) → rank e < r → f e ≡ marks_lead i f (marked_list S e)) → (e : Prefix) → rank e < r → f e ≡ is_reverse S i e
settled_below S rank i f sound zero each e lt = absurd (omega arith)
settled_below S rank i f sound (suc r) each e lt =
    each e lt
    ∙ marks_agree i f (is_reverse S i) (marked_list S e)
    (λ t o. let falls : rank t < rank e = (sound.falls e t (sound.woken e t o)).1 in
    settled_below S rank i f sound r (λ d l. let l' : rank d < suc r = omega arith in each d l') t (omega arith))
    ∙ sym (reverse_marked S i e)

-- with nothing queued
pub quiet_is_reverse : (S : Tables) (rank : Prefix → ℕ) (s : State) → IsRanked S rank → Stands S rank s → ((e : Prefix) → s.queued e ≡ false) → (e : Prefix) (i : ℕ) → i < 256 → s.kept e i ≡ is_reverse S i e
quiet_is_reverse S rank s sound stands quiet e i few =
    let lt : rank e < suc (rank e) = omega arith in
    settled_below S rank i (over s i) sound (suc (rank e)) (λ d l. (stands.done d (quiet d)).set i few) e lt

or_false : (a b : Bool) → a || b ≡ false → (a ≡ false) × (b ≡ false)
or_false true b e = absurd (true≢false e)
or_false false b e = (refl, e)

and_true : (a b : Bool) → a && b ≡ false → b ≡ true → a ≡ false
and_true true b e h = absurd (true≢false (sym h ∙ e))
and_true false b e h = refl

in_end : (xs : List Prefix) (e d : Prefix) → Contains (xs ++ e ∷ []) d → Contains xs d ⊎ (d ≡ e)
in_end xs e d c = ⊎_elim (λ (l : Contains xs d). inl l) (λ (r : e ≡ d). inr (sym r)) (Contains-push_cases xs e d c)

differ_end : (xs : List Prefix) (e : Prefix) → AllDiffer xs → (Contains xs e → ⊥) → AllDiffer (xs ++ e ∷ [])
differ_end [] e once new = (tt, tt)
differ_end (x ∷ xs) e once new =
    (each-append (λ y. x ≢ y) xs (e ∷ []) once.0 ((λ is. new (0, omega arith, is)), tt), differ_end xs e once.1 (λ c. new (suc c.0, omega (arith, c.1), c.2)))

-- a turn
module _ (S : Tables) (rank : Prefix → ℕ) (e : Prefix) (s t : State) (sound : IsRanked S rank) (stands : Stands S rank s) (r : Turned S rank e s t) where
  others_queued : (d : Prefix) → d ≢ e → t.queued d ≡ false → s.queued d ≡ false
  others_queued d ne q =
      let parts = or_false (s.queued d && not (same_prefix d e)) (r.changed && wakes S d e) (sym (r.queue d) ∙ q) in
      and_true (s.queued d) (not (same_prefix d e)) parts.0 (ap not (differ_here d e ne))

  -- who counts on it and isn't queued finds it as it was
  unwoken : (d : Prefix) → t.queued d ≡ false → counts_on (marked_list S d) e ≡ true → (i : ℕ) → t.kept e i ≡ s.kept e i
  unwoken d q counts =
      let parts = or_false (s.queued d && not (same_prefix d e)) (r.changed && wakes S d e) (sym (r.queue d) ∙ q) in
      r.same (and_true r.changed (wakes S d e) parts.1 (sound.woken d e counts))

  not_itself : wakes S e e ≡ true → ⊥
  not_itself w = let lt = (sound.falls e e w).1 in omega (arith, lt)

  done_after : (d : Prefix) → t.queued d ≡ false → IsDone S t d
  done_after d q = dite (prefix_discrete d e) here there
    where
      there : d ≢ e → IsDone S t d
      there ne =
          let old = stands.done d (others_queued d ne q) in
          record {
            known = r.others_known d ne ∙ old.known;
            set = λ i few. r.others d i ne ∙ old.set i few ∙ marks_agree i (over s i) (over t i) (marked_list S d)
                (λ u c. dite (prefix_discrete u e)
                (λ is. subst (λ x. s.kept x i ≡ t.kept x i) (sym is) (sym (unwoken d q (subst (λ x. counts_on (marked_list S d) x ≡ true) is c) i)))
                (λ isnt. sym (r.others u i isnt)));
          }

      at_e : IsDone S t e
      at_e = record {
        known = r.known;
        set = λ i few. r.set i few ∙ marks_agree i (over s i) (over t i) (marked_list S e)
            (λ u c. dite (prefix_discrete u e)
            (λ is. absurd (not_itself (sound.woken e e (subst (λ x. counts_on (marked_list S e) x ≡ true) is c))))
            (λ isnt. sym (r.others u i isnt)));
      }

      here : d ≡ e → IsDone S t d
      here is = subst (IsDone S t) (sym is) at_e

  -- what was taken has no greater rank than this
  low : (d : Prefix) → Contains (s.done ++ e ∷ []) d → rank d ≤ rank e
  low d c = ⊎_elim (λ (old : Contains s.done d). stands.lower d e old r.queued) (λ (new : d ≡ e). (let same = ap rank new in omega arith)) (in_end s.done e d c)

  taken_after : (d : Prefix) → Contains t.done d → t.queued d ≡ false
  taken_after d c = by_bool (t.queued d) refl
    where
      listed : Contains (s.done ++ e ∷ []) d
      listed = subst (λ l. Contains l d) r.done c

      woken_high : r.changed && wakes S d e ≡ true → ⊥
      woken_high w = let lt = (sound.falls d e (and_both r.changed (wakes S d e) w).1).1 in let le = low d listed in omega (arith, lt, le)

      stayed : s.queued d && not (same_prefix d e) ≡ true → ⊥
      stayed k =
          let both = and_both (s.queued d) (not (same_prefix d e)) k in
          ⊎_elim (λ (old : Contains s.done d). true≢false (sym both.0 ∙ stands.taken d old))
          (λ (new : d ≡ e). true≢false (sym both.1 ∙ ap not ((same_prefix-Decides d e).1 new))) (in_end s.done e d listed)

      by_bool : (b : Bool) → t.queued d ≡ b → t.queued d ≡ false
      by_bool true is = absurd (⊎_elim stayed woken_high (or_cases (s.queued d && not (same_prefix d e)) (r.changed && wakes S d e) (sym (r.queue d) ∙ is)))
      by_bool false is = is

  lower_after : (d u : Prefix) → Contains t.done d → t.queued u ≡ true → rank d ≤ rank u
  lower_after d u c q =
      let le = low d (subst (λ l. Contains l d) r.done c) in
      ⊎_elim
      (λ (k : s.queued u && not (same_prefix u e) ≡ true). (let least = r.least u (and_both (s.queued u) (not (same_prefix u e)) k).0 in omega (arith, least, le)))
      (λ (w : r.changed && wakes S u e ≡ true). (let lt = (sound.falls u e (and_both r.changed (wakes S u e) w).1).1 in omega (arith, lt, le)))
      (or_cases (s.queued u && not (same_prefix u e)) (r.changed && wakes S u e) (sym (r.queue u) ∙ q))

  pub turn_keeps : Stands S rank t
  turn_keeps = record {
    done = done_after;
    taken = taken_after;
    lower = lower_after;
    once = subst AllDiffer (sym r.done) (differ_end s.done e stands.once (λ c. true≢false (sym r.queued ∙ stands.taken e c)));
  }

  -- no prefix is taken twice
  pub taken_anew : Contains s.done e → ⊥
  taken_anew c = true≢false (sym r.queued ∙ stands.taken e c)

-- a change
pub follow_keeps : (S T : Tables) (old new : Prefix → ℕ) (s t : State) → IsSound T → Stands S old s → Followed S T s t → Stands T new t
follow_keeps S T old new s t sound stands f = record {
  done = λ e q.
      let parts = or_false (s.queued e) (is_touched S T e) (sym (f.queue e) ∙ q) in
      let was = stands.done e parts.0 in
      let marks = untouched_marked S T e sound parts.1 in
      record {
        known = ap (λ (k : Prefix → Bool). k e) f.known ∙ was.known ∙ entry_same e parts.1;
        set = λ i few. ap (λ (k : Prefix → ℕ → Bool). k e i) f.kept ∙ was.set i few ∙ ap (marks_lead i (over s i)) marks
            ∙ marks_agree i (over s i) (over t i) (marked_list T e) (λ u c. ap (λ (k : Prefix → ℕ → Bool). k u i) (sym f.kept));
      };
  taken = λ e c. absurd (Contains-nil e (subst (λ l. Contains l e) f.done c));
  lower = λ e d c q. absurd (Contains-nil e (subst (λ l. Contains l e) f.done c));
  once = subst AllDiffer (sym f.done) tt;
}
  where
    entry_same : (e : Prefix) → is_touched S T e ≡ false → has_entry S e ≡ has_entry T e
    entry_same e u = by_bool (has_entry S e) (has_entry T e) refl refl
      where
        by_bool : (a b : Bool) → has_entry S e ≡ a → has_entry T e ≡ b → has_entry S e ≡ has_entry T e
        by_bool true b p q = p ∙ sym (untouched_stays S T e u p)
        by_bool false true p q = absurd (false≢true (sym p ∙ untouched_came S T e u q))
        by_bool false false p q = p ∙ sym q
