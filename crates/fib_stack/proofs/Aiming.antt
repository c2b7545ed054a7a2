-- What a marked list wants depends on whether the entries on which it counts forward.
use Rattle.std.proofs.Common.{inl, inr, ◌≡◌, ℕ, zero, suc, ◌<◌, Bool, true, false, ◌&&◌, ◌||◌, cond, eq-eqb, List, [], ◌∷◌, refl, sym, ap, ◌∙◌, arith}
use Rattle.std.specs.Prelude.{Contains, ◌⊎◌, Option, Some, None, IfSome, slice_get, filter, option_to_list, map, ◌==◌}
use Rattle.std.specs.List.{AllByRecursion}
use Rattle.fib_base_list.proofs.Lists.{each-filter, each-weaker, each-flat_map, each-at}
use Rattle.fib_base_list.proofs.Booleans.{or_left, or_right, and_both}
use Rattle.fib_addr.specs.Prefixes.{Prefix}
use Rattle.fib_buckets.specs.Shares.{buckets}
use Rattle.fib_resolve.specs.Aims.{marked_list}
use Rattle.fib_resolve.specs.Forwarding.{forwards}
use Rattle.fib_resolve.specs.Touched.{same_mac}
use Rattle.fib_resolve.specs.declared.aims.Aim.{Aim}
use Rattle.fib_resolve.specs.declared.aims.Aim.TheVariants as aims
use Rattle.fib_resolve.specs.declared.aims.Marked.{Marked}
use Rattle.fib_resolve.specs.declared.types.End.{End}
use Rattle.fib_resolve.specs.declared.types.End.TheVariants as answers
use Rattle.fib_resolve.specs.declared.types.Tables.{Tables}
use Rattle.fib_resolve_changes.specs.Ranks.{leads_on, is_usable_mark, is_aimed_at, counts_on, IsRanked}
use Rattle.fib_resolve_changes.specs.Wanted.{least_mark, of_least_mark, spread_marks, aim_of, aim_by}
use Rattle.fib_core_promise.specs.Kept.{same_end}
use Rattle.fib_stack_waking.proofs.Woken.{and_join, self_same}
use Rattle.fib_stack.specs.States.{ends_there, has_hop, forwards_by}

leads_agree : (f g : Prefix → Bool) (b : Bool) (m : Aim) → ((t : Prefix) → b && is_aimed_at t m ≡ true → f t ≡ g t) → b && leads_on f m ≡ b && leads_on g m
leads_agree f g false m h = refl
leads_agree f g true (aims.Ends end) h = refl
leads_agree f g true (aims.On t) h = h t (self_same t)

usable_agree : (f g : Prefix → Bool) (m : Marked) → ((t : Prefix) → m.counts && is_aimed_at t m.aim ≡ true → f t ≡ g t) → is_usable_mark f m ≡ is_usable_mark g m
usable_agree f g m h = leads_agree f g m.counts m.aim h

pub filter_agree : (f g : Prefix → Bool) (ms : List Marked) → ((t : Prefix) → counts_on ms t ≡ true → f t ≡ g t) → filter (is_usable_mark f) ms ≡ filter (is_usable_mark g) ms
filter_agree f g [] h = refl
filter_agree f g (m ∷ ms) h =
    let here : is_usable_mark f m ≡ is_usable_mark g m = usable_agree f g m (λ t e. h t (or_left (m.counts && is_aimed_at t m.aim) (counts_on ms t) e)) in
    let rest : filter (is_usable_mark f) ms ≡ filter (is_usable_mark g) ms = filter_agree f g ms (λ t e. h t (or_right (m.counts && is_aimed_at t m.aim) (counts_on ms t) e)) in
    ap (λ b. cond b (m ∷ filter (is_usable_mark f) ms) (filter (is_usable_mark f) ms)) here ∙ ap (λ l. cond (is_usable_mark g m) (m ∷ l) l) rest

pub forwards_agree : (f g : Prefix → Bool) (ms : List Marked) → ((t : Prefix) → counts_on ms t ≡ true → f t ≡ g t) → forwards_by f ms ≡ forwards_by g ms
forwards_agree f g [] h = refl
forwards_agree f g (m ∷ ms) h =
    let here : is_usable_mark f m ≡ is_usable_mark g m = usable_agree f g m (λ t e. h t (or_left (m.counts && is_aimed_at t m.aim) (counts_on ms t) e)) in
    let rest : forwards_by f ms ≡ forwards_by g ms = forwards_agree f g ms (λ t e. h t (or_right (m.counts && is_aimed_at t m.aim) (counts_on ms t) e)) in
    ap (λ b. b || forwards_by f ms) here ∙ ap (λ b. is_usable_mark g m || b) rest

pub aim_agree : (f g : Prefix → Bool) (ms : List Marked) (k : ℕ) → ((t : Prefix) → counts_on ms t ≡ true → f t ≡ g t) → aim_by f ms k ≡ aim_by g ms k
unfolding aim_by
aim_agree f g ms k h = ap (λ l. aim_of (slice_get (spread_marks (of_least_mark l)) k)) (filter_agree f g ms h)

-- by rank: prefixes below r that stand by their own targets forward as the tables say
pub settled_below : (S : Tables) (rank : Prefix → ℕ) (was : Prefix → Bool) → IsRanked S rank → (r : ℕ) → ((e : Prefix) → rank e < r → was e ≡ forwards_by was (marked_list S e)) → (e : Prefix) → rank e < r → was e ≡ forwards S e
settled_below S rank was sound zero each e lt = absurd (omega arith)
settled_below S rank was sound (suc r) each e lt =
    each e lt
    ∙ forwards_agree was (forwards S) (marked_list S e)
    (λ t o. let falls : rank t < rank e = (sound.falls e t (sound.woken e t o)).1 in
    settled_below S rank was sound r (λ d l. let l' : rank d < suc r = omega arith in each d l') t (omega arith))
    ∙ sym (sound.forwarding e)

-- what a bucket is for: an entry on which the list counts and that forwards, or an end of a path that counts

pub record Good (f : Prefix → Bool) (ms : List Marked) (m : Aim) : Type 0 where
  pub go_on : (t : Prefix) → m ≡ aims.On t → (counts_on ms t ≡ true) × (f t ≡ true)
  pub hop : (i a : ℕ) (x : Option ℕ) → m ≡ aims.Ends (answers.Hop i a x) → has_hop ms (answers.Hop i a x) ≡ true
  pub ends : (end : End) → m ≡ aims.Ends end → (end ≡ answers.Drop) ⊎ ((q : Marked) × Contains ms q × (q.counts ≡ true) × (q.aim ≡ aims.Ends end))

-- a mark of the list
record Member (ms : List Marked) (m : Marked) : Type 0 where
  open_on : (t : Prefix) → m.counts && is_aimed_at t m.aim ≡ true → counts_on ms t ≡ true
  hops : (end : End) → ends_there end m.aim ≡ true → has_hop ms end ≡ true
  listed : Contains ms m

members : (qs ms : List Marked) → ((t : Prefix) → counts_on ms t ≡ true → counts_on qs t ≡ true) → ((end : End) → has_hop ms end ≡ true → has_hop qs end ≡ true) → ((q : Marked) → Contains ms q → Contains qs q) → AllByRecursion (Member qs) ms
members qs [] on_them hop_them list_them = tt
members qs (m ∷ ms) on_them hop_them list_them = (
  record {
    open_on = λ t e. on_them t (or_left (m.counts && is_aimed_at t m.aim) (counts_on ms t) e);
    hops = λ end e. hop_them end (or_left (ends_there end m.aim) (has_hop ms end) e);
    listed = list_them m (0, omega arith, refl);
  },
  members qs ms
      (λ t e. on_them t (or_right (m.counts && is_aimed_at t m.aim) (counts_on ms t) e))
      (λ end e. hop_them end (or_right (ends_there end m.aim) (has_hop ms end) e))
      (λ q c. list_them q (suc c.0, omega (arith, c.1), c.2)),
)

same_mac_self : (x : Option ℕ) → same_mac x x ≡ true
same_mac_self None = refl
same_mac_self (Some n) = eq-eqb n n refl

same_end_self : (i a : ℕ) (x : Option ℕ) → same_end (answers.Hop i a x) (answers.Hop i a x) ≡ true
same_end_self i a x = and_join (i == i) ((a == a) && same_mac x x) (eq-eqb i i refl) (and_join (a == a) (same_mac x x) (eq-eqb a a refl) (same_mac_self x))

drops_on : (t : Prefix) → aims.Ends answers.Drop ≡ aims.On t → ⊥
drops_on t e = cc

drops_hop : (i a : ℕ) (x : Option ℕ) → aims.Ends answers.Drop ≡ aims.Ends (answers.Hop i a x) → ⊥
drops_hop i a x e = cc

drop_is : (end : End) → aims.Ends answers.Drop ≡ aims.Ends end → answers.Drop ≡ end
drop_is end e = ap end_in e
  where
    end_in : Aim → End
    end_in (aims.Ends f) = f
    end_in (aims.On t) = answers.Drop

good_mark : (f : Prefix → Bool) (qs : List Marked) (m : Marked) → Member qs m → is_usable_mark f m ≡ true → Good f qs m.aim
good_mark f qs m member usable =
    let both = and_both m.counts (leads_on f m.aim) usable in
    record {
      go_on = λ t is. (member.open_on t (and_join m.counts (is_aimed_at t m.aim) both.0 (ap (is_aimed_at t) is ∙ self_same t)), sym (ap (leads_on f) is) ∙ both.1);
      hop = λ i a x is. member.hops (answers.Hop i a x) (ap (ends_there (answers.Hop i a x)) is ∙ same_end_self i a x);
      ends = λ end is. inr (m, member.listed, both.0, is);
    }

module _ (f : Prefix → Bool) (ms : List Marked) where
  usable_good : AllByRecursion (λ m. Good f ms m.aim) (filter (is_usable_mark f) ms)
  usable_good = each-weaker (λ m. Member ms m × (is_usable_mark f m ≡ true)) (λ m. Good f ms m.aim) (λ m h. good_mark f ms m h.0 h.1) (filter (is_usable_mark f) ms)
      (each-filter (Member ms) (is_usable_mark f) ms (members ms ms (λ t o. o) (λ end o. o) (λ q c. c)))

  least_good : AllByRecursion (λ m. Good f ms m.aim) (of_least_mark (filter (is_usable_mark f) ms))
  least_good =
      let us = filter (is_usable_mark f) ms in
      each-weaker (λ m. Good f ms m.aim × ((m.preference == least_mark us) ≡ true)) (λ m. Good f ms m.aim) (λ m h. h.0) (of_least_mark us)
      (each-filter (λ m. Good f ms m.aim) (λ m. m.preference == least_mark us) us usable_good)

  spread_good : (us : List Marked) → AllByRecursion (λ m. Good f ms m.aim) us → AllByRecursion (λ m. Good f ms m.aim) (spread_marks us)
  spread_good us h = each-flat_map (λ m. Good f ms m.aim) (λ j. option_to_list (slice_get us j)) (buckets (map (λ m. m.weight) us)) (each_place (buckets (map (λ m. m.weight) us)))
    where
      of_option : (o : Option Marked) → IfSome o (λ m. Good f ms m.aim) → AllByRecursion (λ m. Good f ms m.aim) (option_to_list o)
      of_option None g = tt
      of_option (Some m) g = (g, tt)

      each_place : (js : List ℕ) → AllByRecursion (λ j. AllByRecursion (λ m. Good f ms m.aim) (option_to_list (slice_get us j))) js
      each_place [] = tt
      each_place (j ∷ js) = (of_option (slice_get us j) (each-at (λ m. Good f ms m.aim) us j h), each_place js)

  good_of : (o : Option Marked) → IfSome o (λ m. Good f ms m.aim) → Good f ms (aim_of o)
  good_of None g = record { go_on = λ t is. absurd (drops_on t is); hop = λ i a x is. absurd (drops_hop i a x is); ends = λ end is. inl (sym (drop_is end is)) }
  good_of (Some m) g = g

  pub good_at : (k : ℕ) → Good f ms (aim_by f ms k)
  unfolding aim_by
  good_at k =
      let us = spread_marks (of_least_mark (filter (is_usable_mark f) ms)) in
      good_of (slice_get us k) (each-at (λ m. Good f ms m.aim) us k (spread_good (of_least_mark (filter (is_usable_mark f) ms)) least_good))

pub bucket_on : (f : Prefix → Bool) (ms : List Marked) (k : ℕ) (t : Prefix) → aim_by f ms k ≡ aims.On t → (counts_on ms t ≡ true) × (f t ≡ true)
bucket_on f ms k t e = (good_at f ms k).go_on t e

pub bucket_end : (f : Prefix → Bool) (ms : List Marked) (k : ℕ) (end : End) → aim_by f ms k ≡ aims.Ends end → (end ≡ answers.Drop) ⊎ ((q : Marked) × Contains ms q × (q.counts ≡ true) × (q.aim ≡ aims.Ends end))
bucket_end f ms k end e = (good_at f ms k).ends end e

pub bucket_hop : (f : Prefix → Bool) (ms : List Marked) (k i a : ℕ) (x : Option ℕ) → aim_by f ms k ≡ aims.Ends (answers.Hop i a x) → has_hop ms (answers.Hop i a x) ≡ true
bucket_hop f ms k i a x e = (good_at f ms k).hop i a x e
