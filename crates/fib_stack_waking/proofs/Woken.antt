-- Who is woken stands among the dependants; prefixes are queued one by one.
use Rattle.std.proofs.Common.{inr, zero, suc, ◌≡◌, ℕ, ◌+◌, ◌<◌, ◌≤◌, Bool, true, false, ◌&&◌, ◌||◌, List, [], ◌∷◌, ◌++◌, length, take, get_or, refl, sym, ap, ◌∙◌, subst, arith}
use Rattle.std.specs.Prelude.{Contains, Option, Some, if◌then◌else◌, ◌↔◌, ◌⊎◌}
use Rattle.std.specs.List.{list_any}
use Rattle.std.proofs.lemmas.List.Folds.{list_any_more, list_any-append}
use Rattle.fib_base_list.proofs.Lists.{Contains-flat_map}
use Rattle.fib_base_list.proofs.Booleans.{and_both}
use Rattle.fib_addr.specs.Prefixes.{Prefix, same_prefix}
use Rattle.fib_addr.proofs.PrefixLaws.{same_prefix-Decides}
use Rattle.fib_resolve.specs.Loops.{kind_targets, targets}
use Rattle.fib_resolve.specs.Pairs.{chosen}
use Rattle.fib_resolve.specs.declared.types.Tables.{Tables}
use Rattle.fib_resolve_changes.specs.Ranks.{wakes}
use Rattle.fib_resolve_changes.proofs.Ranking.{wake_edge}
use Rattle.fib_resolve_changes.proofs.CauseLaws.{any_from}
use Rattle.fib_resolve_changes.proofs.Edits.{any_in}
use Rattle.fib_stack_queue.specs.declared.order.Queued.{Queued}
use Rattle.std.specs.Prelude.{is_some}
use Rattle.fib_entries_rows.specs.Changes.{AreTouched}
use Rattle.fib_resolve.specs.Touched.{is_touched}
use Rattle.fib_stack_waking.specs.Waking.{are_among, have_ranks, is_among}

pub and_join : (a b : Bool) → a ≡ true → b ≡ true → a && b ≡ true
and_join true b e h = h
and_join false b e h = e

pub self_same : (t : Prefix) → same_prefix t t ≡ true
self_same t = (same_prefix-Decides t t).1 refl

wakes_target : (S : Tables) (d e : Prefix) → wakes S d e ≡ true → Contains (targets S d) e
unfolding targets
wakes_target S d e h = let k = wake_edge S d e h in Contains-flat_map (λ p. kind_targets S d p.kind) (chosen S d) k.0 e k.1 k.3

-- of these, who is woken by e
abbrev pub woken_of : Tables → Prefix → List Prefix → Prefix → Bool
woken_of S e ds d = list_any (λ x. same_prefix x d && wakes S x e) ds

pub woken_next : (S : Tables) (e : Prefix) (ds : List Prefix) (i : ℕ) (x d : Prefix) → i < length ds → get_or ds i x ≡ x → woken_of S e (take (i + 1) ds) d ≡ woken_of S e (take i ds) d || (same_prefix x d && wakes S x e)
woken_next S e ds i x d lt is =
    list_any_more (λ y. same_prefix y d && wakes S y e) ds i x lt
    ∙ ap (λ (y : Prefix). woken_of S e (take i ds) d || (same_prefix y d && wakes S y e)) is

by_both : (a b : Bool) → (a ≡ true → b ≡ true) → (b ≡ true → a ≡ true) → a ≡ b
by_both true b f g = sym (f refl)
by_both false true f g = g refl
by_both false false f g = refl

woken_from : (S : Tables) (e : Prefix) (ds : List Prefix) (d : Prefix) → woken_of S e ds d ≡ true → wakes S d e ≡ true
woken_from S e ds d h =
    let r = any_from (λ x. same_prefix x d && wakes S x e) ds h in
    let both = and_both (same_prefix r.0 d) (wakes S r.0 e) r.2 in
    subst (λ (y : Prefix). wakes S y e ≡ true) ((same_prefix-Decides r.0 d).0 both.0) both.1

woken_there : (S : Tables) (e : Prefix) (ds : List Prefix) (d : Prefix) → Contains ds d → wakes S d e ≡ true → woken_of S e ds d ≡ true
woken_there S e ds d c h = any_in (λ x. same_prefix x d && wakes S x e) ds d c (and_join (same_prefix d d) (wakes S d e) (self_same d) h)

pub woken_all : (S : Tables) (e : Prefix) (ds : List Prefix) (d : Prefix) → (Contains ds d ↔ Contains (targets S d) e) → woken_of S e ds d ≡ wakes S d e
woken_all S e ds d all = by_both (woken_of S e ds d) (wakes S d e) (woken_from S e ds d) (λ h. woken_there S e ds d (all.1 (wakes_target S d e h)) h)

-- one more is woken, or not
pub pushed_among : (qs : List Queued) (q : Queued) (d : Prefix) → are_among (qs ++ q ∷ []) d ≡ are_among qs d || same_prefix q.prefix d
pushed_among qs q d = list_any-append (λ x. same_prefix x.prefix d) qs (q ∷ []) ∙ ap (λ b. are_among qs d || b) (or_none (same_prefix q.prefix d))
  where
    or_none : (b : Bool) → b || false ≡ b
    or_none true = refl
    or_none false = refl

pub pushed_ranks : (rank : Prefix → ℕ) (qs : List Queued) (q : Queued) → q.rank ≡ rank q.prefix → have_ranks rank qs → have_ranks rank (qs ++ q ∷ [])
pushed_ranks rank [] q e h = (e, tt)
pushed_ranks rank (x ∷ qs) q e h = (h.0, pushed_ranks rank qs q e h.1)

-- queued one by one
pub among_next : (qs : List Queued) (i : ℕ) (q : Queued) (d : Prefix) → i < length qs → get_or qs i q ≡ q → are_among (take (i + 1) qs) d ≡ are_among (take i qs) d || same_prefix q.prefix d
among_next qs i q d lt is = list_any_more (λ x. same_prefix x.prefix d) qs i q lt ∙ ap (λ (x : Queued). are_among (take i qs) d || same_prefix x.prefix d) is

pub named_next : (ds : List Prefix) (i : ℕ) (x d : Prefix) → i < length ds → get_or ds i x ≡ x → is_among (take (i + 1) ds) d ≡ is_among (take i ds) d || same_prefix x d
named_next ds i x d lt is = list_any_more (λ y. same_prefix y d) ds i x lt ∙ ap (λ (y : Prefix). is_among (take i ds) d || same_prefix y d) is

-- the listed prefixes are those that are touched
pub among_touched : (S T : Tables) (ds : List Prefix) (d : Prefix) → AreTouched S T ds → is_among ds d ≡ is_touched S T d
among_touched S T ds d are = by_both (is_among ds d) (is_touched S T d)
    (λ is. let r = any_from (λ y. same_prefix y d) ds is in
    (are.touched d).0 (subst (λ (x : Prefix). Contains ds x) ((same_prefix-Decides r.0 d).0 r.2) r.1))
    (λ is. any_in (λ y. same_prefix y d) ds d ((are.touched d).1 is) (self_same d))

pub rank_at : (rank : Prefix → ℕ) (qs : List Queued) (i : ℕ) (q : Queued) → i < length qs → get_or qs i q ≡ q → have_ranks rank qs → q.rank ≡ rank q.prefix
rank_at rank qs i q lt is h = subst (λ (x : Queued). x.rank ≡ rank x.prefix) is (at_index qs i lt h)
  where
    at_index : (xs : List Queued) (j : ℕ) → j < length xs → have_ranks rank xs → (get_or xs j q).rank ≡ rank (get_or xs j q).prefix
    at_index [] j l g = absurd (omega (arith, l))
    at_index (x ∷ xs) zero l g = g.0
    at_index (x ∷ xs) (suc j) l g = let l' : j < length xs = omega (arith, l) in at_index xs j l' g.1

some_if : (b : Bool) (r : ℕ) (o : Option ℕ) → is_some (if b then Some r else o) ≡ is_some o || b
some_if true r o = or_true (is_some o)
  where
    or_true : (c : Bool) → true ≡ c || true
    or_true true = refl
    or_true false = refl
some_if false r o = sym (or_none (is_some o))
  where
    or_none : (c : Bool) → c || false ≡ c
    or_none true = refl
    or_none false = refl

or_assoc : (a b c : Bool) → (a || b) || c ≡ a || (b || c)
or_assoc true b c = refl
or_assoc false b c = refl

pub queued_next : (new now : Option ℕ) (first : Option ℕ) (b a n : Bool) (r : ℕ) → new ≡ (if b then Some r else now) → is_some now ≡ is_some first || a → n ≡ a || b → is_some new ≡ is_some first || n
queued_next new now first b a n r e h g = ap is_some e ∙ some_if b r now ∙ ap (λ c. c || b) h ∙ or_assoc (is_some first) a b ∙ ap (λ c. is_some first || c) (sym g)

pub rank_next : (rank : Prefix → ℕ) (q d : Prefix) (new now first : Option ℕ) (n r : ℕ) → new ≡ (if same_prefix q d then Some n else now) → n ≡ rank q → ((k : ℕ) → now ≡ Some k → (first ≡ Some k) ⊎ (k ≡ rank d)) → new ≡ Some r → (first ≡ Some r) ⊎ (r ≡ rank d)
rank_next rank q d new now first n r e is before at = by (same_prefix q d) refl
  where
    by : (b : Bool) → same_prefix q d ≡ b → (first ≡ Some r) ⊎ (r ≡ rank d)
    by true t = inr (let both : Some n ≡ Some r = sym (ap (λ b. if b then Some n else now) t) ∙ sym e ∙ at in let same : n ≡ r = cc in sym same ∙ is ∙ ap rank ((same_prefix-Decides q d).0 t))
    by false f = before r (sym (ap (λ b. if b then Some n else now) f) ∙ sym e ∙ at)

pub take_whole : (ds : List Prefix) (i : ℕ) → length ds ≤ i → take i ds ≡ ds
take_whole [] zero le = refl
take_whole [] (suc i) le = refl
take_whole (x ∷ ds) zero le = absurd (omega (arith, le))
take_whole (x ∷ ds) (suc i) le = ap (λ l. x ∷ l) (take_whole ds i (omega (arith, le)))

-- the one that is meant is the other
pub same_woken : (S : Tables) (e x d : Prefix) → same_prefix x d && wakes S d e ≡ same_prefix x d && wakes S x e
same_woken S e x d = by (same_prefix x d) refl
  where
    by : (b : Bool) → same_prefix x d ≡ b → b && wakes S d e ≡ b && wakes S x e
    by true is = ap (λ (y : Prefix). wakes S y e) (sym ((same_prefix-Decides x d).0 is))
    by false is = refl
