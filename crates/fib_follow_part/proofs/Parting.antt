-- What a search has seen is a part; which of its paths are looped, and which edges are left.
use Rattle.std.proofs.Common.{arith, ◌≡◌, ℕ, ◌<◌, Bool, true, false, not, ◌&&◌, ◌==◌, List, [], ◌∷◌, flat_map, map, length, Option, Some, None}
use Rattle.std.proofs.Common.{inl, inr, refl, sym, ◌∙◌, ap, ap₂, subst, slice_get}
use Rattle.std.specs.Prelude.{◌↔◌, ◌||◌, Contains, filter, option_to_list}
use Rattle.std.specs.List.{list_any}
use Rattle.std.specs.Set.{is_member}
use Rattle.std.proofs.lemmas.Bool.{false≢true}
use Rattle.std.proofs.lemmas.Bool.Decides.{nat_tests}
use Rattle.std.proofs.lemmas.Map.Made.{is_member-Decides}
use Rattle.fib_base_list.proofs.Lists.{either, Contains-nil, Contains-flat_map}
use Rattle.fib_addr.specs.Prefixes.{Prefix, host, same_prefix}
use Rattle.fib_addr.proofs.PrefixLaws.{same_prefix-Decides}
use Rattle.fib_reach.specs.Walks.{Leads, Next, Walk}
use Rattle.fib_reach.proofs.Walking.{leads-map, walk-map}
use Rattle.fib_loops.specs.Loops.{AreEdges}
use Rattle.fib_resolve.specs.Loops.{is_kept, kind_targets, looped, looped_kind, targets, Kept}
use Rattle.fib_resolve.specs.Pairs.{chosen}
use Rattle.fib_resolve.specs.declared.types.Path.{Path}
use Rattle.fib_resolve.specs.declared.types.PathKind.{PathKind}
use Rattle.fib_resolve.specs.declared.types.PathKind.TheVariants as kinds
use Rattle.fib_resolve.specs.declared.types.Tables.{Tables}
use Rattle.fib_resolve.proofs.Covering.{filter_from, filter_in}
use Rattle.fib_resolve.proofs.KeptEdges.{kept_target}
use Rattle.fib_resolve.proofs.LoopTests.{looped-Decides}
use Rattle.fib_resolve.proofs.PairLaws.{cover_short}
use Rattle.fib_resolve_changes.specs.Reached.{IsReached}
use Rattle.fib_resolve_changes.proofs.Reached.{free_back}
use Rattle.fib_resolve_changes.proofs.Edits.{any_in, in_cases, in_front}
use Rattle.fib_resolve_changes.proofs.SamePairs.{flat_map_from, map_from}
use Rattle.fib_entries_rows.specs.Known.{row_of}
use Rattle.fib_entries_rows.specs.Rows.{Row}
use Rattle.fib_entries_rows.specs.inner.Building.{AreKeptEdges}
use Rattle.fib_entries_rows.specs.inner.Edges.{ArePlaces}
use Rattle.fib_entries_rows.specs.inner.Looping.{AreEdgesAmong, AreLoopedEnds, has_ends}
use Rattle.fib_entries_rows.specs.inner.Reaching.{kind_loops}
use Rattle.fib_entries_rows.proofs.Edging.{places_join}
use Rattle.fib_entries_rows.proofs.KeptEdges.{none_looped}
use Rattle.fib_entries_rows.proofs.Loopings.{loops_are}
use Rattle.fib_entries_rows.proofs.PartRows.{kept_wakes, wakes_kept}
use Rattle.fib_entries_rows.proofs.Standing.{leads_there as depends_there, none_leads}
use Rattle.std.proofs.lemmas.Option.{slice_get_within}
use Rattle.fib_base_interned.proofs.Finding.{contains_at}
use Rattle.fib_follow_view.specs.Views.{Seen, IsAfter, anew_prefix, is_changed, made_of}
use Rattle.fib_follow_view.specs.inner.Told.{goals_by, next_before, next_in}
use Rattle.fib_follow_view.proofs.After.{next_after, next_was, some_made}
use Rattle.fib_follow_view.specs.declared.view.Anew.{Anew}
use Rattle.fib_follow_part.specs.Parts.{IsPart, Part}
use Rattle.fib_follow_part.specs.inner.Searched.{AreLeaving, FallsAlong, IsOrdered, IsSearched, are_none, is_led_to}
use Rattle.fib_follow_part.specs.inner.Searched.{is_left, is_left_end, left_at, row_led}

same_if : (b c : Bool) → (b ≡ true → c ≡ true) → (c ≡ true → b ≡ true) → b ≡ c
same_if true c f g = sym (f refl)
same_if false true f g = g refl
same_if false false f g = refl

not_true : (b : Bool) → not b ≡ true → b ≡ false
not_true true h = absurd (false≢true h)
not_true false h = refl

pub member_of : (xs : List Prefix) (e : Prefix) → Contains xs e → is_member same_prefix xs e ≡ true
member_of xs e c = (is_member-Decides same_prefix-Decides xs e).1 c

pub among : (xs : List Prefix) (e : Prefix) → is_member same_prefix xs e ≡ true → Contains xs e
among xs e is = (is_member-Decides same_prefix-Decides xs e).0 is

off_member : (xs : List Prefix) (e : Prefix) → (Contains xs e → ⊥) → is_member same_prefix xs e ≡ false
off_member xs e off = elim (either (is_member same_prefix xs e)) [ inl is ↦ absurd (off (among xs e is)) | inr none ↦ none ]

-- edges among what is seen lead from place to place
pub among_places : (next : Prefix → List Prefix) (order : List Prefix) (edges : List (ℕ × ℕ))
    → AreEdgesAmong next order (length order) edges → ArePlaces order edges
among_places next order edges are d c = let r = (are d).0 c in (slice_get_within order d.0 r.1.0 r.1.2, slice_get_within order d.1 r.1.1 r.1.3)

-- edges that are left join places
pub left_places : (order : List Prefix) (edges left : List (ℕ × ℕ)) (test : ℕ × ℕ → Bool) → left ≡ filter test edges → ArePlaces order edges
    → AreEdges (length order) left
left_places order edges left test is places = places_join order left (λ d c. places d (filter_from test edges d (subst (λ l. Contains l d) is c)).0)

only : (t u : Prefix) → Contains (t ∷ []) u → t ≡ u
only t u c = elim (in_cases t u [] c) [ inl is ↦ is | inr none ↦ absurd (Contains-nil u none) ]

any_other : (v : Seen) (xs : List Prefix) (x : Prefix) → Contains xs x → is_changed v.changed x ≡ false
    → list_any (λ d. not (is_changed v.changed d)) xs ≡ true
any_other v xs x c off = any_in (λ d. not (is_changed v.changed d)) xs x c (ap not off)

or_second : (b c : Bool) → c ≡ true → (b || c) ≡ true
or_second true c h = refl
or_second false c h = h

both_true : (b c : Bool) → b ≡ true → c ≡ false → (b && not c) ≡ true
both_true b c h k = rw (h, k) refl

both_from : (b c : Bool) → (b && not c) ≡ true → (b ≡ true) × (c ≡ false)
both_from true true h = absurd (false≢true h)
both_from true false h = (refl, refl)
both_from false c h = absurd (false≢true h)

no_reach : (reach : List Prefix) → are_none reach ≡ true → (x : Prefix) → Contains reach x → ⊥
no_reach [] none x c = Contains-nil x c
no_reach (y ∷ ys) none x c = false≢true none

module _ (v : Seen) (S T : Tables) (h : IsAfter v S T) (any : Bool) (seen : List Prefix) (apart : Bool) (searched : IsSearched v any seen apart) where
  abbrev reach : List Prefix
  reach = searched.reach

  -- a member that is free: only free ones lead to it
  abbrev free : Prefix → Bool
  free e = is_member same_prefix seen e && not (is_member same_prefix reach e)

  -- who leads, before the change, to a member that isn't in reach was made anew
  leads_before : (x y : Prefix) → Contains seen y → (Contains reach y → ⊥) → Contains (targets S x) y → is_changed v.changed x ≡ true
  leads_before x y there off c = elim (either (is_changed v.changed x)) [
    | inl is ↦ is
    | inr isnt ↦ absurd (off (elim (searched.only y there) [
      | inl r ↦ r
      | inr made ↦ (let m = map_from anew_prefix v.changed y made in
          subst (Contains reach) m.2 (searched.is.led m.0 m.1
          (or_second any (is_led_to v m.0.prefix) (subst (λ z. is_led_to v z ≡ true) (sym m.2) (led (row_of v.before.rows y) refl isnt)))))
    ]))
  ]
    where
      led : (o : Option Row) → row_of v.before.rows y ≡ o → is_changed v.changed x ≡ false → row_led v o ≡ true
      led None none isnt = absurd (none_leads v.before S h.stands y x none c)
      led (Some r) at isnt = any_other v r.dependants x ((depends_there v.before S h.stands y r x at).1 c) isnt

  leads_after : (x y : Prefix) → Contains seen y → (Contains reach y → ⊥) → Contains (targets T x) y → is_changed v.changed x ≡ true
  leads_after x y there off c = by (made_of v.changed x) refl
    where
      here : Contains (next_in v x) y
      here = subst (λ l. Contains l y) (sym (next_after v S T h x)) c

      by : (o : Option Anew) → made_of v.changed x ≡ o → is_changed v.changed x ≡ true
      by None none = leads_before x y there off (subst (λ l. Contains l y)
          (ap (λ o. flat_map option_to_list (goals_by v.before x o)) none ∙ next_was v S T h x) here)
      by (Some z) at = some_made v.changed x z at

  -- who was made anew and leads to what isn't in reach is free
  free_from : (x y : Prefix) → (Contains reach y → ⊥) → is_changed v.changed x ≡ true → (Contains reach x → Contains reach y) → free x ≡ true
  free_from x y off made on = both_true (is_member same_prefix seen x) (is_member same_prefix reach x)
      (member_of seen x (searched.changed x (among (map anew_prefix v.changed) x made)))
      (off_member reach x (λ c. off (on c)))

  free_to : (x y : Prefix) → free y ≡ true → ((Contains seen y → (Contains reach y → ⊥) → is_changed v.changed x ≡ true))
      → (Contains reach x → Contains reach y) → free x ≡ true
  free_to x y is made on =
      let f = both_from (is_member same_prefix seen y) (is_member same_prefix reach y) is in
      let off : Contains reach y → ⊥ = λ c. false≢true (sym f.1 ∙ member_of reach y c) in
      free_from x y off (made (among seen y f.0) off) on

  -- a member that isn't free is in reach
  in_reach : (e : Prefix) → is_member same_prefix seen e ≡ true → free e ≡ false → Contains reach e
  in_reach e is off = elim (either (is_member same_prefix reach e)) [
    | inl on ↦ among reach e on
    | inr none ↦ absurd (false≢true (sym off ∙ both_true (is_member same_prefix seen e) (is_member same_prefix reach e) is none))
  ]

  next_back : (x y : Prefix) → Contains (targets S x) y → Contains (next_before v x) y
  next_back x y c = subst (λ l. Contains l y) (sym (next_was v S T h x)) c

  next_on : (x y : Prefix) → Contains (targets T x) y → Contains (next_in v x) y
  next_on x y c = subst (λ l. Contains l y) (sym (next_after v S T h x)) c

  free_after : (x y : Prefix) → free y ≡ true → Contains (targets T x) y → free x ≡ true
  free_after x y is c = free_to x y is (λ there off. leads_after x y there off c) (λ on. (searched.is.closed x on).0 y (next_on x y c))

  pub part_reached : IsReached S T (is_changed v.changed) (λ e. is_member same_prefix seen e)
  part_reached = record {
    free = free;
    caught = h.caught;
    has = λ e is. member_of seen e (searched.changed e (among (map anew_prefix v.changed) e is));
    has_free = λ e is. (both_from (is_member same_prefix seen e) (is_member same_prefix reach e) is).0;
    free_before = λ x y is c. free_to x y is (λ there off. leads_before x y there off c) (λ on. (searched.is.closed x on).1 y (next_back x y c));
    free_after = free_after;
    before = λ x y is off c. member_of seen y (searched.more y ((searched.is.closed x (in_reach x is off)).1 y (next_back x y c)));
    after = λ x y is off c. member_of seen y (searched.more y ((searched.is.closed x (in_reach x is off)).0 y (next_on x y c)));
  }

  -- where there is no reach only members lead to members
  pub part_apart : apart ≡ true → (x y : Prefix) → is_member same_prefix seen y ≡ true → Contains (targets T x) y → is_member same_prefix seen x ≡ true
  part_apart is x y there c =
      let none = no_reach reach (sym searched.apart ∙ is) in
      member_of seen x (searched.changed x (among (map anew_prefix v.changed) x (leads_after x y (among seen y there) (none y) c)))

  -- what lies on a cycle with a member is one
  on_cycle : (e t : Prefix) → Contains seen e → Contains (next_in v e) t → Leads (Next (next_in v)) t e → Contains seen t
  on_cycle e t there c back = elim (either (free e)) [
    | inr off ↦ searched.more t ((searched.is.closed e (in_reach e (member_of seen e there) off)).0 t c)
    | inl is ↦ among seen t (both_from (is_member same_prefix seen t) (is_member same_prefix reach t)
        (free_back T free free_after back.0 t e is (leads_map_walk back.0 t e back.1))).0
  ]
    where
      leads_map_walk : (n : ℕ) (x y : Prefix) → Walk (Next (next_in v)) n x y → Walk (Next (targets T)) n x y
      leads_map_walk n x y w = walk-map (Next (next_in v)) (Next (targets T)) (λ a b d. subst (λ l. Contains l b) (next_after v S T h a) d) n x y w

  -- the edges that leave what is seen
  pub part_out : (out : List (ℕ × Prefix)) → AreLeaving (next_in v) seen (length seen) out → (d : ℕ × Prefix)
      → Contains out d ↔ (e : Prefix) × (slice_get seen d.0 ≡ Some e) × Contains (targets T e) d.1 × (Contains seen d.1 → ⊥)
  part_out out are d = (
    λ c. (let r = (are d).0 c in (r.1, r.2, subst (λ l. Contains l d.1) (next_after v S T h r.1) r.3, r.4)),
    λ k. (are d).1 (slice_get_within seen d.0 k.0 k.1, k.0, k.1, subst (λ l. Contains l d.1) (sym (next_after v S T h k.0)) k.2, k.3),
  )

  leads_there : (x y : Prefix) → Leads (Next (next_in v)) x y → Leads (Next (targets T)) x y
  leads_there x y l = leads-map (Next (next_in v)) (Next (targets T)) (λ a b c. subst (λ l. Contains l b) (next_after v S T h a) c) x y l

  leads_back : (x y : Prefix) → Leads (Next (targets T)) x y → Leads (Next (next_in v)) x y
  leads_back x y l = leads-map (Next (targets T)) (Next (next_in v)) (λ a b c. subst (λ l. Contains l b) (sym (next_after v S T h a)) c) x y l

  module _ (edges : List (ℕ × ℕ)) (loops : List (Prefix × Prefix)) (are : AreEdgesAmong (next_in v) seen (length seen) edges)
      (ends : AreLoopedEnds seen edges loops) where
    -- a recursive path is looped exactly where its edge is among those on cycles
    hop_looped : (e : Prefix) (a : ℕ) → Contains seen e → Contains (targets T e) (host a) → has_ends loops e (host a) ≡ looped T e a
    hop_looped e a there goal =
        let k = loops_are (next_in v) seen edges searched.once on_cycle are loops ends e (host a) there
        (subst (λ l. Contains l (host a)) (sym (next_after v S T h e)) goal) in
        same_if (has_ends loops e (host a)) (looped T e a)
        (λ is. (looped-Decides T e a).1 (leads_there (host a) e (k.0 is)))
        (λ is. k.1 (leads_back (host a) e ((looped-Decides T e a).0 is)))

    target_in : (e : Prefix) (q : Path) (t : Prefix) → Contains (chosen T e) q → Contains (kind_targets T e q.kind) t → Contains (targets T e) t
    unfolding targets
    target_in e q t c k = Contains-flat_map (λ p. kind_targets T e p.kind) (chosen T e) q t c k

    pub part_looped : (e : Prefix) (q : Path) → Contains seen e → Contains (chosen T e) q → kind_loops loops e q.kind ≡ looped_kind T e q.kind
    part_looped e q there c = by q.kind refl
      where
        by : (kind : PathKind) → q.kind ≡ kind → kind_loops loops e kind ≡ looped_kind T e kind
        by (kinds.Recursive a) is = hop_looped e a there
            (target_in e q (host a) c (subst (λ k. Contains (kind_targets T e k) (host a)) (sym is) (in_front (host a) (host a) [] refl)))
        by kinds.Drop is = refl
        by kinds.Local is = refl
        by (kinds.Attached i) is = refl
        by (kinds.Hop a i) is = refl
        by kinds.Cover is = refl

    -- an edge is left exactly where it is that of a path that isn't looped
    left_kept : (e t : Prefix) → Contains seen e → Contains (targets T e) t → is_left_end loops e t ≡ true → Kept T e t
    unfolding targets
    left_kept e t there goal is =
        let r = flat_map_from (λ p. kind_targets T e p.kind) (chosen T e) t goal in
        (r.0, r.1, by r.0 r.1 r.0.kind refl r.2, r.2)
      where
        by : (q : Path) → Contains (chosen T e) q → (kind : PathKind) → q.kind ≡ kind → Contains (kind_targets T e kind) t → is_kept T e kind ≡ true
        by q c (kinds.Recursive a) same k =
            let own = only (host a) t k in
            let quiet : has_ends loops e (host a) ≡ false = not_true (has_ends loops e (host a)) (subst (λ z. is_left_end loops e z ≡ true) (sym own) is) in
            ap not (sym (hop_looped e a there (subst (Contains (targets T e)) (sym own) goal)) ∙ quiet)
        by q c kinds.Drop same k = refl
        by q c kinds.Local same k = refl
        by q c (kinds.Attached i) same k = refl
        by q c (kinds.Hop a i) same k = refl
        by q c kinds.Cover same k = refl

    kept_left : (e t : Prefix) → Contains seen e → Kept T e t → is_left_end loops e t ≡ true
    kept_left e t there k = by k.0.kind refl k.2 k.3
      where
        by : (kind : PathKind) → k.0.kind ≡ kind → is_kept T e kind ≡ true → Contains (kind_targets T e kind) t → is_left_end loops e t ≡ true
        by (kinds.Recursive a) same kept goal =
            let own = only (host a) t goal in
            let quiet : has_ends loops e (host a) ≡ false = hop_looped e a there
            (subst (Contains (targets T e)) (sym own) (kept_target T e t k)) ∙ not_true (looped T e a) kept in
            subst (λ z. is_left_end loops e z ≡ true) own (ap not quiet)
        by kinds.Cover same kept goal =
            let short : t.len < 32 = subst (λ (z : Prefix). z.len < 32) (only _ t goal) (cover_short T e.bits) in
            let off : (t.len == 32) ≡ false = grind (arith, nat_tests, short) in
            ap (λ b. not (b && has_ends loops e t)) off
        by kinds.Drop same kept goal = absurd (Contains-nil t goal)
        by kinds.Local same kept goal = absurd (Contains-nil t goal)
        by (kinds.Attached i) same kept goal = absurd (Contains-nil t goal)
        by (kinds.Hop a i) same kept goal = absurd (Contains-nil t goal)

    pub part_left : (left : List (ℕ × ℕ)) → left ≡ filter (is_left seen loops) edges → AreKeptEdges T seen (length seen) left
    part_left left is d = (
      λ c. (let f = filter_from (is_left seen loops) edges d (subst (λ l. Contains l d) is c) in
          let x = (are d).0 f.0 in
          let e : Prefix = x.1.0 in
          let t : Prefix = x.1.1 in
          let there = contains_at seen d.0 e x.1.2 in
          let goal = subst (λ l. Contains l t) (next_after v S T h e) x.1.4 in
          let end : is_left_end loops e t ≡ true = sym (ap₂ (left_at loops) x.1.2 x.1.3) ∙ f.1 in
          (x.0, (e, t, x.1.2, x.1.3, kept_wakes T e t (left_kept e t there goal end)))),
      λ k. (let e : Prefix = k.1.0 in
          let t : Prefix = k.1.1 in
          let there = contains_at seen d.0 e k.1.2 in
          let kept = wakes_kept T e t k.1.4 in
          let edge = (are d).1 (k.0, (e, t, k.1.2, k.1.3, subst (λ l. Contains l t) (sym (next_after v S T h e)) (kept_target T e t kept))) in
          subst (λ l. Contains l d) (sym is) (filter_in (is_left seen loops) edges d edge (ap₂ (left_at loops) k.1.2 k.1.3 ∙ kept_left e t there kept))),
    )

    pub is_part : (left : List (ℕ × ℕ)) (out : List (ℕ × Prefix)) (numbers : List ℕ) → left ≡ filter (is_left seen loops) edges
        → AreLeaving (next_in v) seen (length seen) out → FallsAlong left numbers
        → IsPart v S T (record { members = seen; is_apart = apart; loops = loops; left = left; out = out; numbers = numbers })
    is_part left out numbers is leaving falls = record {
      once = searched.once;
      reached = part_reached;
      apart = part_apart;
      looped = λ e q there c. part_looped e q (among seen e there) c;
      left = part_left left is;
      out = part_out out leaving;
      falls = falls (none_looped T seen left h.sound (part_left left is));
    }

-- the part that a search has seen
pub made_part : (v : Seen) (any : Bool) (seen : List Prefix) (apart : Bool) → IsSearched v any seen apart → (p : Part) → p.members ≡ seen
    → p.is_apart ≡ apart
    → ((edges : List (ℕ × ℕ)) × AreEdgesAmong (next_in v) seen (length seen) edges × IsOrdered seen edges p.loops p.left p.numbers)
    → AreLeaving (next_in v) seen (length seen) p.out → (S T : Tables) → IsAfter v S T → IsPart v S T p
made_part v any seen apart searched p same alone ordered out S T h =
    let o = ordered.2 in
    subst (λ l. IsPart v S T (record { members = l; is_apart = p.is_apart; loops = p.loops; left = p.left; out = p.out; numbers = p.numbers })) (sym same)
    (subst (λ b. IsPart v S T (record { members = seen; is_apart = b; loops = p.loops; left = p.left; out = p.out; numbers = p.numbers })) (sym alone)
    (is_part v S T h any seen apart searched ordered.0 p.loops ordered.1 o.loops p.left p.out p.numbers o.left out o.falls))

-- nothing leaves what is closed
pub none_leaves : (v : Seen) (seen : List Prefix) (apart : Bool) → IsSearched v true seen apart → (out : List (ℕ × Prefix))
    → AreLeaving (next_in v) seen (length seen) out → out ≡ []
none_leaves v seen apart searched [] are = refl
none_leaves v seen apart searched (d ∷ ds) are =
    let r = (are d).0 (in_front d d ds refl) in
    let in_reach : Contains searched.reach r.1 = elim (searched.only r.1 (contains_at seen d.0 r.1 r.2)) [
      | inl on ↦ on
      | inr made ↦ (let m = map_from anew_prefix v.changed r.1 made in subst (Contains searched.reach) m.2 (searched.is.led m.0 m.1 refl))
    ] in
    absurd (r.4 (searched.more d.1 ((searched.is.closed r.1 in_reach).0 d.1 r.3)))
