-- The rows after are those of the tables after, with their ranks and the users of their lists.
use Rattle.std.proofs.Common.{◌≡◌, ◌<◌, ◌^◌, ◌-◌, ℕ, true, false, List, map, Option, Some, None, inl, inr, refl, sym, ◌∙◌, ap, subst, ◌↔◌}
use Rattle.std.proofs.Common.{if◌then◌else◌}
use Rattle.std.specs.Prelude.{Contains, filter, min, position}
use Rattle.std.specs.Set.{is_member}
use Rattle.std.proofs.lemmas.Bool.{false≢true}
use Rattle.fib_base_list.proofs.Lists.{either, Contains-flat_map}
use Rattle.fib_base_interned.proofs.Finding.{contains_at}
use Rattle.fib_addr.specs.Prefixes.{Prefix, IsPrefix, same_prefix}
use Rattle.fib_resolve.specs.Aims.{marked_list}
use Rattle.fib_resolve.specs.Loops.{Kept, kind_targets, looped_kind, targets}
use Rattle.fib_resolve.specs.Pairs.{chosen, entries}
use Rattle.fib_resolve.specs.Sizes.{size}
use Rattle.fib_resolve.specs.Touched.{is_touched}
use Rattle.fib_resolve.specs.declared.types.Tables.{Tables}
use Rattle.fib_resolve.proofs.Covering.{filter_in}
use Rattle.fib_resolve.proofs.Entries.{targets_from_entries}
use Rattle.fib_resolve_changes.specs.Ranks.{Falls, has_entry}
use Rattle.fib_resolve_changes.proofs.MarkLaws.{untouched_marked}
use Rattle.fib_resolve_changes.proofs.Reached.{quiet_beside}
use Rattle.fib_resolve_changes.proofs.SamePairs.{map_from, map_in}
use Rattle.fib_resolve_changes.proofs.Targets.{edge_entry}
use Rattle.fib_entries_rows.specs.Changes.{AreMoved}
use Rattle.fib_entries_rows.specs.Known.{ArePairs, IsRow, PathKept, StandsFor, kind_met, prefix_of, rank_in, rank_of}
use Rattle.fib_entries_rows.specs.Rows.{Row}
use Rattle.fib_entries_rows.specs.declared.changes.Moved.{Moved}
use Rattle.fib_entries_rows.specs.inner.Coming.{with_pairs}
use Rattle.fib_entries_rows.specs.inner.Leaf.{pushed}
use Rattle.fib_entries_rows.proofs.Comparing.{looped_kept, met_kept}
use Rattle.fib_entries_rows.proofs.Loopings.{place_found}
use Rattle.fib_entries_rows.proofs.Named.{named_holders}
use Rattle.fib_entries_rows.proofs.PartRows.{no_row, row_by, row_is}
use Rattle.fib_follow_view.specs.Views.{Seen, is_changed}
use Rattle.fib_follow_view.specs.declared.view.Anew.{Anew}
use Rattle.fib_follow_part.specs.Parts.{Part, in_part, rank_after, rank_at}
use Rattle.fib_follow_part.proofs.Parting.{among, member_of}
use Rattle.fib_follow_told.specs.Told.{AreMovedBy, rank_left}
use Rattle.fib_follow_told.specs.declared.body.Body.{Body}
use Rattle.fib_follow_told.specs.declared.edges.Edges.{Edges}
use Rattle.fib_follow_write.specs.Plans.{IsBase, IsPlan, IsWritten, renewed}
use Rattle.fib_follow_write.specs.Written.{IsUnled, changed, led, leads, paired_prefix, sourced, with_marks}
use Rattle.fib_follow_write.specs.declared.plan.Edge.{Edge}
use Rattle.fib_follow_write.specs.declared.plan.Marks.{Marks}
use Rattle.fib_follow_write.specs.declared.plan.Sourced.{Sourced}
use Rattle.fib_follow_write.specs.declared.writing.Plan.{Plan}
use Rattle.fib_follow_plan.specs.Made.{has_pairs, marks_of, paired_of, plan_of}
use Rattle.fib_reach.specs.Walks.{AllDiffer}
use Rattle.fib_follow_plan.specs.Stands.{IsWorkedOut}
use Rattle.fib_follow_plan.proofs.Leading.{dependants_are, dependants_once}
use Rattle.fib_follow_plan.proofs.Marking.{body_at, marked_off, marked_own}
use Rattle.fib_follow_plan.proofs.Pairing.{kept_pairs, made_pairs, row_paired, row_unpaired}
use Rattle.fib_follow_write.proofs.Joining.{led_field}
use Rattle.fib_follow_plan.proofs.Stepped.{marked_keep, sourced_keep}
use Rattle.fib_follow_plan.proofs.Which.{base_entry, came_from, changed_in, entry_base, entry_stays, gone_in, made_at, paired_from}

module _ (v : Seen) (S T : Tables) (p : Part) (ranks : List ℕ) (list : List Prefix) (bodies : List Body) (x : Edges) (new : List Row)
    (later : List PathKept) (after : List Prefix) (w : IsWorkedOut v S T p ranks list bodies x) (s : IsPlan v.before.rows (plan_of v p ranks bodies x))
    (h : IsWritten (plan_of v p ranks bodies x) v.before.rows new v.before.lists later after) where
  abbrev plan : Plan
  plan = plan_of v p ranks bodies x

  abbrev mid_row : Row → Row
  mid_row r = changed sourced h.entries (changed led plan.edges_in r)

  abbrev made_row : Row → Row
  made_row r = renewed plan h.entries r

  mid_name : (r : Row) → (mid_row r).prefix ≡ r.prefix
  mid_name r = sourced_keep prefix_of (λ z q. refl) h.entries (changed led plan.edges_in r) ∙ led_field prefix_of (λ e q. refl) plan.edges_in r

  made_name : (r : Row) → (made_row r).prefix ≡ r.prefix
  made_name r = marked_keep prefix_of (λ m q. refl) plan.marks (mid_row r) ∙ mid_name r

  made_dependants : (r : Row) → (made_row r).dependants ≡ (changed led plan.edges_in r).dependants
  made_dependants r = marked_keep (λ z. z.dependants) (λ m q. refl) plan.marks (mid_row r)
      ∙ sourced_keep (λ z. z.dependants) (λ z q. refl) h.entries (changed led plan.edges_in r)

  -- the rows are of the entries
  pub new_entries : (e : Prefix) → Contains (map prefix_of new) e ↔ Contains (entries T) e
  new_entries e = (
    λ c. (let t = map_from prefix_of new e c in
        let r = h.rows t.0 t.1 in
        let name : t.0.prefix ≡ r.1.prefix = r.3.prefix ∙ made_name r.1 in
        subst (Contains (entries T)) (sym name ∙ t.2)
        (base_entry v S T w.after p ranks bodies x r.1 r.2 (λ g. r.0 (subst (Contains plan.gone) (sym name) g)))),
    λ c. (let b = entry_base v S T w.after p ranks bodies x e c in
        let f = h.found b.0 b.1 (λ g. entry_stays v S T w.after e c (subst (Contains plan.gone) b.2 g)) in
        subst (Contains (map prefix_of new)) (f.2.prefix ∙ (made_name b.0 ∙ b.2)) (map_in prefix_of new f.0 f.1)),
  )

  -- a prefix that isn't written is none of the part, and keeps its entry
  unwritten_part : (e : Prefix) → is_member same_prefix list e ≡ false → in_part p e ≡ false
  unwritten_part e off = elim (either (in_part p e)) [ inl is ↦ absurd (false≢true (sym off ∙ w.holds.has_part e is)) | inr isnt ↦ isnt ]

  unwritten_same : (e : Prefix) → is_member same_prefix list e ≡ false → is_changed v.changed e ≡ false
  unwritten_same e off = elim (either (is_changed v.changed e)) [
    | inl is ↦ absurd (false≢true (sym (unwritten_part e off) ∙ w.holds.reached.has e is))
    | inr isnt ↦ isnt
  ]

  quiet : (e : Prefix) → is_member same_prefix list e ≡ false → is_touched S T e ≡ false
  quiet e off = (quiet_beside S T (is_changed v.changed) (in_part p) (is_member same_prefix list) w.after.stands.sound w.after.sound w.holds e off).0

  rank_beside : (e : Prefix) → in_part p e ≡ false → rank_after v p ranks e ≡ rank_of v.before.rows e
  rank_beside e off = by (position (same_prefix e) p.members) refl
    where
      by : (o : Option ℕ) → position (same_prefix e) p.members ≡ o → rank_at v ranks e o ≡ rank_of v.before.rows e
      by None none = refl
      by (Some j) some = absurd (false≢true (sym off ∙ member_of p.members e (contains_at p.members j e (place_found p.members e j (sym some)))))

  -- a row of before, or one that comes, of a prefix that doesn't go
  module _ (r : Row) (base : IsBase v.before.rows (plan_of v p ranks bodies x) r) (stays : Contains (plan_of v p ranks bodies x).gone r.prefix → ⊥) where
    was_there : is_changed v.changed r.prefix ≡ false → Contains v.before.rows r
    was_there off = elim base [
      | inl was ↦ was
      | inr new ↦ (let y = came_from v S T w.after r.prefix new.0 in absurd (false≢true (sym off ∙ changed_in v S T w.after y.0 r.prefix y.1 y.2)))
    ]

    is_prefix : IsPrefix r.prefix
    is_prefix = elim base [
      | inl was ↦ (w.after.stands.rows r was).prefix
      | inr new ↦ (let y = came_from v S T w.after r.prefix new.0 in subst IsPrefix y.2 (w.prefixes y.0 y.1))
    ]

    anew_pairs : (y : Anew) → Contains v.changed y → y.prefix ≡ r.prefix → has_pairs y ≡ true → ArePairs later T r.prefix (made_row r).pairs
    anew_pairs y c is some = subst (λ e. ArePairs later T e (made_row r).pairs) is (made_pairs T later y (made_row r).pairs (w.after.made y c)
        (row_paired plan h.entries later h.numbered s.paired_once (paired_of y) r
        (map_in paired_of (filter has_pairs v.changed) y (filter_in has_pairs v.changed y c some)) is))

    same_pairs : is_changed v.changed r.prefix ≡ false → ArePairs later T r.prefix (made_row r).pairs
    same_pairs off =
        let was = was_there off in
        let unpaired : Contains (map paired_prefix plan.paired) r.prefix → ⊥ = λ c. (let y = paired_from v S T w.after r.prefix c in
        false≢true (sym off ∙ changed_in v S T w.after y.0 r.prefix y.1 y.2)) in
        subst (ArePairs later T r.prefix) (sym (row_unpaired plan h.entries later h.numbered r unpaired))
        (kept_pairs T later v.before.lists S r.prefix r.pairs (w.after.stands.rows r was).pairs (w.after.caught r.prefix off).pairs
        (λ q d. h.names r q was d unpaired stays))

    made_pairs_are : ArePairs later T r.prefix (made_row r).pairs
    made_pairs_are = elim (either (is_changed v.changed r.prefix)) [
      | inr off ↦ same_pairs off
      | inl is ↦ (let y = made_at v S T w.after r.prefix is in elim (either (has_pairs y.0)) [
        | inl some ↦ anew_pairs y.0 y.1 y.2 some
        | inr none ↦ absurd (stays (subst (Contains plan.gone) y.2 (gone_in v S T w.after y.0 y.1 none)))
      ])
    ]

    -- a field that marks give
    field_is : {Y : Type 0} (get : Row → Y) (of : Marks → Y) (want : Prefix → Y) → ((m : Marks) (q : Row) → get (with_marks m q) ≡ of m)
        → ((z : Sourced) (q : Row) → get (with_pairs z.pairs q) ≡ get q) → ((e : Edge) (q : Row) → get (pushed e.from q) ≡ get q)
        → ((b : Body) → Contains bodies b → of (marks_of v p ranks b) ≡ want b.prefix)
        → (is_member same_prefix list r.prefix ≡ false → get r ≡ want r.prefix) → get (made_row r) ≡ want r.prefix
    field_is get of want gives paired leading each beside = elim (either (is_member same_prefix list r.prefix)) [
      | inl is ↦ (let b = body_at v T p ranks list bodies w.bodies r.prefix (among list r.prefix is) in
          marked_own v T p ranks list bodies w.bodies get of gives w.once (mid_row r) b.0 b.1 (b.2 ∙ sym (mid_name r)) ∙ (each b.0 b.1 ∙ ap want b.2))
      | inr off ↦ (let out : Contains list (mid_row r).prefix → ⊥ = λ c. false≢true
          (sym off ∙ member_of list r.prefix (subst (Contains list) (mid_name r) c)) in
          ap get (marked_off v T p ranks list bodies w.bodies (mid_row r) out)
          ∙ (sourced_keep get paired h.entries (changed led plan.edges_in r) ∙ (led_field get leading plan.edges_in r ∙ beside off)))
    ]

    looped_is : (made_row r).looped ≡ map (λ q. looped_kind T r.prefix q.kind) (chosen T r.prefix)
    looped_is = field_is (λ z. z.looped) (λ m. m.looped) (λ e. map (λ q. looped_kind T e q.kind) (chosen T e)) (λ m q. refl) (λ z q. refl) (λ e q. refl)
        (λ b c. (w.bodies.each b c).looped)
        (λ off. (w.after.stands.rows r (was_there (unwritten_same r.prefix off))).looped ∙ looped_kept S T r.prefix w.after.sound (quiet r.prefix off))

    met_is : (made_row r).met ≡ map (λ q. kind_met T q.need q.kind) (chosen T r.prefix)
    met_is = field_is (λ z. z.met) (λ m. m.met) (λ e. map (λ q. kind_met T q.need q.kind) (chosen T e)) (λ m q. refl) (λ z q. refl) (λ e q. refl)
        (λ b c. (w.bodies.each b c).met)
        (λ off. (w.after.stands.rows r (was_there (unwritten_same r.prefix off))).met ∙ met_kept S T r.prefix w.after.sound (quiet r.prefix off))

    marked_is : (made_row r).marked ≡ marked_list T r.prefix
    marked_is = field_is (λ z. z.marked) (λ m. m.marked) (marked_list T) (λ m q. refl) (λ z q. refl) (λ e q. refl)
        (λ b c. (w.bodies.each b c).marked)
        (λ off. (w.after.stands.rows r (was_there (unwritten_same r.prefix off))).marked ∙ untouched_marked S T r.prefix w.after.sound (quiet r.prefix off))

    rank_is : (made_row r).rank ≡ rank_after v p ranks r.prefix
    rank_is = field_is (λ z. z.rank) (λ m. m.rank) (rank_after v p ranks) (λ m q. refl) (λ z q. refl) (λ e q. refl) (λ b c. refl)
        (λ off. sym (rank_beside r.prefix (unwritten_part r.prefix off)
        ∙ ap rank_in (row_is v.before.rows w.after.stands.ordered r (was_there (unwritten_same r.prefix off)))))

    leads_is : (d : Prefix) → (Contains (made_row r).dependants d × (leads plan.edges_out d (made_row r).prefix → ⊥)) ↔ Contains (targets T d) r.prefix
    leads_is d = (let are = dependants_are v.before S T w.after.stands x w.edges plan s refl refl r base d in (
      λ c. are.0 (subst (λ l. Contains l d) (made_dependants r) c.0, λ o. c.1 (subst (leads plan.edges_out d) (sym (made_name r)) o)),
      λ c. (subst (λ l. Contains l d) (sym (made_dependants r)) (are.1 c).0, λ o. (are.1 c).1 (subst (leads plan.edges_out d) (made_name r) o)),
    ))

    -- without the edges that go it is the row of the tables after
    unled_row : (t : Row) → IsUnled plan.edges_out (made_row r) t → IsRow later T t
    unled_row t u =
        let name : r.prefix ≡ t.prefix = sym (u.prefix ∙ made_name r) in
        record {
          prefix = subst IsPrefix name is_prefix;
          pairs = subst (ArePairs later T t.prefix) (sym u.pairs) (subst (λ e. ArePairs later T e (made_row r).pairs) name made_pairs_are);
          looped = u.looped ∙ (looped_is ∙ ap (λ e. map (λ q. looped_kind T e q.kind) (chosen T e)) name);
          met = u.met ∙ (met_is ∙ ap (λ e. map (λ q. kind_met T q.need q.kind) (chosen T e)) name);
          marked = u.marked ∙ (marked_is ∙ ap (marked_list T) name);
          dependants = λ d. (
            λ c. subst (Contains (targets T d)) name ((leads_is d).0 ((u.dependants d).0 c)),
            λ c. (u.dependants d).1 ((leads_is d).1 (subst (Contains (targets T d)) (sym name) c)),
          );
          dependants_once = u.once (subst AllDiffer (sym (made_dependants r)) (dependants_once v.before S T w.after.stands x w.edges plan s refl refl r base));
        }

    unled_rank : (t : Row) → IsUnled plan.edges_out (made_row r) t → t.rank ≡ rank_after v p ranks t.prefix
    unled_rank t u = u.rank ∙ (rank_is ∙ ap (rank_after v p ranks) (sym (u.prefix ∙ made_name r)))

  stays_under : (t : Row) (c : Contains new t) → Contains plan.gone (h.rows t c).1.prefix → ⊥
  stays_under t c g = (let r = h.rows t c in r.0 (subst (Contains plan.gone) (sym (r.3.prefix ∙ made_name r.1)) g))

  pub new_row : (t : Row) → Contains new t → IsRow later T t
  new_row t c = (let r = h.rows t c in unled_row r.1 r.2 (stays_under t c) t r.3)

  new_rank : (e : Prefix) → Contains (entries T) e → rank_of new e ≡ rank_after v p ranks e
  new_rank e c =
      let t = map_from prefix_of new e ((new_entries e).1 c) in
      let r = h.rows t.0 t.1 in
      ap rank_in (row_by new h.used.ordered e t.0 t.1 (sym t.2))
      ∙ (unled_rank r.1 r.2 (stays_under t.0 t.1) t.0 r.3 ∙ ap (rank_after v p ranks) t.2)

  -- ranks fall
  kept_edge : (e t : Prefix) → Kept T e t → Contains (targets T e) t
  unfolding targets
  kept_edge e t k = Contains-flat_map (λ q. kind_targets T e q.kind) (chosen T e) k.0 t k.1 k.3

  new_falls : Falls T (rank_of new)
  new_falls e t k =
      let c = kept_edge e t k in
      subst (λ n. n < rank_of new e) (sym (new_rank t (edge_entry T e t c)))
      (subst (λ n. rank_after v p ranks t < n) (sym (new_rank e (among (entries T) e (targets_from_entries T e t c)))) (w.ranks.falls e t k))

  pub stands_after : (objects : ℕ) → objects ≡ min (size T) (2 ^ 32 - 1) → StandsFor (record { rows = new; lists = later; objects = objects }) T
  stands_after objects are = record {
    sound = w.after.sound;
    ordered = h.used.ordered;
    entries = new_entries;
    rows = new_row;
    falls = new_falls;
    users = λ k c. h.used.used.users k c ∙ named_holders (record { rows = new; lists = later; objects = objects }) T h.used.ordered new_entries
        (λ t d. (new_row t d).pairs) h.used.held k.content;
    objects = are;
  }

  -- the rank that is told of a prefix is that of its row
  rank_told : (e : Prefix) → rank_left T v p ranks e ≡ rank_of new e
  rank_told e = elim (either (has_entry T e)) [
    | inl is ↦ ap (λ b. if b then rank_after v p ranks e else 0) is ∙ sym (new_rank e (among (entries T) e is))
    | inr off ↦ ap (λ b. if b then rank_after v p ranks e else 0) off
        ∙ sym (ap rank_in (no_row new e (λ c. false≢true (sym off ∙ member_of (entries T) e ((new_entries e).0 c)))))
  ]

  pub moved_after : (told : List Moved) → AreMovedBy (rank_of v.before.rows) (rank_left T v p ranks) told → AreMoved v.before.rows new told
  moved_after told are = record {
    once = are.once;
    real = λ m c. ((are.real m c).0, λ is. (are.real m c).1 (rank_told m.prefix ∙ is));
    found = λ e moves. are.found e (λ is. moves (sym (rank_told e) ∙ is));
  }
