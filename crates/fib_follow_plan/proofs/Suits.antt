-- The plan suits the rows of before.
use Rattle.std.proofs.Common.{◌≡◌, ℕ, not, Bool, true, false, List, [], ◌∷◌, map, Option, Some, None, ◌⊎◌, inl, inr, refl, sym, ◌∙◌, ap, subst}
use Rattle.std.specs.Prelude.{Contains, filter}
use Rattle.std.proofs.lemmas.Bool.{false≢true}
use Rattle.fib_base_list.proofs.Booleans.{and_both}
use Rattle.fib_base_list.proofs.Lists.{either}
use Rattle.fib_addr.specs.Prefixes.{Prefix, same_prefix}
use Rattle.fib_addr.proofs.PrefixLaws.{same_prefix-Decides}
use Rattle.fib_cover.specs.Covers.{IsAscending}
use Rattle.fib_reach.specs.Walks.{AllDiffer}
use Rattle.fib_resolve.proofs.Covering.{filter_from, filter_in}
use Rattle.fib_resolve_changes.proofs.Edits.{any_in}
use Rattle.fib_resolve_changes.proofs.SamePairs.{map_from, map_in}
use Rattle.fib_entries_rows.specs.Known.{prefix_of, row_of}
use Rattle.fib_entries_rows.specs.Rows.{Row}
use Rattle.fib_entries_rows.proofs.Standing.{find_missed, row_there}
use Rattle.fib_entries_rows.proofs.Touches.{ascending_differ}
use Rattle.fib_follow_view.specs.Views.{Seen, anew_prefix}
use Rattle.fib_follow_view.specs.inner.Told.{is_row}
use Rattle.fib_follow_view.specs.declared.view.Anew.{Anew}
use Rattle.fib_follow_part.specs.Parts.{Part}
use Rattle.fib_follow_told.specs.declared.body.Body.{Body}
use Rattle.fib_follow_told.specs.declared.edges.Edges.{Edges}
use Rattle.fib_follow_told.proofs.Gathering.{map_differ}
use Rattle.fib_follow_write.specs.Plans.{IsPlan}
use Rattle.fib_follow_write.specs.Written.{AreNew, paired_prefix}
use Rattle.fib_follow_write.specs.declared.plan.Edge.{Edge}
use Rattle.fib_follow_write.specs.declared.plan.Marks.{Marks}
use Rattle.fib_follow_write.specs.declared.plan.Paired.{Paired}
use Rattle.fib_follow_plan.specs.Made.{comes, edge_of, goes, has_pairs, is_fresh, leads_in, marks_of, paired_of, plan_of}
use Rattle.fib_follow_view.proofs.Told.{map_map}
use Rattle.fib_follow_plan.proofs.Picked.{one_of, picked_differ}

not_both : (b : Bool) → b ≡ true → not b ≡ true → ⊥
not_both true is isnt = false≢true isnt
not_both false is isnt = false≢true is

is_not : (b : Bool) → b ≡ false → not b ≡ true
is_not b is = ap not is

edge_own : (x y : Prefix × Prefix) → edge_of x ≡ edge_of y → x ≡ y
edge_own x y is = ap (λ (z : Edge). (z.from, z.to)) is

filter_once : {X : Type 0} (test : X → Bool) (xs : List X) → AllDiffer xs → AllDiffer (filter test xs)
filter_once test xs d = subst AllDiffer (map_self (filter test xs)) (picked_differ (λ x. x) test xs (subst AllDiffer (sym (map_self xs)) d))
  where
    map_self : {X : Type 0} (xs : List X) → map (λ x. x) xs ≡ xs
    map_self [] = refl
    map_self (x ∷ xs) = ap (λ l. x ∷ l) (map_self xs)

module _ (rows : List Row) (changed : List Anew) (ordered : IsAscending (map prefix_of rows)) (ascend : IsAscending (map anew_prefix changed)) where
  once : AllDiffer (map anew_prefix changed)
  once = ascending_differ (map anew_prefix changed) ascend

  -- a prefix of the rows has a row
  row_is : (p : Prefix) → Contains (map prefix_of rows) p → is_row (row_of rows p) ≡ true
  row_is p c = by (row_of rows p) refl
    where
      by : (o : Option Row) → row_of rows p ≡ o → is_row o ≡ true
      by (Some r) is = refl
      by None is =
          let m = map_from prefix_of rows p c in
          absurd (find_missed (λ z. same_prefix p z.prefix) rows m.0 m.1 ((same_prefix-Decides p m.0.prefix).1 (sym m.2)) is)

  row_has : (p : Prefix) → is_row (row_of rows p) ≡ true → Contains (map prefix_of rows) p
  row_has p is = by (row_of rows p) refl is
    where
      by : (o : Option Row) → row_of rows p ≡ o → is_row o ≡ true → Contains (map prefix_of rows) p
      by None at h = absurd (false≢true h)
      by (Some r) at h = (let t = row_there rows p r at in subst (Contains (map prefix_of rows)) (sym t.1) (map_in prefix_of rows r t.0))

  pub came_is_new : (p : Prefix) → Contains (map anew_prefix (filter (comes rows) changed)) p → Contains (map prefix_of rows) p → ⊥
  came_is_new p c there =
      let m = map_from anew_prefix (filter (comes rows) changed) p c in
      let f = filter_from (comes rows) changed m.0 m.1 in
      let both = and_both (has_pairs m.0) (not (is_row (row_of rows m.0.prefix))) f.1 in
      not_both (is_row (row_of rows m.0.prefix)) (subst (λ q. is_row (row_of rows q) ≡ true) (sym m.2) (row_is p there)) both.1

  -- a prefix that gets pairs is one of what was made anew
  paired_at : (p : Prefix) → Contains (map paired_prefix (map paired_of (filter has_pairs changed))) p
      → (x : Anew) × Contains changed x × (has_pairs x ≡ true) × (x.prefix ≡ p)
  paired_at p c =
      let m = map_from anew_prefix (filter has_pairs changed) p (subst (λ l. Contains l p) (map_map paired_of paired_prefix (filter has_pairs changed)) c) in
      let f = filter_from has_pairs changed m.0 m.1 in
      (m.0, f.0, f.1, m.2)

  pub paired_is_there : (p : Prefix) → Contains (map paired_prefix (map paired_of (filter has_pairs changed))) p
      → Contains (map prefix_of rows) p ⊎ Contains (map anew_prefix (filter (comes rows) changed)) p
  paired_is_there p c = (
      let a = paired_at p c in
      elim (either (is_row (row_of rows a.0.prefix))) [
        | inl is ↦ inl (subst (Contains (map prefix_of rows)) a.3 (row_has a.0.prefix is))
        | inr isnt ↦ inr (subst (Contains (map anew_prefix (filter (comes rows) changed))) a.3
            (map_in anew_prefix (filter (comes rows) changed) a.0 (filter_in (comes rows) changed a.0 a.1 (rw a.2 (is_not (is_row (row_of rows a.0.prefix)) isnt)))))
      ]
      )

  pub paired_stays : (p : Prefix) → Contains (map paired_prefix (map paired_of (filter has_pairs changed))) p
      → Contains (map anew_prefix (filter goes changed)) p → ⊥
  paired_stays p c k =
      let a = paired_at p c in
      let m = map_from anew_prefix (filter goes changed) p k in
      let f = filter_from goes changed m.0 m.1 in
      let same = one_of anew_prefix changed once a.0 m.0 a.1 f.0 (a.3 ∙ sym m.2) in
      not_both (has_pairs m.0) (subst (λ z. has_pairs z ≡ true) same a.2) f.1

  -- the row of an edge's target that isn't there yet lacks its source
  pub fresh_new : (come : List (Prefix × Prefix)) → AllDiffer come → AreNew rows (map edge_of (filter (is_fresh rows) come))
  fresh_new come differ = record {
    once = map_differ edge_of (filter (is_fresh rows) come) edge_own (filter_once (is_fresh rows) come differ);
    absent = λ e r c there to has.
        let m = map_from edge_of (filter (is_fresh rows) come) e c in
        let f = filter_from (is_fresh rows) come m.0 m.1 in
        let at : e.to ≡ m.0.1 = ap (λ (z : Edge). z.to) (sym m.2) in
        let from : e.from ≡ m.0.0 = ap (λ (z : Edge). z.from) (sym m.2) in
        not_both (leads_in (row_of rows m.0.1) m.0.0) (subst (λ q. leads_in (row_of rows q) m.0.0 ≡ true) at
        (led_row e.to r there to m.0.0 (subst (Contains r.dependants) from has))) f.1;
  }
    where
      led_row : (p : Prefix) (r : Row) → Contains rows r → p ≡ r.prefix → (d : Prefix) → Contains r.dependants d → leads_in (row_of rows p) d ≡ true
      led_row p r there to d has = by (row_of rows p) refl
        where
          by : (o : Option Row) → row_of rows p ≡ o → leads_in o d ≡ true
          by None is = absurd (find_missed (λ z. same_prefix p z.prefix) rows r there ((same_prefix-Decides p r.prefix).1 to) is)
          by (Some s) is =
              let t = row_there rows p s is in
              let one = one_of prefix_of rows (ascending_differ (map prefix_of rows) ordered) r s there t.0 (sym to ∙ t.1) in
              any_in (same_prefix d) s.dependants d (subst (λ (z : Row). Contains z.dependants d) one has) ((same_prefix-Decides d d).1 refl)

pub suits : (v : Seen) (p : Part) (ranks : List ℕ) (bodies : List Body) (x : Edges) → IsAscending (map prefix_of v.before.rows)
    → IsAscending (map anew_prefix v.changed) → AllDiffer x.come → IsPlan v.before.rows (plan_of v p ranks bodies x)
suits v p ranks bodies x ordered ascend differ =
    let all = ascending_differ (map anew_prefix v.changed) ascend in
    record {
      came_once = picked_differ anew_prefix (comes v.before.rows) v.changed all;
      came_new = came_is_new v.before.rows v.changed ordered ascend;
      paired_once = subst AllDiffer (sym (map_map paired_of paired_prefix (filter has_pairs v.changed))) (picked_differ anew_prefix has_pairs v.changed all);
      paired_there = paired_is_there v.before.rows v.changed ordered ascend;
      paired_stay = paired_stays v.before.rows v.changed ordered ascend;
      gone_once = picked_differ anew_prefix goes v.changed all;
      edges_new = fresh_new v.before.rows v.changed ordered ascend x.come differ;
    }

-- so does one of equal parts
pub suits_made : (v : Seen) (p : Part) (ranks : List ℕ) (bodies : List Body) (x : Edges) (came gone : List Prefix) (paired : List Paired) (marks : List Marks)
    (into out : List Edge) → came ≡ map anew_prefix (filter (comes v.before.rows) v.changed) → gone ≡ map anew_prefix (filter goes v.changed)
    → paired ≡ map paired_of (filter has_pairs v.changed) → marks ≡ map (marks_of v p ranks) bodies
    → into ≡ map edge_of (filter (is_fresh v.before.rows) x.come) → out ≡ map edge_of x.go → IsPlan v.before.rows (plan_of v p ranks bodies x)
    → IsPlan v.before.rows (record { came = came; paired = paired; marks = marks; gone = gone; edges_in = into; edges_out = out })
suits_made v p ranks bodies x came gone paired marks into out a g b m i o h = rw (a, g, b, m, i, o) h
