-- The dependants of a row after: who has an edge to it in the tables after.
use Rattle.std.proofs.Common.{◌≡◌, true, not, List, map, filter, Option, Some, None, inl, inr, refl, sym, ◌∙◌, ap, subst, ◌↔◌}
use Rattle.std.specs.Prelude.{Contains}
use Rattle.std.specs.Set.{is_member}
use Rattle.std.proofs.lemmas.Bool.{false≢true}
use Rattle.fib_base_list.proofs.Lists.{either, Contains-nil}
use Rattle.fib_addr.specs.Prefixes.{Prefix, same_prefix}
use Rattle.fib_reach.specs.Walks.{AllDiffer}
use Rattle.fib_resolve.specs.Loops.{targets}
use Rattle.fib_resolve.specs.declared.types.Tables.{Tables}
use Rattle.fib_resolve.proofs.Covering.{filter_from, filter_in}
use Rattle.fib_resolve_changes.proofs.SamePairs.{map_from, map_in}
use Rattle.fib_resolve_changes.proofs.Targets.{edge_entry}
use Rattle.fib_entries_rows.specs.Known.{Known, StandsFor, row_of}
use Rattle.fib_entries_rows.specs.Rows.{Row}
use Rattle.fib_entries_rows.proofs.Standing.{row_there}
use Rattle.fib_follow_part.proofs.Parting.{among, member_of}
use Rattle.fib_follow_told.specs.Told.{AreEdges}
use Rattle.fib_follow_told.specs.declared.edges.Edges.{Edges}
use Rattle.fib_follow_write.specs.Plans.{IsBase, IsPlan}
use Rattle.fib_follow_write.specs.Written.{changed, led, leads}
use Rattle.fib_follow_write.specs.declared.plan.Edge.{Edge}
use Rattle.fib_follow_write.specs.declared.writing.Plan.{Plan}
use Rattle.fib_follow_plan.specs.Made.{edge_of, is_fresh, leads_in}
use Rattle.fib_follow_plan.proofs.Stepped.{led_all, led_once}

leads_to : (l : List (Prefix × Prefix)) (d q : Prefix) → Contains l (d, q) → leads (map edge_of l) d q
leads_to l d q c = map_in edge_of l (d, q) c

leads_from : (l : List (Prefix × Prefix)) (d q : Prefix) → leads (map edge_of l) d q → Contains l (d, q)
leads_from l d q c = (let t = map_from edge_of l (record { from = d; to = q }) c in subst (Contains l) (ap (λ (e : Edge). (e.from, e.to)) t.2) t.1)

module _ (v : Known) (S T : Tables) (k : StandsFor v S) (x : Edges) (are : AreEdges S T x) where
  -- an edge that comes isn't there
  fresh : (d e : Prefix) → Contains x.come (d, e) → is_fresh v.rows (d, e) ≡ true
  fresh d e c = elim (either (leads_in (row_of v.rows e) d)) [
    | inr off ↦ ap not off
    | inl is ↦ absurd (((are.come d e).0 c).1 (there (row_of v.rows e) refl is))
  ]
    where
      there : (o : Option Row) → row_of v.rows e ≡ o → leads_in o d ≡ true → Contains (targets S d) e
      there None at is = absurd (false≢true is)
      there (Some r) at is = (let t = row_there v.rows e r at in
          subst (Contains (targets S d)) (sym t.1) (((k.rows r t.0).dependants d).0 (among r.dependants d is)))

  -- what the rows of before and those that come have as dependants
  module _ (plan : Plan) (s : IsPlan v.rows plan) (coming : plan.edges_in ≡ map edge_of (filter (is_fresh v.rows) x.come))
      (going : plan.edges_out ≡ map edge_of x.go) (r : Row) (base : IsBase v.rows plan r) where
    had : (d : Prefix) → Contains r.dependants d ↔ Contains (targets S d) r.prefix
    had d = elim base [
      | inl was ↦ (k.rows r was).dependants d
      | inr new ↦ (
        λ c. absurd (Contains-nil d (subst (λ (z : Row). Contains z.dependants d) new.1 c)),
        λ c. absurd (s.came_new r.prefix new.0 ((k.entries r.prefix).1 (edge_entry S d r.prefix c))),
      )
    ]

    pub dependants_are : (d : Prefix) → (Contains (changed led plan.edges_in r).dependants d × (leads plan.edges_out d r.prefix → ⊥))
        ↔ Contains (targets T d) r.prefix
    dependants_are d = (forth, back)
      where
        forth : Contains (changed led plan.edges_in r).dependants d × (leads plan.edges_out d r.prefix → ⊥) → Contains (targets T d) r.prefix
        forth c = elim ((led_all plan.edges_in r d).0 c.0) [
          | inl was ↦ elim (either (is_member same_prefix (targets T d) r.prefix)) [
            | inl is ↦ among (targets T d) r.prefix is
            | inr off ↦ absurd (c.1 (subst (λ l. leads l d r.prefix) (sym going) (leads_to x.go d r.prefix ((are.go d r.prefix).1 (
              (had d).0 was,
              λ t. false≢true (sym off ∙ member_of (targets T d) r.prefix t),
            )))))
          ]
          | inr new ↦ ((are.come d r.prefix).0 (filter_from (is_fresh v.rows) x.come (d, r.prefix)
              (leads_from (filter (is_fresh v.rows) x.come) d r.prefix (subst (λ l. leads l d r.prefix) coming new))).0).0
        ]

        back : Contains (targets T d) r.prefix → Contains (changed led plan.edges_in r).dependants d × (leads plan.edges_out d r.prefix → ⊥)
        back c = (
          (led_all plan.edges_in r d).1 (elim (either (is_member same_prefix (targets S d) r.prefix)) [
            | inl is ↦ inl ((had d).1 (among (targets S d) r.prefix is))
            | inr off ↦ (let comes = (are.come d r.prefix).1 (c, λ t. false≢true (sym off ∙ member_of (targets S d) r.prefix t)) in
                inr (subst (λ l. leads l d r.prefix) (sym coming) (leads_to (filter (is_fresh v.rows) x.come) d r.prefix
                (filter_in (is_fresh v.rows) x.come (d, r.prefix) comes (fresh d r.prefix comes)))))
          ]),
          λ o. ((are.go d r.prefix).0 (leads_from x.go d r.prefix (subst (λ l. leads l d r.prefix) going o))).1 c,
        )

    pub dependants_once : AllDiffer (changed led plan.edges_in r).dependants
    dependants_once = elim base [
      | inl was ↦ led_once plan.edges_in r s.edges_new.once (k.rows r was).dependants_once (λ e c to d. s.edges_new.absent e r c was to d)
      | inr new ↦ led_once plan.edges_in r s.edges_new.once (subst (λ (z : Row). AllDiffer z.dependants) (sym new.1) tt)
          (λ e c to d. Contains-nil e.from (subst (λ (z : Row). Contains z.dependants e.from) new.1 d))
    ]
