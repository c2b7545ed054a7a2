-- The marks and the rank of a row after: those of its body, or those that it had.
use Rattle.std.proofs.Common.{◌≡◌, ℕ, List, map, refl, sym, ◌∙◌, subst}
use Rattle.std.specs.Prelude.{Contains}
use Rattle.fib_addr.specs.Prefixes.{Prefix}
use Rattle.fib_reach.specs.Walks.{AllDiffer}
use Rattle.fib_resolve.specs.declared.types.Tables.{Tables}
use Rattle.fib_resolve_changes.proofs.SamePairs.{map_from, map_in}
use Rattle.fib_entries_rows.specs.Rows.{Row}
use Rattle.fib_follow_view.specs.Views.{Seen}
use Rattle.fib_follow_view.proofs.Told.{map_map}
use Rattle.fib_follow_part.specs.Parts.{Part}
use Rattle.fib_follow_told.specs.Told.{AreBodies, body_prefix}
use Rattle.fib_follow_told.specs.declared.body.Body.{Body}
use Rattle.fib_follow_write.specs.Written.{changed, marked, with_marks}
use Rattle.fib_follow_write.specs.declared.plan.Marks.{Marks}
use Rattle.fib_follow_plan.specs.Made.{marks_of}
use Rattle.fib_follow_plan.proofs.Stepped.{changed_off, changed_own}

module _ (v : Seen) (T : Tables) (p : Part) (ranks : List ℕ) (list : List Prefix) (bodies : List Body) (are : AreBodies T list bodies) where
  marks_names : map (λ (m : Marks). m.prefix) (map (marks_of v p ranks) bodies) ≡ list
  marks_names = map_map (marks_of v p ranks) (λ (m : Marks). m.prefix) bodies ∙ are.prefixes

  -- each prefix of the list has a body
  pub body_at : (e : Prefix) → Contains list e → (b : Body) × Contains bodies b × (b.prefix ≡ e)
  body_at e c = map_from body_prefix bodies e (subst (λ l. Contains l e) (sym are.prefixes) c)

  pub marked_own : {Y : Type 0} (get : Row → Y) (of : Marks → Y) → ((m : Marks) (r : Row) → get (with_marks m r) ≡ of m) → AllDiffer list
      → (r : Row) (b : Body) → Contains bodies b → b.prefix ≡ r.prefix → get (changed marked (map (marks_of v p ranks) bodies) r) ≡ of (marks_of v p ranks b)
  marked_own get of gives once r b c own = changed_own (λ (m : Marks). m.prefix) with_marks (λ m q. refl) get of gives
      (map (marks_of v p ranks) bodies) r (marks_of v p ranks b) (subst AllDiffer (sym marks_names) once) (map_in (marks_of v p ranks) bodies b c) own

  pub marked_off : (r : Row) → (Contains list r.prefix → ⊥) → changed marked (map (marks_of v p ranks) bodies) r ≡ r
  marked_off r off = changed_off (λ (m : Marks). m.prefix) with_marks (λ m q. refl) (map (marks_of v p ranks) bodies) r
      (λ c. off (subst (λ l. Contains l r.prefix) marks_names c))
