-- Adjacencies that the control plane holds are records'.
use Rattle.std.proofs.Common.{◌≡◌, ℕ, inl, inr, Bool, true, false, not, ◌&&◌, Option, Some, None, refl, sym, ap, ◌∙◌, arith}
use Rattle.std.specs.Prelude.{is_some}
use Rattle.std.proofs.lemmas.Bool.{cases_eq, cases_lt, lt-ltb}
use Rattle.std.proofs.Common.{ne_eqb, ltb}
use Rattle.fib_base_list.proofs.Lists.{either}
use Rattle.fib_base_interned.specs.Interned.{Kept, kept_of}
use Rattle.fib_union.specs.Unions.{into}
use Rattle.fib_pool.specs.declared.object.AdjacencyRecord.{AdjacencyRecord}
use Rattle.fib_pool.specs.Objects.{at, count_of}
use Rattle.fib_pool.specs.Objects as pool
use Rattle.fib_core_board.specs.Boards.{union_of}
use Rattle.fib_plane.specs.Planes.{Plane}
use Rattle.fib_plane.specs.Sound as sound
use Rattle.fib_plane_view.specs.View.{IsLive}
use Rattle.fib_plane.specs.Views.{AreRecorded, is_adjacency_at, view_of}
use Rattle.fib_plane.proofs.Views.Interning.{record_up}
use Rattle.fib_plane.proofs.Views.Sweeping.{into_up}

-- what is counted is in use as the users of the plane see it
pub counted_seen : (p : Plane) → sound.IsPlane p → AreRecorded p → (o : ℕ) → pool.IsLive p.objects o → IsLive (view_of p) o
counted_seen p told all o counted = elim (cases_eq o 0) [
  | inl root ↦ inl root
  | inr other ↦ elim (cases_lt (into (union_of p.board) o) (count_of p.objects o)) [
    | inl held ↦ elim (either (is_adjacency_at (at p.objects o))) [
      | inl adjacency ↦ by_row (kept_of p.records o) refl (all o adjacency held)
      | inr not_one ↦ inr (inl (
          ap (λ (t : Bool). not t && (ltb (into (union_of p.board) o) (count_of p.objects o) && not (is_adjacency_at (at p.objects o)))) (ne_eqb o 0 other)
          ∙ ap (λ (t : Bool). t && not (is_adjacency_at (at p.objects o))) (lt-ltb (into (union_of p.board) o) (count_of p.objects o) held)
          ∙ ap not not_one))
    ]
    | inr led ↦ inr (inr (inr (into_up p told o (omega (arith, led, counted)))))
  ]
]
  where
    by_row : (e : Option (Kept AdjacencyRecord)) → kept_of p.records o ≡ e → is_some (kept_of p.records o) ≡ true → IsLive (view_of p) o
    by_row None row some = absurd (let bad : false ≡ true = sym (ap is_some row) ∙ some in cc)
    by_row (Some k) row some = inr (inr (inl (k.content, record_up p.records told.interned o k row)))
