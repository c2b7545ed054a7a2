-- A fresh plane has no edge.
use Rattle.std.proofs.Common.{inl, inr, ◌≡◌, ℕ, ◌+◌, ◌*◌, ◌<◌, false, true≢false, List, [], length, Option, None, refl, sym, ◌∙◌, ap, subst, arith, get_or-set_same, get_or-set_other}
use Rattle.std.specs.Prelude.{replicate, slice_index}
use Rattle.std.proofs.lemmas.Bool.{cases_eq, cases_lt}
use Rattle.std.proofs.lemmas.List.{get_or-replicate, get_or_past, length-replicate}
use Rattle.fib_pool.specs.declared.object.Kind.TheVariants as kinds
use Rattle.fib_pool.specs.declared.object.Object.{Object}
use Rattle.fib_pool.specs.Objects.{as_new, at, count_in, count_of, fresh_objects}
use Rattle.fib_core.specs.declared.word.Word.{Word}
use Rattle.fib_core.specs.declared.word.Word.TheVariants as words
use Rattle.fib_core.specs.Words.{decoded, goes}
use Rattle.fib_core.specs.Union as core
use Rattle.fib_core.specs.Union.{Union, IsBucketWord}
use Rattle.fib_core.proofs.Numbers.{zeros, decoded-zero, goes-zero}
use Rattle.fib_core_board.specs.Boards.{Board, IsFresh, union_of}
use Rattle.fib_plane.specs.Planes.{Plane}
use Rattle.fib_plane.specs.Sound as sound
use Rattle.fib_plane_view.specs.View.{Goes, IsPlane, leads}
use Rattle.fib_base_interned.specs.Interned.{Kept}
use Rattle.fib_base_list.proofs.Lists.{either}
use Rattle.fib_pool.specs.declared.object.AdjacencyRecord.{AdjacencyRecord}
use Rattle.fib_core_rule.specs.Steady.{versions}
use Rattle.fib_union.specs.Unions.{into}
use Rattle.fib_plane.specs.Views.{AreRecorded, IsBare, is_adjacency_at, is_alone, promise_of, users_of_record, view_of}
use Rattle.fib_plane.proofs.Views.Seeing.{cell_is, goes_down, held_down}
use Rattle.fib_plane.proofs.Views.Sounding.{sound_of}

module _ (p : Plane) (b : Board) (told : sound.IsPlane p) (fresh : IsFresh b) (is : p.board ≡ b) where
  abbrev none : Union
  none = record { cells = replicate (16 * b.objects) 0; retired = [] }

  union_is : p.board.union ≡ none
  union_is = ap (λ (c : Board). c.union) is ∙ ap (λ (c : Board). c.union) fresh.fresh

  no_goes : (k n : ℕ) → core.Goes none k n → ⊥
  no_goes k n (going, inl e) = true≢false (sym going ∙ (ap goes (sym e ∙ zeros (16 * b.objects) k) ∙ goes-zero))
  no_goes k n (going, inr a) = elim a [ ]

  no_edge : (x s : ℕ) (w : Word) (y : ℕ) → leads w y → Goes (view_of p) x s w → ⊥
  no_edge x s w y l g = (let d = goes_down p x s w y l g in no_goes (16 * x + s) d.1 (subst (λ (u : Union). core.Goes u (16 * x + s) d.1) union_is d.3))

  pub fresh_sound : IsPlane (view_of p)
  fresh_sound = sound_of p told (record {
    ply = λ x s c g. absurd (no_edge x s (words.ToPly c) c refl g);
    balance = λ x s c g. absurd (no_edge x s (words.ToBalance c) c refl g);
    adjacency = λ x s c g. absurd (no_edge x s (words.ToAdjacency c) c refl g);
  }) (λ x s bal lt. subst IsBucketWord (sym (cell_is p.board x s lt ∙ (ap (λ (u : Union). decoded (slice_index u.cells (16 * x + s))) union_is ∙ (ap decoded (zeros (16 * b.objects) (16 * x + s)) ∙ decoded-zero)))) tt)

-- and no adjacency
pub none_free : (n o : ℕ) → at (replicate n None) o ≡ None
none_free n o = elim (cases_lt o n) [
  | inl lt ↦ get_or-replicate n o None None lt
  | inr ge ↦ get_or_past (replicate n None) o None (let l : length (replicate {A = Option Object} n None) ≡ n = length-replicate n None in omega (arith, l, ge))
]

none_yet : (n o : ℕ) → 0 < n → is_adjacency_at (at (fresh_objects n) o) ≡ false
none_yet n o some = elim (cases_eq o 0) [
  | inl same ↦ ap (λ (i : ℕ). is_adjacency_at (at (fresh_objects n) i)) same
      ∙ ap is_adjacency_at (get_or-set_same (replicate n None) 0 (as_new kinds.Ply) None (let l : length (replicate {A = Option Object} n None) ≡ n = length-replicate n None in omega (arith, l, some)))
  | inr ne ↦ ap is_adjacency_at (get_or-set_other (replicate n None) 0 o (as_new kinds.Ply) None ne ∙ none_free n o)
]

pub fresh_recorded : (p : Plane) (n : ℕ) → 0 < n → p.objects ≡ fresh_objects n → AreRecorded p
fresh_recorded p n some is o adjacency held = absurd (true≢false (sym adjacency ∙ ap (λ (xs : List (Option Object)). is_adjacency_at (at xs o)) is ∙ none_yet n o some))

none_held : (p : Plane) (n : ℕ) → p.objects ≡ fresh_objects n → (x : ℕ) → (view_of p).is_held x ≡ false
none_held p n is x = elim (either ((view_of p).is_held x)) [
  | inl h ↦ absurd (
      let d = held_down p.board p.objects x h in
      let none : count_of p.objects x ≡ 0 = ap (λ (xs : List (Option Object)). count_of xs x) is
      ∙ ap count_in (get_or-set_other (replicate n None) 0 x (as_new kinds.Ply) None d.0 ∙ none_free n x) in
      let more : into (union_of p.board) x < count_of p.objects x = d.1 in
      omega (arith, none, more))
  | inr none ↦ none
]

-- so it is bare
pub fresh_bare : (p : Plane) (b : Board) → sound.IsPlane p → IsFresh b → p.board ≡ b → (n : ℕ) → p.objects ≡ fresh_objects n → p.records ≡ [] → IsBare (promise_of p.board) (view_of p)
fresh_bare p b told fresh is n objects records =
    let whole = is ∙ fresh.fresh in
    record {
      first = (ap (λ (c : Board). c.log.version.applied) whole, ap (λ (c : Board). c.log.version.settled) whole);
      alone = ap is_alone whole;
      versions = ap (λ (c : Board). versions c.log) whole;
      root = refl;
      held = none_held p n objects;
      edges = λ x s y w l g. no_edge p b told fresh is x s w y l g;
      users = λ m. ap (λ (rows : List (Kept AdjacencyRecord)). users_of_record rows m) records;
    }
