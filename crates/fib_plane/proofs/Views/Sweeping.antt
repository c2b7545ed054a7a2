-- What a sweep clears, as the view shows it.
use Rattle.std.proofs.Common.{arith, ◌≡◌, ◌≢◌, ℕ, zero, suc, ◌+◌, ◌*◌, ◌%◌, ◌<◌, ◌≤◌, ◌⊎◌, inl, inr, ⊎_elim, Bool, true, false, ◌||◌, eqb, List, length, map, Option, Some, None, refl, sym, ◌∙◌, ap, subst}
use Rattle.std.specs.Prelude.{Contains}
use Rattle.std.proofs.lemmas.Bool.{false≢true, true≢false, cases_eq}
use Rattle.fib_base_list.proofs.Lists.{either}
use Rattle.fib_union.specs.Unions.{owner, into}
use Rattle.fib_union.proofs.Counts.{counted_has_in}
use Rattle.fib_core.specs.declared.word.Word.{Word}
use Rattle.fib_core.specs.declared.word.Word.TheVariants as words
use Rattle.fib_core.specs.Words.{decoded, is_edge, value_of}
use Rattle.fib_core.specs.Union.{Retired as Copy, IsBucketWord}
use Rattle.fib_core.proofs.Numbers.{goes_of, target_of, owner_of}
use Rattle.fib_core.proofs.Edges.{goes_words}
use Rattle.fib_pool.specs.declared.object.Object.{Object}
use Rattle.fib_pool.specs.declared.object.AdjacencyRecord.{AdjacencyRecord}
use Rattle.fib_pool.specs.Objects.{at, count_in, count_of, free_in}
use Rattle.fib_pool.specs.Objects as pool
use Rattle.fib_pool.proofs.Pools.{live_at}
use Rattle.fib_core_board.specs.Boards.{Board, union_of, word_in}
use Rattle.fib_core_board.proofs.Serving.{hangs_aside}
use Rattle.fib_plane.specs.Planes.{Plane, IsHeld, is_word, filled}
use Rattle.fib_plane.specs.Planes as plane
use Rattle.fib_plane.specs.Sound as sound
use Rattle.fib_plane_view.specs.View.{View, Goes, HasIn, IsLive, IsBalance, IsPlane, IsSwept, Stores, Kinds, leads, is_ply_kind}
use Rattle.fib_plane.specs.Views.{copy_seen, is_ply_at, is_ply_of, is_adjacency_kind, is_adjacency_at, view_of}
use Rattle.fib_plane.proofs.Views.Seeing.{edge_leads, cell_is, cell_down, cell_same, goes_down, goes_up, held_same, live_down}
use Rattle.fib_plane.proofs.Views.Paying.{count_fewer, paid, free_grows}
use Rattle.fib_plane.proofs.Views.Sounding.{sound_of}

pub none_some : {A : Type 0} (x : A) → None ≡ Some x → ⊥
none_some x e = cc

-- other counts: no object is taken or given back
module _ (xs ys : List (Option Object)) (size : length ys ≡ length xs) (none : (o : ℕ) → at ys o ≡ None → at xs o ≡ None) (kinds : (o : ℕ) (y : Object) → at ys o ≡ Some y → (x : Object) × (at xs o ≡ Some x) × (x.kind ≡ y.kind)) where
  by_kind : {A : Type 0} (f : Option Object → A) → ((x y : Object) → x.kind ≡ y.kind → f (Some y) ≡ f (Some x)) → (o : ℕ) → f (at ys o) ≡ f (at xs o)
  by_kind {A} f same o = by_case (at ys o) refl
    where
      by_case : (e : Option Object) → at ys o ≡ e → f (at ys o) ≡ f (at xs o)
      by_case None is = ap f (is ∙ sym (none o is))
      by_case (Some y) is = (let x = kinds o y is in ap f is ∙ (same x.0 y x.2 ∙ sym (ap f x.1)))

  pub ply_kept : (o : ℕ) → is_ply_of ys o ≡ is_ply_of xs o
  ply_kept o = ap (λ (t : Bool). eqb o 0 || t) (by_kind is_ply_at (λ x y e. ap is_ply_kind (sym e)) o)

  pub adjacency_kept : (o : ℕ) → is_adjacency_at (at ys o) ≡ is_adjacency_at (at xs o)
  adjacency_kept o = by_kind is_adjacency_at (λ x y e. ap is_adjacency_kind (sym e)) o

  pub free_kept : free_in ys ≡ free_in xs
  free_kept =
      let a = free_grows ys xs (sym size) none in
      let b = free_grows xs ys size (λ o e. by_case o (at ys o) refl e) in
      omega arith
    where
      by_case : (o : ℕ) (e : Option Object) → at ys o ≡ e → at xs o ≡ None → at ys o ≡ None
      by_case o None is n = is
      by_case o (Some y) is n = (let x = kinds o y is in absurd (none_some x.0 (sym n ∙ x.1)))

-- an edge that is counted is seen
pub into_up : (p : Plane) → sound.IsPlane p → (x : ℕ) → 0 < into (union_of p.board) x → HasIn (view_of p) x
into_up p told x lt =
    let h = counted_has_in (union_of p.board) x lt in
    let g = goes_words p.board.union told.board.hangs.edges h.0 x h.1 in
    let e : is_edge (decoded g.0) ≡ true = sym (goes_of g.0 (decoded g.0) refl) ∙ g.2.0 in
    let v : value_of (decoded g.0) ≡ x = sym (target_of g.0 (decoded g.0) refl) ∙ g.1 in
    (owner h.0, h.0 % 16, decoded g.0, edge_leads (decoded g.0) x e v, goes_up p h.0 g.0 g.2)

-- what an edge to a ply leaves is the root, or an edge leads there
pub ply_leaves : (p : Plane) → sound.IsPlane p → (x s c : ℕ) → Goes (view_of p) x s (words.ToPly c) → (x ≡ 0) ⊎ HasIn (view_of p) x
ply_leaves p told x s c g = elim (cases_eq x 0) [
  | inl top ↦ inl top
  | inr other ↦ by_count (into (union_of p.board) x) refl other
]
  where
    by_count : (n : ℕ) → into (union_of p.board) x ≡ n → x ≢ 0 → (x ≡ 0) ⊎ HasIn (view_of p) x
    by_count zero e other =
        let d = goes_down p x s (words.ToPly c) c refl g in
        let none = hangs_aside p.board x other e told.board.hangs (16 * x + s) d.1 c d.3 d.2 in
        absurd (none.0 (owner_of x s d.0))
    by_count (suc n) e other = inr (into_up p told x (omega arith))

pub in_live : (u : View) (x : ℕ) → HasIn u x → IsLive u x
in_live u x h = inr (inr (inr h))

pub edge_live : (u : View) (x s : ℕ) (w : Word) (y : ℕ) → leads w y → Goes u x s w → IsLive u y
edge_live u x s w y l g = inr (inr (inr (x, s, w, l, g)))

-- where edges only leave and what is in use keeps its kind, what holds of every plane stays
module _ (u : View) (q : Plane) (told : sound.IsPlane q) (fits : Kinds u) (filled_in : (x t : ℕ) → IsBalance u x → t < 16 → IsBucketWord (u.cell x t)) (s : IsSwept u (view_of q)) (held : (y : ℕ) → (view_of q).is_held y ≡ true → u.is_held y ≡ true) (records : (m : AdjacencyRecord) (x : ℕ) → (view_of q).record_of m ≡ Some x → u.record_of m ≡ Some x) where
  abbrev seen : View
  seen = view_of q

  leaving : (x t c : ℕ) → Goes seen x t (words.ToPly c) → seen.is_ply x ≡ true
  leaving x t c g = elim (ply_leaves q told x t c g) [
    | inl top ↦ ap seen.is_ply top
    | inr more ↦ s.kinds x (in_live seen x more) ∙ (fits.ply x t c (s.edges x t c (words.ToPly c) refl g)).0
  ]

  not_held : (o : ℕ) → u.is_held o ≡ false → seen.is_held o ≡ false
  not_held o e = elim (either (seen.is_held o)) [
    | inl h ↦ absurd (true≢false (sym (held o h) ∙ e))
    | inr n ↦ n
  ]

  swept_kinds : Kinds seen
  swept_kinds = record {
    ply = λ x t c g. (leaving x t c g, s.kinds c (edge_live seen x t (words.ToPly c) c refl g) ∙ (fits.ply x t c (s.edges x t c (words.ToPly c) refl g)).1);
    balance = λ x t o g. (let k = fits.balance x t o (s.edges x t o (words.ToBalance o) refl g) in
        (s.kinds o (edge_live seen x t (words.ToBalance o) o refl g) ∙ k.0, λ r. k.1 (r.0, records r.0 o r.1)));
    adjacency = λ x t o g. (let k = fits.adjacency x t o (s.edges x t o (words.ToAdjacency o) refl g) in
        (s.kinds o (edge_live seen x t (words.ToAdjacency o) o refl g) ∙ k.0, not_held o k.1));
  }

  swept_buckets : (x t : ℕ) → IsBalance seen x → t < 16 → IsBucketWord (seen.cell x t)
  swept_buckets x t b lt =
      let live : IsLive seen x = inr (inl b.0) in
      subst IsBucketWord (sym (s.cells x t live)) (filled_in x t (held x b.0, sym (s.kinds x live) ∙ b.1) lt)

  pub sound_kept : IsPlane seen
  sound_kept = sound_of q told swept_kinds swept_buckets

pub sound_swept : (u : View) (q : Plane) → sound.IsPlane q → IsPlane u → IsSwept u (view_of q) → ((y : ℕ) → (view_of q).is_held y ≡ true → u.is_held y ≡ true) → ((m : AdjacencyRecord) (x : ℕ) → (view_of q).record_of m ≡ Some x → u.record_of m ≡ Some x) → IsPlane (view_of q)
sound_swept u q told was s held records = sound_kept u q told was.kinds was.buckets s held records

-- a sweep
module _ (m q : Plane) (s : plane.IsSwept m.board q.board m.objects q.objects) (told : sound.IsPlane q) (size : length q.objects ≡ length m.objects)
    (long : length m.board.union.cells ≡ 16 * length m.objects) (drops : (k : ℕ) → at m.objects (owner k) ≡ None → word_in m.board k ≡ words.Drop) where
  abbrev u : View
  u = view_of m

  abbrev v : View
  v = view_of q

  pub swept_edges : (y t d : ℕ) (z : Word) → leads z d → Goes v y t z → Goes u y t z
  swept_edges y t d z l (inl is) =
      let c = cell_down q.board y t z d l is in
      elim (s.cleared (16 * y + t)) [
        | inl same ↦ inl (cell_is m.board y t c.0 ∙ (sym same ∙ c.1))
        | inr drop ↦ absurd (subst (λ (w : Word). leads w d) (sym c.1 ∙ drop) l)
      ]
  swept_edges y t d z l (inr g) = inr (subst (λ (rs : List Copy). Contains (map copy_seen rs) (record { from = y; slot = t; word = z })) (ap (λ (b : Board). b.union.retired) s.frame) g)

  pub swept_ply : (y : ℕ) → pool.IsLive q.objects y → is_ply_of q.objects y ≡ is_ply_of m.objects y
  swept_ply y live =
      let x = live_at q.objects y live in
      let w = s.taken y x.0 x.1 in
      ap (λ (t : Bool). eqb y 0 || t) (ap is_ply_at x.1 ∙ (ap is_ply_kind (sym w.2) ∙ sym (ap is_ply_at w.1)))

  swept_adjacency : (y : ℕ) → pool.IsLive q.objects y → is_adjacency_at (at q.objects y) ≡ is_adjacency_at (at m.objects y)
  swept_adjacency y live =
      let x = live_at q.objects y live in
      let w = s.taken y x.0 x.1 in
      ap is_adjacency_at x.1 ∙ (ap is_adjacency_kind (sym w.2) ∙ sym (ap is_adjacency_at w.1))

  gone_free : (o : ℕ) → at m.objects o ≡ None → at q.objects o ≡ None
  gone_free o none = by_case (at q.objects o) refl
    where
      by_case : (e : Option Object) → at q.objects o ≡ e → at q.objects o ≡ None
      by_case None is = is
      by_case (Some y) is = (let x = s.taken o y is in absurd (none_some x.0 (sym none ∙ x.1)))

  live_cell : (o t : ℕ) → t < 16 → pool.IsLive q.objects o → word_in q.board (16 * o + t) ≡ word_in m.board (16 * o + t)
  live_cell o t lt live = s.cells (16 * o + t) (subst (λ (i : ℕ). pool.IsLive q.objects i) (sym (owner_of o t lt)) live)

  pub swept_seen : m.spare ≤ q.spare → IsSwept u v
  swept_seen spare = record {
    cells = λ y t live. cell_same m.board q.board y t (λ lt. live_cell y t lt (live_down q told y live));
    edges = swept_edges;
    kinds = λ y live. swept_ply y (live_down q told y live);
    free = free_grows m.objects q.objects size gone_free;
    spare = spare;
  }

  pub swept_held : (y : ℕ) → v.is_held y ≡ u.is_held y
  swept_held y = (let e = s.holds y in held_same m.board q.board m.objects q.objects y (λ h. omega arith) (λ h. omega arith) (λ h. swept_adjacency y (omega arith)))

  -- an adjacency that is held was one that was held
  pub swept_adjacencies : (y : ℕ) → is_adjacency_at (at q.objects y) ≡ true → IsHeld q.board q.objects y → (is_adjacency_at (at m.objects y) ≡ true) × IsHeld m.board m.objects y
  swept_adjacencies y is h = (let e = s.holds y in (sym (swept_adjacency y (omega (arith, h))) ∙ is, omega (arith, e, h)))

  -- each store of the sweep cleared a cell of what became free
  cells_paid : filled m.board + 16 * free_in m.objects ≤ filled q.board + 16 * free_in q.objects
  unfolding filled free_in
  cells_paid = paid (λ n. is_word (decoded n)) 0 m.objects q.objects m.board.union.cells q.board.union.cells size long (let a = told.board.long in let b = told.size in omega arith)
      (λ o t lt. by_case o t lt (at q.objects o) refl)
      (λ o t lt none. ap is_word (drops (16 * o + t) (ap (at m.objects) (owner_of o t lt) ∙ none)))
      gone_free
    where
      by_case : (o t : ℕ) → t < 16 → (e : Option Object) → at q.objects o ≡ e → (at q.objects o ≡ None) ⊎ (is_word (word_in q.board (16 * o + t)) ≡ is_word (word_in m.board (16 * o + t)))
      by_case o t lt None is = inl is
      by_case o t lt (Some y) is =
          let some = told.taken o y is in
          let n : count_of q.objects o ≡ y.count = ap count_in is in
          inr (ap is_word (live_cell o t lt (omega arith)))

  cells_fewer : filled q.board ≤ filled m.board
  unfolding filled
  cells_fewer = count_fewer (λ n. is_word (decoded n)) 0 m.board.union.cells q.board.union.cells (let a = told.board.long in let b = told.size in omega arith)
      (λ k lt h. ⊎_elim (λ (same : word_in q.board k ≡ word_in m.board k). ap is_word (sym same) ∙ h) (λ (drop : word_in q.board k ≡ words.Drop). absurd (false≢true (sym (ap is_word drop) ∙ h))) (s.cleared k))

  pub swept_stores : Stores u v 0
  swept_stores = (let e = s.stored in let a = cells_paid in let b = cells_fewer in record { more = omega arith; few = omega arith })
