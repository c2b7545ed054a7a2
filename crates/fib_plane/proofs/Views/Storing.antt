-- A store by the view, before what it frees is cleared.
use Rattle.std.proofs.Common.{arith, ◌≡◌, ◌≢◌, ℕ, zero, suc, ◌+◌, ◌*◌, ◌%◌, ◌<◌, ◌⊎◌, inl, inr, ⊎_elim, Bool, true, false, ◌&&◌, List, ◌∷◌, length, map, Some, refl, sym, ◌∙◌, ap, subst}
use Rattle.std.specs.Prelude.{Contains, slice_index}
use Rattle.std.proofs.lemmas.Bool.{true≢false, cases_eq}
use Rattle.fib_base_interned.proofs.Finding.{some_is, none_some}
use Rattle.fib_reach.specs.Walks.{Leads}
use Rattle.fib_reach.proofs.Walking.{leads-map}
use Rattle.fib_union.specs.Unions as edges
use Rattle.fib_union.specs.Unions.{owner}
use Rattle.fib_union.proofs.Counts.{retire_iff}
use Rattle.fib_core.specs.declared.word.Word.{Word}
use Rattle.fib_core.specs.declared.word.Word.TheVariants as words
use Rattle.fib_core.specs.Words.{IsRoomy, decoded, encoded, goes, is_edge, value_of}
use Rattle.fib_core.specs.Union.{Retired as Copy, IsBucketWord, IsPlyWord, must_retire, retire_if}
use Rattle.fib_core.proofs.Numbers.{decoded_encoded, goes_of, owner_of, target_of}
use Rattle.fib_core.proofs.Edges.{goes_words}
use Rattle.fib_core.proofs.Unions.{goes_edges}
use Rattle.fib_core_lawful.specs.State.{fresh_marks}
use Rattle.fib_core_board.specs.Boards.{Board, as_control, board_stored, edge_of, union_of}
use Rattle.fib_core_board.proofs.Serving.{edge_none, edge_some}
use Rattle.fib_plane.specs.Planes.{Plane}
use Rattle.fib_plane.specs.Puts as plane
use Rattle.fib_plane.specs.Sound as sound
use Rattle.fib_plane.proofs.Boarding.{word_other, word_same}
use Rattle.fib_plane_view.specs.declared.put.Put.{Put}
use Rattle.fib_plane_view.specs.declared.put.Put.TheVariants as puts
use Rattle.fib_plane_view.specs.View.{View, Retired, Closes, Edge, Goes, HasIn, HasKind, IsBalance, IsPlane, IsPut, Answered, Kinds, copy_at, leads}
use Rattle.fib_plane.specs.Views.{cell_in, copy_seen, view_of}
use Rattle.fib_plane.proofs.Views.Seeing.{cell_is, cell_same, edge_leads, goes_down, goes_up, leads_edge}

-- edges of the view and of the board

pub edge_named : (w : Word) → IsRoomy w → (y : ℕ) → edge_of w ≡ Some y → leads w y
edge_named w roomy y e = by_test (is_edge w) refl
  where
    by_test : (b : Bool) → is_edge w ≡ b → leads w y
    by_test true is = edge_leads w y is (some_is (value_of w) y (sym (edge_some w roomy is) ∙ e))
    by_test false is = absurd (none_some y (sym (edge_none w roomy is) ∙ e))

pub leads_named : (w : Word) → IsRoomy w → (y : ℕ) → leads w y → edge_of w ≡ Some y
leads_named w roomy y l = (let e = leads_edge w y l in edge_some w roomy e.0 ∙ ap (λ (i : ℕ). Some i) e.1)

pub edge_down : (p : Plane) (x y : ℕ) → Edge (view_of p) x y → edges.Edge (union_of p.board) x y
edge_down p x y (s, w, l, g) =
    let q = goes_down p x s w y l g in
    (16 * x + s, owner_of x s q.0, subst (edges.Goes (union_of p.board) (16 * x + s)) (target_of q.1 w q.2 ∙ (leads_edge w y l).1) (goes_edges p.board.union (16 * x + s) q.1 q.3))

pub edge_up : (p : Plane) → sound.IsPlane p → (x y : ℕ) → edges.Edge (union_of p.board) x y → Edge (view_of p) x y
edge_up p told x y (k, own, h) =
    let g = goes_words p.board.union told.board.hangs.edges k y h in
    let e : is_edge (decoded g.0) ≡ true = sym (goes_of g.0 (decoded g.0) refl) ∙ g.2.0 in
    let v : value_of (decoded g.0) ≡ y = sym (target_of g.0 (decoded g.0) refl) ∙ g.1 in
    (k % 16, decoded g.0, edge_leads (decoded g.0) y e v, subst (λ (i : ℕ). Goes (view_of p) i (k % 16) (decoded g.0)) own (goes_up p k g.0 g.2))

module _ (p : Plane) (x s : ℕ) (lt : s < 16) (w : Word) (roomy : IsRoomy w) where
  pub closes_down : Closes (view_of p) x w → plane.Closes p.board (16 * x + s) w
  closes_down (y, l, r) = (y, leads_named w roomy y l, subst (λ (i : ℕ). Leads (edges.Edge (union_of p.board)) y i) (sym (owner_of x s lt)) (leads-map (Edge (view_of p)) (edges.Edge (union_of p.board)) (edge_down p) y x r))

  pub closes_up : sound.IsPlane p → plane.Closes p.board (16 * x + s) w → Closes (view_of p) x w
  closes_up told (y, e, r) = (y, edge_named w roomy y e, leads-map (edges.Edge (union_of p.board)) (Edge (view_of p)) (edge_up p told) y x (subst (λ (i : ℕ). Leads (edges.Edge (union_of p.board)) y i) (owner_of x s lt) r))

-- words that fit

module _ (u : View) (x : ℕ) where
  pub fits_ply : (w : Word) → u.is_ply x ≡ true → HasKind u x w → IsPlyWord w
  fits_ply words.Drop is h = absurd (true≢false (sym is ∙ h))
  fits_ply words.Receive is h = absurd (true≢false (sym is ∙ h))
  fits_ply (words.Glean i) is h = absurd (true≢false (sym is ∙ h))
  fits_ply (words.ToPly c) is h = tt
  fits_ply (words.ToBalance o) is h = tt
  fits_ply (words.ToAdjacency o) is h = absurd (true≢false (sym is ∙ h.0))
  fits_ply (words.Plain n) is h = h

  pub fits_bucket : (w : Word) → u.is_ply x ≡ false → HasKind u x w → IsBucketWord w
  fits_bucket words.Drop is h = tt
  fits_bucket words.Receive is h = tt
  fits_bucket (words.Glean i) is h = tt
  fits_bucket (words.ToPly c) is h = absurd (true≢false (sym h.0 ∙ is))
  fits_bucket (words.ToBalance o) is h = tt
  fits_bucket (words.ToAdjacency o) is h = tt
  fits_bucket (words.Plain n) is h = h

-- whether two words are the same
pub same_word : (v w : Word) → IsRoomy v → IsRoomy w → (v ≡ w) ⊎ (v ≢ w)
same_word v w a b = elim (cases_eq (encoded v) (encoded w)) [
  | inl e ↦ inl (sym (decoded_encoded v a) ∙ (ap decoded e ∙ decoded_encoded w b))
  | inr ne ↦ inr (λ e. ne (ap encoded e))
]

retire_split : (b : Bool) (r : Copy) (rs : List Copy) (e : Retired) → Contains (map copy_seen (retire_if b r rs)) e → (copy_seen r ≡ e) ⊎ Contains (map copy_seen rs) e
retire_split true r rs e (zero, l, is) = inl is
retire_split true r rs e (suc i, l, is) = inr (i, (let small = l in omega arith), is)
retire_split false r rs e c = inr c

and_false : (b c : Bool) → c ≡ false → (b && c) ≡ false
and_false true c e = e
and_false false c e = refl

not_true : (b : Bool) → (b ≡ true → ⊥) → b ≡ false
not_true true far = absurd (far refl)
not_true false far = refl

-- the view after a store of z
module _ (p : Plane) (x s : ℕ) (lt : s < 16) (inside : 16 * x + s < length p.board.union.cells) (z : Word) (roomy : IsRoomy z) where
  abbrev u : View
  u = view_of p

  abbrev pub After : Board
  After = board_stored p.board (16 * x + s) z

  abbrev pub stored_view : View
  stored_view = record {
    cell = cell_in After;
    retired = map copy_seen After.union.retired;
    is_ply = u.is_ply;
    is_held = u.is_held;
    record_of = u.record_of;
    users = u.users;
    free = u.free;
    stored = p.board.stored + 1;
    spare = p.spare;
  }

  abbrev old : ℕ
  old = slice_index p.board.union.cells (16 * x + s)

  abbrev copy : Copy
  copy = record { cell = 16 * x + s; word = old; marks = fresh_marks (as_control p.board) }

  pub cell_here : stored_view.cell x s ≡ z
  cell_here = cell_is After x s lt ∙ word_same p.board (16 * x + s) z roomy inside

  pub cell_else : (y t : ℕ) → (y ≡ x → t ≡ s → ⊥) → stored_view.cell y t ≡ u.cell y t
  cell_else y t ne = cell_same p.board After y t (λ small. word_other p.board (16 * x + s) (16 * y + t) z (λ e. ne (let a : y ≡ x = omega arith in a) (let b : t ≡ s = omega arith in b)))

  old_word : u.cell x s ≡ decoded old
  old_word = cell_is p.board x s lt

  pub goes_new : (y t c : ℕ) (v : Word) → leads v c → Goes stored_view y t v → Goes u y t v ⊎ ((y ≡ x) × (t ≡ s) × (v ≡ z))
  goes_new y t c v l (inl is) = elim (cases_eq y x) [
    | inl here ↦ elim (cases_eq t s) [
      | inl slot ↦ inr (here, slot, sym is ∙ (ap (λ (i : ℕ). stored_view.cell i t) here ∙ (ap (λ (i : ℕ). stored_view.cell x i) slot ∙ cell_here)))
      | inr ne ↦ inl (inl (sym (cell_else y t (λ _ e. ne e)) ∙ is))
    ]
    | inr ne ↦ inl (inl (sym (cell_else y t (λ e _. ne e)) ∙ is))
  ]
  goes_new y t c v l (inr q) = elim (retire_split (must_retire p.board.union (16 * x + s) && goes old) copy p.board.union.retired (record { from = y; slot = t; word = v }) q) [
    | inl same ↦ inl (inl (was same))
    | inr more ↦ inl (inr more)
  ]
    where
      was : copy_seen copy ≡ record { from = y; slot = t; word = v } → u.cell y t ≡ v
      was same =
          let a : owner (16 * x + s) ≡ y = ap (λ (e : Retired). e.from) same in
          let b : (16 * x + s) % 16 ≡ t = ap (λ (e : Retired). e.slot) same in
          let here : y ≡ x = omega arith in
          let slot : t ≡ s = omega arith in
          ap (λ (i : ℕ). u.cell i t) here ∙ (ap (λ (i : ℕ). u.cell x i) slot ∙ (old_word ∙ ap (λ (e : Retired). e.word) same))

  -- only a replaced edge is retired
  pub retired_same : ((y : ℕ) → leads (u.cell x s) y → ⊥) → stored_view.retired ≡ u.retired
  retired_same none =
      let flat : goes old ≡ false = not_true (goes old) (λ is. none (value_of (u.cell x s)) (edge_leads (u.cell x s) (value_of (u.cell x s)) (sym (goes_of old (u.cell x s) (sym old_word)) ∙ is) refl)) in
      ap (λ (b : Bool). map copy_seen (retire_if b copy p.board.union.retired)) (and_false (must_retire p.board.union (16 * x + s)) (goes old) flat)

  -- and where a pass may come to its object
  module _ (told : sound.IsPlane p) where
    has_in_down : HasIn u x → edges.HasIn (union_of p.board) (owner (16 * x + s))
    has_in_down (y, t, v, l, g) =
        let q = goes_down p y t v x l g in
        (16 * y + t, subst (edges.Goes (union_of p.board) (16 * y + t)) (target_of q.1 v q.2 ∙ ((leads_edge v x l).1 ∙ sym (owner_of x s lt))) (goes_edges p.board.union (16 * y + t) q.1 q.3))

    has_in_up : edges.HasIn (union_of p.board) (owner (16 * x + s)) → HasIn u x
    has_in_up h =
        let e = edge_up p told (owner h.0) x (h.0, refl, subst (edges.Goes (union_of p.board) h.0) (owner_of x s lt) h.1) in
        (owner h.0, e.0, e.1, e.2, e.3)

    entered : (x ≡ 0) ⊎ HasIn u x → must_retire p.board.union (16 * x + s) ≡ true
    unfolding must_retire
    entered (inl top) = (retire_iff (union_of p.board) (16 * x + s)).1 (inl (owner_of x s lt ∙ top))
    entered (inr some) = (retire_iff (union_of p.board) (16 * x + s)).1 (inr (has_in_down some))

    unentered : x ≢ 0 → (HasIn u x → ⊥) → must_retire p.board.union (16 * x + s) ≡ false
    unfolding must_retire
    unentered ne none = not_true (edges.must_retire (union_of p.board) (16 * x + s)) (λ is. ⊎_elim
        (λ (top : owner (16 * x + s) ≡ 0). ne (sym (owner_of x s lt) ∙ top))
        (λ (h : edges.HasIn (union_of p.board) (owner (16 * x + s))). none (has_in_up h))
        ((retire_iff (union_of p.board) (16 * x + s)).0 is))

    pub retired_left : x ≢ 0 → (HasIn u x → ⊥) → stored_view.retired ≡ u.retired
    retired_left ne none = ap (λ (b : Bool). map copy_seen (retire_if (b && goes old) copy p.board.union.retired)) (unentered ne none)

    copy_is : copy_seen copy ≡ copy_at u x s
    copy_is =
        let slot : (16 * x + s) % 16 ≡ s = omega arith in
        ap (λ (i : ℕ). (let e : Retired = record { from = i; slot = (16 * x + s) % 16; word = decoded old } in e)) (owner_of x s lt)
        ∙ (ap (λ (i : ℕ). (let e : Retired = record { from = x; slot = i; word = decoded old } in e)) slot
        ∙ ap (λ (v : Word). (let e : Retired = record { from = x; slot = s; word = v } in e)) (sym old_word))

    pub retired_more : (y : ℕ) → leads (u.cell x s) y → (x ≡ 0) ⊎ HasIn u x → stored_view.retired ≡ copy_at u x s ∷ u.retired
    retired_more y l some =
        let edge : goes old ≡ true = goes_of old (u.cell x s) (sym old_word) ∙ (leads_edge (u.cell x s) y l).0 in
        ap (λ (b : Bool). map copy_seen (retire_if (b && goes old) copy p.board.union.retired)) (entered some)
        ∙ (ap (λ (b : Bool). map copy_seen (retire_if b copy p.board.union.retired)) edge
        ∙ ap (λ (e : Retired). e ∷ u.retired) copy_is)

  pub is_put : sound.IsPlane p → (w : Word) (answer : Put) → answer ≢ puts.Same → Answered u x s w (stored_view.cell x s) answer → ((c : ℕ) → leads z c → z ≡ w) → IsPut u stored_view x s w answer
  is_put told w answer stored answered only = record {
    answered = answered;
    others = λ y t ne live. cell_else y t ne;
    edges = λ y t c v l g. ⊎_elim (λ (was : Goes u y t v). inl was) (λ (q : (y ≡ x) × (t ≡ s) × (v ≡ z)). inr (q.0, q.1, q.2 ∙ only c (subst (λ (a : Word). leads a c) q.2 l))) (goes_new y t c v l g);
    retired = retired_same;
    kept = λ same. absurd (stored same);
    left = retired_left told;
    copied = λ y l ne some. retired_more told y l some;
    kinds = λ y live. refl;
    held = λ y. refl;
    records = record { record_of = refl; users = refl };
    free = omega arith;
    stores = record { more = omega arith; few = omega arith };
    spare = omega arith;
    spared = λ ne none. omega arith;
  }

  module _ (was : IsPlane u) (kind : HasKind u x z) where
    pub stored_kinds : Kinds stored_view
    stored_kinds = record {
      ply = λ y t c g. ⊎_elim (was.kinds.ply y t c)
          (λ (q : (y ≡ x) × (t ≡ s) × (words.ToPly c ≡ z)). (let h : HasKind u x (words.ToPly c) = subst (HasKind u x) (sym q.2) kind in (ap u.is_ply q.0 ∙ h.0, h.1)))
          (goes_new y t c (words.ToPly c) refl g);
      balance = λ y t o g. ⊎_elim (was.kinds.balance y t o)
          (λ (q : (y ≡ x) × (t ≡ s) × (words.ToBalance o ≡ z)). (let h : HasKind u x (words.ToBalance o) = subst (HasKind u x) (sym q.2) kind in (h.1, λ r. true≢false (sym h.0 ∙ (was.records r.0 o r.1).0))))
          (goes_new y t o (words.ToBalance o) refl g);
      adjacency = λ y t o g. ⊎_elim (was.kinds.adjacency y t o)
          (λ (q : (y ≡ x) × (t ≡ s) × (words.ToAdjacency o ≡ z)). (let h : HasKind u x (words.ToAdjacency o) = subst (HasKind u x) (sym q.2) kind in let r = was.records h.1.0 o h.1.1 in (r.1, r.0)))
          (goes_new y t o (words.ToAdjacency o) refl g);
    }

    pub stored_buckets : (y t : ℕ) → IsBalance stored_view y → t < 16 → IsBucketWord (stored_view.cell y t)
    stored_buckets y t b small = elim (cases_eq y x) [
      | inl here ↦ elim (cases_eq t s) [
        | inl slot ↦ subst IsBucketWord (sym (ap (λ (i : ℕ). stored_view.cell i t) here ∙ (ap (λ (i : ℕ). stored_view.cell x i) slot ∙ cell_here))) (fits_bucket u x z (sym (ap u.is_ply here) ∙ b.1) kind)
        | inr ne ↦ subst IsBucketWord (sym (cell_else y t (λ _ e. ne e))) (was.buckets y t b small)
      ]
      | inr ne ↦ subst IsBucketWord (sym (cell_else y t (λ e _. ne e))) (was.buckets y t b small)
    ]
