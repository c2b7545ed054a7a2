-- A store of the plane: what is counted more, what less, and what stays so.
use Rattle.std.proofs.Common.{arith, ◌≡◌, ℕ, ◌+◌, ◌*◌, ◌-◌, ◌<◌, ◌≤◌, inl, inr, Bool, cond, eqb, eq-eqb, ne_eqb, List, [], length, map, Option, Some, None, refl, sym, ◌∙◌, ap, subst, length-set}
use Rattle.std.specs.Prelude.{Contains, slice_index}
use Rattle.std.proofs.lemmas.Bool.{cases_eq}
use Rattle.std.proofs.lemmas.List.{length-map}
use Rattle.std.proofs.lemmas.List.Sums.{count_by-le-length}
use Rattle.fib_reach.specs.Walks.{IsAcyclic}
use Rattle.fib_reach.proofs.Walking.{acyclic_part}
use Rattle.fib_union.specs.Unions.{Union, Retired, owner, edge_at, Goes, Edge, leads_to, one, into, must_retire, stored, left_if, left_at_once, Kept}
use Rattle.fib_union.proofs.Stores.{acyclic-stored, some_none}
use Rattle.fib_pool.specs.declared.object.Object.{Object}
use Rattle.fib_pool.specs.Objects.{at, count_in, count_of, with_count, IsLive}
use Rattle.fib_core.specs.declared.word.Word.{Word}
use Rattle.fib_core_board.specs.Boards.{Board, edge_of, union_of, board_stored}
use Rattle.fib_plane.specs.Planes.{IsHeld, IsSwept, uncounted, counted_more}
use Rattle.fib_plane.specs.Puts.{Closes}
use Rattle.fib_plane.specs.inner.Joined.{IsJoined, AreDying}
use Rattle.fib_union.specs.Unions as edges
use Rattle.fib_core.specs.Words.{encoded}
use Rattle.fib_core.specs.Union.{edge_in, copy_of}
use Rattle.fib_pool.proofs.Pools.{live_at}
use Rattle.fib_core_board.proofs.Serving.{edge_at_drop, union_stored}
use Rattle.fib_plane.proofs.Boarding.{edge_at_word, edge_same, into_stored, word_other, dying_count, at_other, count_same, none_same, count_less}

unfolding_few : (u : Union) (o : ℕ) → into u o ≤ length u.edges + length u.retired
unfolding into
unfolding_few u o = (let a = count_by-le-length (leads_to o) u.edges in let b = count_by-le-length (λ (r : Retired). eqb r.to o) u.retired in omega arith)

module _ (b : Board) (u : Kept) (xs : List (Option Object)) (h : IsJoined b u xs) where
  -- counts are small
  pub count_small : (o : ℕ) → count_of xs o < 1099511627776
  count_small o =
      let m = (h.counted o).most in
      let f = unfolding_few (union_of b) o in
      let l : length (map edge_in b.union.cells) ≡ length b.union.cells = length-map b.union.cells edge_in in
      let r : length u.union.retired ≡ length (union_of b).retired = ap (λ (v : Union). length v.retired) h.same in
      let s = h.short in
      let n = h.long in
      let w = h.few in
      omega arith

  module _ (k : ℕ) (w : Word) (here : k < length b.union.cells) (source : IsLive xs (owner k)) (target : (y : ℕ) → edge_of w ≡ Some y → IsLive xs y) where
    abbrev after : Board
    after = board_stored b k w

    -- one count more
    pub more : (e : Option ℕ) → ((y : ℕ) → e ≡ Some y → IsLive xs y) → ((z : ℕ) → count_of (counted_more e xs) z ≡ count_of xs z + one z e) × ((z : ℕ) → at (counted_more e xs) z ≡ None → at xs z ≡ None) × (length (counted_more e xs) ≡ length xs)
    more None live = (λ z. omega arith, λ z q. q, refl)
    more (Some y) live =
        let x = live_at xs y (live y refl) in (
          λ z. elim (cases_eq z y) [
            | inl same ↦ (let a : count_of (with_count xs y (count_of xs y + 1)) z ≡ count_of xs y + 1 = ap (λ (q : ℕ). count_of (with_count xs y (count_of xs y + 1)) q) same ∙ count_same xs y (count_of xs y + 1) x.0 x.1 in
                let c : count_of xs z ≡ count_of xs y = ap (λ (q : ℕ). count_of xs q) same in
                let o : ◌≡◌ {A = ℕ} (one z (Some y)) 1 = ap (λ (t : Bool). cond t 1 0) (eq-eqb y z (sym same)) in omega arith)
            | inr ne ↦ (let a : count_of (with_count xs y (count_of xs y + 1)) z ≡ count_of xs z = ap count_in (at_other xs y (count_of xs y + 1) x.0 x.1 z ne) in
                let o : ◌≡◌ {A = ℕ} (one z (Some y)) 0 = ap (λ (t : Bool). cond t 1 0) (ne_eqb y z (λ q. ne (sym q))) in omega arith)
          ],
          none_same xs y (count_of xs y + 1) x.0 x.1,
          length-set xs y _,
        )

    pub into_after : (z : ℕ) → into (union_of after) z + one z (left_at_once (union_of b) k) ≡ into (union_of b) z + one z (edge_of w)
    into_after z = into_stored b k w z here

    abbrev pub mid : List (Option Object)
    mid = counted_more (edge_of w) xs

    pub left_live : (y : ℕ) → left_at_once (union_of b) k ≡ Some y → IsLive mid y
    left_live y e =
        let m = (more (edge_of w) target).0 y in
        let i = into_after y in
        let o : one y (left_at_once (union_of b) k) ≡ one y (Some y) = ap (one y) e in
        let s : ◌≡◌ {A = ℕ} (one y (Some y)) 1 = ap (λ (t : Bool). cond t 1 0) (eq-eqb y y refl) in
        let l = (h.counted y).least in
        omega arith

    -- one count less
    pub less : (e : Option ℕ) (ys : List (Option Object)) → ((y : ℕ) → e ≡ Some y → IsLive ys y) → ((z : ℕ) → count_of (uncounted e ys) z + one z e ≡ count_of ys z) × ((z : ℕ) → at (uncounted e ys) z ≡ None → at ys z ≡ None) × (length (uncounted e ys) ≡ length ys)
    less None ys live = (λ z. omega arith, λ z q. q, refl)
    less (Some y) ys live =
        let x = live_at ys y (live y refl) in
        let l = live y refl in
        (λ z. count_less ys y (count_of ys y - 1) x.0 x.1 z (omega arith), none_same ys y (count_of ys y - 1) x.0 x.1, length-set ys y _)

    -- what is held stays held
    pub hold_stored : (o : ℕ) → IsHeld b xs o → IsHeld (board_stored b k w) (uncounted (left_at_once (union_of b) k) (counted_more (edge_of w) xs)) o
    hold_stored o held =
        let a = (more (edge_of w) target).0 o in
        let d = (less (left_at_once (union_of b) k) mid left_live).0 o in
        let i = into_after o in omega arith

    abbrev pub end : List (Option Object)
    end = uncounted (left_at_once (union_of b) k) mid

    pub stored_joined : (c : Board) (v : Kept) (ys : List (Option Object)) → c ≡ after → ys ≡ end → v.union ≡ stored u.workers u.union k (edge_of w) → v.workers ≡ u.workers → v.left ≡ u.left → length v.union.retired < 4294967296 → IsJoined c v ys
    stored_joined c v ys is pool union workers left short =
        let m = more (edge_of w) target in
        let l = less (left_at_once (union_of b) k) mid left_live in
        subst (λ (q : Board). IsJoined q v ys) (sym is) (subst (λ (zs : List (Option Object)). IsJoined after v zs) (sym pool) (record {
          size = l.2 ∙ (m.2 ∙ h.size);
          long = length-set b.union.cells k (encoded w) ∙ h.long;
          few = h.few;
          workers = workers ∙ h.workers;
          same = union ∙ (ap (λ (n : ℕ). stored n u.union k (edge_of w)) h.workers ∙ (ap (λ (q : Union). stored b.workers q k (edge_of w)) h.same ∙ sym (union_stored b k w)));
          left = left ∙ h.left;
          short = short;
          counted = λ z. (let i = into_after z in let p = m.0 z in let q = l.0 z in let e = (h.counted z).least in let f = (h.counted z).most in record { least = omega arith; most = omega arith });
          root = (let i = into_after 0 in let p = m.0 0 in let q = l.0 0 in let r = h.root in omega arith);
          free = λ j e. elim (cases_eq j k) [
            | inl same ↦ (let none : at xs (owner k) ≡ None = ap (λ (q : ℕ). at xs (owner q)) (sym same) ∙ m.1 (owner j) (l.1 (owner j) e) in let z : count_of xs (owner k) ≡ 0 = ap count_in none in absurd (let bad : ⊥ = omega arith in bad))
            | inr ne ↦ word_other b k j w ne ∙ h.free j (m.1 (owner j) (l.1 (owner j) e))
          ];
        }))

    -- no object is counted no more but where an edge left
    pub more_dying : AreDying xs [] → AreDying mid []
    more_dying none = by_edge (edge_of w) target
      where
        by_edge : (e : Option ℕ) → ((y : ℕ) → e ≡ Some y → IsLive xs y) → AreDying (counted_more e xs) []
        by_edge None live = none
        by_edge (Some y) live = record {
          there = λ i lt. absurd (let bad : ⊥ = omega arith in bad);
          apart = λ i j lt l. absurd (let bad : ⊥ = omega arith in bad);
          listed = λ z d. (let x = live_at xs y (live y refl) in elim (cases_eq z y) [
            | inl same ↦ (let a = dying_count (with_count xs y (count_of xs y + 1)) z d in let q : count_of (with_count xs y (count_of xs y + 1)) z ≡ count_of xs y + 1 = ap (λ (p : ℕ). count_of (with_count xs y (count_of xs y + 1)) p) same ∙ count_same xs y (count_of xs y + 1) x.0 x.1 in absurd (let bad : ⊥ = omega arith in bad))
            | inr ne ↦ none.listed z (d.0, sym (at_other xs y (count_of xs y + 1) x.0 x.1 z ne) ∙ d.1)
          ]);
        }

  -- the union stays acyclic
  pub stored_acyclic : (k : ℕ) (w : Word) → IsAcyclic (Edge (union_of b)) → (Closes b k w → ⊥) → IsAcyclic (Edge (union_of (board_stored b k w)))
  stored_acyclic k w calm far = subst (λ (v : Union). IsAcyclic (Edge v)) (sym (union_stored b k w)) (acyclic-stored (union_of b) k (edge_of w) b.workers calm (λ y e l. far (y, e, l)))

swept_goes : (b c : Board) (xs ys : List (Option Object)) → IsSwept b c xs ys → (k y : ℕ) → Goes (union_of c) k y → Goes (union_of b) k y
swept_goes b c xs ys s k y (inl e) = elim (s.cleared k) [
  | inl same ↦ inl (edge_at_word b k ∙ (sym (edge_same b c k same) ∙ (sym (edge_at_word c k) ∙ e)))
  | inr drop ↦ absurd (some_none y (sym (edge_at_drop (slice_index c.union.cells k) drop) ∙ (sym (edge_at_word c k) ∙ e)))
]
swept_goes b c xs ys s k y (inr q) = inr (q.0, subst (λ (rs : List edges.Retired). Contains rs q.0) (ap (λ (p : Board). map copy_of p.union.retired) s.frame) q.1, q.2, q.3)

pub swept_acyclic : (b c : Board) (xs ys : List (Option Object)) → IsSwept b c xs ys → IsAcyclic (Edge (union_of b)) → IsAcyclic (Edge (union_of c))
swept_acyclic b c xs ys s calm = acyclic_part (Edge (union_of c)) (Edge (union_of b)) (λ x y g. (g.0, g.1, swept_goes b c xs ys s g.0 y g.2)) calm

pub owner_is : (o s : ℕ) → s < 16 → owner (16 * o + s) ≡ o
owner_is o s lt = omega arith
