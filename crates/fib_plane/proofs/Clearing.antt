-- An object that is counted no more is cleared and given back.
use Rattle.std.proofs.Common.{arith, ◌≡◌, ◌≢◌, ℕ, zero, suc, ◌+◌, ◌*◌, ◌-◌, ◌<◌, ◌≤◌, ◌⊎◌, inl, inr, Bool, false, cond, eqb, ne_eqb, eq-eqb, List, [], ◌∷◌, ◌++◌, length, set, Option, Some, None, refl, sym, ◌∙◌, ap, subst, length-set}
use Rattle.std.specs.Prelude.{Contains, slice_index}
use Rattle.std.proofs.lemmas.Bool.{cases_lt, cases_eq}
use Rattle.std.proofs.lemmas.Bool.Decides.{Decides-eqb}
use Rattle.std.proofs.lemmas.Map.Keys.{IsDistinct-from_apart}
use Rattle.std.proofs.lemmas.Map.Steps.{length-le_from_distinct_below}
use Rattle.std.proofs.lemmas.Map.Views.{Contains-from_any}
use Rattle.std.proofs.lemmas.List.{get_or_default, append_assoc, length_push, get_or_append_left, get_or_push}
use Rattle.std.proofs.lemmas.List.Elements.{Contains-push, Contains-append_left}
use Rattle.fib_union.specs.Unions.{Union, owner, one, into, must_retire, stored, left_at_once, Kept}
use Rattle.fib_union.proofs.Stores.{some_none}
use Rattle.fib_pool.specs.declared.object.Object.{Object}
use Rattle.fib_pool.specs.Objects.{at, count_of, with_count, IsLive, IsDying}
use Rattle.fib_core.specs.declared.word.Word.TheVariants as words
use Rattle.fib_core_board.specs.Boards.{Board, edge_of, word_in, union_of, board_stored}
use Rattle.fib_core_board.specs.May.{Allows, MayClear, MayStore}
use Rattle.fib_plane.specs.Planes.{with_cells}
use Rattle.fib_plane.specs.Planes.{IsSwept, leads_from, uncounted}
use Rattle.fib_plane.specs.inner.Joined.{IsJoined, AreDying}
use Rattle.fib_core.specs.Words.{encoded}
use Rattle.fib_pool.proofs.Pools.{at_in, live_at}
use Rattle.fib_core_board.proofs.Serving.{edge_drop, union_stored, clear_empties}
use Rattle.fib_plane.proofs.Boarding.{into_stored, leaves, left_is, not_reached, retired_same, word_same, word_other, filled_less, dying_count, at_same, at_other, count_same, none_same, kind_same, count_less}

module _ (b : Board) (u : Kept) (xs : List (Option Object)) (h : IsJoined b u xs) (o slot : ℕ) (small : slot < 16) (dying : IsDying xs o) where
  abbrev cell : ℕ
  cell = 16 * o + slot

  pub own : owner cell ≡ o
  own = omega arith

  pub dying_in : o < b.objects
  dying_in = (let i = at_in xs o _ dying.1 in let s = h.size in omega arith)

  pub inside : cell < 16 * b.objects
  inside = (let i = dying_in in omega arith)

  in_cells : cell < length b.union.cells
  in_cells = (let i = inside in let l = h.long in omega arith)

  pub not_root : owner cell ≢ 0
  not_root e = (let r = h.root in let c = dying_count xs o dying in let z : o ≡ 0 = sym own ∙ e in let d : count_of xs 0 ≡ count_of xs o = ap (λ (q : ℕ). count_of xs q) (sym z) in absurd (let bad : ⊥ = omega arith in bad))

  pub no_edge : into (union_of b) (owner cell) ≡ 0
  no_edge = (let e : into (union_of b) (owner cell) ≡ into (union_of b) o = ap (λ (q : ℕ). into (union_of b) q) own in let l = (h.counted o).least in let c = dying_count xs o dying in omega arith)

  pub may_clear : MayClear b (owner cell) → Allows b → word_in b cell ≢ words.Drop → MayStore b cell words.Drop
  may_clear clears allowed other = record {
    place = record {
      inside = inside;
      other = other;
      target = λ y e. absurd (some_none y (sym edge_drop ∙ e));
      allowed = allowed;
    };
    seen = λ f. absurd (not_reached b cell not_root no_edge (f refl));
    aside = λ is none. clear_empties b cell none clears;
  }

  pub clears_at_once : must_retire (union_of b) cell ≡ false
  clears_at_once = leaves b cell not_root no_edge

  pub clear_left : left_at_once (union_of b) cell ≡ leads_from b cell
  clear_left = left_is b cell not_root no_edge

  abbrev pub after : Board
  after = board_stored b cell words.Drop

  into_after : (z : ℕ) → into (union_of after) z + one z (leads_from b cell) ≡ into (union_of b) z
  into_after z = (let a = into_stored b cell words.Drop z in_cells in let e : one z (left_at_once (union_of b) cell) ≡ one z (leads_from b cell) = ap (one z) clear_left in let d : ◌≡◌ {A = ℕ} (one z (edge_of words.Drop)) 0 = ap (one z) edge_drop in omega arith)

  -- what is left to say is the same whether or not an edge left: how the counts changed
  pub record Changed (e : Option ℕ) (ys : List (Option Object)) : Type 0 where
    pub size : length ys ≡ length xs
    pub count : (z : ℕ) → count_of ys z + one z e ≡ count_of xs z
    pub none : (z : ℕ) → at ys z ≡ None → at xs z ≡ None
    pub kind : (z : ℕ) (v : Object) → at ys z ≡ Some v → (w : Object) × (at xs z ≡ Some w) × (w.kind ≡ v.kind)

  pub unchanged : leads_from b cell ≡ None → Changed (leads_from b cell) xs
  unchanged is = record {
    size = refl;
    count = λ z. (let e : ◌≡◌ {A = ℕ} (one z (leads_from b cell)) 0 = ap (one z) is in omega arith);
    none = λ z q. q;
    kind = λ z v q. (v, q, refl);
  }

  module _ (y : ℕ) (is : leads_from b cell ≡ Some y) where
    target_counted : 0 < into (union_of b) y
    target_counted = (let a = into_after y in let e : one y (leads_from b cell) ≡ one y (Some y) = ap (one y) is in let s : ◌≡◌ {A = ℕ} (one y (Some y)) 1 = one_self y in omega arith)
      where
        one_self : (q : ℕ) → ◌≡◌ {A = ℕ} (one q (Some q)) 1
        one_self q = ap (λ (t : Bool). cond t 1 0) (eq-eqb q q refl)

    pub target_live : IsLive xs y
    target_live = (let t = target_counted in let c = (h.counted y).least in omega arith)

    pub released : Changed (leads_from b cell) (with_count xs y (count_of xs y - 1))
    released =
        let x = live_at xs y target_live in
        let l = target_live in
        record {
          size = length-set xs y _;
          count = λ z. (let c = count_less xs y (count_of xs y - 1) x.0 x.1 z (omega arith) in ap (λ (e : Option ℕ). count_of (with_count xs y (count_of xs y - 1)) z + one z e) is ∙ c);
          none = none_same xs y (count_of xs y - 1) x.0 x.1;
          kind = kind_same xs y (count_of xs y - 1) x.0 x.1;
        }

  pub changed : Changed (leads_from b cell) (uncounted (leads_from b cell) xs)
  changed = by_edge (leads_from b cell) refl
    where
      by_edge : (e : Option ℕ) → leads_from b cell ≡ e → Changed (leads_from b cell) (uncounted (leads_from b cell) xs)
      by_edge None is = subst (λ (e : Option ℕ). Changed (leads_from b cell) (uncounted e xs)) (sym is) (unchanged is)
      by_edge (Some y) is = subst (λ (e : Option ℕ). Changed (leads_from b cell) (uncounted e xs)) (sym is) (released y is)

  module _ (ys : List (Option Object)) (c : Changed (leads_from b cell) ys) where
    pub cleared_joined : (v : Kept) → v.union ≡ stored u.workers u.union cell None → v.workers ≡ u.workers → v.left ≡ u.left → length v.union.retired < 4294967296 → IsJoined after v ys
    cleared_joined v is workers left short = record {
      size = c.size ∙ h.size;
      long = length-set b.union.cells cell (encoded words.Drop) ∙ h.long;
      few = h.few;
      workers = workers ∙ h.workers;
      same = is ∙ (ap (λ (n : ℕ). stored n u.union cell None) h.workers ∙ (ap (λ (q : Union). stored b.workers q cell None) h.same ∙ (ap (λ (e : Option ℕ). stored b.workers (union_of b) cell e) (sym edge_drop) ∙ sym (union_stored b cell words.Drop))));
      left = left ∙ h.left;
      short = short;
      counted = λ z. (let i = into_after z in let k = c.count z in let l = (h.counted z).least in let m = (h.counted z).most in record { least = omega arith; most = omega arith });
      root = (let i = into_after 0 in let k = c.count 0 in let r = h.root in omega arith);
      free = λ j e. elim (cases_eq j cell) [
        | inl same ↦ ap (λ (q : ℕ). word_in after q) same ∙ word_same b cell words.Drop tt in_cells
        | inr ne ↦ word_other b cell j words.Drop ne ∙ h.free j (c.none (owner j) e)
      ];
    }

    pub cleared_swept : word_in b cell ≢ words.Drop → IsSwept b after xs ys
    cleared_swept other = record {
      frame = ap (λ rs. with_cells b (set b.union.cells cell (encoded words.Drop)) rs (b.stored + 1)) (retired_same b cell not_root no_edge words.Drop);
      taken = λ z v e. c.kind z v e;
      fewer = λ z. (let k = c.count z in omega arith);
      cells = λ j live. word_other b cell j words.Drop (λ e. (let k = c.count o in let d = dying_count xs o dying in let q : owner j ≡ o = ap owner e ∙ own in let l : count_of ys (owner j) ≡ count_of ys o = ap (λ (p : ℕ). count_of ys p) q in absurd (let bad : ⊥ = omega arith in bad)));
      cleared = λ j. elim (cases_eq j cell) [
        | inl same ↦ inr (ap (λ (q : ℕ). word_in after q) same ∙ word_same b cell words.Drop tt in_cells)
        | inr ne ↦ inl (word_other b cell j words.Drop ne)
      ];
      holds = λ z. (let i = into_after z in let k = c.count z in omega arith);
      stored = (let f = filled_less b cell in_cells other in omega arith);
    }

    pub cleared_drop : word_in after cell ≡ words.Drop
    cleared_drop = word_same b cell words.Drop tt in_cells

-- who is dying

module _ (xs : List (Option Object)) (y n : ℕ) (x : Object) (is : at xs y ≡ Some x) (ds : List ℕ) (h : AreDying xs ds) (live : IsLive xs y) where
  still : (i : ℕ) → i < length ds → slice_index ds i ≢ y
  still i lt e = (let d = dying_count xs (slice_index ds i) (h.there i lt) in let q : count_of xs (slice_index ds i) ≡ count_of xs y = ap (λ (p : ℕ). count_of xs p) e in absurd (let bad : ⊥ = omega arith in bad))

  there_still : (i : ℕ) → i < length ds → IsDying (with_count xs y n) (slice_index ds i)
  there_still i lt = (let d = h.there i lt in (d.0, at_other xs y n x is (slice_index ds i) (still i lt) ∙ d.1))

  -- one is counted less, and still
  pub dying_less : 0 < n → AreDying (with_count xs y n) ds
  dying_less some = record {
    there = there_still;
    apart = h.apart;
    listed = λ z d. elim (cases_eq z y) [
      | inl same ↦ (let a = dying_count (with_count xs y n) z d in let q : count_of (with_count xs y n) z ≡ n = ap (λ (p : ℕ). count_of (with_count xs y n) p) same ∙ count_same xs y n x is in absurd (let bad : ⊥ = omega arith in bad))
      | inr ne ↦ h.listed z (d.0, sym (at_other xs y n x is z ne) ∙ d.1)
    ];
  }

  -- one is counted no more
  pub dying_more : n ≡ 0 → AreDying (with_count xs y n) (ds ++ y ∷ [])
  dying_more nil = record {
    there = λ i lt. elim (cases_lt i (length ds)) [
      | inl old ↦ subst (λ (q : ℕ). IsDying (with_count xs y n) q) (sym (get_or_append_left ds (y ∷ []) 0 i old)) (there_still i old)
      | inr new ↦ subst (λ (q : ℕ). IsDying (with_count xs y n) q) (sym (get_or_push ds y 0 i (let l = length_push ds y in omega arith))) (x.kind, at_same xs y n x is ∙ ap (λ (m : ℕ). Some (record { kind = x.kind; count = m })) nil)
    ];
    apart = λ i j lt l. elim (cases_lt j (length ds)) [
      | inl old ↦ (λ e. h.apart i j lt old (sym (get_or_append_left ds (y ∷ []) 0 i (omega arith)) ∙ (e ∙ get_or_append_left ds (y ∷ []) 0 j old)))
      | inr new ↦ (λ e. still i (let p = length_push ds y in omega arith) (sym (get_or_append_left ds (y ∷ []) 0 i (let p = length_push ds y in omega arith)) ∙ (e ∙ get_or_push ds y 0 j (let p = length_push ds y in omega arith))))
    ];
    listed = λ z d. elim (cases_eq z y) [
      | inl same ↦ subst (λ (q : ℕ). Contains (ds ++ y ∷ []) q) (sym same) (Contains-push ds y)
      | inr ne ↦ Contains-append_left ds (y ∷ []) z (h.listed z (d.0, sym (at_other xs y n x is z ne) ∙ d.1))
    ];
  }

-- an edge left, if there was one

pub drop_dying : (xs : List (Option Object)) (y : ℕ) (ds es : List ℕ) → IsLive xs y → ((count_of xs y ≡ 1) × (es ≡ ds ++ y ∷ [])) ⊎ ((count_of xs y ≡ 1 → ⊥) × (es ≡ ds)) → (ps : List ℕ) → AreDying xs (ps ++ ds) → AreDying (with_count xs y (count_of xs y - 1)) (ps ++ es)
drop_dying xs y ds es live (inl q) ps h =
    let x = live_at xs y live in
    let one : count_of xs y ≡ 1 = q.0 in
    subst (λ (l : List ℕ). AreDying (with_count xs y (count_of xs y - 1)) l) (append_assoc ps ds (y ∷ []) ∙ ap (λ (l : List ℕ). ps ++ l) (sym q.1)) (dying_more xs y (count_of xs y - 1) x.0 x.1 (ps ++ ds) h live (omega arith))
drop_dying xs y ds es live (inr q) ps h =
    let x = live_at xs y live in
    let some : 0 < count_of xs y - 1 = (elim (cases_eq (count_of xs y) 1) [ inl e ↦ absurd (q.0 e) | inr ne ↦ above (count_of xs y) live ne ]) in
    subst (λ (l : List ℕ). AreDying (with_count xs y (count_of xs y - 1)) (ps ++ l)) (sym q.1) (dying_less xs y (count_of xs y - 1) x.0 x.1 (ps ++ ds) h live some)
  where
    above : (n : ℕ) → 0 < n → n ≢ 1 → 0 < n - 1
    above zero l ne = l
    above (suc zero) l ne = absurd (ne refl)
    above (suc (suc n)) l ne = omega arith

-- the list has room for one more
pub dying_few : (xs : List (Option Object)) (ds : List ℕ) → AreDying xs ds → length ds ≤ length xs
dying_few xs ds h = length-le_from_distinct_below ds (length xs) (IsDistinct-from_apart eqb ds (λ i j d lt l. ne_eqb _ _ (λ e. h.apart i j lt l (get_or_default ds i 0 d (omega arith) ∙ (e ∙ get_or_default ds j d 0 l)))))
    (λ q c. (let p = Contains-from_any (λ a b. (Decides-eqb a b).0) q ds c in let d = h.there p.0 p.1 in let e : slice_index ds p.0 ≡ q = get_or_default ds p.0 0 q p.1 ∙ p.2 in subst (λ (m : ℕ). m < length xs) e (at_in xs (slice_index ds p.0) _ d.1)))

-- one cell was cleared
module _ (b : Board) (u : Kept) (xs : List (Option Object)) (h : IsJoined b u xs) (o slot : ℕ) (small : slot < 16) (dying : IsDying xs o) (c : Board) (v : Kept) (left : Option ℕ) (ys : List (Option Object))
    (is : c ≡ board_stored b (16 * o + slot) words.Drop) (left_is_at : left ≡ left_at_once u.union (16 * o + slot)) (pool : ys ≡ uncounted left xs) where
  left_word : left ≡ leads_from b (16 * o + slot)
  left_word = left_is_at ∙ (ap (λ (q : Union). left_at_once q (16 * o + slot)) h.same ∙ clear_left b u xs h o slot small dying)

  all_changed : Changed b u xs h o slot small dying (leads_from b (16 * o + slot)) ys
  all_changed = subst (λ (l : List (Option Object)). Changed b u xs h o slot small dying (leads_from b (16 * o + slot)) l) (sym (pool ∙ ap (λ (e : Option ℕ). uncounted e xs) left_word)) (changed b u xs h o slot small dying)

  pub step_joined : v.union ≡ stored u.workers u.union (16 * o + slot) None → v.workers ≡ u.workers → v.left ≡ u.left → length v.union.retired < 4294967296 → IsJoined c v ys
  step_joined union workers rest short = subst (λ (q : Board). IsJoined q v ys) (sym is) (cleared_joined b u xs h o slot small dying ys all_changed v union workers rest short)

  pub step_swept : word_in b (16 * o + slot) ≢ words.Drop → IsSwept b c xs ys
  step_swept other = subst (λ (q : Board). IsSwept b q xs ys) (sym is) (cleared_swept b u xs h o slot small dying ys all_changed other)
