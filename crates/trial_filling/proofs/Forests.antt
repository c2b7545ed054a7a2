-- What may be stored while a board is filled.
use Rattle.std.proofs.Common.{◌≡◌, ◌≢◌, ◌⊎◌, inl, inr, ⊎_elim, ℕ, zero, suc, ◌+◌, ◌*◌, ◌/◌, ◌%◌, ◌^◌, ◌<◌, ◌≤◌, true, false, List, length, refl, sym, ap, ◌∙◌, subst, arith, get_or-set_same, get_or-set_other, length-set}
use Rattle.std.specs.Prelude.{Bool, if◌then◌else◌, nat_lt, slice_index, slice_set}
use Rattle.std.proofs.lemmas.Bool.{false≢true, true≢false}
use Rattle.std.proofs.lemmas.List.{get_or_past}
use mathlib.Core.Logic.{dite}
use native.Mathlib.Decide.{ℕ_discrete, dec_lt}
use Rattle.fib_addr.specs.Prefixes.{nibble}
use Rattle.fib_reach.specs.Walks.{Walk}
use Rattle.fib_resolve.specs.declared.types.End.{End}
use Rattle.fib_resolve.specs.declared.types.End.TheVariants as answers
use Rattle.fib_union.specs.Unions as edges
use Rattle.fib_union.specs.Unions.{owner}
use Rattle.fib_core.specs.declared.word.Word.{Word}
use Rattle.fib_core.specs.declared.word.Word.TheVariants as words
use Rattle.fib_core.specs.Words.{IsRoomy, decoded, encoded, is_edge, tag_of, target, value_of}
use Rattle.fib_core.specs.Walk.{EndsIn, Place, adjacency, after, balance, end_at, ended, from_balance, from_ply, halved, ply, root, stepped, walk, word_at}
use Rattle.fib_core.specs.Union.{Edge, Goes, HasForm, IsPlyWord, PlyEdge, Union, edges_of}
use Rattle.fib_core.specs.Trails.{IsEndOf}
use Rattle.fib_core.proofs.Numbers.{decoded_encoded, goes_of, target_of}
use Rattle.fib_core.proofs.Edges.{edge_is, edge_words}
use Rattle.fib_core_steady.specs.Names.{LeadsNow}
use Rattle.fib_core_steady.specs.Rooted.{IsLeaf}
use Rattle.fib_core_rule.specs.Change.{MayChange, MayEnter, MayPlace}
use Rattle.fib_core_rule.specs.Steady.{MayStoreSteadily}
use Rattle.fib_core_board.specs.Boards.{Board, as_control}
use Rattle.fib_core_board.specs.May.{Allows, MayStore}
use Rattle.trial_filling.specs.inner.Filled.{Forest, IsForest, Fits, IsFilled}

-- an edge that fits is one to a deeper ply or one to a balance
abbrev IsDeeper : Forest → ℕ → Word → Type 0
IsDeeper f x w = (tag_of w ≡ 3) × (f.is_ply x ≡ true) × (f.is_ply (value_of w) ≡ true) × (value_of w < f.objects) × (f.depth (value_of w) ≡ suc (f.depth x))

abbrev IsLast : Forest → ℕ → Word → Type 0
IsLast f x w = (tag_of w ≡ 4) × (f.is_ply x ≡ true) × (f.is_ply (value_of w) ≡ false) × (value_of w < f.objects)

side : (f : Forest) (x : ℕ) (w : Word) → Fits f x w → is_edge w ≡ true → IsDeeper f x w ⊎ IsLast f x w
side f x words.Drop fits edge = absurd (false≢true edge)
side f x words.Receive fits edge = absurd fits
side f x (words.Glean i) fits edge = absurd fits
side f x (words.ToPly y) fits edge = inl (refl, fits.0, fits.1, fits.2, fits.3)
side f x (words.ToBalance y) fits edge = inr (refl, fits.0, fits.1, fits.2)
side f x (words.ToAdjacency y) fits edge = absurd fits
side f x (words.Plain n) fits edge = absurd fits

-- a ply stands by its depth, and each balance behind all plies
abbrev rank : Forest → ℕ → ℕ
rank f x = if f.is_ply x then f.depth x else 8

rank_ply : (f : Forest) (x : ℕ) → f.is_ply x ≡ true → rank f x ≡ f.depth x
rank_ply f x is = ap (λ (b : Bool). if b then f.depth x else 8) is

rank_flat : (f : Forest) (x : ℕ) → f.is_ply x ≡ false → rank f x ≡ 8
rank_flat f x is = ap (λ (b : Bool). if b then f.depth x else 8) is

-- so an edge leads further back
greater : (f : Forest) → IsForest f → (x : ℕ) (w : Word) → Fits f x w → is_edge w ≡ true → rank f x < rank f (value_of w)
greater f ok x w fits edge = ⊎_elim
    (λ (d : IsDeeper f x w). let a = rank_ply f x d.1 in let b = rank_ply f (value_of w) d.2 in let e = d.4 in omega arith)
    (λ (l : IsLast f x w). let a = rank_ply f x l.1 in let b = rank_flat f (value_of w) l.2 in let c = ok.low x l.1 in omega arith)
    (side f x w fits edge)

below : (f : Forest) (x : ℕ) (w : Word) → Fits f x w → is_edge w ≡ true → value_of w < f.objects
below f x w fits edge = ⊎_elim (λ (d : IsDeeper f x w). d.3) (λ (l : IsLast f x w). l.3) (side f x w fits edge)

pub roomy : (f : Forest) (x : ℕ) (w : Word) → f.objects < 2 ^ 32 → Fits f x w → IsRoomy w
roomy f x words.Drop few fits = tt
roomy f x words.Receive few fits = absurd fits
roomy f x (words.Glean i) few fits = absurd fits
roomy f x (words.ToPly y) few fits = (let lt = fits.2 in omega arith)
roomy f x (words.ToBalance y) few fits = (let lt = fits.2 in omega arith)
roomy f x (words.ToAdjacency y) few fits = absurd fits
roomy f x (words.Plain n) few fits = absurd fits

ply_word : (f : Forest) (x : ℕ) (w : Word) → Fits f x w → is_edge w ≡ true → IsPlyWord w
ply_word f x words.Drop fits edge = absurd (false≢true edge)
ply_word f x words.Receive fits edge = absurd fits
ply_word f x (words.Glean i) fits edge = absurd fits
ply_word f x (words.ToPly y) fits edge = tt
ply_word f x (words.ToBalance y) fits edge = tt
ply_word f x (words.ToAdjacency y) fits edge = absurd fits
ply_word f x (words.Plain n) fits edge = absurd fits

ply_form : (v w : Word) (s : ℕ) → tag_of v ≡ 3 → IsPlyWord w → HasForm v s w
ply_form (words.ToPly y) w s three is = is
ply_form words.Drop w s three is = absurd (omega (arith, three))
ply_form words.Receive w s three is = absurd (omega (arith, three))
ply_form (words.Glean i) w s three is = absurd (omega (arith, three))
ply_form (words.ToBalance y) w s three is = absurd (omega (arith, three))
ply_form (words.ToAdjacency y) w s three is = absurd (omega (arith, three))
ply_form (words.Plain n) w s three is = absurd (omega (arith, three))

no_end : (f : Forest) (x : ℕ) (w : Word) (P : End → Type 0) (cells : List ℕ) → Fits f x w → EndsIn P cells w
no_end f x words.Drop P cells fits = tt
no_end f x words.Receive P cells fits = absurd fits
no_end f x (words.Glean i) P cells fits = absurd fits
no_end f x (words.ToPly y) P cells fits = tt
no_end f x (words.ToBalance y) P cells fits = tt
no_end f x (words.ToAdjacency y) P cells fits = absurd fits
no_end f x (words.Plain n) P cells fits = absurd fits

pub no_drop : (w : Word) → is_edge w ≡ true → w ≡ words.Drop → ⊥
no_drop w edge e = false≢true (sym (ap is_edge e) ∙ edge)

-- what stands in a cell after a store
pub set_cases : (cells : List ℕ) (k j w : ℕ) → (slice_index (slice_set cells k w) j ≡ slice_index cells j) ⊎ ((j ≡ k) × (slice_index (slice_set cells k w) j ≡ w))
set_cases cells k j w = dite (ℕ_discrete j k)
    (λ e. dite (dec_lt k (length cells))
    (λ room. inr (e, ap (slice_index (slice_set cells k w)) e ∙ get_or-set_same cells k w 0 room))
    (λ past. inl (get_or_past (slice_set cells k w) j 0 (let same : length (slice_set cells k w) ≡ length cells = length-set cells k w in let le = le_of past in omega arith)
    ∙ sym (get_or_past cells j 0 (let le = le_of past in omega arith)))))
    (λ ne. inl (get_or-set_other cells k j w 0 ne))
  where
    le_of : (k < length cells → ⊥) → length cells ≤ k
    le_of past = omega arith

pub set_there_is : (cells : List ℕ) (k w : ℕ) → k < length cells → slice_index (slice_set cells k w) k ≡ w
set_there_is cells k w lt = get_or-set_same cells k w 0 lt

pub set_else : (cells : List ℕ) (k j w : ℕ) → j ≢ k → slice_index (slice_set cells k w) j ≡ slice_index cells j
set_else cells k j w ne = get_or-set_other cells k j w 0 ne

-- walks over such cells drop
module _ (f : Forest) (cells : List ℕ) (all : (k : ℕ) → Fits f (owner k) (decoded (slice_index cells k))) where
  abbrev IsCalm : Place → Type 0
  IsCalm (ply o d) = Unit {0}
  IsCalm (balance o n) = Unit {0}
  IsCalm (adjacency o read) = ⊥
  IsCalm (ended e) = e ≡ answers.Drop

  calm_deeper : (d o : ℕ) (b : Bool) → IsCalm (if b then ply o (suc d) else ended answers.Drop)
  calm_deeper d o true = tt
  calm_deeper d o false = refl

  calm_ply : (x d : ℕ) (w : Word) → Fits f x w → IsCalm (from_ply d w)
  calm_ply x d words.Drop fits = refl
  calm_ply x d words.Receive fits = absurd fits
  calm_ply x d (words.Glean i) fits = absurd fits
  calm_ply x d (words.ToPly y) fits = calm_deeper d y (nat_lt d 7)
  calm_ply x d (words.ToBalance y) fits = tt
  calm_ply x d (words.ToAdjacency y) fits = absurd fits
  calm_ply x d (words.Plain n) fits = absurd fits

  calm_balance : (x n : ℕ) (w : Word) → Fits f x w → IsCalm (from_balance n w)
  calm_balance x n words.Drop fits = refl
  calm_balance x n words.Receive fits = absurd fits
  calm_balance x n (words.Glean i) fits = absurd fits
  calm_balance x n (words.ToPly y) fits = refl
  calm_balance x n (words.ToBalance y) fits = tt
  calm_balance x n (words.ToAdjacency y) fits = absurd fits
  calm_balance x n (words.Plain m) fits = absurd fits

  calm_step : (a h : ℕ) (p : Place) → IsCalm p → IsCalm (stepped cells a h p)
  calm_step a h (ply o d) calm = calm_ply (owner (16 * o + nibble a d)) d (word_at cells o (nibble a d)) (all (16 * o + nibble a d))
  calm_step a h (balance o n) calm = calm_balance (owner (16 * o + halved h n % 16)) n (word_at cells o (halved h n % 16)) (all (16 * o + halved h n % 16))
  calm_step a h (adjacency o read) calm = absurd calm
  calm_step a h (ended e) calm = calm

  calm_after : (a h n : ℕ) (p : Place) → IsCalm p → IsCalm (after cells a h n p)
  calm_after a h zero p calm = calm
  calm_after a h (suc n) p calm = calm_after a h n (stepped cells a h p) (calm_step a h p calm)

  calm_end : (p : Place) → IsCalm p → end_at p ≡ answers.Drop
  calm_end (ply o d) calm = refl
  calm_end (balance o n) calm = refl
  calm_end (adjacency o read) calm = refl
  calm_end (ended e) calm = calm

  pub walks_drop : (a h : ℕ) → walk cells a h ≡ answers.Drop
  unfolding walk
  walks_drop a h = calm_end (after cells a h (length cells / 16 + 1) root) (calm_after a h (length cells / 16 + 1) root tt)

-- edges lead backwards, and plies lie at their depths
module _ (f : Forest) (ok : IsForest f) (b : Board) (h : IsFilled f b.union) where
  abbrev u : Union
  u = b.union

  edge_fits : (j v : ℕ) → Goes u j v → IsDeeper f (owner j) (decoded v) ⊎ IsLast f (owner j) (decoded v)
  edge_fits j v g = side f (owner j) (decoded v) (h.copies j v g) (sym (goes_of v (decoded v) refl) ∙ g.0)

  edge_up : (x y : ℕ) → Edge u x y → rank f x < rank f y
  edge_up x y (k, w, from, to, g) =
      let lt = greater f ok (owner k) (decoded w) (h.copies k w g) (sym (goes_of w (decoded w) refl) ∙ g.0) in
      let same : value_of (decoded w) ≡ y = sym (target_of w (decoded w) refl) ∙ to in
      subst (λ (o : ℕ). rank f o < rank f y) from (subst (λ (o : ℕ). rank f (owner k) < rank f o) same lt)

  leads_up : (n x y : ℕ) → Walk (edges.Edge (edges_of u)) n x y → rank f x ≤ rank f y
  leads_up zero x y e = (let same : rank f x ≡ rank f y = ap (rank f) e in omega arith)
  leads_up (suc n) x y (z, e, more) =
      let up : rank f x < rank f z = edge_up x z (edge_words u h.edges x z e) in
      let on = leads_up n z y more in
      omega arith

  ply_down : (x y : ℕ) → PlyEdge u x y → (f.is_ply y ≡ true) × (f.depth y ≡ suc (f.depth x))
  ply_down x y (k, w, from, is, g) = subst (λ o. (f.is_ply y ≡ true) × (f.depth y ≡ suc (f.depth o))) from
      (let fits = subst (Fits f (owner k)) is (h.copies k w g) in (fits.1, fits.3))

  depth_of : (n x y : ℕ) → Walk (PlyEdge u) n x y → f.depth y ≡ n + f.depth x
  depth_of zero x y e = ap f.depth (sym e) ∙ plain (f.depth x)
    where
      plain : (a : ℕ) → a ≡ 0 + a
      plain a = omega arith
  depth_of (suc n) x y (z, e, more) =
      let one = (ply_down x z e).1 in
      let rest = depth_of n z y more in
      omega arith

  stays_low : (n x y : ℕ) → f.is_ply x ≡ true → Walk (PlyEdge u) n x y → f.is_ply y ≡ true
  stays_low zero x y is e = subst (λ o. f.is_ply o ≡ true) e is
  stays_low (suc n) x y is (z, e, more) = stays_low n z y (ply_down x z e).0 more

  -- a store of an edge
  module _ (all : b.objects ≡ f.objects) (k : ℕ) (w : Word) (inside : k < 16 * f.objects) (fits : Fits f (owner k) w) (edge : is_edge w ≡ true)
      (other : decoded (slice_index u.cells k) ≢ w) (formed : (s : ℕ) → s < 16 → HasForm w s (word_at u.cells (value_of w) s))
      (linked : (c : ℕ) → w ≡ words.ToPly c → owner k ≢ 0 → LeadsNow u.cells (owner k))
      (unlinked : (c : ℕ) → decoded (slice_index u.cells k) ≡ words.ToPly c → IsLeaf u.cells c) where
    pub back : decoded (encoded w) ≡ w
    back = decoded_encoded w (roomy f (owner k) w ok.few fits)

    leads : target (encoded w) ≡ value_of w
    leads = target_of (encoded w) w back

    mine : IsDeeper f (owner k) w ⊎ IsLast f (owner k) w
    mine = side f (owner k) w fits edge

    owned : f.is_ply (owner k) ≡ true
    owned = ⊎_elim (λ (d : IsDeeper f (owner k) w). d.1) (λ (l : IsLast f (owner k) w). l.1) mine

    -- an edge into the object of the cell comes from a ply
    from_ply_edge : (j v : ℕ) → Goes u j v → target v ≡ owner k → tag_of (decoded v) ≡ 3
    from_ply_edge j v g e = ⊎_elim
        (λ (d : IsDeeper f (owner j) (decoded v)). d.0)
        (λ (l : IsLast f (owner j) (decoded v)). absurd (true≢false (sym owned ∙ ap f.is_ply (sym e ∙ target_of v (decoded v) refl) ∙ l.2)))
        (edge_fits j v g)

    one_tag : (j v : ℕ) → Goes u j v → target v ≡ target (encoded w) → tag_of (decoded v) ≡ tag_of (decoded (encoded w))
    one_tag j v g e =
        let is : value_of (decoded v) ≡ value_of w = sym (target_of v (decoded v) refl) ∙ e ∙ leads in
        ⊎_elim
        (λ (d : IsDeeper f (owner j) (decoded v)). ⊎_elim
        (λ (c : IsDeeper f (owner k) w). d.0 ∙ sym c.0 ∙ ap tag_of (sym back))
        (λ (l : IsLast f (owner k) w). absurd (true≢false (sym d.2 ∙ ap f.is_ply is ∙ l.2))) mine)
        (λ (d : IsLast f (owner j) (decoded v)). ⊎_elim
        (λ (c : IsDeeper f (owner k) w). absurd (true≢false (sym c.2 ∙ ap f.is_ply (sym is) ∙ d.2)))
        (λ (l : IsLast f (owner k) w). d.0 ∙ sym l.0 ∙ ap tag_of (sym back)) mine)
        (edge_fits j v g)

    shallow : tag_of (decoded (encoded w)) ≡ 3 → (n m y : ℕ) → Walk (PlyEdge u) n 0 (owner k) → Walk (PlyEdge u) m (target (encoded w)) y → n + 1 + m ≤ 7
    shallow three n m y up down = ⊎_elim
        (λ (d : IsDeeper f (owner k) w).
        let top : f.depth (owner k) ≡ n + f.depth 0 = depth_of n 0 (owner k) up in
        let from : f.depth y ≡ m + f.depth (value_of w) = subst (λ o. f.depth y ≡ m + f.depth o) leads (depth_of m (target (encoded w)) y down) in
        let low : f.is_ply y ≡ true = stays_low m (value_of w) y d.2 (subst (λ o. Walk (PlyEdge u) m o y) leads down) in
        let most = ok.low y low in
        let zero_deep = ok.root in
        let one = d.4 in
        omega arith)
        (λ (l : IsLast f (owner k) w). absurd (let a : tag_of w ≡ 3 = sym (ap tag_of back) ∙ three in let c = l.0 in let bad : ⊥ = omega arith in bad))
        mine

    others : (tag_of (decoded (encoded w)) ≡ 3 → ⊥) → (j v : ℕ) → Goes u j v → tag_of (decoded v) ≡ 3 → owner j ≢ target (encoded w)
    others no_ply j v g three e = ⊎_elim
        (λ (d : IsDeeper f (owner j) (decoded v)). ⊎_elim
        (λ (c : IsDeeper f (owner k) w). no_ply (ap tag_of back ∙ c.0))
        (λ (l : IsLast f (owner k) w). absurd (true≢false (sym d.1 ∙ ap f.is_ply (e ∙ leads) ∙ l.2))) mine)
        (λ (d : IsLast f (owner j) (decoded v)). let a = d.0 in let bad : ⊥ = omega arith in bad)
        (edge_fits j v g)

    enter : MayEnter u k (encoded w)
    enter = record {
      away = (λ e. let lt = greater f ok (owner k) w fits edge in let z : rank f (value_of w) ≡ rank f 0 = ap (rank f) (sym leads ∙ e) in let t = rank_ply f 0 ok.top in let r = ok.root in omega arith);
      one_tag = one_tag;
      formed = λ s lt. subst (λ (x : Word × ℕ). HasForm x.0 s (word_at u.cells x.1 s)) (λ i. (sym back i, sym leads i)) (formed s lt);
      plies = λ three j v g e. from_ply_edge j v g e;
      shallow = shallow;
      others = others;
    }

    pub then_fits : (j : ℕ) → Fits f (owner j) (decoded (slice_index (slice_set u.cells k (encoded w)) j))
    then_fits j = ⊎_elim
        (λ (e : slice_index (slice_set u.cells k (encoded w)) j ≡ slice_index u.cells j). subst (λ n. Fits f (owner j) (decoded n)) (sym e) (h.found j))
        (λ (e : (j ≡ k) × (slice_index (slice_set u.cells k (encoded w)) j ≡ encoded w)). subst (λ (x : ℕ × ℕ). Fits f (owner x.0) (decoded x.1)) (λ i. (sym e.0 i, sym e.1 i)) (subst (Fits f (owner k)) (sym back) fits))
        (set_cases u.cells k j (encoded w))

    change : MayStoreSteadily (as_control b) k (encoded w) → MayChange (as_control b) k w
    change steadily = record {
      roomy = roomy f (owner k) w ok.few fits;
      root = λ z. inl (ply_word f (owner k) w fits edge);
      form = λ j v g e. ply_form (decoded v) w (k % 16) (from_ply_edge j v g e) (ply_word f (owner k) w fits edge);
      whole = λ j v o g is. absurd (subst (Fits f (owner j)) is (h.copies j v g));
      edge = λ going. enter;
      end = no_end f (owner k) w (IsEndOf b.log.history b.log.version.settled b.log.version.applied) u.cells fits;
      drops = λ z a h' flow. walks_drop f (slice_set u.cells k (encoded w)) then_fits a h';
      steady = steadily;
      rooted = record {
        links = λ c is. linked c (sym back ∙ is);
        unlinks = λ c is. inl (unlinked c is);
      };
    }

    place : Allows b → MayPlace (as_control b) k w
    place allowed = record {
      inside = omega (arith, all, inside);
      other = other;
      target = λ y e. let t = (edge_is (encoded w) y e).1 in let up = greater f ok (owner k) w fits edge in let lt = below f (owner k) w fits edge in let is = leads in
          ((let small : y < b.objects = omega arith in small), λ l. let on = leads_up l.0 y (owner k) l.1 in let same : rank f (value_of w) ≡ rank f y = ap (rank f) (sym is ∙ t) in let bad : ⊥ = omega arith in bad);
      allowed = allowed;
    }

    pub may_fill : Allows b → MayStoreSteadily (as_control b) k (encoded w) → MayStore b k w
    may_fill allowed steadily = record {
      place = place allowed;
      seen = λ reached. change steadily;
      aside = λ is. absurd (no_drop w edge is);
    }
