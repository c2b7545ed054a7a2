-- Each store of the filling may be made, and after the last, once the worker is seen at rest, the board stands for the fresh tables. The stores of
-- the ply that grows may be made too, where they keep the promise of steady traffic.
use Rattle.std.proofs.Common.{◌≡◌, ◌≢◌, inl, inr, ⊎_elim, ℕ, zero, suc, ◌+◌, ◌-◌, ◌*◌, ◌%◌, ◌<◌, ◌≤◌, true, false, List, [], ◌∷◌, length, refl, sym, ap, ◌∙◌, subst, arith, length-set}
use Rattle.std.specs.Prelude.{Bool, if◌then◌else◌, nat_lt, not, replicate, slice_index, slice_index_or, slice_set, ◌==◌, ◌&&◌, ◌||◌}
use Rattle.std.specs.List.{AllByRecursion}
use Rattle.std.proofs.lemmas.Bool.{eq-eqb, eqb-true, false≢true, ltb-true, ne_eqb}
use mathlib.Core.Logic.{dite}
use native.Mathlib.Decide.{ℕ_discrete}
use Rattle.fib_base_list.proofs.Booleans.{and_both, or_cases}
use Rattle.fib_base_list.proofs.Lists.{either}
use Rattle.fib_union.specs.Marks.{Mark, all_passed, is_even, looked, unseen}
use Rattle.fib_union.specs.Unions.{owner}
use Rattle.fib_core.specs.declared.word.Word.{Word}
use Rattle.fib_core.specs.declared.word.Word.TheVariants as words
use Rattle.fib_core.specs.Words.{decoded, encoded, goes, is_edge, tag_of, target, value_of}
use Rattle.fib_core.specs.Walk.{word_at}
use Rattle.fib_core.specs.Union.{AnyOf, AreEdges, Goes, HasForm, IsBucketWord, IsPlyWord, Retired, must_retire, retire_if, scan_retired, scanned}
use Rattle.fib_core.proofs.Numbers.{cell_of, goes-zero, target_of}
use Rattle.fib_core.proofs.Unions.{goes_stored}
use Rattle.fib_core_lawful.specs.State.{Log, first_control}
use Rattle.fib_core_lawful.proofs.Begins.{drop_at, falses, length_zeros, no_goes}
use Rattle.fib_core_steady.specs.Names.{LeadsNow}
use Rattle.fib_core_steady.specs.Rooted.{IsLeaf}
use Rattle.fib_core_rule.specs.Steady.{MayStoreSteadily}
use Rattle.fib_core_board.specs.Boards.{Board, IsFresh, as_control, board_of, board_scanned, board_stored}
use Rattle.fib_core_board.specs.May.{Allows, MayStore, HoldsPromise}
use Rattle.trial_filling.specs.inner.Filled.{Fits, IsForest}
use Rattle.trial_filling.specs.inner.Fresh.{after_stores, all_below, cell_at, depth_of, fits_by, forest, is_good, is_leaf, is_ply, is_ply_word, link_cell, number_of, same_word, word_of_store}
use Rattle.trial_filling.specs.inner.Filling.{HasStores, IsFilling, IsFirst, IsReady}
use Rattle.trial_filling.proofs.Forests as forests
use Rattle.trial_filling.proofs.Freshly.{all_good, entries_are_prefixes, in_range, none_to_twenty, same_is, stand_for_fresh}

is_forest : IsForest forest
is_forest = record { few = omega arith; top = refl; root = refl; low = low }
  where
    early : (x : ℕ) → nat_lt x 15 ≡ true → (if nat_lt x 8 then x else x - 7) ≤ 7
    early x is = elim (either (nat_lt x 8)) [
      | inl less ↦ (let lt = ltb-true x 8 less in rw less (omega arith))
      | inr more ↦ (let lt = ltb-true x 15 is in rw more (omega arith))
    ]

    low : (x : ℕ) → is_ply x ≡ true → depth_of x ≤ 7
    low x is = elim (either (x == 20)) [
      | inl late ↦ rw late (omega arith)
      | inr soon ↦ rw soon (early x (⊎_elim (λ (e : nat_lt x 15 ≡ true). e) (λ (e : (x == 20) ≡ true). absurd (false≢true (sym soon ∙ e))) (or_cases (nat_lt x 15) (x == 20) is)))
    ]

not_is : (c : Bool) → not c ≡ true → c ≡ false
not_is true e = absurd (false≢true e)
not_is false e = refl

same_as : (w : Word) → same_word w w ≡ true
same_as w = rw (eq-eqb (tag_of w) (tag_of w) refl) (eq-eqb (value_of w) (value_of w) refl)

-- what the tests say
module _ (x : ℕ) where
  fits_is : (w : Word) → fits_by x w ≡ true → Fits forest x w × (is_edge w ≡ true)
  fits_is words.Drop e = absurd (false≢true e)
  fits_is words.Receive e = absurd (false≢true e)
  fits_is (words.Glean i) e = absurd (false≢true e)
  fits_is (words.ToPly y) e =
      let a = and_both (is_ply x) (is_ply y && (nat_lt y 64 && (depth_of y == suc (depth_of x)))) e in
      let b = and_both (is_ply y) (nat_lt y 64 && (depth_of y == suc (depth_of x))) a.1 in
      let c = and_both (nat_lt y 64) (depth_of y == suc (depth_of x)) b.1 in
      ((a.0, b.0, ltb-true y 64 c.0, eqb-true (depth_of y) (suc (depth_of x)) c.1), refl)
  fits_is (words.ToBalance y) e =
      let a = and_both (is_ply x) (not (is_ply y) && nat_lt y 64) e in
      let b = and_both (not (is_ply y)) (nat_lt y 64) a.1 in
      ((a.0, not_is (is_ply y) b.0, ltb-true y 64 b.1), refl)
  fits_is (words.ToAdjacency y) e = absurd (false≢true e)
  fits_is (words.Plain n) e = absurd (false≢true e)

  -- a balance's cells drop
  bucket_is : (w : Word) → is_ply x ≡ false → Fits forest x w → IsBucketWord w
  bucket_is words.Drop far fits = tt
  bucket_is words.Receive far fits = absurd fits
  bucket_is (words.Glean i) far fits = absurd fits
  bucket_is (words.ToPly y) far fits = absurd (false≢true (sym far ∙ fits.0))
  bucket_is (words.ToBalance y) far fits = absurd (false≢true (sym far ∙ fits.0))
  bucket_is (words.ToAdjacency y) far fits = absurd fits
  bucket_is (words.Plain n) far fits = absurd fits

ply_is : (w : Word) → is_ply_word w ≡ true → IsPlyWord w
ply_is words.Drop e = absurd (false≢true e)
ply_is words.Receive e = absurd (false≢true e)
ply_is (words.Glean i) e = absurd (false≢true e)
ply_is (words.ToPly y) e = tt
ply_is (words.ToBalance y) e = tt
ply_is (words.ToAdjacency y) e = absurd (false≢true e)
ply_is (words.Plain n) e = absurd (false≢true e)

-- stores keep what is kept of retired copies
edges_kept : (keep b : Bool) (r : Retired) (rs : List Retired) → goes r.word ≡ b → AreEdges rs → AreEdges (retire_if (keep && b) r rs)
edges_kept true true r rs is all = (is, all)
edges_kept true false r rs is all = all
edges_kept false b r rs is all = all

marks_kept : (b : Bool) (r : Retired) (rs : List Retired) → r.marks ≡ unseen ∷ [] → AllByRecursion (λ r. r.marks ≡ unseen ∷ []) rs → AllByRecursion (λ r. r.marks ≡ unseen ∷ []) (retire_if b r rs)
marks_kept true r rs is all = (is, all)
marks_kept false r rs is all = all

module _ (i : ℕ) (lt : i < 272) (b : Board) (all : b.objects ≡ 64) (alone : b.workers ≡ 1) (s : HasStores i b.union) where
  abbrev K : ℕ
  K = cell_at i

  abbrev W : Word
  W = word_of_store i

  abbrev Old : Word
  Old = after_stores i K

  abbrev Linked : Bool
  Linked = (owner K == 0) || (nat_lt (link_cell (owner K)) 1024 && same_word (after_stores i (link_cell (owner K))) (words.ToPly (owner K)))

  abbrev Grown : Bool
  Grown = all_below 16 (λ t. is_ply_word (after_stores i (16 * value_of W + t))) && Linked

  abbrev Last : Bool
  Last = if tag_of W == 3 then Grown else true

  abbrev Unlinked : Bool
  Unlinked = if tag_of Old == 3 then is_leaf i (value_of Old) else true

  good : is_good i ≡ true
  good = in_range 272 is_good i all_good lt

  first_two : (nat_lt K 1024 ≡ true) × (fits_by (owner K) W && (not (same_word Old W) && (Unlinked && Last)) ≡ true)
  first_two = and_both (nat_lt K 1024) (fits_by (owner K) W && (not (same_word Old W) && (Unlinked && Last))) good

  next_two : (fits_by (owner K) W ≡ true) × (not (same_word Old W) && (Unlinked && Last) ≡ true)
  next_two = and_both (fits_by (owner K) W) (not (same_word Old W) && (Unlinked && Last)) first_two.1

  then_two : (not (same_word Old W) ≡ true) × (Unlinked && Last ≡ true)
  then_two = and_both (not (same_word Old W)) (Unlinked && Last) next_two.1

  last_two : (Unlinked ≡ true) × (Last ≡ true)
  last_two = and_both Unlinked Last then_two.1

  pub inside : K < 1024
  inside = ltb-true K 1024 first_two.0

  pub fits : Fits forest (owner K) W × (is_edge W ≡ true)
  fits = fits_is (owner K) W next_two.0

  says_here : decoded (slice_index b.union.cells K) ≡ Old
  says_here = s.says K inside

  pub other : decoded (slice_index b.union.cells K) ≢ W
  other e = false≢true (sym (not_is (same_word Old W) then_two.0) ∙ ap (λ v. same_word v W) (sym says_here ∙ e) ∙ same_as W)

  -- a cell of the ply that is unlinked
  unlinked : (c : ℕ) → decoded (slice_index b.union.cells K) ≡ words.ToPly c → IsLeaf b.union.cells c
  unlinked c e j d own is =
      let old : Old ≡ words.ToPly c = sym says_here ∙ e in
      let three : (tag_of Old == 3) ≡ true = ap (λ v. tag_of v == 3) old in
      let leaf : is_leaf i (value_of Old) ≡ true = sym (ap (λ (t : Bool). if t then is_leaf i (value_of Old) else true) three) ∙ last_two.0 in
      let small : j < 1024 = in_board j (subst (Fits forest (owner j)) is (s.filled.found j)).0 in
      let cell : 16 * value_of Old + j % 16 ≡ j = ap (λ v. 16 * value_of v + j % 16) old ∙ ap (λ o. 16 * o + j % 16) (sym own) ∙ sym (cell_of j) in
      let flat = in_range 16 (λ t. not (tag_of (after_stores i (16 * value_of Old + t)) == 3)) (j % 16) leaf (omega arith) in
      false≢true (sym (not_is (tag_of (after_stores i (16 * value_of Old + j % 16)) == 3) flat)
      ∙ ap (λ n. tag_of (after_stores i n) == 3) cell ∙ ap (λ v. tag_of v == 3) (sym (s.says j small) ∙ is))
    where
      ply_small : (o : ℕ) → is_ply o ≡ true → o < 64
      ply_small o is = ⊎_elim
          (λ (e : nat_lt o 15 ≡ true). let l = ltb-true o 15 e in omega arith)
          (λ (e : (o == 20) ≡ true). let l = eqb-true o 20 e in omega arith)
          (or_cases (nat_lt o 15) (o == 20) is)

      in_board : (j : ℕ) → is_ply (owner j) ≡ true → j < 1024
      in_board j is = (let l = ply_small (owner j) is in omega arith)

  grown : tag_of W ≡ 3 → Grown ≡ true
  grown three = sym (ap (λ (c : Bool). if c then Grown else true) (eq-eqb (tag_of W) 3 three)) ∙ last_two.1

  form_by : (w : Word) → w ≡ W → (t : ℕ) → t < 16 → HasForm w t (word_at b.union.cells (value_of w) t)
  form_by words.Drop e t small = tt
  form_by words.Receive e t small = tt
  form_by (words.Glean n) e t small = tt
  form_by (words.Plain n) e t small = tt
  form_by (words.ToAdjacency y) e t small = absurd (subst (Fits forest (owner K)) (sym e) fits.0)
  form_by (words.ToPly y) e t small =
      let mine : Fits forest (owner K) (words.ToPly y) = subst (Fits forest (owner K)) (sym e) fits.0 in
      let low = mine.2 in
      let each = (and_both (all_below 16 (λ r. is_ply_word (after_stores i (16 * value_of W + r)))) Linked (grown (sym (ap tag_of e)))).0 in
      subst IsPlyWord (sym (s.says (16 * y + t) (omega arith)))
      (ply_is (after_stores i (16 * y + t)) (ap (λ v. is_ply_word (after_stores i (16 * value_of v + t))) e ∙ in_range 16 (λ r. is_ply_word (after_stores i (16 * value_of W + r))) t each small))
  form_by (words.ToBalance y) e t small =
      let mine : Fits forest (owner K) (words.ToBalance y) = subst (Fits forest (owner K)) (sym e) fits.0 in
      let own : owner (16 * y + t) ≡ y = omega arith in
      bucket_is (owner (16 * y + t)) (word_at b.union.cells y t) (ap is_ply own ∙ mine.1) (s.filled.found (16 * y + t))

  linked : (c : ℕ) → W ≡ words.ToPly c → owner K ≢ 0 → LeadsNow b.union.cells (owner K)
  linked c e ne =
      let either_way = (and_both (all_below 16 (λ r. is_ply_word (after_stores i (16 * value_of W + r)))) Linked (grown (ap tag_of e))).1 in
      ⊎_elim
      (λ (z : (owner K == 0) ≡ true). absurd (ne (eqb-true (owner K) 0 z)))
      (λ (h : nat_lt (link_cell (owner K)) 1024 && same_word (after_stores i (link_cell (owner K))) (words.ToPly (owner K)) ≡ true).
      let two = and_both (nat_lt (link_cell (owner K)) 1024) (same_word (after_stores i (link_cell (owner K))) (words.ToPly (owner K))) h in
      (link_cell (owner K), s.says (link_cell (owner K)) (ltb-true (link_cell (owner K)) 1024 two.0) ∙ same_is (after_stores i (link_cell (owner K))) (words.ToPly (owner K)) two.1))
      (or_cases (owner K == 0) (nat_lt (link_cell (owner K)) 1024 && same_word (after_stores i (link_cell (owner K))) (words.ToPly (owner K))) either_way)

  pub may : Allows b → MayStoreSteadily (as_control b) K (encoded W) → MayStore b K W
  may = forests.may_fill forest is_forest b s.filled all K W (let l = inside in omega arith) fits.0 fits.1 other (form_by W refl) linked unlinked

  pub no_drop : W ≢ words.Drop
  no_drop = forests.no_drop W fits.1

  pub back : decoded (encoded W) ≡ W
  back = forests.back forest is_forest b s.filled all K W (let l = inside in omega arith) fits.0 fits.1 other (form_by W refl) linked unlinked

  abbrev Then : Board
  Then = board_stored b (cell_at i) (word_of_store i)

  pub stored_has : HasStores (suc i) (board_stored b (cell_at i) (word_of_store i)).union
  unfolding after_stores
  stored_has = record {
    filled = record {
      found = forests.then_fits forest is_forest b s.filled all K W (let l = inside in omega arith) fits.0 fits.1 other (form_by W refl) linked unlinked;
      copies = λ j v g. ⊎_elim
          (λ (old : Goes b.union j v). s.filled.copies j v old)
          (λ (new : (j ≡ K) × (v ≡ encoded W)). subst (λ (x : ℕ × ℕ). Fits forest (owner x.0) (decoded x.1)) (λ t. (sym new.0 t, sym new.1 t)) (subst (Fits forest (owner K)) (sym back) fits.0))
          (goes_stored (must_retire b.union K) (replicate b.workers unseen) b.union K (encoded W) j v g);
      edges = edges_kept (must_retire b.union K) (goes (slice_index b.union.cells K)) (record { cell = K; word = slice_index b.union.cells K; marks = replicate b.workers unseen }) b.union.retired refl s.filled.edges;
    };
    long = length-set b.union.cells K (encoded W) ∙ s.long;
    says = says_then;
    marks = marks_kept (must_retire b.union K && goes (slice_index b.union.cells K)) (record { cell = K; word = slice_index b.union.cells K; marks = replicate b.workers unseen }) b.union.retired
        (ap (λ n. replicate n unseen) alone) s.marks;
  }
    where
      says_then : (k : ℕ) → k < 1024 → decoded (slice_index (slice_set b.union.cells (cell_at i) (encoded (word_of_store i))) k) ≡ (if k == cell_at i then word_of_store i else after_stores i k)
      says_then k small = dite (ℕ_discrete k (cell_at i))
          (λ same. ap decoded (ap (slice_index (slice_set b.union.cells (cell_at i) (encoded (word_of_store i)))) same ∙ forests.set_there_is b.union.cells (cell_at i) (encoded (word_of_store i)) (let l = s.long in let n = inside in omega arith)) ∙ back
          ∙ sym (ap (λ (c : Bool). if c then word_of_store i else after_stores i k) (eq-eqb k (cell_at i) same)))
          (λ ne. ap decoded (forests.set_else b.union.cells (cell_at i) k (encoded (word_of_store i)) ne) ∙ s.says k small
          ∙ sym (ap (λ (c : Bool). if c then word_of_store i else after_stores i k) (ne_eqb k (cell_at i) ne)))

-- before the first change
pub first_allows : (b : Board) → IsFirst b → Allows b
first_allows b f = inr (
  ap (λ (l : Log). l.version.applied) f.log,
  λ n. ap (λ bs. slice_index_or bs n false) f.home ∙ falses 8 n,
)

pub first_steadily : (b : Board) (k w : ℕ) → IsFirst b → MayStoreSteadily (as_control b) k w
first_steadily b k w f begun = absurd (let z : b.log.version.applied ≡ 0 = ap (λ (l : Log). l.version.applied) f.log in let bad : ⊥ = omega arith in bad)

pub first_serves : (b : Board) (Held : ℕ → Type 0) → IsFirst b → HoldsPromise b Held
first_serves b Held f begun = absurd (let z : b.log.version.applied ≡ 0 = ap (λ (l : Log). l.version.applied) f.log in let bad : ⊥ = omega arith in bad)

pub stored_serves : (b : Board) (k : ℕ) (w : Word) (Held : ℕ → Type 0) → IsFirst b → HoldsPromise (board_stored b k w) Held
stored_serves b k w Held f begun = absurd (let z : b.log.version.applied ≡ 0 = ap (λ (l : Log). l.version.applied) f.log in let bad : ⊥ = omega arith in bad)

pub may_fill : (i : ℕ) → i < 254 → (b : Board) → IsFilling i b → MayStore b (cell_at i) (word_of_store i)
may_fill i lt b f = may i (omega arith) b f.first.all f.first.alone f.stores (first_allows b f.first) (first_steadily b (cell_at i) (encoded (word_of_store i)) f.first)

pub stored_then : (i : ℕ) → i < 254 → (b c : Board) → IsFilling i b → c ≡ board_stored b (cell_at i) (word_of_store i) → IsFilling (i + 1) c
stored_then i lt b c f is =
    let next : suc i ≡ i + 1 = omega arith in
    subst (λ (n : ℕ). IsFilling n c) next (subst (IsFilling (suc i)) (sym is) (record {
      first = record { all = f.first.all; alone = f.first.alone; log = f.first.log; home = f.first.home };
      stores = stored_has i (omega arith) b f.first.all f.first.alone f.stores;
    }))

-- the first board
fresh_stores : HasStores 0 (first_control 64 1).union
unfolding after_stores
fresh_stores = record {
  filled = record {
    found = λ k. subst (Fits forest (owner k)) (sym (drop_at 1024 k)) tt;
    copies = λ j v g. absurd (no_goes 1024 j v g);
    edges = tt;
  };
  long = length_zeros {A = ℕ} 1024 0;
  says = λ k lt. drop_at 1024 k;
  marks = tt;
}

pub fresh_filling : (b : Board) → IsFresh b → b.objects ≡ 64 → b.workers ≡ 1 → IsFilling 0 b
fresh_filling b f all alone =
    let is : b ≡ board_of b.id [] b.passes (first_control 64 1) = f.fresh ∙ (λ i. board_of b.id [] b.passes (first_control (all i) (alone i))) in
    record {
      first = record { all = all; alone = alone; log = ap (λ (c : Board). c.log) is; home = ap (λ (c : Board). c.out) is };
      stores = subst (HasStores 0) (sym (ap (λ (c : Board). c.union) is)) fresh_stores;
    }

-- a look at a pass word that is even: nothing is retired then
none_left : (found : ℕ) (rs : List Retired) → is_even found ≡ true → AllByRecursion (λ r. r.marks ≡ unseen ∷ []) rs → scan_retired 0 found rs ≡ []
none_left found [] even all = refl
none_left found (r ∷ rs) even all =
    let gone : all_passed (looked 0 found r.marks) ≡ true = ap (λ (m : List Mark). all_passed (looked 0 found m)) all.0 ∙ passes in
    rw gone (none_left found rs even all.1)
  where
    passes : all_passed (looked 0 found (unseen ∷ [])) ≡ true
    passes = rw even refl

-- an edge lies in a cell that there is
in_range_of : (cells : List ℕ) (j v : ℕ) → goes v ≡ true → slice_index cells j ≡ v → j < length cells
in_range_of [] j v going is = absurd (false≢true (sym goes-zero ∙ ap goes is ∙ going))
in_range_of (x ∷ xs) zero v going is = omega arith
in_range_of (x ∷ xs) (suc j) v going is = let lt = in_range_of xs j v going is in omega arith

-- so a look may be taken while nobody is out
pub at_home : (b : Board) → IsFirst b → slice_index_or b.out 0 false ≡ false
at_home b f = ap (λ bs. slice_index_or bs 0 false) f.home

pub ready : (b c : Board) (found : ℕ) → IsFilling 254 b → is_even found ≡ true → c ≡ board_scanned 0 found b → IsReady c
ready b c found f even is = subst IsReady (sym is) (record {
  first = record { all = f.first.all; alone = f.first.alone; log = f.first.log; home = f.first.home };
  stands = record {
    names = number_of;
    prefixes = entries_are_prefixes;
    quiet = quiet;
    stands = stand_for_fresh b.union.cells f.stores.long f.stores.says;
  };
  named = stand_for_fresh b.union.cells f.stores.long f.stores.says;
  stores = record {
    filled = record {
      found = f.stores.filled.found;
      copies = λ j v g. f.stores.filled.copies j v (still j v g);
      edges = subst AreEdges (sym quiet) tt;
    };
    long = f.stores.long;
    says = f.stores.says;
    marks = subst (AllByRecursion (λ r. r.marks ≡ unseen ∷ [])) (sym quiet) tt;
  };
  free = none_to_free;
})
  where
    quiet : scan_retired 0 found b.union.retired ≡ []
    quiet = none_left found b.union.retired even f.stores.marks

    lies : (j v : ℕ) → Goes (scanned b.union 0 found) j v → slice_index b.union.cells j ≡ v
    lies j v (going, inl is) = is
    lies j v (going, inr a) = absurd (subst (AnyOf (λ (r : Retired). (r.cell ≡ j) × (r.word ≡ v))) quiet a)

    still : (j v : ℕ) → Goes (scanned b.union 0 found) j v → Goes b.union j v
    still j v g = (g.0, inl (lies j v g))

    none_to_free : (j v : ℕ) → Goes (scanned b.union 0 found) j v → target v ≡ 20 → ⊥
    none_to_free j v g e =
        let is = lies j v g in
        let small : j < 1024 = subst (λ n. j < n) f.stores.long (in_range_of b.union.cells j v g.0 is) in
        none_to_twenty j small (ap value_of (sym (f.stores.says j small) ∙ ap decoded is) ∙ sym (target_of v (decoded v) refl) ∙ e)
