-- A board's store, and counts of a pool.
use Rattle.std.proofs.Common.{arith, ◌≡◌, ◌≢◌, ℕ, ◌+◌, ◌<◌, inl, inr, Bool, true, false, cond, ◌&&◌, eq-eqb, ne_eqb, List, length, set, map, Option, Some, None, refl, sym, ◌∙◌, ap, get_or-set_same, get_or-set_other}
use Rattle.std.specs.Prelude.{slice_index, count_by, if◌then◌else◌}
use Rattle.std.proofs.lemmas.Bool.{cases_eq}
use Rattle.std.proofs.lemmas.List.{length-map}
use Rattle.std.proofs.lemmas.List.Sums.{sum_by-set}
use Rattle.fib_union.specs.Unions as edges
use Rattle.fib_union.specs.Unions.{owner, edge_at, one, into, left_if, left_at_once}
use Rattle.fib_union.proofs.Stores.{into-stored}
use Rattle.fib_union.proofs.Counts.{no_retire, has_in_counted}
use Rattle.fib_core.specs.declared.word.Word.{Word}
use Rattle.fib_core.specs.declared.word.Word.TheVariants as words
use Rattle.fib_core.specs.Words.{IsRoomy, encoded, decoded, goes, target, is_edge, value_of}
use Rattle.fib_core.specs.Union.{edge_in, must_retire, retire_if}
use Rattle.fib_core.proofs.Numbers.{decoded_encoded}
use Rattle.fib_core.proofs.Unions.{edge_in_at}
use Rattle.fib_core_lawful.specs.State.{fresh_marks}
use Rattle.fib_pool.specs.declared.object.Object.{Object}
use Rattle.fib_pool.specs.Objects.{at, count_in, count_of, recount, with_count, IsDying}
use Rattle.fib_pool.proofs.Pools.{none_some, at_in}
use Rattle.fib_core_board.specs.Boards.{Board, as_control, edge_of, word_in, union_of, board_stored}
use Rattle.fib_core_board.specs.May.{IsReached}
use Rattle.fib_core_board.proofs.Serving.{union_stored}
use Rattle.fib_plane.specs.Planes.{leads_from, is_word, filled}

pub edge_at_word : (b : Board) (k : ℕ) → edge_at (union_of b).edges k ≡ leads_from b k
edge_at_word b k = edge_in_at b.union.cells k

-- where a cell leads is told by its word
abbrev pub edge_word : Word → Option ℕ
edge_word w = if is_edge w then Some (value_of w) else None

pub edge_is : (n : ℕ) → edge_in n ≡ edge_word (decoded n)
unfolding goes target
edge_is n = refl

pub target_is : (w : Word) → IsRoomy w → edge_word w ≡ edge_of w
target_is w roomy = sym (edge_is (encoded w) ∙ ap edge_word (decoded_encoded w roomy))

pub edge_same : (b c : Board) (k : ℕ) → word_in c k ≡ word_in b k → leads_from c k ≡ leads_from b k
edge_same b c k e = edge_is (slice_index c.union.cells k) ∙ ap edge_word e ∙ sym (edge_is (slice_index b.union.cells k))

-- how many edges lead to an object after a store
pub into_stored : (b : Board) (k : ℕ) (w : Word) (z : ℕ) → k < length b.union.cells → into (union_of (board_stored b k w)) z + one z (left_at_once (union_of b) k) ≡ into (union_of b) z + one z (edge_of w)
into_stored b k w z lt = ap (λ (u : edges.Union). into u z + one z (left_at_once (union_of b) k)) (union_stored b k w) ∙ into-stored (union_of b) b.workers k (edge_of w) z (let l : length (map edge_in b.union.cells) ≡ length b.union.cells = length-map b.union.cells edge_in in omega arith)

-- where no pass comes, the edge leaves at once
module _ (b : Board) (k : ℕ) (ne : owner k ≢ 0) (none : into (union_of b) (owner k) ≡ 0) where
  pub leaves : edges.must_retire (union_of b) k ≡ false
  leaves = no_retire (union_of b) k ne none

  pub left_is : left_at_once (union_of b) k ≡ leads_from b k
  left_is = ap (λ (c : Bool). left_if c (edge_at (union_of b).edges k)) leaves ∙ edge_at_word b k

  pub not_reached : IsReached b (owner k) → ⊥
  not_reached (inl e) = ne e
  not_reached (inr h) = (let p = has_in_counted (union_of b) (owner k) h in absurd (let bad : ⊥ = omega arith in bad))

  keeps_none : must_retire b.union k ≡ false
  unfolding must_retire
  keeps_none = leaves

  pub retired_same : (w : Word) → (board_stored b k w).union.retired ≡ b.union.retired
  retired_same w = ap (λ (c : Bool). retire_if (c && goes (slice_index b.union.cells k)) (record { cell = k; word = slice_index b.union.cells k; marks = fresh_marks (as_control b) }) b.union.retired) keeps_none

pub word_same : (b : Board) (k : ℕ) (w : Word) → IsRoomy w → k < length b.union.cells → word_in (board_stored b k w) k ≡ w
word_same b k w roomy lt = ap decoded (get_or-set_same b.union.cells k (encoded w) 0 lt) ∙ decoded_encoded w roomy

pub word_other : (b : Board) (k j : ℕ) (w : Word) → j ≢ k → word_in (board_stored b k w) j ≡ word_in b j
word_other b k j w ne = ap decoded (get_or-set_other b.union.cells k j (encoded w) 0 ne)

is_word-true : (w : Word) → w ≢ words.Drop → is_word w ≡ true
is_word-true words.Drop ne = absurd (ne refl)
is_word-true words.Receive ne = refl
is_word-true (words.Glean i) ne = refl
is_word-true (words.ToPly o) ne = refl
is_word-true (words.ToBalance o) ne = refl
is_word-true (words.ToAdjacency o) ne = refl
is_word-true (words.Plain n) ne = refl

pub filled_less : (b : Board) (k : ℕ) → k < length b.union.cells → word_in b k ≢ words.Drop → filled (board_stored b k words.Drop) + 1 ≡ filled b
unfolding filled
filled_less b k lt ne =
    let a : count_by (λ (n : ℕ). is_word (decoded n)) (set b.union.cells k (encoded words.Drop)) + cond (is_word (word_in b k)) 1 0 ≡ count_by (λ (n : ℕ). is_word (decoded n)) b.union.cells + cond (is_word (decoded (encoded words.Drop))) 1 0 = sum_by-set (λ (n : ℕ). cond (is_word (decoded n)) 1 0) b.union.cells k (encoded words.Drop) 0 lt in
    let z : ◌≡◌ {A = ℕ} (cond (is_word (word_in b k)) 1 0) 1 = ap (λ (c : Bool). cond c 1 0) (is_word-true (word_in b k) ne) in
    let d : ◌≡◌ {A = ℕ} (cond (is_word (decoded (encoded words.Drop))) 1 0) 0 = ap (λ (w : Word). cond (is_word w) 1 0) (decoded_encoded words.Drop tt) in
    omega arith

-- counts

pub dying_count : (xs : List (Option Object)) (o : ℕ) → IsDying xs o → count_of xs o ≡ 0
dying_count xs o d = ap count_in d.1

module _ (xs : List (Option Object)) (y n : ℕ) (x : Object) (is : at xs y ≡ Some x) where
  pub at_same : at (with_count xs y n) y ≡ Some (record { kind = x.kind; count = n })
  at_same = get_or-set_same xs y (recount n (at xs y)) None (at_in xs y x is) ∙ ap (recount n) is

  pub at_other : (z : ℕ) → z ≢ y → at (with_count xs y n) z ≡ at xs z
  at_other z ne = get_or-set_other xs y z (recount n (at xs y)) None ne

  pub count_same : count_of (with_count xs y n) y ≡ n
  count_same = ap count_in at_same

  pub none_same : (z : ℕ) → at (with_count xs y n) z ≡ None → at xs z ≡ None
  none_same z e = elim (cases_eq z y) [
    | inl same ↦ absurd (none_some (sym e ∙ (ap (λ (q : ℕ). at (with_count xs y n) q) same ∙ at_same)))
    | inr ne ↦ sym (at_other z ne) ∙ e
  ]

  pub kind_same : (z : ℕ) (v : Object) → at (with_count xs y n) z ≡ Some v → (w : Object) × (at xs z ≡ Some w) × (w.kind ≡ v.kind)
  kind_same z v e = elim (cases_eq z y) [
    | inl same ↦ (x, ap (λ (q : ℕ). at xs q) same ∙ is, (let f : Some (record { kind = x.kind; count = n }) ≡ Some v = sym at_same ∙ (ap (λ (q : ℕ). at (with_count xs y n) q) (sym same) ∙ e) in let g : record { kind = x.kind; count = n } ≡ v = cc in ap (λ (q : Object). q.kind) g))
    | inr ne ↦ (v, sym (at_other z ne) ∙ e, refl)
  ]

  -- one count less
  pub count_less : (z : ℕ) → n + 1 ≡ count_of xs y → count_of (with_count xs y n) z + one z (Some y) ≡ count_of xs z
  count_less z e = elim (cases_eq z y) [
    | inl same ↦ (let a : count_of (with_count xs y n) z ≡ n = ap (λ (q : ℕ). count_of (with_count xs y n) q) same ∙ count_same in
        let c : count_of xs z ≡ count_of xs y = ap (λ (q : ℕ). count_of xs q) same in
        let o : ◌≡◌ {A = ℕ} (one z (Some y)) 1 = ap (λ (t : Bool). cond t 1 0) (eq-eqb y z (sym same)) in omega arith)
    | inr ne ↦ (let a : count_of (with_count xs y n) z ≡ count_of xs z = ap count_in (at_other z ne) in
        let o : ◌≡◌ {A = ℕ} (one z (Some y)) 0 = ap (λ (t : Bool). cond t 1 0) (ne_eqb y z (λ q. ne (sym q))) in omega arith)
  ]
