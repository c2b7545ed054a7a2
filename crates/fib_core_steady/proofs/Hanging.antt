-- Stores and looks keep plies hanging together; so no edge to a ply leaves an object into which nothing leads.
use Rattle.std.proofs.Common.{◌&&◌, ◌≡◌, ◌≢◌, ◌<◌, inl, inr, ⊎_elim, Bool, true, false, ℕ, zero, suc, List, [], ◌∷◌, length, refl, sym, ap, ◌∙◌, subst, get_or-set_other, get_or-set_same, length-set}
use Rattle.std.specs.Prelude.{slice_index, slice_set, replicate}
use Rattle.std.specs.List.{AllByRecursion}
use native.Mathlib.Decide.{ℕ_discrete}
use mathlib.Core.Logic.{dite}
use Rattle.fib_reach.specs.Walks.{IsAcyclic}
use Rattle.fib_reach.proofs.Walking.{edge_reaches}
use Rattle.fib_union.specs.Marks.{Mark, unseen, mark_at, next_mark, looked, all_passed}
use Rattle.fib_union.specs.Unions.{owner}
use Rattle.fib_core.specs.declared.word.Word.{Word}
use Rattle.fib_core.specs.declared.word.Word.TheVariants as words
use Rattle.fib_core.specs.Words.{decoded, goes, target}
use Rattle.fib_core.specs.Union.{Retired, Union, Goes, Edge, retire_if, must_retire, stored, drop_if, remark, scan_retired, scanned, AreEdges}
use Rattle.fib_core.proofs.Numbers.{zeros, decoded-zero, goes_of, target_of}
use Rattle.fib_core_steady.specs.Names.{IsWalked, LeadsNow}
use Rattle.fib_core_steady.specs.inner.Backed.{AreOrdered}
use Rattle.fib_core_steady.specs.Rooted.{IsRooted, IsLeaf, IsRootedStore, PliesHang}
use Rattle.fib_core_steady.proofs.Backed.{IsBackedStore, backed_stored, none_leaves}
use Rattle.fib_core_steady.proofs.Ahead.{ordered_stored, scan_ordered, backed_scanned}

-- nothing leads into the object
abbrev pub IsAside : Union → ℕ → Type 0
IsAside u o = (j v : ℕ) → Goes u j v → target v ≡ o → ⊥

ply_goes : (u : Union) (j c : ℕ) → decoded (slice_index u.cells j) ≡ words.ToPly c → Goes u j (slice_index u.cells j)
ply_goes u j c is = (goes_of (slice_index u.cells j) (words.ToPly c) is, inl refl)

ply_to : (n c : ℕ) → decoded n ≡ words.ToPly c → target n ≡ c
ply_to n c is = target_of n (words.ToPly c) is

no_drop : (w : Word) (c : ℕ) → w ≡ words.Drop → w ≡ words.ToPly c → ⊥
no_drop w c e f = cc

module _ (u : Union) (calm : IsAcyclic (Edge u)) where
  -- no cell leads to its own object
  not_own : (k : ℕ) → decoded (slice_index u.cells k) ≡ words.ToPly (owner k) → ⊥
  not_own k is = calm (owner k) (edge_reaches (Edge u) (owner k) (owner k) (k, slice_index u.cells k, refl, ply_to (slice_index u.cells k) (owner k) is, ply_goes u k (owner k) is))

  pub rooted_backs : IsRooted u.cells → (k : ℕ) → IsBackedStore u k
  rooted_backs ok k c ply ne =
      let from = ok k c ply ne in
      (from.0, (λ same. not_own k (ap (λ i. decoded (slice_index u.cells i)) (sym same) ∙ from.1)), from.1)

  module _ (k w : ℕ) (room : k < length u.cells) (may : IsRootedStore u.cells k w) (ok : IsRooted u.cells) where
    still : (j y : ℕ) → j ≢ k → decoded (slice_index u.cells j) ≡ words.ToPly y → LeadsNow (slice_set u.cells k w) y
    still j y ne is = (j, ap decoded (get_or-set_other u.cells k j w 0 ne) ∙ is)

    new_cell : (c : ℕ) → decoded w ≡ words.ToPly c → owner k ≢ 0 → LeadsNow (slice_set u.cells k w) (owner k)
    new_cell c is ne =
        let from = may.links c is ne in
        still from.0 (owner k) (λ same. not_own k (ap (λ i. decoded (slice_index u.cells i)) (sym same) ∙ from.1)) from.1

    old_cell : (j c : ℕ) → decoded (slice_index u.cells j) ≡ words.ToPly c → owner j ≢ 0 → LeadsNow (slice_set u.cells k w) (owner j)
    old_cell j c is ne =
        let from = ok j c is ne in
        dite (ℕ_discrete from.0 k)
        (λ same. ⊎_elim
        (λ (leaf : IsLeaf u.cells (owner j)). absurd (leaf j c refl is))
        (λ (other : (m : ℕ) × (m ≢ k) × (decoded (slice_index u.cells m) ≡ words.ToPly (owner j))). still other.0 (owner j) other.1 other.2)
        (may.unlinks (owner j) (ap (λ i. decoded (slice_index u.cells i)) (sym same) ∙ from.1)))
        (λ apart. still from.0 (owner j) apart from.1)

    pub rooted_stored : IsRooted (slice_set u.cells k w)
    rooted_stored j c is ne = dite (ℕ_discrete j k)
        (λ same. subst (λ i. LeadsNow (slice_set u.cells k w) (owner i)) (sym same)
        (new_cell c (ap decoded (sym (get_or-set_same u.cells k w 0 room)) ∙ ap (λ i. decoded (slice_index (slice_set u.cells k w) i)) (sym same) ∙ is) (λ z. ne (ap owner same ∙ z))))
        (λ apart. old_cell j c (ap decoded (sym (get_or-set_other u.cells k j w 0 apart)) ∙ is) ne)

-- a Drop where nothing leads asks nothing
pub aside_rooted : (u : Union) (k : ℕ) → IsRooted u.cells → owner k ≢ 0 → IsAside u (owner k) → IsRootedStore u.cells k 0
aside_rooted u k ok other none = record {
  links = λ c is ne. absurd (no_drop (decoded 0) c decoded-zero is);
  unlinks = λ c is. (let from = ok k c is other in absurd (none from.0 (slice_index u.cells from.0) (ply_goes u from.0 (owner k) from.1) (ply_to (slice_index u.cells from.0) (owner k) from.1)));
}

-- retired words are edges

edges_when : (b : Bool) (r : Retired) (rs : List Retired) → goes r.word ≡ true → AreEdges rs → AreEdges (retire_if b r rs)
edges_when true r rs here all = (here, all)
edges_when false r rs here all = all

edges_stored : (keep g : Bool) (k old : ℕ) (marks : List Mark) (rs : List Retired) → goes old ≡ g → AreEdges rs → AreEdges (retire_if (keep && g) (record { cell = k; word = old; marks = marks }) rs)
edges_stored false g k old marks rs is all = all
edges_stored true true k old marks rs is all = (is, all)
edges_stored true false k old marks rs is all = all

edges_dropped : (b : Bool) (r : Retired) (rs : List Retired) → goes r.word ≡ true → AreEdges rs → AreEdges (drop_if b r rs)
edges_dropped true r rs here all = all
edges_dropped false r rs here all = (here, all)

edges_scanned : (n w : ℕ) (rs : List Retired) → AreEdges rs → AreEdges (scan_retired n w rs)
edges_scanned n w [] all = tt
edges_scanned n w (r ∷ rs) all = edges_dropped (all_passed (looked n w r.marks)) (remark n w r) (scan_retired n w rs) all.0 (edges_scanned n w rs all.1)

-- each retirement has a mark a worker

replicated : (k : ℕ) → length (replicate k unseen) ≡ k
replicated zero = refl
replicated (suc k) = ap suc (replicated k)

long_drop : (count : ℕ) (b : Bool) (r : Retired) (rs : List Retired) → length r.marks ≡ count → AllByRecursion (λ q. length q.marks ≡ count) rs → AllByRecursion (λ q. length q.marks ≡ count) (drop_if b r rs)
long_drop count true r rs here rest = rest
long_drop count false r rs here rest = (here, rest)

long_scanned : (count n w : ℕ) (rs : List Retired) → AllByRecursion (λ r. length r.marks ≡ count) rs → AllByRecursion (λ r. length r.marks ≡ count) (scan_retired n w rs)
long_scanned count n w [] h = tt
long_scanned count n w (r ∷ rs) h = long_drop count (all_passed (looked n w r.marks)) (remark n w r) (scan_retired n w rs) (length-set r.marks n (next_mark w (mark_at r.marks n)) ∙ h.0) (long_scanned count n w rs h.1)

-- a cell is stored
module _ (workers : ℕ) (u : Union) (k w : ℕ) (h : PliesHang workers u) where
  ordered_when : (b : Bool) → AreOrdered (retire_if b (record { cell = k; word = slice_index u.cells k; marks = replicate workers unseen }) u.retired)
  ordered_when true = ordered_stored k (slice_index u.cells k) workers u.retired h.long h.ordered
  ordered_when false = h.ordered

  long_when : (b : Bool) → AllByRecursion (λ r. length r.marks ≡ workers) (retire_if b (record { cell = k; word = slice_index u.cells k; marks = replicate workers unseen }) u.retired)
  long_when true = (replicated workers, h.long)
  long_when false = h.long

  pub hangs_stored : IsAcyclic (Edge u) → k < length u.cells → IsRootedStore u.cells k w → PliesHang workers (stored (must_retire u k) (replicate workers unseen) u k w)
  hangs_stored calm room may = record {
    rooted = rooted_stored u calm k w room may h.rooted;
    backed = backed_stored u (replicate workers unseen) k w (rooted_backs u calm h.rooted k) h.backed;
    ordered = ordered_when (must_retire u k && goes (slice_index u.cells k));
    long = long_when (must_retire u k && goes (slice_index u.cells k));
    edges = edges_stored (must_retire u k) (goes (slice_index u.cells k)) k (slice_index u.cells k) (replicate workers unseen) u.retired refl h.edges;
  }

-- a pass word is loaded
pub hangs_scanned : (workers : ℕ) (u : Union) (n found : ℕ) → PliesHang workers u → PliesHang workers (scanned u n found)
hangs_scanned workers u n found h = record {
  rooted = h.rooted;
  backed = backed_scanned u n found h.ordered h.backed;
  ordered = scan_ordered n found u.retired h.ordered;
  long = long_scanned workers n found u.retired h.long;
  edges = edges_scanned n found u.retired h.edges;
}

-- no edge to a ply leaves an object into which nothing leads
pub none_leaves_aside : (workers : ℕ) (u : Union) (o : ℕ) → PliesHang workers u → o ≢ 0 → IsAside u o → (k w y : ℕ) → Goes u k w → decoded w ≡ words.ToPly y → owner k ≢ o
none_leaves_aside workers u o h other none = none_leaves u o h.backed other unwalked leaf
  where
    unwalked : IsWalked u o → ⊥
    unwalked (inl is) = other is
    unwalked (inr (y, (j, v, from, is, g))) = none j v g (ply_to v o is)

    leaf : (k y : ℕ) → owner k ≡ o → decoded (slice_index u.cells k) ≡ words.ToPly y → ⊥
    leaf k y at is =
        let from = h.rooted k y is (λ z. other (sym at ∙ z)) in
        none from.0 (slice_index u.cells from.0) (ply_goes u from.0 (owner k) from.1) (ply_to (slice_index u.cells from.0) (owner k) from.1 ∙ at)

-- a fresh table
pub hangs_fresh : (cells workers : ℕ) → PliesHang workers (record { cells = replicate cells 0; retired = [] })
hangs_fresh cells workers = record {
  rooted = λ k c is ne. absurd (no_drop (decoded 0) c decoded-zero (ap decoded (sym (zeros cells k)) ∙ is));
  backed = tt;
  ordered = tt;
  long = tt;
  edges = tt;
}
