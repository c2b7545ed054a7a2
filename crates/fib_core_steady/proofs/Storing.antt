-- Which stores keep the promise for the same names.
use Rattle.std.proofs.Common.{◌≡◌, ◌≢◌, ◌<◌, ◌+◌, ◌*◌, ◌%◌, inl, inr, ⊎_elim, Bool, ℕ, List, length, Some, refl, sym, ap, ◌∙◌, subst, arith, get_or-set_other, get_or-set_same}
use Rattle.std.specs.Prelude.{slice_index, slice_set}
use native.Mathlib.Decide.{ℕ_discrete}
use mathlib.Core.Logic.{dite}
use Rattle.fib_addr.specs.Prefixes.{Prefix}
use Rattle.fib_resolve.specs.declared.types.End.{End}
use Rattle.fib_resolve.specs.declared.types.End.TheVariants as answers
use Rattle.fib_resolve.specs.declared.types.Tables.{Tables}
use Rattle.fib_core.specs.declared.word.Word.TheVariants as words
use Rattle.fib_union.specs.Unions.{owner}
use Rattle.fib_core.specs.Words.{decoded, target}
use Rattle.fib_core.specs.Walk.{word_at, adjacency_end}
use Rattle.fib_union.specs.Marks.{Mark}
use Rattle.fib_core.specs.Union.{Union, Goes, stored}
use Rattle.fib_core.proofs.Numbers.{goes_of, target_of, owner_of, cell_of}
use Rattle.fib_core.proofs.Unions.{goes_stored}
use Rattle.fib_core.proofs.Walks.{adjacency_stored}
use Rattle.fib_resolve.specs.declared.aims.Aim.{Aim}
use Rattle.fib_resolve.specs.declared.aims.Aim.TheVariants as aims
use Rattle.fib_core_steady.specs.Aims.{IsLasting, WantsAlike}
use Rattle.fib_core_steady.specs.Names.{Names, IsChild, IsWalked}
use Rattle.fib_core_steady.specs.Loose.{IsLoose}
use Rattle.fib_core_steady.specs.Promise.{IsEndWord, IsAimed, KeepsCells, IsRight, IsPromised}
use Rattle.fib_core_steady.proofs.Edges.{child_of, ways_by}

-- the store is into none of an adjacency into which the union leads
abbrev pub IsBeside : Union → ℕ → Type 0
IsBeside u k = (j v o : ℕ) → Goes u j v → decoded v ≡ words.ToAdjacency o → owner k ≢ o

slot_of : (o s : ℕ) → s < 16 → (16 * o + s) % 16 ≡ s
slot_of o s lt = omega arith

pub other_cell : (cells : List ℕ) (k w o s : ℕ) → 16 * o + s ≢ k → word_at (slice_set cells k w) o s ≡ word_at cells o s
other_cell cells k w o s ne = ap decoded (get_or-set_other cells k (16 * o + s) w 0 ne)

this_cell : (cells : List ℕ) (k w : ℕ) → k < length cells → decoded (slice_index (slice_set cells k w) k) ≡ decoded w
this_cell cells k w room = ap decoded (get_or-set_same cells k w 0 room)

-- the cell of an object as a number
abbrev IsCell : ℕ → ℕ → ℕ → Type 0
IsCell k o s = (owner k ≡ o) × (k % 16 ≡ s)

cell_is : (k o s : ℕ) → s < 16 → 16 * o + s ≡ k → IsCell k o s
cell_is k o s lt e = (ap owner (sym e) ∙ owner_of o s lt, ap (λ i. i % 16) (sym e) ∙ slot_of o s lt)

cell_back : (k o s : ℕ) → IsCell k o s → 16 * o + s ≡ k
cell_back k o s is = sym (cell_of k ∙ ap (λ i. 16 * i + k % 16) is.0 ∙ ap (λ i. 16 * o + i) is.1)

module _ (J : List Tables) (n : Names) (u : Union) (keep : Bool) (fresh : List Mark) (k w : ℕ) (beside : IsBeside u k) where
  same_adjacency : (o s x : ℕ) → word_at u.cells o s ≡ words.ToAdjacency x → adjacency_end (slice_set u.cells k w) x ≡ adjacency_end u.cells x
  same_adjacency o s x is = adjacency_stored u.cells k w x (beside (16 * o + s) (slice_index u.cells (16 * o + s)) x (goes_of (slice_index u.cells (16 * o + s)) (words.ToAdjacency x) is, inl refl) is)

  same_end : (o s : ℕ) (end : End) → IsEndWord (adjacency_end u.cells) end (word_at u.cells o s) → IsEndWord (adjacency_end (slice_set u.cells k w)) end (word_at u.cells o s)
  same_end o s answers.Drop is = is
  same_end o s answers.Receive is = is
  same_end o s (answers.Glean i) is = is
  same_end o s (answers.Hop i a m) is = (is.0, is.1, same_adjacency o s is.0 is.1 ∙ is.2)

  same_aim : (o s : ℕ) (m : Aim) → IsAimed n.balance (adjacency_end u.cells) m (word_at u.cells o s) → IsAimed n.balance (adjacency_end (slice_set u.cells k w)) m (word_at u.cells o s)
  same_aim o s (aims.Ends end) is = same_end o s end is
  same_aim o s (aims.On t) is = is

  pub buckets_kept : IsLoose J n.balance k → KeepsCells J n.balance u.cells → KeepsCells J n.balance (slice_set u.cells k w)
  buckets_kept loose ok = record {
    named = ok.named;
    held = λ e o lasting is. tt;
    aimed = λ e o s m lasting is lt alike. dite (ℕ_discrete (16 * o + s) k)
        (λ same. let at = cell_is k o s lt same in absurd (loose e m lasting (is ∙ ap Some (sym at.0)) (subst (λ i. WantsAlike J e i m) (sym at.1) alike)))
        (λ ne. subst (IsAimed n.balance (adjacency_end (slice_set u.cells k w)) m) (sym (other_cell u.cells k w o s ne)) (same_aim o s m (ok.aimed e o s m lasting is lt alike)));
  }

  abbrev After : Union
  After = stored keep fresh u k w

  -- where the word is no edge to a ply, no further ply is walked
  walked_before : ((c : ℕ) → decoded w ≡ words.ToPly c → ⊥) → (x : ℕ) → IsWalked (stored keep fresh u k w) x → IsWalked u x
  walked_before none x (inl is) = inl is
  walked_before none x (inr (y, (j, v, from, is, g))) = ⊎_elim
      (λ (old : Goes u j v). inr (y, (j, v, from, is, old)))
      (λ (new : (j ≡ k) × (v ≡ w)). absurd (none x (ap decoded (sym new.1) ∙ is)))
      (goes_stored keep fresh u k w j v g)

  -- a store into a balance
  pub bucket_stored : IsLoose J n.balance k → (IsWalked u (owner k) → ⊥) → ((c : ℕ) → decoded w ≡ words.ToPly c → ⊥) → IsPromised J n u → IsPromised J n (stored keep fresh u k w)
  bucket_stored loose apart none ok = record {
    buckets = buckets_kept loose ok.buckets;
    plies = record {
      ways = ways_by n After ok.plies.ways.root (λ j v c g is. ⊎_elim
          (λ (old : Goes u j v). child_of n u ok.plies.ways j v c old is)
          (λ (new : (j ≡ k) × (v ≡ w)). absurd (none c (ap decoded (sym new.1) ∙ is)))
          (goes_stored keep fresh u k w j v g));
      right = λ x s walked lt.
          let before = walked_before none x walked in
          subst (IsRight J n x s) (sym (other_cell u.cells k w x s (λ e. apart (subst (IsWalked u) (sym (cell_is k x s lt e).0) before)))) (ok.plies.right x s before lt);
    };
  }

  -- a store into a ply, walked or not: an edge to a ply follows its path, and that ply is filled
  pub ply_stored : k < length u.cells
      → ((e : Prefix) → IsLasting J e → n.balance e ≡ Some (owner k) → ⊥)
      → ((c : ℕ) → decoded w ≡ words.ToPly c → IsChild n (owner k) (k % 16) c × ((s : ℕ) → s < 16 → IsRight J n c s (word_at (slice_set u.cells k w) c s)))
      → (IsWalked (stored keep fresh u k w) (owner k) → IsRight J n (owner k) (k % 16) (decoded w))
      → IsPromised J n u → IsPromised J n (stored keep fresh u k w)
  ply_stored room apart child here ok = record {
    buckets = buckets_kept (λ e m lasting is alike. apart e lasting is) ok.buckets;
    plies = record {
      ways = ways_by n After ok.plies.ways.root (λ j v c g is. ⊎_elim
          (λ (old : Goes u j v). child_of n u ok.plies.ways j v c old is)
          (λ (new : (j ≡ k) × (v ≡ w)). subst (λ (i : ℕ). IsChild n (owner i) (i % 16) c) (sym new.0) (child c (ap decoded (sym new.1) ∙ is)).0)
          (goes_stored keep fresh u k w j v g));
      right = λ x s walked lt. dite (ℕ_discrete (16 * x + s) k)
          (λ same. let at = cell_is k x s lt same in
          let word : word_at (slice_set u.cells k w) x s ≡ decoded w = ap (λ i. decoded (slice_index (slice_set u.cells k w) i)) same ∙ this_cell u.cells k w room in
          subst (IsRight J n x s) (sym word) (subst (λ (i : ℕ). IsRight J n i s (decoded w)) at.0 (subst (λ (i : ℕ). IsRight J n (owner k) i (decoded w)) at.1 (here (subst (IsWalked (stored keep fresh u k w)) (sym at.0) walked)))))
          (λ ne. elsewhere x s lt ne walked);
    };
  }
    where
      kept : (x s : ℕ) → s < 16 → 16 * x + s ≢ k → IsWalked u x → IsRight J n x s (word_at (slice_set u.cells k w) x s)
      kept x s lt ne walked = subst (IsRight J n x s) (sym (other_cell u.cells k w x s ne)) (ok.plies.right x s walked lt)

      elsewhere : (x s : ℕ) → s < 16 → 16 * x + s ≢ k → IsWalked (stored keep fresh u k w) x → IsRight J n x s (word_at (slice_set u.cells k w) x s)
      elsewhere x s lt ne (inl is) = kept x s lt ne (inl is)
      elsewhere x s lt ne (inr (y, (j, v, from, is, g))) = ⊎_elim
          (λ (old : Goes u j v). kept x s lt ne (inr (y, (j, v, from, is, old))))
          (λ (new : (j ≡ k) × (v ≡ w)). (child x (ap decoded (sym new.1) ∙ is)).1 s lt)
          (goes_stored keep fresh u k w j v g)

-- a store aside: into an object that is no prefix's balance, and into which no edge leads. So a freed object is cleared, and a fresh one is filled
pub aside_stored : (J : List Tables) (n : Names) (u : Union) (keep : Bool) (fresh : List Mark) (k w : ℕ) → owner k ≢ 0 → ((j v : ℕ) → Goes u j v → target v ≡ owner k → ⊥)
    → ((e : Prefix) → IsLasting J e → n.balance e ≡ Some (owner k) → ⊥) → ((c : ℕ) → decoded w ≡ words.ToPly c → ⊥)
    → IsPromised J n u → IsPromised J n (stored keep fresh u k w)
aside_stored J n u keep fresh k w other none unnamed plain ok =
    bucket_stored J n u keep fresh k w
    (λ j v o g is e. none j v g (target_of v (words.ToAdjacency o) is ∙ sym e))
    (λ e m lasting is alike. unnamed e lasting is)
    (unwalked)
    plain ok
  where
    unwalked : IsWalked u (owner k) → ⊥
    unwalked (inl is) = other is
    unwalked (inr (y, (j, v, from, is, g))) = none j v g (target_of v (words.ToPly (owner k)) is)
