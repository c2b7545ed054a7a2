-- A store in two halves: what a plane of objects knows by edges and counts alone, and what speaks of what workers may see and of plies. Together they
-- are all that a store asks. A Drop in an object that no edge reaches has its place and time, and of the second half steady traffic alone.
use Rattle.std.specs.Prelude.{◌≡◌, ◌≢◌, ◌⊎◌, ℕ, ◌+◌, ◌*◌, ◌%◌, ◌≤◌, ◌<◌, true, false, Some, slice_index, slice_index_or, slice_set}
use Rattle.fib_reach.specs.Walks.{Walk, Leads}
use Rattle.fib_resolve.specs.declared.types.End.TheVariants as answers
use Rattle.fib_union.specs.Unions as edges
use Rattle.fib_union.specs.Unions.{owner}
use Rattle.fib_core.specs.declared.word.Word.{Word}
use Rattle.fib_core.specs.declared.word.Word.TheVariants as words
use Rattle.fib_core.specs.Words.{IsRoomy, encoded, decoded, tag_of, goes, target}
use Rattle.fib_core.specs.Walk.{word_at, IsFlow, walk, EndsIn}
use Rattle.fib_core.specs.Union.{Union, Goes, PlyEdge, IsPlyWord, HasForm, edge_in, edges_of}
use Rattle.fib_core.specs.Trails.{IsEndOf}
use Rattle.fib_core_lawful.specs.State.{Control}
use Rattle.fib_core_steady.specs.Rooted.{IsRootedStore}
use Rattle.fib_core_rule.specs.Steady.{MayStoreSteadily}

-- passes may come to the object: it is 0, or an edge leads there
abbrev pub IsReached : Control → ℕ → Type 0
IsReached c o = (o ≡ 0) ⊎ edges.HasIn (edges_of c.union) o

-- the plane's half: a cell that there is and that says another word; an edge leads to an object and closes no cycle; a change is being made, or
-- nothing has been changed yet and nobody is out
pub record MayPlace (c : Control) (k : ℕ) (w : Word) : Type 0 where
  pub inside : k < 16 * c.objects
  pub other : decoded (slice_index c.union.cells k) ≢ w
  pub target : (y : ℕ) → edge_in (encoded w) ≡ Some y
      → (y < c.objects) × (Leads (edges.Edge (edges_of c.union)) y (owner k) → ⊥)
  pub allowed : (c.log.version.settled < c.log.version.applied)
      ⊎ ((c.log.version.applied ≡ 0) × ((n : ℕ) → slice_index_or c.desk.out n false ≡ false))

-- the other half, of a new edge: `MayLead` without where it may lead and without cycles
pub record MayEnter (u : Union) (k w : ℕ) : Type 0 where
  pub away : target w ≢ 0
  pub one_tag : (j v : ℕ) → Goes u j v → target v ≡ target w → tag_of (decoded v) ≡ tag_of (decoded w)
  pub formed : (s : ℕ) → s < 16 → HasForm (decoded w) s (word_at u.cells (target w) s)
  pub plies : tag_of (decoded w) ≡ 3 → (j v : ℕ) → Goes u j v → target v ≡ owner k → tag_of (decoded v) ≡ 3
  pub shallow : tag_of (decoded w) ≡ 3 → (n m y : ℕ) → Walk (PlyEdge u) n 0 (owner k) → Walk (PlyEdge u) m (target w) y
      → n + 1 + m ≤ 7
  pub others : tag_of (decoded w) ≢ 3 → (j v : ℕ) → Goes u j v → tag_of (decoded v) ≡ 3 → owner j ≢ target w

-- and of any word
pub record MayChange (c : Control) (k : ℕ) (w : Word) : Type 0 where
  pub roomy : IsRoomy w
  pub root : owner k ≡ 0 → IsPlyWord w ⊎ (w ≡ words.Drop)
  pub form : (j v : ℕ) → Goes c.union j v → target v ≡ owner k → HasForm (decoded v) (k % 16) w
  pub whole : (j v o : ℕ) → Goes c.union j v → decoded v ≡ words.ToAdjacency o → owner k ≢ o
  pub edge : goes (encoded w) ≡ true → MayEnter c.union k (encoded w)
  pub end : EndsIn (IsEndOf c.log.history c.log.version.settled c.log.version.applied) c.union.cells w
  pub drops : c.log.version.applied ≡ 0 → (a h : ℕ) → IsFlow a h
      → walk (slice_set c.union.cells k (encoded w)) a h ≡ answers.Drop
  pub steady : MayStoreSteadily c k (encoded w)
  pub rooted : IsRootedStore c.union.cells k (encoded w)
