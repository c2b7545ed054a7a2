-- What a walk over a plane's cells reads is there, and where its steps bring it.
use Rattle.std.proofs.Common.{◌≡◌, ℕ, zero, suc, ◌+◌, ◌-◌, ◌*◌, ◌/◌, ◌%◌, ◌^◌, ◌<◌, ◌≤◌, inl, inr, Bool, true, false, List, [], length, refl, sym, ap, ◌∙◌, subst, arith}
use Rattle.std.proofs.lemmas.Bool.Decides.{nat_tests}
use Rattle.std.specs.Prelude.{slice_index, nat_lt, if◌then◌else◌}
use Rattle.fib_addr.specs.Prefixes.{nibble}
use Rattle.fib_resolve.specs.declared.types.End.{End}
use Rattle.fib_resolve.specs.declared.types.End.TheVariants as answers
use Rattle.fib_core.specs.declared.word.Word.{Word}
use Rattle.fib_core.specs.declared.word.Word.TheVariants as words
use Rattle.fib_union.specs.Unions.{owner}
use Rattle.fib_core.specs.Trails.{IsMac}
use Rattle.fib_core.specs.Words.{decoded, goes, is_edge, target, value_of}
use Rattle.fib_core.specs.Walk.{Place, ply, balance, adjacency, ended, root, after, end_at, from_ply, from_balance, halved, mac_in, stepped, walk, word_at}
use Rattle.fib_core.specs.Union.{Goes}
use Rattle.fib_core.proofs.Numbers.{goes_of, target_of}
use Rattle.fib_core.proofs.Stands.{adjacency_word}
use Rattle.fib_core.proofs.Walks.{after_ended}
use Rattle.fib_core.specs.declared.stage.Stage.{Stage}
use Rattle.fib_core.specs.declared.stage.Stage.TheVariants as stages
use Rattle.fib_core.specs.Stages.{StandsAt}
use Rattle.fib_pool.specs.Objects.{free_in}
use Rattle.fib_pool.proofs.Pools.{free_few, live_in}
use Rattle.fib_plane_view.specs.View.{leads}
use Rattle.fib_plane.specs.Planes.{Plane}
use Rattle.fib_plane.specs.Sound.{IsPlane}
use Rattle.fib_plane.specs.Views.{view_of}
use Rattle.fib_plane.proofs.Views.Seeing.{edge_leads, goes_up, live_down}
use Rattle.fib_control.specs.inner.Readable.{IsAdjacencyIn, IsReadable}

-- a step more
after_next : (cells : List ℕ) (a h n : ℕ) (p : Place) → after cells a h (suc n) p ≡ stepped cells a h (after cells a h n p)
after_next cells a h zero p = refl
after_next cells a h (suc n) p = after_next cells a h n (stepped cells a h p)

pub after_one : (cells : List ℕ) (a h n : ℕ) (p : Place) → after cells a h (n + 1) p ≡ stepped cells a h (after cells a h n p)
after_one cells a h n p = ap (λ k. after cells a h k p) (let e : n + 1 ≡ suc n = omega arith in e) ∙ after_next cells a h n p

after_more : (cells : List ℕ) (a h n m : ℕ) (p : Place) → after cells a h (n + m) p ≡ after cells a h m (after cells a h n p)
after_more cells a h zero m p = ap (λ k. after cells a h k p) (let e : zero + m ≡ m = omega arith in e)
after_more cells a h (suc n) m p = ap (λ k. after cells a h k p) (let e : suc n + m ≡ suc (n + m) = omega arith in e) ∙ after_more cells a h n m (stepped cells a h p)

module _ (p : Plane) (told : IsPlane p) where
  abbrev Cells : List ℕ
  Cells = p.board.union.cells

  -- where a word leads there is an object
  within : (k : ℕ) → goes (slice_index Cells k) ≡ true → target (slice_index Cells k) < p.board.objects
  within k going =
      let w : ℕ = slice_index Cells k in
      let lead : leads (decoded w) (target w) = edge_leads (decoded w) (target w) (sym (goes_of w (decoded w) refl) ∙ going) (sym (target_of w (decoded w) refl)) in
      let lt = live_in p.objects (target w) (live_down p told (target w) (inr (inr (inr (owner k, k % 16, decoded w, lead, goes_up p k w (going, inl refl)))))) in
      let e = told.size in
      omega (arith, lt, e)

  inside : (k o : ℕ) (w : Word) → decoded (slice_index Cells k) ≡ w → is_edge w ≡ true → value_of w ≡ o → o < p.board.objects
  inside k o w is edge to = subst (λ (x : ℕ). x < p.board.objects) (target_of (slice_index Cells k) w is ∙ to) (within k (goes_of (slice_index Cells k) w is ∙ edge))

  -- what is read where the walk stands
  abbrev IsSafe : Place → Type 0
  IsSafe (ply o d) = (o < p.board.objects) × (d ≤ 7)
  IsSafe (balance o n) = o < p.board.objects
  IsSafe (adjacency o ws) = IsAdjacencyIn p.board o
  IsSafe (ended e) = Unit {0}

  safe_deeper : (d o : ℕ) (b : Bool) → nat_lt d 7 ≡ b → o < p.board.objects → IsSafe (if b then ply o (suc d) else ended answers.Drop)
  safe_deeper d o true is lt = (lt, grind (arith, nat_tests))
  safe_deeper d o false is lt = tt

  safe_ply : (k d : ℕ) (w : Word) → decoded (slice_index Cells k) ≡ w → IsSafe (from_ply d w)
  safe_ply k d (words.ToPly o) is = safe_deeper d o (nat_lt d 7) refl (inside k o (words.ToPly o) is refl refl)
  safe_ply k d (words.ToBalance o) is = inside k o (words.ToBalance o) is refl refl
  safe_ply k d words.Drop is = tt
  safe_ply k d words.Receive is = tt
  safe_ply k d (words.Glean i) is = tt
  safe_ply k d (words.ToAdjacency o) is = tt
  safe_ply k d (words.Plain n) is = tt

  mac_fits : (n : ℕ) → n < 2 ^ 48 + 1 → IsMac (mac_in n)
  mac_fits zero lt = tt
  mac_fits (suc n) lt = omega arith

  safe_adjacency : (k o : ℕ) → decoded (slice_index Cells k) ≡ words.ToAdjacency o → IsAdjacencyIn p.board o
  safe_adjacency k o is =
      let b : (k : ℕ) × (w : ℕ) × (decoded w ≡ words.ToAdjacency o) × Goes p.board.union k w = (k, slice_index Cells k, is, (goes_of (slice_index Cells k) (words.ToAdjacency o) is, inl refl)) in
      record {
        inside = inside k o (words.ToAdjacency o) is refl refl;
        interface = (adjacency_word p.board.union o 0 told.board.typed (omega arith) b).below;
        hop = (adjacency_word p.board.union o 1 told.board.typed (omega arith) b).below;
        mac = mac_fits (value_of (word_at Cells o 2)) (adjacency_word p.board.union o 2 told.board.typed (omega arith) b).below;
      }

  safe_balance : (k n : ℕ) (w : Word) → decoded (slice_index Cells k) ≡ w → IsSafe (from_balance n w)
  safe_balance k n (words.ToPly o) is = tt
  safe_balance k n (words.ToBalance o) is = inside k o (words.ToBalance o) is refl refl
  safe_balance k n words.Drop is = tt
  safe_balance k n words.Receive is = tt
  safe_balance k n (words.Glean i) is = tt
  safe_balance k n (words.ToAdjacency o) is = safe_adjacency k o is
  safe_balance k n (words.Plain m) is = tt

  safe_step : (a h : ℕ) (q : Place) → IsSafe (stepped Cells a h q)
  safe_step a h (ply o d) = safe_ply (16 * o + nibble a d) d (word_at Cells o (nibble a d)) refl
  safe_step a h (balance o n) = safe_balance (16 * o + halved h n % 16) n (word_at Cells o (halved h n % 16)) refl
  safe_step a h (adjacency o read) = tt
  safe_step a h (ended e) = tt

  safe_after : (a h n : ℕ) → IsSafe (after Cells a h n root)
  safe_after a h zero = (let l = told.board.limits.least in omega (arith, l), omega arith)
  safe_after a h (suc n) = subst IsSafe (sym (after_next Cells a h n root)) (safe_step a h (after Cells a h n root))

  readable_at : (h : ℕ) (q : Place) (stage : Stage) → StandsAt h q stage → IsSafe q → IsReadable p.board stage
  readable_at h q (stages.Ply o d) at safe = subst IsSafe at safe
  readable_at h q (stages.Balance o left) at safe = subst IsSafe at.1 safe
  readable_at h q (stages.Adjacency o) at safe = subst IsSafe at safe
  readable_at h q (stages.Ended e) at safe = tt

  pub readable : (a h n : ℕ) (stage : Stage) → StandsAt h (after Cells a h n root) stage → IsReadable p.board stage
  readable a h n stage at = readable_at h (after Cells a h n root) stage at (safe_after a h n)

  -- so many steps has the walk of the definition
  steps_are : length Cells / 16 + 1 ≡ p.board.objects + 1
  steps_are = let l = told.board.long in omega (arith, l)

  pub walk_by : (a h : ℕ) (e : End) → e ≡ end_at (after Cells a h (p.board.objects + 1) root) → e ≡ walk Cells a h
  unfolding walk
  walk_by a h e is = is ∙ ap (λ (n : ℕ). end_at (after Cells a h n root)) (sym steps_are)

  -- where it comes to its end before
  pub walk_early : (a h n : ℕ) (e : End) → n ≤ p.board.objects + 1 → after Cells a h n root ≡ ended e → e ≡ walk Cells a h
  walk_early a h n e few at =
      let rest : ℕ = p.board.objects + 1 - n in
      let sum : n + rest ≡ p.board.objects + 1 = omega (arith, few) in
      walk_by a h e (sym (ap end_at (ap (λ (m : ℕ). after Cells a h m root) (sym sum) ∙ after_more Cells a h n rest root ∙ ap (after Cells a h rest) at ∙ after_ended Cells a h rest e)))

  -- used and free ones are all
  pub all_objects : (used free : ℕ) → used ≡ length p.objects - free_in p.objects → free ≡ free_in p.objects → used + free ≡ p.board.objects
  all_objects used free u f =
      let few = free_few p.objects in
      let size = told.size in
      omega (arith, u, f, few, size)

-- a step on a ply, and one on a balance, by the word that is in the cell
pub stepped_ply : (cells : List ℕ) (a h o d : ℕ) (p : Place) (w : Word) (s r : Stage) → s ≡ stages.Ply o d → w ≡ word_at cells o (nibble a d)
    → StandsAt h (from_ply d w) r → StandsAt h p s → StandsAt h (stepped cells a h p) r
stepped_ply cells a h o d p w s r on is next at =
    let here : p ≡ ply o d = subst (λ (t : Stage). StandsAt h p t) on at in
    subst (λ (q : Place). StandsAt h (stepped cells a h q) r) (sym here) (subst (λ (v : Word). StandsAt h (from_ply d v) r) is next)

pub stepped_balance : (cells : List ℕ) (a h o left : ℕ) (p : Place) (w : Word) (s r : Stage) → s ≡ stages.Balance o left → w ≡ word_at cells o (left % 16)
    → ((n : ℕ) → halved h n ≡ left → StandsAt h (from_balance n w) r) → StandsAt h p s → StandsAt h (stepped cells a h p) r
stepped_balance cells a h o left p w s r on is next at =
    let here : (n : ℕ) × (p ≡ balance o n) × (halved h n ≡ left) = subst (λ (t : Stage). StandsAt h p t) on at in
    let word : w ≡ word_at cells o (halved h here.0 % 16) = is ∙ ap (λ k. word_at cells o (k % 16)) (sym here.2) in
    subst (λ (q : Place). StandsAt h (stepped cells a h q) r) (sym here.1)
    (subst (λ (v : Word). StandsAt h (from_balance here.0 v) r) word (next here.0 here.2))
