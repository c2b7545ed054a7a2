-- What the rule tells of passes, trails, cells and claims.
use Rattle.std.proofs.Common.{◌≡◌, ◌≢◌, ◌≤◌, ◌<◌, ◌⊎◌, inl, ◌+◌, ◌*◌, ◌%◌, ◌^◌, ℕ, false, List, length, sym, ap, ◌∙◌, subst}
use Rattle.std.specs.Prelude.{slice_index, slice_index_or, slice_get, nat_lt, if◌then◌else◌, Some}
use Rattle.std.specs.List.{AllByRecursion}
use Rattle.fib_reach.specs.Walks.{IsAcyclic}
use Rattle.fib_resolve.specs.declared.types.Tables.{Tables}
use Rattle.fib_core_results.specs.Trails.{version_at}
use Rattle.fib_core_results.specs.Versions.{unpacked}
use Rattle.fib_union.specs.Unions as edges
use Rattle.fib_union.specs.Unions.{owner}
use Rattle.fib_core.specs.declared.word.Word.TheVariants as words
use Rattle.fib_core.specs.Words.{IsWord, decoded}
use Rattle.fib_core.specs.Walk.{root, walk, Arrives}
use Rattle.fib_core.specs.Union.{IsTyped, Goes, Edge, Usable, edges_of}
use Rattle.fib_core.specs.Trails.{visited, stands, IsWhole, Walked, finished, AreLawful, IsSoundTrail}
use Rattle.fib_core.proofs.Numbers.{target_of}
use Rattle.fib_core.proofs.Passes.{visits_live}
use Rattle.fib_core.proofs.Unions.{none_counted}
use Rattle.fib_core.proofs.Edges.{acyclic_edges}
use Rattle.fib_core.proofs.Endings.{at_most, walk_ends}
use Rattle.fib_core_lawful.specs.Layout.{version_word, pass_word, claim_word, cell_word}
use Rattle.fib_core_lawful.specs.State.{Control, Worker, View, control, worker}
use Rattle.fib_core_lawful.specs.Frame.{HasView}
use Rattle.fib_core_lawful.specs.Lawful.{IsTold, OfControl, OfWorker, AnswersAt}
use Rattle.fib_core_lawful.specs.Claims.{one_if, times}
use Rattle.fib_core_lawful.proofs.Framing.{own}
use Rattle.fib_core_lawful.proofs.Tells as lawfully
use Rattle.fib_core_lawful.proofs.Moves as moves
use Rattle.fib_core_lawful.proofs.Sockets.{rule_below}
use Rattle.fib_core_steady.proofs.Hanging.{none_leaves_aside, aside_rooted}
use Rattle.fib_core_rule.specs.Steady.{AreSteady, MayStoreSteadily, SteadyWorker}
use Rattle.fib_core_rule.specs.Rule.{parts, IsLawful}
use Rattle.fib_core_rule.specs.May.{MayStore}
use Rattle.fib_core_rule.proofs.Keeping.{here, lawful_rule}
use Rattle.fib_core_rule.proofs.Aside.{aside_lawful}

module _ (objects : ℕ) (numbers : List ℕ) (views : List View) (s : IsLawful objects numbers views) where
  -- a pass, whatever the control plane does

  pub trail_sound : (id : ℕ) (v : Worker) → HasView views id (worker v) → IsSoundTrail objects v.trail
  trail_sound id v at = lawfully.trail_sound objects numbers views id (lawful_rule objects numbers views id s) v at

  pub few_hops : (id : ℕ) (v : Worker) → HasView views id (worker v) → length (visited v.trail) ≤ objects
  few_hops id v at = (let t = trail_sound id v at in at_most objects (visited v.trail) t.apart t.below)

  pub word_found : (k : ℕ) → k < 16 * objects → IsWord (slice_index numbers (cell_word k))
  word_found k lt = lawfully.word_found objects numbers views 0 (lawful_rule objects numbers views 0 s) k lt

  pub pass_known : (id : ℕ) (v : Worker) → HasView views id (worker v) → slice_index numbers (pass_word v.number) ≡ v.pass
  pass_known id v at = (s.holds.rule.2.fits id (worker v) at).0.holds

  pub paced : (id : ℕ) (v : Worker) → HasView views id (worker v) → slice_index numbers (pass_word v.number) % 2 ≡ one_if v.walks
  paced id v at = ap (λ x. x % 2) (pass_known id v at) ∙ (s.holds.rule.2.fits id (worker v) at).1.0.0.paced

  pub known_before : (id : ℕ) (v : Worker) → HasView views id (worker v) → IsTold (unpacked (slice_index numbers version_word)) v.knows
  known_before id v at = lawfully.known_before objects numbers views id (lawful_rule objects numbers views id s) v at

  -- both seats: the control plane's and a worker's

  module _ (seat : ℕ) (c : Control) (mine : HasView views seat (control c)) where
    own_view : c ≡ s.holds.rule.0
    own_view = (s.holds.rule.2.fits seat (control c) mine).1

    worker_facts : (id : ℕ) (v : Worker) → HasView views id (worker v) → OfWorker objects numbers c v × SteadyWorker s.names c v
    worker_facts id v at = subst (λ (d : Control). OfWorker objects numbers d v × SteadyWorker s.names d v) (sym own_view) (s.holds.rule.2.fits id (worker v) at).1.0

    facts : OfControl objects numbers c
    facts = (here objects numbers views seat s c mine).0.0

    pub stands_live : (id : ℕ) (v : Worker) → HasView views id (worker v) → (stands v.trail ≡ 0) ⊎ ((x : ℕ) × Edge c.union x (stands v.trail))
    unfolding lawful_rule rule_below
    stands_live id v at = subst (λ (d : Control). (stands v.trail ≡ 0) ⊎ ((x : ℕ) × Edge d.union x (stands v.trail))) (sym own_view) (lawfully.stands_live objects numbers views id (lawful_rule objects numbers views id s) v at)

    pub read_whole : (id : ℕ) (v : Worker) → HasView views id (worker v) → IsWhole c.union.cells v.trail
    read_whole id v at = (worker_facts id v at).0.whole

    pub walks_union : (id : ℕ) (v : Worker) → HasView views id (worker v) → Walked (Usable c.union v.number v.pass) v.trail
    walks_union id v at = (worker_facts id v at).0.walk.walked

    pub live_ones : (id : ℕ) (v : Worker) → HasView views id (worker v) → AllByRecursion (λ y. (y ≡ 0) ⊎ ((x : ℕ) × Edge c.union x y)) (visited v.trail)
    live_ones id v at = visits_live c.union v.number v.pass v.trail (walks_union id v at)

    pub even_at_home : (n : ℕ) → n < 8 → slice_index_or c.desk.out n false ≡ false → slice_index numbers (pass_word n) % 2 ≡ 0
    even_at_home n lt home = ap (λ x. x % 2) ((own (parts objects s.names) numbers views seat c s.holds.rule mine).1.1.desk.same n lt home) ∙ facts.rested n

    pub well_typed : IsTyped c.union
    well_typed = facts.typed

    pub acyclic : IsAcyclic (Edge c.union)
    acyclic = facts.acyclic

    pub edges_acyclic : IsAcyclic (edges.Edge (edges_of c.union))
    edges_acyclic = acyclic_edges c.union (here objects numbers views seat s c mine).1.edges facts.acyclic

    pub settled_answers : (k : ℕ) (S : Tables) → c.log.version ≡ version_at k → slice_get c.log.history k ≡ Some S → AnswersAt c.union k S
    settled_answers k S now held = facts.settled k S now held

    pub walk_has_end : (a h : ℕ) → Arrives c.union.cells a h root (walk c.union.cells a h)
    walk_has_end a h = walk_ends c.union objects a h facts.any (λ k w going is. facts.within.edges k w (going, inl is)) facts.acyclic facts.copied.long

    pub past_right : (id : ℕ) (v : Worker) → HasView views id (worker v) → AreLawful c.log.history v.past × AreSteady c.log.history v.past
    past_right id v at = (let f = worker_facts id v at in (f.0.past, f.1.past))

    pub ended_right : (id : ℕ) (v : Worker) → HasView views id (worker v) → AreLawful c.log.history (finished v.lo v.trail v.hi) × AreSteady c.log.history (finished v.lo v.trail v.hi)
    ended_right id v at = (let f = worker_facts id v at in (f.0.done, f.1.done))

    pub home_right : AreLawful c.log.history c.home × AreSteady c.log.history c.home
    home_right = (let h = here objects numbers views seat s c mine in (h.0.0.home, h.0.1.home))

    -- an object into which no edge is counted
    pub free_of_plies : (o : ℕ) → o ≢ 0 → edges.into (edges_of c.union) o ≡ 0 → (k w y : ℕ) → Goes c.union k w → decoded w ≡ words.ToPly y → (owner k ≢ o) × (y ≢ o)
    free_of_plies o other none k w y g is = (
      none_leaves_aside c.workers c.union o (here objects numbers views seat s c mine).1 other (none_counted c.union o none) k w y g is,
      λ same. none_counted c.union o none k w g (target_of w (words.ToPly y) is ∙ same),
    )

    pub gathered_all : ((n : ℕ) → slice_index_or c.desk.out n false ≡ false) → (slice_index numbers claim_word ≡ length c.gathered) × ((n : ℕ) → times n c.gathered ≡ (if nat_lt n (length c.gathered) then 1 else 0))
    gathered_all home = moves.gathered_all (parts objects s.names) numbers views seat s.holds c mine home

  -- claims

  pub claim_room : slice_index numbers claim_word + 1 < 2 ^ 64
  claim_room = moves.claim_room (parts objects s.names) numbers views 0 s.holds objects (λ c h. h.0.0) (λ c w f. f.0.0)

-- a Drop where nothing leads: steady traffic is all that it asks
pub drop_aside : (objects : ℕ) (numbers : List ℕ) (views : List View) (s : IsLawful objects numbers views) (seat : ℕ) (c : Control) → HasView views seat (control c) → (k : ℕ)
    → k < 16 * c.objects → slice_index c.union.cells k ≢ 0 → owner k ≢ 0 → edges.into (edges_of c.union) (owner k) ≡ 0
    → (c.log.version.settled < c.log.version.applied) ⊎ ((c.log.version.applied ≡ 0) × ((n : ℕ) → slice_index_or c.desk.out n false ≡ false))
    → MayStoreSteadily c k 0 → MayStore c k 0
drop_aside objects numbers views s seat c mine k inside filled other none allowed steadily =
    let h = here objects numbers views seat s c mine in
    let aside = none_counted c.union (owner k) none in
    record {
      lawful = aside_lawful objects numbers c h.0.0 k other aside inside filled allowed;
      steady = steadily;
      rooted = aside_rooted c.union k h.1.rooted other aside;
    }
