-- What the lawful state tells a seat.
use Rattle.std.proofs.Common.{◌≡◌, ℕ, ◌+◌, ◌*◌, ◌<◌, ◌⊎◌, inl, inr, List, [], ◌∷◌, ◌++◌, sym, ap, ◌∙◌, subst}
use Rattle.std.specs.Prelude.{slice_index, Some}
use mathlib.Core.Option.{some}
use lib.ListN.{get_elem?}
use Rattle.fib_resolve.specs.declared.types.End.{End}
use Rattle.fib_core_results.specs.declared.record.Version.{Version}
use Rattle.fib_core_results.specs.Trails.{IsRecordOk}
use Rattle.fib_core.specs.Words.{IsWord}
use Rattle.fib_core.specs.Walk.{ended, end_at, ReadsWhole}
use Rattle.fib_core.specs.Union.{Edge, Usable}
use Rattle.fib_core.specs.Trails.{Load, stands, place, Follows, trail_at, finished, AreLawful, IsSoundTrail}
use Rattle.fib_core.proofs.Unions.{usable_lies}
use Rattle.fib_core.proofs.Passes.{stays_within, visits_once, stands_at}
use Rattle.fib_core.proofs.Stands.{stood}
use Rattle.fib_core_results.specs.Versions.{unpacked}
use Rattle.fib_core_lawful.specs.Layout.{version_word, pass_word, cell_word}
use Rattle.fib_core_lawful.specs.State.{Log, Control, Worker, View, control, worker, stopped}
use Rattle.fib_core_lawful.specs.Lawful.{IsTold, AimsOnce, OfControl, lawful}
use Rattle.fib_core_lawful.specs.Frame.{Rule}
use Rattle.fib_core_lawful.proofs.Framing.{own}
use Rattle.fib_core_results.proofs.Versions.{unpacked_packed}

reads_of : (cells : List ℕ) (l : Log) (lo : Version) (t : List Load) → AimsOnce cells l lo t → (a h : ℕ) → Follows a h t → ReadsWhole cells (place t)
reads_of cells l lo [] aimed a h f = tt
reads_of cells l lo (x ∷ t) aimed a h f = aimed.read a h f

module _ (objects : ℕ) (words : List ℕ) (views : List View) (id : ℕ) (s : Rule (lawful objects) words views) where
  -- a running trail is sound
  pub trail_sound : (v : Worker) → get_elem? views id ≡ some (worker v) → IsSoundTrail objects v.trail
  trail_sound v at =
      let c : Control = s.0 in
      let h = s.2.here in
      let f = (s.2.fits id (worker v) at).1 in
      record {
        apart = visits_once c.union v.number v.pass v.trail h.acyclic f.walk.walked;
        below = stays_within (Usable c.union v.number v.pass) objects h.any (λ k w going ok. h.within.edges k w (going, usable_lies c.union v.number v.pass k w ok)) v.trail f.walk.walked;
        proper = f.proper;
        stood = λ a b fol going. stood c.union v.number v.pass a b h.typed v.trail fol f.walk.walked (reads_of c.union.cells c.log v.lo v.trail f.aimed a b fol) going;
      }

  -- a pass stands on a live object: the root, or one to which an edge of the union leads
  pub stands_live : (v : Worker) → get_elem? views id ≡ some (worker v) → (stands v.trail ≡ 0) ⊎ ((x : ℕ) × Edge s.0.union x (stands v.trail))
  stands_live v at =
      let c : Control = s.0 in
      let f = (s.2.fits id (worker v) at).1 in
      elim (stands_at (Usable c.union v.number v.pass) v.trail f.walk.walked) [
        | inl z ↦ inl z
        | inr e ↦ inr (e.0, (e.1.0, e.1.1, e.1.2, e.1.3, (e.1.4, usable_lies c.union v.number v.pass e.1.0 e.1.1 e.1.5)))
      ]

  -- a word that is found in a cell is one
  pub word_found : (k : ℕ) → k < 16 * objects → IsWord (slice_index words (cell_word k))
  word_found k lt = subst IsWord (sym (s.2.here.copied.same k lt)) (s.2.here.within.words k)

  -- a seat loads the word that it knows
  pub pass_known : (v : Worker) → get_elem? views id ≡ some (worker v) → slice_index words (pass_word v.number) ≡ v.pass
  pass_known v at = (s.2.fits id (worker v) at).0.holds

  -- what a seat knows is no later than what it loads
  pub known_before : (v : Worker) → get_elem? views id ≡ some (worker v) → IsTold (unpacked (slice_index words version_word)) v.knows
  known_before v at =
      let log = s.2.here.log in
      let now : unpacked (slice_index words version_word) ≡ s.0.log.version = ap unpacked log.packed ∙ unpacked_packed s.0.log.version log.fits in
      subst (λ x. IsTold x v.knows) (sym now) (s.2.fits id (worker v) at).1.told

  -- what the control knows of itself
  pub control_facts : (c : Control) → get_elem? views id ≡ some (control c) → OfControl objects words c
  control_facts c at = (own (lawful objects) words views id c s at).1.1.here

  -- the trails brought home are lawful over its history
  pub home_lawful : (c : Control) → get_elem? views id ≡ some (control c) → AreLawful c.log.history c.home
  home_lawful c at = (control_facts c at).home

  -- a pass that has its end and has loaded the version after it answers rightly over the history
  pub result_right : (v : Worker) → get_elem? views id ≡ some (worker v) → (a h : ℕ) (hi : Version) (e : End) → v.hi ≡ Some hi → place v.trail ≡ ended e → Follows a h v.trail
      → IsRecordOk s.0.log.history (record { addr = a; hash = h; lo = v.lo; hi = hi; end = e })
  result_right v at a h hi e known is f =
      let c : Control = s.0 in
      let all : AreLawful c.log.history (finished v.lo v.trail (Some hi)) = subst (λ x. AreLawful c.log.history (finished v.lo v.trail x)) known (s.2.fits id (worker v) at).1.done in
      let one : AreLawful c.log.history (trail_at (ended e) (record { lo = v.lo; loads = v.trail; hi = hi })) = subst (λ q. AreLawful c.log.history (trail_at q (record { lo = v.lo; loads = v.trail; hi = hi }))) is all in
      subst (λ x. IsRecordOk c.log.history (record { addr = a; hash = h; lo = v.lo; hi = hi; end = x })) (ap end_at is) (one.0.right a h f)

  -- and it is what the seat's past gains when the pass word becomes even
  pub past_gains : (v : Worker) (p : ℕ) (hi : Version) (e : End) → v.hi ≡ Some hi → place v.trail ≡ ended e → (stopped v p).past ≡ v.past ++ record { lo = v.lo; loads = v.trail; hi = hi } ∷ []
  past_gains v p hi e known is = ap (λ ts. v.past ++ ts) (ap (finished v.lo v.trail) known ∙ ap (λ q. trail_at q (record { lo = v.lo; loads = v.trail; hi = hi })) is)
