-- Each event keeps steady traffic beside the other parts.
use Rattle.std.proofs.Common.{◌≡◌, ◌≤◌, ◌<◌, ◌+◌, ◌-◌, ◌*◌, ◌⊎◌, inl, inr, ⊎_elim, true≢false, ℕ, zero, suc, List, [], ◌∷◌, ◌++◌, length, Some, refl, sym, ap, ◌∙◌, subst, arith}
use Rattle.std.specs.Prelude.{slice_get, slice_index}
use Rattle.fib_base_list.proofs.Lists.{each-weaker, each-append}
use Rattle.fib_resolve.specs.Tables.{IsSound, fresh}
use Rattle.fib_resolve.specs.declared.types.Tables.{Tables}
use Rattle.fib_core_results.specs.declared.record.Version.{Version}
use Rattle.fib_core_results.specs.Trails.{version_at}
use Rattle.fib_core.specs.Walk.{Place, ply, balance, adjacency, ended, ReadsWhole}
use Rattle.fib_core.specs.Union.{Union, Lies, Usable}
use Rattle.fib_core.specs.Trails.{Load, Walked, stands, place, Follows, Trail, result_of, trail_at, finished, AreLawful}
use Rattle.fib_core.proofs.Passes.{walked-map}
use Rattle.fib_core.proofs.Unions.{usable_lies}
use Rattle.fib_core_results.specs.Versions.{unpacked}
use Rattle.fib_core_lawful.specs.Layout.{version_word, cell_word}
use Rattle.fib_core_lawful.specs.State.{Control, Worker, View, started, learned, lo_at, hopped, stopped, claimed, told, stored_union, put, looked, with_log, begun, settled, picking}
use Rattle.fib_core_lawful.specs.Frame.{both}
use Rattle.fib_core_lawful.specs.Lawful.{IsTold, AimsOnce, OfControl, OfWorker, lawful}
use Rattle.fib_core_lawful.specs.May.{MayStoreLawfully, IsFilling}
use Rattle.fib_core_lawful.proofs.Framing.{WorkerOwes, ControlOwes, SendOwes, HomeOwes}
use Rattle.fib_core_results.proofs.Versions.{unpacked_packed}
use Rattle.fib_core_steady.specs.Names.{Names}
use Rattle.fib_core_steady.specs.Promise.{IsPromised}
use Rattle.fib_core_steady.specs.Undisturbed.{since, IsUndisturbed, IsSteadyTrail}
use Rattle.fib_core_steady.proofs.Events.{undisturbed_loads, undisturbed_first, undisturbed_stores, undisturbed_begins, promised_begins, promised_scans, finishes_steady, steady_begins, quiet_steady}
use Rattle.fib_core_rule.specs.Steady.{versions, IsBegun, AreSteady, SteadyControl, SteadyWorker, steady}

-- the two regimes
pub begun_or_not : (n : ℕ) → (n ≡ 0) ⊎ (0 < n)
begun_or_not zero = inl refl
begun_or_not (suc n) = inr (omega arith)

pub not_both : (n : ℕ) → n ≡ 0 → 0 < n → ⊥
not_both n e lt = omega arith

lies_walked : (u : Union) (number pass : ℕ) (t : List Load) → Walked (Usable u number pass) t → Walked (Lies u) t
lies_walked u number pass = walked-map (Usable u number pass) (Lies u) (λ k w going led ok. usable_lies u number pass k w ok)

grown : (H : List Tables) (T : Tables) (ts : List Trail) → AreSteady H ts → AreSteady (H ++ T ∷ []) ts
grown H T ts all = each-weaker (IsSteadyTrail H) (IsSteadyTrail (H ++ T ∷ [])) (λ t one. steady_begins H T t one) ts all

-- a version with applied 0
pub zero_version : (v : Version) → v.settled ≤ v.applied → v.applied ≡ 0 → v ≡ version_at 0
zero_version v le z = let e : v.settled ≡ 0 = omega arith in λ i. record { settled = e i; applied = z i }

-- a finished trail is steady
module _ (objects : ℕ) (words : List ℕ) (n : Names) (c : Control) (w : Worker) (here : OfControl objects words c) (also : SteadyControl n c) (f : OfWorker objects words c w) (g : SteadyWorker n c w) where
  last_place : c.log.version.applied ≡ length c.log.history - 1
  last_place = let long = here.log.long in omega arith

  first_held : slice_get c.log.history 0 ≡ Some fresh
  first_held = here.log.first

  trail_steady : (lo : Version) (at : Place) → place w.trail ≡ at → lo ≡ w.lo → IsTold c.log.version lo → AreLawful c.log.history (trail_at at (record { lo = lo; loads = w.trail; hi = c.log.version })) → AreSteady c.log.history (trail_at at (record { lo = lo; loads = w.trail; hi = c.log.version }))
  trail_steady lo (ply o d) is same low right = tt
  trail_steady lo (balance o m) is same low right = tt
  trail_steady lo (adjacency o read) is same low right = tt
  trail_steady lo (ended e) is same low right = (
    ⊎_elim
        (λ (z : c.log.version.applied ≡ 0). (λ a h follows.
        let order = here.log.order in
        let a_lo = low.order in
        let b_lo = low.last.applied in
        let lo_zero : lo.applied ≡ 0 = omega arith in
        quiet_steady c.log.history 0 fresh (result_of (record { lo = lo; loads = w.trail; hi = c.log.version }) a h) (record { lo = zero_version lo low.order lo_zero; hi = zero_version c.log.version here.log.order z }) first_held (right.0.right a h follows)))
        (λ (lt : 0 < c.log.version.applied). finishes_steady c.log.history n.balance c.union.cells (record { lo = lo; loads = w.trail; hi = c.log.version }) e is last_place (subst (λ v. IsUndisturbed c.log.history n.balance c.union.cells v.settled w.trail) (sym same) (g.undisturbed lt)))
        (begun_or_not c.log.version.applied),
    tt,
  )

module _ (objects : ℕ) (words : List ℕ) (views : List View) (n : Names) where
  -- a worker's step that leaves its trail, or begins another
  same_worker : (c : Control) (u : Worker) → SteadyWorker n c u → SteadyWorker n c u
  same_worker c u g = g

  -- 1: the pass word becomes odd
  pub starts_owes : (v : Worker) (p : ℕ) (words' : List ℕ) → WorkerOwes (lawful objects) words views words' v (started v p) → WorkerOwes (both (lawful objects) (steady n)) words views words' v (started v p)
  starts_owes v p words' owes c h f =
      let o = owes c h.0 f.0 in
      ((o.0, h.1), (o.1, record { undisturbed = λ lt a b trip follows alike. tt; current = λ z. tt; done = tt; past = f.1.past }), (λ u g. (o.2 u g.0, g.1)), λ v m. (o.3 v m.0, tt))

  -- 2: the version is loaded
  pub learns_owes : (v : Worker) → WorkerOwes (lawful objects) words views words v (learned v (slice_index words version_word)) → WorkerOwes (both (lawful objects) (steady n)) words views words v (learned v (slice_index words version_word))
  learns_owes v owes c h f =
      let o = owes c h.0 f.0 in
      let now : unpacked (slice_index words version_word) ≡ c.log.version = ap unpacked h.0.log.packed ∙ unpacked_packed c.log.version h.0.log.fits in
      ((o.0, h.1), (o.1, record { undisturbed = f.1.undisturbed; current = f.1.current; done = subst (λ x. AreSteady c.log.history (finished v.lo v.trail (Some x))) (sym now) (by_trail c h.0 h.1 f.0 f.1 v.trail refl (subst (λ x. AreLawful c.log.history (finished v.lo v.trail (Some x))) now o.1.done)); past = f.1.past }), (λ u g. (o.2 u g.0, g.1)), λ v m. (o.3 v m.0, tt))
    where
      by_trail : (c : Control) → OfControl objects words c → SteadyControl n c → OfWorker objects words c v → SteadyWorker n c v → (t : List Load) → v.trail ≡ t → AreLawful c.log.history (finished v.lo v.trail (Some c.log.version)) → AreSteady c.log.history (finished v.lo v.trail (Some c.log.version))
      by_trail c h also f g [] is right = subst (λ (t : List Load). AreSteady c.log.history (finished v.lo t (Some c.log.version))) (sym is) tt
      by_trail c h also f g (l ∷ t) is right = trail_steady objects words n c v h also f g v.lo (place v.trail) refl refl (subst (AimsOnce c.union.cells c.log v.lo) is f.aimed).low right

  -- 3: a cell is loaded
  lo_below : (v : Worker) (c : Control) → OfWorker objects words c v → (t : List Load) → v.trail ≡ t → (lo_at t v.lo v.knows).settled ≤ c.log.version.settled
  lo_below v c f [] is = f.told.last.settled
  lo_below v c f (l ∷ t) is = (subst (AimsOnce c.union.cells c.log v.lo) is f.aimed).low.last.settled

  read_before : (v : Worker) (c : Control) → OfWorker objects words c v → (t : List Load) → v.trail ≡ t → (a h : ℕ) → Follows a h t → ReadsWhole c.union.cells (place t)
  read_before v c f [] is a h follows = tt
  read_before v c f (l ∷ t) is a h follows = (subst (AimsOnce c.union.cells c.log v.lo) is f.aimed).read a h follows

  loaded : (v : Worker) (c : Control) → OfControl objects words c → SteadyControl n c → OfWorker objects words c v → SteadyWorker n c v → (k : ℕ) → IsBegun c.log → (t : List Load) → v.trail ≡ t → IsUndisturbed c.log.history n.balance c.union.cells (lo_at t v.lo v.knows).settled ((k, slice_index c.union.cells k) ∷ t)
  loaded v c h also f g k lt t is =
      let long = h.log.long in
      let order = h.log.order in
      undisturbed_loads c.log.history c.log.version.settled also.sound (omega arith) n c.union (also.promised lt) (lo_at t v.lo v.knows).settled t k (lo_below v c f t is)
      (lies_walked c.union v.number v.pass t (subst (Walked (Usable c.union v.number v.pass)) is f.walk.walked)) (read_before v c f t is) (before t is)
    where
      before : (t : List Load) → v.trail ≡ t → IsUndisturbed c.log.history n.balance c.union.cells (lo_at t v.lo v.knows).settled t
      before [] is = λ a b trip follows alike. tt
      before (l ∷ t) is = subst (IsUndisturbed c.log.history n.balance c.union.cells v.lo.settled) is (g.undisturbed lt)

  pub hops_owes : (v : Worker) (k : ℕ) → k < 16 * v.objects → WorkerOwes (lawful objects) words views words v (hopped v k (slice_index words (cell_word k))) → WorkerOwes (both (lawful objects) (steady n)) words views words v (hopped v k (slice_index words (cell_word k)))
  hops_owes v k lt owes c h f =
      let o = owes c h.0 f.0 in
      let found : slice_index words (cell_word k) ≡ slice_index c.union.cells k = h.0.copied.same k (subst (λ m. k < 16 * m) f.0.known lt) in (
        (o.0, h.1),
        (
          o.1,
          record {
            undisturbed = λ begun. subst (λ (w : ℕ). IsUndisturbed c.log.history n.balance c.union.cells (lo_at v.trail v.lo v.knows).settled ((k, w) ∷ v.trail)) (sym found) (loaded v c h.0 h.1 f.0 f.1 k begun v.trail refl);
            current = λ z. (sym found, f.1.current z);
            done = tt;
            past = f.1.past;
          },
        ),
        (λ u g. (o.2 u g.0, g.1)),
        λ v m. (o.3 v m.0, tt),
      )

  -- 4: the pass word becomes even
  pub stops_owes : (v : Worker) (p : ℕ) (words' : List ℕ) → WorkerOwes (lawful objects) words views words' v (stopped v p) → WorkerOwes (both (lawful objects) (steady n)) words views words' v (stopped v p)
  stops_owes v p words' owes c h f =
      let o = owes c h.0 f.0 in
      ((o.0, h.1), (o.1, record { undisturbed = λ lt a b trip follows alike. tt; current = λ z. tt; done = tt; past = each-append (IsSteadyTrail c.log.history) v.past (finished v.lo v.trail v.hi) f.1.past f.1.done }), (λ u g. (o.2 u g.0, g.1)), λ v m. (o.3 v m.0, tt))

  -- 13: a claim is drawn
  pub draws_owes : (v : Worker) (found : ℕ) (words' : List ℕ) → WorkerOwes (lawful objects) words views words' v (claimed v found) → WorkerOwes (both (lawful objects) (steady n)) words views words' v (claimed v found)
  draws_owes v found words' owes c h f =
      let o = owes c h.0 f.0 in
      ((o.0, h.1), (o.1, record { undisturbed = f.1.undisturbed; current = f.1.current; done = f.1.done; past = f.1.past }), (λ u g. (o.2 u g.0, g.1)), λ v m. (o.3 v m.0, tt))

  -- 5: a cell is stored
  pub puts_owes : (c : Control) (k w : ℕ) (words' : List ℕ) → MayStoreLawfully c.objects c.union c.log c.desk.out k w → (IsBegun c.log → IsPromised (versions c.log) n (stored_union c k w)) → ControlOwes (lawful objects) words views words' c (put c k w) → ControlOwes (both (lawful objects) (steady n)) words views words' c (put c k w)
  puts_owes c k w words' may after owes h =
      let o = owes h.0 in (
        (o.0, record { sound = h.1.sound; promised = after; home = h.1.home }),
        (λ u below away pass f. (
          o.1 u below away pass f.0,
          record {
            undisturbed = λ lt. undisturbed_stores c.union k w may.whole c.log.history n.balance u.lo.settled u.number u.pass u.trail f.0.walk.walked (f.1.undisturbed lt);
            current = λ z. ⊎_elim
                (λ (lt : c.log.version.settled < c.log.version.applied). absurd (none (c.log.version.settled) (c.log.version.applied) z lt))
                (λ (x : IsFilling c.union c.log c.desk.out k w). absurd (true≢false (sym away ∙ x.home u.number)))
                may.during;
            done = f.1.done;
            past = f.1.past;
          },
        )),
        λ v m. (o.2 v m.0, tt),
      )
    where
      none : (a b : ℕ) → b ≡ 0 → a < b → ⊥
      none a b z lt = omega arith

  -- 6: a version begins
  pub begins_owes : (c : Control) (T : Tables) (words' : List ℕ) → IsSound T → (c.log.version.applied ≡ 0 → IsPromised (versions c.log) n c.union) → ControlOwes (lawful objects) words views words' c (with_log c (begun c.log T)) → ControlOwes (both (lawful objects) (steady n)) words views words' c (with_log c (begun c.log T))
  begins_owes c T words' sound first owes h =
      let o = owes h.0 in
      let ok : IsPromised (versions c.log) n c.union = ⊎_elim first (λ (lt : 0 < c.log.version.applied). h.1.promised lt) (begun_or_not c.log.version.applied) in (
        (o.0, record { sound = each-append IsSound c.log.history (T ∷ []) h.1.sound (sound, tt); promised = λ lt. promised_begins c.log.history T c.log.version.settled n c.union ok; home = grown c.log.history T c.home h.1.home }),
        (λ u below away pass f. (
          o.1 u below away pass f.0,
          record {
            undisturbed = λ lt. undisturbed_begins c.log.history T n.balance c.union.cells u.lo.settled u.trail (carried u f.0 f.1 h.0 h.1 ok u.trail refl);
            current = λ z. absurd (never c.log.version.applied z);
            done = grown c.log.history T (finished u.lo u.trail u.hi) f.1.done;
            past = grown c.log.history T u.past f.1.past;
          },
        )),
        λ v m. (o.2 v m.0, tt),
      )
    where
      never : (a : ℕ) → a + 1 ≡ 0 → ⊥
      never a e = omega arith

      carried : (u : Worker) → OfWorker objects words c u → SteadyWorker n c u → OfControl objects words c → SteadyControl n c → IsPromised (versions c.log) n c.union → (t : List Load) → u.trail ≡ t → IsUndisturbed c.log.history n.balance c.union.cells u.lo.settled u.trail
      carried u f g here also ok [] is = subst (IsUndisturbed c.log.history n.balance c.union.cells u.lo.settled) (sym is) (λ a b trip follows alike. tt)
      carried u f g here also ok (l ∷ t) is = ⊎_elim
          (λ (z : c.log.version.applied ≡ 0).
          let low = (subst (AimsOnce c.union.cells c.log u.lo) is f.aimed).low in
          let a_lo = low.order in
          let b_lo = low.last.applied in
          let order = here.log.order in
          let long = here.log.long in
          let lo_zero : u.lo.settled ≡ 0 = omega arith in
          let settled_zero : c.log.version.settled ≡ 0 = omega arith in
          subst (λ (i : ℕ). IsUndisturbed c.log.history n.balance c.union.cells i u.trail) (sym lo_zero)
          (undisturbed_first c.log.history also.sound (omega arith) n c.union (subst (λ (i : ℕ). IsPromised (since c.log.history i) n c.union) settled_zero ok) u.trail (lies_walked c.union u.number u.pass u.trail f.walk.walked) (g.current z)))
          (λ (lt : 0 < c.log.version.applied). g.undisturbed lt)
          (begun_or_not c.log.version.applied)

  -- 6: the version is settled
  pub settles_owes : (c : Control) (words' : List ℕ) → (IsBegun c.log → IsPromised (since c.log.history c.log.version.applied) n c.union) → ControlOwes (lawful objects) words views words' c (with_log c (settled c.log)) → ControlOwes (both (lawful objects) (steady n)) words views words' c (with_log c (settled c.log))
  settles_owes c words' stands owes h =
      let o = owes h.0 in
      ((o.0, record { sound = h.1.sound; promised = stands; home = h.1.home }), (λ u below away pass f. (o.1 u below away pass f.0, record { undisturbed = f.1.undisturbed; current = f.1.current; done = f.1.done; past = f.1.past })), λ v m. (o.2 v m.0, tt))

  -- 7: a pass word is loaded
  pub looks_owes : (c : Control) (number found : ℕ) (words' : List ℕ) → ControlOwes (lawful objects) words views words' c (looked c number found) → ControlOwes (both (lawful objects) (steady n)) words views words' c (looked c number found)
  looks_owes c number found words' owes h =
      let o = owes h.0 in
      ((o.0, record { sound = h.1.sound; promised = λ lt. promised_scans (versions c.log) n c.union number found (h.1.promised lt); home = h.1.home }), (λ u below away pass f. (o.1 u below away pass f.0, record { undisturbed = f.1.undisturbed; current = f.1.current; done = f.1.done; past = f.1.past })), λ v m. (o.2 v m.0, tt))

  pub picks_owes : (c : Control) (number : ℕ) (words' : List ℕ) → ControlOwes (lawful objects) words views words' c (picking c number) → ControlOwes (both (lawful objects) (steady n)) words views words' c (picking c number)
  picks_owes c number words' owes h =
      let o = owes h.0 in
      ((o.0, record { sound = h.1.sound; promised = h.1.promised; home = h.1.home }), (λ u below away pass f. (o.1 u below away pass f.0, record { undisturbed = f.1.undisturbed; current = f.1.current; done = f.1.done; past = f.1.past })), λ v m. (o.2 v m.0, tt))

  -- 9: a worker's seat is split off
  pub sends_owes : (c : Control) → SendOwes (lawful objects) words views c → SendOwes (both (lawful objects) (steady n)) words views c
  sends_owes c owes h =
      let o = owes h.0 in
      ((o.0, record { sound = h.1.sound; promised = h.1.promised; home = h.1.home }), (o.1, record { undisturbed = λ lt a b trip follows alike. tt; current = λ z. tt; done = tt; past = tt }), (λ u f. (o.2 u f.0, record { undisturbed = f.1.undisturbed; current = f.1.current; done = f.1.done; past = f.1.past })), λ v m. (o.3 v m.0, tt))

  -- 12: a worker's seat comes home
  pub homes_owes : (c : Control) (v : Worker) → HomeOwes (lawful objects) words views c v → HomeOwes (both (lawful objects) (steady n)) words views c v
  homes_owes c v owes away h f =
      let o = owes away h.0 f.0 in
      ((o.0, record { sound = h.1.sound; promised = h.1.promised; home = each-append (IsSteadyTrail c.log.history) c.home v.past h.1.home f.1.past }), (λ u g. (o.1 u g.0, record { undisturbed = g.1.undisturbed; current = g.1.current; done = g.1.done; past = g.1.past })), λ w m. (o.2 w m.0, tt))

  -- 11: a note is joined into a worker's seat
  pub tells_owes : (v : Worker) (m : Version) (c : Control) → SteadyWorker n c v → SteadyWorker n c (told v m)
  tells_owes v m c f = record { undisturbed = f.undisturbed; current = f.current; done = f.done; past = f.past }
