-- Passes begin and go on.
use Rattle.std.proofs.Common.{◌≡◌, ◌≢◌, ℕ, zero, suc, ◌+◌, ◌*◌, ◌^◌, ◌<◌, true, false, List, [], ◌∷◌, ◌++◌, length, refl, sym, ap, ◌∙◌, subst, arith, get_or-set_same, get_or-set_other, length-set}
use Rattle.std.specs.Prelude.{slice_index, slice_index_or, slice_set, Option, Some, None, unwrap_or}
use Rattle.std.specs.List.{AllByRecursion}
use mathlib.Core.Logic.{dite}
use native.Mathlib.Decide.{ℕ_discrete}
use Rattle.fib_core_results.specs.declared.record.Version.{Version}
use Rattle.fib_union.specs.Unions.{owner}
use Rattle.fib_core.specs.Walk.{object_of, asked}
use Rattle.fib_core.specs.Trails.{Load, IsGoing, IsSoundTrail, place, stands, visited}
use Rattle.fib_core.proofs.Numbers.{owner_of}
use Rattle.fib_core.specs.Union.{Lies, Usable}
use Rattle.fib_core.proofs.Passes.{walked-map}
use Rattle.fib_core.proofs.Unions.{usable_lies}
use Rattle.fib_core_lawful.specs.Layout.{pass_word, cell_word}
use Rattle.fib_core_lawful.specs.State.{Control, Worker, View, control, worker, hopped, lo_at, new_worker, picking, sent, started}
use Rattle.fib_core_lawful.specs.Frame.{HasView}
use Rattle.fib_core_lawful.proofs.Views.{set_there}
use Rattle.fib_core_rule.specs.Rule.{IsLawful}
use Rattle.fib_core_rule.specs.May.{MayLoad, MaySend}
use Rattle.fib_core_rule.proofs.Keeping as keep
use Rattle.fib_core_rule.proofs.Tells as tells
use Rattle.fib_core_board.specs.Boards.{Board, Pass}
use Rattle.fib_core_plainboard.specs.Passes.{IsAlong, pass_of, pass_begun, load_of}
use Rattle.fib_core_plainboard.specs.inner.Sits.{view_of, Sits, IsPlain}
use Rattle.fib_core_plainboard.proofs.Views.{at_other, at_left, at_last, at_below, worker_apart, workers_apart}
use Rattle.fib_core_plainboard.proofs.Keeping.{Own, facts, cell_now}

pub some_is : {A : Type 0} (x y : A) → Some x ≡ Some y → x ≡ y
some_is x y e = ap (λ o. unwrap_or o x) e

pub some_none : {A : Type 0} (x : A) → Some x ≡ None → ⊥
some_none x e = cc

-- the pass of worker n after a change of that of m
module _ (passes : List (Option Pass)) (m : ℕ) (o : Option Pass) where
  pub pass_same : m < length passes → slice_index_or (slice_set passes m o) m None ≡ o
  pass_same lt = get_or-set_same passes m o None lt

  pub pass_other : (n : ℕ) → n ≢ m → slice_index_or (slice_set passes m o) n None ≡ slice_index_or passes n None
  pass_other n ne = get_or-set_other passes m n o None ne

-- a pass that runs is one of the list
pub inside : (passes : List (Option Pass)) (n : ℕ) (q : Pass) → slice_index_or passes n None ≡ Some q → n < length passes
inside [] n q e = absurd (some_none q (sym e))
inside (x ∷ xs) zero q e = omega arith
inside (x ∷ xs) (suc n) q e = let lt = inside xs n q e in omega arith

abbrev pub with_pass : Board → ℕ → Pass → Board
with_pass p n q = record p { passes = slice_set p.passes n (Some q) }

abbrev pub with_load : Pass → Load → Pass
with_load q l = record { addr = q.addr; hash = q.hash; lo = q.lo; loads = l ∷ q.loads }

head_below : (n : ℕ) (xs : List ℕ) → 0 < n → AllByRecursion (λ x. x < n) xs → slice_index xs 0 < n
head_below n [] any h = any
head_below n (x ∷ xs) any h = h.0

lo_same : (t : List Load) (v : Version) → lo_at t v v ≡ v
lo_same [] v = refl
lo_same (l ∷ t) v = refl

module _ (words : List ℕ) (p : Board) (s : IsPlain words p) where
  -- a pass begins: its number is picked, its seat is split off, and it stores its pass word
  module _ (n a h : ℕ) (known : n < p.workers) (none : pass_of p n ≡ None) (flow : (a < 2 ^ 32) × (h < 2 ^ 32)) (left : slice_index p.rests n + 2 < 2 ^ 64) where
    abbrev First : Pass
    First = record { addr = a; hash = h; lo = p.log.version; loads = [] }

    abbrev Picked : Control
    Picked = picking (Own words p s) n

    abbrev One : List View
    One = slice_set s.views 0 (control Picked)

    abbrev Two : List View
    Two = slice_set One 0 (control (sent Picked))

    abbrev Sent : List View
    Sent = Two ++ worker (new_worker Picked) ∷ []

    abbrev Begun : List View
    Begun = slice_set Sent (length Two) (worker (started (new_worker Picked) (slice_index p.rests n + 1)))

    in_passes : n < length p.passes
    in_passes = (let long = s.long in let most = s.limits.eight in omega arith)

    may : MaySend Picked
    may = record {
      known = known;
      home = s.rests n none;
      few = (let few : length p.gathered ≡ 0 = ap length s.claims in omega arith);
    }

    picked_there : HasView One 0 (control Picked)
    picked_there = set_there s.views 0 (control (Own words p s)) (control Picked) s.mine

    lawful_begun : IsLawful p.objects (slice_set words (pass_word n) (slice_index p.rests n + 1)) Begun
    lawful_begun = keep.starts p.objects words Sent (length Two)
        (keep.sends p.objects words One 0 (keep.picks p.objects words s.views 0 s.lawful (Own words p s) n s.mine) Picked may picked_there)
        (new_worker Picked) (slice_index p.rests n + 1) (let even = s.even n in omega arith) (at_last Two (worker (new_worker Picked)))

    same_length : length Two ≡ length s.views
    same_length = length-set One 0 (control (sent Picked)) ∙ length-set s.views 0 (control Picked)

    -- a seat that there was
    still : (seat : ℕ) (v : Worker) → HasView s.views seat (worker v) → HasView Begun seat (worker v)
    still seat v has =
        let apart = worker_apart s.views (Own words p s) v seat s.mine has in
        let below = at_below s.views seat (worker v) has in
        let same = same_length in
        at_other Sent (length Two) seat (worker (started (new_worker Picked) (slice_index p.rests n + 1))) (worker v) (λ e. omega arith)
        (at_left Two (worker (new_worker Picked) ∷ []) seat (worker v)
        (at_other One 0 seat (control (sent Picked)) (worker v) apart
        (at_other s.views 0 seat (control Picked) (worker v) apart has)))

    sits_begun : (m : ℕ) (q : Pass) → pass_of (pass_begun p n a h) m ≡ Some q → Sits Begun (pass_begun p n a h) m q
    sits_begun m q e = dite (ℕ_discrete m n)
        (λ same. subst (λ (x : ℕ × Pass). Sits Begun (pass_begun p n a h) x.0 x.1)
        (λ i. (sym same i, some_is First q (sym (pass_same p.passes n (Some First) in_passes) ∙ ap (pass_of (pass_begun p n a h)) (sym same) ∙ e) i))
        (record { seat = length Two; has = set_there Sent (length Two) (worker (new_worker Picked)) (worker (started (new_worker Picked) (slice_index p.rests n + 1))) (at_last Two (worker (new_worker Picked))); follows = flow; left = left }))
        (λ ne. let t = s.sits m q (sym (pass_other p.passes n (Some First) m ne) ∙ e) in
        record { seat = t.seat; has = still t.seat (view_of p m q) t.has; follows = t.follows; left = t.left })

    pub begins : IsPlain (slice_set words (pass_word n) (slice_index p.rests n + 1)) (pass_begun p n a h)
    begins = record {
      views = Begun;
      home = s.home;
      picked = n;
      lawful = lawful_begun;
      mine = at_other Sent (length Two) 0 (worker (started (new_worker Picked) (slice_index p.rests n + 1))) (control (sent Picked))
          (λ e. let some = at_below s.views 0 (control (Own words p s)) s.mine in let same = same_length in omega arith)
          (at_left Two (worker (new_worker Picked) ∷ []) 0 (control (sent Picked)) (set_there One 0 (control Picked) (control (sent Picked)) picked_there));
      limits = s.limits;
      claims = s.claims;
      trails = s.trails;
      even = s.even;
      long = length-set p.passes n (Some First) ∙ s.long;
      sits = sits_begun;
      rests = rests_begun;
    }
      where
        rests_begun : (m : ℕ) → pass_of (pass_begun p n a h) m ≡ None → slice_index_or (slice_set p.out n true) m false ≡ false
        rests_begun m e =
            let ne : m ≢ n = (λ same. some_none First (sym (pass_same p.passes n (Some First) in_passes) ∙ ap (pass_of (pass_begun p n a h)) (sym same) ∙ e)) in
            get_or-set_other p.out n m true false ne ∙ s.rests m (sym (pass_other p.passes n (Some First) m ne) ∙ e)

  -- a running pass
  module _ (n : ℕ) (q : Pass) (runs : pass_of p n ≡ Some q) where
    abbrev pub Sat : Worker
    Sat = view_of p n q

    pub sound : IsSoundTrail p.objects q.loads
    sound = tells.trail_sound p.objects words s.views s.lawful (s.sits n q runs).seat Sat (s.sits n q runs).has

    -- it goes along the union
    pub along : IsAlong p q.loads
    along = record {
      apart = sound.apart;
      below = sound.below;
      live = tells.live_ones p.objects words s.views s.lawful 0 (Own words p s) s.mine (s.sits n q runs).seat Sat (s.sits n q runs).has;
      walks = walked-map (Usable p.union n (slice_index p.rests n + 1)) (Lies p.union) (λ k w going led ok. usable_lies p.union n (slice_index p.rests n + 1) k w ok) q.loads
          (tells.walks_union p.objects words s.views s.lawful 0 (Own words p s) s.mine (s.sits n q runs).seat Sat (s.sits n q runs).has);
    }

    pub stands_inside : stands q.loads < p.objects
    stands_inside = (let t = sound in head_below p.objects (visited q.loads) (facts words p s).any t.below)

    pub place_inside : IsGoing (place q.loads) → object_of (place q.loads) < p.objects
    place_inside going = subst (λ o. o < p.objects) (sym (sound.stood q.addr q.hash (s.sits n q runs).follows going)) stands_inside

    -- it loads the next cell of its walk
    module _ (k slot : ℕ) (going : IsGoing (place q.loads)) (asks : k ≡ asked q.addr q.hash (place q.loads)) (is : k ≡ 16 * object_of (place q.loads) + slot) (low : slot < 16) where
      abbrev Next : Pass
      Next = with_load q (load_of p.union.cells k)

      in_cells : k < 16 * p.objects
      in_cells = (let lt = place_inside going in let e = is in omega arith)

      may_load : MayLoad Sat k
      may_load = record {
        walking = (let even = s.even n in omega arith);
        inside = in_cells;
        here = ap owner is ∙ owner_of (object_of (place q.loads)) slot low ∙ sound.stood q.addr q.hash (s.sits n q runs).follows going;
      }

      hopped_is : hopped Sat k (slice_index words (cell_word k)) ≡ view_of p n Next
      hopped_is = ap (λ (x : Version × ℕ). record Sat { lo = x.0; trail = (k, x.1) ∷ q.loads; hi = None }) (λ i. (lo_same q.loads q.lo i, cell_now words p s k in_cells i))

      abbrev Gone : List View
      Gone = slice_set s.views (s.sits n q runs).seat (worker (view_of p n Next))

      lawful_gone : IsLawful p.objects words Gone
      lawful_gone = subst (λ v. IsLawful p.objects words (slice_set s.views (s.sits n q runs).seat (worker v))) hopped_is
          (keep.hops p.objects words s.views (s.sits n q runs).seat s.lawful Sat k may_load (s.sits n q runs).has)

      sits_gone : (m : ℕ) (r : Pass) → pass_of (with_pass p n Next) m ≡ Some r → Sits Gone (with_pass p n Next) m r
      sits_gone m r e = dite (ℕ_discrete m n)
          (λ same. subst (λ (x : ℕ × Pass). Sits Gone (with_pass p n Next) x.0 x.1)
          (λ i. (sym same i, some_is Next r (sym (pass_same p.passes n (Some Next) (inside p.passes n q runs)) ∙ ap (pass_of (with_pass p n Next)) (sym same) ∙ e) i))
          (record {
            seat = (s.sits n q runs).seat;
            has = set_there s.views (s.sits n q runs).seat (worker Sat) (worker (view_of p n Next)) (s.sits n q runs).has;
            follows = (asks, going, (s.sits n q runs).follows);
            left = (s.sits n q runs).left;
          }))
          (λ ne. let t = s.sits m r (sym (pass_other p.passes n (Some Next) m ne) ∙ e) in record {
            seat = t.seat;
            has = at_other s.views (s.sits n q runs).seat t.seat (worker (view_of p n Next)) (worker (view_of p m r))
                (workers_apart s.views Sat (view_of p m r) (s.sits n q runs).seat t.seat (s.sits n q runs).has t.has (λ same. ne (sym same))) t.has;
            follows = t.follows;
            left = t.left;
          })

      pub hops_once : IsPlain words (with_pass p n Next)
      hops_once = record {
        views = Gone;
        home = s.home;
        picked = s.picked;
        lawful = lawful_gone;
        mine = at_other s.views (s.sits n q runs).seat 0 (worker (view_of p n Next)) (control (Own words p s))
            (λ e. worker_apart s.views (Own words p s) Sat (s.sits n q runs).seat s.mine (s.sits n q runs).has (sym e)) s.mine;
        limits = s.limits;
        claims = s.claims;
        trails = s.trails;
        even = s.even;
        long = length-set p.passes n (Some Next) ∙ s.long;
        sits = sits_gone;
        rests = rests_gone;
      }
        where
          rests_gone : (m : ℕ) → pass_of (with_pass p n Next) m ≡ None → slice_index_or p.out m false ≡ false
          rests_gone m e =
              let ne : m ≢ n = (λ same. some_none Next (sym (pass_same p.passes n (Some Next) (inside p.passes n q runs)) ∙ ap (pass_of (with_pass p n Next)) (sym same) ∙ e)) in
              s.rests m (sym (pass_other p.passes n (Some Next) m ne) ∙ e)
