-- A pass ends, with a right and steady answer.
use Rattle.std.proofs.Common.{◌≡◌, ◌≢◌, ℕ, ◌+◌, ◌%◌, ◌^◌, ◌<◌, false, List, ◌++◌, length, refl, sym, ap, ◌∙◌, subst, arith, get_or-set_same, get_or-set_other, length-set}
use Rattle.std.specs.Prelude.{slice_index, slice_index_or, slice_set, Some, None}
use Rattle.std.proofs.lemmas.List.{append-nil}
use mathlib.Core.Logic.{dite}
use native.Mathlib.Decide.{ℕ_discrete}
use Rattle.fib_resolve.specs.declared.types.End.{End}
use Rattle.fib_core_results.specs.Trails.{IsRecordOk}
use Rattle.fib_core_results.specs.Steady.{IsSteady}
use Rattle.fib_core_results.specs.Versions.{unpacked}
use Rattle.fib_core.specs.Walk.{ended}
use Rattle.fib_core.specs.Trails.{Trail, AreLawful, place, trail_at}
use Rattle.fib_core_lawful.specs.Layout.{version_word, pass_word}
use Rattle.fib_core_lawful.specs.State.{Control, Worker, View, control, worker, spent, learned, stopped, taken_home}
use Rattle.fib_core_lawful.specs.Frame.{HasView}
use Rattle.fib_core_lawful.proofs.Views.{set_there}
use Rattle.fib_core_rule.specs.Rule.{IsLawful}
use Rattle.fib_core_rule.specs.Steady.{AreSteady}
use Rattle.fib_core_rule.proofs.Keeping as keep
use Rattle.fib_core_rule.proofs.Tells as tells
use Rattle.fib_core_board.specs.Boards.{Board, Pass}
use Rattle.fib_core_plainboard.specs.Passes.{pass_of, pass_ended, answer_of}
use Rattle.fib_core_plainboard.specs.inner.Sits.{control_with, view_of, Sits, IsPlain}
use Rattle.fib_core_plainboard.proofs.Views.{at_other, worker_apart, workers_apart}
use Rattle.fib_core_plainboard.proofs.Keeping.{Own, desk, version_now}
use Rattle.fib_core_plainboard.proofs.Passing.{some_none, pass_same, pass_other, inside, Sat}

module _ (words : List ℕ) (p : Board) (s : IsPlain words p) (n : ℕ) (q : Pass) (runs : pass_of p n ≡ Some q) where
  abbrev Mine : Control
  Mine = Own words p s

  abbrev Seat : ℕ
  Seat = (s.sits n q runs).seat

  abbrev Old : Worker
  Old = Sat words p s n q runs

  -- it loads the version
  abbrev Learned : Worker
  Learned = learned Old (slice_index words version_word)

  abbrev One : List View
  One = slice_set s.views Seat (worker Learned)

  lawful_one : IsLawful p.objects words One
  lawful_one = keep.learns p.objects words s.views Seat s.lawful Old (s.sits n q runs).has

  there_one : HasView One Seat (worker Learned)
  there_one = set_there s.views Seat (worker Old) (worker Learned) (s.sits n q runs).has

  apart : Seat ≢ 0
  apart = worker_apart s.views Mine Old Seat s.mine (s.sits n q runs).has

  mine_one : HasView One 0 (control Mine)
  mine_one = at_other s.views Seat 0 (worker Learned) (control Mine) (λ e. apart (sym e)) s.mine

  -- what it answers is right and steady
  module _ (e : End) (at : place q.loads ≡ ended e) where
    abbrev Done : Trail
    Done = record { lo = q.lo; loads = q.loads; hi = unpacked (slice_index words version_word) }

    done_right : AreLawful p.log.history (trail_at (ended e) Done) × AreSteady p.log.history (trail_at (ended e) Done)
    done_right = subst (λ x. AreLawful p.log.history (trail_at x Done) × AreSteady p.log.history (trail_at x Done)) at
        (tells.ended_right p.objects words One lawful_one 0 Mine mine_one Seat Learned there_one)

    pub answer_right : IsRecordOk p.log.history (answer_of q p.log.version)
    answer_right = subst (λ hi. IsRecordOk p.log.history (answer_of q hi)) (version_now words p s)
        (done_right.0.0.right q.addr q.hash (s.sits n q runs).follows)

    pub answer_steady : IsSteady p.log.history (answer_of q p.log.version)
    answer_steady = subst (λ hi. IsSteady p.log.history (answer_of q hi)) (version_now words p s)
        (done_right.1.0 q.addr q.hash (s.sits n q runs).follows)

  -- it stores its pass word, and its seat comes home
  abbrev Stopped : Worker
  Stopped = stopped Learned (slice_index p.rests n + 2)

  abbrev Two : List View
  Two = slice_set One Seat (worker Stopped)

  abbrev Ended : List ℕ
  Ended = slice_set words (pass_word n) (slice_index p.rests n + 2)

  lawful_two : IsLawful p.objects Ended Two
  lawful_two = keep.stops p.objects words One Seat lawful_one Learned (slice_index p.rests n + 2) (let even = s.even n in omega arith) there_one

  there_two : HasView Two Seat (worker Stopped)
  there_two = set_there One Seat (worker Learned) (worker Stopped) there_one

  mine_two : HasView Two 0 (control Mine)
  mine_two = at_other One Seat 0 (worker Stopped) (control Mine) (λ e. apart (sym e)) mine_one

  abbrev Home : List Trail
  Home = s.home ++ Stopped.past

  abbrev Then : Control
  Then = control_with (pass_ended p n) Home s.picked

  taken_is : taken_home Mine Stopped ≡ Then
  taken_is = ap (λ g. record Then { gathered = g }) (append-nil p.gathered)

  abbrev Gone : List View
  Gone = slice_set (slice_set Two 0 (control Then)) Seat spent

  there_three : HasView (slice_set Two 0 (control (taken_home Mine Stopped))) Seat (worker Stopped)
  there_three = at_other Two 0 Seat (control (taken_home Mine Stopped)) (worker Stopped) apart there_two

  lawful_gone : IsLawful p.objects Ended Gone
  lawful_gone = subst (λ (d : Control). IsLawful p.objects Ended (slice_set (slice_set Two 0 (control d)) Seat spent)) taken_is
      (keep.homes p.objects Ended Two 0 lawful_two Seat Mine Stopped refl mine_two apart there_three)

  in_passes : n < length p.passes
  in_passes = inside p.passes n q runs

  -- another worker's pass
  still : (m : ℕ) (r : Pass) → m ≢ n → Sits s.views p m r → Sits Gone (pass_ended p n) m r
  still m r ne t =
      let other = workers_apart s.views Old (view_of p m r) Seat t.seat (s.sits n q runs).has t.has (λ same. ne (sym same)) in
      let second = worker_apart s.views Mine (view_of p m r) t.seat s.mine t.has in
      let rest : slice_index p.rests m ≡ slice_index (slice_set p.rests n (slice_index p.rests n + 2)) m = sym (get_or-set_other p.rests n m (slice_index p.rests n + 2) 0 ne) in
      record {
        seat = t.seat;
        has = subst (λ x. HasView Gone t.seat (worker (record (view_of p m r) { pass = x + 1 }))) rest
            (at_other (slice_set Two 0 (control Then)) Seat t.seat spent (worker (view_of p m r)) other
            (at_other Two 0 t.seat (control Then) (worker (view_of p m r)) second
            (at_other One Seat t.seat (worker Stopped) (worker (view_of p m r)) other
            (at_other s.views Seat t.seat (worker Learned) (worker (view_of p m r)) other t.has))));
        follows = t.follows;
        left = subst (λ x. x + 2 < 2 ^ 64) rest t.left;
      }

  runs_else : (m : ℕ) (r : Pass) → pass_of (pass_ended p n) m ≡ Some r → m ≢ n
  runs_else m r e same = some_none r (sym e ∙ ap (pass_of (pass_ended p n)) same ∙ pass_same p.passes n None in_passes)

  pub ends : IsPlain Ended (pass_ended p n)
  ends = record {
    views = Gone;
    home = Home;
    picked = s.picked;
    lawful = lawful_gone;
    mine = at_other (slice_set Two 0 (control Then)) Seat 0 spent (control Then) (λ e. apart (sym e))
        (set_there Two 0 (control Mine) (control Then) mine_two);
    limits = s.limits;
    claims = s.claims;
    trails = s.trails;
    even = evens;
    long = length-set p.passes n None ∙ s.long;
    sits = λ m r e. (let ne = runs_else m r e in still m r ne (s.sits m r (sym (pass_other p.passes n None m ne) ∙ e)));
    rests = homes;
  }
    where
      low : (m : ℕ) → n < length p.rests → slice_index (slice_set p.rests n (slice_index p.rests n + 2)) m % 2 ≡ 0
      low m lt = dite (ℕ_discrete m n)
          (λ same. ap (λ i. slice_index (slice_set p.rests n (slice_index p.rests n + 2)) i % 2) same
          ∙ ap (λ x. x % 2) (get_or-set_same p.rests n (slice_index p.rests n + 2) 0 lt) ∙ two (slice_index p.rests n) (s.even n))
          (λ ne. ap (λ x. x % 2) (get_or-set_other p.rests n m (slice_index p.rests n + 2) 0 ne) ∙ s.even m)
        where
          two : (x : ℕ) → x % 2 ≡ 0 → (x + 2) % 2 ≡ 0
          two x even = omega arith

      evens : (m : ℕ) → slice_index (slice_set p.rests n (slice_index p.rests n + 2)) m % 2 ≡ 0
      evens m = low m (let count = (desk words p s).count in let lt = in_passes in let long = s.long in omega arith)

      homes : (m : ℕ) → pass_of (pass_ended p n) m ≡ None → slice_index_or (slice_set p.out n false) m false ≡ false
      homes m e = dite (ℕ_discrete m n)
          (λ same. ap (λ i. slice_index_or (slice_set p.out n false) i false) same ∙ get_or-set_same p.out n false false (let outs = (desk words p s).outs in let lt = in_passes in let long = s.long in omega arith))
          (λ ne. get_or-set_other p.out n m false false ne ∙ s.rests m (sym (pass_other p.passes n None m ne) ∙ e))
