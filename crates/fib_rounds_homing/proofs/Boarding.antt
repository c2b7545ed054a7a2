-- Controls that differ by their boards alone, and boards whose workers leave.
use Rattle.std.proofs.Common.{◌≡◌, ◌<◌, ◌≤◌, ◌+◌, ◌^◌, ◌++◌, ◌∷◌, [], ℕ, List, Some, true, false, length, arith, ap, ◌∙◌, refl, sym, subst}
use Rattle.std.specs.Prelude.{◌&&◌, Bool, slice_index_or, slice_set}
use Rattle.std.proofs.Math.Bool.{and-true, and_assoc}
use Rattle.std.proofs.lemmas.Bool.{false≢true}
use Rattle.std.proofs.lemmas.List.{append_assoc, append-nil, get_or-set_other}
use Rattle.fib_core.specs.Trails.{Trail}
use Rattle.fib_core_board.specs.Boards.{Board}
use Rattle.fib_core_board.specs.Crews.{MaySend, Seated, board_sent, new_seat}
use Rattle.fib_control.specs.Controls.{Control, with_board}
use Rattle.fib_rounds_homing.specs.Homes.{but_out}
use Rattle.fib_rounds_homing.specs.Stations.{IsCrew, IsMustered, all_done, past_of, pasts_of, rests_of, rests_with}
use Rattle.fib_rounds_homing.specs.declared.station.Station.{Station}
use Rattle.fib_rounds_homing.proofs.Mustering.{crew_more}

-- one step more
pub with_step : (a b c : Control) (x : Board) → b ≡ with_board a b.plane.board → c ≡ with_board b x → c ≡ with_board a c.plane.board
with_step a b c x same step =
    step ∙ (ap (λ (y : Control). with_board y x) same ∙ ap (with_board a) (sym (ap (λ (y : Control). y.plane.board) step)))

pub may_send : (a b : Board) (n workers : ℕ) → but_out b ≡ but_out a → n < workers → workers ≤ a.workers → length a.gathered < 2 ^ 60 → slice_index_or b.out n false ≡ false → MaySend b n
may_send a b n workers sent lt le few home = record {
  one = (let e = ap (λ (x : Board). x.workers) sent in omega (arith, e, lt, le));
  home = home;
  few = (let e = ap (λ (x : Board). length x.gathered) sent in omega (arith, e, few));
}

pub one_sent : (a b : Board) (c : Control) (n : ℕ) → but_out b ≡ but_out a → c.plane.board ≡ board_sent b n → but_out c.plane.board ≡ but_out a
one_sent a b c n sent step = ap but_out step ∙ sent

pub others_home : (b c : Board) (n : ℕ) → ((i : ℕ) → n ≤ i → slice_index_or b.out i false ≡ false) → c ≡ board_sent b n → (i : ℕ) → n + 1 ≤ i → slice_index_or c.out i false ≡ false
others_home b c n home step i le =
    ap (λ (x : Board). slice_index_or x.out i false) step
    ∙ (get_or-set_other b.out n i true false (λ e. omega (arith, e, le)) ∙ home i (omega (arith, le)))

pub crew_longer : (a b : Board) (n : ℕ) (old new : List Station) (s : Station) → but_out b ≡ but_out a → IsCrew a 0 old → length old ≡ n → IsMustered b n s → new ≡ old ++ s ∷ [] → IsCrew a 0 new
crew_longer a b n old new s sent crew long is items =
    let at : n ≡ 0 + length old = omega (arith, long) in
    subst (IsCrew a 0) (sym items) (crew_more a 0 old s crew (subst (λ m. IsMustered a m s) at (is ∙ ap (λ (x : Board). Some (new_seat x n)) sent)))

-- one worker's past is brought home
pub pasts_more : (old : List Trail) (s : Station) (rest : List Station) (w : Seated) → s.worker ≡ Some w → (old ++ w.worker.past) ++ pasts_of rest ≡ old ++ pasts_of (s ∷ rest)
pasts_more old s rest w is = append_assoc old w.worker.past (pasts_of rest) ∙ ap (λ o. old ++ (past_of o ++ pasts_of rest)) (sym is)

-- all are home
pub pasts_none : (now before : List Trail) (rest : List Station) → now ++ pasts_of rest ≡ before → rest ≡ [] → now ≡ before
pasts_none now before rest all none = sym (ap (λ r. now ++ pasts_of r) none ∙ append-nil now) ∙ all

-- the pass words likewise
pub rests_more : (old : List ℕ) (s : Station) (rest : List Station) (w : Seated) → s.worker ≡ Some w
    → rests_of (slice_set old w.worker.number w.worker.pass) rest ≡ rests_of old (s ∷ rest)
rests_more old s rest w is = ap (λ o. rests_of (rests_with old o) rest) (sym is)

pub rests_none : (now before : List ℕ) (rest : List Station) → rests_of now rest ≡ before → rest ≡ [] → now ≡ before
rests_none now before rest all none = sym (ap (rests_of now) none) ∙ all

-- whether each came to the end
pub ended_more : (done came : Bool) (s : Station) (rest : List Station) → came ≡ s.done → (done && came && all_done rest) ≡ (done && all_done (s ∷ rest))
ended_more done came s rest is = and_assoc done came (all_done rest) ∙ ap (λ d. done && (d && all_done rest)) is

pub ended_none : (done all : Bool) (rest : List Station) → (done && all_done rest) ≡ all → rest ≡ [] → done ≡ all
ended_none done all rest is none = sym (and-true done) ∙ (sym (ap (λ r. done && all_done r) none) ∙ is)

pub both_true : (a b : Bool) → (a && b) ≡ true → (a ≡ true) × (b ≡ true)
both_true true true is = (refl, refl)
both_true true false is = (refl, is)
both_true false b is = (is, absurd (false≢true is))
