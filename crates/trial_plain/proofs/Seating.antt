-- What the calls of a control plane leave of who passes, and what a pass's own calls make of it.
use Rattle.std.proofs.Common.{◌≡◌, ℕ, ◌+◌, ◌-◌, ◌/◌, ◌^◌, ◌<◌, ◌≤◌, Bool, true, false, not, true≢false, List, [], ◌∷◌, ◌∙◌, ap, arith, refl, sym, subst}
use Rattle.std.specs.List.{list_any}
use Rattle.std.specs.Prelude.{Err, IfNone, IfSome, None, Ok, OnErr, OnOk, Option, Result, Some, slice_index, slice_index_or, slice_set}
use Rattle.fib_resolve.specs.declared.types.End.{End}
use Rattle.fib_resolve.specs.declared.types.Tables.{Tables}
use Rattle.fib_core_lawful.specs.State.{left_of}
use Rattle.fib_core_board.specs.Boards.{Board, Pass}
use Rattle.fib_core_plainboard.specs.Passes.{HasEnd, IsOnItsWay, fresh_plain, hopped_on, pass_begun, pass_ended}
use Rattle.fib_plane.specs.Planes.{Plane}
use Rattle.fib_plane_view.specs.Promise.{Promise}
use Rattle.fib_plane.specs.Views.{promise_of}
use Rattle.fib_control.specs.Controls.{Control, IsBeneath, IsChanged, IsSettled, but_settled, promise_in, with_board}
use Rattle.trial_plain.specs.Seats.{HasCome, IsElseHome, IsHeld, IsHome, IsUnchanged, IsRested, Seats, first_seats, seats_in, seats_of}

pub seats_first : (n : ℕ) (c : Control) (b : Board) → promise_in c ≡ promise_of b → b ≡ fresh_plain n 1 → seats_in c ≡ first_seats
seats_first n c b same is = ap (λ (p : Promise). seats_of p.rest) same ∙ ap seats_of is

pub seats_beneath : (c d : Control) → IsBeneath c d → seats_in d ≡ seats_in c
seats_beneath c d i = ap (λ (p : Promise). seats_of p.rest) i.promise

pub seats_changed : (c d : Control) (T : Tables) → IsChanged c d T → seats_in d ≡ seats_in c
seats_changed c d T i = ap (λ (p : Plane). seats_of p.board) i.plane

pub seats_settled : (c d : Control) → IsSettled c d → seats_in d ≡ seats_in c
seats_settled c d i = ap (λ (p : Plane). seats_of p.board) i.plane

pub seats_tried : {A E : Type 0} (r : Result A E) (c d : Control) → OnOk r (IsSettled c d) → OnErr r (d ≡ c) → seats_in d ≡ seats_in c
seats_tried (Ok a) c d settled same = seats_settled c d settled
seats_tried (Err e) c d settled same = ap seats_in same

pub seats_alone : (c d : Control) → but_settled d.plane.board ≡ but_settled c.plane.board → seats_in d ≡ seats_in c
seats_alone c d same = ap seats_of same

pub home_by : (s : Seats) → s ≡ first_seats → IsHome s
home_by s is = subst IsHome (sym is) refl

pub rested_by : (n : ℕ) (s : Seats) → n ≤ left_of 0 → s ≡ first_seats → IsRested n s
rested_by n s few is = subst (IsRested n) (sym is) (record { some = omega arith; home = refl; rests = refl; left = few })

pub held_still : (e : Option End) (s t : Seats) → t ≡ s → IsHeld 2 e s → IsHeld 0 e t
held_still e s t same h = subst (IsHeld 0 e) (sym same) (record { some = h.some; home = h.home; left = omega arith; come = h.come })

pub rested_left : (s : Seats) → IsRested 1 s → 0 < left_of (slice_index s.rests 0)
rested_left s r = (let l = r.left in omega (arith, l))

-- calls that change no more than the board, and those that begin no change, keep the tables and the queue
pub kept_passed : (c d : Control) (b : Board) → d ≡ with_board c b → IsUnchanged c d
kept_passed c d b is = record { setup = ap (λ (x : Control). x.setup) is; queue = ap (λ (x : Control). x.queue) is }

pub kept_beneath : (c d : Control) → IsBeneath c d → d.queue ≡ c.queue → IsUnchanged c d
kept_beneath c d i queue = record { setup = i.setup; queue = queue }

pub kept_settled : {A E : Type 0} (r : Result A E) (c d : Control) → OnOk r (IsSettled c d) → OnErr r (d ≡ c) → IsUnchanged c d
kept_settled (Ok a) c d settled same = record { setup = ap (λ (x : Control). x.setup) settled.others; queue = ap (λ (x : Control). x.queue) settled.others }
kept_settled (Err e) c d settled same = record { setup = ap (λ (x : Control). x.setup) same; queue = ap (λ (x : Control). x.queue) same }

pub kept_then : (c d e : Control) → IsUnchanged c d → IsUnchanged d e → IsUnchanged c e
kept_then c d e k l = record { setup = l.setup ∙ k.setup; queue = l.queue ∙ k.queue }

-- worker 0 leaves, and comes home
home_after : (out : List Bool) → not (list_any (λ away. away) out) ≡ true → not (list_any (λ away. away) (slice_set (slice_set out 0 true) 0 false)) ≡ true
home_after [] h = h
home_after (true ∷ out) h = absurd (true≢false (sym h))
home_after (false ∷ out) h = h

pub begun_held : (n : ℕ) (c d : Control) (a h : ℕ) → d ≡ with_board c (pass_begun c.plane.board 0 a h) → IsOnItsWay d.plane.board 0
    → IsRested n (seats_in c) → IsHeld n None (seats_in d)
begun_held n c d a h is on r = record {
  some = subst (λ (x : Control). 0 < x.plane.board.workers) (sym is) r.some;
  home = subst (λ (x : Control). IsElseHome (seats_in x)) (sym is) (home_after c.plane.board.out r.home);
  left = subst (λ (x : Control). n ≤ left_of (slice_index x.plane.board.rests 0)) (sym is) r.left;
  come = on;
}

come_by : (c : Control) (e : Option End) (X : Type 0) → IfNone e (IsOnItsWay c.plane.board 0 × X) → IfSome e (λ end. HasEnd c.plane.board 0 end) → HasCome e (seats_in c)
come_by c None X on ended = on.0
come_by c (Some e) X on ended = ended

pub hopped_held : (n : ℕ) (c d : Control) (e : Option End) (X : Type 0) → d ≡ with_board c (hopped_on c.plane.board 0)
    → IfNone e (IsOnItsWay d.plane.board 0 × X) → IfSome e (λ end. HasEnd d.plane.board 0 end)
    → IsHeld n None (seats_in c) → IsHeld n e (seats_in d)
hopped_held n c d e X is on ended h = record {
  some = subst (λ (x : Control). 0 < x.plane.board.workers) (sym is) h.some;
  home = subst (λ (x : Control). IsElseHome (seats_in x)) (sym is) h.home;
  left = subst (λ (x : Control). n ≤ left_of (slice_index x.plane.board.rests 0)) (sym is) h.left;
  come = come_by d e X on ended;
}

none_after : (ps : List (Option Pass)) → slice_index_or (slice_set ps 0 None) 0 None ≡ None
none_after [] = refl
none_after (p ∷ ps) = refl

one_less : (n : ℕ) (rests : List ℕ) → n + 1 ≤ left_of (slice_index rests 0) → n ≤ left_of (slice_index (slice_set rests 0 (slice_index rests 0 + 2)) 0)
one_less n [] lt = omega (arith, lt)
one_less n (r ∷ rs) lt = omega (arith, lt)

pub ended_rested : (n : ℕ) (c d : Control) (e : End) → d ≡ with_board c (pass_ended c.plane.board 0) → IsHeld (n + 1) (Some e) (seats_in c) → IsRested n (seats_in d)
ended_rested n c d e is h = subst (λ (x : Control). IsRested n (seats_in x)) (sym is) (record {
  some = h.some;
  home = h.home;
  rests = none_after c.plane.board.passes;
  left = one_less n c.plane.board.rests h.left;
})
