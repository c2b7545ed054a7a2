-- Station by station.
use Rattle.std.proofs.Common.{◌≡◌, ◌<◌, ◌≤◌, ◌+◌, ◌-◌, ◌*◌, ◌^◌, ◌/◌, ◌++◌, ◌∷◌, [], ℕ, List, Bool, true, false, length, arith, refl, ap, ◌∙◌, sym, subst, Option, Some, ◌⊎◌, inl, inr, zero, suc}
use Rattle.std.proofs.Math.Decide.{ℕ_discrete}
use Rattle.std.proofs.Math.Logic.{dite}
use Rattle.std.specs.Prelude.{slice_set, slice_index, slice_index_or}
use Rattle.std.specs.List.{AllByRecursion}
use Rattle.std.proofs.lemmas.List.{get_or-set_other}
use Rattle.fib_capture.specs.declared.packet.Packet.{Packet}
use Rattle.fib_core_lawful.specs.State.{left_of}
use Rattle.fib_core_board.specs.Boards.{Board}
use Rattle.fib_core_board.specs.Crews.{Seated, board_joined}
use Rattle.fib_worker_crew.specs.Frames.{frames}
use Rattle.fib_worker_crew.specs.Results.{Kept}
use Rattle.fib_worker_crew.specs.Work.{IsForwarded}
use Rattle.fib_worker_crew.specs.declared.claims.Frame.{Frame}
use Rattle.fib_rounds_homing.specs.Homes.{NoneOut, but_crew}
use Rattle.fib_rounds_homing.specs.Places.{placed}
use Rattle.fib_rounds_homing.specs.Stations.{AreBack, HasWorkedBy}
use Rattle.fib_rounds_homing.specs.declared.station.Station.{Station}
use Rattle.fib_rounds_homing.specs.inner.Coming.{IsBrought, IsComing, IsOf}
use Rattle.fib_rounds_homing.proofs.Gathering.{all_inside, brought_none, brought_more, frames_of_steps}

pub coming_none : (k first base n : ℕ) (taken : List Packet) (a : Board) (old : List (Option Kept)) (rest : List Station) → AreBack a.id a.rests k first base 0 taken rest → length rest ≡ n
    → ((i : ℕ) → n ≤ i → slice_index_or a.out i false ≡ false) → IsComing k first base n taken a a old old true rest
coming_none k first base n taken a old rest back all others = record {
  at = 0;
  all = omega (arith, all);
  keeps = refl;
  back = back;
  home = none_yet;
  brought = λ d. brought_none k first base taken a old;
  passes = λ d i. omega arith;
  long = refl;
}
  where
    none_yet : (i : ℕ) → (i < 0) ⊎ (n ≤ i) → slice_index_or a.out i false ≡ false
    none_yet i (inl lt) = absurd (omega (arith, lt))
    none_yet i (inr le) = others i le

set_off : (out : List Bool) (i n : ℕ) → n ≡ i → slice_index_or (slice_set out i false) n false ≡ false
set_off [] i n e = refl
set_off (x ∷ out) zero zero e = refl
set_off (x ∷ out) zero (suc n) e = absurd (omega (arith, e))
set_off (x ∷ out) (suc i) zero e = absurd (omega (arith, e))
set_off (x ∷ out) (suc i) (suc n) e = set_off out i n (omega (arith, e))

off_after : (out : List Bool) (i n : ℕ) → (n ≡ i) ⊎ (slice_index_or out n false ≡ false) → slice_index_or (slice_set out i false) n false ≡ false
off_after out i n (inl e) = set_off out i n e
off_after out i n (inr off) = dite (ℕ_discrete n i) (λ e. set_off out i n e) (λ ne. get_or-set_other out i n false false ne ∙ off)

-- past the end of the list a number reads as 0
set_here : (xs : List ℕ) (i x : ℕ) → left_of x ≤ left_of (slice_index (slice_set xs i x) i)
set_here [] i x = (let h : left_of x ≤ 2 ^ 63 - 1 = omega arith in h)
set_here (y ∷ xs) zero x = omega arith
set_here (y ∷ xs) (suc i) x = set_here xs i x

set_there : (xs : List ℕ) (i n x : ℕ) → (n ≡ i → ⊥) → slice_index (slice_set xs i x) n ≡ slice_index xs n
set_there [] i n x ne = refl
set_there (y ∷ xs) zero zero x ne = absurd (ne refl)
set_there (y ∷ xs) zero (suc n) x ne = refl
set_there (y ∷ xs) (suc i) zero x ne = refl
set_there (y ∷ xs) (suc i) (suc n) x ne = set_there xs i n x (λ e. ne (ap suc e))

left_after : (old now : List ℕ) (i x d n : ℕ) → left_of (slice_index old i) ≤ left_of x + d → left_of (slice_index old n) ≤ left_of (slice_index now n) + d
    → left_of (slice_index old n) ≤ left_of (slice_index (slice_set now i x) n) + d
left_after old now i x d n mine there = dite (ℕ_discrete n i)
    (λ e. subst (λ m. left_of (slice_index old m) ≤ left_of (slice_index (slice_set now i x) m) + d) (sym e) (let h = set_here now i x in omega (arith, mine, h)))
    (λ ne. subst (λ m. left_of (slice_index old n) ≤ left_of m + d) (sym (set_there now i n x ne)) there)

some_same : {A : Type 0} {x y : A} → Some x ≡ Some y → x ≡ y
some_same e = cc

earlier : (out : List Bool) (n at number i : ℕ) → number ≡ at → ((j : ℕ) → (j < at) ⊎ (n ≤ j) → slice_index_or out j false ≡ false) → (i < at + 1) ⊎ (n ≤ i)
    → (i ≡ number) ⊎ (slice_index_or out i false ≡ false)
earlier out n at number i is home (inr le) = inr (home i (inr le))
earlier out n at number i is home (inl lt) = dite (ℕ_discrete i at) (λ e. inl (e ∙ sym is)) (λ ne. inr (home i (inl (omega (arith, lt, ne)))))

pub coming_more : (k first base n : ℕ) (taken : List Packet) (a b c : Board) (old mid new : List (Option Kept)) (done now : Bool) (s : Station) (rest : List Station) (w : Seated)
    → IsComing k first base n taken a b old mid done (s ∷ rest) → s.worker ≡ Some w → c ≡ board_joined b w.worker
    → (now ≡ true → (done ≡ true) × (s.done ≡ true) × (new ≡ placed mid s.frames.items)) → length new ≡ length mid
    → IsComing k first base n taken a c old new now rest
coming_more k first base n taken a b c old mid new done now s rest w h is come same len =
    let back = h.back.0 in
    let work : HasWorkedBy k first base taken back.left w s = subst (λ x. HasWorkedBy k first base taken back.left x s) (some_same (sym back.has ∙ is)) back.back in
    let number : w.worker.number ≡ h.at = work.number ∙ back.new.number in
    subst (λ x. IsComing k first base n taken a x old new now rest) (sym come) (record {
      at = h.at + 1;
      all = (let l = h.all in omega (arith, l));
      keeps = h.keeps;
      back = h.back.1;
      home = λ i which. off_after b.out w.worker.number i (earlier b.out n h.at w.worker.number i number h.home which);
      brought = λ yes. brought_more k first base h.at (frames taken + 1) taken a b old mid new back.left w s.frames.items (h.brought (same yes).0) back.new.past back.new.claims
          (work.worked (same yes).1) (same yes).2;
      passes = λ yes i. left_after a.rests b.rests w.worker.number w.worker.pass (256 * (frames taken + 1)) i
          (subst (λ p. left_of p ≤ left_of w.worker.pass + 256 * (frames taken + 1)) (back.new.pass ∙ ap (slice_index a.rests) (sym number)) (work.worked (same yes).1).left)
          (h.passes (same yes).0 i);
      long = len ∙ h.long;
    })

-- what the next one's coming asks
pub may_come : (k first base n : ℕ) (taken : List Packet) (a b : Board) (old new : List (Option Kept)) (done : Bool) (s : Station) (rest : List Station) → IsComing k first base n taken a b old new done (s ∷ rest)
    → length old ≡ frames taken → IsOf b.id s.worker × (s.done ≡ true → AllByRecursion (λ (f : Frame). f.number < length new) s.frames.items)
may_come k first base n taken a b old new done s rest h len =
    let back = h.back.0 in
    let id : back.worker.id ≡ b.id = back.back.id ∙ (back.new.id ∙ sym (ap (λ (x : Board). x.id) h.keeps)) in (
      subst (IsOf b.id) (sym back.has) id,
      λ yes. (let each : AllByRecursion (IsForwarded k first taken) s.frames.items = subst (AllByRecursion (IsForwarded k first taken)) (frames_of_steps s.frames.items) (back.back.worked yes).each in
          all_inside k first (length new) taken s.frames.items (sym (h.long ∙ len)) each),
    )

pub coming_all : (k first base n : ℕ) (taken : List Packet) (a b : Board) (old new : List (Option Kept)) (done : Bool) → IsComing k first base n taken a b old new done []
    → NoneOut b × (done ≡ true → IsBrought k first base n taken a b old new)
coming_all k first base n taken a b old new done h =
    let l = h.all in
    let at : h.at ≡ n = omega (arith, l) in
    (λ i. h.home i (split h.at n i at), λ yes. subst (λ m. IsBrought k first base m taken a b old new) at (h.brought yes))
  where
    split : (at n i : ℕ) → at ≡ n → (i < at) ⊎ (n ≤ i)
    split at n i e = dite (ℕ_discrete (at - i) 0) (λ z. inr (omega (arith, z, e))) (λ ne. inl (omega (arith, ne)))
