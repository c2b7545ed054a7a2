-- Stations as their workers leave and as they come back.
use Rattle.std.proofs.Common.{◌≡◌, ◌<◌, ◌≤◌, ◌+◌, ◌*◌, ◌^◌, ◌++◌, ◌∷◌, ◌⊎◌, inl, inr, [], ℕ, List, Bool, true, false, length, take, arith, refl, ap, ◌∙◌, sym, subst, suc, Option, Some, None}
use Rattle.std.specs.Prelude.{slice_index, slice_index_or, All}
use Rattle.std.proofs.Math.Seq.{take-append_seam}
use Rattle.std.proofs.lemmas.List.Elements.{All-cons, All-nil}
use Rattle.fib_core_results.specs.Trails.{AtLeast, version_at}
use Rattle.fib_capture.specs.declared.packet.Packet.{Packet}
use Rattle.fib_core_lawful.specs.State.{left_of}
use Rattle.fib_core_board.specs.Boards.{Board}
use Rattle.fib_core_board.specs.Crews.{Seated, new_seat}
use Rattle.fib_worker_crew.specs.Frames.{frames}
use Rattle.fib_worker_crew.specs.Results.{Told, results_of}
use Rattle.fib_worker_crew.specs.Work.{HasMissed, HasWorked, results_in, steps_of, steps_so_far}
use Rattle.fib_worker_crew.specs.declared.claims.Frame.{Frame}
use Rattle.fib_rounds_homing.specs.Stations.{MayWorkBy, IsReady, HasDoneBy, HasDone, HasPassed, HasWorkedBy, IsMustered, IsCrew, IsNew, IsBack, AreBack}
use Rattle.fib_rounds_homing.specs.declared.station.Station.{Station}

pub crew_more : (b : Board) (at : ℕ) (crew : List Station) (s : Station) → IsCrew b at crew → IsMustered b (at + length crew) s → IsCrew b at (crew ++ s ∷ [])
crew_more b at [] s c m = (subst (λ n. IsMustered b n s) same m, tt)
  where
    same : at + length {A = Station} [] ≡ at
    same = omega arith
crew_more b at (t ∷ crew) s c m =
    let e : at + length (t ∷ crew) ≡ (at + 1) + length crew = omega arith in
    (c.0, crew_more b (at + 1) crew s c.1 (subst (λ n. IsMustered b n s) e m))

ready_by : (b : Board) (k number count : ℕ) (s : Station) → IsMustered b number s → AtLeast (version_at k) b.log.version → 256 * (count + 1) ≤ left_of (slice_index b.rests number) → count < 2 ^ 31 → IsReady k count s
ready_by b k number count s m knows enough few = subst (MayWorkBy k count) (sym m) (record { knows = knows; left = enough; claims = omega (arith, few) })

pub ready_all : (b : Board) (k at count : ℕ) (crew : List Station) → IsCrew b at crew → AtLeast (version_at k) b.log.version
    → ((n : ℕ) → n < at + length crew → 256 * (count + 1) ≤ left_of (slice_index b.rests n)) → count < 2 ^ 31 → All (IsReady k count) crew
ready_all b k at count [] c knows enough few = All-nil (IsReady k count)
ready_all b k at count (s ∷ crew) c knows enough few =
    All-cons (IsReady k count) s crew (ready_by b k at count s c.0 knows (enough at (omega arith)) few)
    (ready_all b k (at + 1) count crew c.1 knows (λ n lt. enough n (omega (arith, lt))) few)

some_same : {A : Type 0} {x y : A} → Some x ≡ Some y → x ≡ y
some_same e = cc

new_of : (b : Board) (number : ℕ) (v : Seated) → v ≡ new_seat b number → IsNew b.id number (slice_index b.rests number) v
new_of b number v e = record {
  id = ap (λ (s : Seated). s.id) e;
  number = ap (λ (s : Seated). s.worker.number) e;
  pass = ap (λ (s : Seated). s.worker.pass) e;
  loads = ap (λ (s : Seated). s.worker.version_loads) e;
  past = ap (λ (s : Seated). s.worker.past) e;
  claims = ap (λ (s : Seated). s.worker.claims) e;
}

-- the last claim, which names none, has no results
last_none : (list : List Frame) → results_in (steps_so_far list) ≡ results_in (steps_of list)
last_none [] = refl
last_none (f ∷ list) = ap (λ rs. results_of f.results.list ++ rs) (last_none list)

-- a worker that left with nothing behind it
passed_by : (words : List ℕ) (n p k first base m : ℕ) (taken : List Packet) (v w : Seated) (steps : List (Option Frame)) (list : List Frame) → IsNew words n p v → HasWorked k first base m taken v w steps
    → results_in steps ≡ results_in (steps_of list) → HasPassed p w list
passed_by words n p k first base m taken v w steps list new worked same =
    let past : w.worker.past ≡ worked.trails = worked.past ∙ ap (λ ts. ts ++ worked.trails) new.past in
    let long = ap length past in
    let passes = worked.passes in
    let loads = worked.loads in
    let left = new.pass in
    let none = new.loads in
    record {
      flows = subst (λ ts. Told ts (results_in (steps_of list))) (sym past) (subst (Told worked.trails) same worked.told);
      passes = omega (arith, long, passes, left);
      loads = omega (arith, long, loads, none);
    }

-- a claim that was missed is no pass
passed_on : (p base count : ℕ) (v w : Seated) (list : List Frame) → HasPassed p v list → HasMissed base count v w ⊎ ((w ≡ v) × (length list ≡ count + 1)) → HasPassed p w list
passed_on p base count v w list h last = elim last [
  | inl missed ↦ subst (λ s. HasPassed p s list) (sym missed.claimed) (record { flows = h.flows; passes = h.passes; loads = h.loads })
  | inr same ↦ subst (λ s. HasPassed p s list) (sym same.0) h
]

passed_in : (words : List ℕ) (n p k first base : ℕ) (taken : List Packet) (v w : Seated) (t : Station) (done : Bool) → t.done ≡ done → IsNew words n p v → HasWorkedBy k first base taken v w t → HasPassed p w t.frames.items
passed_in words n p k first base taken v w t true is new back =
    passed_by words n p k first base (frames taken + 1) taken v w (steps_of t.frames.items) t.frames.items new (back.worked is) refl
passed_in words n p k first base taken v w t false is new back =
    let stopped = back.stopped is in
    passed_on p base (frames taken) stopped.between w t.frames.items
    (passed_by words n p k first base (frames taken + 1) taken v stopped.between (steps_so_far t.frames.items) t.frames.items new stopped.worked (last_none t.frames.items))
    stopped.last

back_by : (b : Board) (k first base number : ℕ) (taken : List Packet) (s t : Station) (v w : Option Seated) → IsMustered b number s → s.worker ≡ v → t.worker ≡ w → HasDoneBy k first base taken t v w
    → IsBack b.id b.rests k first base number taken t
back_by b k first base number taken s t None w m sv tw d = absurd d
back_by b k first base number taken s t (Some v) None m sv tw d = absurd d
back_by b k first base number taken s t (Some v) (Some w) m sv tw d =
    let new = new_of b number v (some_same (sym sv ∙ m)) in
    record {
      left = v;
      new = new;
      worker = w;
      has = tw;
      back = d;
      passed = passed_in b.id number (slice_index b.rests number) k first base taken v w t t.done refl new d;
    }

pub back_all : (b : Board) (k first base at : ℕ) (taken : List Packet) (before after : List Station) → IsCrew b at before → length after ≡ length before
    → ((i : ℕ) (d : Station) → i < length before → HasDone k first base taken (slice_index_or before i d) (slice_index_or after i d)) → AreBack b.id b.rests k first base at taken after
back_all b k first base at taken [] [] c len each = tt
back_all b k first base at taken [] (t ∷ after) c len each = absurd (omega (arith, len))
back_all b k first base at taken (s ∷ before) [] c len each = absurd (omega (arith, len))
back_all b k first base at taken (s ∷ before) (t ∷ after) c len each = (
  back_by b k first base at taken s t s.worker t.worker c.0 refl refl (each 0 s (omega arith)),
  back_all b k first base (at + 1) taken before after c.1 (omega (arith, len)) (λ i d lt. each (suc i) d (omega (arith, lt))),
)

-- a vector of which the whole was lent has what was written
pub written_back : {A : Type 0} (n : ℕ) (xs ys : List A) → length xs ≡ n → take n (xs ++ ys) ≡ xs
written_back n xs ys e = ap (λ k. take k (xs ++ ys)) (sym e) ∙ take-append_seam xs ys
