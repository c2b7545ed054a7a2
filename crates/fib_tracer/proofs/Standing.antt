-- What the trails at home tell of the passes.
use Rattle.std.proofs.Common.{◌≡◌, ◌<◌, ◌≤◌, ◌^◌, ◌++◌, ◌∷◌, [], ℕ, zero, suc, List, Bool, Option, Some, None, true, false, length, map, refl, ap, ◌∙◌, sym, subst, arith}
use Rattle.std.specs.Prelude.{slice_index_or, slice_set}
use Rattle.std.specs.List.{AllByRecursion}
use Rattle.fib_resolve.specs.declared.types.Tables.{Tables}
use Rattle.fib_core_results.specs.declared.record.Version.{Version}
use Rattle.fib_core_results.specs.Trails.{AtLeast, version_at}
use Rattle.fib_capture.specs.declared.packet.Packet.{Packet}
use Rattle.fib_capture.specs.declared.packet.Packet.TheVariants.{Flow, NotIpv4, BadHeader}
use Rattle.fib_core.specs.Trails.{AreLawful, Trail}
use Rattle.fib_core_lawful.specs.State.{Worker}
use Rattle.fib_core_steady.specs.Undisturbed.{IsSteadyTrail}
use Rattle.fib_core_board.specs.Boards.{Board}
use Rattle.fib_core_board.specs.Crews.{MaySend, Seated, board_joined, board_sent, new_seat}
use Rattle.fib_core_board.specs.Told.{IsBoard}
use Rattle.fib_control.specs.Controls.{Control, with_board}
use Rattle.fib_worker_crew.specs.Packets.{Matched}
use Rattle.fib_worker_crew.proofs.Matching.{at_least_trans}
use Rattle.fib_rounds_homing.specs.Homes.{NoneOut}
use Rattle.fib_rounds_turns.specs.Routers.{KeepsCrew, applied_in, but_versions, history_in}
use Rattle.fib_trace.specs.Traces.{Trace}
use Rattle.fib_tracer.specs.declared.beside.Tracer.{Tracer}
use Rattle.fib_tracer.specs.declared.log.Log.{Log}
use Rattle.fib_tracer.specs.declared.log.Traced.{Traced}
use Rattle.fib_tracer.specs.Passes.{AreTraced, IsPassOf, IsTraced}
use Rattle.fib_tracer.specs.inner.Printing.{IsShort}
use Rattle.fib_tracer.specs.inner.Standing.{HasDoneBy, HasTracedBy, IsIdle, MayTraceAll}
use Rattle.fib_tracer.specs.inner.Tracing.{HasTracedAll, IsMade, Made}

-- trails that are lawful and steady are those of traced passes
pub right_made : (k : ℕ) (H : List Tables) (low : Version) → AtLeast (version_at k) low → (ps : List Packet) (made : List Made) → Matched (IsMade low) ps made
    → AreLawful H (map (λ m. m.0) made) → AllByRecursion (IsSteadyTrail H) (map (λ m. m.0) made) → Matched (λ a h m. IsPassOf k H a h m.0 m.1) ps made
right_made k H low from [] [] m lawful steady = tt
right_made k H low from [] (x ∷ made) m lawful steady = absurd m
right_made k H low from (NotIpv4 ∷ ps) made m lawful steady = right_made k H low from ps made m lawful steady
right_made k H low from (BadHeader ∷ ps) made m lawful steady = right_made k H low from ps made m lawful steady
right_made k H low from (Flow a h ∷ ps) [] m lawful steady = absurd m
right_made k H low from (Flow a h ∷ ps) (x ∷ made) m lawful steady = (
  record {
    follows = m.0.follows;
    lawful = lawful.0;
    steady = steady.0;
    later = at_least_trans (version_at k) low x.0.lo from m.0.later;
    loads = m.0.loads;
    result = m.0.result;
  },
  right_made k H low from ps made m.1 lawful.1 steady.1,
)

pub short_made : (low : Version) (ps : List Packet) (made : List Made) → Matched (IsMade low) ps made → Matched IsShort ps (map (λ m. m.1) made)
short_made low [] [] m = tt
short_made low [] (x ∷ made) m = absurd m
short_made low (NotIpv4 ∷ ps) made m = short_made low ps made m
short_made low (BadHeader ∷ ps) made m = short_made low ps made m
short_made low (Flow a h ∷ ps) [] m = absurd m
short_made low (Flow a h ∷ ps) (x ∷ made) m = (m.0.short, short_made low ps made m.1)

pub traced_made : (k : ℕ) (H : List Tables) (ps : List Packet) (made : List (Trail × Traced)) → Matched (λ a h m. IsPassOf k H a h m.0 m.1) ps made
    → Matched (IsTraced k H) ps (map (λ m. m.1) made)
traced_made k H [] [] m = tt
traced_made k H [] (x ∷ made) m = absurd m
traced_made k H (NotIpv4 ∷ ps) made m = traced_made k H ps made m
traced_made k H (BadHeader ∷ ps) made m = traced_made k H ps made m
traced_made k H (Flow a h ∷ ps) [] m = absurd m
traced_made k H (Flow a h ∷ ps) (x ∷ made) m = ((x.0, m.0), traced_made k H ps made m.1)

-- the seat is back
pub done_by : (ps : List Packet) (t : Tracer) (v : Seated) (p q : Option Seated) → p ≡ Some v → HasDoneBy ps t p q → (w : Seated) × (q ≡ Some w) × HasTracedBy ps v w t
done_by ps t v None q is done = absurd (cc)
done_by ps t v (Some u) None is done = absurd done
done_by ps t v (Some u) (Some w) is done = (w, refl, subst (λ x. HasTracedBy ps x w t) (same_some u v is) done)
  where
    same_some : (x y : Seated) → Some x ≡ Some y → x ≡ y
    same_some x y e = cc

-- ---- the worker leaves and comes home

pub may_leave : (objects : ℕ) (c : Control) → IsIdle objects c → MaySend c.plane.board 0
may_leave objects c idle = record { one = idle.some; home = idle.none 0; few = (let e = ap length idle.gathered in omega (arith, e)) }

pub ready_seat : (objects : ℕ) (c : Control) (log : Log) (ps : List Packet) → IsIdle objects c → log.trail ≡ record { loads = []; objects = objects } → log.passes.items ≡ []
    → objects ≤ 131072 → length ps < 2 ^ 32 → MayTraceAll ps log (new_seat c.plane.board 0)
ready_seat objects c log ps idle trail none most few =
    let all : log.trail.objects ≡ objects = ap (λ (t : Trace). t.objects) trail in
    record {
      left = omega (arith, idle.left, few);
      room = omega (arith, idle.objects, all);
      short = omega (arith, all, most);
      none = none;
    }

none_again : (out : List Bool) → ((n : ℕ) → slice_index_or out n false ≡ false) → (n : ℕ) → slice_index_or (slice_set (slice_set out 0 true) 0 false) n false ≡ false
none_again [] home n = home n
none_again (x ∷ out) home zero = refl
none_again (x ∷ out) home (suc n) = home (suc n)

-- A is the board before the worker left, B without it, C after the lines, D with the worker home
pub none_home : (A B C D : Board) (w : Worker) → NoneOut A → B ≡ board_sent A 0 → but_versions C ≡ but_versions B → D ≡ board_joined C w → w.number ≡ 0 → NoneOut D
none_home A B C D w home is_b keeps is_d number = λ n.
    let out : C.out ≡ slice_set A.out 0 true = ap (λ (x : Board). x.out) keeps ∙ ap (λ (x : Board). x.out) is_b in
    ap (λ (x : Board). slice_index_or x.out n false) is_d
    ∙ (ap (λ k. slice_index_or (slice_set C.out k false) n false) number ∙ (ap (λ o. slice_index_or (slice_set o 0 false) n false) out ∙ none_again A.out home n))

-- nobody is out after lines
pub none_kept : (c d : Control) → KeepsCrew c d → NoneOut c.plane.board → NoneOut d.plane.board
none_kept c d keeps home = λ n. ap (λ (x : Board). slice_index_or x.out n false) keeps ∙ home n

-- the passes of a worker that is home
module _ (k : ℕ) (C D : Control) (ps : List Packet) (v w : Seated) (log : List Traced) (board : IsBoard D.plane.board) (is : D ≡ with_board C (board_joined C.plane.board w.worker))
    (none : C.plane.board.trails ≡ []) (past : v.worker.past ≡ []) (from : AtLeast (version_at k) v.worker.knows) (t : HasTracedAll ps v w [] log) where
  trails : D.plane.board.trails ≡ map (λ m. m.0) t.made
  trails = ap (λ (x : Control). x.plane.board.trails) is ∙ (ap (λ ts. ts ++ w.worker.past) none ∙ (t.past ∙ ap (λ ts. ts ++ map (λ m. m.0) t.made) past))

  pub home_traced : AreTraced k (history_in D) ps D.plane.board.trails log
  home_traced = record {
    made = t.made;
    each = right_made k (history_in D) v.worker.knows from ps t.made t.each (subst (AreLawful (history_in D)) trails board.lawful)
        (subst (AllByRecursion (IsSteadyTrail (history_in D))) trails board.steady);
    trails = trails;
    passes = t.passes;
  }

  pub home_short : Matched IsShort ps log
  home_short = subst (Matched IsShort ps) (sym t.passes) (short_made v.worker.knows ps t.made t.each)

-- what a seat knows that left a control plane whose last version is settled
pub settled_known : (c : Control) (v : Seated) → c.plane.board.log.version.settled ≡ applied_in c → v ≡ new_seat c.plane.board 0 → AtLeast (version_at (applied_in c)) v.worker.knows
settled_known c v settled is =
    let known : AtLeast (version_at (applied_in c)) c.plane.board.log.version = record { settled = omega (arith, settled); applied = omega arith } in
    subst (AtLeast (version_at (applied_in c))) (sym (ap (λ (s : Seated). s.worker.knows) is)) known
