-- Passes that are made one after the other.
use Rattle.std.proofs.Common.{◌≡◌, ◌<◌, ◌≤◌, ◌+◌, ◌^◌, ◌++◌, ◌∷◌, [], ℕ, List, length, take, map, arith, refl, ap, ap₂, ◌∙◌, sym, subst, Some}
use Rattle.std.specs.Prelude.{slice_get}
use Rattle.std.proofs.lemmas.List.{append_assoc, append-nil, length-append, map-append}
use Rattle.fib_core_results.specs.declared.record.Record.{Record}
use Rattle.fib_core_results.specs.declared.record.Version.{Version}
use Rattle.fib_core_results.specs.Trails.{AtLeast}
use Rattle.fib_capture.specs.declared.packet.Packet.{Packet}
use Rattle.fib_capture.specs.declared.packet.Packet.TheVariants.{Flow, NotIpv4, BadHeader}
use Rattle.fib_core.specs.Trails.{Trail}
use Rattle.fib_core_lawful.specs.State.{left_of}
use Rattle.fib_core_board.specs.Crews.{Seated}
use Rattle.fib_worker_crew.specs.Packets.{Matched}
use Rattle.fib_worker_crew.proofs.Matching.{at_least_trans, matched_append, matched_weaker}
use Rattle.fib_trace.specs.declared.load.Load.{Load}
use Rattle.fib_trace.specs.Traces.{HasTraced}
use Rattle.fib_tracer.specs.declared.log.Traced.{Traced}
use Rattle.fib_tracer.proofs.Going.{take_one}
use Rattle.fib_tracer.specs.inner.Tracing.{HasTracedAll, IsMade, IsSameSeat, Made}

-- ---- seats

same_as : (v : Seated) → IsSameSeat v v
same_as v = record { id = refl; number = refl; objects = refl; claims = refl }

same_on : (u v w : Seated) → IsSameSeat u v → IsSameSeat v w → IsSameSeat u w
same_on u v w p q = record { id = q.id ∙ p.id; number = q.number ∙ p.number; objects = q.objects ∙ p.objects; claims = q.claims ∙ p.claims }

-- a traced pass leaves it the same seat
pub same_after : (a h : ℕ) (v w : Seated) (r : Record) (loads : List Load) → HasTraced a h v w r loads → IsSameSeat v w
same_after a h v w r loads t = record {
  id = ap (λ (s : Seated). s.id) t.seat;
  number = ap (λ (s : Seated). s.worker.number) t.seat;
  objects = ap (λ (s : Seated). s.worker.objects) t.seat;
  claims = ap (λ (s : Seated). s.worker.claims) t.seat;
}

-- ---- packets

-- nothing was traced
pub made_none : (v : Seated) (log : List Traced) → HasTracedAll [] v v log log
made_none v log = record {
  made = [];
  each = tt;
  passes = sym (append-nil log);
  past = sym (append-nil v.worker.past);
  same = same_as v;
  knows = record { settled = omega arith; applied = omega arith };
  left = omega arith;
}

-- a packet that is no flow has no pass
pub made_other : (p : Packet) (v : Seated) (log : List Traced) → Matched (IsMade v.worker.knows) (p ∷ []) [] → HasTracedAll (p ∷ []) v v log log
made_other p v log none = record {
  made = [];
  each = none;
  passes = sym (append-nil log);
  past = sym (append-nil v.worker.past);
  same = same_as v;
  knows = record { settled = omega arith; applied = omega arith };
  left = omega arith;
}

-- a flow has one
pub made_one : (a h : ℕ) (v w : Seated) (r : Record) (loads : List Load) (old new : List Traced) → HasTraced a h v w r loads → length loads < 2 ^ 32
    → new ≡ old ++ record { result = r; loads = loads } ∷ [] → HasTracedAll (Flow a h ∷ []) v w old new
made_one a h v w r loads old new t short is =
    let lo : r.lo ≡ t.trail.lo = ap (λ (x : Record). x.lo) t.result in
    let hi : r.hi ≡ t.trail.hi = ap (λ (x : Record). x.hi) t.result in
    record {
      made = (t.trail, record { result = r; loads = loads }) ∷ [];
      each = (record { follows = t.follows; later = subst (AtLeast v.worker.knows) lo t.later; loads = t.told; result = t.result; short = short }, tt);
      passes = is;
      past = ap (λ (s : Seated). s.worker.past) t.seat;
      same = same_after a h v w r loads t;
      knows = subst (AtLeast v.worker.knows) (hi ∙ sym (ap (λ (s : Seated). s.worker.knows) t.seat)) (at_least_trans v.worker.knows r.lo r.hi t.later t.order);
      left = (let e = ap (λ (s : Seated). s.worker.pass) t.seat in omega (arith, e));
    }

-- one after the other
made_on : (ps qs : List Packet) (u v w : Seated) (old mid new : List Traced) → HasTracedAll ps u v old mid → HasTracedAll qs v w mid new
    → HasTracedAll (ps ++ qs) u w old new
made_on ps qs u v w old mid new p q =
    let lower : Matched (IsMade u.worker.knows) qs q.made =
    matched_weaker (IsMade v.worker.knows) (IsMade u.worker.knows) (λ a h m f. record {
      follows = f.follows;
      later = at_least_trans u.worker.knows v.worker.knows m.0.lo p.knows f.later;
      loads = f.loads;
      result = f.result;
      short = f.short;
    }) qs q.made q.each in
    record {
      made = p.made ++ q.made;
      each = matched_append (IsMade u.worker.knows) ps qs p.made q.made p.each lower;
      passes = q.passes ∙ (ap (λ xs. xs ++ map (λ m. m.1) q.made) p.passes ∙ (append_assoc old (map (λ m. m.1) p.made) (map (λ m. m.1) q.made)
          ∙ ap (λ xs. old ++ xs) (sym (map-append (λ (m : Made). m.1) p.made q.made))));
      past = q.past ∙ (ap (λ xs. xs ++ map (λ m. m.0) q.made) p.past ∙ (append_assoc u.worker.past (map (λ m. m.0) p.made) (map (λ m. m.0) q.made)
          ∙ ap (λ xs. u.worker.past ++ xs) (sym (map-append (λ (m : Made). m.0) p.made q.made))));
      same = same_on u v w p.same q.same;
      knows = at_least_trans u.worker.knows v.worker.knows w.worker.knows p.knows q.knows;
      left = omega (arith, p.left, q.left, length-append ps qs);
    }

-- one packet more
pub made_next : (ps : List Packet) (i : ℕ) (p : Packet) (u v w : Seated) (old mid new : List Traced) → slice_get ps i ≡ Some p → HasTracedAll (take i ps) u v old mid
    → HasTracedAll (p ∷ []) v w mid new → HasTracedAll (take (i + 1) ps) u w old new
made_next ps i p u v w old mid new e before one =
    subst (λ qs. HasTracedAll qs u w old new) (sym (take_one ps i p e)) (made_on (take i ps) (p ∷ []) u v w old mid new before one)
