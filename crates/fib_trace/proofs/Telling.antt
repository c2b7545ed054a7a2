-- Loads that are told one by one.
use Rattle.std.proofs.Common.{◌≡◌, ◌+◌, ◌*◌, ◌++◌, ◌∷◌, [], ℕ, List, reverse, map, sym, ap, ◌∙◌, subst, arith}
use Rattle.std.proofs.lemmas.List.{reverse-append, map-append}
use Rattle.fib_core_results.specs.declared.record.Version.{Version}
use Rattle.fib_core.specs.declared.word.Word.{Word}
use Rattle.fib_core.specs.Words.{encoded}
use Rattle.fib_core.specs.Trails.{IsSoundTrail, place, stands}
use Rattle.fib_core_lawful.specs.State.{Worker}
use Rattle.fib_core_board.specs.Crews.{Seated}
use Rattle.fib_cells.specs.Seats.{seat_loaded}
use Rattle.fib_core.specs.declared.stage.Stage.{Stage}
use Rattle.fib_core.specs.declared.stage.Stage.TheVariants as stages
use Rattle.fib_core.specs.Stages.{StandsAt}
use Rattle.fib_worker.specs.Passes.{HasHopped}
use Rattle.fib_worker.specs.inner.Runs.{IsOn, IsOnItsWay, IsRunning, Nears, WithTrail}
use Rattle.fib_worker.proofs.Passing.{IsLoaded, Reading, loaded}
use Rattle.fib_worker.proofs.Runs.{hop_keeps, one_more}
use Rattle.fib_trace.specs.declared.load.Load.{Load}
use Rattle.fib_trace.specs.Traces.{code_of, coded}
use Rattle.fib_trace.specs.inner.Loading.{HasLoaded}

coded_more : (loads : List Load) (l : Load) → coded (loads ++ l ∷ []) ≡ code_of l ∷ coded loads
coded_more loads l = ap reverse (map-append code_of loads (l ∷ [])) ∙ reverse-append (map code_of loads) (code_of l ∷ [])

pub told_more : (s t : Seated) (slot object : ℕ) (W : Word) (loads : List Load) → t ≡ seat_loaded s slot W → object ≡ stands s.worker.trail → s.worker.trail ≡ coded loads
    → t.worker.trail ≡ coded (loads ++ record { object = object; slot = slot; word = W } ∷ [])
told_more s t slot object W loads is at told =
    ap (λ (x : Seated). x.worker.trail) is
    ∙ (ap (λ o. (16 * o + slot, encoded W) ∷ s.worker.trail) (sym at)
    ∙ (ap (λ t. (16 * object + slot, encoded W) ∷ t) told ∙ sym (coded_more loads (record { object = object; slot = slot; word = W }))))

pub found : (s t : Seated) (slot : ℕ) (W : Word) → HasLoaded s slot W t → IsLoaded s.worker (16 * stands s.worker.trail + slot) W t.worker
found s t slot W l = loaded s t slot W l.loaded l.roomy

-- the three words of an adjacency
pub read_three : (a h o : ℕ) (s s1 s2 s3 : Seated) (i g m : Word) (at : Stage) → IsRunning a h s.worker at → at ≡ stages.Adjacency o
    → HasLoaded s 0 i s1 → HasLoaded s1 1 g s2 → HasLoaded s2 2 m s3 → Reading a h o s.worker s1.worker s2.worker s3.worker i g m
read_three a h o s s1 s2 s3 i g m at run is one two three = record {
  at = subst (StandsAt h (place s.worker.trail)) is run.at;
  follows = run.follows;
  first = found s s1 0 i one;
  second = found s1 s2 1 g two;
  third = found s2 s3 2 m three;
  sound = run.sound;
  sound1 = one.sound;
  sound2 = two.sound;
  sound3 = three.sound;
}

-- a pass that goes on has told one load more
pub way_on : (a h : ℕ) (v w : Worker) (s t : Stage) (lo : Version) (n m : ℕ) → IsOnItsWay a h v s lo n → HasHopped a h v w
    → StandsAt h (place w.trail) t → IsSoundTrail w.objects w.trail → Nears v w t → IsOn t → m ≡ n + 1 → IsOnItsWay a h w t lo m
way_on a h v w s t lo n m p hop at sound near on is =
    let kept = hop_keeps a h v w s p.running hop in
    let more = one_more v w t on near in
    let count = p.count in
    let few = p.few in
    let all = kept.objects in
    record {
      running = record { follows = hop.follows; at = at; on = on; sound = sound };
      low = kept.lo ∙ p.low;
      knows = kept.knows ∙ p.knows;
      few = omega arith;
      count = omega arith;
    }
