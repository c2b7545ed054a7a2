-- Names are free: the rule holds for any names for which the promise does.
use Rattle.std.proofs.Common.{◌≡◌, ℕ, List, [], ◌∷◌, refl, sym, subst, arith}
use Rattle.fib_core_results.specs.declared.record.Version.{Version}
use Rattle.fib_core.specs.Trails.{Load}
use Rattle.fib_core_lawful.specs.State.{Worker, View, control, worker, note, spent}
use Rattle.fib_core_lawful.specs.Frame.{Parts, Fits, Rule}
use Rattle.fib_core_lawful.specs.Lawful.{AimsOnce, OfControl, OfWorker}
use Rattle.fib_core_lawful.specs.Rule.{Holds}
use Rattle.fib_core_steady.specs.Names.{Names}
use Rattle.fib_core_steady.specs.Promise.{IsPromised}
use Rattle.fib_core_steady.specs.Undisturbed.{IsUndisturbed}
use Rattle.fib_core_steady.proofs.Events.{undisturbed_renames}
use Rattle.fib_core_rule.specs.Steady.{versions, IsBegun, SteadyControl, SteadyWorker}
use Rattle.fib_core_rule.specs.Rule.{parts}

-- the parts of a rule may be changed where each follows
pub rule_follows : (P Q : Parts) (words : List ℕ) (views : List View) → (s : Rule P words views) → (P.of_control words s.0 → Q.of_control words s.0)
    → (P.of_control words s.0 → (w : Worker) → P.of_worker words s.0 w → Q.of_worker words s.0 w) → ((v : Version) → P.of_note words s.0 v → Q.of_note words s.0 v) → Rule Q words views
rule_follows P Q words views s control_too worker_too note_too = (
  s.0,
  s.1,
  record {
    size = s.2.size;
    desk = s.2.desk;
    here = control_too s.2.here;
    fits = λ seat v at. by_view seat v (s.2.fits seat v at);
  },
)
  where
    by_view : (seat : ℕ) (v : View) → Fits P words s.0 s.1 seat v → Fits Q words s.0 s.1 seat v
    by_view seat (control d) f = f
    by_view seat (worker w) f = (f.0, worker_too s.2.here w f.1)
    by_view seat (note v) f = note_too v f
    by_view seat spent f = tt

-- names are free: the rule holds for any for which the promise does
pub renames : (objects : ℕ) (words : List ℕ) (views : List View) (n m : Names) → (s : Rule (parts objects n) words views) → (IsBegun s.0.log → IsPromised (versions s.0.log) m s.0.union) → Rule (parts objects m) words views
renames objects words views n m s also = rule_follows (parts objects n) (parts objects m) words views s
    (λ h. ((h.0.0, record { sound = h.0.1.sound; promised = also; home = h.0.1.home }), h.1))
    (λ h w f. ((f.0.0, record { undisturbed = λ lt. carried h.0 w f.0 lt w.trail refl; current = f.0.1.current; done = f.0.1.done; past = f.0.1.past }), f.1))
    (λ v k. k)
  where
    carried : OfControl objects words s.0 × SteadyControl n s.0 → (w : Worker) → OfWorker objects words s.0 w × SteadyWorker n s.0 w → IsBegun s.0.log → (t : List Load) → w.trail ≡ t → IsUndisturbed s.0.log.history m.balance s.0.union.cells w.lo.settled w.trail
    carried h w f lt [] is = subst (IsUndisturbed s.0.log.history m.balance s.0.union.cells w.lo.settled) (sym is) (λ a b trip follows alike. tt)
    carried h w f lt (l ∷ t) is =
        let long = h.0.log.long in
        let order = h.0.log.order in
        let version : Version = s.0.log.version in
        undisturbed_renames s.0.log.history version.settled h.1.sound (omega arith) n s.0.union (h.1.promised lt) m (also lt) w.lo.settled w.trail (subst (AimsOnce s.0.union.cells s.0.log w.lo) is f.0.aimed).low.last.settled (f.1.undisturbed lt)

pub renamed : (objects : ℕ) (words : List ℕ) (views : List View) (n m : Names) → (s : Holds (parts objects n) words views) → (IsBegun s.rule.0.log → IsPromised (versions s.rule.0.log) m s.rule.0.union) → Holds (parts objects m) words views
unfolding renames rule_follows
renamed objects words views n m s also = record { rule = renames objects words views n m s.rule also; claims = s.claims; seats = s.seats }
