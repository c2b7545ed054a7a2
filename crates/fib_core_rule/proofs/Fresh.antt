-- The rule holds of a fresh table.
use Rattle.std.proofs.Common.{◌≡◌, ◌≤◌, ◌<◌, ◌+◌, ◌*◌, ℕ, zero, suc, List, [], ◌∷◌, refl, sym, subst, arith}
use Rattle.std.specs.Prelude.{replicate, None}
use mathlib.Core.Option.{some, some-injective, some-ne-none}
use lib.ListN.{get_elem?}
use Rattle.fib_resolve.proofs.Sound.{sound_fresh}
use Rattle.fib_core_lawful.specs.Layout.{words_for}
use Rattle.fib_core_lawful.specs.State.{Control, Worker, View, control, worker, note, spent, first_control}
use Rattle.fib_core_lawful.specs.Frame.{Fits, Rule}
use Rattle.fib_core_lawful.specs.Lawful.{lawful}
use Rattle.fib_core_lawful.specs.Rule.{Holds}
use Rattle.fib_core_lawful.proofs.Begins.{begins_lawful}
use Rattle.fib_core_steady.specs.Names.{Names}
use Rattle.fib_core_steady.specs.Rooted.{PliesHang}
use Rattle.fib_core_steady.proofs.Hanging.{hangs_fresh}
use Rattle.fib_core_rule.specs.Steady.{SteadyControl}
use Rattle.fib_core_rule.specs.Rule.{parts, IsLawful}

no_names : Names
no_names = record { depth = λ x. 0; value = λ x. 0; balance = λ e. None }

fresh_control : (objects workers : ℕ) → SteadyControl no_names (first_control objects workers)
fresh_control objects workers = record { sound = (sound_fresh, tt); promised = λ lt. absurd (omega (arith, lt)); home = tt }

control_worker : (c : Control) (w : Worker) → control c ≡ worker w → ⊥
control_worker c w e = cc

control_note : (c : Control) (n : Rattle.fib_core_results.specs.declared.record.Version.Version) → control c ≡ note n → ⊥
control_note c n e = cc

module _ (objects workers : ℕ) (any : 0 < objects) (few : workers ≤ 8) where
  abbrev pub Views : List View
  Views = control (first_control objects workers) ∷ []

  abbrev pub Words : List ℕ
  Words = replicate (words_for objects) 0

  from_rule : Rule (lawful objects) Words Views → Rule (parts objects no_names) Words Views
  from_rule s = (
    s.0,
    s.1,
    record {
      size = s.2.size;
      desk = s.2.desk;
      here = ((s.2.here, subst (SteadyControl no_names) mine (fresh_control objects workers)), subst (λ (c : Control). PliesHang c.workers c.union) mine (hangs_fresh (16 * objects) workers));
      fits = by_view;
    },
  )
    where
      mine : first_control objects workers ≡ s.0
      mine = (s.2.fits 0 (control (first_control objects workers)) refl).1

      by_view : (seat : ℕ) (v : View) → get_elem? Views seat ≡ some v → Fits (parts objects no_names) Words s.0 s.1 seat v
      by_view seat (control d) at = s.2.fits seat (control d) at
      by_view zero (worker w) at = absurd (control_worker (first_control objects workers) w (some-injective (control (first_control objects workers)) (worker w) at))
      by_view (suc seat) (worker w) at = absurd (some-ne-none (worker w) (sym at))
      by_view zero (note n) at = absurd (control_note (first_control objects workers) n (some-injective (control (first_control objects workers)) (note n) at))
      by_view (suc seat) (note n) at = absurd (some-ne-none (note n) (sym at))
      by_view seat spent at = tt

  pub fresh_lawful : IsLawful objects (replicate (words_for objects) 0) (control (first_control objects workers) ∷ [])
  unfolding from_rule
  fresh_lawful = (let b = begins_lawful objects workers any few in record { names = no_names; holds = with_rule b })
    where
      with_rule : Holds (lawful objects) Words Views → Holds (parts objects no_names) Words Views
      with_rule b = record { rule = from_rule b.rule; claims = b.claims; seats = b.seats }
