use Rattle.std.proofs.Common.{◌≡◌, ℕ, ◌+◌, ◌*◌, ◌<◌, arith, ap, refl, sym, subst, ◌∙◌}
use Rattle.fib_core.specs.Words.{IsRoomy, encoded}
use Rattle.fib_core.specs.Trails.{stands}
use Rattle.fib_core.proofs.Numbers.{roomy_decoded}
use Rattle.fib_core_lawful.specs.State.{Worker, hopped}
use Rattle.fib_cells.specs.Seats.{id_of}
use Rattle.fib_cells.specs.inner.Told.{worker_of}
use Rattle.fib_cells.proofs.Moves.{may_hop}
use Rattle.fib_cells.proofs.Sittings.{cell_inside, has_loaded, loaded_is, may_load, walks_on}
use Rattle.fib_cells.proofs.seats.WalkingSeat.word.Goals as goal

pub load-found-requires : goal.load-found-requires
load-found-requires c =
    let walk = c.self.invariant.1 in (
      c.self.invariant.0,
      subst (λ (x : ℕ × ℕ). x.0 < x.1) (λ i. (sym c.cell_word-cell.ensures i, (ap (λ t. t.words) c.self.invariant.0) i)) (cell_inside _ _ _ _ _ _ _ walk c.args.slot c.requires),
      may_hop _ _ _ _ (16 * c.self.inside.at + c.args.slot) _ walk.seat.sat (may_load _ _ _ _ _ _ _ walk c.args.slot c.requires) c.cell_word-cell.ensures,
    )

pub invariant_of-self : goal.invariant_of-self
invariant_of-self c = (
  c.load-found.ensures.0 ∙ c.self.invariant.0,
  walks_on _ _ _ _ _ _ _ _ _ (ap (λ z. z.words) c.load-found.ensures.0) c.moved-self-inside.ensures
      (has_loaded _ _ _ _ _ _ _ _ (16 * c.self.inside.at + c.args.slot) _ _ _ c.self.invariant.1 (let is = c.cell_word-cell.ensures in omega arith) c.decode-word.ensures c.load-found.ensures.2),
)

pub returns-clause-loaded : goal.returns-clause-loaded
returns-clause-loaded c =
    let known : c.args.self.now.worker ≡ worker_of c.self.inside.place.me.0 = sym (ap (λ s. s.worker) c.self.view_is) in
    let here : c.self.inside.at ≡ stands c.args.self.now.worker.trail = sym c.self.invariant.1.stays ∙ sym (ap (λ (v : Worker). stands v.trail) known) in
    λ i. record {
      id = (ap id_of c.load-found.ensures.0 ∙ ap (λ s. s.id) c.self.view_is) i;
      worker = (loaded_is c.self.inside.place.me c.load-found.new.seat.me (16 * c.self.inside.at + c.args.slot) _ _ _ (let is = c.cell_word-cell.ensures in omega arith) c.decode-word.ensures c.load-found.ensures.2
          ∙ (λ j. hopped (sym known j) (16 * here j + c.args.slot) (encoded c.decode-word.result))) i;
    }

pub returns-clause-roomy : goal.returns-clause-roomy
returns-clause-roomy c = subst IsRoomy (sym c.decode-word.ensures) (roomy_decoded _ c.load-found.ensures.2.1)
