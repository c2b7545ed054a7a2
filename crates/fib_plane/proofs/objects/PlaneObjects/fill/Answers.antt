use Rattle.std.proofs.Common.{◌≡◌, ◌<◌, ◌+◌, ◌∙◌, ℕ, suc, arith, refl, subst, sym}
use Rattle.fib_plane_view.specs.Promise.{MayPut, Promise}
use Rattle.fib_plane_view.specs.Stores.{StoresEach}
use Rattle.fib_plane_view.specs.View.{Fills}
use Rattle.fib_plane_view.proofs.Filling.{half_on, opens_none}
use Rattle.fib_plane_view.proofs.Storing.{stores_none}
use Rattle.fib_plane.specs.Views.{view_of}
use Rattle.fib_plane.proofs.objects.PlaneObjects.fill.Goals as goal

pub lay-requires-clause-held : goal.lay-requires-clause-held
lay-requires-clause-held g c = c.loop-slot.invariant.half.held

pub lay-requires-clause-empty : goal.lay-requires-clause-empty
lay-requires-clause-empty g c = c.loop-slot.invariant.half.empty c.loop-slot.slot (omega arith) c.loop-slot-test.true

pub lay-requires-clause-target : goal.lay-requires-clause-target
lay-requires-clause-target g c = λ y l. (c.loop-slot.invariant.half.target y l).0

pub lay-requires-clause-kind : goal.lay-requires-clause-kind
lay-requires-clause-kind g c = c.loop-slot.invariant.half.kind

pub lay-requires-clause-far : goal.lay-requires-clause-far
lay-requires-clause-far g c = let h = c.loop-slot.invariant.half in opens_none (view_of c.loop-slot.self.plane) c.args.object c.args.word h.alone h.target

pub lay-requires-clause-promise : goal.lay-requires-clause-promise
lay-requires-clause-promise g c =
    let i = c.loop-slot.invariant in
    let m = view_of c.loop-slot.self.plane in
    subst (λ (r : Promise). MayPut r m c.args.object c.loop-slot.slot c.args.word) (sym i.promise) (c.requires.promise c.loop-slot.slot m c.loop-slot-test.true i.fills)

pub loop-slot-init : goal.loop-slot-init
loop-slot-init g c =
    let u = view_of c.args.self.now.plane in
    let e = c.requires.empty in
    record {
      fills = refl;
      half = record {
        held = e.held;
        alone = e.alone;
        filled = λ t lt. absurd (omega arith);
        empty = λ t le lt. e.cells t lt;
        target = c.requires.target;
        kind = c.requires.kind;
        stores = stores_none _ u u (λ x s. refl) refl;
      };
      promise = refl;
    }

pub loop-slot-preserved : goal.loop-slot-preserved
loop-slot-preserved g c =
    let i = c.loop-slot.invariant in
    let u = view_of c.args.self.now.plane in
    let m = view_of c.loop-slot.self.plane in
    let v = view_of c.lay.new.self.plane in
    let s = c.loop-slot.slot in
    let next : suc s ≡ s + 1 = omega arith in
    record {
      fills = subst (λ (n : ℕ). Fills u c.args.object c.args.word n v) next (m, i.fills, c.lay.ensures.put, c.lay.new.self.sound);
      half = half_on u m v c.args.object s c.args.word i.half c.lay.ensures.put c.lay.ensures.stores;
      promise = c.lay.ensures.promise ∙ i.promise;
    }

pub returns : goal.returns
returns g c =
    let i = c.loop-slot.invariant in
    let u = view_of c.args.self.now.plane in
    let v = view_of c.loop-slot.self.plane in
    let all : c.loop-slot.slot ≡ 16 = omega (arith, c.loop-slot.auto, c.loop-slot-test.false) in
    record {
      fills = subst (λ (n : ℕ). Fills u c.args.object c.args.word n v) all i.fills;
      cells = λ s lt. i.half.filled s (omega (arith, all, lt));
      stores = subst (λ (n : ℕ). StoresEach (λ x s. (x ≡ c.args.object) × (s < n)) u v) all i.half.stores;
      promise = i.promise;
    }
