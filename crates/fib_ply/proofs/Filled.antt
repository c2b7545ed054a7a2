-- A new ply is filled, cell after cell.
use Rattle.std.proofs.Common.{◌≡◌, ℕ, zero, suc, ◌<◌, ◌≤◌, refl, sym, ap, ◌∙◌, subst, arith}
use Rattle.fib_core.specs.declared.word.Word.TheVariants.{ToBalance}
use Rattle.fib_plane_view.specs.declared.put.Put.TheVariants as puts
use Rattle.fib_plane_view.specs.Frames.{Beside}
use Rattle.fib_plane_view.specs.Promise.{Promise, MayPut}
use Rattle.fib_plane_view.specs.View.{View, Fills, IsBalance, IsPut, Kinds, Stores}
use Rattle.fib_plane_view.proofs.Frames.{beside_none, beside_put, beside_then}
use Rattle.fib_ply.specs.Calls.{DropsNone}
use Rattle.fib_ply.specs.inner.Change.{CanFill, Aside, IsCalm}
use Rattle.fib_ply.specs.inner.View.{Frame, HoldsNoMore, IsSent}
use Rattle.fib_ply.proofs.Promises.{sent}
use Rattle.fib_ply.proofs.Undropped.{none_put, none_self, none_then}
use Rattle.fib_ply.proofs.Sprouts.{aside_may, aside_calm, aside_on, frame_put, frame_none, no_more_sent}

-- so many cells of the ply c lead to the balance o
pub record IsFilling (p : Promise) (u m : View) (c o s : ℕ) : Type 0 where
  pub ready : CanFill p m c o
  pub balance : IsBalance m o
  pub kinds : Kinds m
  pub beside : Beside u m
  pub none_dropped : DropsNone u m
  pub aside : Aside u m c o
  pub free : u.free ≤ m.free
  pub spare : u.spare ≤ m.spare
  pub stores : Stores u m s
  pub frame : Frame u m
  pub plies : HoldsNoMore u m

-- and the next one may be put
pub may_fill : (p : Promise) (u m : View) (c o s : ℕ) → s < 16 → IsFilling p u m c o s → MayPut p m c s (ToBalance o)
may_fill p u m c o s lt i =
    let q = i.ready in
    subst (λ (r : Promise). MayPut r m c s (ToBalance o)) q.8
    (aside_may q.0 q.1 q.2 q.3 q.4 q.5 m c s o q.6 q.7 lt i.balance (λ z. q.9 (ap (λ (r : Promise). r.applied) (sym q.8) ∙ z)))

module _ (p : Promise) (u : View) (c o : ℕ) (ready : CanFill p u c o) (balance : IsBalance u o) (kinds : Kinds u) where
  none_yet : IsFilling p u u c o 0
  none_yet = record {
    ready = ready;
    balance = balance;
    kinds = kinds;
    beside = beside_none u;
    none_dropped = none_self u;
    aside = λ wants there old new pos n at fresh quiet. (at, fresh, λ y t is. refl);
    free = omega arith;
    spare = omega arith;
    stores = record { more = omega arith; few = omega arith };
    frame = frame_none u;
    plies = λ x is h. (is, h);
  }

  one_more : (m v : View) (s : ℕ) → s < 16 → IsFilling p u m c o s → IsPut m v c s (ToBalance o) puts.Stored → Kinds v → IsFilling p u v c o (suc s)
  one_more m v s lt i put kv =
      let q = i.ready in
      let still = λ (z : q.0.promise.applied ≡ 0). q.9 (ap (λ (r : Promise). r.applied) (sym q.8) ∙ z) in
      let calm : IsCalm m c (ToBalance o) = aside_calm q.0 q.1 q.2 q.3 q.4 q.5 m c s o q.6 q.7 lt i.balance still in
      let into : IsSent m v c s (ToBalance o) = sent m v c s (ToBalance o) puts.Stored calm put in
      let past : Beside m v = beside_put m v c s (ToBalance o) puts.Stored i.kinds q.7.kind.0 put in
      let here = aside_on q.0 q.1 q.2 q.3 q.4 q.5 m c s o q.6 q.7 lt i.balance still v into past kv in
      record {
        ready = (q.0, q.1, q.2, q.3, q.4, q.5, here.0, here.1, q.8, λ z t l. past.cells o t i.balance ∙ q.9 z t l);
        balance = past.balances o i.balance;
        kinds = kv;
        beside = beside_then u m v i.beside past;
        none_dropped = none_then u m v i.none_dropped (none_put m v c s (ToBalance o) puts.Stored q.7.kind.0 i.balance calm put);
        aside = λ wants there old new pos n at fresh quiet.
            (let r = i.aside wants there old new pos n at fresh quiet in
            let h = aside_on wants there old new pos n m c s o r.0 r.1 lt i.balance (λ z t l. i.beside.cells o t balance ∙ quiet z t l) v into past kv in
            (h.0, h.1, λ y t is. h.2 y t is ∙ r.2 y t is));
        free = omega (arith, i.free, put.free);
        spare = let k = put.spared q.7.other (λ h. q.7.above h.0 h.1 h.2 h.3 h.4) in omega (arith, i.spare, k);
        stores = record { more = omega (arith, i.stores.more, put.stores.more); few = omega (arith, i.stores.few, put.stores.few) };
        frame = frame_put u m v c s (ToBalance o) i.frame into;
        plies = no_more_sent u m v c s (ToBalance o) i.plies into;
      }

  pub filling : (s : ℕ) (m : View) → s ≤ 16 → Fills u c (ToBalance o) s m → IsFilling p u m c o s
  filling zero m le e = subst (λ (v : View). IsFilling p u v c o 0) (sym e) none_yet
  filling (suc s) v le f = one_more f.0 v s (omega (arith, le)) (filling s f.0 (omega (arith, le)) f.1) f.2 f.3.kinds
