use Rattle.std.proofs.Common.{◌≡◌, ◌∙◌, ℕ, ap, arith, inl, inr, subst, sym, true≢false}
use Rattle.fib_core.specs.declared.word.Word.TheVariants.{Drop, ToBalance}
use Rattle.fib_plane_view.specs.View.{IsLive}
use Rattle.fib_ply.proofs.Filled.{filling, may_fill}
use Rattle.fib_ply.proofs.growing.fill.Goals as goal

pub fill-requires-clause-empty : goal.fill-requires-clause-empty
fill-requires-clause-empty g c =
    let q = c.requires.ready in
    record { held = q.7.kind.1; alone = λ h. q.7.above h.0 h.1 h.2 h.3 h.4; cells = c.requires.empty }

pub fill-requires-clause-other : goal.fill-requires-clause-other
fill-requires-clause-other g c = λ e. cc

pub fill-requires-clause-target : goal.fill-requires-clause-target
fill-requires-clause-target g c = λ y l.
    let u = g.P.Objects.view c.args.on.now in
    let live : IsLive u y = subst (λ (i : ℕ). IsLive u i) l (inr (inl c.requires.balance.0)) in
    (live, λ e. true≢false (sym c.requires.ready.7.kind.0 ∙ sym (ap u.is_ply (l ∙ e)) ∙ c.requires.balance.1))

pub fill-requires-clause-kind : goal.fill-requires-clause-kind
fill-requires-clause-kind g c = c.requires.balance

pub fill-requires-clause-promise : goal.fill-requires-clause-promise
fill-requires-clause-promise g c = λ s m lt f.
    let p = g.P.Objects.promise c.args.on.now in
    let u = g.P.Objects.view c.args.on.now in
    let kinds = (g.met.P.Objects.sound c.args.on.now).kinds in
    may_fill p u m c.args.ply c.args.object s lt (filling p u c.args.ply c.args.object c.requires.ready c.requires.balance kinds s m (omega (arith, lt)) f)

pub returns : goal.returns
returns g c =
    let p = g.P.Objects.promise c.args.on.now in
    let u = g.P.Objects.view c.args.on.now in
    let v = g.P.Objects.view c.fill.new.self in
    let kinds = (g.met.P.Objects.sound c.args.on.now).kinds in
    let i = filling p u c.args.ply c.args.object c.requires.ready c.requires.balance kinds 16 v (omega arith) c.fill.ensures.fills in
    record {
      aside = i.aside;
      filled = c.fill.ensures.cells;
      free = i.free;
      spare = i.spare;
      stores = i.stores;
      frame = i.frame;
      plies = i.plies;
      promise = c.fill.ensures.promise;
      beside = i.beside;
      none_dropped = i.none_dropped;
    }
