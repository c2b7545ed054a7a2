use Rattle.std.proofs.Common.{sym, ap, ◌∙◌, subst}
use Rattle.fib_urpf.specs.Kept.{IsFor, Kept}
use Rattle.fib_urpf.specs.contracts.urpf.Urpf as urpf
use Rattle.fib_urpf.proofs.Checking.{checked_is, members_are}
use Rattle.fib_urpf.proofs.urpf.Urpf.checked.Goals as goal

pub returns : goal.returns
returns c = λ S rank for i few.
    let v = urpf.the_view c.self.inside in
    let here : IsFor v S rank = subst (λ (w : Kept). IsFor w S rank) (sym c.self.view_is) for in
    let quiet = ap (λ (w : Kept). w.queue) c.self.view_is ∙ c.requires in
    c.of.ensures i ∙ checked_is v S rank c.args.addr c.best_of.result here quiet (c.best_of.ensures S (members_are v S rank here quiet)) i few
