use Rattle.std.proofs.Common.{sym, subst}
use Rattle.fib_core_board.specs.Boards.{Board}
use Rattle.fib_core_plainboard.proofs.Calls as calls
use Rattle.fib_core_plainboard.specs.Passes.{IsOnItsWay}
use Rattle.fib_core_plainboard.proofs.plain_board.PlainBoardPasses.hop.Goals as goal

pub hopped-pass-requires : goal.hopped-pass-requires
hopped-pass-requires c =
    let on : IsOnItsWay c.self.inside.memory c.args.worker = subst (λ (p : Board). IsOnItsWay p c.args.worker) (sym c.self.view_is) c.requires in
    calls.readable c.self.inside.words.items c.self.inside.memory c.self.invariant.0 c.self.inside.objects c.self.inside.workers c.self.inside.passes c.self.invariant.1 c.args.worker on.0 on.1 c.running_pass.result c.running_pass.ensures on.2

pub invariant_of-self : goal.invariant_of-self
invariant_of-self c =
    let on : IsOnItsWay c.self.inside.memory c.args.worker = subst (λ (p : Board). IsOnItsWay p c.args.worker) (sym c.self.view_is) c.requires in
    calls.hop_kept c.self.inside.words.items c.self.inside.memory c.self.invariant.0 c.self.inside.objects c.self.inside.workers c.self.inside.passes c.self.invariant.1 c.args.worker on.0 on.1 c.running_pass.result c.running_pass.ensures on.2
    c.hopped-pass.result c.hop.new.self c.hop.ensures c.hopped-pass.ensures.same c.hopped-pass.ensures.next

pub returns-clause-follows : goal.returns-clause-follows
returns-clause-follows c =
    let on : IsOnItsWay c.self.inside.memory c.args.worker = subst (λ (p : Board). IsOnItsWay p c.args.worker) (sym c.self.view_is) c.requires in
    let kept = calls.hop_kept c.self.inside.words.items c.self.inside.memory c.self.invariant.0 c.self.inside.objects c.self.inside.workers c.self.inside.passes c.self.invariant.1 c.args.worker on.0 on.1 c.running_pass.result c.running_pass.ensures on.2
    c.hopped-pass.result c.hop.new.self c.hop.ensures c.hopped-pass.ensures.same c.hopped-pass.ensures.next in
    λ q runs. (kept.0.sits c.args.worker q runs).follows

pub returns-clause-on : goal.returns-clause-on
returns-clause-on c =
    let on : IsOnItsWay c.self.inside.memory c.args.worker = subst (λ (p : Board). IsOnItsWay p c.args.worker) (sym c.self.view_is) c.requires in
    calls.hop_on c.self.inside.words.items c.self.inside.memory c.self.invariant.0 c.self.inside.objects c.self.inside.workers c.self.inside.passes c.self.invariant.1 c.args.worker on.0 on.1 c.running_pass.result c.running_pass.ensures on.2
    c.hopped-pass.result c.hop.new.self c.hop.ensures c.hopped-pass.ensures.same c.hopped-pass.ensures.next c.end-end.result c.end-end.ensures

pub returns-clause-ended : goal.returns-clause-ended
returns-clause-ended c =
    let on : IsOnItsWay c.self.inside.memory c.args.worker = subst (λ (p : Board). IsOnItsWay p c.args.worker) (sym c.self.view_is) c.requires in
    calls.hop_ended c.self.inside.words.items c.self.inside.memory c.self.invariant.0 c.self.inside.objects c.self.inside.workers c.self.inside.passes c.self.invariant.1 c.args.worker on.0 on.1 c.running_pass.result c.running_pass.ensures on.2
    c.hopped-pass.result c.hop.new.self c.hop.ensures c.hopped-pass.ensures.same c.hopped-pass.ensures.next c.end-end.result c.end-end.ensures

pub returns-clause-along : goal.returns-clause-along
returns-clause-along c =
    let on : IsOnItsWay c.self.inside.memory c.args.worker = subst (λ (p : Board). IsOnItsWay p c.args.worker) (sym c.self.view_is) c.requires in
    calls.hop_along c.self.inside.words.items c.self.inside.memory c.self.invariant.0 c.self.inside.objects c.self.inside.workers c.self.inside.passes c.self.invariant.1 c.args.worker on.0 on.1 c.running_pass.result c.running_pass.ensures on.2
    c.hopped-pass.result c.hop.new.self c.hop.ensures c.hopped-pass.ensures.same c.hopped-pass.ensures.next
