use Rattle.std.proofs.Common.{take, sym, subst}
use Rattle.fib_cover.proofs.Sets.{take_whole}
use Rattle.fib_follow_features.specs.Holders.{Notes}
use Rattle.fib_follow_features.proofs.Holding.{in_taken, notes_more, notes_none, notes_some, on_err, taken}
use Rattle.fib_follow_features.proofs.features.Features.note.Goals as goal

pub loop-feature-init : goal.loop-feature-init
loop-feature-init c = notes_none c.args.self.now c.args.e

pub loop-feature-preserved : goal.loop-feature-preserved
loop-feature-preserved c =
    let fs = c.args.features.now in
    let i = c.loop-feature.feature-index in
    let f = c.feature-item.result in
    subst (Notes c.args.self.now c.put.new.self c.args.e) (sym (taken fs i f c.loop-feature-test.true c.feature-item.is))
    (notes_more c.args.self.now c.loop-feature.self c.put.new.self c.args.e (take i fs) f c.loop-feature.invariant c.in_ok-put.ensures.ok)

pub returns-in_err-put-clause-err : goal.returns-in_err-put-clause-err
returns-in_err-put-clause-err c =
    let fs = c.args.features.now in
    let i = c.loop-feature.feature-index in
    on_err c.from_residual.result
    (notes_some c.args.self.now c.loop-feature.self c.put.new.self c.args.e (take i fs) fs (in_taken fs i) c.loop-feature.invariant
    c.in_err-put.ensures.err)

pub returns-clause-ok : goal.returns-clause-ok
returns-clause-ok c =
    subst (Notes c.args.self.now c.loop-feature.self c.args.e)
    (take_whole c.args.features.now c.loop-feature.feature-index c.loop-feature-test.false) c.loop-feature.invariant
