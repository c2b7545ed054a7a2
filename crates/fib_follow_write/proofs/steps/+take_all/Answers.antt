use Rattle.std.proofs.Common.{arith, sym, subst}
use Rattle.fib_follow_write.specs.Steps.{AreTaken, Fit}
use Rattle.fib_follow_write.proofs.Halves.{fit_low, fit_high, joined, whole}
use Rattle.fib_follow_write.proofs.steps.+take_all.Goals as goal

pub take_all-requires : goal.take_all-requires
take_all-requires g t c κs within =
    let l = c.split_at.result.0.now in
    let r = c.split_at.result.1.now in
    let is = whole _ c.args.steps.now l r c.split_at.ensures.front c.split_at.ensures.back in (
      omega (arith, c.decreases, c.split_at.ensures.front_len, c.split_at.ensures.back_len, c.in_default.len_at_least),
      (
        within.0,
        (
          within.1,
          fit_low g.S.Step.fits g.S.Step.makes l r c.args.state.now (subst
              (λ z. Fit g.S.Step.fits g.S.Step.makes z c.args.state.now) is c.requires),
        ),
      ),
    )

pub take_all-requires-in_default : goal.take_all-requires-in_default
take_all-requires-in_default g t c κs within =
    let l = c.split_at.result.0.now in
    let r = c.split_at.result.1.now in
    let is = whole _ c.args.steps.now l r c.split_at.ensures.front c.split_at.ensures.back in (
      omega (arith, c.decreases, c.split_at.ensures.front_len, c.split_at.ensures.back_len, c.in_default.len_at_least),
      (
        within.0,
        (
          within.1,
          fit_high g.S.Step.fits g.S.Step.makes l r c.args.state.now c.take_all.new.state
              (subst (λ z. Fit g.S.Step.fits g.S.Step.makes z c.args.state.now) is c.requires) c.in_ok-take_all-in_default.ensures.ok,
        ),
      ),
    )

pub returns-in-Ok-clause-ok : goal.returns-in-Ok-clause-ok
returns-in-Ok-clause-ok g t c =
    let l = c.split_at.result.0.now in
    let r = c.split_at.result.1.now in
    let is = whole _ c.args.steps.now l r c.split_at.ensures.front c.split_at.ensures.back in
    subst (λ z. AreTaken g.S.Step.makes z c.args.state.now c.take_all-in_default.new.state) (sym is)
    (joined g.S.Step.makes l r c.args.state.now c.take_all.new.state c.take_all-in_default.new.state c.in_ok-take_all-in_default.ensures.ok c.in-Ok.ensures.ok)
