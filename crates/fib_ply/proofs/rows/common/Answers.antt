use Rattle.std.proofs.Common.{arith, ◌≡◌, ◌-◌, ◌+◌, ◌/◌, ◌^◌, sym, ap, ◌∙◌, subst}
use Rattle.std.proofs.lemmas.Bool.{false≢true}
use Rattle.std.proofs.lemmas.Nat.{shr-shr}
use native.Mathlib.Decide.{ℕ_discrete}
use mathlib.Core.Logic.{dite}
use Rattle.fib_ply.specs.inner.Upto.{Begins}
use Rattle.fib_ply.proofs.Needing.{half_fits}
use Rattle.fib_ply.proofs.rows.common.Goals as goal

pub loop-n-preserved : goal.loop-n-preserved
loop-n-preserved c =
    let i = c.loop-n.invariant in
    let n = c.loop-n.n in
    let pos = c.loop-n-test.true in
    record {
      within = omega (arith, i.within);
      fits = half_fits n c.loop-n.block pos i.fits;
      part = ap (λ b. b / 2) i.part ∙ shr-shr c.args.top (c.args.len - n) 1 ∙ ap (λ j. c.args.top / 2 ^ j) (let e : c.args.len - n + 1 ≡ c.args.len - (n - 1) = omega (arith, i.within, pos) in e);
      greatest = λ k lt le b. dite (ℕ_discrete k n)
          (λ same. let b' : Begins c.args.prefix n (c.args.top / 2 ^ (c.args.len - n)) = subst (λ l. Begins c.args.prefix l (c.args.top / 2 ^ (c.args.len - l))) same b in
          false≢true (sym c.if-not-begins.true ∙ c.begins.ensures.1 (subst (Begins c.args.prefix n) (sym i.part) b')))
          (λ ne. i.greatest k (omega (arith, lt, ne, pos)) le b);
    }
