use Rattle.std.proofs.Common.{arith, ap, length, map}
use Rattle.std.proofs.lemmas.List.{length-map}
use Rattle.fib_union.specs.Unions.{Kept}
use Rattle.fib_union.specs.inner.Fields.{plain}
use Rattle.fib_union.proofs.Views.{length-of}
use Rattle.fib_union.proofs.union.Union.retired.Goals as goal

pub returns : goal.returns
returns c =
    let e = ap (λ (v : Kept). length v.union.retired) c.self.view_is in
    let a = length-of c.self.inside.edges.items (map plain c.self.inside.retired.items) c.self.inside.progress.items in
    let b = length-map c.self.inside.retired.items plain in
    omega (arith, e, a, b, c.self.inside.retired.ok.0)
