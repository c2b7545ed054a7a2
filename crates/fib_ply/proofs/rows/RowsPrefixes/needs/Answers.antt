use Rattle.std.proofs.Common.{◌≡◌, ◌+◌, ◌*◌, ◌-◌, ◌%◌, ◌^◌, ◌<◌, arith, sym, ap₂, subst, ◌∙◌}
use Rattle.std.proofs.lemmas.Bool.{false≢true}
use Rattle.fib_ply.specs.Rows.{rank}
use Rattle.fib_ply.specs.declared.rows.Row.{Row}
use Rattle.fib_ply.proofs.Needing.{first_needs, needs_first, lt_true, lt_is, none_not, some_is, start, end, start_fits, end_fits}
use Rattle.fib_ply.proofs.rows.RowsPrefixes.needs.Goals as goal

pub overflow_mul-first : goal.overflow_mul-first
overflow_mul-first c = let h = start_fits c.args.depth c.args.value c.from.result c.requires.depth c.requires.value c.from.ensures in omega (arith, h)

pub overflow_add-first : goal.overflow_add-first
overflow_add-first c = let h = start_fits c.args.depth c.args.value c.from.result c.requires.depth c.requires.value c.from.ensures in let e = c.from-3.ensures in let d = c.requires.depth in omega (arith, h, e, d)

pub overflow_mul-result : goal.overflow_mul-result
overflow_mul-result c = let h = end_fits c.args.depth c.args.value c.from-2.result c.requires.depth c.requires.value c.from-2.ensures in omega (arith, h)

pub returns-in-Some : goal.returns-in-Some
returns-in-Some c =
    let low_is : 64 * (c.from.result * 2 ^ (32 - 4 * c.args.depth) % 18446744073709551616) + c.from-3.result ≡ 64 * (c.args.value * 2 ^ (32 - 4 * c.args.depth)) + (4 * c.args.depth + 1) = ap₂ (λ x y. 64 * x + y) (start c.args.depth c.args.value c.from.result c.requires.depth c.requires.value c.from.ensures) c.from-3.ensures in
    let first = sym c.in-Some.is ∙ c.first_from.ensures.first in
    let end_is = end c.args.depth c.args.value c.from-2.result c.requires.depth c.requires.value c.from-2.ensures in
    rw (← c.self.view_is) (
      (λ less. first_needs c.self.inside.rows.members c.self.invariant c.first_from.ensures.ordered c.args.depth c.args.value _ c.requires.depth low_is c.in-Some.row first
          (let h = lt_is _ _ less in let k = c.key.ensures in omega (arith, h, k, end_is))),
      (λ needed. let r = needs_first c.self.inside.rows.members c.self.invariant c.first_from.ensures.ordered c.args.depth c.args.value _ c.requires.depth low_is needed in
          let same = some_is _ _ (sym r.1 ∙ sym first) in
          lt_true _ _ (let h = subst (λ (i : Row). rank i < 64 * ((c.args.value + 1) * 2 ^ (32 - 4 * c.args.depth))) same r.2 in let k = c.key.ensures in omega (arith, h, k, end_is))),
    )

pub returns-in-None : goal.returns-in-None
returns-in-None c =
    let low_is : 64 * (c.from.result * 2 ^ (32 - 4 * c.args.depth) % 18446744073709551616) + c.from-3.result ≡ 64 * (c.args.value * 2 ^ (32 - 4 * c.args.depth)) + (4 * c.args.depth + 1) = ap₂ (λ x y. 64 * x + y) (start c.args.depth c.args.value c.from.result c.requires.depth c.requires.value c.from.ensures) c.from-3.ensures in
    let first = sym c.in-None.is ∙ c.first_from.ensures.first in
    rw (← c.self.view_is) (
      (λ no. absurd (false≢true no)),
      (λ needed. let r = needs_first c.self.inside.rows.members c.self.invariant c.first_from.ensures.ordered c.args.depth c.args.value _ c.requires.depth low_is needed in
          absurd (none_not _ (first ∙ r.1))),
    )
