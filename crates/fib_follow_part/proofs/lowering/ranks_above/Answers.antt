use Rattle.std.proofs.Common.{arith, ◌+◌, ◌∙◌, ℕ, length, map, ap, subst, sym}
use Rattle.std.specs.Prelude.{Contains}
use Rattle.fib_follow_part.proofs.Fallen.{above_ranks}
use Rattle.fib_follow_part.proofs.lowering.ranks_above.Goals as goal

pub raised-requires : goal.raised-requires
raised-requires c = λ n k.
    let is = c.numbers-numbers.ensures.numbers in
    let lt = c.numbers-numbers.ensures.numbered.below n (subst (λ l. Contains l n) is k) in
    let len = ap length is in
    let each = c.numbers-numbers.ensures.numbered.each in
    let room = c.if-floor-numbers.false in
    omega (arith, lt, len, each, room)

pub returns : goal.returns
returns c =
    let v = c.args.view.now in
    let p = c.args.part.now in
    let floor = c.highest-floor.result in
    record {
      some = λ S T h is.
          above_ranks v S T p (floor + 1) c.in_ok-made.made.items h is c.requires c.numbers-numbers.ensures.numbered.each
          (c.in_ok-made.ensures ∙ ap (map (λ (n : ℕ). floor + 1 + n)) c.numbers-numbers.ensures.numbers)
          (λ d k. (let le = c.highest-floor.ensures d (subst (λ l. Contains l d) (sym c.out.ensures) k) in omega (arith, le)));
    }
