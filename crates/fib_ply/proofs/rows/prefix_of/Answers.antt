use Rattle.std.proofs.Common.{◌≡◌, ◌+◌, ◌*◌, ◌-◌, ◌%◌, ◌^◌, ◌<◌, ◌≤◌, arith, ap, ◌∙◌}
use Rattle.std.proofs.lemmas.Nat.{shl-shr, pow_pos}
use Rattle.fib_addr.specs.Prefixes.{Prefix, masked}
use Rattle.fib_ply.proofs.Adds.{from_fits, last_below}
use Rattle.fib_ply.proofs.rows.prefix_of.Goals as goal

pub overflow_cast-first-2 : goal.overflow_cast-first-2
overflow_cast-first-2 c = rw (c.from.ensures, from_fits c.args.top c.args.len c.requires.len c.requires.top) (let h : (c.args.top + 1) * 2 ^ (32 - c.args.len) ≤ 4294967296 = last_below c.args.top c.args.len c.requires.len c.requires.top in let pos : 0 < 2 ^ (32 - c.args.len) = pow_pos (32 - c.args.len) in omega (arith, h, pos))

pub returns : goal.returns
returns c =
    let e : c.from.result * 2 ^ (32 - c.args.len) % 18446744073709551616 ≡ c.args.top * 2 ^ (32 - c.args.len) = ap (λ i. i * 2 ^ (32 - c.args.len) % 18446744073709551616) c.from.ensures ∙ from_fits c.args.top c.args.len c.requires.len c.requires.top in
    c.masked.ensures ∙ ap (λ a. masked a c.args.len) e ∙ ap (λ b. let r : Prefix = record { bits = b * 2 ^ (32 - c.args.len); len = c.args.len } in r) (shl-shr c.args.top (32 - c.args.len))
