use Rattle.std.proofs.Common.{arith}
use Rattle.fib_urpf.proofs.Bits.{same_members, other_low, other_high}
use Rattle.fib_urpf.proofs.interfaces.Interfaces.is_same.Goals as goal

pub returns-then-low-other_low-clause-other : goal.returns-then-low-other_low-clause-other
returns-then-low-other_low-clause-other c = λ e h. other_low _ _ c.if-low-other_low.true (same_members c.args.self c.args.other (let w = c.well_formed in omega arith) (let w = c.well_formed in omega arith) (let w = c.well_formed in omega arith) (let w = c.well_formed in omega arith) h)

pub returns-clause-other : goal.returns-clause-other
returns-clause-other c = λ e h. other_high _ _ e (same_members c.args.self c.args.other (let w = c.well_formed in omega arith) (let w = c.well_formed in omega arith) (let w = c.well_formed in omega arith) (let w = c.well_formed in omega arith) h)
