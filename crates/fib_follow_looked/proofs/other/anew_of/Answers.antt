use Rattle.std.proofs.Common.{subst}
use Rattle.fib_follow_pairs.specs.Fresh.{IsFresh, prefix_in}
use Rattle.fib_follow_looked.specs.inner.Finding.{IsCovered}
use Rattle.fib_follow_looked.proofs.Finding.{entry_made, gone_made}
use Rattle.fib_follow_looked.proofs.other.anew_of.Goals as goal

pub returns-in-Entry-clause-made : goal.returns-in-Entry-clause-made
returns-in-Entry-clause-made c = λ T h covered.
    entry_made T c.in-Entry.entry c.args.cover (subst (IsFresh T) c.in-Entry.is h) (subst (λ f. IsCovered T (prefix_in f) c.args.cover) c.in-Entry.is covered)

pub returns-in-Gone-clause-made : goal.returns-in-Gone-clause-made
returns-in-Gone-clause-made c = λ T h covered.
    gone_made T c.in-Gone.prefix c.args.cover c.new.result c.new.ensures (subst (IsFresh T) c.in-Gone.is h)
    (subst (λ f. IsCovered T (prefix_in f) c.args.cover) c.in-Gone.is covered)
