use Rattle.fib_follow_features.proofs.Noting.{noted_exact, noted_less, noted_more, noted_written}
use Rattle.fib_follow_features.proofs.laws.noted_stays.Goals as goal

pub returns-clause-exact : goal.returns-clause-exact
returns-clause-exact c = noted_exact

pub returns-clause-more : goal.returns-clause-more
returns-clause-more c = noted_more

pub returns-clause-less : goal.returns-clause-less
returns-clause-less c = noted_less

pub returns-clause-written : goal.returns-clause-written
returns-clause-written c = noted_written
