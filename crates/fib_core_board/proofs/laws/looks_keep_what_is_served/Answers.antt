use Rattle.std.specs.Prelude.{Contains}
use Rattle.fib_core_board.proofs.Serving.{serves_scanned}
use Rattle.fib_core_board.proofs.laws.looks_keep_what_is_served.Goals as goal

pub returns : goal.returns
returns c = λ b held n found ok. serves_scanned b (Contains held) n found ok
