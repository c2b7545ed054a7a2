use Rattle.fib_stack.proofs.Settling.{applied_steady, wider_steady}
use Rattle.fib_stack.proofs.laws.a_change_keeps_them.Goals as goal

pub returns : goal.returns
returns c = λ J K S T s t more steady a. wider_steady J K t more (applied_steady J S T s t steady a)
