use Rattle.fib_stack.proofs.Rooming.{room_at_change}
use Rattle.fib_stack.proofs.between.where_the_size_fits_there_is_room.Goals as goal

pub returns : goal.returns
returns c = λ S rank p v s j begun le. room_at_change S rank p v s j begun le
