use Rattle.fib_plane.proofs.Views.Seeing.{live_down}
use Rattle.fib_plane.proofs.laws.what_is_in_use_is_counted.Goals as goal

pub returns : goal.returns
returns c = λ p x told live. live_down p told x live
