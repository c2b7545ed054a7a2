-- What may be called once records were taken.
use Rattle.std.proofs.Common.{◌≡◌, ℕ, ◌≤◌, ◌+◌, arith, subst, sym}
use Rattle.fib_core_steady.specs.Names.{Names}
use Rattle.fib_plane_view.specs.Promise.{MayClear, Promise, Serves}
use Rattle.fib_plane_view.specs.View.{View}

pub clear_after : (p q : Promise) (u v : View) → MayClear p u → q ≡ p → ((n : Names) → Serves p n u → Serves p n v) → MayClear q v
clear_after p q u v m same serves = subst (λ (r : Promise). MayClear r v) (sym same) (m.0, (m.1.0, serves m.1.0 m.1.1))

pub users_at_least : (times before after : ℕ) → after ≡ times + before → times ≤ after
users_at_least times before after is = omega (arith, is)
