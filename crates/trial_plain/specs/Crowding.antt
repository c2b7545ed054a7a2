-- When too few objects are free for a change.
use Rattle.std.specs.Prelude.{◌≡◌, ℕ, ◌<◌, ◌%◌, ◌==◌, None, if◌then◌else◌}
use Rattle.fib_resolve.specs.Edits.{edited}
use Rattle.fib_resolve.specs.Refusals.{refused}
use Rattle.fib_resolve.specs.Sizes.{size}
use Rattle.fib_resolve.specs.declared.types.Edit.{Edit}
use Rattle.fib_pool.specs.Objects.{free_in}
use Rattle.fib_control.specs.Controls.{Control, tables_in}
use Rattle.trial_plain.specs.declared.crowded.Crowd.{Crowd}

-- of two edits the first at even places, the other at odd ones
abbrev pub picked : ℕ → Edit → Edit → Edit
picked n a b = if n % 2 == 0 then a else b

-- the edit isn't refused
abbrev pub IsUnrefused : Control → Edit → Type 0
IsUnrefused c e = refused (tables_in c) c.setup.room e ≡ None

-- but fewer objects are free than its tables take
pub record AreTooFew (c : Control) (e : Edit) (x : Crowd) : Type 0 where
  pub taken : IsUnrefused c e
  pub free : x.free ≡ free_in c.plane.objects
  pub wanted : x.wanted ≡ size (edited (tables_in c) e)
  pub less : x.free < x.wanted
