use Rattle.std.proofs.Common.{◌≡◌, ◌++◌, drop, cond}
use Rattle.fib_resolve.specs.Edits.{set_path}
use Rattle.fib_config.proofs.changes.set_path.Given as goal

-- what is made and what is to come are the whole
abbrev pub invariant-loop-q : goal.invariant-loop-q
invariant-loop-q l =
    l.out ++ cond l.is_set (drop l.q-index l.list) (set_path l.p (drop l.q-index l.list)) ≡ set_path l.p l.list
