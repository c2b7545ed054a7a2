use Rattle.std.proofs.Common.{◌≡◌, map, drop}
use Rattle.fib_resolve.specs.Edits.{set_paths, path_of}
use Rattle.fib_config.proofs.reasons.refused_paths.Given as goal

-- what is left to set gives what was to be set
abbrev pub invariant-loop-place : goal.invariant-loop-place
invariant-loop-place l = set_paths l.list (map (path_of l.tables) (drop l.place l.specs)) ≡ set_paths l.old (map (path_of l.tables) l.specs)
