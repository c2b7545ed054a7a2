-- Whether one of an entry's paths wakes it, by its marks. No contract of a public call rests on this.
use Rattle.std.specs.Prelude.{Bool, false, not, ◌&&◌, ◌||◌, List, [], ◌∷◌}
use Rattle.fib_addr.specs.Prefixes.{Prefix}
use Rattle.fib_resolve.specs.declared.aims.Marked.{Marked}
use Rattle.fib_resolve_changes.specs.Ranks.{is_aimed_at}

-- a path that isn't looped is aimed at that entry
abbrev pub aims_at : Prefix → List Marked → List Bool → Bool
aims_at t [] looped = false
aims_at t (m ∷ ms) [] = false
aims_at t (m ∷ ms) (l ∷ ls) = (not l && is_aimed_at t m.aim) || aims_at t ms ls
