-- What the paths of an entry are for, by what is known of the entries after a change. No contract of a public call rests on this.
use Rattle.std.specs.Prelude.{Bool, true, false, not, ◌&&◌, List, [], ◌∷◌, Option, Some, None}
use Rattle.fib_addr.specs.Prefixes.{Prefix, host}
use Rattle.fib_resolve.specs.Forwarding.{is_up}
use Rattle.fib_resolve.specs.Resolution.{attached_end, hop_end}
use Rattle.fib_resolve.specs.declared.aims.Aim.{Aim}
use Rattle.fib_resolve.specs.declared.aims.Aim.TheVariants as aims
use Rattle.fib_resolve.specs.declared.aims.Marked.{Marked}
use Rattle.fib_resolve.specs.declared.types.End.TheVariants as answers
use Rattle.fib_resolve.specs.declared.types.Need.{Need}
use Rattle.fib_resolve.specs.declared.types.Path.{Path}
use Rattle.fib_resolve.specs.declared.types.PathKind.{PathKind}
use Rattle.fib_resolve.specs.declared.types.PathKind.TheVariants as kinds
use Rattle.fib_resolve.specs.declared.types.Tables.{Tables}
use Rattle.fib_entries_rows.specs.Rows.{Row}
use Rattle.fib_follow_view.specs.Views.{Seen}
use Rattle.fib_follow_view.specs.inner.Told.{met_in}

abbrev pub looped_row : Option Row → List Bool
looped_row None = []
looped_row (Some r) = r.looped

-- whether the need of a path is met
abbrev pub met_kind : Seen → Need → PathKind → Bool
met_kind v need (kinds.Recursive a) = met_in v need a
met_kind v need kinds.Drop = true
met_kind v need kinds.Local = true
met_kind v need (kinds.Attached i) = true
met_kind v need (kinds.Hop a i) = true
met_kind v need kinds.Cover = true

abbrev pub met_by : Seen → Path → Bool
met_by v p = met_kind v p.need p.kind

-- on to the cover, if it is known
abbrev pub aim_over : Option Prefix → Aim
aim_over None = aims.Ends answers.Drop
aim_over (Some c) = aims.On c

abbrev pub aim_by : Tables → Option Prefix → Prefix → PathKind → Aim
aim_by T over e kinds.Drop = aims.Ends answers.Drop
aim_by T over e kinds.Local = aims.Ends answers.Receive
aim_by T over e (kinds.Attached i) = aims.Ends (attached_end T e i)
aim_by T over e (kinds.Hop a i) = aims.Ends (hop_end T i a)
aim_by T over e (kinds.Recursive a) = aims.On (host a)
aim_by T over e kinds.Cover = aim_over over

abbrev pub counts_by : Tables → Seen → Need → Bool → PathKind → Bool
counts_by T v need looped kinds.Drop = false
counts_by T v need looped kinds.Local = true
counts_by T v need looped (kinds.Attached i) = is_up T i
counts_by T v need looped (kinds.Hop a i) = is_up T i
counts_by T v need looped (kinds.Recursive a) = not looped && met_in v need a
counts_by T v need looped kinds.Cover = true

abbrev pub mark_by : Tables → Seen → Option Prefix → Prefix → Path → Bool → Marked
mark_by T v over e p looped = record {
  aim = aim_by T over e p.kind;
  counts = counts_by T v p.need looped p.kind;
  weight = p.weight;
  preference = p.preference;
}

-- a mark for each path with its flag; false where there is none
abbrev pub marks_by : (Path → Bool → Marked) → List Path → List Bool → List Marked
marks_by f [] flags = []
marks_by f (p ∷ ps) [] = f p false ∷ marks_by f ps []
marks_by f (p ∷ ps) (b ∷ bs) = f p b ∷ marks_by f ps bs
