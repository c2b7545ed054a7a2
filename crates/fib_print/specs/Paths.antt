-- The texts of paths.
use Rattle.std.specs.Prelude.{ℕ, ◌++◌, List, [], Option, Some, None, codes, decimal}
use Rattle.fib_addr.specs.Prefixes.{Prefix}
use Rattle.fib_addr.specs.Texts.{address_text, prefix_text}
use Rattle.fib_resolve.specs.declared.types.Tables.{Tables}
use Rattle.fib_resolve.specs.declared.types.Path.{Path}
use Rattle.fib_resolve.specs.declared.types.PathKind.{PathKind}
use Rattle.fib_resolve.specs.declared.types.PathKind.TheVariants as kinds
use Rattle.fib_resolve.specs.declared.types.Need.{Need}
use Rattle.fib_resolve.specs.declared.types.Need.TheVariants as needs
use Rattle.fib_print.specs.Ends.{name_of}

-- the cover's prefix stands where it is given
abbrev pub cover_text : Option Prefix → List ℕ
cover_text None = codes "cover"
cover_text (Some p) = codes "cover " ++ prefix_text p

unfoldable pub kind_text : Tables → Option Prefix → PathKind → List ℕ
kind_text S cover kinds.Drop = codes "drop"
kind_text S cover kinds.Local = codes "local"
kind_text S cover (kinds.Attached i) = codes "attached " ++ name_of S i
kind_text S cover (kinds.Hop a i) = codes "hop " ++ address_text a ++ codes " " ++ name_of S i
kind_text S cover (kinds.Recursive a) = codes "via " ++ address_text a
kind_text S cover kinds.Cover = cover_text cover

abbrev pub need_text : Need → List ℕ
need_text needs.Any = []
need_text needs.Host = codes " resolve-via-host"
need_text needs.Attached = codes " resolve-via-attached"

-- weight and preference
unfoldable pub numbers_text : ℕ → ℕ → List ℕ
numbers_text weight preference = codes " weight " ++ decimal weight ++ codes " preference " ++ decimal preference

unfoldable pub path_text : Tables → Option Prefix → Path → List ℕ
path_text S cover p = kind_text S cover p.kind ++ numbers_text p.weight p.preference ++ need_text p.need
