-- The canonical text of an edit: words joined by one space, with each path's weight and preference.
use Rattle.std.specs.Prelude.{ℕ, ◌<◌, ◌≤◌, ◌≡◌, ◌^◌, ◌++◌, ◌∷◌, [], List, Bool, Some, codes, decimal, flat_map, length, if◌then◌else◌}
use Rattle.std.specs.List.{AllByRecursion}
use Rattle.fib_addr.specs.Prefixes.{IsPrefix}
use Rattle.fib_addr.specs.Texts.{address_text, prefix_text, mac_text}
use Rattle.fib_resolve.specs.Reachable.{WritesNeed}
use Rattle.fib_resolve.specs.declared.types.Edit.{Edit}
use Rattle.fib_resolve.specs.declared.types.Edit.TheVariants as edits
use Rattle.fib_resolve.specs.declared.types.Need.{Need}
use Rattle.fib_resolve.specs.declared.types.Need.TheVariants as needs
use Rattle.fib_resolve.specs.declared.types.PathSpec.{PathSpec}
use Rattle.fib_resolve.specs.declared.types.SpecKind.{SpecKind}
use Rattle.fib_resolve.specs.declared.types.SpecKind.TheVariants as kinds
use Rattle.fib_commands.specs.Names.{Words, name_of}

abbrev pub kind_words : SpecKind → Words
kind_words kinds.Drop = codes "drop" ∷ []
kind_words kinds.Local = codes "local" ∷ []
kind_words (kinds.Attached name) = name ∷ []
kind_words (kinds.Hop a name) = address_text a ∷ name ∷ []
kind_words (kinds.Recursive a) = address_text a ∷ []

abbrev pub need_words : Need → Words
need_words needs.Any = []
need_words needs.Host = codes "resolve-via-host" ∷ []
need_words needs.Attached = codes "resolve-via-attached" ∷ []

abbrev pub option_words : PathSpec → Words
option_words p = codes "weight" ∷ decimal p.weight ∷ codes "preference" ∷ decimal p.preference ∷ need_words p.need

abbrev pub path_words : PathSpec → Words
path_words p = codes "via" ∷ (kind_words p.kind ++ option_words p)

abbrev pub flag_text : Bool → List ℕ
flag_text up = if up then codes "up" else codes "down"

-- what stands in front of a route's line
abbrev pub source_words : Bool → Words → Words
source_words api words = if api then codes "api" ∷ words else words

abbrev pub address_text_of : ℕ → ℕ → List ℕ
address_text_of a len = prefix_text (record { bits = a; len = len })

unfoldable pub edit_words : Edit → Words
edit_words (edits.CreateInterface name) = codes "create" ∷ codes "interface" ∷ name ∷ []
edit_words (edits.SetState name up) = codes "set" ∷ codes "interface" ∷ codes "state" ∷ name ∷ flag_text up ∷ []
edit_words (edits.AddAddress name a len) =
    codes "set" ∷ codes "interface" ∷ codes "ip" ∷ codes "address" ∷ name ∷ address_text_of a len ∷ []
edit_words (edits.DelAddress name a len) =
    codes "set" ∷ codes "interface" ∷ codes "ip" ∷ codes "address" ∷ codes "del" ∷ name ∷ address_text_of a len ∷ []
edit_words (edits.SetNeighbor name a mac) = codes "set" ∷ codes "ip" ∷ codes "neighbor" ∷ name ∷ address_text a ∷ mac_text mac ∷ []
edit_words (edits.DelNeighbor name a) = codes "set" ∷ codes "ip" ∷ codes "neighbor" ∷ codes "del" ∷ name ∷ address_text a ∷ []
edit_words (edits.AddRoute p api paths) =
    source_words api (codes "ip" ∷ codes "route" ∷ codes "add" ∷ prefix_text p ∷ flat_map path_words paths)
edit_words (edits.DelRoute p api paths) =
    source_words api (codes "ip" ∷ codes "route" ∷ codes "del" ∷ prefix_text p ∷ flat_map path_words paths)

-- words joined by one space
abbrev pub joined : Words → List ℕ
joined [] = []
joined (w ∷ ws) = w ++ flat_map (λ v. 32 ∷ v) ws

abbrev pub edit_text : Edit → List ℕ
edit_text e = joined (edit_words e)

-- a name of the grammar
abbrev pub IsName : List ℕ → Type 0
IsName name = name_of name ≡ Some name

abbrev pub IsCanonicalKind : SpecKind → Type 0
IsCanonicalKind kinds.Drop = Unit {0}
IsCanonicalKind kinds.Local = Unit {0}
IsCanonicalKind (kinds.Attached name) = IsName name
IsCanonicalKind (kinds.Hop a name) = (a < 2 ^ 32) × IsName name
IsCanonicalKind (kinds.Recursive a) = a < 2 ^ 32

-- a path as the grammar can write it
pub record IsCanonicalPath (p : PathSpec) : Type 0 where
  pub kind : IsCanonicalKind p.kind
  pub above : 0 < p.weight
  pub weight : p.weight ≤ 255
  pub preference : p.preference ≤ 255
  pub need : WritesNeed p.need p.kind

-- an edit as the grammar can write it: its names are names, its numbers in their ranges
abbrev pub IsCanonical : Edit → Type 0
IsCanonical (edits.CreateInterface name) = IsName name
IsCanonical (edits.SetState name up) = IsName name
IsCanonical (edits.AddAddress name a len) = IsName name × (a < 2 ^ 32) × (len ≤ 32)
IsCanonical (edits.DelAddress name a len) = IsName name × (a < 2 ^ 32) × (len ≤ 32)
IsCanonical (edits.SetNeighbor name a mac) = IsName name × (a < 2 ^ 32) × (mac < 2 ^ 48)
IsCanonical (edits.DelNeighbor name a) = IsName name × (a < 2 ^ 32)
IsCanonical (edits.AddRoute p api paths) = IsPrefix p × (0 < length paths) × AllByRecursion IsCanonicalPath paths
IsCanonical (edits.DelRoute p api paths) = IsPrefix p × AllByRecursion IsCanonicalPath paths
