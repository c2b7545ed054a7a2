-- Tables that agree but at the places that changes name.
use Rattle.std.specs.Prelude.{◌≡◌, ◌↔◌, ℕ, List, length, Contains}
use Rattle.fib_resolve.specs.Forwarding.{is_up}
use Rattle.fib_resolve.specs.Resolution.{mac_of}
use Rattle.fib_resolve.specs.Edits.{number_of, address_at, source_of}
use Rattle.fib_resolve.specs.declared.types.Address.{Address}
use Rattle.fib_resolve.specs.declared.types.Edit.{Edit}
use Rattle.fib_resolve.specs.declared.types.Edit.TheVariants as edits
use Rattle.fib_resolve.specs.declared.types.Route.{Route}
use Rattle.fib_resolve.specs.declared.types.Tables.{Tables}
use Rattle.fib_resolve_changes.specs.declared.change.Change.{Change}
use Rattle.fib_resolve_changes.specs.declared.change.Change.TheVariants as changes

-- no change of the list names the place, and there the tables agree
pub record Differ (list : List Change) (S T : Tables) : Type 0 where
  pub flags : (i : ℕ) → (Contains list (changes.Flag i) → ⊥) → is_up S i ≡ is_up T i
  pub addresses : (a : Address) → (Contains list (changes.Address a) → ⊥) → Contains S.addresses a ↔ Contains T.addresses a
  pub neighbors : (i a : ℕ) → (Contains list (changes.Neighbor i a) → ⊥) → mac_of S i a ≡ mac_of T i a
  pub routes : (r : Route) → (Contains list (changes.Route r.prefix r.source) → ⊥) → Contains S.routes r ↔ Contains T.routes r

-- the place at which an edit changes tables
abbrev pub change_of : Tables → Edit → Change
change_of S (edits.CreateInterface name) = changes.Flag (length S.interfaces)
change_of S (edits.SetState name up) = changes.Flag (number_of S name)
change_of S (edits.AddAddress name addr len) = changes.Address (address_at S name addr len)
change_of S (edits.DelAddress name addr len) = changes.Address (address_at S name addr len)
change_of S (edits.SetNeighbor name addr mac) = changes.Neighbor (number_of S name) addr
change_of S (edits.DelNeighbor name addr) = changes.Neighbor (number_of S name) addr
change_of S (edits.AddRoute prefix api specs) = changes.Route prefix (source_of api)
change_of S (edits.DelRoute prefix api specs) = changes.Route prefix (source_of api)
