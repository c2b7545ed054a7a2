-- Why an edit is refused: the first reason that applies. And which of several edits is the first refused one.
use Rattle.std.specs.Prelude.{ℕ, Bool, false, not, ◌&&◌, ◌+◌, List, [], ◌∷◌, ◌++◌, map, find, length, Option, Some, None, is_none}
use Rattle.std.specs.Prelude.{option_map, nat_lt, nat_le, Result, Ok, Err}
use Rattle.std.specs.List.{list_any}
use Rattle.fib_addr.specs.Prefixes.{Prefix}
use Rattle.fib_resolve.specs.Keys.{key_of, same_key}
use Rattle.fib_resolve.specs.Tables.{interface_named, same_address, same_neighbor, is_route, connects_elsewhere, is_mixed}
use Rattle.fib_resolve.specs.Edits.{edited, address_at, neighbor_at, paths_at, paths_with, path_of, source_of}
use Rattle.fib_resolve.specs.Sizes.{size}
use Rattle.fib_resolve.specs.declared.types.Address.{Address}
use Rattle.fib_resolve.specs.declared.types.Neighbor.{Neighbor}
use Rattle.fib_resolve.specs.declared.types.Path.{Path}
use Rattle.fib_resolve.specs.declared.types.PathSpec.{PathSpec}
use Rattle.fib_resolve.specs.declared.types.SpecKind.{SpecKind}
use Rattle.fib_resolve.specs.declared.types.SpecKind.TheVariants as written
use Rattle.fib_resolve.specs.declared.types.Tables.{Tables}
use Rattle.fib_resolve.specs.declared.types.Edit.{Edit}
use Rattle.fib_resolve.specs.declared.types.Edit.TheVariants as edits
use Rattle.fib_resolve.specs.declared.types.Refusal.{Refusal}
use Rattle.fib_resolve.specs.declared.types.Refusal.TheVariants as refusals

-- a reason, and whether it applies
pub record Reason : Type 0 where
  pub applies : Bool
  pub refusal : Refusal

abbrev pub when : Bool → Refusal → Reason
when applies refusal = record { applies = applies; refusal = refusal }

abbrev pub unknown : Tables → List ℕ → Bool
unknown S name = is_none (interface_named S name)

abbrev pub names_unknown : Tables → SpecKind → Bool
names_unknown S (written.Attached name) = unknown S name
names_unknown S (written.Hop a name) = unknown S name
names_unknown S written.Drop = false
names_unknown S written.Local = false
names_unknown S (written.Recursive a) = false

abbrev pub some_unknown : Tables → List PathSpec → Bool
some_unknown S specs = list_any (λ spec. names_unknown S spec.kind) specs

abbrev pub has_address : Tables → Address → Bool
has_address S a = list_any (λ b. same_address b a) S.addresses

-- the prefix is connected to another interface
abbrev pub connected_elsewhere : Tables → Address → Bool
connected_elsewhere S a = nat_lt a.len 32 && list_any (connects_elsewhere a) S.addresses

abbrev pub has_neighbor : Tables → Neighbor → Bool
has_neighbor S n = list_any (λ m. same_neighbor m n) S.neighbors

abbrev pub has_route : Tables → Prefix → Bool → Bool
has_route S prefix api = list_any (is_route prefix (source_of api)) S.routes

-- one of the paths has a key that the list lacks
abbrev pub lacks_a_key : List Path → List Path → Bool
lacks_a_key old ps = list_any (λ p. not (list_any (λ q. same_key (key_of q) (key_of p)) old)) ps

-- the reasons of an edit, in their order; none depends on the room
abbrev pub reasons : Tables → Edit → List Reason
reasons S (edits.CreateInterface name) =
    when (not (unknown S name)) refusals.InterfaceExists ∷ when (nat_le 256 (length S.interfaces)) refusals.TooManyInterfaces ∷ []
reasons S (edits.SetState name up) = when (unknown S name) refusals.NoSuchInterface ∷ []
reasons S (edits.AddAddress name addr len) =
    when (unknown S name) refusals.NoSuchInterface ∷
    when (has_address S (address_at S name addr len)) refusals.AddressThere ∷
    when (connected_elsewhere S (address_at S name addr len)) refusals.ConnectedElsewhere ∷ []
reasons S (edits.DelAddress name addr len) =
    when (unknown S name) refusals.NoSuchInterface ∷
    when (not (has_address S (address_at S name addr len))) refusals.NoSuchAddress ∷ []
reasons S (edits.SetNeighbor name addr mac) = when (unknown S name) refusals.NoSuchInterface ∷ []
reasons S (edits.DelNeighbor name addr) =
    when (unknown S name) refusals.NoSuchInterface ∷
    when (not (has_neighbor S (neighbor_at S name addr 0))) refusals.NoSuchNeighbor ∷ []
reasons S (edits.AddRoute prefix api specs) =
    when (some_unknown S specs) refusals.NoSuchInterface ∷
    when (is_mixed (paths_with S prefix api specs)) refusals.MixedPaths ∷
    when (nat_lt 16 (length (paths_with S prefix api specs))) refusals.TooManyPaths ∷ []
reasons S (edits.DelRoute prefix api specs) =
    when (some_unknown S specs) refusals.NoSuchInterface ∷
    when (not (has_route S prefix api)) refusals.NoSuchRoute ∷
    when (lacks_a_key (paths_at prefix (source_of api) S.routes) (map (path_of S) specs)) refusals.NoSuchPath ∷ []

abbrev pub first_reason : List Reason → Option Refusal
first_reason rs = option_map (λ r. r.refusal) (find (λ r. r.applies) rs)

-- the last reason of every edit is the size of what it makes
unfoldable pub refused : Tables → ℕ → Edit → Option Refusal
refused S room e = first_reason (reasons S e ++ when (nat_lt room (size (edited S e))) refusals.TooLarge ∷ [])

-- the first refused edit of several, and why it is refused
pub record FirstRefused : Type 0 where
  pub place : ℕ
  pub refusal : Refusal

-- what follows an edit that is refused so or not, at that place
abbrev pub unless_refused : Option Refusal → ℕ → Result Tables FirstRefused → Result Tables FirstRefused
unless_refused None place more = more
unless_refused (Some refusal) place more = Err (record { place = place; refusal = refusal })

-- the edits from that place on, each on the tables that those before it give
unfoldable pub edited_from : ℕ → Tables → ℕ → List Edit → Result Tables FirstRefused
edited_from place S room [] = Ok S
edited_from place S room (e ∷ es) = unless_refused (refused S room e) place (edited_from (place + 1) (edited S e) room es)

-- the tables after all of them, or the first that is refused
abbrev pub edited_in_turn : Tables → ℕ → List Edit → Result Tables FirstRefused
edited_in_turn S room es = edited_from 0 S room es
