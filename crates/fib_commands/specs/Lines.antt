-- The grammar of lines: a rule for each form, and the line that the forms give.
use Rattle.std.specs.Prelude.{ℕ, ◌∷◌, [], ◌++◌, List, Bool, true, false, Option, Some, None, if◌then◌else◌, length, codes, flat_map, option_to_list}
use Rattle.std.specs.Str.{bytes_eq}
use Rattle.fib_addr.specs.Prefixes.{masked}
use Rattle.fib_addr.specs.Texts.{◌>>=◌, address_of, number_of, prefix_of, mac_of}
use Rattle.fib_base_lines.specs.Lines.{is_plain}
use Rattle.fib_base_lines.specs.LineWords.{is_idle, words_of}
use Rattle.fib_resolve.specs.declared.types.Edit.TheVariants as edits
use Rattle.fib_resolve.specs.declared.types.PathSpec.{PathSpec}
use Rattle.fib_resolve.specs.Reachable.{IsWritten}
use Rattle.fib_commands.specs.declared.types.Line.{Line}
use Rattle.fib_commands.specs.declared.types.Line.TheVariants as lines
use Rattle.fib_commands.specs.Names.{Words, word, keyword, finished, name_of}
use Rattle.fib_commands.specs.Paths.{paths_of}

-- the first of the two that gives something
abbrev pub either_of : {A : Type 0} → Option A → Option A → Option A
either_of (Some x) other = Some x
either_of None other = other

-- create interface NAME
unfoldable pub create_of : Words → Option Line
create_of words = do
  create ← keyword (codes "create") words
  interface ← keyword (codes "interface") create
  n ← word interface
  end ← finished n.1
  name ← name_of n.0
  Some (lines.Change (edits.CreateInterface name))

unfoldable pub flag_of : List ℕ → Option Bool
flag_of text = if bytes_eq text (codes "up") then Some true else (if bytes_eq text (codes "down") then Some false else None)

-- set interface state NAME up, set interface state NAME down
unfoldable pub state_of : Words → Option Line
state_of words = do
  set ← keyword (codes "set") words
  interface ← keyword (codes "interface") set
  state ← keyword (codes "state") interface
  n ← word state
  f ← word n.1
  end ← finished f.1
  name ← name_of n.0
  up ← flag_of f.0
  Some (lines.Change (edits.SetState name up))

-- NAME PREFIX
unfoldable pub own_address_of : Words → Option (List ℕ × (ℕ × ℕ))
own_address_of words = do
  n ← word words
  p ← word n.1
  end ← finished p.1
  name ← name_of n.0
  address ← prefix_of p.0
  Some (name, address)

-- set interface ip address, and the words after it
unfoldable pub address_words : Words → Option Words
address_words words = do
  set ← keyword (codes "set") words
  interface ← keyword (codes "interface") set
  ip ← keyword (codes "ip") interface
  keyword (codes "address") ip

-- set interface ip address NAME PREFIX: the address as written
unfoldable pub add_address_of : Words → Option Line
add_address_of words = do
  rest ← address_words words
  a ← own_address_of rest
  Some (lines.Change (edits.AddAddress a.0 a.1.0 a.1.1))

-- set interface ip address del NAME PREFIX
unfoldable pub del_address_of : Words → Option Line
del_address_of words = do
  rest ← address_words words
  del ← keyword (codes "del") rest
  a ← own_address_of del
  Some (lines.Change (edits.DelAddress a.0 a.1.0 a.1.1))

-- set ip neighbor, and the words after it
unfoldable pub neighbor_words : Words → Option Words
neighbor_words words = do
  set ← keyword (codes "set") words
  ip ← keyword (codes "ip") set
  keyword (codes "neighbor") ip

-- set ip neighbor NAME ADDRESS MAC
unfoldable pub set_neighbor_of : Words → Option Line
set_neighbor_of words = do
  rest ← neighbor_words words
  n ← word rest
  a ← word n.1
  m ← word a.1
  end ← finished m.1
  name ← name_of n.0
  addr ← address_of a.0
  mac ← mac_of m.0
  Some (lines.Change (edits.SetNeighbor name addr mac))

-- a MAC, or nothing
unfoldable pub last_mac_of : Words → Option (Unit {0})
last_mac_of [] = Some tt
last_mac_of (m ∷ more) = do
  end ← finished more
  mac ← mac_of m
  Some tt

-- set ip neighbor del NAME ADDRESS [MAC]: the MAC is read and not compared
unfoldable pub del_neighbor_of : Words → Option Line
del_neighbor_of words = do
  rest ← neighbor_words words
  del ← keyword (codes "del") rest
  n ← word del
  a ← word n.1
  mac ← last_mac_of a.1
  name ← name_of n.0
  addr ← address_of a.0
  Some (lines.Change (edits.DelNeighbor name addr))

-- PREFIX [PATHS]
unfoldable pub route_of : Words → Option ((ℕ × ℕ) × List PathSpec)
route_of words = do
  p ← word words
  prefix ← prefix_of p.0
  paths ← paths_of (length p.1) p.1
  Some (prefix, paths)

-- a list of at least one path
unfoldable pub some_path : List PathSpec → Option (List PathSpec)
some_path [] = None
some_path (p ∷ ps) = Some (p ∷ ps)

-- PREFIX PATHS
unfoldable pub some_route_of : Words → Option ((ℕ × ℕ) × List PathSpec)
some_route_of words = do
  r ← route_of words
  paths ← some_path r.1
  Some (r.0, paths)

-- ip route add PREFIX PATHS
unfoldable pub add_route_of : Bool → Words → Option Line
add_route_of api words = do
  ip ← keyword (codes "ip") words
  route ← keyword (codes "route") ip
  add ← keyword (codes "add") route
  r ← some_route_of add
  Some (lines.Change (edits.AddRoute (masked r.0.0 r.0.1) api r.1))

-- ip route del PREFIX [PATHS]
unfoldable pub del_route_of : Bool → Words → Option Line
del_route_of api words = do
  ip ← keyword (codes "ip") words
  route ← keyword (codes "route") ip
  del ← keyword (codes "del") route
  r ← route_of del
  Some (lines.Change (edits.DelRoute (masked r.0.0 r.0.1) api r.1))

-- the same with the source api: api ip route ..
unfoldable pub api_add_of : Words → Option Line
api_add_of words = do
  api ← keyword (codes "api") words
  add_route_of true api

unfoldable pub api_del_of : Words → Option Line
api_del_of words = do
  api ← keyword (codes "api") words
  del_route_of true api

-- lookup ADDRESS HASH
unfoldable pub lookup_of : Words → Option Line
lookup_of words = do
  rest ← keyword (codes "lookup") words
  a ← word rest
  h ← word a.1
  end ← finished h.1
  addr ← address_of a.0
  hash ← number_of 10 4294967295 h.0
  Some (lines.Lookup addr hash)

-- show ip fib
unfoldable pub show_fib_of : Words → Option Line
show_fib_of words = do
  show ← keyword (codes "show") words
  ip ← keyword (codes "ip") show
  fib ← keyword (codes "fib") ip
  end ← finished fib
  Some lines.ShowFib

-- show fib path-lists
unfoldable pub show_lists_of : Words → Option Line
show_lists_of words = do
  show ← keyword (codes "show") words
  fib ← keyword (codes "fib") show
  lists ← keyword (codes "path-lists") fib
  end ← finished lists
  Some lines.ShowPathLists

-- show adj
unfoldable pub show_adj_of : Words → Option Line
show_adj_of words = do
  show ← keyword (codes "show") words
  adj ← keyword (codes "adj") show
  end ← finished adj
  Some lines.ShowAdj

-- forward N
unfoldable pub forward_of : Words → Option Line
forward_of words = do
  rest ← keyword (codes "forward") words
  n ← word rest
  end ← finished n.1
  count ← number_of 10 4294967295 n.0
  Some (lines.Forward count)

-- begin, commit
unfoldable pub begin_of : Words → Option Line
begin_of words = do
  rest ← keyword (codes "begin") words
  end ← finished rest
  Some lines.Begin

unfoldable pub commit_of : Words → Option Line
commit_of words = do
  rest ← keyword (codes "commit") words
  end ← finished rest
  Some lines.Commit

-- the forms of a line, by their first words
abbrev pub set_forms : List (Words → Option Line)
set_forms = state_of ∷ add_address_of ∷ del_address_of ∷ set_neighbor_of ∷ del_neighbor_of ∷ []

abbrev pub route_forms : List (Words → Option Line)
route_forms = add_route_of false ∷ del_route_of false ∷ []

abbrev pub api_forms : List (Words → Option Line)
api_forms = api_add_of ∷ api_del_of ∷ []

abbrev pub show_forms : List (Words → Option Line)
show_forms = show_fib_of ∷ show_lists_of ∷ show_adj_of ∷ []

abbrev pub other_forms : List (Words → Option Line)
other_forms = create_of ∷ lookup_of ∷ forward_of ∷ begin_of ∷ commit_of ∷ []

unfoldable pub forms : List (Words → Option Line)
forms = set_forms ++ route_forms ++ api_forms ++ show_forms ++ other_forms

-- what the forms give of these words; by law no two of them give a line
abbrev pub readings : List (Words → Option Line) → Words → List Line
readings forms words = flat_map (λ form. option_to_list (form words)) forms

-- what one of the forms gives
unfoldable pub reading_of : List (Words → Option Line) → Words → Option Line
reading_of [] words = None
reading_of (form ∷ forms) words = either_of (form words) (reading_of forms words)

-- what a line says: nothing where it has no word or is a comment, else what a form gives, if its bytes may stand in a command
unfoldable pub line_of : List ℕ → Option Line
line_of line =
    if is_idle (words_of line) then Some lines.Nothing else
    if is_plain line then reading_of forms (words_of line) else
    None

-- an edit that a line gives is one that the tables take
abbrev pub IsWrittenLine : Line → Type 0
IsWrittenLine (lines.Change edit) = IsWritten edit
IsWrittenLine lines.Nothing = Unit {0}
IsWrittenLine (lines.Lookup a h) = Unit {0}
IsWrittenLine lines.ShowFib = Unit {0}
IsWrittenLine lines.ShowPathLists = Unit {0}
IsWrittenLine lines.ShowAdj = Unit {0}
IsWrittenLine (lines.Forward n) = Unit {0}
IsWrittenLine lines.Begin = Unit {0}
IsWrittenLine lines.Commit = Unit {0}
