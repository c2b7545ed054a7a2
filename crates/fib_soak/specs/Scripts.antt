-- The generated script: its lines without their ends, part by part.
use Rattle.std.specs.Prelude.{ℕ, zero, suc, ◌+◌, ◌/◌, ◌%◌, ◌==◌, ◌||◌, ◌++◌, ◌∷◌, [], List, if◌then◌else◌, codes, decimal, flat_map}
use Rattle.fib_addr.specs.Texts.{mac_text, mac_number}
use Rattle.fib_soak.specs.Draws.{next, draw, repeated, after_2, after_3, after_4}

-- one text after another, grouped to the right
infixr 20 ◌<>◌
abbrev pub ◌<>◌ : List ℕ → List ℕ → List ℕ
a <> b = a ++ b

-- the lines of one interface
unfoldable pub create_line : ℕ → List ℕ
create_line k = codes "create interface eth" <> decimal k

unfoldable pub up_line : ℕ → List ℕ
up_line k = codes "set interface state eth" <> decimal k <> codes " up"

unfoldable pub address_line : ℕ → List ℕ
address_line k = codes "set interface ip address eth" <> decimal k <> codes " 10." <> decimal k <> codes ".0.1/16"

-- a neighbor, with the MAC 02:00:00:00:0K:HH
unfoldable pub neighbor_start : ℕ → ℕ → List ℕ
neighbor_start k h = codes "set ip neighbor eth" <> decimal k <> codes " 10." <> decimal k <> codes ".0." <> decimal h <> codes " "

abbrev pub neighbor_mac : ℕ → ℕ → List ℕ
neighbor_mac k h = mac_text (mac_number (2 ∷ 0 ∷ 0 ∷ []) (0 ∷ k ∷ h ∷ []))

unfoldable pub neighbor_line : ℕ → List ℕ
neighbor_line j = neighbor_start (j % 4) (2 + j / 4) ++ neighbor_mac (j % 4) (2 + j / 4)

-- the line of a next hop's target, by four draws from state x
unfoldable pub target_line : ℕ → ℕ → List ℕ
target_line j x =
    codes "ip route add 192.168.0." <> decimal j <> codes "/32 via 10." <> decimal (draw 4 x) <> codes ".0." <> decimal (2 + draw 16 (next x))
    <> codes " via 10." <> decimal (draw 4 (after_2 x)) <> codes ".0." <> decimal (2 + draw 16 (after_3 x))

-- the route of a prefix by way of a target
unfoldable pub route_line : ℕ → ℕ → ℕ → List ℕ
route_line p q z = codes "ip route add 100." <> decimal p <> codes "." <> decimal q <> codes ".0/24 via 192.168.0." <> decimal z

-- a drawn change of an interface's state, by two draws from state x
unfoldable pub state_line : ℕ → List ℕ
state_line x = codes "set interface state eth" <> decimal (draw 4 x) <> (if draw 2 (next x) == 1 then codes " up" else codes " down")

-- a drawn route by way of a drawn target
unfoldable pub drawn_route_line : ℕ → List ℕ
drawn_route_line x = route_line (draw 8 x) (draw 250 (next x)) (draw 32 (after_2 x))

-- the deletion of a drawn route
unfoldable pub deletion_line : ℕ → List ℕ
deletion_line x = codes "ip route del 100." <> decimal (draw 8 x) <> codes "." <> decimal (draw 250 (next x)) <> codes ".0/24"

-- a further path of a drawn target
unfoldable pub path_line : ℕ → List ℕ
path_line x =
    codes "ip route add 192.168.0." <> decimal (draw 32 x) <> codes "/32 via 100." <> decimal (draw 8 (next x)) <> codes "." <> decimal (draw 250 (after_2 x))
    <> codes ".1"

-- a change of kind t, by draws from state x, and the state after it
unfoldable pub change_of : ℕ → ℕ → List ℕ
change_of t x =
    if t == 0 then state_line x else
    if t == 1 then drawn_route_line x else
    if t == 2 then deletion_line x else
    path_line x

unfoldable pub after_change_of : ℕ → ℕ → ℕ
after_change_of t x = if t == 0 || t == 2 then after_2 x else after_3 x

-- a change draws its kind first
unfoldable pub change_line : ℕ → List ℕ
change_line x = change_of (draw 4 x) (next x)

unfoldable pub after_change : ℕ → ℕ
after_change x = after_change_of (draw 4 x) (next x)

-- the lines of the numbers below n
unfoldable pub lines_for : (ℕ → List ℕ) → ℕ → List (List ℕ)
lines_for f zero = []
lines_for f (suc n) = lines_for f n ++ f n ∷ []

abbrev pub interface_lines : ℕ → List (List ℕ)
interface_lines k = create_line k ∷ up_line k ∷ address_line k ∷ []

-- the lines of n interfaces
unfoldable pub interfaces : ℕ → List (List ℕ)
interfaces zero = []
interfaces (suc n) = interfaces n ++ interface_lines n

abbrev pub neighbors : ℕ → List (List ℕ)
neighbors n = lines_for neighbor_line n

-- n targets, four draws each
abbrev pub targets : ℕ → ℕ → List (List ℕ)
targets n x = lines_for (λ j. target_line j (repeated after_4 j x)) n

-- n routes of 250 to a first byte, one draw each
abbrev pub routes : ℕ → ℕ → List (List ℕ)
routes n x = lines_for (λ j. route_line (j / 250) (j % 250) (draw 32 (repeated next j x))) n

-- n changes
abbrev pub changes : ℕ → ℕ → List (List ℕ)
changes n x = lines_for (λ j. change_line (repeated after_change j x)) n

abbrev pub forward_line : List ℕ
forward_line = codes "forward 500"

-- twenty changes between two forward lines
abbrev pub after_round : ℕ → ℕ
after_round x = repeated after_change 20 x

abbrev pub round_lines : ℕ → List (List ℕ)
round_lines x = (forward_line ∷ changes 20 x) ++ forward_line ∷ []

-- n times
unfoldable pub rounds : ℕ → ℕ → List (List ℕ)
rounds zero x = []
rounds (suc n) x = rounds n x ++ round_lines (repeated after_round n x)

-- the lines of a seed's script, 12 + 64 + 32 + 2000 + 40 * 22 of them
unfoldable pub soak_lines : ℕ → List (List ℕ)
soak_lines seed =
    let after_targets = repeated after_4 32 seed in
    let after_routes = repeated next 2000 after_targets in
    interfaces 4 ++ neighbors 64 ++ targets 32 seed ++ routes 2000 after_targets ++ rounds 40 after_routes

-- each line ends with a line feed
abbrev pub ended : List ℕ → List ℕ
ended line = line ++ 10 ∷ []

unfoldable pub text_of : List (List ℕ) → List ℕ
text_of lines = flat_map ended lines

unfoldable pub soak_script : ℕ → List ℕ
soak_script seed = text_of (soak_lines seed)
