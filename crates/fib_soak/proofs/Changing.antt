-- The lines of the script but those that forward are changes, or no lines of the grammar.
use Rattle.std.proofs.Common.{◌≡◌, ℕ, ◌+◌, ◌/◌, ◌%◌, ◌==◌, ◌++◌, ◌∷◌, List, Bool, false, Option, Some, None, ◌⊎◌, inl, inr, refl}
use Rattle.std.specs.Prelude.{codes, decimal, slice_index, if◌then◌else◌}
use Rattle.fib_base_list.proofs.Lists.{either}
use Rattle.fib_addr.specs.Texts.{◌>>=◌, address_of, mac_of, number_of}
use Rattle.fib_base_lines.specs.Lines.{is_plain}
use Rattle.fib_base_lines.specs.LineWords.{words_of}
use Rattle.fib_commands.specs.declared.types.Line.{Line}
use Rattle.fib_commands.specs.Names.{Words, word, keyword, finished, name_of}
use Rattle.fib_commands.specs.Lines.{create_of, flag_of, state_of, own_address_of, last_mac_of, address_words, add_address_of, del_address_of, neighbor_words, set_neighbor_of, del_neighbor_of, some_route_of, route_of, add_route_of, del_route_of, either_of, forms, set_forms, route_forms, api_add_of, api_del_of, show_fib_of, show_lists_of, show_adj_of, reading_of, lookup_of, forward_of, line_of}
use Rattle.fib_commands.proofs.Dispatch.{at_set, at_ip, at_create}
use Rattle.fib_soak.specs.Draws.{draw, next, after_2, after_3}
use Rattle.fib_soak.specs.Scripts.{◌<>◌, create_line, up_line, address_line, neighbor_start, neighbor_mac, neighbor_line, target_line, route_line, state_line, drawn_route_line, deletion_line, path_line, forward_line}
use Rattle.fib_soak.specs.Kinds.{MayChange, Asks500, LinesAreChanges}
use Rattle.fib_soak.proofs.Parts.{Forms, each-line}
use Rattle.fib_soak.proofs.Again.{change_cases}

nothing_said : MayChange None
nothing_said = record { kind = tt }

-- what a rule gives whose every end is a change
steps : {A : Type 0} (o : Option A) (f : A → Option Line) → ((x : A) → MayChange (f x)) → MayChange (o >>= f)
steps None f h = nothing_said
steps (Some x) f h = h x

create_changes : (ws : Words) → MayChange (create_of ws)
unfolding create_of
create_changes ws =
    steps (keyword (codes "create") ws) _ (λ create.
    steps (keyword (codes "interface") create) _ (λ interface.
    steps (word interface) _ (λ n.
    steps (finished n.1) _ (λ end.
    steps (name_of n.0) _ (λ name. record { kind = tt })))))

state_changes : (ws : Words) → MayChange (state_of ws)
unfolding state_of
state_changes ws =
    steps (keyword (codes "set") ws) _ (λ set.
    steps (keyword (codes "interface") set) _ (λ interface.
    steps (keyword (codes "state") interface) _ (λ state.
    steps (word state) _ (λ n.
    steps (word n.1) _ (λ f.
    steps (finished f.1) _ (λ end.
    steps (name_of n.0) _ (λ name.
    steps (flag_of f.0) _ (λ up. record { kind = tt }))))))))

add_address_changes : (ws : Words) → MayChange (add_address_of ws)
unfolding add_address_of
add_address_changes ws =
    steps (address_words ws) _ (λ rest.
    steps (own_address_of rest) _ (λ a. record { kind = tt }))

del_address_changes : (ws : Words) → MayChange (del_address_of ws)
unfolding del_address_of
del_address_changes ws =
    steps (address_words ws) _ (λ rest.
    steps (keyword (codes "del") rest) _ (λ del.
    steps (own_address_of del) _ (λ a. record { kind = tt })))

set_neighbor_changes : (ws : Words) → MayChange (set_neighbor_of ws)
unfolding set_neighbor_of
set_neighbor_changes ws =
    steps (neighbor_words ws) _ (λ rest.
    steps (word rest) _ (λ n.
    steps (word n.1) _ (λ a.
    steps (word a.1) _ (λ m.
    steps (finished m.1) _ (λ end.
    steps (name_of n.0) _ (λ name.
    steps (address_of a.0) _ (λ addr.
    steps (mac_of m.0) _ (λ mac. record { kind = tt }))))))))

del_neighbor_changes : (ws : Words) → MayChange (del_neighbor_of ws)
unfolding del_neighbor_of
del_neighbor_changes ws =
    steps (neighbor_words ws) _ (λ rest.
    steps (keyword (codes "del") rest) _ (λ del.
    steps (word del) _ (λ n.
    steps (word n.1) _ (λ a.
    steps (last_mac_of a.1) _ (λ mac.
    steps (name_of n.0) _ (λ name.
    steps (address_of a.0) _ (λ addr. record { kind = tt })))))))

add_route_changes : (api : Bool) (ws : Words) → MayChange (add_route_of api ws)
unfolding add_route_of
add_route_changes api ws =
    steps (keyword (codes "ip") ws) _ (λ ip.
    steps (keyword (codes "route") ip) _ (λ route.
    steps (keyword (codes "add") route) _ (λ add.
    steps (some_route_of add) _ (λ r. record { kind = tt }))))

del_route_changes : (api : Bool) (ws : Words) → MayChange (del_route_of api ws)
unfolding del_route_of
del_route_changes api ws =
    steps (keyword (codes "ip") ws) _ (λ ip.
    steps (keyword (codes "route") ip) _ (λ route.
    steps (keyword (codes "del") route) _ (λ del.
    steps (route_of del) _ (λ r. record { kind = tt }))))

either_changes : (x y : Option Line) → MayChange x → MayChange y → MayChange (either_of x y)
either_changes (Some x) y h k = h
either_changes None y h k = k

set_changes : (ws : Words) → MayChange (reading_of set_forms ws)
unfolding reading_of
set_changes ws =
    either_changes _ _ (state_changes ws) (either_changes _ _ (add_address_changes ws) (either_changes _ _ (del_address_changes ws)
    (either_changes _ _ (set_neighbor_changes ws) (either_changes _ _ (del_neighbor_changes ws) nothing_said))))

route_changes : (ws : Words) → MayChange (reading_of route_forms ws)
unfolding reading_of
route_changes ws = either_changes _ _ (add_route_changes false ws) (either_changes _ _ (del_route_changes false ws) nothing_said)

-- a line of these words, of which the first is no comment
line_changes : (line w : List ℕ) (ws : Words) → words_of line ≡ w ∷ ws → (slice_index w 0 == 35) ≡ false → MayChange (reading_of forms (w ∷ ws)) → MayChange (line_of line)
unfolding line_of
line_changes line w ws is some h =
    rw (is, some) (elim (either (is_plain line)) [ inl plain ↦ rw plain h | inr other ↦ rw other nothing_said ])

set_words : (rest : List ℕ) → words_of (codes "set " ++ rest) ≡ codes "set" ∷ words_of rest
unfolding words_of
set_words rest = refl

ip_words : (rest : List ℕ) → words_of (codes "ip " ++ rest) ≡ codes "ip" ∷ words_of rest
unfolding words_of
ip_words rest = refl

create_words : (rest : List ℕ) → words_of (codes "create " ++ rest) ≡ codes "create" ∷ words_of rest
unfolding words_of
create_words rest = refl

set_line : (rest : List ℕ) → MayChange (line_of (codes "set " ++ rest))
set_line rest =
    line_changes (codes "set " ++ rest) (codes "set") (words_of rest) (set_words rest) refl
    (rw (at_set (codes "set" ∷ words_of rest) refl) (set_changes (codes "set" ∷ words_of rest)))

ip_line : (rest : List ℕ) → MayChange (line_of (codes "ip " ++ rest))
ip_line rest =
    line_changes (codes "ip " ++ rest) (codes "ip") (words_of rest) (ip_words rest) refl
    (rw (at_ip (codes "ip" ∷ words_of rest) refl) (route_changes (codes "ip" ∷ words_of rest)))

any_create : (rest : List ℕ) → MayChange (line_of (codes "create " ++ rest))
any_create rest =
    line_changes (codes "create " ++ rest) (codes "create") (words_of rest) (create_words rest) refl
    (rw (at_create (codes "create" ∷ words_of rest) refl) (create_changes (codes "create" ∷ words_of rest)))

create_line_changes : (k : ℕ) → MayChange (line_of (create_line k))
unfolding create_line
create_line_changes k = any_create (codes "interface eth" ++ decimal k)

up_changes : (k : ℕ) → MayChange (line_of (up_line k))
unfolding up_line
up_changes k = set_line (codes "interface state eth" <> decimal k <> codes " up")

address_changes : (k : ℕ) → MayChange (line_of (address_line k))
unfolding address_line
address_changes k = set_line (codes "interface ip address eth" <> decimal k <> codes " 10." <> decimal k <> codes ".0.1/16")

neighbor_changes : (j : ℕ) → MayChange (line_of (neighbor_line j))
unfolding neighbor_line neighbor_start
neighbor_changes j =
    set_line ((codes "ip neighbor eth" <> decimal (j % 4) <> codes " 10." <> decimal (j % 4) <> codes ".0." <> decimal (2 + j / 4) <> codes " ")
    ++ neighbor_mac (j % 4) (2 + j / 4))

target_changes : (j x : ℕ) → MayChange (line_of (target_line j x))
unfolding target_line
target_changes j x =
    ip_line (codes "route add 192.168.0." <> decimal j <> codes "/32 via 10." <> decimal (draw 4 x) <> codes ".0." <> decimal (2 + draw 16 (next x))
    <> codes " via 10." <> decimal (draw 4 (after_2 x)) <> codes ".0." <> decimal (2 + draw 16 (after_3 x)))

route_line_changes : (p q z : ℕ) → MayChange (line_of (route_line p q z))
unfolding route_line
route_line_changes p q z = ip_line (codes "route add 100." <> decimal p <> codes "." <> decimal q <> codes ".0/24 via 192.168.0." <> decimal z)

state_line_changes : (x : ℕ) → MayChange (line_of (state_line x))
unfolding state_line
state_line_changes x =
    set_line (codes "interface state eth" <> decimal (draw 4 x) <> (if draw 2 (next x) == 1 then codes " up" else codes " down"))

drawn_route_changes : (x : ℕ) → MayChange (line_of (drawn_route_line x))
unfolding drawn_route_line
drawn_route_changes x = route_line_changes (draw 8 x) (draw 250 (next x)) (draw 32 (after_2 x))

deletion_changes : (x : ℕ) → MayChange (line_of (deletion_line x))
unfolding deletion_line
deletion_changes x = ip_line (codes "route del 100." <> decimal (draw 8 x) <> codes "." <> decimal (draw 250 (next x)) <> codes ".0/24")

path_changes : (x : ℕ) → MayChange (line_of (path_line x))
unfolding path_line
path_changes x =
    ip_line (codes "route add 192.168.0." <> decimal (draw 32 x) <> codes "/32 via 100." <> decimal (draw 8 (next x)) <> codes "."
    <> decimal (draw 250 (after_2 x)) <> codes ".1")

pub change_forms : Forms (λ line. MayChange (line_of line))
change_forms = record {
  create = λ k few. create_line_changes k;
  up = λ k few. up_changes k;
  address = λ k few. address_changes k;
  neighbor = λ j few. neighbor_changes j;
  target = λ j x few. target_changes j x;
  route = λ p q z a b c. route_line_changes p q z;
  change = change_cases (λ line. MayChange (line_of line)) state_line_changes drawn_route_changes deletion_changes path_changes;
}

pub forward_asks : Asks500 (line_of forward_line)
unfolding line_of words_of reading_of forms forward_of keyword number_of create_of state_of address_words add_address_of del_address_of neighbor_words set_neighbor_of del_neighbor_of add_route_of del_route_of api_add_of api_del_of lookup_of show_fib_of show_lists_of show_adj_of
forward_asks = refl

pub lines_are_changes : LinesAreChanges
lines_are_changes seed =
    each-line (λ line. MayChange (line_of line) ⊎ Asks500 (line_of line)) (also change_forms) (inr forward_asks) seed
  where
    also : Forms (λ line. MayChange (line_of line)) → Forms (λ line. MayChange (line_of line) ⊎ Asks500 (line_of line))
    also f = record {
      create = λ k few. inl (f.create k few);
      up = λ k few. inl (f.up k few);
      address = λ k few. inl (f.address k few);
      neighbor = λ j few. inl (f.neighbor j few);
      target = λ j x few. inl (f.target j x few);
      route = λ p q z a b c. inl (f.route p q z a b c);
      change = λ x. inl (f.change x);
    }
