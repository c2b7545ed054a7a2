-- A canonical line is read back to its edit: paths, forms and the whole line.
use Rattle.std.proofs.Common.{arith, ◌≡◌, ◌++◌, ◌∷◌, [], ℕ, zero, suc, ◌-◌, ◌*◌, ◌/◌, ◌%◌, ◌^◌, ◌<◌, ◌≤◌, Bool, true, false, List, length, decimal, Some, None, inl, inr, refl, ◌∙◌, length-append, append_assoc}
use Rattle.std.specs.Prelude.{codes, flat_map}
use Rattle.std.specs.List.{AllByRecursion, list_all}
use Rattle.std.proofs.Math.Pow.{pow_pos}
use Rattle.fib_base_list.proofs.Lists.{each-append}
use Rattle.fib_addr.proofs.RoundTrip.{address_again, prefix_again, mac_again}
use Rattle.fib_addr.proofs.PrefixLaws.{same_fields}
use Rattle.fib_addr.specs.Texts.{address_text, prefix_text, mac_text}
use Rattle.fib_addr.specs.Prefixes.{Prefix, IsPrefix, masked, size_of}
use Rattle.fib_base_lines.specs.LineWords.{is_idle}
use Rattle.fib_resolve.specs.declared.types.Edit.{Edit}
use Rattle.fib_resolve.specs.declared.types.Edit.TheVariants as edits
use Rattle.fib_resolve.specs.declared.types.Need.{Need}
use Rattle.fib_resolve.specs.declared.types.Need.TheVariants as needs
use Rattle.fib_resolve.specs.declared.types.PathSpec.{PathSpec}
use Rattle.fib_resolve.specs.declared.types.SpecKind.{SpecKind}
use Rattle.fib_resolve.specs.declared.types.SpecKind.TheVariants as kinds
use Rattle.fib_commands.specs.declared.types.Line.{Line}
use Rattle.fib_commands.specs.declared.types.Line.TheVariants as lines
use Rattle.fib_commands.specs.Names.{Words, keyword, name_of}
use Rattle.fib_commands.specs.Paths.{path_of, paths_of}
use Rattle.fib_commands.specs.Lines.{create_of, flag_of, state_of, own_address_of, address_words, add_address_of, del_address_of, neighbor_words, set_neighbor_of, last_mac_of, del_neighbor_of, route_of, some_path, some_route_of, add_route_of, del_route_of, api_add_of, api_del_of, forms, reading_of, line_of}
use Rattle.fib_commands.specs.Canonical.{kind_words, need_words, option_words, path_words, flag_text, source_words, address_text_of, edit_words, edit_text, joined, IsCanonicalKind, IsCanonicalPath, IsName, IsCanonical}
use Rattle.fib_commands.proofs.Dispatch.{at_create, at_set, at_ip, at_api}
use Rattle.fib_commands.proofs.Inks.{is_ink, IsInk, Inks, address_ink, prefix_ink, mac_ink, name_ink, decimal_ink, words_again, joined_plain}
use Rattle.fib_commands.proofs.Again.{IsEnd, options_again, target_again, written_again}

assembled : (k : SpecKind) (w p : ℕ) (need : Need) (rest : Words)
    → (kind_words k ++ (codes "weight" ∷ decimal w ∷ codes "preference" ∷ decimal p ∷ need_words need)) ++ rest
    ≡ kind_words k ++ (codes "weight" ∷ decimal w ∷ codes "preference" ∷ decimal p ∷ (need_words need ++ rest))
assembled k w p need rest = append_assoc (kind_words k) _ rest

path_again : (x : PathSpec) (rest : Words) → IsCanonicalPath x → IsEnd rest → path_of (path_words x ++ rest) ≡ Some (x, rest)
unfolding path_of keyword
path_again x rest is end =
    let more = codes "weight" ∷ decimal x.weight ∷ codes "preference" ∷ decimal x.preference ∷ (need_words x.need ++ rest) in
    rw (assembled x.kind x.weight x.preference x.need rest, target_again x.kind more is.kind (_, refl), options_again x.weight x.preference x.need rest is.above is.weight is.preference end, written_again x.kind x.weight x.preference x.need is.need) refl

path_end : (xs : List PathSpec) → IsEnd (flat_map path_words xs)
path_end [] = inl refl
path_end (x ∷ xs) = inr (_, refl)

none_left : (n : ℕ) → paths_of n [] ≡ Some []
unfolding paths_of
none_left n = refl

paths_again : (n : ℕ) (xs : List PathSpec) → length (flat_map path_words xs) ≤ n → AllByRecursion IsCanonicalPath xs → paths_of n (flat_map path_words xs) ≡ Some xs
unfolding paths_of
paths_again n [] enough is = none_left n
paths_again zero (x ∷ xs) enough is = absurd (omega arith)
paths_again (suc n) (x ∷ xs) enough is =
    let rest = flat_map path_words xs in
    let fewer : length rest ≤ n = omega (arith, length-append (kind_words x.kind ++ option_words x) rest) in
    rw (path_again x rest is.0 (path_end xs), paths_again n xs fewer is.1) refl

route_again : (p : Prefix) (xs : List PathSpec) → IsPrefix p → AllByRecursion IsCanonicalPath xs → route_of (prefix_text p ∷ flat_map path_words xs) ≡ Some ((p.bits, p.len), xs)
unfolding route_of
route_again p xs is paths = rw (prefix_again p is.fits is.short, paths_again (length (flat_map path_words xs)) xs (omega arith) paths) refl

divided : (b s : ℕ) → b % s ≡ 0 → 0 < s → b / s * s ≡ b
divided b s e pos = omega (arith, e, pos)

masked_again : (p : Prefix) → IsPrefix p → masked p.bits p.len ≡ p
masked_again p is = same_fields (masked p.bits p.len) p (divided p.bits (size_of p.len) is.cleared (pow_pos (32 - p.len)), refl)

some_again : (xs : List PathSpec) → 0 < length xs → some_path xs ≡ Some xs
unfolding some_path
some_again [] some = absurd (omega arith)
some_again (x ∷ xs) some = refl

add_again : (api : Bool) (p : Prefix) (xs : List PathSpec) → IsPrefix p → 0 < length xs → AllByRecursion IsCanonicalPath xs
    → add_route_of api (codes "ip" ∷ codes "route" ∷ codes "add" ∷ prefix_text p ∷ flat_map path_words xs) ≡ Some (lines.Change (edits.AddRoute p api xs))
unfolding add_route_of some_route_of keyword
add_again api p xs is some paths = rw (route_again p xs is paths, some_again xs some, masked_again p is) refl

del_again : (api : Bool) (p : Prefix) (xs : List PathSpec) → IsPrefix p → AllByRecursion IsCanonicalPath xs
    → del_route_of api (codes "ip" ∷ codes "route" ∷ codes "del" ∷ prefix_text p ∷ flat_map path_words xs) ≡ Some (lines.Change (edits.DelRoute p api xs))
unfolding del_route_of keyword
del_again api p xs is paths = rw (route_again p xs is paths, masked_again p is) refl

flag_again : (up : Bool) → flag_of (flag_text up) ≡ Some up
unfolding flag_of
flag_again true = refl
flag_again false = refl

own_again : (name : List ℕ) (a len : ℕ) → IsName name → a < 2 ^ 32 → len ≤ 32 → own_address_of (name ∷ address_text_of a len ∷ []) ≡ Some (name, (a, len))
unfolding own_address_of
own_again name a len is small short = rw (is, prefix_again (record { bits = a; len = len }) small short) refl

create_again : (name : List ℕ) → IsName name → reading_of forms (codes "create" ∷ codes "interface" ∷ name ∷ []) ≡ Some (lines.Change (edits.CreateInterface name))
unfolding create_of keyword
create_again name is = at_create _ refl ∙ rw is refl

state_again : (name : List ℕ) (up : Bool) → IsName name → reading_of forms (codes "set" ∷ codes "interface" ∷ codes "state" ∷ name ∷ flag_text up ∷ []) ≡ Some (lines.Change (edits.SetState name up))
unfolding reading_of state_of keyword
state_again name up is = at_set _ refl ∙ rw (is, flag_again up) refl

add_address_again : (name : List ℕ) (a len : ℕ) → IsName name → a < 2 ^ 32 → len ≤ 32
    → reading_of forms (codes "set" ∷ codes "interface" ∷ codes "ip" ∷ codes "address" ∷ name ∷ address_text_of a len ∷ []) ≡ Some (lines.Change (edits.AddAddress name a len))
unfolding reading_of state_of address_words add_address_of keyword
add_address_again name a len is small short = at_set _ refl ∙ rw (own_again name a len is small short) refl

three_none : (name text : List ℕ) → own_address_of (codes "del" ∷ name ∷ text ∷ []) ≡ None
unfolding own_address_of
three_none name text = refl

del_address_again : (name : List ℕ) (a len : ℕ) → IsName name → a < 2 ^ 32 → len ≤ 32
    → reading_of forms (codes "set" ∷ codes "interface" ∷ codes "ip" ∷ codes "address" ∷ codes "del" ∷ name ∷ address_text_of a len ∷ []) ≡ Some (lines.Change (edits.DelAddress name a len))
unfolding reading_of state_of address_words add_address_of del_address_of keyword
del_address_again name a len is small short = at_set _ refl ∙ rw (three_none name (address_text_of a len), own_again name a len is small short) refl

set_neighbor_again : (name : List ℕ) (a mac : ℕ) → IsName name → a < 2 ^ 32 → mac < 2 ^ 48
    → reading_of forms (codes "set" ∷ codes "ip" ∷ codes "neighbor" ∷ name ∷ address_text a ∷ mac_text mac ∷ []) ≡ Some (lines.Change (edits.SetNeighbor name a mac))
unfolding reading_of state_of address_words add_address_of del_address_of neighbor_words set_neighbor_of keyword
set_neighbor_again name a mac is small fits = at_set _ refl ∙ rw (is, address_again a small, mac_again mac fits) refl

del_is_no_name : name_of (codes "del") ≡ None
unfolding name_of
del_is_no_name = refl

del_neighbor_again : (name : List ℕ) (a : ℕ) → IsName name → a < 2 ^ 32
    → reading_of forms (codes "set" ∷ codes "ip" ∷ codes "neighbor" ∷ codes "del" ∷ name ∷ address_text a ∷ []) ≡ Some (lines.Change (edits.DelNeighbor name a))
unfolding reading_of state_of address_words add_address_of del_address_of neighbor_words set_neighbor_of last_mac_of del_neighbor_of keyword
del_neighbor_again name a is small = at_set _ refl ∙ rw (del_is_no_name, is, address_again a small) refl

add_route_again : (api : Bool) (p : Prefix) (xs : List PathSpec) → IsPrefix p → 0 < length xs → AllByRecursion IsCanonicalPath xs
    → reading_of forms (source_words api (codes "ip" ∷ codes "route" ∷ codes "add" ∷ prefix_text p ∷ flat_map path_words xs)) ≡ Some (lines.Change (edits.AddRoute p api xs))
unfolding reading_of api_add_of keyword
add_route_again true p xs is some paths = at_api _ refl ∙ rw (add_again true p xs is some paths) refl
add_route_again false p xs is some paths = at_ip _ refl ∙ rw (add_again false p xs is some paths) refl

add_is_not_del : (api : Bool) (rest : Words) → add_route_of api (codes "ip" ∷ codes "route" ∷ codes "del" ∷ rest) ≡ None
unfolding add_route_of keyword
add_is_not_del api rest = refl

del_route_again : (api : Bool) (p : Prefix) (xs : List PathSpec) → IsPrefix p → AllByRecursion IsCanonicalPath xs
    → reading_of forms (source_words api (codes "ip" ∷ codes "route" ∷ codes "del" ∷ prefix_text p ∷ flat_map path_words xs)) ≡ Some (lines.Change (edits.DelRoute p api xs))
unfolding reading_of api_add_of api_del_of keyword
del_route_again true p xs is paths = at_api _ refl ∙ rw (add_is_not_del true _, del_again true p xs is paths) refl
del_route_again false p xs is paths = at_ip _ refl ∙ rw (add_is_not_del false _, del_again false p xs is paths) refl

-- the words of an edit are read as its change
reading_again : (e : Edit) → IsCanonical e → reading_of forms (edit_words e) ≡ Some (lines.Change e)
unfolding edit_words
reading_again (edits.CreateInterface name) is = create_again name is
reading_again (edits.SetState name up) is = state_again name up is
reading_again (edits.AddAddress name a len) is = add_address_again name a len is.0 is.1 is.2
reading_again (edits.DelAddress name a len) is = del_address_again name a len is.0 is.1 is.2
reading_again (edits.SetNeighbor name a mac) is = set_neighbor_again name a mac is.0 is.1 is.2
reading_again (edits.DelNeighbor name a) is = del_neighbor_again name a is.0 is.1
reading_again (edits.AddRoute p api xs) is = add_route_again api p xs is.0 is.1 is.2
reading_again (edits.DelRoute p api xs) is = del_route_again api p xs is.0 is.1

-- a word of the grammar itself
known : (w : List ℕ) → 0 < length w → list_all is_ink w ≡ true → IsInk w
known w some ink = record { some = some; ink = ink }

kind_inks : (k : SpecKind) → IsCanonicalKind k → Inks (kind_words k)
kind_inks kinds.Drop is = (known _ (omega arith) refl, tt)
kind_inks kinds.Local is = (known _ (omega arith) refl, tt)
kind_inks (kinds.Attached name) is = (name_ink name is, tt)
kind_inks (kinds.Hop a name) is = (address_ink a, (name_ink name is.1, tt))
kind_inks (kinds.Recursive a) is = (address_ink a, tt)

need_inks : (need : Need) → Inks (need_words need)
need_inks needs.Any = tt
need_inks needs.Host = (known _ (omega arith) refl, tt)
need_inks needs.Attached = (known _ (omega arith) refl, tt)

path_inks : (x : PathSpec) → IsCanonicalPath x → Inks (path_words x)
path_inks x is = (
  known _ (omega arith) refl,
  each-append IsInk (kind_words x.kind) (option_words x) (kind_inks x.kind is.kind)
      (known _ (omega arith) refl, (decimal_ink x.weight (omega (arith, is.weight)), (known _ (omega arith) refl, (decimal_ink x.preference (omega (arith, is.preference)), need_inks x.need)))),
)

paths_inks : (xs : List PathSpec) → AllByRecursion IsCanonicalPath xs → Inks (flat_map path_words xs)
paths_inks [] is = tt
paths_inks (x ∷ xs) is = each-append IsInk (path_words x) (flat_map path_words xs) (path_inks x is.0) (paths_inks xs is.1)

-- the line of these words says what they are read as
line_again : (w : List ℕ) (ws : Words) (line : Line) → IsInk w → Inks ws → is_idle (w ∷ ws) ≡ false → reading_of forms (w ∷ ws) ≡ Some line → line_of (joined (w ∷ ws)) ≡ Some line
unfolding line_of
line_again w ws line h hs busy read = rw (words_again w ws h hs, busy, joined_plain w ws h hs) read

flag_ink : (up : Bool) → IsInk (flag_text up)
flag_ink true = known (codes "up") (omega arith) refl
flag_ink false = known (codes "down") (omega arith) refl

-- each canonical line is read back to its edit
pub edit_again : (e : Edit) → IsCanonical e → line_of (edit_text e) ≡ Some (lines.Change e)
unfolding edit_words
edit_again (edits.CreateInterface name) is =
    line_again (codes "create") (codes "interface" ∷ name ∷ []) _ (known (codes "create") (omega arith) refl)
    (known (codes "interface") (omega arith) refl, (name_ink name is, tt)) refl (reading_again (edits.CreateInterface name) is)
edit_again (edits.SetState name up) is =
    line_again (codes "set") (codes "interface" ∷ codes "state" ∷ name ∷ flag_text up ∷ []) _ (known (codes "set") (omega arith) refl)
    (known (codes "interface") (omega arith) refl, (known (codes "state") (omega arith) refl, (name_ink name is, (flag_ink up, tt)))) refl (reading_again (edits.SetState name up) is)
edit_again (edits.AddAddress name a len) is =
    line_again (codes "set") (codes "interface" ∷ codes "ip" ∷ codes "address" ∷ name ∷ address_text_of a len ∷ []) _ (known (codes "set") (omega arith) refl)
    (known (codes "interface") (omega arith) refl, (known (codes "ip") (omega arith) refl, (known (codes "address") (omega arith) refl, (name_ink name is.0, (prefix_ink (record { bits = a; len = len }) is.2, tt)))))
    refl (reading_again (edits.AddAddress name a len) is)
edit_again (edits.DelAddress name a len) is =
    line_again (codes "set") (codes "interface" ∷ codes "ip" ∷ codes "address" ∷ codes "del" ∷ name ∷ address_text_of a len ∷ []) _ (known (codes "set") (omega arith) refl)
    (known (codes "interface") (omega arith) refl, (known (codes "ip") (omega arith) refl, (known (codes "address") (omega arith) refl, (known (codes "del") (omega arith) refl, (name_ink name is.0, (prefix_ink (record { bits = a; len = len }) is.2, tt))))))
    refl (reading_again (edits.DelAddress name a len) is)
edit_again (edits.SetNeighbor name a mac) is =
    line_again (codes "set") (codes "ip" ∷ codes "neighbor" ∷ name ∷ address_text a ∷ mac_text mac ∷ []) _ (known (codes "set") (omega arith) refl)
    (known (codes "ip") (omega arith) refl, (known (codes "neighbor") (omega arith) refl, (name_ink name is.0, (address_ink a, (mac_ink mac, tt))))) refl (reading_again (edits.SetNeighbor name a mac) is)
edit_again (edits.DelNeighbor name a) is =
    line_again (codes "set") (codes "ip" ∷ codes "neighbor" ∷ codes "del" ∷ name ∷ address_text a ∷ []) _ (known (codes "set") (omega arith) refl)
    (known (codes "ip") (omega arith) refl, (known (codes "neighbor") (omega arith) refl, (known (codes "del") (omega arith) refl, (name_ink name is.0, (address_ink a, tt))))) refl (reading_again (edits.DelNeighbor name a) is)
edit_again (edits.AddRoute p true xs) is =
    line_again (codes "api") (codes "ip" ∷ codes "route" ∷ codes "add" ∷ prefix_text p ∷ flat_map path_words xs) _ (known (codes "api") (omega arith) refl)
    (known (codes "ip") (omega arith) refl, (known (codes "route") (omega arith) refl, (known (codes "add") (omega arith) refl, (prefix_ink p is.0.short, paths_inks xs is.2)))) refl (reading_again (edits.AddRoute p true xs) is)
edit_again (edits.AddRoute p false xs) is =
    line_again (codes "ip") (codes "route" ∷ codes "add" ∷ prefix_text p ∷ flat_map path_words xs) _ (known (codes "ip") (omega arith) refl)
    (known (codes "route") (omega arith) refl, (known (codes "add") (omega arith) refl, (prefix_ink p is.0.short, paths_inks xs is.2))) refl (reading_again (edits.AddRoute p false xs) is)
edit_again (edits.DelRoute p true xs) is =
    line_again (codes "api") (codes "ip" ∷ codes "route" ∷ codes "del" ∷ prefix_text p ∷ flat_map path_words xs) _ (known (codes "api") (omega arith) refl)
    (known (codes "ip") (omega arith) refl, (known (codes "route") (omega arith) refl, (known (codes "del") (omega arith) refl, (prefix_ink p is.0.short, paths_inks xs is.1)))) refl (reading_again (edits.DelRoute p true xs) is)
edit_again (edits.DelRoute p false xs) is =
    line_again (codes "ip") (codes "route" ∷ codes "del" ∷ prefix_text p ∷ flat_map path_words xs) _ (known (codes "ip") (omega arith) refl)
    (known (codes "route") (omega arith) refl, (known (codes "del") (omega arith) refl, (prefix_ink p is.0.short, paths_inks xs is.1))) refl (reading_again (edits.DelRoute p false xs) is)
