-- How a board is filled for the fresh tables, store by store, and how a ply grows then and leaves again.
--
-- Objects 0 to 7 are the plies on the way to 0.0.0.0, objects 8 to 14 those on the way to 255.255.255.255, and objects 15
-- to 19 the balances of 0.0.0.0/0, 0.0.0.0/32, 224.0.0.0/4, 240.0.0.0/4 and 255.255.255.255/32. Each ply is filled before
-- it is linked below its own. Stores 0 to 253 are these. Stores 254 to 269 fill object 20, the next links it as the ply of
-- 16.0.0.0/4 below the root, and the last puts the balance back that stood there.
use Rattle.std.specs.Prelude.{ℕ, zero, suc, ◌+◌, ◌-◌, ◌*◌, ◌/◌, ◌%◌, ◌==◌, nat_lt, if◌then◌else◌, ◌&&◌, ◌||◌, not, Bool, true, false, List, [], ◌∷◌}
use Rattle.std.specs.Set.{is_member}
use Rattle.fib_addr.specs.Prefixes.{Prefix, masked, same_prefix}
use Rattle.fib_resolve.specs.Tables.{fresh}
use Rattle.fib_resolve.specs.Pairs.{entries}
use Rattle.fib_resolve.specs.Sizes.{plies}
use Rattle.fib_union.specs.Unions.{owner}
use Rattle.fib_core.specs.declared.word.Word.{Word}
use Rattle.fib_core.specs.declared.word.Word.TheVariants as words
use Rattle.fib_core.specs.Words.{tag_of, value_of}
use Rattle.fib_core.specs.StandsFor.{Thing, ply_of, balance_of, adjacency_of, thing_word}
use Rattle.trial_filling.specs.inner.Filled.{Forest}

abbrev pub is_ply : ℕ → Bool
is_ply o = nat_lt o 15 || (o == 20)

abbrev pub depth_of : ℕ → ℕ
depth_of o = if o == 20 then 1 else if nat_lt o 8 then o else o - 7

abbrev pub forest : Forest
forest = record { objects = 64; is_ply = is_ply; depth = depth_of }

-- where a ply is linked, and the balance of its other cells
abbrev pub link_cell : ℕ → ℕ
link_cell o = if o == 1 then 0 else if o == 8 then 15 else if nat_lt o 8 then 16 * (o - 1) else 16 * (o - 1) + 15

abbrev pub rest_of : ℕ → ℕ
rest_of o = if nat_lt o 8 then 15 else 18

-- the last stores of the filling, and those of the ply that grows
abbrev pub last_cell : ℕ → ℕ
last_cell r = if r == 0 then 112 else if r == 1 then 239 else r - 1

abbrev pub last_word : ℕ → Word
last_word r = words.ToBalance (if r == 0 then 16 else if r == 1 then 19 else if r == 15 then 17 else 15)

abbrev pub grown_cell : ℕ → ℕ
grown_cell r = if nat_lt r 16 then 320 + r else 1

abbrev pub grown_word : ℕ → Word
grown_word r = if r == 16 then words.ToPly 20 else words.ToBalance 15

-- the i-th store, from 0 to 271
abbrev pub cell_at : ℕ → ℕ
cell_at i =
    if nat_lt i 238 then (if nat_lt (i % 17) 16 then 16 * (i / 17 + 1) + i % 17 else link_cell (i / 17 + 1))
    else if nat_lt i 254 then last_cell (i - 238)
    else grown_cell (i - 254)

abbrev pub word_of_store : ℕ → Word
word_of_store i =
    if nat_lt i 238 then (if nat_lt (i % 17) 16 then words.ToBalance (rest_of (i / 17 + 1)) else words.ToPly (i / 17 + 1))
    else if nat_lt i 254 then last_word (i - 238)
    else grown_word (i - 254)

-- what a cell says after so many stores
unfoldable pub after_stores : ℕ → ℕ → Word
after_stores zero k = words.Drop
after_stores (suc i) k = if k == cell_at i then word_of_store i else after_stores i k

-- each store fits, is one of another word, and unlinks no ply but a leaf; a ply is linked when it is filled, below a linked ply
abbrev pub same_word : Word → Word → Bool
same_word v w = (tag_of v == tag_of w) && (value_of v == value_of w)

abbrev pub fits_by : ℕ → Word → Bool
fits_by x w =
    if tag_of w == 3
    then is_ply x && (is_ply (value_of w) && (nat_lt (value_of w) 64 && (depth_of (value_of w) == suc (depth_of x))))
    else if tag_of w == 4 then is_ply x && (not (is_ply (value_of w)) && nat_lt (value_of w) 64) else false

abbrev pub all_below : ℕ → (ℕ → Bool) → Bool
all_below zero p = true
all_below (suc n) p = p n && all_below n p

abbrev pub is_ply_word : Word → Bool
is_ply_word w = (tag_of w == 3) || (tag_of w == 4)

-- none of the object's cells leads to a ply
abbrev pub is_leaf : ℕ → ℕ → Bool
is_leaf i o = all_below 16 (λ s. not (tag_of (after_stores i (16 * o + s)) == 3))

abbrev pub is_good : ℕ → Bool
is_good i =
    nat_lt (cell_at i) 1024
    && (fits_by (owner (cell_at i)) (word_of_store i)
    && (not (same_word (after_stores i (cell_at i)) (word_of_store i))
    && ((if tag_of (after_stores i (cell_at i)) == 3 then is_leaf i (value_of (after_stores i (cell_at i))) else true)
    && (if tag_of (word_of_store i) == 3
    then all_below 16 (λ s. is_ply_word (after_stores i (16 * value_of (word_of_store i) + s)))
    && ((owner (cell_at i) == 0)
    || (nat_lt (link_cell (owner (cell_at i))) 1024
    && same_word (after_stores i (link_cell (owner (cell_at i)))) (words.ToPly (owner (cell_at i)))))
    else true))))

-- the tables' objects have their numbers
abbrev pub all_in : {A : Type 0} → (A → Bool) → List A → Bool
all_in p [] = true
all_in p (x ∷ xs) = p x && all_in p xs

-- the numbers of plies and balances
abbrev pub number_of : Thing → ℕ
number_of (ply_of p) = if p.bits == 0 then p.len / 4 else 7 + p.len / 4
number_of (balance_of e) =
    if e.len == 0 then 15 else if e.bits == 0 then 16 else if e.bits == 3758096384 then 17 else if e.len == 4 then 18 else 19
number_of (adjacency_of x) = 0

abbrev pub ply_at : ℕ → Prefix
ply_at n = if nat_lt n 8 then masked 0 (4 * n) else masked 4294967295 (4 * (n - 7))

abbrev pub entry_at : ℕ → Prefix
entry_at n =
    if n == 15 then record { bits = 0; len = 0 } else
    if n == 16 then record { bits = 0; len = 32 } else
    if n == 17 then record { bits = 3758096384; len = 4 } else
    if n == 18 then record { bits = 4026531840; len = 4 } else
    record { bits = 4294967295; len = 32 }

abbrev pub holds_all : Thing → Bool
holds_all x = all_below 16 (λ s. same_word (after_stores 254 (16 * number_of x + s)) (thing_word number_of fresh x s))

abbrev pub ply_stands : Prefix → Bool
ply_stands p = nat_lt (number_of (ply_of p)) 15 && (same_prefix (ply_at (number_of (ply_of p))) p && holds_all (ply_of p))

abbrev pub entry_stands : Prefix → Bool
entry_stands e =
    nat_lt 14 (number_of (balance_of e))
    && (nat_lt (number_of (balance_of e)) 20
    && (same_prefix (entry_at (number_of (balance_of e))) e && holds_all (balance_of e)))

-- each number is that of an object, or its cells drop
abbrev pub number_stands : ℕ → Bool
number_stands o =
    if nat_lt o 15 then is_member same_prefix (plies fresh) (ply_at o) && (number_of (ply_of (ply_at o)) == o)
    else if nat_lt o 20 then is_member same_prefix (entries fresh) (entry_at o) && (number_of (balance_of (entry_at o)) == o)
    else all_below 16 (λ s. tag_of (after_stores 254 (16 * o + s)) == 0)
