-- The table in the middle of a change.
use Rattle.std.specs.Prelude.{◌≡◌, ℕ, zero, suc, ◌+◌, ◌*◌, ◌-◌, ◌/◌, ◌%◌, ◌^◌, ◌<◌, ◌≤◌, ◌⊎◌, Bool, true, false, cond, List, [], ◌∷◌}
use Rattle.std.specs.Prelude.{length, Some, None, ◌==◌, ◌&&◌, ◌||◌, not, nat_lt, if◌then◌else◌}
use Rattle.fib_core.specs.declared.word.Word.{Word}
use Rattle.fib_core.specs.declared.word.Word.TheVariants.{Drop, ToPly, ToBalance, Plain, Receive, Glean, ToAdjacency}
use Rattle.fib_reach.specs.Walks.{Leads}
use Rattle.fib_core_steady.specs.Names.{IsBelow}
use Rattle.fib_plane_view.specs.Promise.{Promise}
use Rattle.fib_plane_view.specs.View.{View, Goes, Edge, leads}
use Rattle.fib_ply.specs.Prefixes.{Look, IsAnswer, Needs}
use Rattle.fib_ply.specs.inner.View.{IsSent}
use Rattle.fib_ply.specs.Served.{Paths, IsServed, Watch, Wanted}
use Rattle.fib_ply.specs.Plies.{IsAt, IsMine, IsTable}

-- one ply more
abbrev pub plus : (ℕ → ℕ → Bool) → ℕ → ℕ → ℕ → ℕ → Bool
plus there d w e v = (e == d && v == w) || there e v

-- plies send promised addresses right before a store and after it, for the same names
abbrev pub MaySend : Watch → View → ℕ → ℕ → Word → Type 0
MaySend wants u x s w = (n : Paths) × IsServed (Wanted wants) n u × ((v : View) → IsSent u v x s w → IsServed (Wanted wants) n v)

-- an edge closes no cycle
abbrev pub IsCalm : View → ℕ → Word → Type 0
IsCalm u x (ToPly c) = Leads (Edge u) c x → ⊥
IsCalm u x (ToBalance o) = Leads (Edge u) o x → ⊥
IsCalm u x Drop = Unit {0}
IsCalm u x (Plain v) = Unit {0}
IsCalm u x Receive = Unit {0}
IsCalm u x (Glean v) = Unit {0}
IsCalm u x (ToAdjacency v) = Leads (Edge u) v x → ⊥

-- how many cells of these plies pass a test
unfoldable pub slots : (ℕ → Bool) → ℕ → ℕ
slots test zero = 0
slots test (suc k) = cond (test k) 1 0 + slots test k

abbrev pub count_cells : (ℕ → ℕ → Bool) → List ℕ → ℕ
count_cells test [] = 0
count_cells test (x ∷ xs) = slots (test x) 16 + count_cells test xs

abbrev pub is_to_ply : Word → Bool
is_to_ply (ToPly c) = true
is_to_ply (ToBalance o) = false
is_to_ply Drop = false
is_to_ply Receive = false
is_to_ply (Glean i) = false
is_to_ply (ToAdjacency o) = false
is_to_ply (Plain v) = false

-- the first address after those of a cell
abbrev pub end_of : Paths → ℕ → ℕ → ℕ
end_of n x s = (16 * n.value x + s + 1) * 2 ^ (28 - 4 * n.depth x)

-- the cells that lead to plies, and those that lead to balances and end past pos
abbrev pub links : Paths → View → ℕ
links n u = count_cells (λ x s. is_to_ply (u.cell x s)) n.all

abbrev pub ahead : Paths → View → ℕ → ℕ
ahead n u pos = count_cells (λ x s. not (is_to_ply (u.cell x s)) && nat_lt pos (end_of n x s)) n.all

-- a change went on from pos to pos': each store is paid by a cell that is past
pub record IsSpent (n : Paths) (u v : View) (pos pos' : ℕ) : Type 0 where
  pub spare : u.spare + ahead n v pos' ≤ v.spare + ahead n u pos
  pub stored : v.stored + 16 * u.free + ahead n v pos' ≤ u.stored + 16 * v.free + ahead n u pos
  pub more : u.stored ≤ v.stored
  pub same : links n v ≤ links n u
  pub mine : IsMine n u → IsMine n v

-- a ply that the control plane holds, to which nothing leads, and from which nothing leads to a ply
pub record IsFresh (n : Paths) (u : View) (c : ℕ) : Type 0 where
  pub other : c ≡ 0 → ⊥
  pub out : n.is_in c ≡ false
  pub above : (x s : ℕ) (w : Word) → leads w c → Goes u x s w → ⊥
  pub below : (s y : ℕ) → Goes u c s (ToPly y) → ⊥
  pub kind : (u.is_ply c ≡ true) × (u.is_held c ≡ true)

-- the cells of the table's plies are the same
abbrev pub SameIn : Paths → View → View → Type 0
SameIn n u v = (y t : ℕ) → n.is_in y ≡ true → v.cell y t ≡ u.cell y t

-- a new ply may be filled
abbrev pub CanFill : Promise → View → ℕ → ℕ → Type 0
CanFill p u c o =
    (wants : Watch) × (there : ℕ → ℕ → Bool) × (old : Look) × (new : Look) × (pos : ℕ) × (n : Paths)
    × IsAt wants there old new pos n u × IsFresh n u c × (wants.promise ≡ p) × (p.applied ≡ 0 → (t : ℕ) → t < 16 → u.cell o t ≡ Drop)

-- beside the table nothing changes but the new ply
abbrev pub Aside : View → View → ℕ → ℕ → Type 0
Aside u v c o =
    (wants : Watch) (there : ℕ → ℕ → Bool) (old new : Look) (pos : ℕ) (n : Paths)
    → IsAt wants there old new pos n u → IsFresh n u c → (wants.promise.applied ≡ 0 → (t : ℕ) → t < 16 → u.cell o t ≡ Drop)
    → IsAt wants there old new pos n v × IsFresh n v c × SameIn n u v

-- the ply on the path of an address
abbrev pub IsOnPath : Paths → ℕ → ℕ → ℕ → Type 0
IsOnPath n a ply depth = (n.is_in ply ≡ true) × (n.depth ply ≡ depth) × IsBelow a depth (n.value ply)

-- a cell of the table leads to the ply, or it is the root
abbrev pub IsLed : Paths → View → ℕ → Type 0
IsLed n u x = (x ≡ 0) ⊎ ((y : ℕ) × (t : ℕ) × (n.is_in y ≡ true) × (u.cell y t ≡ ToPly x))

-- the cell of an address
pub record IsCellOf (n : Paths) (u : View) (a ply depth slot : ℕ) : Type 0 where
  pub path : IsOnPath n a ply depth
  pub below : IsBelow a (depth + 1) (16 * n.value ply + slot)
  pub leaf : (o : ℕ) × (u.cell ply slot ≡ ToBalance o)
  pub few : (slot < 16) × (depth ≤ 7)
  pub led : IsLed n u ply

-- the plies on the path of an address down to a depth are there
pub record IsGrown (there after : ℕ → ℕ → Bool) (a goal depth : ℕ) : Type 0 where
  pub more : (e w : ℕ) → there e w ≡ true → after e w ≡ true
  pub only : (e w : ℕ) → after e w ≡ true → (there e w ≡ true) ⊎ ((1 ≤ e) × (e ≤ goal) × IsBelow a e w)
  pub down : (e : ℕ) → e + 1 ≤ depth → after (e + 1) (a / 2 ^ (32 - 4 * (e + 1))) ≡ true

-- so many plies came: each link is paid by a cell that leads to a ply now
pub record IsPaid (n m : Paths) (u v : View) (count : ℕ) : Type 0 where
  pub plies : length m.all ≡ length n.all + count
  pub spare : u.spare + links n u ≤ v.spare + links m v
  pub stored : v.stored + 16 * u.free ≤ 33 * count + u.stored + 16 * v.free
  pub more : u.stored ≤ v.stored
  pub mine : IsMine n u → IsMine m v

-- what growing does
abbrev pub Grows : View → View → ℕ → ℕ → ℕ → Type 0
Grows u v a depth count =
    (wants : Watch) (there : ℕ → ℕ → Bool) (old new : Look) (pos : ℕ) (n : Paths) → IsAt wants there old new pos n u
    → (after : ℕ → ℕ → Bool) × (m : Paths) × IsAt wants after old new pos m v × IsGrown there after a depth depth × IsPaid n m u v count

abbrev pub GrowsTo : View → View → ℕ → ℕ → ℕ → ℕ → ℕ → ℕ → Type 0
GrowsTo u v a goal ply depth slot count =
    (wants : Watch) (there : ℕ → ℕ → Bool) (old new : Look) (pos : ℕ) (n : Paths) → IsAt wants there old new pos n u
    → (after : ℕ → ℕ → Bool) × (m : Paths) × IsAt wants after old new pos m v × IsCellOf m v a ply depth slot
    × IsGrown there after a goal depth × IsPaid n m u v count

-- as many plies came as this: one for each depth on the path of the address, down to that one, where none was
abbrev pub WereBare : View → ℕ → ℕ → ℕ → Type 0
WereBare u a depth count =
    (wants : Watch) (there : ℕ → ℕ → Bool) (old new : Look) (pos : ℕ) (n : Paths) → IsAt wants there old new pos n u
    → (d : ℕ) → depth < d + count → d ≤ depth → there d (a / 2 ^ (32 - 4 * d)) ≡ true → ⊥

-- a change is under way
abbrev pub IsUnderWay : Promise → View → Type 0
IsUnderWay p u = (wants : Watch) × (there : ℕ → ℕ → Bool) × (old : Look) × (new : Look) × (pos : ℕ) × (n : Paths)
    × IsAt wants there old new pos n u × (wants.promise ≡ p)

abbrev pub IsUnderWayAt : Promise → View → ℕ → ℕ → ℕ → ℕ → Type 0
IsUnderWayAt p u a ply depth slot = (wants : Watch) × (there : ℕ → ℕ → Bool) × (old : Look) × (new : Look) × (pos : ℕ) × (n : Paths)
    × IsAt wants there old new pos n u × IsCellOf n u a ply depth slot × (wants.promise ≡ p)

-- the set with one prefix more, and with one less
abbrev pub added : Look → ℕ → ℕ → ℕ → Look
added look len top o = λ l c. if l == len && c == top then Some o else look l c

abbrev pub removed : Look → ℕ → ℕ → Look
removed look len top = λ l c. if l == len && c == top then None else look l c

-- the answers that workers are promised are those of both sets
abbrev pub IsPromised : Watch → Look → Look → Type 0
IsPromised wants old new = (a p : ℕ) → a < 2 ^ 32 → Wanted wants a p → IsAnswer old a p × IsAnswer new a p

-- two sets differ at one prefix at most
abbrev pub Agree : Look → Look → ℕ → ℕ → Type 0
Agree old new len top = (l c : ℕ) → (l ≡ len → c ≡ top → ⊥) → new l c ≡ old l c

-- one ply less
abbrev pub minus : (ℕ → ℕ → Bool) → ℕ → ℕ → ℕ → ℕ → Bool
minus there d w e v = not (e == d && v == w) && there e v

-- the plies are those that the set needs, and perhaps some on the path of an address
pub record IsPruned (wants : Watch) (look : Look) (a : ℕ) (there : ℕ → ℕ → Bool) (n : Paths) (u : View) : Type 0 where
  pub at : IsAt wants there look look 0 n u
  pub extra : (e w : ℕ) → there (e + 1) w ≡ true → Needs look (e + 1) w ⊎ ((e + 1 ≤ 7) × IsBelow a (e + 1) w)

-- the deepest ply on the path of an address, and the ply above it
pub record IsLastOf (n : Paths) (u : View) (a x c d s : ℕ) : Type 0 where
  pub cell : IsCellOf n u a c (d + 1) s
  pub above : IsOnPath n a x d
  pub edge : u.cell x (a / 2 ^ (28 - 4 * d) % 16) ≡ ToPly c

-- where the way of an address ends, and from where it came there
pub record IsEnd (n : Paths) (u : View) (a x c d s : ℕ) : Type 0 where
  pub cell : IsCellOf n u a c d s
  pub last : (e : ℕ) → d ≡ e + 1 → IsOnPath n a x e × (u.cell x (a / 2 ^ (28 - 4 * e) % 16) ≡ ToPly c)

abbrev pub CanPrune : Promise → Look → ℕ → View → Type 0
CanPrune p look a u =
    (wants : Watch) × (there : ℕ → ℕ → Bool) × (n : Paths) × IsPruned wants look a there n u × (wants.promise ≡ p) × (links n u ≤ u.spare)

abbrev pub CanPruneAt : Promise → Look → ℕ → View → ℕ → ℕ → ℕ → ℕ → Type 0
CanPruneAt p look a u x c d s =
    (wants : Watch) × (there : ℕ → ℕ → Bool) × (n : Paths) × IsPruned wants look a there n u × IsEnd n u a x c d s
    × (wants.promise ≡ p) × (links n u ≤ u.spare)

-- so many plies left: each store is paid by a cell that led to a ply before
pub record IsFreed (n m : Paths) (u v : View) (count : ℕ) : Type 0 where
  pub plies : length m.all + count ≡ length n.all
  pub fewer : links m v + count ≤ links n u
  pub spare : u.spare ≤ v.spare + count
  pub stored : v.stored + 16 * u.free ≤ count + u.stored + 16 * v.free
  pub more : u.stored ≤ v.stored
  pub mine : IsMine n u → IsMine m v

-- what unlinking a ply does
abbrev pub UnlinksTo : Look → ℕ → View → View → (ℕ × ℕ × ℕ × ℕ) → (ℕ × ℕ × ℕ × ℕ) → Type 0
UnlinksTo look a u v l r =
    (wants : Watch) (there : ℕ → ℕ → Bool) (n : Paths) → IsPruned wants look a there n u → IsEnd n u a l.0 l.1 l.2 l.3
    → (after : ℕ → ℕ → Bool) × (m : Paths) × IsPruned wants look a after m v × IsEnd m v a r.0 r.1 r.2 r.3 × IsFreed n m u v 1

-- what pruning does
abbrev pub PrunesTo : Look → ℕ → View → View → ℕ → ℕ → ℕ → ℕ → ℕ → Type 0
PrunesTo look a u v x c d s count =
    (wants : Watch) (there : ℕ → ℕ → Bool) (n : Paths) → IsPruned wants look a there n u
    → (after : ℕ → ℕ → Bool) × (m : Paths) × IsPruned wants look a after m v × IsEnd m v a x c d s × IsFreed n m u v count

abbrev pub Prunes : Look → ℕ → View → View → ℕ → Type 0
Prunes look a u v count =
    (wants : Watch) (there : ℕ → ℕ → Bool) (n : Paths) → IsPruned wants look a there n u
    → (after : ℕ → ℕ → Bool) × (m : Paths) × IsTable wants look after m v × IsFreed n m u v count

-- a prefix may be added: the table stands for its set, both sets answer what is promised, and there is room for the stores
abbrev pub CanAdd : Promise → Look → View → ℕ → ℕ → ℕ → Type 0
CanAdd p look u len top o =
    (wants : Watch) × (there : ℕ → ℕ → Bool) × (n : Paths) × IsTable wants look there n u × (wants.promise ≡ p)
    × (16 * (length n.all + 7) ≤ u.spare) × IsPromised wants look (added look len top o)

-- and removed
abbrev pub CanRemove : Promise → Look → View → ℕ → ℕ → Type 0
CanRemove p look u len top =
    (wants : Watch) × (there : ℕ → ℕ → Bool) × (n : Paths) × IsTable wants look there n u × (wants.promise ≡ p)
    × (16 * length n.all ≤ u.spare) × IsPromised wants look (removed look len top)

-- the cells that were stored
pub record IsStoredFew (n : Paths) (u v : View) : Type 0 where
  pub more : u.stored ≤ v.stored
  pub few : v.stored + 16 * u.free ≤ 16 * length n.all + 400 + u.stored + 16 * v.free

-- the table stands for the other set afterwards, with so many plies more
abbrev pub IsAdded : Promise → Look → Look → View → View → ℕ → Type 0
IsAdded p old new u v count =
    (wants : Watch) (there : ℕ → ℕ → Bool) (n : Paths) → IsTable wants old there n u → wants.promise ≡ p → IsPromised wants old new
    → (after : ℕ → ℕ → Bool) × (m : Paths) × IsTable wants new after m v × (length m.all ≡ length n.all + count) × IsStoredFew n u v
    × (IsMine n u → IsMine m v)

-- and with so many less
abbrev pub IsRemoved : Promise → Look → Look → View → View → ℕ → Type 0
IsRemoved p old new u v count =
    (wants : Watch) (there : ℕ → ℕ → Bool) (n : Paths) → IsTable wants old there n u → wants.promise ≡ p → IsPromised wants old new
    → (after : ℕ → ℕ → Bool) × (m : Paths) × IsTable wants new after m v × (length m.all + count ≡ length n.all) × IsStoredFew n u v
    × (IsMine n u → IsMine m v)
