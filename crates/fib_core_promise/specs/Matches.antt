-- The prefix table beside the versions: which prefixes it has, and what it answers.
use Rattle.std.specs.Prelude.{◌≡◌, ℕ, zero, suc, ◌*◌, ◌-◌, ◌/◌, ◌^◌, ◌<◌, ◌≤◌, true, List, Contains, Option, Some, None, if◌then◌else◌, [], ◌∷◌}
use Rattle.std.specs.List.{list_all}
use Rattle.fib_addr.specs.Prefixes.{Prefix, IsPrefix, contains, same_prefix}
use Rattle.fib_resolve.specs.Pairs.{entries, best}
use Rattle.fib_resolve.specs.declared.types.Tables.{Tables}
use Rattle.fib_core_steady.specs.Aims.{IsLasting, BestAlike}

-- an entry of some of these versions
abbrev pub IsSometime : List Tables → Prefix → Type 0
IsSometime J e = (S : Tables) × Contains J S × Contains (entries S) e

-- the table has prefixes of these versions alone, and all that each of them has
pub record FitsVersions (J : List Tables) (look : Prefix → Option ℕ) : Type 0 where
  pub some : (e : Prefix) (o : ℕ) → look e ≡ Some o → IsPrefix e × IsSometime J e
  pub all : (e : Prefix) → IsLasting J e → (o : ℕ) × (look e ≡ Some o)

-- e is the longest prefix of the table that contains the address, and o its object
pub record IsMatch (look : Prefix → Option ℕ) (a : ℕ) (e : Prefix) (o : ℕ) : Type 0 where
  pub there : look e ≡ Some o
  pub matches : contains e a ≡ true
  pub longest : (q : Prefix) (p : ℕ) → look q ≡ Some p → contains q a ≡ true → q.len ≤ e.len

-- the table with one prefix more, and with one less
abbrev pub added : (Prefix → Option ℕ) → Prefix → ℕ → Prefix → Option ℕ
added look e o p = if same_prefix p e then Some o else look p

abbrev pub removed : (Prefix → Option ℕ) → Prefix → Prefix → Option ℕ
removed look e p = if same_prefix p e then None else look p

-- where an address is promised to go: to the balance of the one entry that is best in all versions
abbrev pub Promised : List Tables → (Prefix → Option ℕ) → ℕ → ℕ → Type 0
Promised J look a o = (e : Prefix) × BestAlike J a e × (look e ≡ Some o)

-- the table by length and first bits
abbrev pub look_of : (Prefix → Option ℕ) → ℕ → ℕ → Option ℕ
look_of look l c = look (record { bits = c * 2 ^ (32 - l); len = l })

-- o is the object of the longest prefix that contains the block of the first n bits b
pub record IsLongestBlock (look : ℕ → ℕ → Option ℕ) (n b o : ℕ) : Type 0 where
  pub len : ℕ
  pub within : len ≤ n
  pub there : look len (b / 2 ^ (n - len)) ≡ Some o
  pub longest : (m : ℕ) → len < m → m ≤ n → look m (b / 2 ^ (n - m)) ≡ None

-- the prefix table's own search: the object of the longest prefix that contains the block of the first n bits b
abbrev pub or_else : Option ℕ → Option ℕ → Option ℕ
or_else None d = d
or_else (Some o) d = Some o

unfoldable pub best_block : (ℕ → ℕ → Option ℕ) → ℕ → ℕ → Option ℕ
best_block look zero b = look 0 b
best_block look (suc n) b = or_else (look (suc n) b) (best_block look n (b / 2))

-- the same as a function of the address
abbrev pub promised_by : List Tables → (Prefix → Option ℕ) → ℕ → Option ℕ
promised_by [] look a = None
promised_by (S ∷ J) look a = if list_all (λ T. same_prefix (best T a) (best S a)) J then look (best S a) else None
