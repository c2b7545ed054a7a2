-- What a plan's steps make of rows, of the set of their prefixes, and of the lists that they name.
use Rattle.std.specs.Prelude.{◌≡◌, ◌↔◌, ◌⊎◌, ◌+◌, ◌<◌, ℕ, Bool, List, []}
use Rattle.std.specs.Prelude.{◌∷◌, Contains, IsSome, Option, Some, None, count_by, flat_map, map, if◌then◌else◌}
use Rattle.std.specs.List.{AllZip}
use Rattle.std.specs.Cmp.Lexicographic.{pointwise}
use Rattle.fib_reach.specs.Walks.{AllDiffer}
use Rattle.fib_addr.specs.Prefixes.{Prefix, same_prefix}
use Rattle.fib_cover.specs.Covers.{IsAscending}
use Rattle.fib_resolve.specs.Keys.{same_path}
use Rattle.fib_resolve.specs.declared.types.FibSource.{FibSource}
use Rattle.fib_resolve.specs.declared.types.Path.{Path}
use Rattle.fib_base_interned.specs.Interned.{kept_of}
use Rattle.fib_entries_rows.specs.Known.{PathKept, content_of, prefix_of, row_of}
use Rattle.fib_entries_rows.specs.Rows.{Row}
use Rattle.fib_entries_rows.specs.inner.Coming.{with_pairs}
use Rattle.fib_entries_rows.specs.inner.Fields.{AreCounted}
use Rattle.fib_entries_rows.specs.inner.Leaf.{pushed}
use Rattle.fib_entries_rows.specs.inner.Used.{has_content}
use Rattle.fib_follow_write.specs.declared.plan.Edge.{Edge}
use Rattle.fib_follow_write.specs.declared.plan.Listed.{Listed}
use Rattle.fib_follow_write.specs.declared.plan.Marks.{Marks}
use Rattle.fib_follow_write.specs.declared.plan.Paired.{Paired}
use Rattle.fib_follow_write.specs.declared.plan.Sourced.{Sourced}

-- the row of a prefix of which nothing else is known yet
abbrev pub blank : Prefix → Row
blank p = record { prefix = p; pairs = []; looped = []; met = []; marked = []; dependants = []; rank = 0 }

-- one change of a row after the other
abbrev pub changed : {X : Type 0} → (X → Row → Row) → List X → Row → Row
changed f [] r = r
changed f (x ∷ xs) r = changed f xs (f x r)

-- the change of that prefix's row; any other stays
abbrev pub upon : Prefix → (Row → Row) → Row → Row
upon p f r = if same_prefix p r.prefix then f r else r

-- the entry that leads there is the last dependant of that to which it leads
abbrev pub led : Edge → Row → Row
led e r = upon e.to (pushed e.from) r

-- each edge once, and none of them is there yet
pub record AreNew (rows : List Row) (edges : List Edge) : Type 0 where
  pub once : AllDiffer edges
  pub absent : (e : Edge) (r : Row) → Contains edges e → Contains rows r → e.to ≡ r.prefix → Contains r.dependants e.from → ⊥

abbrev pub leads : List Edge → Prefix → Prefix → Type 0
leads edges p q = Contains edges (record { from = p; to = q })

-- the same row without the dependants whose edges went
pub record IsUnled (edges : List Edge) (r s : Row) : Type 0 where
  pub prefix : s.prefix ≡ r.prefix
  pub pairs : s.pairs ≡ r.pairs
  pub looped : s.looped ≡ r.looped
  pub met : s.met ≡ r.met
  pub marked : s.marked ≡ r.marked
  pub rank : s.rank ≡ r.rank
  pub dependants : (d : Prefix) → Contains s.dependants d ↔ Contains r.dependants d × (leads edges d r.prefix → ⊥)
  pub once : AllDiffer r.dependants → AllDiffer s.dependants

-- row by row
abbrev pub AreUnled : List Edge → List Row → List Row → Type 0
AreUnled edges old new = AllZip (IsUnled edges) old new

-- the row with other marks and another rank
abbrev pub with_marks : Marks → Row → Row
with_marks m r =
    record {
      prefix = r.prefix;
      pairs = r.pairs;
      looped = m.looped;
      met = m.met;
      marked = m.marked;
      dependants = r.dependants;
      rank = m.rank;
    }

abbrev pub marked : Marks → Row → Row
marked m r = upon m.prefix (with_marks m) r

abbrev pub sourced : Sourced → Row → Row
sourced s r = upon s.prefix (with_pairs s.pairs) r

-- a blank row came for each of the prefixes
pub record HaveCome (prefixes : List Prefix) (old new : List Row) : Type 0 where
  pub ordered : IsAscending (map prefix_of new)
  pub rows : (r : Row) → Contains new r ↔ Contains old r ⊎ (Contains prefixes r.prefix × (r ≡ blank r.prefix))

-- the rows of the prefixes went
pub record HaveGone (prefixes : List Prefix) (old new : List Row) : Type 0 where
  pub ordered : IsAscending (map prefix_of new)
  pub rows : (r : Row) → Contains new r ↔ Contains old r × (Contains prefixes r.prefix → ⊥)

-- the prefixes came to the set
pub record HaveJoined (prefixes old new : List Prefix) : Type 0 where
  pub ordered : IsAscending new
  pub members : (q : Prefix) → Contains new q ↔ Contains old q ⊎ Contains prefixes q

-- they went from it
pub record HaveLeft (prefixes old new : List Prefix) : Type 0 where
  pub ordered : IsAscending new
  pub members : (q : Prefix) → Contains new q ↔ Contains old q × (Contains prefixes q → ⊥)

-- all lists that entries get
abbrev pub lists_of : List Paired → List Listed
lists_of paired = flat_map (λ b. b.pairs) paired

-- it is the list with these paths
abbrev pub is_list : List Path → Listed → Bool
is_list paths l = pointwise same_path l.paths paths

-- each of the lists is kept
abbrev pub AreFound : List PathKept → List Listed → Type 0
AreFound lists ls = (l : Listed) → Contains ls l → (id : ℕ) × (content_of lists id ≡ Some l.paths)

-- the source with the number of its list
abbrev pub IsNumbered : List PathKept → Listed → FibSource × ℕ → Type 0
IsNumbered lists l q = (q.0 ≡ l.source) × (content_of lists q.1 ≡ Some l.paths)

-- the entry with the numbers of its lists
abbrev pub IsSourced : List PathKept → Paired → Sourced → Type 0
IsSourced lists b s = (s.prefix ≡ b.prefix) × AllZip (IsNumbered lists) b.pairs s.pairs

-- where the users of each list were as many as f says, there are as many more as it was taken, and each number names the list that it named
pub record TakesLists (taken : List Listed) (f : List Path → ℕ) (old new : List PathKept) : Type 0 where
  pub counted : AreCounted old f → AreCounted new (λ paths. f paths + count_by (is_list paths) taken)
  pub stays : AreCounted old f → (id : ℕ) (paths : List Path) → content_of old id ≡ Some paths → content_of new id ≡ Some paths

-- each of the pairs names a list that is kept
abbrev pub AreKept : List PathKept → List (FibSource × ℕ) → Type 0
AreKept lists pairs = (q : FibSource × ℕ) → Contains pairs q → IsSome (kept_of lists q.1)

-- each list has the users that g says, and these pairs
abbrev pub IsSpent : (List Path → ℕ) → List PathKept → List (FibSource × ℕ) → Type 0
IsSpent g lists pairs = AreCounted lists (λ paths. g paths + count_by (has_content lists paths) pairs)

-- each list has the users that g says; one that has some has the number that it had
pub record GivesPairs (g : List Path → ℕ) (old new : List PathKept) : Type 0 where
  pub counted : AreCounted new g
  pub stays : (id : ℕ) (paths : List Path) → 0 < g paths → content_of old id ≡ Some paths → content_of new id ≡ Some paths

abbrev pub pairs_in : Option Row → List (FibSource × ℕ)
pairs_in None = []
pairs_in (Some r) = r.pairs

-- the pairs of the prefix's row
abbrev pub pairs_at : List Row → Prefix → List (FibSource × ℕ)
pairs_at rows p = pairs_in (row_of rows p)

abbrev pub paired_prefix : Paired → Prefix
paired_prefix b = b.prefix
