-- What the steps of a plan make together.
use Rattle.std.proofs.Common.{arith, ◌≡◌, ◌≢◌, ℕ, ◌+◌, ◌<◌, List, [], ◌∷◌, ◌++◌, append-nil, map, Option, Some, None, ◌⊎◌, inl, inr, refl, sym, ◌∙◌, ap, ap₂}
use Rattle.std.proofs.Common.{subst, ◌↔◌, if◌then◌else◌}
use Rattle.std.specs.Prelude.{Contains, IsSome, count_by, flat_map}
use Rattle.std.specs.List.{AllZip, remove}
use Rattle.fib_reach.specs.Walks.{AllDiffer}
use Rattle.fib_base_list.proofs.Booleans.{unit_of, count_by-cons}
use Rattle.fib_base_list.proofs.Lists.{either, Contains-nil, Contains-flat_map}
use Rattle.fib_addr.specs.Prefixes.{Prefix, same_prefix}
use Rattle.fib_cover.specs.Covers.{IsAscending}
use Rattle.fib_resolve.specs.declared.types.FibSource.{FibSource}
use Rattle.fib_resolve.specs.declared.types.Path.{Path}
use Rattle.fib_resolve_changes.proofs.Edits.{in_cases, in_front, in_rest}
use Rattle.fib_resolve_changes.proofs.SamePairs.{flat_map_from, map_from, map_in}
use Rattle.fib_base_interned.specs.Interned.{kept_of}
use Rattle.fib_entries_rows.specs.Known.{PathKept, content_of, prefix_of, row_of}
use Rattle.fib_entries_rows.specs.Rows.{Row}
use Rattle.fib_entries_rows.specs.inner.Compare.{is_content}
use Rattle.fib_entries_rows.specs.inner.Leaf.{pushed}
use Rattle.fib_entries_rows.specs.inner.Coming.{with_pairs}
use Rattle.fib_entries_rows.specs.inner.Used.{AreUsed, has_content, named_count, pairs_of}
use Rattle.fib_entries_rows.proofs.Linking.{zip_from}
use Rattle.fib_entries_rows.proofs.Named.{count_append}
use Rattle.fib_entries_rows.proofs.Naming.{some_content}
use Rattle.fib_entries_rows.proofs.Placing.{each_in, same_order, some_list}
use Rattle.fib_entries_rows.proofs.PlyOrder.{index_of}
use Rattle.fib_entries_rows.proofs.Standing.{row_there}
use Rattle.fib_entries_rows.proofs.Taking.{list_self}
use Rattle.fib_entries_rows.proofs.Using.{recounted}
use Rattle.fib_follow_write.specs.Plans.{IsBase, IsPlan, IsWritten, renewed}
use Rattle.fib_follow_write.specs.Steps.{AreTaken}
use Rattle.fib_follow_write.specs.Written.{AreKept, AreUnled, GivesPairs, HaveCome, HaveGone, HaveJoined, HaveLeft, IsNumbered, IsSourced, IsSpent, IsUnled}
use Rattle.fib_follow_write.specs.Written.{blank, changed, is_list, led, lists_of, marked, paired_prefix, pairs_at, pairs_in, sourced, upon, with_marks}
use Rattle.fib_follow_write.specs.inner.Ready.{IsReady}
use Rattle.fib_follow_write.specs.inner.Spent.{IsLeft}
use Rattle.fib_follow_write.specs.inner.Stepped.{HasGone}
use Rattle.fib_follow_write.specs.declared.plan.Edge.{Edge}
use Rattle.fib_follow_write.specs.declared.plan.Listed.{Listed}
use Rattle.fib_follow_write.specs.declared.plan.Marks.{Marks}
use Rattle.fib_follow_write.specs.declared.plan.Paired.{Paired}
use Rattle.fib_follow_write.specs.declared.plan.Sourced.{Sourced}
use Rattle.fib_follow_write.specs.declared.writing.Plan.{Plan}
use Rattle.fib_follow_write.proofs.Coming.{rows_come, set_joined}
use Rattle.fib_follow_write.proofs.Going.{gone_ordered, unled_names}
use Rattle.fib_follow_write.proofs.Listing.{spent_end}
use Rattle.fib_follow_write.proofs.Chunks.{chunk_kept, chunk_more, chunk_spent, count_alike, count_some}
use Rattle.fib_follow_write.proofs.Tallying.{flat_alike, found_first, found_later, pairs_kept, row_changed_off, tally_come, tally_gone, tally_paired}
use Rattle.fib_follow_write.proofs.Upon.{mapped_names, mapped_ordered, upon_off, upon_own}

-- fields that changes keep

pub upon_field : {Y : Type 0} (p : Prefix) (f : Row → Row) (get : Row → Y) → ((r : Row) → get (f r) ≡ get r) → (r : Row) → get (upon p f r) ≡ get r
upon_field p f get same r = elim (either (same_prefix p r.prefix)) [
  | inl is ↦ ap (λ b. get (if b then f r else r)) is ∙ same r
  | inr isnt ↦ ap (λ b. get (if b then f r else r)) isnt
]

pub changed_field : {X Y : Type 0} (f : X → Row → Row) (get : Row → Y) → ((x : X) (r : Row) → get (f x r) ≡ get r) → (xs : List X) (r : Row)
    → get (changed f xs r) ≡ get r
changed_field f get same [] r = refl
changed_field f get same (x ∷ xs) r = changed_field f get same xs (f x r) ∙ same x r

pub led_field : {Y : Type 0} (get : Row → Y) → ((e : Edge) (r : Row) → get (pushed e.from r) ≡ get r) → (es : List Edge) (r : Row)
    → get (changed led es r) ≡ get r
led_field get same es r = changed_field led get (λ e q. upon_field e.to (pushed e.from) get (same e) q) es r

pub sourced_names : (ss : List Sourced) (r : Row) → (changed sourced ss r).prefix ≡ r.prefix
sourced_names ss r = changed_field sourced prefix_of (λ s q. upon_field s.prefix (with_pairs s.pairs) prefix_of (λ z. refl) q) ss r

pub marked_names : (ms : List Marks) (r : Row) → (changed marked ms r).prefix ≡ r.prefix
marked_names ms r = changed_field marked prefix_of (λ m q. upon_field m.prefix (with_marks m) prefix_of (λ z. refl) q) ms r

-- marks leave a row's pairs as they are
pub marked_pairs : (ms : List Marks) (r : Row) → (changed marked ms r).pairs ≡ r.pairs
marked_pairs ms r = changed_field marked pairs_of (λ m q. upon_field m.prefix (with_marks m) pairs_of (λ z. refl) q) ms r

-- a row's pairs are its own or those that it got
sourced_from : (ss : List Sourced) (r : Row) (q : FibSource × ℕ) → Contains (changed sourced ss r).pairs q
    → Contains r.pairs q ⊎ ((s : Sourced) × Contains ss s × Contains s.pairs q)
sourced_from [] r q c = inl c
sourced_from (s ∷ ss) r q c = elim (sourced_from ss (sourced s r) q c) [
  | inl now ↦ elim (either (same_prefix s.prefix r.prefix)) [
    | inl is ↦ inr (s, in_front s s ss refl, subst (λ b. Contains (if b then with_pairs s.pairs r else r).pairs q) is now)
    | inr isnt ↦ inl (subst (λ b. Contains (if b then with_pairs s.pairs r else r).pairs q) isnt now)
  ]
  | inr later ↦ inr (later.0, in_rest s later.0 ss later.1, later.2)
]

-- rows that have the same prefixes and pairs
abbrev SamePairs : Row → Row → Type 0
SamePairs r s = (s.prefix ≡ r.prefix) × (s.pairs ≡ r.pairs)

zip_mapped : (f : Row → Row) → ((r : Row) → SamePairs r (f r)) → (rows : List Row) → AllZip SamePairs rows (map f rows)
zip_mapped f same [] = tt
zip_mapped f same (r ∷ rows) = (same r, zip_mapped f same rows)

zip_unled : (es : List Edge) (xs ys : List Row) → AllZip SamePairs xs ys → (zs : List Row) → AreUnled es ys zs → AllZip SamePairs xs zs
zip_unled es [] [] a [] b = tt
zip_unled es [] [] a (z ∷ zs) b = absurd b
zip_unled es [] (y ∷ ys) a zs b = absurd a
zip_unled es (x ∷ xs) [] a zs b = absurd a
zip_unled es (x ∷ xs) (y ∷ ys) a [] b = absurd b
zip_unled es (x ∷ xs) (y ∷ ys) a (z ∷ zs) b = ((b.0.prefix ∙ a.0.0, b.0.pairs ∙ a.0.1), zip_unled es xs ys a.1 zs b.1)

zip_pairs : (xs ys : List Row) → AllZip SamePairs xs ys → flat_map pairs_of ys ≡ flat_map pairs_of xs
zip_pairs [] [] a = refl
zip_pairs [] (y ∷ ys) a = absurd a
zip_pairs (x ∷ xs) [] a = absurd a
zip_pairs (x ∷ xs) (y ∷ ys) a = ap₂ (λ p q. p ++ q) a.0.1 (zip_pairs xs ys a.1)

zip_pairs_at : (xs ys : List Row) → AllZip SamePairs xs ys → (q : Prefix) → pairs_at ys q ≡ pairs_at xs q
zip_pairs_at [] [] a q = refl
zip_pairs_at [] (y ∷ ys) a q = absurd a
zip_pairs_at (x ∷ xs) [] a q = absurd a
zip_pairs_at (x ∷ xs) (y ∷ ys) a q = elim (either (same_prefix q x.prefix)) [
  | inl is ↦ ap pairs_in (found_first y ys q (ap (same_prefix q) a.0.0 ∙ is)) ∙ (a.0.1 ∙ ap pairs_in (sym (found_first x xs q is)))
  | inr isnt ↦ ap pairs_in (found_later y ys q (ap (same_prefix q) a.0.0 ∙ isnt)) ∙ (zip_pairs_at xs ys a.1 q ∙ ap pairs_in (sym (found_later x xs q isnt)))
]

-- a row of the first list has its partner in the second
pub zip_in : (P : Row → Row → Type 0) (xs ys : List Row) → AllZip P xs ys → (x : Row) → Contains xs x → (y : Row) × Contains ys y × P x y
zip_in P [] [] a x c = absurd (Contains-nil x c)
zip_in P [] (y ∷ ys) a x c = absurd a
zip_in P (z ∷ xs) [] a x c = absurd a
zip_in P (z ∷ xs) (y ∷ ys) a x c = elim (in_cases z x xs c) [
  | inl is ↦ (y, in_front y y ys refl, subst (λ w. P w y) is a.0)
  | inr later ↦ (let r = zip_in P xs ys a.1 x later in (r.0, in_rest y r.0 ys r.1, r.2))
]

pairs_at_off : (ss : List Sourced) (rows : List Row) (q : Prefix) → (Contains (map (λ s. s.prefix) ss) q → ⊥)
    → pairs_at (map (changed sourced ss) rows) q ≡ pairs_at rows q
pairs_at_off [] rows q off = ap (λ l. pairs_at l q) (same rows)
  where
    same : (rows : List Row) → map (λ r. r) rows ≡ rows
    same [] = refl
    same (r ∷ rows) = ap (λ l. r ∷ l) (same rows)
pairs_at_off (s ∷ ss) rows q off =
    ap (λ l. pairs_at l q) (sym (twice rows)) ∙ (pairs_at_off ss (map (sourced s) rows) q (λ c. off (in_rest s.prefix q (map (λ z. z.prefix) ss) c))
    ∙ ap pairs_in (row_changed_off s.prefix q (with_pairs s.pairs) (λ r. refl) (λ is. off (in_front s.prefix q (map (λ z. z.prefix) ss) (sym is))) rows))
  where
    twice : (rows : List Row) → map (changed sourced ss) (map (sourced s) rows) ≡ map (changed sourced (s ∷ ss)) rows
    twice [] = refl
    twice (r ∷ rows) = ap (λ l. changed sourced ss (sourced s r) ∷ l) (twice rows)

-- a row keeps its pairs where none of the changes is of its prefix
pub changed_off : (ss : List Sourced) (y : Row) → (Contains (map (λ s. s.prefix) ss) y.prefix → ⊥) → (changed sourced ss y).pairs ≡ y.pairs
changed_off [] y off = refl
changed_off (s ∷ ss) y off =
    ap (λ z. (changed sourced ss z).pairs) (upon_off s.prefix (with_pairs s.pairs) y (λ is. off (in_front s.prefix y.prefix (map (λ z. z.prefix) ss) is)))
    ∙ changed_off ss y (λ c. off (in_rest s.prefix y.prefix (map (λ z. z.prefix) ss) c))

-- a row gets the pairs of the one change that is of its prefix
pub changed_own : (ss : List Sourced) (y : Row) (z : Sourced) → AllDiffer (map (λ s. s.prefix) ss) → Contains ss z → z.prefix ≡ y.prefix
    → (changed sourced ss y).pairs ≡ z.pairs
changed_own [] y z once c own = absurd (Contains-nil z c)
changed_own (s ∷ ss) y z once c own =
    let keeps : (sourced s y).prefix ≡ y.prefix = upon_field s.prefix (with_pairs s.pairs) prefix_of (λ r. refl) y in
    elim (in_cases s z ss c) [
      | inl is ↦ (let at : s.prefix ≡ y.prefix = ap (λ (x : Sourced). x.prefix) is ∙ own in
          changed_off ss (sourced s y) (λ d. each_in (λ p. s.prefix ≢ p) (map (λ x. x.prefix) ss) (sourced s y).prefix once.0 d (at ∙ sym keeps))
          ∙ (ap pairs_of (upon_own s.prefix (with_pairs s.pairs) y at) ∙ ap (λ (x : Sourced). x.pairs) is))
      | inr later ↦ changed_own ss (sourced s y) z once.1 later (own ∙ sym keeps)
    ]

-- there are rows without those that go
pub gone_exist : (ps : List Prefix) (rows : List Row) → IsAscending (map prefix_of rows) → (new : List Row) × AreTaken HasGone ps rows new
gone_exist [] rows asc = (rows, refl)
gone_exist (p ∷ ps) rows asc = (let n = one (row_of rows p) refl in let r = gone_exist ps n.0 (gone_ordered p rows n.0 n.1) in (r.0, (n.0, n.1, r.1)))
  where
    one : (o : Option Row) → row_of rows p ≡ o → (new : List Row) × HasGone p rows new
    one None is = (rows, record { ordered = asc; went = inl (sym is, refl) })
    one (Some r) is = (let t = row_there rows p r is in let g = index_of rows r t.0
        in (remove rows g.0, record { ordered = asc; went = inr (g.0, r, g.1, t.1, refl) }))

-- numbered pairs are as many as the lists that were taken
module _ (lists : List PathKept) (paths : List Path) where
  numbered_pairs : (ls : List Listed) (qs : List (FibSource × ℕ)) → AllZip (IsNumbered lists) ls qs
      → count_by (has_content lists paths) qs ≡ count_by (is_list paths) ls
  numbered_pairs [] [] a = refl
  numbered_pairs [] (q ∷ qs) a = absurd a
  numbered_pairs (l ∷ ls) [] a = absurd a
  numbered_pairs (l ∷ ls) (q ∷ qs) a =
      count_by-cons (has_content lists paths) q qs ∙ (ap (λ o. unit_of (is_content o paths) + count_by (has_content lists paths) qs) a.0.1
      ∙ (ap (λ n. unit_of (is_list paths l) + n) (numbered_pairs ls qs a.1) ∙ sym (count_by-cons (is_list paths) l ls)))

  numbered_all : (bs : List Paired) (ss : List Sourced) → AllZip (IsSourced lists) bs ss
      → count_by (has_content lists paths) (flat_map (λ s. s.pairs) ss) ≡ count_by (is_list paths) (lists_of bs)
  numbered_all [] [] a = refl
  numbered_all [] (s ∷ ss) a = absurd a
  numbered_all (b ∷ bs) [] a = absurd a
  numbered_all (b ∷ bs) (s ∷ ss) a =
      count_append (has_content lists paths) s.pairs (flat_map (λ s. s.pairs) ss)
      ∙ (ap₂ (λ m n. m + n) (numbered_pairs b.pairs s.pairs a.0.1) (numbered_all bs ss a.1)
      ∙ sym (count_append (is_list paths) b.pairs (lists_of bs)))

-- the entries have the prefixes of what they were made of
pub numbered_prefixes : (lists : List PathKept) (bs : List Paired) (ss : List Sourced) → AllZip (IsSourced lists) bs ss
    → map (λ s. s.prefix) ss ≡ map paired_prefix bs
numbered_prefixes lists [] [] a = refl
numbered_prefixes lists [] (s ∷ ss) a = absurd a
numbered_prefixes lists (b ∷ bs) [] a = absurd a
numbered_prefixes lists (b ∷ bs) (s ∷ ss) a = ap₂ (λ p q. p ∷ q) a.0.0 (numbered_prefixes lists bs ss a.1)

numbered_kept : (lists : List PathKept) (ls : List Listed) (qs : List (FibSource × ℕ)) → AllZip (IsNumbered lists) ls qs → (q : FibSource × ℕ) → Contains qs q
    → (paths : List Path) × (content_of lists q.1 ≡ Some paths)
numbered_kept lists [] [] a q c = absurd (Contains-nil q c)
numbered_kept lists [] (x ∷ qs) a q c = absurd a
numbered_kept lists (l ∷ ls) [] a q c = absurd a
numbered_kept lists (l ∷ ls) (x ∷ qs) a q c = elim
    (in_cases x q qs c) [ inl is ↦ (l.paths, subst (λ z. content_of lists z.1 ≡ Some l.paths) is a.0.1) | inr later ↦ numbered_kept lists ls qs a.1 q later ]

sourced_kept : (lists : List PathKept) (bs : List Paired) (ss : List Sourced) → AllZip (IsSourced lists) bs ss → (s : Sourced) → Contains ss s
    → (q : FibSource × ℕ) → Contains s.pairs q → (paths : List Path) × (content_of lists q.1 ≡ Some paths)
sourced_kept lists [] [] a s c = absurd (Contains-nil s c)
sourced_kept lists [] (x ∷ ss) a s c = absurd a
sourced_kept lists (b ∷ bs) [] a s c = absurd a
sourced_kept lists (b ∷ bs) (x ∷ ss) a s c = elim (in_cases x s ss c) [
  | inl is ↦ numbered_kept lists b.pairs s.pairs (subst (λ (z : Sourced). AllZip (IsNumbered lists) b.pairs z.pairs) is a.0.1)
  | inr later ↦ sourced_kept lists bs ss a.1 s later
]

-- what stays under its number is numbered still
module _ (lists later : List PathKept) where
  pairs_on : (ls : List Listed) (qs : List (FibSource × ℕ)) → AllZip (IsNumbered lists) ls qs
      → ((q : FibSource × ℕ) → Contains qs q → (paths : List Path) → content_of lists q.1 ≡ Some paths → content_of later q.1 ≡ Some paths)
      → AllZip (IsNumbered later) ls qs
  pairs_on [] [] a on = tt
  pairs_on [] (q ∷ qs) a on = a
  pairs_on (l ∷ ls) [] a on = a
  pairs_on (l ∷ ls) (q ∷ qs) a on = ((a.0.0, on q (in_front q q qs refl) l.paths a.0.1), pairs_on ls qs a.1 (λ z c. on z (in_rest q z qs c)))

  numbered_on : (bs : List Paired) (ss : List Sourced) → AllZip (IsSourced lists) bs ss
      → ((s : Sourced) → Contains ss s → (q : FibSource × ℕ) → Contains s.pairs q → (paths : List Path) → content_of lists q.1 ≡ Some paths
      → content_of later q.1 ≡ Some paths) → AllZip (IsSourced later) bs ss
  numbered_on [] [] a on = tt
  numbered_on [] (s ∷ ss) a on = a
  numbered_on (b ∷ bs) [] a on = a
  numbered_on (b ∷ bs) (s ∷ ss) a on =
      ((a.0.0, pairs_on b.pairs s.pairs a.0.1 (on s (in_front s s ss refl))), numbered_on bs ss a.1 (λ z c. on z (in_rest s z ss c)))

module _ (plan : Plan) (entries : List Sourced) (old rows : List Row) (before lists : List PathKept) (members order : List Prefix)
    (s : IsPlan old plan) (r : IsReady plan entries old rows before lists members order) (u : AreUsed old before members) where
  came : HaveCome plan.came old r.mid
  came = rows_come plan.came old r.mid u.ordered r.come

  led_names : map prefix_of rows ≡ map prefix_of r.mid
  led_names = ap (map prefix_of) r.made ∙ mapped_names (changed led plan.edges_in) (led_field prefix_of (λ e q. refl) plan.edges_in) r.mid

  pub ready_ordered : IsAscending (map prefix_of rows)
  ready_ordered = subst IsAscending (sym led_names) came.ordered

  -- the rows' names
  mid_names : (p : Prefix) → Contains (map prefix_of r.mid) p ↔ Contains (map prefix_of old) p ⊎ Contains plan.came p
  mid_names p = (
    λ c. (let m = map_from prefix_of r.mid p c in elim ((came.rows m.0).0 m.1) [
      | inl was ↦ inl (subst (Contains (map prefix_of old)) m.2 (map_in prefix_of old m.0 was))
      | inr new ↦ inr (subst (Contains plan.came) m.2 new.0)
    ]),
    λ d. elim d [
      | inl c ↦ (let m = map_from prefix_of old p c in subst (Contains (map prefix_of r.mid)) m.2 (map_in prefix_of r.mid m.0 ((came.rows m.0).1 (inl m.1))))
      | inr c ↦ map_in prefix_of r.mid (blank p) ((came.rows (blank p)).1 (inr (c, refl)))
    ],
  )

  -- each pair that rows name now is kept with the list that it had
  old_kept : (z : Row) (q : FibSource × ℕ) → Contains rows z → Contains z.pairs q → (paths : List Path) × (content_of lists q.1 ≡ Some paths)
  old_kept z q c d =
      let m = map_from (changed led plan.edges_in) r.mid z (subst (λ l. Contains l z) r.made c) in
      let own : Contains m.0.pairs q = subst (λ l. Contains l q) (led_field pairs_of (λ e y. refl) plan.edges_in m.0)
      (subst (λ (y : Row). Contains y.pairs q) (sym m.2) d) in
      elim ((came.rows m.0).0 m.1) [
        | inl was ↦ (let k = some_list before q.1 (u.held m.0 q was own) in (k.0, r.taken.takes.stays u.used q.1 k.0 k.1))
        | inr new ↦ absurd (Contains-nil q (subst (λ (y : Row). Contains y.pairs q) new.1 own))
      ]

  abbrev pub next : List Row
  next = map (changed sourced entries) rows

  pub next_ordered : IsAscending (map prefix_of next)
  next_ordered = mapped_ordered (changed sourced entries) (sourced_names entries) rows ready_ordered

  abbrev pub last : (new : List Row) × AreTaken HasGone plan.gone next new
  last = gone_exist plan.gone next next_ordered

  -- the users that are left in the end
  abbrev pub left_users : List Path → ℕ
  left_users paths = count_by (has_content lists paths) (flat_map pairs_of last.0)

  abbrev pub paired_pairs : List (FibSource × ℕ)
  paired_pairs = flat_map (pairs_at rows) (map paired_prefix plan.paired)

  abbrev pub gone_pairs : List (FibSource × ℕ)
  gone_pairs = flat_map (pairs_at rows) plan.gone

  pairs_kept_at : (ps : List Prefix) → AreKept lists (flat_map (pairs_at rows) ps)
  pairs_kept_at ps q c = (let f = flat_map_from (pairs_at rows) ps q c in by f.0 (row_of rows f.0) refl f.2)
    where
      by : (p : Prefix) (o : Option Row) → row_of rows p ≡ o → Contains (pairs_in (row_of rows p)) q → IsSome (kept_of lists q.1)
      by p None is d = absurd (Contains-nil q (subst (λ z. Contains (pairs_in z) q) is d))
      by p (Some z) is d = (
          let t = row_there rows p z is in
          let k = old_kept z q t.0 (subst (λ y. Contains (pairs_in y) q) is d) in some_content (kept_of lists q.1) k.0 k.1)

  old_count : (paths : List Path) → named_count before old paths ≡ count_by (has_content lists paths) (flat_map pairs_of rows)
  old_count paths =
      count_alike (has_content before paths) (has_content lists paths) (flat_map pairs_of old) (λ q c.
      (let f = flat_map_from pairs_of old q c in let k = some_list before q.1 (u.held f.0 q f.1 f.2) in
      ap (λ o. is_content o paths) (k.1 ∙ sym (r.taken.takes.stays u.used q.1 k.0 k.1))))
      ∙ (sym (tally_come (has_content lists paths) plan.came old r.mid r.come)
      ∙ (ap (count_by (has_content lists paths)) (sym (pairs_kept (changed led plan.edges_in) (led_field pairs_of (λ e y. refl) plan.edges_in) r.mid))
      ∙ ap (λ l. count_by (has_content lists paths) (flat_map pairs_of l)) (sym r.made)))

  entries_prefixes : map (λ z. z.prefix) entries ≡ map paired_prefix plan.paired
  entries_prefixes = numbered_prefixes lists plan.paired entries r.taken.numbered

  entries_there : (z : Sourced) → Contains entries z → Contains (map prefix_of rows) z.prefix
  entries_there z c = subst (λ l. Contains l z.prefix) (sym led_names)
      ((mid_names z.prefix).1 (s.paired_there z.prefix (subst (λ l. Contains l z.prefix) entries_prefixes (map_in (λ (x : Sourced). x.prefix) entries z c))))

  gone_off : (q : Prefix) → Contains plan.gone q → Contains (map (λ z. z.prefix) entries) q → ⊥
  gone_off q c d = s.paired_stay q (subst (λ l. Contains l q) entries_prefixes d) c

  gone_same : (paths : List Path) → count_by (has_content lists paths) (flat_map (pairs_at next) plan.gone) ≡ count_by (has_content lists paths) gone_pairs
  gone_same paths = ap (count_by (has_content lists paths))
      (flat_alike (pairs_at next) (pairs_at rows) plan.gone (λ q c. pairs_at_off entries rows q (gone_off q c)))

  pub left_start : IsLeft left_users lists lists (paired_pairs ++ gone_pairs)
  left_start = record {
    counted = recounted lists (λ paths. named_count before old paths + count_by (is_list paths) (lists_of plan.paired))
        (λ paths. left_users paths + count_by (has_content lists paths) (paired_pairs ++ gone_pairs)) same (r.taken.takes.counted u.used);
    stays = λ id paths pos is. is;
  }
    where
      sums : (o n k t w x y z e f g : ℕ) → o ≡ k → t ≡ n → w + x ≡ k + t → z + y ≡ w → y ≡ f → e ≡ x → g ≡ e + f → o + n ≡ z + g
      sums o n k t w x y z e f g a b c d h i j = omega (arith, a, b, c, d, h, i, j)

      same : (paths : List Path) → named_count before old paths + count_by (is_list paths) (lists_of plan.paired)
          ≡ left_users paths + count_by (has_content lists paths) (paired_pairs ++ gone_pairs)
      same paths =
          let test = has_content lists paths in
          sums (named_count before old paths) (count_by (is_list paths) (lists_of plan.paired)) (count_by test (flat_map pairs_of rows))
          (count_by test (flat_map (λ z. z.pairs) entries))
          (count_by test (flat_map pairs_of next)) (count_by test (flat_map (pairs_at rows) (map (λ z. z.prefix) entries)))
          (count_by test (flat_map (pairs_at next) plan.gone)) (left_users paths)
          (count_by test paired_pairs) (count_by test gone_pairs) (count_by test (paired_pairs ++ gone_pairs))
          (old_count paths) (numbered_all lists paths plan.paired entries r.taken.numbered)
          (tally_paired test entries rows ready_ordered (subst AllDiffer (sym entries_prefixes) s.paired_once) entries_there)
          (tally_gone test plan.gone next last.0 s.gone_once last.1) (gone_same paths)
          (ap (λ l. count_by test (flat_map (pairs_at rows) l)) (sym entries_prefixes)) (count_append test paired_pairs gone_pairs)

  pub first_kept : AreKept lists paired_pairs
  first_kept = pairs_kept_at (map paired_prefix plan.paired)

  pub first_spent : (g : List Path → ℕ) × IsSpent g lists paired_pairs
  first_spent = (_, chunk_spent left_users lists lists paired_pairs gone_pairs left_start first_kept)

  -- after the first were given
  module _ (mid : List PathKept) (given : (g : List Path → ℕ) → IsSpent g lists paired_pairs → GivesPairs g lists mid) where
    left_mid : IsLeft left_users lists mid (gone_pairs ++ [])
    left_mid = subst (IsLeft left_users lists mid) (sym (append-nil gone_pairs))
        (chunk_more left_users lists lists paired_pairs gone_pairs left_start first_kept mid
        (given _ (chunk_spent left_users lists lists paired_pairs gone_pairs left_start first_kept)))

    pub second_kept : AreKept mid gone_pairs
    second_kept = chunk_kept left_users lists mid gone_pairs [] left_mid (pairs_kept_at plan.gone)

    pub second_spent : (g : List Path → ℕ) × IsSpent g mid gone_pairs
    second_spent = (_, chunk_spent left_users lists mid gone_pairs [] left_mid (pairs_kept_at plan.gone))

    pub all_given : (later : List PathKept) → ((g : List Path → ℕ) → IsSpent g mid gone_pairs → GivesPairs g mid later) → GivesPairs left_users lists later
    all_given later gives = spent_end left_users lists later [] refl
        (chunk_more left_users lists mid gone_pairs [] left_mid (pairs_kept_at plan.gone) later
        (gives _ (chunk_spent left_users lists mid gone_pairs [] left_mid (pairs_kept_at plan.gone))))

    -- after all steps
    module _ (later : List PathKept) (gives : GivesPairs left_users lists later) (low high new : List Row) (set : List Prefix)
        (made : low ≡ map (changed marked plan.marks) next) (unled : AreUnled plan.edges_out low high)
        (steps : AreTaken HasGone plan.gone high new) (went : HaveGone plan.gone high new) (leave : HaveLeft plan.gone order set)
        (ascending : IsAscending members) where
      alike : AllZip SamePairs next high
      alike = zip_unled plan.edges_out next low
          (subst (AllZip SamePairs next) (sym made)
          (zip_mapped (changed marked plan.marks) (λ z. (marked_names plan.marks z, marked_pairs plan.marks z)) next)) high unled

      final_count : (paths : List Path) → count_by (has_content lists paths) (flat_map pairs_of new) ≡ left_users paths
      final_count paths =
          let test = has_content lists paths in
          sums (count_by test (flat_map pairs_of new)) (count_by test (flat_map (pairs_at high) plan.gone)) (count_by test (flat_map pairs_of high))
          (count_by test (flat_map pairs_of next)) (count_by test (flat_map (pairs_at next) plan.gone)) (left_users paths)
          (tally_gone test plan.gone high new s.gone_once steps) (ap (count_by test) (zip_pairs next high alike))
          (ap (count_by test) (flat_alike (pairs_at high) (pairs_at next) plan.gone (λ q c. zip_pairs_at next high alike q)))
          (tally_gone test plan.gone next last.0 s.gone_once last.1)
        where
          sums : (n a h x b z : ℕ) → n + a ≡ h → h ≡ x → a ≡ b → z + b ≡ x → n ≡ z
          sums n a h x b z p q t w = omega (arith, p, q, t, w)

      new_kept : (z : Row) (q : FibSource × ℕ) → Contains new z → Contains z.pairs q → (paths : List Path) × (content_of lists q.1 ≡ Some paths)
      new_kept z q c d =
          let y = zip_from SamePairs next high alike z ((went.rows z).0 c).0 in
          let x = map_from (changed sourced entries) rows y.0 y.1 in
          let own : Contains (changed sourced entries x.0).pairs q = subst (λ (w : Row). Contains w.pairs q) (sym x.2) (subst (λ l. Contains l q) y.2.1 d) in
          elim (sourced_from entries x.0 q own) [
            | inl was ↦ old_kept x.0 q x.1 was
            | inr got ↦ sourced_kept lists plan.paired entries r.taken.numbered got.0 got.1 q got.2
          ]

      new_later : (z : Row) (q : FibSource × ℕ) (c : Contains new z) (d : Contains z.pairs q) → content_of later q.1 ≡ Some (new_kept z q c d).0
      new_later z q c d =
          let k = new_kept z q c d in
          gives.stays q.1 k.0 (subst (λ n. 0 < n) (final_count k.0)
          (count_some (has_content lists k.0) (flat_map pairs_of new) q (Contains-flat_map pairs_of new z q c d)
          (ap (λ o. is_content o k.0) k.1 ∙ list_self k.0))) k.1

      later_count : (paths : List Path) → left_users paths ≡ named_count later new paths
      later_count paths = sym (final_count paths) ∙ count_alike (has_content lists paths) (has_content later paths) (flat_map pairs_of new) (λ q c.
          (let f = flat_map_from pairs_of new q c in ap (λ o. is_content o paths) ((new_kept f.0 q f.1 f.2).1 ∙ sym (new_later f.0 q f.1 f.2))))

      high_names : map prefix_of high ≡ map prefix_of r.mid
      high_names = unled_names plan.edges_out low high unled
          ∙ (ap (map prefix_of) made ∙ (mapped_names (changed marked plan.marks) (marked_names plan.marks) next
          ∙ (mapped_names (changed sourced entries) (sourced_names entries) rows ∙ led_names)))

      joined_set : HaveJoined plan.came members order
      joined_set = set_joined plan.came members order ascending r.join

      same_names : (q : Prefix) → Contains set q ↔ Contains (map prefix_of new) q
      same_names q = (
        λ c. (let l = (leave.members q).0 c in
            let m = (mid_names q).1 (elim ((joined_set.members q).0 l.0) [ inl was ↦ inl (subst (λ z. Contains z q) u.same was) | inr it ↦ inr it ]) in
            let h = map_from prefix_of high q (subst (λ z. Contains z q) (sym high_names) m) in
            subst (Contains (map prefix_of new)) h.2 (map_in prefix_of new h.0 ((went.rows h.0).1 (h.1, λ d. l.1 (subst (Contains plan.gone) h.2 d))))),
        λ c. (let h = map_from prefix_of new q c in
            let w = (went.rows h.0).0 h.1 in
            let m = subst (λ z. Contains z q) high_names (subst (Contains (map prefix_of high)) h.2 (map_in prefix_of high h.0 w.0)) in
            (leave.members q).1 (
              (joined_set.members q).1
                  (elim ((mid_names q).0 m) [ inl was ↦ inl (subst (λ z. Contains z q) (sym u.same) was) | inr it ↦ inr it ]),
              λ d. w.1 (subst (Contains plan.gone) (sym h.2) d),
            )),
      )

      used : AreUsed new later set
      used = record {
        held = λ z q c d. some_content (kept_of later q.1) (new_kept z q c d).0 (new_later z q c d);
        used = recounted later left_users (named_count later new) later_count gives.counted;
        ordered = went.ordered;
        same = same_order set (map prefix_of new) leave.ordered went.ordered same_names;
      }

      -- what an entry got is under its number
      entry_later : (z : Sourced) → Contains entries z → (q : FibSource × ℕ) → Contains z.pairs q → (paths : List Path) → content_of lists q.1 ≡ Some paths
          → content_of later q.1 ≡ Some paths
      entry_later z c q d paths is =
          let x = map_from prefix_of rows z.prefix (entries_there z c) in
          let own = changed_own entries x.0 z (subst AllDiffer (sym entries_prefixes) s.paired_once) c (sym x.2) in
          let w = zip_in SamePairs next high alike (changed sourced entries x.0) (map_in (changed sourced entries) rows x.0 x.1) in
          let named : w.0.prefix ≡ z.prefix = w.2.0 ∙ (sourced_names entries x.0 ∙ x.2) in
          let there = (went.rows w.0).1 (
            w.1,
            λ g.
                s.paired_stay z.prefix (subst (λ l. Contains l z.prefix) entries_prefixes (map_in (λ (a : Sourced). a.prefix) entries z c)) (subst
                (Contains plan.gone) named g),
          ) in
          let has : Contains w.0.pairs q = subst (λ l. Contains l q) (sym (w.2.1 ∙ own)) d in
          new_later w.0 q there has ∙ (sym (new_kept w.0 q there has).1 ∙ is)

      low_from : (z : Row) → Contains low z → (x : Row) × Contains r.mid x × (renewed plan entries x ≡ z)
      low_from z c =
          let y = map_from (changed marked plan.marks) next z (subst (λ l. Contains l z) made c) in
          let x = map_from (changed sourced entries) rows y.0 y.1 in
          let w = map_from (changed led plan.edges_in) r.mid x.0 (subst (λ l. Contains l x.0) r.made x.1) in
          (w.0, w.1, ap (λ a. changed marked plan.marks (changed sourced entries a)) w.2 ∙ (ap (changed marked plan.marks) x.2 ∙ y.2))

      low_in : (x : Row) → Contains r.mid x → Contains low (renewed plan entries x)
      low_in x c = subst (λ l. Contains l (renewed plan entries x)) (sym made)
          (map_in (changed marked plan.marks) next (changed sourced entries (changed led plan.edges_in x))
          (map_in (changed sourced entries) rows (changed led plan.edges_in x)
          (subst (λ l. Contains l (changed led plan.edges_in x)) (sym r.made) (map_in (changed led plan.edges_in) r.mid x c))))

      renewed_prefix : (x : Row) → (renewed plan entries x).prefix ≡ x.prefix
      renewed_prefix x = marked_names plan.marks (changed sourced entries (changed led plan.edges_in x))
          ∙ (sourced_names entries (changed led plan.edges_in x) ∙ led_field prefix_of (λ e q. refl) plan.edges_in x)

      base_pairs : (x : Row) → (Contains (map paired_prefix plan.paired) x.prefix → ⊥) → (renewed plan entries x).pairs ≡ x.pairs
      base_pairs x off =
          let led_x = changed led plan.edges_in x in
          marked_pairs plan.marks (changed sourced entries led_x)
          ∙ (changed_off entries led_x (λ c. off (subst (Contains (map paired_prefix plan.paired)) (led_field prefix_of (λ e q. refl) plan.edges_in x)
          (subst (λ l. Contains l led_x.prefix) entries_prefixes c)))
          ∙ led_field pairs_of (λ e q. refl) plan.edges_in x)

      found_new : (x : Row) → IsBase old plan x → (Contains plan.gone x.prefix → ⊥) → (y : Row) × Contains new y
          × IsUnled plan.edges_out (renewed plan entries x) y
      found_new x base off =
          let y = zip_in (IsUnled plan.edges_out) low high unled (renewed plan entries x) (low_in x ((came.rows x).1 base)) in
          (y.0, (went.rows y.0).1 (y.1, λ d. off (subst (Contains plan.gone) (y.2.prefix ∙ renewed_prefix x) d)), y.2)

      names_still : (x : Row) (q : FibSource × ℕ) → Contains old x → Contains x.pairs q → (Contains (map paired_prefix plan.paired) x.prefix → ⊥)
          → (Contains plan.gone x.prefix → ⊥) → content_of later q.1 ≡ content_of before q.1
      names_still x q there c off stays =
          let y = found_new x (inl there) stays in
          let has : Contains y.0.pairs q = subst (λ l. Contains l q) (sym (y.2.pairs ∙ base_pairs x off)) c in
          let k = some_list before q.1 (u.held x q there c) in
          new_later y.0 q y.1 has ∙ (sym (new_kept y.0 q y.1 has).1 ∙ (r.taken.takes.stays u.used q.1 k.0 k.1 ∙ sym k.1))

      -- all was written
      pub written : IsWritten plan old new before later set
      written = record {
        entries = entries;
        numbered = numbered_on lists later plan.paired entries r.taken.numbered entry_later;
        rows = λ z c. (let w = (went.rows z).0 c in let y = zip_from (IsUnled plan.edges_out) low high unled z w.0 in let x = low_from y.0 y.1 in
            (w.1, x.0, (came.rows x.0).0 x.1, subst (λ a. IsUnled plan.edges_out a z) (sym x.2) y.2));
        found = found_new;
        stays = λ id paths pos is. gives.stays id paths (subst (λ n. 0 < n) (sym (later_count paths)) pos) (r.taken.takes.stays u.used id paths is);
        names = names_still;
        used = used;
      }
