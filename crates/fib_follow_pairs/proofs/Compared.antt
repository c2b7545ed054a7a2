-- A row is as before exactly where what is made anew of its prefix is the same entry.
use Rattle.std.proofs.Common.{arith, ◌≡◌, ◌<◌, ℕ, Bool, true, false, ◌&&◌, ◌==◌, List, [], ◌∷◌, map, Option, Some, None, inl, inr, refl}
use Rattle.std.proofs.Common.{sym, ◌∙◌, ap, subst, ◌↔◌}
use Rattle.std.specs.Prelude.{Contains, IfSome, IsTrue}
use Rattle.std.specs.List.{AllByRecursion, AllZip, list_all}
use Rattle.std.proofs.lemmas.Bool.{false≢true, lt-ltb}
use Rattle.std.proofs.lemmas.Bool.Decides.{Decides-eqb}
use Rattle.fib_base_list.proofs.Lists.{Contains-nil}
use Rattle.fib_base_list.proofs.Booleans.{and_both}
use Rattle.fib_base_interned.proofs.Finding.{some_is}
use Rattle.fib_addr.specs.Prefixes.{Prefix, same_prefix}
use Rattle.fib_addr.proofs.PrefixLaws.{same_prefix-Decides}
use Rattle.fib_resolve.specs.Aims.{kind_aim, marked, marked_list}
use Rattle.fib_resolve.specs.Keys.{source_rank}
use Rattle.fib_resolve.specs.Pairs.{pairs, chosen, cover}
use Rattle.fib_resolve.specs.Tables.{IsSound}
use Rattle.fib_resolve.specs.declared.pairs.Pair.{Pair}
use Rattle.fib_resolve.specs.declared.aims.Marked.{Marked}
use Rattle.fib_resolve.specs.declared.types.FibSource.{FibSource}
use Rattle.fib_resolve.specs.declared.types.Path.{Path}
use Rattle.fib_resolve.specs.declared.types.PathKind.{PathKind}
use Rattle.fib_resolve.specs.declared.types.PathKind.TheVariants as kinds
use Rattle.fib_resolve.specs.declared.types.Tables.{Tables}
use Rattle.fib_resolve.proofs.Entries.{is_entry, chosen-no_entry}
use Rattle.fib_resolve.proofs.OneList.{source_by_rank}
use Rattle.fib_resolve.proofs.PairLaws.{cover_at_host, cover_short}
use Rattle.fib_resolve_changes.specs.Ranks.{has_entry}
use Rattle.fib_resolve_changes.specs.Sources.{SameEntry, SamePairs}
use Rattle.fib_resolve_changes.proofs.CauseLaws.{any_from}
use Rattle.fib_resolve_changes.proofs.Edits.{in_cases, in_front, in_rest}
use Rattle.fib_resolve_changes.proofs.SamePairs.{map_in, map_from}
use Rattle.fib_resolve_changes.proofs.Targets.{pair_entry}
use Rattle.fib_entries_rows.specs.Known.{Known, PathKept, ArePairs, AreBestFirst, IsHeld, StandsFor, content_of, row_of}
use Rattle.fib_entries_rows.specs.Rows.{Row}
use Rattle.fib_entries_rows.specs.inner.Building.{AreHeld}
use Rattle.fib_entries_rows.specs.inner.Compare.{AreKept, is_content, is_that}
use Rattle.fib_entries_rows.proofs.Comparing.{all_pass}
use Rattle.fib_entries_rows.proofs.Standing.{row_there, row_entry, no_entry, pairs_at}
use Rattle.fib_entries_rows.proofs.Taking.{list_is, list_self}
use Rattle.fib_entries_rows.proofs.Telling.{from_pair}
use Rattle.fib_follow_view.specs.Views.{AreBetterFirst}
use Rattle.fib_follow_pairs.specs.Fresh.{ArePairsAt, IsCover, IsEntry, IsFresh, prefix_in}
use Rattle.fib_follow_pairs.specs.inner.Compared.{all_held, aim_stays, entry_stays, is_that_cover, row_stays}
use Rattle.fib_follow_pairs.specs.declared.fresh.Fresh.{Fresh}
use Rattle.fib_follow_pairs.specs.declared.fresh.Fresh.TheVariants as made
use Rattle.fib_follow_pairs.specs.declared.fresh.FreshEntry.{FreshEntry}

-- a row that is found names kept lists
held_row : (rows : List Row) (lists : List PathKept) (e : Prefix) (r : Row) → AreHeld rows lists → row_of rows e ≡ Some r → AreKept lists r.pairs
held_row rows lists e r h at p c = h r p (row_there rows e r at).0 c

pub held_found : (rows : List Row) (lists : List PathKept) (e : Prefix) (o : Option Row) → AreHeld rows lists → o ≡ row_of rows e
    → IfSome o (λ r. AreKept lists r.pairs)
held_found rows lists e None h at = tt
held_found rows lists e (Some r) h at = held_row rows lists e r h (sym at)

module _ (lists : List PathKept) where
  from_that : (x : Pair) (p : FibSource × ℕ) → is_that lists x.source x.paths p ≡ true → IsHeld lists p x
  from_that x p h =
      let both = and_both (source_rank p.0 == source_rank x.source) (is_content (content_of lists p.1) x.paths) h in
      (source_by_rank p.0 x.source ((Decides-eqb (source_rank p.0) (source_rank x.source)).0 both.0), by (content_of lists p.1) refl both.1)
    where
      by : (o : Option (List Path)) → content_of lists p.1 ≡ o → is_content o x.paths ≡ true → content_of lists p.1 ≡ Some x.paths
      by None e k = absurd (false≢true k)
      by (Some ps) e k = e ∙ ap Some (list_is ps x.paths k)

  to_that : (x : Pair) (p : FibSource × ℕ) → IsHeld lists p x → is_that lists x.source x.paths p ≡ true
  to_that x p h = rw ((Decides-eqb (source_rank p.0) (source_rank x.source)).1 (ap source_rank h.0)) (ap (λ o. is_content o x.paths) h.1 ∙ list_self x.paths)

  zipped : (ps : List (FibSource × ℕ)) (xs : List Pair) → all_held lists ps xs ≡ true → AllZip (IsHeld lists) ps xs
  zipped [] [] h = tt
  zipped [] (x ∷ xs) h = absurd (false≢true h)
  zipped (p ∷ ps) [] h = absurd (false≢true h)
  zipped (p ∷ ps) (x ∷ xs) h = (let both = and_both (is_that lists x.source x.paths p) (all_held lists ps xs) h in (from_that x p both.0, zipped ps xs both.1))

  unzipped : (ps : List (FibSource × ℕ)) (xs : List Pair) → AllZip (IsHeld lists) ps xs → all_held lists ps xs ≡ true
  unzipped [] [] h = refl
  unzipped [] (x ∷ xs) h = absurd h
  unzipped (p ∷ ps) [] h = absurd h
  unzipped (p ∷ ps) (x ∷ xs) h = rw (to_that x p h.0) (unzipped ps xs h.1)

  pub all_held_is : (ps : List (FibSource × ℕ)) (xs : List Pair) (b : Bool) → b ≡ all_held lists ps xs → IsTrue b ↔ AllZip (IsHeld lists) ps xs
  all_held_is ps xs b is = (λ t. zipped ps xs (sym is ∙ t), λ z. is ∙ unzipped ps xs z)

  of_left : (ps : List (FibSource × ℕ)) (xs : List Pair) → AllZip (IsHeld lists) ps xs → (p : FibSource × ℕ) → Contains ps p
      → (x : Pair) × Contains xs x × IsHeld lists p x
  of_left [] xs h p c = absurd (Contains-nil p c)
  of_left (q ∷ ps) [] h p c = absurd h
  of_left (q ∷ ps) (x ∷ xs) h p c = elim (in_cases q p ps c) [
    | inl is ↦ (x, in_front x x xs refl, subst (λ z. IsHeld lists z x) is h.0)
    | inr later ↦ (let w = of_left ps xs h.1 p later in (w.0, in_rest x w.0 xs w.1, w.2))
  ]

  of_right : (ps : List (FibSource × ℕ)) (xs : List Pair) → AllZip (IsHeld lists) ps xs → (x : Pair) → Contains xs x
      → (p : FibSource × ℕ) × Contains ps p × IsHeld lists p x
  of_right ps [] h x c = absurd (Contains-nil x c)
  of_right [] (y ∷ xs) h x c = absurd h
  of_right (p ∷ ps) (y ∷ xs) h x c = elim (in_cases y x xs c) [
    | inl is ↦ (p, in_front p p ps refl, subst (IsHeld lists p) is h.0)
    | inr later ↦ (let w = of_right ps xs h.1 x later in (w.0, in_rest p w.0 ps w.1, w.2))
  ]

  each_of : {X : Type 0} (P : X → Type 0) (xs : List X) → AllByRecursion P xs → (x : X) → Contains xs x → P x
  each_of P [] all x c = absurd (Contains-nil x c)
  each_of P (y ∷ ys) all x c = elim (in_cases y x ys c) [ inl is ↦ subst P is all.0 | inr later ↦ each_of P ys all.1 x later ]

  held_rank : (p : FibSource × ℕ) (x : Pair) → IsHeld lists p x → source_rank p.0 ≡ source_rank x.source
  held_rank p x h = ap source_rank h.0

  -- lists in the order of sources that have the same members have them in the same order
  zip_of : (ps : List (FibSource × ℕ)) (xs : List Pair) → AreBestFirst ps → AreBetterFirst xs
      → ((p : FibSource × ℕ) → Contains ps p → (x : Pair) × Contains xs x × IsHeld lists p x)
      → ((x : Pair) → Contains xs x → (p : FibSource × ℕ) × Contains ps p × IsHeld lists p x) → AllZip (IsHeld lists) ps xs
  zip_of [] [] b r f g = tt
  zip_of [] (x ∷ xs) b r f g = (let w = g x (in_front x x xs refl) in absurd (Contains-nil w.0 w.1))
  zip_of (p ∷ ps) [] b r f g = (let w = f p (in_front p p ps refl) in absurd (Contains-nil w.0 w.1))
  zip_of (p ∷ ps) (x ∷ xs) b r f g = (first, zip_of ps xs b.1 r.1 (λ q c. left q c (f q (in_rest p q ps c))) (λ y c. right y c (g y (in_rest x y xs c))))
    where
      low_left : (q : FibSource × ℕ) → Contains ps q → source_rank p.0 < source_rank q.0
      low_left q c = each_of (λ z. source_rank p.0 < source_rank z.0) ps b.0 q c

      low_right : (y : Pair) → Contains xs y → source_rank x.source < source_rank y.source
      low_right y c = each_of (λ z. source_rank x.source < source_rank z.source) xs r.0 y c

      first : IsHeld lists p x
      first =
          let y = f p (in_front p p ps refl) in
          let q = g x (in_front x x xs refl) in
          elim (in_cases x y.0 xs y.1) [
            | inl is ↦ subst (IsHeld lists p) (sym is) y.2
            | inr later ↦ elim (in_cases p q.0 ps q.1) [
              | inl is ↦ subst (λ z. IsHeld lists z x) (sym is) q.2
              | inr after ↦ (let m = held_rank p y.0 y.2 in let n = held_rank q.0 x q.2 in let i = low_right y.0 later
                  in let j = low_left q.0 after in absurd (omega (arith, m, n, i, j)))
            ]
          ]

      left : (q : FibSource × ℕ) → Contains ps q → (y : Pair) × Contains (x ∷ xs) y × IsHeld lists q y → (y : Pair) × Contains xs y × IsHeld lists q y
      left q c w = elim (in_cases x w.0 xs w.1) [
        | inl is ↦ (let m = held_rank q w.0 w.2 in let n = held_rank p x first in let i = low_left q c
            in let k = ap (λ z. source_rank z.source) is in absurd (omega (arith, m, n, i, k)))
        | inr later ↦ (w.0, later, w.2)
      ]

      right : (y : Pair) → Contains xs y → (q : FibSource × ℕ) × Contains (p ∷ ps) q × IsHeld lists q y → (q : FibSource × ℕ) × Contains ps q × IsHeld lists q y
      right y c w = elim (in_cases p w.0 ps w.1) [
        | inl is ↦ (let m = held_rank w.0 y w.2 in let n = held_rank p x first in let i = low_right y c
            in let k = ap (λ z. source_rank z.0) is in absurd (omega (arith, m, n, i, k)))
        | inr later ↦ (w.0, later, w.2)
      ]

  held_pair : (p : FibSource × ℕ) (x y : Pair) → IsHeld lists p x → IsHeld lists p y → x.prefix ≡ y.prefix → x ≡ y
  held_pair p x y h k own = from_pair x y own (sym h.0 ∙ k.0) (some_is x.paths y.paths (sym h.1 ∙ k.1))

  -- rows name the same lists exactly where the prefix has the same pairs
  module _ (S T : Tables) (e : Prefix) (ps : List (FibSource × ℕ)) (xs : List Pair) (before : ArePairs lists S e ps) (after : ArePairsAt (pairs T) e xs) where
    same_from_zip : AllZip (IsHeld lists) ps xs → SamePairs S T e
    same_from_zip z x own = (
      λ c. (let f = before.found x c own in
          let w = of_left ps xs z f.0 f.1 in
          let r = (after.are w.0).0 w.1 in
          subst (Contains (pairs T)) (held_pair f.0 w.0 x w.2 f.2 (sym r.1 ∙ own)) r.0),
      λ c. (let w = of_right ps xs z x ((after.are x).1 (c, own)) in
          let r = before.real w.0 w.1 in
          subst (Contains (pairs S)) (held_pair w.0 r.0 x r.3 w.2 (sym r.2 ∙ own)) r.1),
    )

    zip_from_same : SamePairs S T e → AllZip (IsHeld lists) ps xs
    zip_from_same same = zip_of ps xs before.best_first after.by_rank
        (λ p c. (let r = before.real p c in (r.0, (after.are r.0).1 ((same r.0 r.2).0 r.1, r.2), r.3)))
        (λ x c. (let r = (after.are x).0 c in let f = before.found x ((same x r.1).1 r.0) r.1 in (f.0, f.1, f.2)))

-- the marks of an entry's chosen list tell its cover, where a path leads there
kind_stays : (S : Tables) (e : Prefix) (c : Option Prefix) (kind : PathKind)
    → (kind ≡ kinds.Cover → is_that_cover c (cover S e.bits) ≡ true) → aim_stays c (kind_aim S e kind) ≡ true
kind_stays S e c kinds.Drop h = refl
kind_stays S e c kinds.Local h = refl
kind_stays S e c (kinds.Attached i) h = refl
kind_stays S e c (kinds.Hop a i) h = refl
kind_stays S e c (kinds.Recursive a) h = refl
kind_stays S e c kinds.Cover h = rw (lt-ltb (cover S e.bits).len 32 (cover_short S e.bits)) (h refl)

kind_told : (S : Tables) (e : Prefix) (c : Option Prefix) (kind : PathKind) → aim_stays c (kind_aim S e kind) ≡ true → kind ≡ kinds.Cover
    → is_that_cover c (cover S e.bits) ≡ true
kind_told S e c kind h is = cover_told (subst (λ k. aim_stays c (kind_aim S e k) ≡ true) is h)
  where
    cover_told : aim_stays c (kind_aim S e kinds.Cover) ≡ true → is_that_cover c (cover S e.bits) ≡ true
    cover_told k = rw (lt-ltb (cover S e.bits).len 32 (cover_short S e.bits)) at k

passes : (test : Marked → Bool) (ms : List Marked) (m : Marked) → list_all test ms ≡ true → Contains ms m → test m ≡ true
passes test [] m h c = absurd (Contains-nil m c)
passes test (n ∷ ns) m h c = (let both = and_both (test n) (list_all test ns) h in elim (in_cases n m ns c) [ inl is ↦ subst (λ z. test z ≡ true) is both.0 | inr later ↦ passes test ns m both.1 later ])

module _ (S T : Tables) (sound : IsSound S) (e : Prefix) (c : Option Prefix) (is : IsCover T e c) where
  abbrev StaysCovered : Type 0
  StaysCovered = (p : Path) → Contains (chosen S e) p → p.kind ≡ kinds.Cover → cover S e.bits ≡ cover T e.bits

  same_told : (p : Path) → Contains (chosen S e) p → p.kind ≡ kinds.Cover → is_that_cover c (cover S e.bits) ≡ true ↔ (cover S e.bits ≡ cover T e.bits)
  same_told p at kind = by c is
    where
      by : (o : Option Prefix) → IsCover T e o → is_that_cover o (cover S e.bits) ≡ true ↔ (cover S e.bits ≡ cover T e.bits)
      by None short = absurd (let long = cover_at_host S sound e p at kind in omega (arith, long, short))
      by (Some q) h = (
        λ t. sym ((same_prefix-Decides q (cover S e.bits)).0 t) ∙ h.1,
        λ same. (same_prefix-Decides q (cover S e.bits)).1 (h.1 ∙ sym same),
      )

  covers_stay : list_all (λ m. aim_stays c m.aim) (marked_list S e) ≡ true ↔ StaysCovered
  unfolding marked_list
  covers_stay = (
    λ t p at kind. (same_told p at kind).0
        (kind_told S e c p.kind (passes (λ m. aim_stays c m.aim) (map (marked S e) (chosen S e)) (marked S e p) t (map_in (marked S e) (chosen S e) p at)) kind),
    λ stays. all_pass (λ m. aim_stays c m.aim) (map (marked S e) (chosen S e)) (λ m at. (let r = map_from (marked S e) (chosen S e) m at in
        subst (λ z. aim_stays c z.aim ≡ true) r.2 (kind_stays S e c r.0.kind (λ kind. (same_told r.0 r.1 kind).1 (stays r.0 r.1 kind))))),
  )

both_are : (b c : Bool) → b ≡ true → c ≡ true → (b && c) ≡ true
both_are b c h k = rw h k

some_pair : (S : Tables) (e : Prefix) → has_entry S e ≡ true → (x : Pair) × Contains (pairs S) x × (e ≡ x.prefix)
some_pair S e is = (let r = any_from (λ x. same_prefix e x.prefix) (pairs S) (sym (is_entry S e) ∙ is) in (r.0, r.1, (same_prefix-Decides e r.0.prefix).0 r.2))

-- an entry of one alone isn't the same
not_same : (S T : Tables) (e : Prefix) → has_entry S e ≡ true → has_entry T e ≡ false → SamePairs S T e → ⊥
not_same S T e there none same = (let x = some_pair S e there in false≢true (sym none ∙ pair_entry T x.0 e ((same x.0 x.2).0 x.1) (sym x.2)))

module _ (lists : List PathKept) (S T : Tables) (sound : IsSound S) where
  entry_same : (r : Row) (f : FreshEntry) → ArePairs lists S f.prefix r.pairs → r.marked ≡ marked_list S f.prefix → IsEntry T f
      → entry_stays lists r f ≡ true ↔ SameEntry S T f.prefix
  entry_same r f before marks h = (
    λ t. (let both = and_both (all_held lists r.pairs f.pairs) (list_all (λ m. aim_stays f.cover m.aim) r.marked) t in record {
      pairs = same_from_zip lists S T f.prefix r.pairs f.pairs before h.pairs (zipped lists r.pairs f.pairs both.0);
      cover = (covers_stay S T sound f.prefix f.cover h.cover).0 (ap (list_all (λ m. aim_stays f.cover m.aim)) (sym marks) ∙ both.1);
    }),
    λ same. both_are (all_held lists r.pairs f.pairs) (list_all (λ m. aim_stays f.cover m.aim) r.marked)
        (unzipped lists r.pairs f.pairs (zip_from_same lists S T f.prefix r.pairs f.pairs before h.pairs same.pairs))
        (ap (list_all (λ m. aim_stays f.cover m.aim)) marks ∙ (covers_stay S T sound f.prefix f.cover h.cover).1 same.cover),
  )

module _ (v : Known) (S T : Tables) (k : StandsFor v S) where
  known_row : (e : Prefix) (r : Row) → row_of v.rows e ≡ Some r → ArePairs v.lists S e r.pairs × (r.marked ≡ marked_list S e)
  known_row e r at = (let t = row_there v.rows e r at in (pairs_at v S k e r at, (k.rows r t.0).marked ∙ ap (marked_list S) (sym t.1)))

  none_same : (e : Prefix) → has_entry S e ≡ false → has_entry T e ≡ false → SameEntry S T e
  none_same e was is = record {
    pairs = λ x own. (λ c. absurd (false≢true (sym was ∙ pair_entry S x e c (sym own))), λ c. absurd (false≢true (sym is ∙ pair_entry T x e c (sym own))));
    cover = λ p c kind. absurd (Contains-nil p (subst (λ l. Contains l p) (chosen-no_entry S e was) c));
  }

  -- what rows say of a prefix is kept exactly where the entry is the same
  pub row_same : (f : Fresh) → IsFresh T f → row_stays v.lists (row_of v.rows (prefix_in f)) f ≡ true ↔ SameEntry S T (prefix_in f)
  row_same f h = by (row_of v.rows (prefix_in f)) f refl h
    where
      by : (o : Option Row) (g : Fresh) → row_of v.rows (prefix_in g) ≡ o → IsFresh T g → row_stays v.lists o g ≡ true ↔ SameEntry S T (prefix_in g)
      by None (made.Gone e) at h = (λ t. none_same e (no_entry v S k e at) h, λ same. refl)
      by None (made.Entry g) at h =
          (λ t. absurd (false≢true t), λ same. absurd (not_same T S g.prefix h.effective (no_entry v S k g.prefix at) (λ x own. ((same.pairs x own).1, (same.pairs x own).0))))
      by (Some r) (made.Gone e) at h = (λ t. absurd (false≢true t), λ same. absurd (not_same S T e (row_entry v S k e r at) h same.pairs))
      by (Some r) (made.Entry g) at h = (let known = known_row g.prefix r at in entry_same v.lists S T k.sound r g known.0 known.1 h)

  pub unchanged_is : (f : Fresh) (o : Option Row) (b : Bool) → b ≡ row_stays v.lists o f → o ≡ row_of v.rows (prefix_in f) → IsFresh T f
      → IsTrue b ↔ SameEntry S T (prefix_in f)
  unchanged_is f o b is at h =
      let told : b ≡ row_stays v.lists (row_of v.rows (prefix_in f)) f = is ∙ ap (λ z. row_stays v.lists z f) at in
      (λ t. (row_same f h).0 (sym told ∙ t), λ same. told ∙ (row_same f h).1 same)
