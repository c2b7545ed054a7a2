-- Rows are alike exactly where the change doesn't touch their prefix.
use Rattle.std.proofs.Common.{is_some, ◌≡◌, ℕ, Bool, true, false, not, ◌&&◌, ◌||◌, ◌==◌, List, [], ◌∷◌, map, Option, Some, None, inl, inr, refl, sym, ◌∙◌, ap, subst, ◌↔◌, if◌then◌else◌}
use Rattle.std.specs.Prelude.{Contains, IsTrue}
use Rattle.std.specs.List.{list_any, list_all}
use Rattle.std.proofs.lemmas.Bool.{false≢true}
use Rattle.std.proofs.lemmas.Bool.Decides.{Decides-eqb}
use Rattle.fib_base_list.proofs.Lists.{either, Contains-nil}
use Rattle.fib_base_list.proofs.Booleans.{and_both}
use Rattle.fib_addr.specs.Prefixes.{Prefix, host, same_prefix}
use Rattle.fib_addr.proofs.PrefixLaws.{same_prefix-Decides}
use Rattle.fib_resolve.specs.Keys.{same_source, source_rank}
use Rattle.fib_resolve.specs.Aims.{kind_aim, kind_counts, marked, marked_list}
use Rattle.fib_resolve.specs.Pairs.{pairs, entries, chosen, cover}
use Rattle.fib_resolve.specs.Loops.{looped, looped_kind}
use Rattle.fib_resolve.specs.Tables.{IsSound}
use Rattle.fib_resolve.specs.Forwarding.{is_up, is_met}
use Rattle.fib_resolve.specs.Resolution.{mac_of, hop_end, attached_end}
use Rattle.fib_resolve.specs.Touched.{pairs_of, same_pairs, is_touched, kind_changes, differ, same_mac, other_mac, other_flag}
use Rattle.fib_resolve.specs.declared.aims.Aim.{Aim}
use Rattle.fib_resolve.specs.declared.aims.Aim.TheVariants as aims
use Rattle.fib_resolve.specs.declared.aims.Marked.{Marked}
use Rattle.fib_resolve.specs.declared.pairs.Pair.{Pair}
use Rattle.fib_resolve.specs.declared.types.Need.{Need}
use Rattle.fib_resolve.specs.declared.types.Path.{Path}
use Rattle.fib_resolve.specs.declared.types.PathKind.{PathKind}
use Rattle.fib_resolve.specs.declared.types.PathKind.TheVariants as kinds
use Rattle.fib_resolve.specs.declared.types.FibSource.{FibSource}
use Rattle.fib_resolve.specs.declared.types.End.{End}
use Rattle.fib_resolve.specs.declared.types.End.TheVariants as answers
use Rattle.fib_resolve.specs.declared.types.Tables.{Tables}
use Rattle.fib_resolve.proofs.OneList.{source_by_rank}
use Rattle.fib_resolve.proofs.Touching.{untouched_chosen, untouched_pairs}
use Rattle.fib_resolve_changes.specs.Sources.{SamePairs}
use Rattle.fib_resolve_changes.specs.Ranks.{has_entry}
use Rattle.fib_resolve.proofs.Entries.{is_entry}
use Rattle.fib_resolve.proofs.TouchedEntries.{touched_effective}
use Rattle.fib_resolve_changes.proofs.Targets.{pair_entry}
use Rattle.fib_resolve_changes.proofs.SamePairs.{same_chosen}
use Rattle.fib_resolve_changes.proofs.CauseLaws.{any_from, both_halves}
use Rattle.fib_resolve_changes.proofs.Edits.{any_in, in_cases, in_front, in_rest}
use Rattle.fib_base_interned.proofs.Finding.{some_is}
use Rattle.fib_entries_rows.specs.Known.{PathKept, Known, content_of, ArePairs, IsRow, StandsFor, row_of, kind_met}
use Rattle.fib_entries_rows.specs.inner.Compare.{is_content, is_that, has_that, all_there, AreAlike}
use Rattle.fib_entries_rows.specs.Rows.{Row}
use Rattle.fib_entries_rows.proofs.Telling.{from_pair}
use Rattle.fib_entries_rows.proofs.Taking.{list_is, list_self}
use Rattle.fib_entries_rows.proofs.Standing.{row_there, row_entry, no_entry}

-- booleans
pub same_bits : (b c : Bool) → differ b c ≡ false → b ≡ c
same_bits true true h = refl
same_bits true false h = absurd (false≢true (sym h))
same_bits false true h = absurd (false≢true (sym h))
same_bits false false h = refl

pub differ_not : (b c : Bool) → b ≡ c → differ b c ≡ false
differ_not true true e = refl
differ_not true false e = absurd (false≢true (sym e))
differ_not false true e = absurd (false≢true e)
differ_not false false e = refl

neither : (b c : Bool) → (b || c) ≡ false → (b ≡ false) × (c ≡ false)
neither true c h = absurd (false≢true (sym h))
neither false c h = (refl, h)

nor : (b c : Bool) → b ≡ false → c ≡ false → (b || c) ≡ false
nor true c h k = absurd (false≢true (sym h))
nor false c h k = k

not_either : (b c : Bool) → (not b || c) ≡ false → (b ≡ true) × (c ≡ false)
not_either true c h = (refl, h)
not_either false c h = absurd (false≢true (sym h))

pub any_fails : {X : Type 0} (test : X → Bool) (xs : List X) (x : X) → list_any test xs ≡ false → Contains xs x → test x ≡ false
any_fails test [] x h c = absurd (Contains-nil x c)
any_fails test (y ∷ ys) x h c = elim (in_cases y x ys c) [ inl is ↦ subst (λ z. test z ≡ false) is (neither (test y) (list_any test ys) h).0 | inr later ↦ any_fails test ys x (neither (test y) (list_any test ys) h).1 later ]

pub none_passes : {X : Type 0} (test : X → Bool) (xs : List X) → ((x : X) → Contains xs x → test x ≡ false) → list_any test xs ≡ false
none_passes test [] h = refl
none_passes test (x ∷ xs) h = nor (test x) (list_any test xs) (h x (in_front x x xs refl)) (none_passes test xs (λ y c. h y (in_rest x y xs c)))

pub all_pass : {X : Type 0} (test : X → Bool) (xs : List X) → ((x : X) → Contains xs x → test x ≡ true) → list_all test xs ≡ true
all_pass test [] h = refl
all_pass test (x ∷ xs) h = rw (h x (in_front x x xs refl)) (all_pass test xs (λ y c. h y (in_rest x y xs c)))

one_passes : {X : Type 0} (test : X → Bool) (xs : List X) (x : X) → list_all test xs ≡ true → Contains xs x → test x ≡ true
one_passes test [] x h c = absurd (Contains-nil x c)
one_passes test (y ∷ ys) x h c = elim (in_cases y x ys c) [ inl is ↦ subst (λ z. test z ≡ true) is (and_both (test y) (list_all test ys) h).0 | inr later ↦ one_passes test ys x (and_both (test y) (list_all test ys) h).1 later ]

pub map_same : {X Y : Type 0} (f g : X → Y) (xs : List X) → ((x : X) → Contains xs x → f x ≡ g x) → map f xs ≡ map g xs
map_same f g [] h = refl
map_same f g (x ∷ xs) h = ap (λ y. y ∷ map f xs) (h x (in_front x x xs refl)) ∙ ap (λ ys. g x ∷ ys) (map_same f g xs (λ y c. h y (in_rest x y xs c)))

front_same : {Y : Type 0} (x y : Y) (xs ys : List Y) → x ∷ xs ≡ y ∷ ys → (x ≡ y) × (xs ≡ ys)
front_same x y xs ys e = ((cc), (cc))

same_map : {X Y : Type 0} (f g : X → Y) (xs : List X) → map f xs ≡ map g xs → (x : X) → Contains xs x → f x ≡ g x
same_map f g [] e x c = absurd (Contains-nil x c)
same_map f g (y ∷ ys) e x c = let both = front_same (f y) (g y) (map f ys) (map g ys) e in
    elim (in_cases y x ys c) [ inl is ↦ subst (λ z. f z ≡ g z) is both.0 | inr later ↦ same_map f g ys both.1 x later ]

-- pairs
pub that_is : (lists : List PathKept) (source : FibSource) (paths : List Path) (p : FibSource × ℕ) → is_that lists source paths p ≡ true → (p.0 ≡ source) × (content_of lists p.1 ≡ Some paths)
that_is lists source paths p h =
    let both = and_both (same_source p.0 source) (is_content (content_of lists p.1) paths) h in
    (source_by_rank p.0 source ((Decides-eqb (source_rank p.0) (source_rank source)).0 both.0), by (content_of lists p.1) refl both.1)
  where
    by : (o : Option (List Path)) → content_of lists p.1 ≡ o → is_content o paths ≡ true → content_of lists p.1 ≡ Some paths
    by None e k = absurd (false≢true k)
    by (Some ps) e k = e ∙ ap Some (list_is ps paths k)

pub is_that_one : (lists : List PathKept) (source : FibSource) (paths : List Path) (p : FibSource × ℕ) → p.0 ≡ source → content_of lists p.1 ≡ Some paths → is_that lists source paths p ≡ true
is_that_one lists source paths p s is =
    rw ((Decides-eqb (source_rank p.0) (source_rank source)).1 (ap source_rank s)) (ap (λ o. is_content o paths) is ∙ list_self paths)

module _ (lists others : List PathKept) (S T : Tables) (e : Prefix) (ps qs : List (FibSource × ℕ)) (before : ArePairs lists S e ps) (after : ArePairs others T e qs) where
  pub half_from : all_there lists ps others qs ≡ true → (x : Pair) → e ≡ x.prefix → Contains (pairs S) x → Contains (pairs T) x
  half_from h x own c =
      let f = before.found x c own in
      let has : has_that others qs f.0.0 (content_of lists f.0.1) ≡ true = one_passes (λ p. has_that others qs p.0 (content_of lists p.1)) ps f.0 h f.1 in
      let any : list_any (is_that others f.0.0 x.paths) qs ≡ true = subst (λ o. has_that others qs f.0.0 o ≡ true) f.2.1 has in
      let q = any_from (is_that others f.0.0 x.paths) qs any in
      let is = that_is others f.0.0 x.paths q.0 q.2 in
      let r = after.real q.0 q.1 in
      let same : r.0 ≡ x = from_pair r.0 x (sym r.2 ∙ own) (sym r.3.0 ∙ is.0 ∙ f.2.0) (some_is r.0.paths x.paths (sym r.3.1 ∙ is.1)) in
      subst (Contains (pairs T)) same r.1

  pub half_to : ((x : Pair) → e ≡ x.prefix → Contains (pairs S) x → Contains (pairs T) x) → all_there lists ps others qs ≡ true
  half_to h = all_pass (λ p. has_that others qs p.0 (content_of lists p.1)) ps (λ p c.
      let r = before.real p c in
      let f = after.found r.0 (h r.0 r.2 r.1) r.2 in
      subst (λ o. has_that others qs p.0 o ≡ true) (sym r.3.1) (any_in (is_that others p.0 r.0.paths) qs f.0 f.1 (is_that_one others p.0 r.0.paths f.0 (f.2.0 ∙ sym r.3.0) f.2.1)))

-- marks of one path
mac_same : (m n : Option ℕ) → not (same_mac m n) ≡ false → m ≡ n
mac_same None None h = refl
mac_same None (Some n) h = absurd (false≢true (sym h))
mac_same (Some m) None h = absurd (false≢true (sym h))
mac_same (Some m) (Some n) h = ap Some ((Decides-eqb m n).0 (unturned (m == n) h))
  where
    unturned : (b : Bool) → not b ≡ false → b ≡ true
    unturned true k = refl
    unturned false k = absurd (false≢true (sym k))

mac_self : (m n : Option ℕ) → m ≡ n → not (same_mac m n) ≡ false
mac_self m n e = subst (λ z. not (same_mac m z) ≡ false) e (itself m)
  where
    itself : (m : Option ℕ) → not (same_mac m m) ≡ false
    itself None = refl
    itself (Some n) = ap not ((Decides-eqb n n).1 refl)

hop_mac : (i a : ℕ) (m n : Option ℕ) → answers.Hop i a m ≡ answers.Hop i a n → m ≡ n
hop_mac i a m n e = (cc)

end_is : (x y : End) → aims.Ends x ≡ aims.Ends y → x ≡ y
end_is x y e = (cc)

on_is : (x y : Prefix) → aims.On x ≡ aims.On y → x ≡ y
on_is x y e = (cc)

mark_with : Aim → Bool → Path → Marked
mark_with m b p = record { aim = m; counts = b; weight = p.weight; preference = p.preference }

attached_same : (S T : Tables) (e : Prefix) (i : ℕ) (b : Bool) → (b && other_mac S T i e.bits) ≡ false → (if b then hop_end S i e.bits else answers.Glean i) ≡ (if b then hop_end T i e.bits else answers.Glean i)
attached_same S T e i true h = ap (λ (m : Option ℕ). answers.Hop i e.bits m) (mac_same (mac_of S i e.bits) (mac_of T i e.bits) h)
attached_same S T e i false h = refl

same_attached : (S T : Tables) (e : Prefix) (i : ℕ) (b : Bool) → (if b then hop_end S i e.bits else answers.Glean i) ≡ (if b then hop_end T i e.bits else answers.Glean i) → (b && other_mac S T i e.bits) ≡ false
same_attached S T e i true h = mac_self (mac_of S i e.bits) (mac_of T i e.bits) (hop_mac i e.bits _ _ h)
same_attached S T e i false h = refl

module _ (S T : Tables) (e : Prefix) where
  -- a path that means the same is marked alike
  keeps : (p : Path) (kind : PathKind) → kind_changes S T e p.need kind ≡ false → mark_with (kind_aim S e kind) (kind_counts S e p.need kind) p ≡ mark_with (kind_aim T e kind) (kind_counts T e p.need kind) p
  unfolding mark_with
  keeps p kinds.Drop h = refl
  keeps p kinds.Local h = refl
  keeps p (kinds.Attached i) h =
      let both = neither (other_flag S T i) ((e.len == 32) && other_mac S T i e.bits) h in
      ap (λ (end : End). mark_with (aims.Ends end) (is_up S i) p) (attached_same S T e i (e.len == 32) both.1) ∙ ap (λ b. mark_with (aims.Ends (attached_end T e i)) b p) (same_bits (is_up S i) (is_up T i) both.0)
  keeps p (kinds.Hop a i) h =
      let both = neither (other_flag S T i) (other_mac S T i a) h in
      ap (λ (m : Option ℕ). mark_with (aims.Ends (answers.Hop i a m)) (is_up S i) p) (mac_same (mac_of S i a) (mac_of T i a) both.1) ∙ ap (λ b. mark_with (aims.Ends (hop_end T i a)) b p) (same_bits (is_up S i) (is_up T i) both.0)
  keeps p (kinds.Recursive a) h =
      let both = neither (differ (looped S e a) (looped T e a)) (differ (is_met S p.need a) (is_met T p.need a)) h in
      ap (λ b. mark_with (aims.On (host a)) (not b && is_met S p.need a) p) (same_bits (looped S e a) (looped T e a) both.0) ∙ ap (λ b. mark_with (aims.On (host a)) (not (looped T e a) && b) p) (same_bits (is_met S p.need a) (is_met T p.need a) both.1)
  keeps p kinds.Cover h = ap (λ q. mark_with (aims.On q) true p) ((same_prefix-Decides (cover S e.bits) (cover T e.bits)).0 (unturned (same_prefix (cover S e.bits) (cover T e.bits)) h))
    where
      unturned : (b : Bool) → not b ≡ false → b ≡ true
      unturned true k = refl
      unturned false k = absurd (false≢true (sym k))

  keeps_looped : (need : Need) (kind : PathKind) → kind_changes S T e need kind ≡ false → looped_kind S e kind ≡ looped_kind T e kind
  keeps_looped need kinds.Drop h = refl
  keeps_looped need kinds.Local h = refl
  keeps_looped need (kinds.Attached i) h = refl
  keeps_looped need (kinds.Hop a i) h = refl
  keeps_looped need (kinds.Recursive a) h = same_bits (looped S e a) (looped T e a) (neither (differ (looped S e a) (looped T e a)) (differ (is_met S need a) (is_met T need a)) h).0
  keeps_looped need kinds.Cover h = refl

  keeps_met : (need : Need) (kind : PathKind) → kind_changes S T e need kind ≡ false → kind_met S need kind ≡ kind_met T need kind
  keeps_met need kinds.Drop h = refl
  keeps_met need kinds.Local h = refl
  keeps_met need (kinds.Attached i) h = refl
  keeps_met need (kinds.Hop a i) h = refl
  keeps_met need (kinds.Recursive a) h = same_bits (is_met S need a) (is_met T need a) (neither (differ (looped S e a) (looped T e a)) (differ (is_met S need a) (is_met T need a)) h).1
  keeps_met need kinds.Cover h = refl

  -- and one that is marked alike means the same
  kept : (p : Path) (kind : PathKind) → looped_kind S e kind ≡ looped_kind T e kind → kind_met S p.need kind ≡ kind_met T p.need kind → mark_with (kind_aim S e kind) (kind_counts S e p.need kind) p ≡ mark_with (kind_aim T e kind) (kind_counts T e p.need kind) p
      → kind_changes S T e p.need kind ≡ false
  unfolding mark_with
  kept p kinds.Drop l m h = refl
  kept p kinds.Local l m h = refl
  kept p (kinds.Attached i) l m h =
      nor (other_flag S T i) ((e.len == 32) && other_mac S T i e.bits) (differ_not (is_up S i) (is_up T i) (ap (λ z. z.counts) h))
      (same_attached S T e i (e.len == 32) (end_is (attached_end S e i) (attached_end T e i) (ap (λ z. z.aim) h)))
  kept p (kinds.Hop a i) l m h =
      nor (other_flag S T i) (other_mac S T i a) (differ_not (is_up S i) (is_up T i) (ap (λ z. z.counts) h))
      (mac_self (mac_of S i a) (mac_of T i a) (hop_mac i a (mac_of S i a) (mac_of T i a) (end_is (hop_end S i a) (hop_end T i a) (ap (λ z. z.aim) h))))
  kept p (kinds.Recursive a) l m h =
      nor (differ (looped S e a) (looped T e a)) (differ (is_met S p.need a) (is_met T p.need a)) (differ_not (looped S e a) (looped T e a) l) (differ_not (is_met S p.need a) (is_met T p.need a) m)
  kept p kinds.Cover l m h = ap not ((same_prefix-Decides (cover S e.bits) (cover T e.bits)).1 (on_is (cover S e.bits) (cover T e.bits) (ap (λ z. z.aim) h)))

  changes_none : is_touched S T e ≡ false → list_any (λ p. kind_changes S T e p.need p.kind) (chosen S e) ≡ false
  unfolding is_touched
  changes_none h = (not_either (same_pairs (pairs_of S e) (pairs_of T e)) (list_any (λ p. kind_changes S T e p.need p.kind) (chosen S e)) h).1

  untouched_by : SamePairs S T e → list_any (λ p. kind_changes S T e p.need p.kind) (chosen S e) ≡ false → is_touched S T e ≡ false
  unfolding is_touched
  untouched_by same none = rw (both_halves S T e same) none

-- what isn't touched keeps the marks of its paths
module _ (S T : Tables) (e : Prefix) (sound : IsSound T) (u : is_touched S T e ≡ false) where
  quiet_kind : (p : Path) → Contains (chosen S e) p → kind_changes S T e p.need p.kind ≡ false
  quiet_kind p c = any_fails (λ q. kind_changes S T e q.need q.kind) (chosen S e) p (changes_none S T e u) c

  pub looped_kept : map (λ p. looped_kind S e p.kind) (chosen S e) ≡ map (λ p. looped_kind T e p.kind) (chosen T e)
  looped_kept = map_same (λ p. looped_kind S e p.kind) (λ p. looped_kind T e p.kind) (chosen S e) (λ p c. keeps_looped S T e p.need p.kind (quiet_kind p c)) ∙ ap (map (λ p. looped_kind T e p.kind)) (untouched_chosen S T e sound u)

  pub met_kept : map (λ p. kind_met S p.need p.kind) (chosen S e) ≡ map (λ p. kind_met T p.need p.kind) (chosen T e)
  met_kept = map_same (λ p. kind_met S p.need p.kind) (λ p. kind_met T p.need p.kind) (chosen S e) (λ p c. keeps_met S T e p.need p.kind (quiet_kind p c)) ∙ ap (map (λ p. kind_met T p.need p.kind)) (untouched_chosen S T e sound u)

module _ (v w : Known) (S T : Tables) (h : StandsFor v S) (k : StandsFor w T) (e : Prefix) (r s : Row) (at : row_of v.rows e ≡ Some r) (there : row_of w.rows e ≡ Some s) where
  before_is : IsRow v.lists S r × (e ≡ r.prefix)
  before_is = let t = row_there v.rows e r at in (h.rows r t.0, t.1)

  after_is : IsRow w.lists T s × (e ≡ s.prefix)
  after_is = let t = row_there w.rows e s there in (k.rows s t.0, t.1)

  before_pairs : ArePairs v.lists S e r.pairs
  before_pairs = subst (λ z. ArePairs v.lists S z r.pairs) (sym before_is.1) before_is.0.pairs

  after_pairs : ArePairs w.lists T e s.pairs
  after_pairs = subst (λ z. ArePairs w.lists T z s.pairs) (sym after_is.1) after_is.0.pairs

  looped_before : r.looped ≡ map (λ p. looped_kind S e p.kind) (chosen S e)
  looped_before = before_is.0.looped ∙ ap (λ z. map (λ p. looped_kind S z p.kind) (chosen S z)) (sym before_is.1)

  looped_after : s.looped ≡ map (λ p. looped_kind T e p.kind) (chosen T e)
  looped_after = after_is.0.looped ∙ ap (λ z. map (λ p. looped_kind T z p.kind) (chosen T z)) (sym after_is.1)

  met_before : r.met ≡ map (λ p. kind_met S p.need p.kind) (chosen S e)
  met_before = before_is.0.met ∙ ap (λ z. map (λ p. kind_met S p.need p.kind) (chosen S z)) (sym before_is.1)

  met_after : s.met ≡ map (λ p. kind_met T p.need p.kind) (chosen T e)
  met_after = after_is.0.met ∙ ap (λ z. map (λ p. kind_met T p.need p.kind) (chosen T z)) (sym after_is.1)

  marked_before : r.marked ≡ map (marked S e) (chosen S e)
  unfolding marked_list
  marked_before = before_is.0.marked ∙ ap (marked_list S) (sym before_is.1)

  marked_after : s.marked ≡ map (marked T e) (chosen T e)
  unfolding marked_list
  marked_after = after_is.0.marked ∙ ap (marked_list T) (sym after_is.1)

  pub alike_untouched : AreAlike v.lists w.lists r s → is_touched S T e ≡ false
  unfolding mark_with
  alike_untouched a =
      let same : SamePairs S T e = λ x own. (half_from v.lists w.lists S T e r.pairs s.pairs before_pairs after_pairs a.there x own, half_from w.lists v.lists T S e s.pairs r.pairs after_pairs before_pairs a.back x own) in
      let one = same_chosen S T e k.sound same in
      let l = sym looped_before ∙ a.looped ∙ looped_after ∙ ap (map (λ p. looped_kind T e p.kind)) (sym one) in
      let m = sym met_before ∙ a.met ∙ met_after ∙ ap (map (λ p. kind_met T p.need p.kind)) (sym one) in
      let n = sym marked_before ∙ a.marked ∙ marked_after ∙ ap (map (marked T e)) (sym one) in
      untouched_by S T e same (none_passes (λ p. kind_changes S T e p.need p.kind) (chosen S e) (λ p c.
      kept S T e p p.kind (same_map (λ p. looped_kind S e p.kind) (λ p. looped_kind T e p.kind) (chosen S e) l p c) (same_map (λ p. kind_met S p.need p.kind) (λ p. kind_met T p.need p.kind) (chosen S e) m p c)
      (same_map (marked S e) (marked T e) (chosen S e) n p c)))

  pub untouched_alike : is_touched S T e ≡ false → AreAlike v.lists w.lists r s
  unfolding mark_with
  untouched_alike u =
      let same : SamePairs S T e = λ x own. untouched_pairs S T e x u own in
      let one = untouched_chosen S T e k.sound u in
      let quiet : (p : Path) → Contains (chosen S e) p → kind_changes S T e p.need p.kind ≡ false = λ p c. any_fails (λ q. kind_changes S T e q.need q.kind) (chosen S e) p (changes_none S T e u) c in
      record {
        there = half_to v.lists w.lists S T e r.pairs s.pairs before_pairs after_pairs (λ x own. (same x own).0);
        back = half_to w.lists v.lists T S e s.pairs r.pairs after_pairs before_pairs (λ x own. (same x own).1);
        looped = looped_before ∙ map_same (λ p. looped_kind S e p.kind) (λ p. looped_kind T e p.kind) (chosen S e) (λ p c. keeps_looped S T e p.need p.kind (quiet p c)) ∙ ap (map (λ p. looped_kind T e p.kind)) one ∙ sym looped_after;
        met = met_before ∙ map_same (λ p. kind_met S p.need p.kind) (λ p. kind_met T p.need p.kind) (chosen S e) (λ p c. keeps_met S T e p.need p.kind (quiet p c)) ∙ ap (map (λ p. kind_met T p.need p.kind)) one ∙ sym met_after;
        marked = marked_before ∙ map_same (marked S e) (marked T e) (chosen S e) (λ p c. keeps S T e p p.kind (quiet p c)) ∙ ap (map (marked T e)) one ∙ sym marked_after;
      }

-- the answer by the rows on both sides
module _ (v w : Known) (S T : Tables) (h : StandsFor v S) (k : StandsFor w T) (e : Prefix) where
  entry_of : (U : Tables) → has_entry U e ≡ true → (x : Pair) × Contains (pairs U) x × (e ≡ x.prefix)
  entry_of U is = let r = any_from (λ x. same_prefix e x.prefix) (pairs U) (sym (is_entry U e) ∙ is) in (r.0, r.1, (same_prefix-Decides e r.0.prefix).0 r.2)

  pub both_rows : (r s : Row) (b : Bool) → row_of v.rows e ≡ Some r → row_of w.rows e ≡ Some s → IsTrue b ↔ AreAlike v.lists w.lists r s → not b ≡ is_touched S T e
  both_rows r s true at there is = sym (alike_untouched v w S T h k e r s at there (is.0 refl))
  both_rows r s false at there is = elim (either (is_touched S T e)) [
    | inl yes_touched ↦ sym yes_touched
    | inr no_touched ↦ absurd (false≢true (is.1 (untouched_alike v w S T h k e r s at there no_touched)))
  ]

  pub only_before : (r : Row) → row_of v.rows e ≡ Some r → row_of w.rows e ≡ None → true ≡ is_touched S T e
  only_before r at none = elim (either (is_touched S T e)) [
    | inl yes_touched ↦ sym yes_touched
    | inr no_touched ↦ (let x = entry_of S (row_entry v S h e r at) in
        absurd (false≢true (sym (no_entry w T k e none) ∙ pair_entry T x.0 e ((untouched_pairs S T e x.0 no_touched x.2).0 x.1) (sym x.2))))
  ]

  pub not_before : (o : Option Row) → row_of v.rows e ≡ None → row_of w.rows e ≡ o → is_some o ≡ is_touched S T e
  not_before None none there = elim (either (is_touched S T e)) [
    | inr no_touched ↦ sym no_touched
    | inl yes_touched ↦ elim (touched_effective S T e yes_touched) [
      | inl before ↦ absurd (false≢true (sym (no_entry v S h e none) ∙ any_in (same_prefix e) (entries S) e before ((same_prefix-Decides e e).1 refl)))
      | inr after ↦ absurd (false≢true (sym (no_entry w T k e there) ∙ any_in (same_prefix e) (entries T) e after ((same_prefix-Decides e e).1 refl)))
    ]
  ]
  not_before (Some s) none there = elim (either (is_touched S T e)) [
    | inl yes_touched ↦ sym yes_touched
    | inr no_touched ↦ (let x = entry_of T (row_entry w T k e s there) in
        absurd (false≢true (sym (no_entry v S h e none) ∙ pair_entry S x.0 e ((untouched_pairs S T e x.0 no_touched x.2).1 x.1) (sym x.2))))
  ]
