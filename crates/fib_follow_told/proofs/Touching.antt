-- A prefix is touched exactly where what its row has differs from what it has after the change.
use Rattle.std.proofs.Common.{◌≡◌, ◌≢◌, ℕ, Bool, true, false, not, ◌&&◌, ◌||◌, ◌==◌, List, [], ◌∷◌, map, filter, Option, Some, None, inl, inr, refl}
use Rattle.std.proofs.Common.{sym, ◌∙◌, ap, subst, ◌↔◌, if◌then◌else◌}
use Rattle.std.specs.Prelude.{Contains}
use Rattle.std.specs.List.{list_all, list_any}
use Rattle.std.specs.Set.{is_member}
use Rattle.std.proofs.lemmas.Bool.{false≢true}
use Rattle.std.proofs.lemmas.Bool.Decides.{Decides-eqb}
use Rattle.fib_base_list.proofs.Lists.{either, Contains-nil}
use Rattle.fib_base_list.proofs.Booleans.{and_both}
use Rattle.fib_base_interned.proofs.Finding.{some_is}
use Rattle.fib_addr.specs.Prefixes.{Prefix, same_prefix}
use Rattle.fib_addr.proofs.PrefixLaws.{same_prefix-Decides}
use Rattle.fib_reach.specs.Walks.{AllDiffer}
use Rattle.fib_resolve.specs.Aims.{kind_aim, kind_counts, marked, marked_list}
use Rattle.fib_resolve.specs.Forwarding.{is_up, is_met}
use Rattle.fib_resolve.specs.Keys.{source_rank}
use Rattle.fib_resolve.specs.Loops.{looped, looped_kind}
use Rattle.fib_resolve.specs.Pairs.{chosen, cover, entries, pairs}
use Rattle.fib_resolve.specs.Resolution.{attached_end, hop_end, mac_of}
use Rattle.fib_resolve.specs.Tables.{IsSound}
use Rattle.fib_resolve.specs.Touched.{differ, is_touched, kind_changes, other_flag, other_mac, same_mac}
use Rattle.fib_resolve.specs.declared.aims.Aim.TheVariants as aims
use Rattle.fib_resolve.specs.declared.aims.Marked.{Marked}
use Rattle.fib_resolve.specs.declared.pairs.Pair.{Pair}
use Rattle.fib_resolve.specs.declared.types.End.{End}
use Rattle.fib_resolve.specs.declared.types.End.TheVariants as answers
use Rattle.fib_resolve.specs.declared.types.FibSource.{FibSource}
use Rattle.fib_resolve.specs.declared.types.Need.{Need}
use Rattle.fib_resolve.specs.declared.types.PathKind.{PathKind}
use Rattle.fib_resolve.specs.declared.types.PathKind.TheVariants as kinds
use Rattle.fib_resolve.specs.declared.types.Tables.{Tables}
use Rattle.fib_resolve.proofs.Covering.{filter_in, filter_from}
use Rattle.fib_resolve.proofs.TouchedEntries.{touched_effective}
use Rattle.fib_resolve.proofs.Touching.{untouched_pairs}
use Rattle.fib_resolve_changes.specs.Ranks.{has_entry}
use Rattle.fib_resolve_changes.specs.Reached.{HoldsTouched}
use Rattle.fib_resolve_changes.specs.Sources.{SamePairs}
use Rattle.fib_resolve_changes.proofs.CauseLaws.{any_from, both_halves}
use Rattle.fib_resolve_changes.proofs.Edits.{any_in, in_cases}
use Rattle.fib_resolve_changes.proofs.MarkLaws.{untouched_marked}
use Rattle.fib_resolve_changes.proofs.Reached.{quiet_beside}
use Rattle.fib_resolve_changes.proofs.SamePairs.{map_from, map_in, same_chosen}
use Rattle.fib_entries_rows.specs.Changes.{AreTouched}
use Rattle.fib_entries_rows.specs.Known.{ArePairs, IsHeld, PathKept, kind_met, row_of}
use Rattle.fib_entries_rows.specs.Rows.{Row}
use Rattle.fib_entries_rows.specs.inner.Compare.{is_content, is_that}
use Rattle.fib_entries_rows.proofs.Alike.{bits_pass, marks_pass}
use Rattle.fib_entries_rows.proofs.Comparing.{all_pass, differ_not, looped_kept, met_kept, none_passes, that_is}
use Rattle.fib_entries_rows.proofs.Standing.{no_entry, pairs_at, row_there}
use Rattle.fib_entries_rows.proofs.Taking.{list_self}
use Rattle.fib_entries_rows.proofs.Telling.{from_pair}
use Rattle.fib_follow_view.specs.Views.{IsAfter, Seen, is_changed, made_of}
use Rattle.fib_follow_view.specs.declared.view.Anew.{Anew}
use Rattle.fib_follow_view.specs.inner.Told.{entry_by}
use Rattle.fib_follow_view.proofs.After.{entry_after, made_there, same_beside, same_there}
use Rattle.fib_follow_part.proofs.Parting.{among}
use Rattle.fib_follow_told.specs.Told.{AreBodies, IsBody, body_prefix}
use Rattle.fib_follow_told.specs.declared.body.Body.{Body}
use Rattle.fib_follow_told.specs.inner.Tests.{has_pair, is_alike, is_held, made_touched, row_touched, same_bits, same_marks, same_pairs}
use Rattle.fib_follow_told.specs.inner.Tests.{touched_at, touched_by}
use Rattle.fib_follow_told.proofs.Gathering.{each_in, head_differs}

-- booleans
nor : (b c : Bool) → b ≡ false → c ≡ false → (b || c) ≡ false
nor true c h k = absurd (false≢true (sym h))
nor false c h k = k

both_are : (b c : Bool) → b ≡ true → c ≡ true → (b && c) ≡ true
both_are b c h k = rw h k

not_both : (b c : Bool) → (b ≡ true → c ≡ false) → (c ≡ false → b ≡ true) → not b ≡ c
not_both true c f g = sym (f refl)
not_both false true f g = refl
not_both false false f g = absurd (false≢true (g refl))

all_passed : {X : Type 0} (test : X → Bool) (xs : List X) (x : X) → list_all test xs ≡ true → Contains xs x → test x ≡ true
all_passed test [] x h c = absurd (Contains-nil x c)
all_passed test (y ∷ ys) x h c = (let both = and_both (test y) (list_all test ys) h in elim (in_cases y x ys c) [
  | inl is ↦ subst (λ z. test z ≡ true) is both.0
  | inr later ↦ all_passed test ys x both.1 later
])

front_same : {Y : Type 0} (x y : Y) (xs ys : List Y) → x ∷ xs ≡ y ∷ ys → (x ≡ y) × (xs ≡ ys)
front_same x y xs ys e = ((cc), (cc))

same_map : {X Y : Type 0} (f g : X → Y) (xs : List X) → map f xs ≡ map g xs → (x : X) → Contains xs x → f x ≡ g x
same_map f g [] e x c = absurd (Contains-nil x c)
same_map f g (y ∷ ys) e x c = (let both = front_same (f y) (g y) (map f ys) (map g ys) e in elim (in_cases y x ys c) [
  | inl is ↦ subst (λ z. f z ≡ g z) is both.0
  | inr later ↦ same_map f g ys both.1 x later
])

-- pairs
module _ (lists : List PathKept) (S T : Tables) (e : Prefix) (held : List (FibSource × ℕ)) (ys : List Pair)
    (before : ArePairs lists S e held) (after : (y : Pair) → Contains ys y ↔ (Contains (pairs T) y × (e ≡ y.prefix))) where
  that_one : (p : FibSource × ℕ) (x : Pair) → IsHeld lists p x → is_that lists x.source x.paths p ≡ true
  that_one p x h = rw ((Decides-eqb (source_rank p.0) (source_rank x.source)).1 (ap source_rank h.0)) (ap (λ o. is_content o x.paths) h.1 ∙ list_self x.paths)

  held_pair : (p : FibSource × ℕ) (x y : Pair) → IsHeld lists p x → IsHeld lists p y → e ≡ x.prefix → e ≡ y.prefix → x ≡ y
  held_pair p x y h k mine own = from_pair x y (sym mine ∙ own) (sym h.0 ∙ k.0) (some_is x.paths y.paths (sym h.1 ∙ k.1))

  same_from : same_pairs lists held ys ≡ true → SamePairs S T e
  same_from h x own = (
    λ c. (let f = before.found x c own in
        let q = any_from (λ y. is_that lists y.source y.paths f.0) ys (all_passed (has_pair lists ys) held f.0 both.0 f.1) in
        let r = (after q.0).0 q.1 in
        subst (Contains (pairs T)) (held_pair f.0 q.0 x (that_is lists q.0.source q.0.paths f.0 q.2) f.2 r.1 own) r.0),
    λ c. (let q = any_from (is_that lists x.source x.paths) held (all_passed (is_held lists held) ys x both.1 ((after x).1 (c, own))) in
        let r = before.real q.0 q.1 in
        subst (Contains (pairs S)) (held_pair q.0 r.0 x r.3 (that_is lists x.source x.paths q.0 q.2) r.2 own) r.1),
  )
    where
      both : (list_all (has_pair lists ys) held ≡ true) × (list_all (is_held lists held) ys ≡ true)
      both = and_both (list_all (has_pair lists ys) held) (list_all (is_held lists held) ys) h

  same_to : SamePairs S T e → same_pairs lists held ys ≡ true
  same_to same = both_are (list_all (has_pair lists ys) held) (list_all (is_held lists held) ys)
      (all_pass (has_pair lists ys) held (λ p c. (let r = before.real p c in
      any_in (λ y. is_that lists y.source y.paths p) ys r.0 ((after r.0).1 ((same r.0 r.2).0 r.1, r.2)) (that_one p r.0 r.3))))
      (all_pass (is_held lists held) ys (λ x c. (let r = (after x).0 c in
      let f = before.found x ((same x r.1).1 r.0) r.1 in
      any_in (is_that lists x.source x.paths) held f.0 f.1 (that_one f.0 x f.2))))

-- a path that is marked alike means the same
mac_self : (m n : Option ℕ) → m ≡ n → not (same_mac m n) ≡ false
mac_self m n e = subst (λ z. not (same_mac m z) ≡ false) e (itself m)
  where
    itself : (m : Option ℕ) → not (same_mac m m) ≡ false
    itself None = refl
    itself (Some n) = ap not ((Decides-eqb n n).1 refl)

hop_mac : (i a : ℕ) (m n : Option ℕ) → answers.Hop i a m ≡ answers.Hop i a n → m ≡ n
hop_mac i a m n e = (cc)

end_is : (x y : End) → aims.Ends x ≡ aims.Ends y → x ≡ y
end_is x y e = (cc)

on_is : (x y : Prefix) → aims.On x ≡ aims.On y → x ≡ y
on_is x y e = (cc)

same_attached : (S T : Tables) (e : Prefix) (i : ℕ) (b : Bool)
    → (if b then hop_end S i e.bits else answers.Glean i) ≡ (if b then hop_end T i e.bits else answers.Glean i)
    → (b && other_mac S T i e.bits) ≡ false
same_attached S T e i true h = mac_self (mac_of S i e.bits) (mac_of T i e.bits) (hop_mac i e.bits _ _ h)
same_attached S T e i false h = refl

kind_quiet : (S T : Tables) (e : Prefix) (need : Need) (kind : PathKind) → looped_kind S e kind ≡ looped_kind T e kind
    → kind_met S need kind ≡ kind_met T need kind → kind_aim S e kind ≡ kind_aim T e kind → kind_counts S e need kind ≡ kind_counts T e need kind
    → kind_changes S T e need kind ≡ false
kind_quiet S T e need kinds.Drop l m a c = refl
kind_quiet S T e need kinds.Local l m a c = refl
kind_quiet S T e need (kinds.Attached i) l m a c =
    nor (other_flag S T i) ((e.len == 32) && other_mac S T i e.bits) (differ_not (is_up S i) (is_up T i) c)
    (same_attached S T e i (e.len == 32) (end_is (attached_end S e i) (attached_end T e i) a))
kind_quiet S T e need (kinds.Hop b i) l m a c =
    nor (other_flag S T i) (other_mac S T i b) (differ_not (is_up S i) (is_up T i) c)
    (mac_self (mac_of S i b) (mac_of T i b) (hop_mac i b (mac_of S i b) (mac_of T i b) (end_is (hop_end S i b) (hop_end T i b) a)))
kind_quiet S T e need (kinds.Recursive b) l m a c =
    nor (differ (looped S e b) (looped T e b)) (differ (is_met S need b) (is_met T need b))
    (differ_not (looped S e b) (looped T e b) l) (differ_not (is_met S need b) (is_met T need b) m)
kind_quiet S T e need kinds.Cover l m a c =
    ap not ((same_prefix-Decides (cover S e.bits) (cover T e.bits)).1 (on_is (cover S e.bits) (cover T e.bits) a))

untouched_by : (S T : Tables) (e : Prefix) → SamePairs S T e → list_any (λ p. kind_changes S T e p.need p.kind) (chosen S e) ≡ false
    → is_touched S T e ≡ false
unfolding is_touched
untouched_by S T e same none = rw (both_halves S T e same) none

-- what a row and a body have
module _ (S T : Tables) (sound : IsSound T) (e : Prefix) (r : Row) (b : Body) (own : b.prefix ≡ e) (is : IsBody T b)
    (was_looped : r.looped ≡ map (λ p. looped_kind S e p.kind) (chosen S e))
    (was_met : r.met ≡ map (λ p. kind_met S p.need p.kind) (chosen S e)) (was_marked : r.marked ≡ marked_list S e) where
  is_looped : b.looped ≡ map (λ p. looped_kind T e p.kind) (chosen T e)
  is_looped = is.looped ∙ ap (λ z. map (λ p. looped_kind T z p.kind) (chosen T z)) own

  are_met : b.met ≡ map (λ p. kind_met T p.need p.kind) (chosen T e)
  are_met = is.met ∙ ap (λ z. map (λ p. kind_met T p.need p.kind) (chosen T z)) own

  are_marked : b.marked ≡ marked_list T e
  are_marked = is.marked ∙ ap (marked_list T) own

  abbrev Alike : Type 0
  Alike = (r.looped ≡ b.looped) × (r.met ≡ b.met) × (r.marked ≡ b.marked)

  alike_from : is_alike r b ≡ true → Alike
  alike_from h =
      let x = and_both (same_bits r.looped b.looped) (same_bits r.met b.met && same_marks r.marked b.marked) h in
      let y = and_both (same_bits r.met b.met) (same_marks r.marked b.marked) x.1 in (
        (bits_pass (same_bits r.looped b.looped) r.looped b.looped refl).0 x.0,
        (bits_pass (same_bits r.met b.met) r.met b.met refl).0 y.0,
        (marks_pass (same_marks r.marked b.marked) r.marked b.marked refl).0 y.1,
      )

  alike_to : Alike → is_alike r b ≡ true
  alike_to a = both_are (same_bits r.looped b.looped) (same_bits r.met b.met && same_marks r.marked b.marked)
      ((bits_pass (same_bits r.looped b.looped) r.looped b.looped refl).1 a.0)
      (both_are (same_bits r.met b.met) (same_marks r.marked b.marked)
      ((bits_pass (same_bits r.met b.met) r.met b.met refl).1 a.1)
      ((marks_pass (same_marks r.marked b.marked) r.marked b.marked refl).1 a.2))

  quiet : SamePairs S T e → Alike → is_touched S T e ≡ false
  unfolding marked_list
  quiet same a =
      let one = sym (same_chosen S T e sound same) in
      let l = sym was_looped ∙ (a.0 ∙ (is_looped ∙ ap (map (λ p. looped_kind T e p.kind)) one)) in
      let m = sym was_met ∙ (a.1 ∙ (are_met ∙ ap (map (λ p. kind_met T p.need p.kind)) one)) in
      let n = sym was_marked ∙ (a.2 ∙ (are_marked ∙ ap (map (marked T e)) one)) in
      untouched_by S T e same (none_passes (λ p. kind_changes S T e p.need p.kind) (chosen S e) (λ p c.
      kind_quiet S T e p.need p.kind
      (same_map (λ q. looped_kind S e q.kind) (λ q. looped_kind T e q.kind) (chosen S e) l p c)
      (same_map (λ q. kind_met S q.need q.kind) (λ q. kind_met T q.need q.kind) (chosen S e) m p c)
      (ap (λ (x : Marked). x.aim) (same_map (marked S e) (marked T e) (chosen S e) n p c))
      (ap (λ (x : Marked). x.counts) (same_map (marked S e) (marked T e) (chosen S e) n p c))))

  alike_where : is_touched S T e ≡ false → Alike
  alike_where u = (
    was_looped ∙ (looped_kept S T e sound u ∙ sym is_looped),
    was_met ∙ (met_kept S T e sound u ∙ sym are_met),
    was_marked ∙ (untouched_marked S T e sound u ∙ sym are_marked),
  )

  same_where : is_touched S T e ≡ false → SamePairs S T e
  same_where u x mine = untouched_pairs S T e x u mine

  pub touched_same : SamePairs S T e → not (is_alike r b) ≡ is_touched S T e
  touched_same same = not_both (is_alike r b) (is_touched S T e) (λ a. quiet same (alike_from a)) (λ u. alike_to (alike_where u))

  pub touched_other : (test : Bool) → (test ≡ true → SamePairs S T e) → (SamePairs S T e → test ≡ true)
      → not (test && is_alike r b) ≡ is_touched S T e
  touched_other test f g = not_both (test && is_alike r b) (is_touched S T e)
      (λ h. (let both = and_both test (is_alike r b) h in quiet (f both.0) (alike_from both.1)))
      (λ u. both_are test (is_alike r b) (g (same_where u)) (alike_to (alike_where u)))

-- a prefix that was no entry
entry_of : (S : Tables) (e : Prefix) → Contains (entries S) e → has_entry S e ≡ true
entry_of S e c = any_in (same_prefix e) (entries S) e c ((same_prefix-Decides e e).1 refl)

new_touched : (S T : Tables) (e : Prefix) → has_entry S e ≡ false → has_entry T e ≡ is_touched S T e
new_touched S T e off = by (has_entry T e) (is_touched S T e) refl refl
  where
    by : (b c : Bool) → has_entry T e ≡ b → is_touched S T e ≡ c → b ≡ c
    by true true x y = refl
    by false false x y = refl
    by true false x y = absurd (false≢true (sym off ∙ (same_there S T e (λ z own. untouched_pairs S T e z y own) ∙ x)))
    by false true x y = elim (touched_effective S T e y) [
      | inl was ↦ absurd (false≢true (sym off ∙ entry_of S e was))
      | inr here ↦ absurd (false≢true (sym x ∙ entry_of T e here))
    ]

module _ (v : Seen) (S T : Tables) (h : IsAfter v S T) (e : Prefix) (b : Body) (own : b.prefix ≡ e) (is : IsBody T b) where
  row_said : (r : Row) → row_of v.before.rows e ≡ Some r → (r.looped ≡ map (λ p. looped_kind S e p.kind) (chosen S e))
      × (r.met ≡ map (λ p. kind_met S p.need p.kind) (chosen S e)) × (r.marked ≡ marked_list S e)
  row_said r at =
      let t = row_there v.before.rows e r at in
      let row = h.stands.rows r t.0 in (
        row.looped ∙ ap (λ z. map (λ p. looped_kind S z p.kind) (chosen S z)) (sym t.1),
        row.met ∙ ap (λ z. map (λ p. kind_met S p.need p.kind) (chosen S z)) (sym t.1),
        row.marked ∙ ap (marked_list S) (sym t.1),
      )

  said_row : (o : Option Row) → row_of v.before.rows e ≡ o → SamePairs S T e → row_touched o b ≡ is_touched S T e
  said_row None at same =
      let off = no_entry v.before S h.stands e at in
      sym off ∙ (same_there S T e same ∙ new_touched S T e off)
  said_row (Some r) at same = let w = row_said r at in touched_same S T h.sound e r b own is w.0 w.1 w.2 same

  said_made : (x : Anew) → made_of v.changed e ≡ Some x → (o : Option Row) → row_of v.before.rows e ≡ o
      → made_touched v.before.lists o x.pairs b ≡ is_touched S T e
  said_made x at None none =
      ap (entry_by v.before e) (sym at) ∙ (entry_after v S T h e ∙ new_touched S T e (no_entry v.before S h.stands e none))
  said_made x at (Some r) there =
      let w = row_said r there in
      let t = made_there v.changed e x at in
      let before = pairs_at v.before S h.stands e r there in
      let after = subst (λ z. (y : Pair) → Contains x.pairs y ↔ (Contains (pairs T) y × (z ≡ y.prefix))) t.1 (h.made x t.0).pairs in
      touched_other S T h.sound e r b own is w.0 w.1 w.2 (same_pairs v.before.lists r.pairs x.pairs)
      (same_from v.before.lists S T e r.pairs x.pairs before after) (same_to v.before.lists S T e r.pairs x.pairs before after)

  said : (o : Option Anew) → made_of v.changed e ≡ o → touched_at v.before.lists (row_of v.before.rows e) o b ≡ is_touched S T e
  said None at = said_row (row_of v.before.rows e) refl (same_beside v S T h e at).pairs
  said (Some x) at = said_made x at (row_of v.before.rows e) refl

pub touched_is : (v : Seen) (S T : Tables) → IsAfter v S T → (b : Body) → IsBody T b → touched_by v b ≡ is_touched S T b.prefix
touched_is v S T h b is = said v S T h b.prefix b refl is (made_of v.changed b.prefix) refl

-- the list of them
filter_prefixes : (test : Body → Bool) (bodies : List Body) → AllDiffer (map body_prefix bodies) → AllDiffer (map body_prefix (filter test bodies))
filter_prefixes test [] d = tt
filter_prefixes test (b ∷ bs) d = elim (either (test b)) [
  | inr off ↦ rw off (filter_prefixes test bs d.1)
  | inl is ↦ rw is (
    each_in (λ y. b.prefix ≢ y) (map body_prefix (filter test bs)) (λ y c. (let m = map_from body_prefix (filter test bs) y c in
        head_differs b.prefix (map body_prefix bs) d.0 y (subst (Contains (map body_prefix bs)) m.2 (map_in body_prefix bs m.0 (kept test bs m.0 m.1))))),
    filter_prefixes test bs d.1,
  )
]
  where
    kept : (test : Body → Bool) (xs : List Body) (x : Body) → Contains (filter test xs) x → Contains xs x
    kept test xs x c = (filter_from test xs x c).0

pub touched_list : (v : Seen) (S T : Tables) (part : Prefix → Bool) (list : List Prefix) (bodies : List Body) → IsAfter v S T → AllDiffer list
    → HoldsTouched S T (is_changed v.changed) part (is_member same_prefix list) → AreBodies T list bodies
    → AreTouched S T (map body_prefix (filter (touched_by v) bodies))
touched_list v S T part list bodies h once holds are = record {
  once = filter_prefixes (touched_by v) bodies (subst AllDiffer (sym are.prefixes) once);
  touched = λ e. (
    λ c. (let m = map_from body_prefix (filter (touched_by v) bodies) e c in
        let f = filter_from (touched_by v) bodies m.0 m.1 in
        subst (λ z. is_touched S T z ≡ true) m.2 (sym (touched_is v S T h m.0 (are.each m.0 f.0)) ∙ f.1)),
    λ t. (let m = map_from body_prefix bodies e (subst (λ l. Contains l e) (sym are.prefixes) (among list e (within e t))) in
        subst (Contains (map body_prefix (filter (touched_by v) bodies))) m.2
        (map_in body_prefix (filter (touched_by v) bodies) m.0 (filter_in (touched_by v) bodies m.0 m.1
        (touched_is v S T h m.0 (are.each m.0 m.1) ∙ (ap (is_touched S T) m.2 ∙ t))))),
  );
}
  where
    within : (e : Prefix) → is_touched S T e ≡ true → is_member same_prefix list e ≡ true
    within e t = elim (either (is_member same_prefix list e)) [
      | inl is ↦ is
      | inr off ↦ absurd (false≢true (sym (quiet_beside S T (is_changed v.changed) part (is_member same_prefix list) h.stands.sound h.sound holds e off).0 ∙ t))
    ]
