-- What entries are after a change, and which of them are others.
use Rattle.std.proofs.Common.{arith, ◌≡◌, ◌≢◌, ℕ, zero, suc, ◌+◌, ◌<◌, ◌≤◌, ◌^◌, Bool, false, List, [], ◌∷◌, ◌++◌, map, take, Option, Some, None}
use Rattle.std.proofs.Common.{inl, inr, refl, sym, ◌∙◌, ap, subst, ◌↔◌, slice_get}
use Rattle.std.specs.Prelude.{Contains, IsTrue}
use Rattle.std.specs.List.Sorted.{IsStrictlySortedBy}
use Rattle.std.specs.Set.{is_member}
use Rattle.std.specs.declared.cmp.Ordering.TheVariants.{Less}
use Rattle.std.proofs.lemmas.Bool.{false≢true, cases_lt}
use Rattle.std.proofs.lemmas.List.Elements.{Contains-append_left, Contains-append_right, Contains-append_cases}
use Rattle.std.proofs.lemmas.Map.Views.{Contains-from_any}
use Rattle.fib_base_list.proofs.Lists.{either, each-append, Contains-nil}
use Rattle.fib_base_interned.proofs.Finding.{each_at, none_some}
use Rattle.fib_addr.specs.Prefixes.{Prefix, host, same_prefix}
use Rattle.fib_addr.proofs.PrefixLaws.{same_fields, same_prefix-Decides}
use Rattle.fib_cover.specs.Covers.{IsAscending, prefix_cmp}
use Rattle.fib_resolve.specs.Pairs.{attached_by, base_pairs, entries, pairs}
use Rattle.fib_resolve.specs.Tables.{IsSound}
use Rattle.fib_resolve.specs.declared.pairs.Pair.{Pair}
use Rattle.fib_resolve.specs.declared.types.Tables.{Tables}
use Rattle.fib_resolve_changes.specs.Looked.{AreAddresses, AreLooked, attached_at}
use Rattle.fib_resolve_changes.specs.Ranks.{has_entry}
use Rattle.fib_resolve_changes.specs.Sources.{HasNeighbor, SameEntry, all_hops}
use Rattle.fib_resolve_changes.specs.declared.change.Change.{Change}
use Rattle.fib_resolve_changes.proofs.Caught.{looks_catch}
use Rattle.fib_resolve_changes.proofs.Edits.{in_cases, in_front, in_rest, clash}
use Rattle.fib_resolve_changes.proofs.SamePairs.{map_from}
use Rattle.fib_resolve_changes.proofs.Targets.{hop_entry, near_entry, pair_entry}
use Rattle.fib_entries_rows.specs.Known.{Known, prefix_of}
use Rattle.fib_follow_view.specs.Views.{IsAfter, IsMade, anew_prefix, is_changed}
use Rattle.fib_follow_view.specs.declared.view.Anew.{Anew}
use Rattle.fib_follow_pairs.specs.Fresh.{ArePairsAt, IsAround, IsCover, IsEntry}
use Rattle.fib_follow_pairs.specs.inner.Parts.{cover_in, hop_at, near_at}
use Rattle.fib_follow_pairs.specs.declared.fresh.FreshEntry.{FreshEntry}
use Rattle.fib_follow_pairs.specs.declared.host.Host.{Host}
use Rattle.fib_follow_pairs.proofs.Hosted.{attached_through, host_again, host_is, short_is}
use Rattle.fib_follow_pairs.proofs.Made.{cover_around, none_left, some_entry}
use Rattle.fib_follow_looked.specs.Looks.{AreAllLooked, AreShorts, IsBefore, IsHopKnown}
use Rattle.fib_follow_looked.specs.declared.shorts.Shorts.{Shorts}
use Rattle.fib_follow_looked.specs.inner.Finding.{AreAmong, AreFound, IsCovered, IsGrown, IsStep, with_late}
use Rattle.fib_follow_looked.proofs.Growth.{is_member_in, member_is}
use Rattle.fib_follow_looked.proofs.Turning.{rows_good, take_in}

-- the pairs of a prefix, with what its cover, neighbors and next hops bring it
pub pairs_around : (T : Tables) → IsSound T → (e : Prefix) (xs : List Pair) (o : Option Host) → ArePairsAt (base_pairs T) e xs → IsAround T e o
    → ArePairsAt (pairs T) e (with_late T e.bits o xs)
pairs_around T sound e xs None base short = short_is T sound e xs short base
pairs_around T sound e xs (Some h) base around =
    let a = e.bits in
    let is : host a ≡ e = same_fields (host a) e (refl, sym around.0) in
    let own = subst (λ z. ArePairsAt (base_pairs T) z xs) (sym is) base in
    let full = host_is T sound a xs h.is_hop own around.1.hop in
    host_again T e (xs ++ near_at T a h.attached ++ hop_at a h.attached h.is_hop) around.0
    (subst (λ o. ArePairsAt (pairs T) (host a) (xs ++ near_at T a o ++ hop_at a o h.is_hop)) (sym around.1.attached) full)

pub fresh_entry : (T : Tables) (e : Prefix) (xs ys : List Pair) (o : Option Host) (c : Option Prefix) → ys ≡ xs → c ≡ cover_in o → xs ≢ []
    → (IsAround T e o → ArePairsAt (pairs T) e xs) → IsAround T e o → IsEntry T (record { prefix = e; pairs = ys; cover = c })
fresh_entry T e xs ys o c same covers some are around = record {
  effective = some_entry T e xs (are around) some;
  pairs = subst (ArePairsAt (pairs T) e) (sym same) (are around);
  cover = subst (IsCover T e) (sym covers) (cover_around T e o around);
}

pub fresh_gone : (T : Tables) (e : Prefix) (xs : List Pair) (o : Option Host) → xs ≡ [] → (IsAround T e o → ArePairsAt (pairs T) e xs) → IsAround T e o
    → has_entry T e ≡ false
fresh_gone T e xs o none are around = none_left T e xs (are around) none

-- what is known of a host whose cover and next hop are
pub host_known : (T : Tables) (e c : Prefix) (attached : Option ℕ) (hops : List Prefix) (b : Bool) → (e.len < 32 → ⊥) → e.len ≤ 32
    → attached ≡ attached_at T c → IsTrue b ↔ Contains hops e → IsCovered T e c → IsHopKnown T hops e
    → IsAround T e (Some (record { cover = c; attached = attached; is_hop = b }))
host_known T e c attached hops b ge le at is covered known =
    let long : e.len ≡ 32 = by e.len ge le in
    let over = covered long in (
      long,
      record {
        cover = over;
        attached = at ∙ (ap (attached_at T) over ∙ attached_through T e.bits);
        hop = (λ t. (known long).0 (is.0 t), λ k. is.1 ((known long).1 k));
      },
    )
  where
    by : (n : ℕ) → (n < 32 → ⊥) → n ≤ 32 → n ≡ 32
    by n ge le = elim (cases_lt n 32) [ inl lt ↦ absurd (ge lt) | inr at ↦ omega (arith, at, le) ]

-- it is what was made anew
pub entry_made : (T : Tables) (f : FreshEntry) (c : Prefix) → IsEntry T f → IsCovered T f.prefix c
    → IsMade T (record { prefix = f.prefix; pairs = f.pairs; cover = c })
entry_made T f c h covered = record { better_first = h.pairs.by_rank; pairs = h.pairs.are; cover = covered }

pub gone_made : (T : Tables) (e c : Prefix) (xs : List Pair) → xs ≡ [] → has_entry T e ≡ false → IsCovered T e c
    → IsMade T (record { prefix = e; pairs = xs; cover = c })
gone_made T e c xs none gone covered = subst (λ l. IsMade T (record { prefix = e; pairs = l; cover = c })) (sym none) (record {
  better_first = tt;
  pairs = λ y. (λ d. absurd (Contains-nil y d), λ h. absurd (false≢true (sym gone ∙ pair_entry T y e h.0 (sym h.1))));
  cover = covered;
})

-- what stands before a place of an ascending list is below
before_at : (xs : List Prefix) (k : ℕ) (e : Prefix) → IsAscending xs → slice_get xs k ≡ Some e → (q : Prefix) → Contains (take k xs) q → prefix_cmp q e ≡ Less
unfolding IsStrictlySortedBy
before_at [] k e h here q c = absurd (none_some e here)
before_at (y ∷ ys) zero e h here q c = absurd (Contains-nil q c)
before_at (y ∷ ys) (suc k) e h here q c = elim (in_cases y q (take k ys) c) [
  | inl is ↦ subst (λ z. prefix_cmp z e ≡ Less) is (each_at (λ z. prefix_cmp y z ≡ Less) ys h.0 k e here)
  | inr later ↦ before_at ys k e h.1 here q later
]

ascending_push : (xs : List Prefix) (p : Prefix) → IsAscending xs → ((q : Prefix) → Contains xs q → prefix_cmp q p ≡ Less) → IsAscending (xs ++ p ∷ [])
unfolding IsStrictlySortedBy
ascending_push [] p h less = (tt, tt)
ascending_push (y ∷ ys) p h less = (
  each-append (λ z. prefix_cmp y z ≡ Less) ys (p ∷ []) h.0 (less y (in_front y y ys refl), tt),
  ascending_push ys p h.1 (λ q c. less q (in_rest y q ys c)),
)

map_push : (xs : List Anew) (x : Anew) → map anew_prefix (xs ++ x ∷ []) ≡ map anew_prefix xs ++ x.prefix ∷ []
map_push [] x = refl
map_push (y ∷ ys) x = ap (λ l. y.prefix ∷ l) (map_push ys x)

pub among_none : (xs : List Prefix) → AreAmong (take 0 xs) []
unfolding IsStrictlySortedBy
among_none [] = (tt, λ e c. absurd (Contains-nil e c))
among_none (x ∷ xs) = (tt, λ e c. absurd (Contains-nil e c))

pub among_step : (xs : List Prefix) (k : ℕ) (e : Prefix) (old new : List Anew) → IsAscending xs → slice_get xs k ≡ Some e → AreAmong (take k xs) old
    → IsGrown e old new → AreAmong (take (k + 1) xs) new
among_step xs k e old new asc here h (inl same) =
    subst (AreAmong (take (k + 1) xs)) same (h.0, λ q c. (take_in xs k e q here).1 (inl (h.1 q c)))
among_step xs k e old new asc here h (inr w) =
    let is : map anew_prefix new ≡ map anew_prefix old ++ e ∷ [] =
    ap (map anew_prefix) w.2 ∙ (map_push old w.0 ∙ ap (λ z. map anew_prefix old ++ z ∷ []) w.1) in (
      subst IsAscending (sym is) (ascending_push (map anew_prefix old) e h.0 (λ q c. before_at xs k e asc here q (h.1 q c))),
      λ q c. (take_in xs k e q here).1 (elim (Contains-append_cases (map anew_prefix old) (e ∷ []) q (subst (λ l. Contains l q) is c)) [
        | inl early ↦ inl (h.1 q early)
        | inr late ↦ elim (in_cases e q [] late) [ inl same ↦ inr same | inr none ↦ absurd (Contains-nil q none) ]
      ]),
    )

module _ (S T : Tables) where
  pub found_none : (xs : List Prefix) → AreFound S T (take 0 xs) []
  found_none [] = record {
    made = λ x c. absurd (Contains-nil x c);
    others = λ e c. absurd (Contains-nil e c);
    same = λ e c off. absurd (Contains-nil e c);
  }
  found_none (y ∷ ys) = record {
    made = λ x c. absurd (Contains-nil x c);
    others = λ e c. absurd (Contains-nil e c);
    same = λ e c off. absurd (Contains-nil e c);
  }

  changed_off : (old new : List Anew) (q : Prefix) → ((e : Prefix) → Contains (map anew_prefix old) e → Contains (map anew_prefix new) e)
      → is_changed new q ≡ false → is_changed old q ≡ false
  changed_off old new q more off = elim (either (is_changed old q)) [
    | inl is ↦ absurd (clash (is_changed new q) (member_is (map anew_prefix new) q (more q (is_member_in (map anew_prefix old) q is))) off)
    | inr isnt ↦ isnt
  ]

  pub found_step : (xs : List Prefix) (k : ℕ) (e : Prefix) (old new : List Anew) → slice_get xs k ≡ Some e → AreFound S T (take k xs) old
      → IsStep S T e old new → AreFound S T (take (k + 1) xs) new
  found_step xs k e old new here h (inl stays) = subst (AreFound S T (take (k + 1) xs)) stays.0 (record {
    made = h.made;
    others = λ q c. (let r = h.others q c in ((take_in xs k e q here).1 (inl r.0), r.1));
    same = λ q c off. elim ((take_in xs k e q here).0 c) [
      | inl early ↦ h.same q early off
      | inr is ↦ subst (SameEntry S T) is stays.1
    ];
  })
  found_step xs k e old new here h (inr w) =
      let is : map anew_prefix new ≡ map anew_prefix old ++ e ∷ [] =
      ap (map anew_prefix) w.2 ∙ (map_push old w.0 ∙ ap (λ z. map anew_prefix old ++ z ∷ []) w.1) in
      let own : Contains (map anew_prefix new) e =
      subst (λ l. Contains l e) (sym is) (Contains-append_right (map anew_prefix old) (e ∷ []) e (in_front e e [] refl)) in
      record {
        made = λ x c. elim (Contains-append_cases old (w.0 ∷ []) x (subst (λ l. Contains l x) w.2 c)) [
          | inl early ↦ h.made x early
          | inr late ↦ elim (in_cases w.0 x [] late) [ inl same ↦ subst (IsMade T) same w.3 | inr none ↦ absurd (Contains-nil x none) ]
        ];
        others = λ q c. elim (Contains-append_cases (map anew_prefix old) (e ∷ []) q (subst (λ l. Contains l q) is c)) [
          | inl early ↦ (let r = h.others q early in ((take_in xs k e q here).1 (inl r.0), r.1))
          | inr late ↦ elim (in_cases e q [] late) [
            | inl same ↦ ((take_in xs k e q here).1 (inr same), λ k. w.4 (subst (SameEntry S T) (sym same) k))
            | inr none ↦ absurd (Contains-nil q none)
          ]
        ];
        same = λ q c off. elim ((take_in xs k e q here).0 c) [
          | inl early ↦ h.same q early (changed_off old new q (λ z d. subst (λ l. Contains l z) (sym is) (Contains-append_left (map anew_prefix old)
              (e ∷ []) z d)) off)
          | inr same ↦ absurd (clash (is_changed new q) (member_is (map anew_prefix new) q (subst (Contains (map anew_prefix new)) same own)) off)
        ];
      }

-- each entry beside is the same
module _ (v : Known) (list : List Change) (S T : Tables) (h : IsBefore v list S T) where
  entry_small : (a : ℕ) → Contains (entries S) (host a) → a < 2 ^ 32
  entry_small a there =
      let r = map_from prefix_of v.rows (host a) ((h.stands.entries (host a)).1 there) in
      subst (λ z. z.bits < 2 ^ 32) r.2 (h.stands.rows r.0 r.1).prefix.fits

  hosts_small : (a : ℕ) → Contains (all_hops S) a → a < 2 ^ 32
  hosts_small a c = entry_small a (Contains-from_any (λ x y. (same_prefix-Decides x y).0) (host a) (entries S) (hop_entry S a c))

  near_small : (i a : ℕ) → HasNeighbor S i a → attached_by S a ≡ Some i → a < 2 ^ 32
  near_small i a near at = entry_small a (near_entry S i a near at)

  pub are_after : (shorts : Shorts) (looked : List Prefix) (changed : List Anew) → IsSound T → AreShorts S T shorts → AreAllLooked list S T looked
      → AreFound S T looked changed → IsAfter (record { before = v; changed = changed }) S T
  are_after shorts looked changed sound short all found =
      let looks : AreLooked list S T (is_member same_prefix looked) (is_changed changed) = record {
        own = all.own;
        hop = all.hop;
        near = all.near;
        compared = λ e is off. found.same e (is_member_in looked e is) off;
        stays = all.stays;
        between = all.between;
        came = all.came;
        went = all.went;
      } in
      let addresses : AreAddresses S T = record { hops = hosts_small; near = near_small; near_after = h.near short.good } in
      record {
        stands = h.stands;
        sound = sound;
        made = found.made;
        caught = looks_catch list S T (is_member same_prefix looked) (is_changed changed) h.stands.sound sound h.differ
            (rows_good v S h.stands) short.good addresses looks;
      }
