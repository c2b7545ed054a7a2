-- Which members of a part have another rank.
use Rattle.std.proofs.Common.{arith, ◌≡◌, ◌≢◌, ℕ, ◌+◌, ◌<◌, ◌≤◌, true, false, ◌==◌, List, [], ◌∷◌, ◌++◌, map, length, Option, Some, None, inl}
use Rattle.std.proofs.Common.{inr, refl, sym, ◌∙◌, ap, ap₂, subst, slice_get, if◌then◌else◌}
use Rattle.std.specs.Prelude.{Contains, position, slice_index}
use Rattle.std.proofs.lemmas.Bool.{false≢true, cases_lt}
use Rattle.std.proofs.lemmas.Bool.Decides.{Decides-eqb}
use Rattle.std.proofs.lemmas.List.{append-nil, map-append}
use Rattle.std.proofs.lemmas.List.Elements.{Contains-append_left, Contains-append_right, Contains-append_cases}
use Rattle.std.proofs.lemmas.Option.{slice_get_within}
use Rattle.fib_base_list.proofs.Lists.{either, Contains-nil}
use Rattle.fib_base_interned.proofs.Finding.{contains_at, some_is}
use Rattle.fib_addr.specs.Prefixes.{Prefix, same_prefix}
use Rattle.fib_reach.specs.Walks.{AllDiffer}
use Rattle.fib_resolve.specs.declared.types.Tables.{Tables}
use Rattle.fib_resolve_changes.specs.Ranks.{has_entry}
use Rattle.fib_resolve_changes.proofs.Edits.{in_front}
use Rattle.fib_resolve_changes.proofs.Reached.{unchanged}
use Rattle.fib_resolve_changes.proofs.SamePairs.{map_from}
use Rattle.fib_entries_rows.specs.Changes.{prefix_moved}
use Rattle.fib_entries_rows.specs.Known.{rank_in, rank_of, row_of}
use Rattle.fib_entries_rows.specs.Rows.{Row}
use Rattle.fib_entries_rows.specs.declared.changes.Moved.{Moved}
use Rattle.fib_entries_rows.proofs.Loopings.{once_in, place_found, place_missed}
use Rattle.fib_entries_rows.proofs.PlyOrder.{index_of}
use Rattle.fib_entries_rows.proofs.Standing.{row_entry}
use Rattle.fib_follow_view.specs.Views.{IsAfter, Seen, is_changed}
use Rattle.fib_follow_view.proofs.After.{entry_after, same_there}
use Rattle.fib_follow_part.specs.Parts.{IsPart, Part, in_part, rank_after, rank_at}
use Rattle.fib_follow_part.proofs.Parting.{among, member_of}
use Rattle.fib_follow_told.specs.Told.{AreMovedBy, rank_left}
use Rattle.fib_follow_told.specs.inner.Moves.{AreFirstMoves, left_in, moved_with}
use Rattle.fib_follow_told.proofs.Gathering.{append_differ, only}

pub moves_none : (v : Seen) (members : List Prefix) (ranks : List ℕ) → AreFirstMoves v members ranks 0 []
moves_none v members ranks = record {
  once = λ d. tt;
  inside = λ m c. absurd (Contains-nil m c);
  found = λ k e lt at other. absurd (omega (arith, lt));
}

module _ (v : Seen) (members : List Prefix) (ranks : List ℕ) (place : ℕ) (e : Prefix) (old : List Moved) (here : slice_get members place ≡ Some e)
    (before : AreFirstMoves v members ranks place old) where
  abbrev had : ℕ
  had = rank_of v.before.rows e

  abbrev has : ℕ
  has = left_in v e (slice_index ranks place)

  abbrev this_one : Moved
  this_one = record { prefix = e; rank = had }

  -- the member at the place, or one before it
  at_last : (k : ℕ) (x : Prefix) → slice_get members k ≡ Some x → place ≡ k → e ≡ x
  at_last k x at is = some_is e x (sym here ∙ (ap (slice_get members) is ∙ at))

  stays : had ≡ has → AreFirstMoves v members ranks (place + 1) old
  stays same = record {
    once = before.once;
    inside = λ m c. (let k = before.inside m c in (k.0, (let lt = k.1 in omega (arith, lt)), k.2, k.3, k.4));
    found = λ k x lt at other. elim (cases_lt k place) [
      | inl early ↦ before.found k x early at other
      | inr late ↦ (let is : place ≡ k = omega (arith, lt, late) in
          absurd (other (subst (λ z. left_in v z (slice_index ranks k) ≡ rank_of v.before.rows z) (at_last k x at is)
          (subst (λ n. left_in v e (slice_index ranks n) ≡ had) is (sym same)))))
    ];
  }

  comes : had ≢ has → AreFirstMoves v members ranks (place + 1) (old ++ this_one ∷ [])
  comes other = record {
    once = λ d. subst AllDiffer (sym (map-append prefix_moved old (this_one ∷ [])))
        (append_differ (map prefix_moved old) (e ∷ []) (before.once d) (tt, tt) (λ x c one. (let m = map_from prefix_moved old x c in
        let k = before.inside m.0 m.1 in
        let same = once_in members d k.0 place e (k.2 ∙ ap Some (m.2 ∙ sym (only e x one))) here in
        let lt = k.1 in
        absurd (omega (arith, lt, same)))));
    inside = λ m c. elim (Contains-append_cases old (this_one ∷ []) m c) [
      | inl early ↦ (let k = before.inside m early in (k.0, (let lt = k.1 in omega (arith, lt)), k.2, k.3, k.4))
      | inr late ↦ subst (λ (z : Moved). (k : ℕ) × (k < place + 1) × (slice_get members k ≡ Some z.prefix)
          × (z.rank ≡ rank_of v.before.rows z.prefix) × (left_in v z.prefix (slice_index ranks k) ≢ z.rank)) (only this_one m late)
          (place, omega arith, here, refl, λ is. other (sym is))
    ];
    found = λ k x lt at moves. subst (λ l. Contains l x) (sym (map-append prefix_moved old (this_one ∷ []))) (elim (cases_lt k place) [
      | inl early ↦ Contains-append_left (map prefix_moved old) (e ∷ []) x (before.found k x early at moves)
      | inr late ↦ (let is : place ≡ k = omega (arith, lt, late) in
          Contains-append_right (map prefix_moved old) (e ∷ []) x (in_front e x [] (at_last k x at is)))
    ]);
  }

  pub moves_step : (new : List Moved) → new ≡ old ++ moved_with e had has → AreFirstMoves v members ranks (place + 1) new
  moves_step new made = elim (either (had == has)) [
    | inl same ↦ subst (AreFirstMoves v members ranks (place + 1))
        (sym (made ∙ (ap (λ b. old ++ (if b then [] else this_one ∷ [])) same ∙ append-nil old)))
        (stays ((Decides-eqb had has).0 same))
    | inr other ↦ subst (AreFirstMoves v members ranks (place + 1))
        (sym (made ∙ ap (λ b. old ++ (if b then [] else this_one ∷ [])) other))
        (comes (λ is. false≢true (sym other ∙ (Decides-eqb had has).1 is)))
  ]

module _ (v : Seen) (S T : Tables) (h : IsAfter v S T) (p : Part) (is : IsPart v S T p) (ranks : List ℕ) where
  at_place : (e : Prefix) (k : ℕ) → slice_get p.members k ≡ Some e → rank_after v p ranks e ≡ slice_index ranks k
  at_place e k at = by (position (same_prefix e) p.members) refl
    where
      by : (o : Option ℕ) → position (same_prefix e) p.members ≡ o → rank_at v ranks e o ≡ slice_index ranks k
      by None none = absurd (place_missed p.members e (sym none) (contains_at p.members k e at))
      by (Some j) some = ap (slice_index ranks) (once_in p.members is.once j k e (place_found p.members e j (sym some)) at)

  rank_beside : (e : Prefix) → in_part p e ≡ false → rank_after v p ranks e ≡ rank_of v.before.rows e
  rank_beside e off = by (position (same_prefix e) p.members) refl
    where
      by : (o : Option ℕ) → position (same_prefix e) p.members ≡ o → rank_at v ranks e o ≡ rank_of v.before.rows e
      by None none = refl
      by (Some j) some = absurd (false≢true (sym off ∙ member_of p.members e (contains_at p.members j e (place_found p.members e j (sym some)))))

  left_at : (e : Prefix) (k : ℕ) → slice_get p.members k ≡ Some e → rank_left T v p ranks e ≡ left_in v e (slice_index ranks k)
  left_at e k at = ap₂ (λ b n. if b then n else 0) (sym (entry_after v S T h e)) (at_place e k at)

  -- beside the part a prefix keeps its rank, or had none
  gone_rank : (e : Prefix) (o : Option Row) → row_of v.before.rows e ≡ o → has_entry S e ≡ false → 0 ≡ rank_in o
  gone_rank e None at off = refl
  gone_rank e (Some r) at off = absurd (false≢true (sym off ∙ row_entry v.before S h.stands e r at))

  left_beside : (e : Prefix) → in_part p e ≡ false → rank_left T v p ranks e ≡ rank_of v.before.rows e
  left_beside e off =
      let same = h.caught e (unchanged S T (is_changed v.changed) (in_part p) h.stands.sound h.sound is.reached e off) in
      elim (either (has_entry T e)) [
        | inl there ↦ ap (λ b. if b then rank_after v p ranks e else 0) there ∙ rank_beside e off
        | inr gone ↦ ap (λ b. if b then rank_after v p ranks e else 0) gone
            ∙ gone_rank e (row_of v.before.rows e) refl (same_there S T e same.pairs ∙ gone)
      ]

  pub moves_are : (place : ℕ) (out : List Moved) → length p.members ≤ place → AreFirstMoves v p.members ranks place out
      → AreMovedBy (rank_of v.before.rows) (rank_left T v p ranks) out
  moves_are place out full first = record {
    once = first.once is.once;
    real = λ m c. (let k = first.inside m c in (k.3, λ same. k.4 (sym (left_at m.prefix k.0 k.2) ∙ same)));
    found = λ e moves. elim (either (in_part p e)) [
      | inl there ↦ (let k = index_of p.members e (among p.members e there) in
          let inside = slice_get_within p.members k.0 e k.1 in
          first.found k.0 e (omega (arith, inside, full)) k.1 (λ same. moves (left_at e k.0 k.1 ∙ same)))
      | inr off ↦ absurd (moves (left_beside e off))
    ];
  }
