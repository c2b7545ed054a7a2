-- What the bodies have is what the tables after a change have.
use Rattle.std.proofs.Common.{arith, ◌≡◌, ℕ, ◌+◌, ◌≤◌, Bool, false, not, ◌&&◌, List, [], ◌∷◌, ◌++◌, zero, suc, map, length, take}
use Rattle.std.proofs.Common.{get_or, Option, Some, None}
use Rattle.std.proofs.Common.{inl, inr, refl, sym, ◌∙◌, ap, ap₂, subst, slice_get}
use Rattle.std.specs.Prelude.{Contains, slice_index_or}
use Rattle.std.proofs.lemmas.List.{map-append}
use Rattle.std.proofs.lemmas.List.Elements.{Contains-append_cases}
use Rattle.fib_base_list.proofs.Lists.{Contains-nil}
use Rattle.fib_base_interned.proofs.Finding.{none_some, some_is}
use Rattle.fib_addr.specs.Prefixes.{Prefix}
use Rattle.fib_resolve.specs.Aims.{kind_aim, kind_counts, marked, marked_list}
use Rattle.fib_resolve.specs.Loops.{looped, looped_kind}
use Rattle.fib_resolve.specs.Pairs.{chosen, cover}
use Rattle.fib_resolve.specs.declared.aims.Aim.{Aim}
use Rattle.fib_resolve.specs.declared.aims.Marked.{Marked}
use Rattle.fib_resolve.specs.declared.types.Need.{Need}
use Rattle.fib_resolve.specs.declared.types.Path.{Path}
use Rattle.fib_resolve.specs.declared.types.PathKind.{PathKind}
use Rattle.fib_resolve.specs.declared.types.PathKind.TheVariants as kinds
use Rattle.fib_resolve.specs.declared.types.Tables.{Tables}
use Rattle.fib_resolve.proofs.Entries.{chosen-no_entry}
use Rattle.fib_resolve_changes.specs.Sources.{SameEntry}
use Rattle.fib_resolve_changes.proofs.Reached.{looped_beside, unchanged}
use Rattle.fib_resolve_changes.proofs.SamePairs.{same_chosen}
use Rattle.fib_entries_rows.specs.Known.{kind_met, row_of}
use Rattle.fib_entries_rows.specs.Rows.{Row}
use Rattle.fib_entries_rows.proofs.Anew.{take_all}
use Rattle.fib_entries_rows.proofs.Standing.{no_entry, row_there}
use Rattle.fib_follow_view.specs.Views.{IsAfter, Seen, is_changed, made_of}
use Rattle.fib_follow_view.specs.inner.Told.{chosen_in, cover_by}
use Rattle.fib_follow_view.proofs.After.{chosen_after, cover_after, met_after}
use Rattle.fib_follow_view.proofs.Told.{map_same}
use Rattle.fib_follow_part.specs.Parts.{IsPart, Part, in_part}
use Rattle.fib_follow_told.specs.Told.{AreBodies, IsBody, body_prefix}
use Rattle.fib_follow_told.specs.declared.body.Body.{Body}
use Rattle.fib_follow_told.specs.inner.Marks.{aim_by, aim_over, counts_by, looped_row, mark_by, marks_by, met_by, met_kind}
use Rattle.fib_follow_told.proofs.Gathering.{only, take_next}

-- beside the part a path is looped exactly where it was
module _ (v : Seen) (S T : Tables) (h : IsAfter v S T) (p : Part) (is : IsPart v S T p) (e : Prefix) (off : in_part p e ≡ false) where
  same_entry : SameEntry S T e
  same_entry = h.caught e (unchanged S T (is_changed v.changed) (in_part p) h.stands.sound h.sound is.reached e off)

  same_list : chosen S e ≡ chosen T e
  same_list = same_chosen S T e h.sound same_entry.pairs

  same_loop : (q : Path) → Contains (chosen S e) q → (kind : PathKind) → q.kind ≡ kind → looped_kind S e kind ≡ looped_kind T e kind
  same_loop q c (kinds.Recursive a) at = looped_beside S T (is_changed v.changed) (in_part p) h.stands.sound h.sound is.reached e q a c at off
  same_loop q c kinds.Drop at = refl
  same_loop q c kinds.Local at = refl
  same_loop q c (kinds.Attached i) at = refl
  same_loop q c (kinds.Hop a i) at = refl
  same_loop q c kinds.Cover at = refl

  pub loops_stay : looped_row (row_of v.before.rows e) ≡ map (λ q. looped_kind T e q.kind) (chosen T e)
  loops_stay = by (row_of v.before.rows e) refl
    where
      by : (o : Option Row) → row_of v.before.rows e ≡ o → looped_row o ≡ map (λ q. looped_kind T e q.kind) (chosen T e)
      by None none = sym (ap (map (λ q. looped_kind T e q.kind)) (sym same_list ∙ chosen-no_entry S e (no_entry v.before S h.stands e none)))
      by (Some r) at = (let t = row_there v.before.rows e r at in
          (h.stands.rows r t.0).looped
          ∙ (ap (λ z. map (λ q. looped_kind S z q.kind) (chosen S z)) (sym t.1)
          ∙ (map_same (λ q. looped_kind S e q.kind) (λ q. looped_kind T e q.kind) (chosen S e) (λ q c. same_loop q c q.kind refl)
          ∙ ap (map (λ q. looped_kind T e q.kind)) same_list)))

module _ (v : Seen) (S T : Tables) (h : IsAfter v S T) where
  -- needs
  kind_met_is : (need : Need) (kind : PathKind) → met_kind v need kind ≡ kind_met T need kind
  kind_met_is need (kinds.Recursive a) = met_after v S T h need a
  kind_met_is need kinds.Drop = refl
  kind_met_is need kinds.Local = refl
  kind_met_is need (kinds.Attached i) = refl
  kind_met_is need (kinds.Hop a i) = refl
  kind_met_is need kinds.Cover = refl

  pub mets_are : (e : Prefix) → map (met_by v) (chosen_in v e) ≡ map (λ p. kind_met T p.need p.kind) (chosen T e)
  mets_are e =
      ap (map (met_by v)) (chosen_after v S T h e)
      ∙ map_same (met_by v) (λ p. kind_met T p.need p.kind) (chosen T e) (λ p c. kind_met_is p.need p.kind)

  -- marks
  module _ (e : Prefix) (over : Option Prefix) where
    aim_is : (kind : PathKind) → (kind ≡ kinds.Cover → over ≡ Some (cover T e.bits)) → aim_by T over e kind ≡ kind_aim T e kind
    aim_is kinds.Drop is = refl
    aim_is kinds.Local is = refl
    aim_is (kinds.Attached i) is = refl
    aim_is (kinds.Hop a i) is = refl
    aim_is (kinds.Recursive a) is = refl
    aim_is kinds.Cover is = ap aim_over (is refl)

    counts_is : (need : Need) (kind : PathKind) → counts_by T v need (looped_kind T e kind) kind ≡ kind_counts T e need kind
    counts_is need kinds.Drop = refl
    counts_is need kinds.Local = refl
    counts_is need (kinds.Attached i) = refl
    counts_is need (kinds.Hop a i) = refl
    counts_is need (kinds.Recursive a) = ap (λ b. not (looped T e a) && b) (met_after v S T h need a)
    counts_is need kinds.Cover = refl

    mark_is : (p : Path) → (p.kind ≡ kinds.Cover → over ≡ Some (cover T e.bits)) → mark_by T v over e p (looped_kind T e p.kind) ≡ marked T e p
    mark_is p is =
        ap₂ (λ (m : Aim) (b : Bool). mark_with m b p) (aim_is p.kind is) (counts_is p.need p.kind)
      where
        mark_with : Aim → Bool → Path → Marked
        mark_with m b p = record { aim = m; counts = b; weight = p.weight; preference = p.preference }

zipped : (f : Path → Bool → Marked) (g : Path → Bool) (ps : List Path) → marks_by f ps (map g ps) ≡ map (λ p. f p (g p)) ps
zipped f g [] = refl
zipped f g (p ∷ ps) = ap (λ l. f p (g p) ∷ l) (zipped f g ps)

pub marks_are : (v : Seen) (S T : Tables) → IsAfter v S T → (e : Prefix) (flags : List Bool)
    → flags ≡ map (λ q. looped_kind T e q.kind) (chosen T e)
    → marks_by (mark_by T v (cover_by v.before e (made_of v.changed e)) e) (chosen_in v e) flags ≡ marked_list T e
unfolding marked_list
marks_are v S T h e flags is =
    let over = cover_by v.before e (made_of v.changed e) in
    ap₂ (marks_by (mark_by T v over e)) (chosen_after v S T h e) is
    ∙ (zipped (mark_by T v over e) (λ q. looped_kind T e q.kind) (chosen T e)
    ∙ map_same (λ p. mark_by T v over e p (looped_kind T e p.kind)) (marked T e) (chosen T e)
    (λ p c. mark_is v S T h e over p (λ kind. cover_after v S T h e p c kind)))

-- a mark for one path more
zip_more : (f : Path → Bool → Marked) (ps : List Path) (flags : List Bool) (i : ℕ) (p : Path) → slice_get ps i ≡ Some p
    → marks_by f (take (suc i) ps) flags ≡ marks_by f (take i ps) flags ++ f p (get_or flags i false) ∷ []
zip_more f [] flags i p at = absurd (none_some p at)
zip_more f (q ∷ ps) [] zero p at = ap (λ z. f z false ∷ []) (some_is q p at)
zip_more f (q ∷ ps) (b ∷ bs) zero p at = ap (λ z. f z b ∷ []) (some_is q p at)
zip_more f (q ∷ ps) [] (suc i) p at = ap (λ l. f q false ∷ l) (zip_more f ps [] i p at)
zip_more f (q ∷ ps) (b ∷ bs) (suc i) p at = ap (λ l. f q b ∷ l) (zip_more f ps bs i p at)

pub marks_step : (f : Path → Bool → Marked) (ps : List Path) (flags : List Bool) (i : ℕ) (p : Path) (m : Marked) (out new : List Marked)
    → slice_get ps i ≡ Some p → out ≡ marks_by f (take i ps) flags → m ≡ f p (slice_index_or flags i false) → new ≡ out ++ m ∷ []
    → new ≡ marks_by f (take (i + 1) ps) flags
marks_step f ps flags i p m out new at before is made =
    let n : i + 1 ≡ suc i = omega arith in
    made ∙ (ap₂ (λ l (z : Marked). l ++ z ∷ []) before is
    ∙ (sym (zip_more f ps flags i p at) ∙ ap (λ k. marks_by f (take k ps) flags) (sym n)))

pub marks_whole : (f : Path → Bool → Marked) (ps : List Path) (flags : List Bool) (i : ℕ) (out : List Marked) → length ps ≤ i
    → out ≡ marks_by f (take i ps) flags → out ≡ marks_by f ps flags
marks_whole f ps flags i out le before = before ∙ ap (λ l. marks_by f l flags) (take_all ps i le)

-- one body more
pub bodies_none : (T : Tables) → AreBodies T [] []
bodies_none T = record { prefixes = refl; each = λ b c. absurd (Contains-nil b c) }

pub bodies_step : (T : Tables) (list : List Prefix) (i : ℕ) (e : Prefix) (b : Body) (old new : List Body) → slice_get list i ≡ Some e
    → AreBodies T (take i list) old → b.prefix ≡ e → IsBody T b → new ≡ old ++ b ∷ [] → AreBodies T (take (i + 1) list) new
bodies_step T list i e b old new here before own is made = record {
  prefixes = ap (map body_prefix) made
      ∙ (map-append body_prefix old (b ∷ [])
      ∙ (ap₂ (λ l z. l ++ z ∷ []) before.prefixes own ∙ sym (take_next list i e here)));
  each = λ x c. elim (Contains-append_cases old (b ∷ []) x (subst (λ l. Contains l x) made c)) [
    | inl early ↦ before.each x early
    | inr late ↦ subst (IsBody T) (only b x late) is
  ];
}

pub bodies_whole : (T : Tables) (list : List Prefix) (i : ℕ) (out : List Body) → length list ≤ i → AreBodies T (take i list) out → AreBodies T list out
bodies_whole T list i out le h = subst (λ l. AreBodies T l out) (take_all list i le) h
