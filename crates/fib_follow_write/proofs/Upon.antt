-- Changes of one row each, as maps over all rows.
use Rattle.std.proofs.Common.{arith, ◌≡◌, ◌≢◌, ℕ, zero, suc, ◌+◌, ◌<◌, get_or, take, drop, false, List, [], ◌∷◌, ◌++◌, map, length, Some, None, Result}
use Rattle.std.proofs.Common.{Ok, Err, inl, inr, refl, sym, ◌∙◌, ap, ap₂, subst, slice_get, if◌then◌else◌}
use Rattle.std.specs.Prelude.{Contains, OnOk, slice_set}
use Rattle.std.specs.List.{AllZip}
use Rattle.std.specs.Set.{is_member}
use Rattle.std.proofs.lemmas.List.{drop_more, take_more}
use Rattle.std.proofs.lemmas.Option.{slice_get_read}
use Rattle.std.proofs.lemmas.Bool.{false≢true}
use Rattle.std.proofs.lemmas.List.Elements.{Contains-append_cases}
use Rattle.fib_base_list.proofs.Lists.{either, Contains-nil}
use Rattle.fib_addr.specs.Prefixes.{Prefix, same_prefix}
use Rattle.fib_addr.proofs.PrefixLaws.{same_prefix-Decides}
use Rattle.fib_cover.specs.Covers.{IsAscending}
use Rattle.fib_base_interned.proofs.Finding.{some_is, none_some, contains_at}
use Rattle.fib_resolve_changes.proofs.Edits.{in_cases, in_front, in_rest}
use Rattle.fib_resolve_changes.proofs.SamePairs.{map_from}
use Rattle.fib_entries_rows.specs.Known.{prefix_of, row_of}
use Rattle.fib_entries_rows.specs.Rows.{Row}
use Rattle.fib_entries_rows.specs.inner.Coming.{with_pairs}
use Rattle.fib_entries_rows.specs.inner.Leaf.{pushed, popped}
use Rattle.fib_entries_rows.proofs.Climbing.{same_not}
use Rattle.fib_entries_rows.proofs.Linking.{member_in, no_row_at, pop_push}
use Rattle.fib_entries_rows.proofs.Looking.{at_place, one_place}
use Rattle.fib_entries_rows.proofs.Placing.{each_in}
use Rattle.fib_entries_rows.proofs.PlyOrder.{index_of}
use Rattle.fib_entries_rows.proofs.Renewing.{map_twice}
use Rattle.fib_entries_rows.proofs.Standing.{row_there}
use Rattle.fib_follow_write.specs.Steps.{AreTaken, Fit}
use Rattle.fib_follow_write.specs.Written.{AreNew, changed, led, marked, sourced, upon, with_marks}
use Rattle.fib_follow_write.specs.inner.Stepped.{IsLed, IsToLead}
use Rattle.fib_follow_write.specs.declared.plan.Edge.{Edge}
use Rattle.fib_follow_write.specs.declared.plan.Marks.{Marks}
use Rattle.fib_follow_write.specs.declared.plan.Sourced.{Sourced}

pub on_ok : {X E : Type 0} (r : Result X E) (P Q : Type 0) → OnOk r P → (P → Q) → OnOk r Q
on_ok (Ok x) P Q h f = f h
on_ok (Err e) P Q h f = h

pub take_next : {X : Type 0} (xs : List X) (k : ℕ) (x : X) → k < length xs → x ≡ get_or xs k x → take (k + 1) xs ≡ take k xs ++ x ∷ []
take_next xs k x lt is = take_more xs k x lt ∙ ap (λ z. take k xs ++ z ∷ []) (sym is)

pub drop_next : {X : Type 0} (xs : List X) (k : ℕ) (x : X) → k < length xs → x ≡ get_or xs k x → drop k xs ≡ x ∷ drop (k + 1) xs
drop_next xs k x lt is = drop_more xs k x lt ∙ ap (λ z. z ∷ drop (k + 1) xs) (sym is)

pub there_next : {X : Type 0} (xs : List X) (k : ℕ) (x : X) → k < length xs → x ≡ get_or xs k x → Contains xs x
there_next xs k x lt is = contains_at xs k x (slice_get_read xs (length xs) k x refl lt is)

pub zip_more : {X Y : Type 0} (P : X → Y → Type 0) (xs : List X) (ys : List Y) (x : X) (y : Y) → AllZip P xs ys → P x y → AllZip P (xs ++ x ∷ [])
    (ys ++ y ∷ [])
zip_more P [] [] x y a h = (h, tt)
zip_more P [] (z ∷ ys) x y a h = absurd a
zip_more P (w ∷ xs) [] x y a h = absurd a
zip_more P (w ∷ xs) (z ∷ ys) x y a h = (a.0, zip_more P xs ys x y a.1 h)

pub one_is : (p q : Prefix) → Contains (p ∷ []) q → p ≡ q
one_is p q c = elim (in_cases p q [] c) [ inl is ↦ is | inr none ↦ absurd (Contains-nil q none) ]

pub row_at : (rows : List Row) (p : Prefix) (k : ℕ) → slice_get rows k ≡ row_of rows p → k < length rows
    → (r : Row) × (slice_get rows k ≡ Some r) × (p ≡ r.prefix)
row_at rows p k is lt = let g = at_place prefix_of rows k lt in (g.0, g.1, (row_there rows p g.0 (sym is ∙ g.1)).1)

module _ (p : Prefix) (f : Row → Row) where
  pub upon_own : (r : Row) → p ≡ r.prefix → upon p f r ≡ f r
  upon_own r is = ap (λ b. if b then f r else r) ((same_prefix-Decides p r.prefix).1 is)

  pub upon_off : (r : Row) → p ≢ r.prefix → upon p f r ≡ r
  upon_off r off = ap (λ b. if b then f r else r) (same_not p r.prefix off)

  pub upon_none : (rows : List Row) → ((q : Row) → Contains rows q → p ≢ q.prefix) → map (upon p f) rows ≡ rows
  upon_none [] off = refl
  upon_none (r ∷ rows) off = ap₂ (λ z l. z ∷ l) (upon_off r (off r (in_front r r rows refl))) (upon_none rows (λ q c. off q (in_rest r q rows c)))

  one_set : (rows : List Row) (k : ℕ) (r : Row) → slice_get rows k ≡ Some r → p ≡ r.prefix
      → ((j : ℕ) (q : Row) → slice_get rows j ≡ Some q → j ≢ k → p ≢ q.prefix) → slice_set rows k (f r) ≡ map (upon p f) rows
  one_set [] k r at own off = absurd (none_some r at)
  one_set (q ∷ rows) zero r at own off =
      ap₂ (λ z l. z ∷ l) (sym (upon_own r own) ∙ ap (upon p f) (sym (some_is q r at)))
      (sym (upon_none rows (λ z c. (let g = index_of rows z c in off (suc g.0) z g.1 (λ e. omega (arith, e))))))
  one_set (q ∷ rows) (suc k) r at own off =
      ap₂ (λ z l. z ∷ l) (sym (upon_off q (off 0 q refl (λ e. omega (arith, e)))))
      (one_set rows k r at own (λ j z there other. off (suc j) z there (λ e. other (omega (arith, e)))))

  -- the row at a place is the one that changes
  pub upon_set : (rows : List Row) → IsAscending (map prefix_of rows) → (k : ℕ) (r : Row) → slice_get rows k ≡ Some r → p ≡ r.prefix
      → slice_set rows k (f r) ≡ map (upon p f) rows
  upon_set rows asc k r at own = one_set rows k r at own (λ j q there other same. other (one_place prefix_of rows asc j k q r there at (sym same ∙ own)))

  pub upon_prefix : ((r : Row) → (f r).prefix ≡ r.prefix) → (r : Row) → (upon p f r).prefix ≡ r.prefix
  upon_prefix keeps r = elim (either (same_prefix p r.prefix)) [
    | inl is ↦ ap (λ b. prefix_of (if b then f r else r)) is ∙ keeps r
    | inr isnt ↦ ap (λ b. prefix_of (if b then f r else r)) isnt
  ]

pub marked_prefix : (m : Marks) (r : Row) → (marked m r).prefix ≡ r.prefix
marked_prefix m r = upon_prefix m.prefix (with_marks m) (λ q. refl) r

pub sourced_prefix : (s : Sourced) (r : Row) → (sourced s r).prefix ≡ r.prefix
sourced_prefix s r = upon_prefix s.prefix (with_pairs s.pairs) (λ q. refl) r

pub mapped_names : (f : Row → Row) → ((r : Row) → (f r).prefix ≡ r.prefix) → (rows : List Row) → map prefix_of (map f rows) ≡ map prefix_of rows
mapped_names f keeps [] = refl
mapped_names f keeps (r ∷ rows) = ap₂ (λ z l. z ∷ l) (keeps r) (mapped_names f keeps rows)

pub mapped_ordered : (f : Row → Row) → ((r : Row) → (f r).prefix ≡ r.prefix) → (rows : List Row) → IsAscending (map prefix_of rows)
    → IsAscending (map prefix_of (map f rows))
mapped_ordered f keeps rows asc = subst IsAscending (sym (mapped_names f keeps rows)) asc

pub map_same : (f : Row → Row) → ((r : Row) → f r ≡ r) → (rows : List Row) → map f rows ≡ rows
map_same f same [] = refl
map_same f same (r ∷ rows) = ap₂ (λ z l. z ∷ l) (same r) (map_same f same rows)

-- an edge that comes

pub led_prefix : (e : Edge) (r : Row) → (led e r).prefix ≡ r.prefix
led_prefix e r = upon_prefix e.to (pushed e.from) (λ q. refl) r

module _ (e : Edge) where
  pub led_at : (rows new : List Row) (k : ℕ) → IsAscending (map prefix_of rows) → slice_get rows k ≡ row_of rows e.to → k < length rows
      → ((r : Row) → slice_get rows k ≡ Some r → new ≡ slice_set rows k (pushed e.from r)) → IsLed e rows new
  led_at rows new k asc is lt made =
      (let g = row_at rows e.to k is lt
      in record { ordered = asc; made = made g.0 g.1 ∙ upon_set e.to (pushed e.from) rows asc k g.0 g.1 g.2 })

  pub led_none : (rows : List Row) → IsAscending (map prefix_of rows) → None ≡ row_of rows e.to → IsLed e rows rows
  led_none rows asc none = record { ordered = asc; made = sym (upon_none e.to (pushed e.from) rows (no_row_at rows e.to none)) }

  pub to_lead_at : (rows : List Row) (k : ℕ) → IsToLead e rows → slice_get rows k ≡ row_of rows e.to → k < length rows
      → (r : Row) × (slice_get rows k ≡ Some r) × (is_member same_prefix r.dependants e.from ≡ false)
  to_lead_at rows k fit is lt = (let g = row_at rows e.to k is lt in (g.0, g.1, fit.absent g.0 (contains_at rows k g.0 g.1) g.2))

  pub led_ordered : (before rows : List Row) → IsLed e before rows → IsAscending (map prefix_of rows)
  led_ordered before rows l = subst (λ z. IsAscending (map prefix_of z)) (sym l.made) (mapped_ordered (led e) (led_prefix e) before l.ordered)

  back_row : (r : Row) → upon e.to popped (led e r) ≡ r
  back_row r = elim (either (same_prefix e.to r.prefix)) [
    | inl is ↦ (let own = (same_prefix-Decides e.to r.prefix).0 is in
        ap (upon e.to popped) (upon_own e.to (pushed e.from) r own) ∙ (upon_own e.to popped (pushed e.from r) own ∙ popped_is r))
    | inr isnt ↦ (let off : e.to ≢ r.prefix = λ own. false≢true (sym isnt ∙ (same_prefix-Decides e.to r.prefix).1 own) in
        ap (upon e.to popped) (upon_off e.to (pushed e.from) r off) ∙ upon_off e.to popped r off)
  ]
    where
      popped_is : (r : Row) → popped (pushed e.from r) ≡ r
      popped_is r = ap (λ l. record { prefix = r.prefix; pairs = r.pairs; looped = r.looped; met = r.met; marked = r.marked; dependants = l; rank = r.rank })
          (pop_push r.dependants e.from)

  back_rows : (before rows : List Row) → IsLed e before rows → map (upon e.to popped) rows ≡ before
  back_rows before rows l = ap (map (upon e.to popped)) l.made
      ∙ (map_twice (upon e.to popped) (led e) before ∙ map_same (λ r. upon e.to popped (led e r)) back_row before)

  -- what was pushed is popped
  pub led_back : (before rows new : List Row) (k : ℕ) → IsLed e before rows → slice_get rows k ≡ row_of rows e.to → k < length rows
      → ((r : Row) → slice_get rows k ≡ Some r → new ≡ slice_set rows k (popped r)) → new ≡ before
  led_back before rows new k l is lt made = (let g = row_at rows e.to k is lt in
      made g.0 g.1 ∙ (upon_set e.to popped rows (led_ordered before rows l) k g.0 g.1 g.2 ∙ back_rows before rows l))

  pub led_back_none : (before rows : List Row) → IsLed e before rows → None ≡ row_of rows e.to → rows ≡ before
  led_back_none before rows l none = sym (upon_none e.to popped rows (no_row_at rows e.to none)) ∙ back_rows before rows l

  -- what comes next is new still
  next_absent : (edges : List Edge) (rows next : List Row) → AreNew rows (e ∷ edges) → IsLed e rows next → AreNew next edges
  next_absent edges rows next new l = record {
    once = new.once.1;
    absent = λ f r c there to d.
        (let q = map_from (led e) rows r (subst (λ z. Contains z r) l.made there) in
        let own : f.to ≡ q.0.prefix = to ∙ (ap prefix_of (sym q.2) ∙ led_prefix e q.0) in
        let was = new.absent f q.0 (in_rest e f edges c) q.1 own in
        elim (either (same_prefix e.to q.0.prefix)) [
          | inl is ↦ (let at = (same_prefix-Decides e.to q.0.prefix).0 is in
              elim (Contains-append_cases q.0.dependants (e.from ∷ []) f.from
              (subst (λ z. Contains z.dependants f.from) (sym q.2 ∙ upon_own e.to (pushed e.from) q.0 at) d)) [
                | inl old ↦ was old
                | inr it ↦ each_in (λ y. e ≢ y) edges f new.once.0 c (same_edge e f (one_is e.from f.from it) (at ∙ sym own))
              ])
          | inr isnt ↦ (let off : e.to ≢ q.0.prefix = λ at. false≢true (sym isnt ∙ (same_prefix-Decides e.to q.0.prefix).1 at) in
              was (subst (λ z. Contains z.dependants f.from) (sym q.2 ∙ upon_off e.to (pushed e.from) q.0 off) d))
        ]);
  }
    where
      same_edge : (a b : Edge) → a.from ≡ b.from → a.to ≡ b.to → a ≡ b
      same_edge a b x y = ap₂ (λ (p q : Prefix). record { from = p; to = q }) x y

not_member : (list : List Prefix) (p : Prefix) → (Contains list p → ⊥) → is_member same_prefix list p ≡ false
not_member list p none = elim (either (is_member same_prefix list p)) [ inl is ↦ absurd (none (member_in list p is)) | inr isnt ↦ isnt ]

pub edges_fit : (edges : List Edge) (rows : List Row) → IsAscending (map prefix_of rows) → AreNew rows edges → Fit IsToLead IsLed edges rows
edges_fit [] rows asc new = tt
edges_fit (e ∷ edges) rows asc new = (
  record { ordered = asc; absent = λ r c own. not_member r.dependants e.from (new.absent e r (in_front e e edges refl) c own) },
  λ next l. edges_fit edges next (led_ordered e rows next l) (next_absent e edges rows next new l),
)

pub edges_led : (edges : List Edge) (old new : List Row) → AreTaken IsLed edges old new → new ≡ map (changed led edges) old
edges_led [] old new t = t ∙ sym (map_same (λ r. r) (λ r. refl) old)
edges_led (e ∷ edges) old new t = edges_led edges t.0 new t.2 ∙ (ap (map (changed led edges)) t.1.made ∙ map_twice (changed led edges) (led e) old)
