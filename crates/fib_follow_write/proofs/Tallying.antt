-- How many pairs of rows pass a test, as rows come, go, or get other pairs.
use Rattle.std.proofs.Common.{arith, ◌≡◌, ◌≢◌, ℕ, zero, suc, ◌+◌, ◌≤◌, Bool, true, false, List, [], ◌∷◌, ◌++◌, map, length, Some, inl, inr, refl, sym, ◌∙◌, ap}
use Rattle.std.proofs.Common.{ap₂, subst, slice_get}
use Rattle.std.specs.Prelude.{Contains, count_by, flat_map, slice_set}
use Rattle.std.specs.List.{insert, remove}
use Rattle.fib_reach.specs.Walks.{AllDiffer}
use Rattle.fib_base_list.proofs.Lists.{either}
use Rattle.fib_addr.specs.Prefixes.{Prefix, same_prefix}
use Rattle.fib_addr.proofs.PrefixLaws.{same_prefix-Decides}
use Rattle.fib_cover.specs.Covers.{IsAscending}
use Rattle.fib_resolve.specs.declared.types.FibSource.{FibSource}
use Rattle.fib_base_interned.proofs.Finding.{some_is, none_some, contains_at}
use Rattle.fib_resolve_changes.proofs.Edits.{in_front, in_rest}
use Rattle.fib_resolve_changes.proofs.SamePairs.{map_from}
use Rattle.fib_entries_rows.specs.Known.{prefix_of, row_of}
use Rattle.fib_entries_rows.specs.Rows.{Row}
use Rattle.fib_entries_rows.specs.inner.Coming.{with_pairs}
use Rattle.fib_entries_rows.specs.inner.Used.{pairs_of}
use Rattle.fib_entries_rows.proofs.Arriving.{gap_inside}
use Rattle.fib_entries_rows.proofs.Climbing.{same_not}
use Rattle.fib_entries_rows.proofs.Named.{count_append}
use Rattle.fib_entries_rows.proofs.PartRows.{row_by}
use Rattle.fib_entries_rows.proofs.Placing.{each_in}
use Rattle.fib_entries_rows.proofs.PlyOrder.{index_of}
use Rattle.fib_entries_rows.proofs.Renewing.{map_twice}
use Rattle.fib_follow_write.specs.Steps.{AreTaken}
use Rattle.fib_follow_write.specs.Written.{blank, changed, pairs_at, pairs_in, sourced, upon}
use Rattle.fib_follow_write.specs.inner.Stepped.{HasCome, HasGone}
use Rattle.fib_follow_write.specs.declared.plan.Sourced.{Sourced}
use Rattle.fib_follow_write.proofs.Upon.{map_same, mapped_names, mapped_ordered, upon_off, upon_prefix, upon_set}

pub flat_alike : {X Y : Type 0} (f g : X → List Y) (xs : List X) → ((x : X) → Contains xs x → f x ≡ g x) → flat_map f xs ≡ flat_map g xs
flat_alike f g [] same = refl
flat_alike f g (x ∷ xs) same = ap₂ (λ a b. a ++ b) (same x (in_front x x xs refl)) (flat_alike f g xs (λ y c. same y (in_rest x y xs c)))

-- a change that keeps the pairs
pub pairs_kept : (f : Row → Row) → ((r : Row) → (f r).pairs ≡ r.pairs) → (rows : List Row) → flat_map pairs_of (map f rows) ≡ flat_map pairs_of rows
pairs_kept f keeps [] = refl
pairs_kept f keeps (r ∷ rows) = ap₂ (λ a b. a ++ b) (keeps r) (pairs_kept f keeps rows)

-- rows by their prefixes

pub found_first : (r : Row) (rows : List Row) (q : Prefix) → same_prefix q r.prefix ≡ true → row_of (r ∷ rows) q ≡ Some r
found_first r rows q is = rw is refl

pub found_later : (r : Row) (rows : List Row) (q : Prefix) → same_prefix q r.prefix ≡ false → row_of (r ∷ rows) q ≡ row_of rows q
found_later r rows q isnt = rw isnt refl

pub row_changed_off : (p q : Prefix) (f : Row → Row) → ((r : Row) → (f r).prefix ≡ r.prefix) → q ≢ p → (rows : List Row)
    → row_of (map (upon p f) rows) q ≡ row_of rows q
row_changed_off p q f keeps off [] = refl
row_changed_off p q f keeps off (r ∷ rows) = elim (either (same_prefix q r.prefix)) [
  | inl is ↦ found_first (upon p f r) (map (upon p f) rows) q (ap (same_prefix q) (upon_prefix p f keeps r) ∙ is)
      ∙ (ap Some (upon_off p f r (λ same. off ((same_prefix-Decides q r.prefix).0 is ∙ sym same))) ∙ sym (found_first r rows q is))
  | inr isnt ↦ found_later (upon p f r) (map (upon p f) rows) q (ap (same_prefix q) (upon_prefix p f keeps r) ∙ isnt)
      ∙ (row_changed_off p q f keeps off rows ∙ sym (found_later r rows q isnt))
]

row_removed_off : (rows : List Row) (k : ℕ) (r : Row) (q : Prefix) → slice_get rows k ≡ Some r → q ≢ r.prefix → row_of (remove rows k) q ≡ row_of rows q
row_removed_off [] k r q at off = absurd (none_some r at)
row_removed_off (x ∷ rows) zero r q at off = sym (found_later x rows q (same_not q x.prefix (λ is. off (is ∙ ap prefix_of (some_is x r at)))))
row_removed_off (x ∷ rows) (suc k) r q at off = elim (either (same_prefix q x.prefix)) [
  | inl is ↦ found_first x (remove rows k) q is ∙ sym (found_first x rows q is)
  | inr isnt ↦ found_later x (remove rows k) q isnt ∙ (row_removed_off rows k r q at off ∙ sym (found_later x rows q isnt))
]

module _ (test : FibSource × ℕ → Bool) where
  abbrev tally : List Row → ℕ
  tally rows = count_by test (flat_map pairs_of rows)

  tally_first : (r : Row) (rows : List Row) → tally (r ∷ rows) ≡ count_by test r.pairs + tally rows
  tally_first r rows = count_append test r.pairs (flat_map pairs_of rows)

  tally_set : (rows : List Row) (k : ℕ) (r s : Row) → slice_get rows k ≡ Some r
      → tally (slice_set rows k s) + count_by test r.pairs ≡ tally rows + count_by test s.pairs
  tally_set [] k r s at = absurd (none_some r at)
  tally_set (q ∷ rows) zero r s at = here (tally (s ∷ rows)) (tally (q ∷ rows)) (count_by test r.pairs) (count_by test s.pairs) (count_by test q.pairs)
      (tally rows) (tally_first s rows) (tally_first q rows) (ap (λ z. count_by test z.pairs) (some_is q r at))
    where
      here : (a b c d e n : ℕ) → a ≡ d + n → b ≡ e + n → e ≡ c → a + c ≡ b + d
      here a b c d e n x y z = omega (arith, x, y, z)
  tally_set (q ∷ rows) (suc k) r s at =
      there (tally (q ∷ slice_set rows k s)) (tally (q ∷ rows)) (count_by test r.pairs) (count_by test s.pairs) (count_by test q.pairs)
      (tally (slice_set rows k s)) (tally rows)
      (tally_first q (slice_set rows k s)) (tally_first q rows) (tally_set rows k r s at)
    where
      there : (a b c d e m n : ℕ) → a ≡ e + m → b ≡ e + n → m + c ≡ n + d → a + c ≡ b + d
      there a b c d e m n x y z = omega (arith, x, y, z)

  tally_removed : (rows : List Row) (k : ℕ) (r : Row) → slice_get rows k ≡ Some r → tally (remove rows k) + count_by test r.pairs ≡ tally rows
  tally_removed [] k r at = absurd (none_some r at)
  tally_removed (q ∷ rows) zero r at = here (tally (q ∷ rows)) (count_by test r.pairs) (count_by test q.pairs) (tally rows) (tally_first q rows)
      (ap (λ z. count_by test z.pairs) (some_is q r at))
    where
      here : (b c e n : ℕ) → b ≡ e + n → e ≡ c → n + c ≡ b
      here b c e n y z = omega (arith, y, z)
  tally_removed (q ∷ rows) (suc k) r at = there (tally (q ∷ remove rows k)) (tally (q ∷ rows)) (count_by test r.pairs) (count_by test q.pairs)
      (tally (remove rows k)) (tally rows) (tally_first q (remove rows k)) (tally_first q rows) (tally_removed rows k r at)
    where
      there : (a b c e m n : ℕ) → a ≡ e + m → b ≡ e + n → m + c ≡ n → a + c ≡ b
      there a b c e m n x y z = omega (arith, x, y, z)

  tally_blank : (rows : List Row) (k : ℕ) (p : Prefix) → k ≤ length rows → tally (insert rows k (blank p)) ≡ tally rows
  tally_blank [] zero p le = refl
  tally_blank [] (suc k) p le = absurd (omega (arith, le))
  tally_blank (q ∷ rows) zero p le = refl
  tally_blank (q ∷ rows) (suc k) p le = there (tally (q ∷ insert rows k (blank p))) (tally (q ∷ rows)) (count_by test q.pairs) (tally (insert rows k
      (blank p)))
      (tally rows) (tally_first q (insert rows k (blank p))) (tally_first q rows) (tally_blank rows k p (omega (arith, le)))
    where
      there : (a b e m n : ℕ) → a ≡ e + m → b ≡ e + n → m ≡ n → a ≡ b
      there a b e m n x y z = omega (arith, x, y, z)

  -- blank rows name nothing
  pub tally_come : (ps : List Prefix) (old new : List Row) → AreTaken HasCome ps old new
      → count_by test (flat_map pairs_of new) ≡ count_by test (flat_map pairs_of old)
  tally_come [] old new t = ap tally t
  tally_come (p ∷ ps) old new (mid, h, t) = tally_come ps mid new t ∙ (ap tally h.came ∙ tally_blank old h.place p (gap_inside old h.place p h.gap))

  -- rows that go take their pairs with them
  pub tally_gone : (ps : List Prefix) (old new : List Row) → AllDiffer ps → AreTaken HasGone ps old new
      → count_by test (flat_map pairs_of new) + count_by test (flat_map (pairs_at old) ps) ≡ count_by test (flat_map pairs_of old)
  tally_gone [] old new once t = (let e = ap tally t in omega (arith, e))
  tally_gone (p ∷ ps) old new once (mid, h, t) =
      let rest : count_by test (flat_map (pairs_at mid) ps) ≡ count_by test (flat_map (pairs_at old) ps) = ap (count_by test)
      (flat_alike (pairs_at mid) (pairs_at old) ps (λ q c. ap pairs_in (other q (λ is. each_in (λ y. p ≢ y) ps q once.0 c (sym is))))) in
      sums (tally new) (count_by test (flat_map (pairs_at mid) ps)) (tally mid) (count_by test (flat_map (pairs_at old) ps)) (count_by test (pairs_at old p))
      (tally old) (count_by test (flat_map (pairs_at old) (p ∷ ps)))
      (tally_gone ps mid new once.1 t) rest own (count_append test (pairs_at old p) (flat_map (pairs_at old) ps))
    where
      sums : (n a m b c o all : ℕ) → n + a ≡ m → a ≡ b → m + c ≡ o → all ≡ c + b → n + all ≡ o
      sums n a m b c o all x y z w = omega (arith, x, y, z, w)

      other : (q : Prefix) → q ≢ p → row_of mid q ≡ row_of old q
      other q off = elim h.went [
        | inl same ↦ ap (λ z. row_of z q) same.1
        | inr (k, r, at, is, gone) ↦ ap (λ z. row_of z q) gone ∙ row_removed_off old k r q at (λ e. off (e ∙ sym is))
      ]

      own : tally mid + count_by test (pairs_at old p) ≡ tally old
      own = elim h.went [
        | inl same ↦ (let a = ap tally same.1
            in let b : count_by test (pairs_at old p) ≡ 0 = ap (λ o. count_by test (pairs_in o)) (sym same.0) in omega (arith, a, b))
        | inr (k, r, at, is, gone) ↦ (let a = ap tally gone in let b = tally_removed old k r at in
            let c : count_by test (pairs_at old p) ≡ count_by test r.pairs = ap (λ o. count_by test (pairs_in o))
            (row_by old h.ordered p r (contains_at old k r at) is) in omega (arith, a, b, c))
      ]

  -- one row gets other pairs
  tally_one : (s : Sourced) (rows : List Row) → IsAscending (map prefix_of rows) → Contains (map prefix_of rows) s.prefix
      → tally (map (sourced s) rows) + count_by test (pairs_at rows s.prefix) ≡ tally rows + count_by test s.pairs
  tally_one s rows asc c =
      let m = map_from prefix_of rows s.prefix c in
      let g = index_of rows m.0 m.1 in
      let a = ap tally (sym (upon_set s.prefix (with_pairs s.pairs) rows asc g.0 m.0 g.1 (sym m.2))) in
      let b = tally_set rows g.0 m.0 (with_pairs s.pairs m.0) g.1 in
      let d : count_by test (pairs_at rows s.prefix) ≡ count_by test m.0.pairs = ap (λ o. count_by test (pairs_in o))
      (row_by rows asc s.prefix m.0 m.1 (sym m.2)) in
      sums (tally (map (sourced s) rows)) (tally (slice_set rows g.0 (with_pairs s.pairs m.0))) (count_by test (pairs_at rows s.prefix))
      (count_by test m.0.pairs) (tally rows) (count_by test s.pairs) a b d
    where
      sums : (x y p q n u : ℕ) → x ≡ y → y + q ≡ n + u → p ≡ q → x + p ≡ n + u
      sums x y p q n u a b d = omega (arith, a, b, d)

  pub tally_paired : (ss : List Sourced) (rows : List Row) → IsAscending (map prefix_of rows) → AllDiffer (map (λ s. s.prefix) ss)
      → ((s : Sourced) → Contains ss s → Contains (map prefix_of rows) s.prefix)
      → count_by test (flat_map pairs_of (map (changed sourced ss) rows)) + count_by test (flat_map (pairs_at rows) (map (λ s. s.prefix) ss)) ≡ count_by test
      (flat_map pairs_of rows) + count_by test (flat_map (λ s. s.pairs) ss)
  tally_paired [] rows asc once there = (let e = ap tally (map_same (λ r. r) (λ r. refl) rows) in omega (arith, e))
  tally_paired (s ∷ ss) rows asc once there =
      let next = map (sourced s) rows in
      let keeps = upon_prefix s.prefix (with_pairs s.pairs) (λ r. refl) in
      let names = mapped_names (sourced s) keeps rows in
      let h = tally_paired ss next (mapped_ordered (sourced s) keeps rows asc) once.1
      (λ x c. subst (λ l. Contains l x.prefix) (sym names) (there x (in_rest s x ss c))) in
      let rest : count_by test (flat_map (pairs_at next) (map (λ s. s.prefix) ss)) ≡ count_by test (flat_map (pairs_at rows) (map (λ s. s.prefix) ss)) =
      ap (count_by test) (flat_alike (pairs_at next) (pairs_at rows) (map (λ s. s.prefix) ss)
      (λ q c. ap pairs_in (row_changed_off s.prefix q (with_pairs s.pairs) (λ r. refl)
      (λ is. each_in (λ y. s.prefix ≢ y) (map (λ s. s.prefix) ss) q once.0 c (sym is)) rows))) in
      let whole = ap tally (map_twice (changed sourced ss) (sourced s) rows) in
      sums (tally (map (changed sourced (s ∷ ss)) rows)) (tally (map (changed sourced ss) next))
      (count_by test (flat_map (pairs_at next) (map (λ s. s.prefix) ss))) (count_by test (flat_map (pairs_at rows) (map (λ s. s.prefix) ss)))
      (tally next) (count_by test (flat_map (λ s. s.pairs) ss)) (count_by test (pairs_at rows s.prefix)) (tally rows) (count_by test s.pairs)
      (count_by test (flat_map (pairs_at rows) (s.prefix ∷ map (λ s. s.prefix) ss))) (count_by test (s.pairs ++ flat_map (λ s. s.pairs) ss))
      (sym whole) h rest (tally_one s rows asc (there s (in_front s s ss refl)))
      (count_append test (pairs_at rows s.prefix) (flat_map (pairs_at rows) (map (λ s. s.prefix) ss)))
      (count_append test s.pairs (flat_map (λ s. s.pairs) ss))
    where
      sums : (w v a b n u p r q all new : ℕ) → w ≡ v → v + a ≡ n + u → a ≡ b → n + p ≡ r + q → all ≡ p + b → new ≡ q + u → w + all ≡ r + new
      sums w v a b n u p r q all new x y z t c d = omega (arith, x, y, z, t, c, d)
