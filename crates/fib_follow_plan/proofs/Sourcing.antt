-- What the steps of a plan make of the pairs of a row.
use Rattle.std.proofs.Common.{◌≡◌, ◌≢◌, List, [], ◌∷◌, map, inl, inr, refl, sym, ◌∙◌, ap, subst, ℕ}
use Rattle.std.specs.Prelude.{Contains, if◌then◌else◌}
use Rattle.std.specs.List.{AllZip}
use Rattle.std.proofs.lemmas.List.Elements.{All-contains, All-from_recursion}
use Rattle.fib_base_list.proofs.Lists.{Contains-nil}
use Rattle.fib_reach.specs.Walks.{AllDiffer}
use Rattle.fib_resolve.specs.declared.pairs.Pair.{Pair}
use Rattle.fib_resolve.specs.declared.types.FibSource.{FibSource}
use Rattle.fib_resolve_changes.proofs.Edits.{in_cases, in_front, in_rest}
use Rattle.fib_resolve_changes.proofs.SamePairs.{map_in}
use Rattle.fib_entries_rows.specs.Known.{IsHeld, PathKept}
use Rattle.fib_entries_rows.specs.Rows.{Row}
use Rattle.fib_entries_rows.specs.inner.Coming.{with_pairs}
use Rattle.fib_follow_write.specs.Plans.{renewed}
use Rattle.fib_follow_write.specs.Written.{IsNumbered, IsSourced, changed, led, paired_prefix, sourced}
use Rattle.fib_follow_write.specs.declared.plan.Edge.{Edge}
use Rattle.fib_follow_write.specs.declared.plan.Paired.{Paired}
use Rattle.fib_follow_write.specs.declared.plan.Sourced.{Sourced}
use Rattle.fib_follow_write.specs.declared.writing.Plan.{Plan}
use Rattle.fib_follow_write.proofs.Joining.{led_field, marked_names, marked_pairs, sourced_names}
use Rattle.fib_follow_write.proofs.Upon.{upon_off, upon_own}
use Rattle.fib_follow_plan.specs.Made.{listed_of}

-- a row that gets no pairs stays
sourced_off : (ss : List Sourced) (r : Row) → ((s : Sourced) → Contains ss s → s.prefix ≢ r.prefix) → changed sourced ss r ≡ r
sourced_off [] r off = refl
sourced_off (s ∷ ss) r off =
    let same = upon_off s.prefix (with_pairs s.pairs) r (off s (in_front s s ss refl)) in
    subst (λ z. changed sourced ss z ≡ r) (sym same) (sourced_off ss r (λ t c. off t (in_rest s t ss c)))

apart : (s : Sourced) (ss : List Sourced) → AllDiffer (map (λ t. t.prefix) (s ∷ ss)) → (t : Sourced) → Contains ss t → s.prefix ≢ t.prefix
apart s ss differ t c =
    All-contains (λ q. s.prefix ≢ q) (map (λ t. t.prefix) ss) t.prefix (All-from_recursion (λ q. s.prefix ≢ q) (map (λ t. t.prefix) ss) differ.0)
    (map_in (λ t. t.prefix) ss t c)

-- a row that gets pairs has them
sourced_own : (ss : List Sourced) (r : Row) (s : Sourced) → AllDiffer (map (λ t. t.prefix) ss) → Contains ss s → s.prefix ≡ r.prefix
    → (changed sourced ss r).pairs ≡ s.pairs
sourced_own [] r s differ c own = absurd (Contains-nil s c)
sourced_own (t ∷ ss) r s differ c own = elim (in_cases t s ss c) [
  | inl is ↦ (
      let here = ap (λ (z : Sourced). z.prefix) is ∙ own in
      let one = upon_own t.prefix (with_pairs t.pairs) r here in
      let rest = sourced_off ss (with_pairs t.pairs r) (λ u k e. apart t ss differ u k (here ∙ sym e)) in
      ap (λ z. (changed sourced ss z).pairs) one ∙ (ap (λ (z : Row). z.pairs) rest ∙ ap (λ (z : Sourced). z.pairs) is)
      )
  | inr later ↦ (
      let one = upon_off t.prefix (with_pairs t.pairs) r (λ e. apart t ss differ s later (e ∙ sym own)) in
      ap (λ z. (changed sourced ss z).pairs) one ∙ sourced_own ss r s differ.1 later own
      )
]

led_pairs : (es : List Edge) (r : Row) → (changed led es r).pairs ≡ r.pairs
led_pairs es r = led_field (λ z. z.pairs) (λ e z. refl) es r

pub renewed_prefix : (plan : Plan) (ss : List Sourced) (r : Row) → (renewed plan ss r).prefix ≡ r.prefix
renewed_prefix plan ss r =
    let mid = changed led plan.edges_in r in
    marked_names plan.marks (changed sourced ss mid) ∙ (sourced_names ss mid ∙ led_field (λ z. z.prefix) (λ e z. refl) plan.edges_in r)

led_prefix : (plan : Plan) (r : Row) → (changed led plan.edges_in r).prefix ≡ r.prefix
led_prefix plan r = led_field (λ z. z.prefix) (λ e z. refl) plan.edges_in r

pub renewed_off : (plan : Plan) (ss : List Sourced) (r : Row) → ((s : Sourced) → Contains ss s → s.prefix ≢ r.prefix)
    → (renewed plan ss r).pairs ≡ r.pairs
renewed_off plan ss r off =
    let mid = changed led plan.edges_in r in
    marked_pairs plan.marks (changed sourced ss mid)
    ∙ (ap (λ (z : Row). z.pairs) (sourced_off ss mid (λ s c e. off s c (e ∙ led_prefix plan r))) ∙ led_pairs plan.edges_in r)

pub renewed_own : (plan : Plan) (ss : List Sourced) (r : Row) (s : Sourced) → AllDiffer (map (λ t. t.prefix) ss) → Contains ss s
    → s.prefix ≡ r.prefix → (renewed plan ss r).pairs ≡ s.pairs
renewed_own plan ss r s differ c own =
    let mid = changed led plan.edges_in r in
    marked_pairs plan.marks (changed sourced ss mid) ∙ sourced_own ss mid s differ c (own ∙ sym (led_prefix plan r))

-- the entries that get pairs have the prefixes that the plan says
pub same_names : (later : List PathKept) (bs : List Paired) (ss : List Sourced) → AllZip (IsSourced later) bs ss
    → map (λ t. t.prefix) ss ≡ map paired_prefix bs
same_names later [] [] a = refl
same_names later [] (s ∷ ss) a = absurd a
same_names later (b ∷ bs) [] a = absurd a
same_names later (b ∷ bs) (s ∷ ss) a =
    ap (λ p. p ∷ map (λ t. t.prefix) ss) a.0.0 ∙ ap (λ l. b.prefix ∷ l) (same_names later bs ss a.1)

pub sourced_of : (later : List PathKept) (bs : List Paired) (ss : List Sourced) → AllZip (IsSourced later) bs ss → (b : Paired) → Contains bs b
    → (s : Sourced) × Contains ss s × IsSourced later b s
sourced_of later [] ss a b c = absurd (Contains-nil b c)
sourced_of later (d ∷ bs) [] a b c = absurd a
sourced_of later (d ∷ bs) (s ∷ ss) a b c = elim (in_cases d b bs c) [
  | inl is ↦ (s, in_front s s ss refl, subst (λ z. IsSourced later z s) is a.0)
  | inr rest ↦ (let r = sourced_of later bs ss a.1 b rest in (r.0, in_rest s r.0 ss r.1, r.2))
]

-- the numbers of lists that pairs have stand for them
pub numbered_held : (later : List PathKept) (xs : List Pair) (held : List (FibSource × ℕ)) → AllZip (IsNumbered later) (map listed_of xs) held
    → AllZip (IsHeld later) held xs
numbered_held later [] [] a = tt
numbered_held later [] (q ∷ qs) a = absurd a
numbered_held later (x ∷ xs) [] a = absurd a
numbered_held later (x ∷ xs) (q ∷ qs) a = (a.0, numbered_held later xs qs a.1)
