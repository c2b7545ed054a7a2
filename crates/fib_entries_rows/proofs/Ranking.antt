-- Places in an order as ranks.
use Rattle.std.proofs.Common.{arith, ◌≡◌, ◌≢◌, ℕ, zero, suc, ◌+◌, ◌<◌, ◌≤◌, Bool, true, false, List, [], ◌∷◌, length, inl, inr, refl, sym, ◌∙◌, ap, subst, ◌↔◌}
use Rattle.std.specs.Prelude.{Contains, slice_index, slice_set, slice_index_or, IsTrue}
use Rattle.std.specs.List.{AllByRecursion}
use Rattle.std.proofs.lemmas.Bool.{cases_eq, cases_lt}
use Rattle.fib_reach.specs.Walks.{AllDiffer}
use Rattle.fib_loops.specs.Loops.{Marked, IsMarked, IsLooped, StandsBefore}

each_index : (P : ℕ → Type 0) (xs : List ℕ) → AllByRecursion P xs → (i : ℕ) → i < length xs → P (slice_index xs i)
each_index P [] all i lt = absurd (omega (arith, lt))
each_index P (x ∷ xs) all zero lt = all.0
each_index P (x ∷ xs) all (suc i) lt = each_index P xs all.1 i (omega (arith, lt))

differ_at : (xs : List ℕ) → AllDiffer xs → (i j : ℕ) → i < j → j < length xs → slice_index xs i ≢ slice_index xs j
differ_at [] d i j lt within = λ e. omega (arith, within)
differ_at (x ∷ xs) d i zero lt within = λ e. omega (arith, lt)
differ_at (x ∷ xs) d zero (suc j) lt within = each_index (λ y. x ≢ y) xs d.0 j (omega (arith, within))
differ_at (x ∷ xs) d (suc i) (suc j) lt within = differ_at xs d.1 i j (omega (arith, lt)) (omega (arith, within))

set_there : (xs : List ℕ) (i v : ℕ) → i < length xs → slice_index (slice_set xs i v) i ≡ v
set_there [] i v lt = absurd (omega (arith, lt))
set_there (x ∷ xs) zero v lt = refl
set_there (x ∷ xs) (suc i) v lt = set_there xs i v (omega (arith, lt))

set_other : (xs : List ℕ) (i j v : ℕ) → j ≢ i → slice_index (slice_set xs i v) j ≡ slice_index xs j
set_other [] i j v n = refl
set_other (x ∷ xs) zero zero v n = absurd (n refl)
set_other (x ∷ xs) zero (suc j) v n = refl
set_other (x ∷ xs) (suc i) zero v n = refl
set_other (x ∷ xs) (suc i) (suc j) v n = set_other xs i j v (λ e. n (omega (arith, e)))

length_set : (xs : List ℕ) (i v : ℕ) → length (slice_set xs i v) ≡ length xs
length_set [] i v = refl
length_set (x ∷ xs) zero v = refl
length_set (x ∷ xs) (suc i) v = ap suc (length_set xs i v)

-- the nodes of the first places have these as ranks, from the base up
pub record AreRanked (base : ℕ) (order ranks : List ℕ) (nodes done : ℕ) : Type 0 where
  pub len : length ranks ≡ nodes
  pub once : AllDiffer order
  pub all : (x : ℕ) → Contains order x ↔ x < nodes
  pub ranked : (k : ℕ) → k < done → slice_index ranks (slice_index order k) ≡ base + k

pub none_ranked : (base : ℕ) (order ranks : List ℕ) (nodes : ℕ) (edges : List (ℕ × ℕ)) (m : Marked) → IsMarked nodes edges m → m.order ≡ order → length ranks ≡ nodes → AreRanked base order ranks nodes 0
none_ranked base order ranks nodes edges m is same len = record {
  len = len;
  once = subst AllDiffer same is.once;
  all = λ x. subst (λ l. Contains l x ↔ x < nodes) same (is.all x);
  ranked = λ k lt. absurd (omega (arith, lt));
}

pub place_fits : (base : ℕ) (order ranks : List ℕ) (nodes done : ℕ) → AreRanked base order ranks nodes done → done < length order → slice_index order done < length ranks
place_fits base order ranks nodes done h lt =
    let low = (h.all (slice_index order done)).0 (done, lt, same_default order done lt) in
    let len = h.len in omega (arith, low, len)
  where
    same_default : (xs : List ℕ) (i : ℕ) → i < length xs → slice_index_or xs i (slice_index xs i) ≡ slice_index xs i
    same_default [] i lt = absurd (omega (arith, lt))
    same_default (x ∷ xs) zero lt = refl
    same_default (x ∷ xs) (suc i) lt = same_default xs i (omega (arith, lt))

pub one_ranked : (base : ℕ) (order ranks : List ℕ) (nodes done rank : ℕ) → AreRanked base order ranks nodes done → done < length order → rank ≡ base + done → AreRanked base order (slice_set ranks (slice_index order done) rank) nodes (done + 1)
one_ranked base order ranks nodes done rank h lt same = record {
  len = length_set ranks (slice_index order done) rank ∙ h.len;
  once = h.once;
  all = h.all;
  ranked = λ k low. elim (cases_eq k done) [
    | inl is ↦ ap (λ z. slice_index (slice_set ranks (slice_index order done) rank) (slice_index order z)) is ∙ set_there ranks (slice_index order done) rank (place_fits base order ranks nodes done h lt) ∙ same ∙ ap (λ z. base + z) (sym is)
    | inr off ↦ (let before : k < done = below k done low off in
        set_other ranks (slice_index order done) (slice_index order k) rank (differ_at order h.once k done before lt) ∙ h.ranked k before)
  ];
}
  where
    below : (k n : ℕ) → k < n + 1 → k ≢ n → k < n
    below k n low off = elim (cases_lt k n) [ inl l ↦ l | inr ge ↦ absurd (off (omega (arith, low, ge))) ]

-- once all are ranked, ranks fall along edges that lie on no cycle
pub ranks_fall : (base : ℕ) (order ranks : List ℕ) (nodes done : ℕ) (edges : List (ℕ × ℕ)) (m : Marked) → IsMarked nodes edges m → m.order ≡ order → AreRanked base order ranks nodes done → length order ≤ done
    → ((d : ℕ × ℕ) → Contains edges d → IsLooped edges d → ⊥) → (d : ℕ × ℕ) → Contains edges d → slice_index ranks d.1 < slice_index ranks d.0
ranks_fall base order ranks nodes done edges m is same h full none d c =
    let quiet : slice_index_or m.looped c.0 false ≡ false = unmarked (slice_index_or m.looped c.0 false) (λ t. none d c (subst (IsLooped edges) c.2 ((is.loops c.0 d c.1).0 t))) in
    let stands = subst (λ l. StandsBefore l (slice_index_or edges c.0 d).1 (slice_index_or edges c.0 d).0) same (is.targets_first c.0 d c.1 quiet) in
    let first = h.ranked stands.0 (let lt = stands.2 in let within = stands.3 in omega (arith, lt, within, full)) in
    let later = h.ranked stands.1 (let within = stands.3 in omega (arith, within, full)) in
    let a = ap (slice_index ranks) (sym (stands.4 ∙ ap (λ z. z.1) c.2)) ∙ first in
    let b = ap (slice_index ranks) (sym (stands.5 ∙ ap (λ z. z.0) c.2)) ∙ later in
    let lt = stands.2 in omega (arith, a, b, lt)
  where
    unmarked : (b : Bool) → (IsTrue b → ⊥) → b ≡ false
    unmarked true n = absurd (n refl)
    unmarked false n = refl
