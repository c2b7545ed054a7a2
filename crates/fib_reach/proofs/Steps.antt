-- One step of a search: what a list of targets adds to what is seen.
use Rattle.std.proofs.Common.{arith, ◌≡◌, ◌≢◌, ℕ, ◌+◌, ◌<◌, ◌≤◌, inl, inr, List, [], ◌∷◌, ◌++◌, length, get_or, sym, ◌∙◌, ap, subst, append_assoc, length-append}
use Rattle.std.specs.Prelude.{Contains}
use Rattle.std.proofs.lemmas.Bool.{cases_lt}
use Rattle.std.proofs.lemmas.List.{append-nil}
use Rattle.std.proofs.lemmas.List.Elements.{All-push, All-nil, All-contains, Contains-append_left}
use Rattle.fib_reach.specs.Walks.{Reaches}
use Rattle.fib_reach.specs.Graphs.{next_of, Edge}
use Rattle.fib_reach.specs.Seen.{GrowsBy}
use Rattle.fib_reach.specs.inner.Visits.{GrowsFrom}
use Rattle.fib_reach.proofs.Places.{any_default}
use Rattle.fib_reach.proofs.Searched.{Searched, searched_found, searched_more}

pub keeps_by : (xs ys : List ℕ) (y q : ℕ) → GrowsBy xs y ys → Contains xs q → Contains ys q
keeps_by xs ys y q (inl e) c = subst (λ l. Contains l q) (sym e) c
keeps_by xs ys y q (inr e) c = subst (λ l. Contains l q) (sym e) (Contains-append_left xs (y ∷ []) q c)

pub grows_none : (xs from : List ℕ) → GrowsFrom xs from xs
grows_none xs from = ([], sym (append-nil xs), All-nil (λ y. Contains from y))

pub grows_more : (xs from ys zs : List ℕ) (y : ℕ) → GrowsFrom xs from ys → Contains from y → GrowsBy ys y zs → GrowsFrom xs from zs
grows_more xs from ys zs y g c (inl e) = (g.0, e ∙ g.1, g.2)
grows_more xs from ys zs y g c (inr e) =
    (g.0 ++ y ∷ [], e ∙ (ap (λ l. l ++ y ∷ []) g.1 ∙ append_assoc xs g.0 (y ∷ [])), All-push (λ q. Contains from q) g.0 y g.2 c)

-- the first of the targets are seen, and none is the node that is looked for
abbrev pub IsPassed : List ℕ → ℕ → List ℕ → ℕ → Type 0
IsPassed targets to seen i = (k : ℕ) → k < i → (get_or targets k 0 ≢ to) × Contains seen (get_or targets k 0)

pub passed_more : (targets ys zs : List ℕ) (to i : ℕ) → IsPassed targets to ys i → GrowsBy ys (get_or targets i 0) zs → (get_or targets i 0 ≢ to) → Contains zs (get_or targets i 0) → IsPassed targets to zs (i + 1)
passed_more targets ys zs to i p g ne c k l = elim (cases_lt k i) [
  | inl lt ↦ (let old = p k lt in (old.0, keeps_by ys zs (get_or targets i 0) (get_or targets k 0) g old.1))
  | inr ge ↦ (let e : i ≡ k = omega (arith, ge, l) in subst (λ (j : ℕ). (get_or targets j 0 ≢ to) × Contains zs (get_or targets j 0)) e (ne, c))
]

pub passed_all : (targets seen : List ℕ) (to i : ℕ) → length targets ≤ i → IsPassed targets to seen i → (y : ℕ) → Contains targets y → (y ≢ to) × Contains seen y
passed_all targets seen to i h p y c =
    subst (λ (q : ℕ). (q ≢ to) × Contains seen q) (any_default targets c.0 0 y c.1 ∙ c.2) (p c.0 (omega (arith, c.1, h)))

-- the row of a node
pub row_is : (g : List (List ℕ)) (x : ℕ) (row targets : List ℕ) → x < length g → row ≡ get_or g x row → targets ≡ row → targets ≡ next_of g x
row_is g x row targets l is e = e ∙ (is ∙ any_default g x row [] l)

module _ (g : List (List ℕ)) (from to : ℕ) (seen : List ℕ) (done : ℕ) (x : ℕ) (s : Searched (Edge g) from to seen done) (here : done < length seen) (is : x ≡ get_or seen done x) where
  pub is_seen : Contains seen x
  is_seen = (done, here, sym is)

  module _ (targets : List ℕ) (row : targets ≡ next_of g x) where
    pub step_found : Contains targets to → Reaches (Edge g) from to
    step_found c = searched_found (Edge g) from to seen done x s is_seen (subst (λ l. Contains l to) row c)

    pub step_more : (zs : List ℕ) → GrowsFrom seen targets zs → ((y : ℕ) → Contains targets y → (y ≢ to) × Contains zs y) → Searched (Edge g) from to zs (done + 1)
    step_more zs grown all =
        subst (λ l. Searched (Edge g) from to l (done + 1)) (sym grown.1)
        (searched_more (Edge g) from to seen grown.0 done x s here (sym is) (omega (arith, here))
        (λ y c. subst (λ l. Contains l y) row (All-contains (λ q. Contains targets q) grown.0 y grown.2 c))
        (λ y e. subst (λ l. (y ≢ to) × Contains l y) grown.1 (all y (subst (λ l. Contains l y) (sym row) e))))

    pub longer : (zs : List ℕ) → GrowsFrom seen targets zs → length seen ≤ length zs
    longer zs grown = omega (arith, length-append seen grown.0, ap (λ l. length l) grown.1)
