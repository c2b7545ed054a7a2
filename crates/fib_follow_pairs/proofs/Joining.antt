-- The pairs of a prefix, joined source by source.
use Rattle.std.proofs.Common.{arith, ◌≡◌, ℕ, ◌+◌, ◌<◌, ◌≤◌, List, [], ◌∷◌, ◌++◌, length, append-nil, inl, inr, sym, ◌∙◌, ap, subst}
use Rattle.std.specs.Prelude.{Contains}
use Rattle.std.specs.List.{AllByRecursion}
use Rattle.std.proofs.lemmas.Bool.{cases_lt}
use Rattle.std.proofs.lemmas.List.Elements.{Contains-append_left, Contains-append_right, Contains-append_cases}
use Rattle.fib_base_list.proofs.Lists.{each-append, each-weaker, Contains-nil}
use Rattle.fib_addr.specs.Prefixes.{Prefix}
use Rattle.fib_resolve.specs.Keys.{source_rank}
use Rattle.fib_resolve.specs.declared.pairs.Pair.{Pair}
use Rattle.fib_resolve.specs.declared.types.FibSource.{FibSource}
use Rattle.fib_resolve.specs.declared.types.FibSource.TheVariants as sources
use Rattle.fib_resolve.proofs.OneList.{source_by_rank}
use Rattle.fib_resolve_changes.proofs.Addresses.{single}
use Rattle.fib_resolve_changes.proofs.Edits.{in_front}
use Rattle.fib_follow_view.specs.Views.{AreBetterFirst}
use Rattle.fib_follow_pairs.specs.Fresh.{ArePairsAt}
use Rattle.fib_follow_pairs.specs.inner.Parts.{IsPart, AreFirst}

rank_low : (s : FibSource) → source_rank s < 7
rank_low sources.Special = omega arith
rank_low sources.Interface = omega arith
rank_low sources.Api = omega arith
rank_low sources.Cli = omega arith
rank_low sources.Adjacency = omega arith
rank_low sources.RecursiveResolution = omega arith
rank_low sources.DefaultRoute = omega arith

-- one pair of the source
pub there : (all : List Pair) (e : Prefix) (s : FibSource) (x : Pair)
    → ((y z : Pair) → Contains all y → Contains all z → y.prefix ≡ z.prefix → y.source ≡ z.source → y ≡ z)
    → Contains all x → e ≡ x.prefix → s ≡ x.source → IsPart all e s (x ∷ [])
there all e s x unique c own is = record {
  single = omega arith;
  sources = (is, tt);
  are = λ y. (
    λ k. subst (λ z. Contains all z × (e ≡ z.prefix) × (s ≡ z.source)) (single x y k) (c, own, is),
    λ k. in_front x y [] (unique x y c k.0 (sym own ∙ k.1) (sym is ∙ k.2)),
  );
}

-- none of the source
pub nowhere : (all : List Pair) (e : Prefix) (s : FibSource) → ((x : Pair) → Contains all x → e ≡ x.prefix → s ≡ x.source → ⊥) → IsPart all e s []
nowhere all e s none = record {
  single = omega arith;
  sources = tt;
  are = λ y. (λ c. absurd (Contains-nil y c), λ k. absurd (none y k.0 k.1 k.2));
}

pub none_first : (all : List Pair) (e : Prefix) → AreFirst all e 0 []
none_first all e = record {
  by_rank = tt;
  below = tt;
  are = λ x. (λ c. absurd (Contains-nil x c), λ h. absurd (omega (arith, h.2)));
}

single_by_rank : (ys : List Pair) → length ys ≤ 1 → AreBetterFirst ys
single_by_rank [] h = tt
single_by_rank (y ∷ []) h = (tt, tt)
single_by_rank (y ∷ z ∷ zs) h = absurd (omega (arith, h))

append_by_rank : (xs ys : List Pair) (d : ℕ) → AreBetterFirst xs → AllByRecursion (λ x. source_rank x.source < d) xs → AreBetterFirst ys
    → AllByRecursion (λ y. d ≤ source_rank y.source) ys → AreBetterFirst (xs ++ ys)
append_by_rank [] ys d h b k a = k
append_by_rank (x ∷ xs) ys d h b k a = (
  each-append (λ y. source_rank x.source < source_rank y.source) xs ys h.0
      (each-weaker (λ y. d ≤ source_rank y.source) (λ y. source_rank x.source < source_rank y.source)
      (λ y le. (let lt = b.0 in omega (arith, lt, le))) ys a),
  append_by_rank xs ys d h.1 b.1 k a,
)

-- the next source
pub joined : (all : List Pair) (e : Prefix) (s : FibSource) (d : ℕ) (xs ys : List Pair) → AreFirst all e d xs → IsPart all e s ys
    → source_rank s ≡ d → AreFirst all e (d + 1) (xs ++ ys)
joined all e s d xs ys h k rank = record {
  by_rank = append_by_rank xs ys d h.by_rank h.below (single_by_rank ys k.single)
      (each-weaker (λ y. s ≡ y.source) (λ y. d ≤ source_rank y.source)
      (λ y is. (let r = ap source_rank is in omega (arith, r, rank))) ys k.sources);
  below = each-append (λ y. source_rank y.source < d + 1) xs ys
      (each-weaker (λ y. source_rank y.source < d) (λ y. source_rank y.source < d + 1) (λ y lt. omega (arith, lt)) xs h.below)
      (each-weaker (λ y. s ≡ y.source) (λ y. source_rank y.source < d + 1) (λ y is. (let r = ap source_rank is in omega (arith, r, rank))) ys k.sources);
  are = λ x. (
    λ c. elim (Contains-append_cases xs ys x c) [
      | inl old ↦ (let r = (h.are x).0 old in (r.0, r.1, omega (arith, r.2)))
      | inr new ↦ (let r = (k.are x).0 new in (r.0, r.1, (let z = ap source_rank r.2 in omega (arith, z, rank))))
    ],
    λ f. elim (cases_lt (source_rank x.source) d) [
      | inl lt ↦ Contains-append_left xs ys x ((h.are x).1 (f.0, f.1, lt))
      | inr ge ↦ Contains-append_right xs ys x ((k.are x).1 (f.0, f.1, source_by_rank s x.source (omega (arith, rank, ge, f.2))))
    ],
  );
}

-- a source of which there is none
pub skipped : (all : List Pair) (e : Prefix) (s : FibSource) (d : ℕ) (xs : List Pair) → AreFirst all e d xs
    → ((x : Pair) → Contains all x → e ≡ x.prefix → s ≡ x.source → ⊥) → source_rank s ≡ d → AreFirst all e (d + 1) xs
skipped all e s d xs h none rank = subst (AreFirst all e (d + 1)) (append-nil xs) (joined all e s d xs [] h (nowhere all e s none) rank)

-- all sources
pub finished : (all : List Pair) (e : Prefix) (xs : List Pair) → AreFirst all e 7 xs → ArePairsAt all e xs
finished all e xs h = record {
  by_rank = h.by_rank;
  are = λ x. (λ c. (let r = (h.are x).0 c in (r.0, r.1)), λ f. (h.are x).1 (f.0, f.1, rank_low x.source));
}
