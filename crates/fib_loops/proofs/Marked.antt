-- Edges within a part are looped, and the order has the target of each other edge first.
use Rattle.std.proofs.Common.{arith, ◌≡◌, ◌≢◌, ℕ, zero, suc, ◌+◌, ◌<◌, ◌≤◌, ◌↔◌, inl, inr, Bool, false, eqb, IsTrue, List, [], ◌∷◌, length, map, get_or, sym, ◌∙◌, ap, subst}
use Rattle.std.specs.Prelude.{Contains}
use Rattle.std.proofs.lemmas.Bool.{cases_lt, false≢true}
use Rattle.std.proofs.lemmas.Bool.Decides.{Decides-eqb}
use Rattle.std.proofs.lemmas.List.{length-map, get_or-map}
use Rattle.std.proofs.lemmas.List.Elements.{recursion_from_All, Contains-get_or}
use Rattle.fib_reach.specs.Walks.{Walk, Among, AllDiffer}
use Rattle.fib_reach.proofs.Places.{any_default}
use Rattle.fib_loops.specs.Loops.{AreEdges, IsLooped, StandsBefore, IsMarked}
use Rattle.fib_loops.specs.inner.Parting.{IsOrdered, IsParted}
use Rattle.fib_loops.proofs.Parted.{rank_some}

-- the two ends are in one part
abbrev pub in_one : List ℕ → ℕ × ℕ → Bool
in_one parts e = eqb (get_or parts e.0 0) (get_or parts e.1 0)

differ_from_places : (xs : List ℕ) → ((i j : ℕ) → i < j → j < length xs → get_or xs i 0 ≢ get_or xs j 0) → AllDiffer xs
differ_from_places [] h = tt
differ_from_places (x ∷ xs) h = (
  recursion_from_All (λ y. x ≢ y) xs (λ k d l. subst (λ (y : ℕ). x ≢ y) (any_default xs k 0 d l) (h 0 (suc k) (omega arith) (omega (arith, l)))),
  differ_from_places xs (λ i j lt l. h (suc i) (suc j) (omega (arith, lt)) (omega (arith, l))),
)

-- a walk leads to no lower part
walk_parts : (E : ℕ → ℕ → Type 0) (n : ℕ) (ranks parts : List ℕ) (done : ℕ) → IsParted E n ranks parts done → (m x y : ℕ) → Walk E m x y → 0 < get_or parts y 0 → (0 < get_or parts x 0) × (get_or parts x 0 ≤ get_or parts y 0)
walk_parts E n ranks parts done v zero x y w h = let e = ap (λ (k : ℕ). get_or parts k 0) w in (omega (arith, h, e), omega (arith, e))
walk_parts E n ranks parts done v (suc m) x y w h =
    let rest = walk_parts E n ranks parts done v m w.0 y w.2 h in
    let first = v.closed x w.0 w.1 rest.0 in
    (first.0, omega (arith, first.1, rest.1))

module _ (n : ℕ) (edges : List (ℕ × ℕ)) (inside : AreEdges n edges) (starts ranks order parts : List ℕ) (o : IsOrdered (Among edges) n starts ranks order) (v : IsParted (Among edges) n ranks parts n) where
  has_part : (x : ℕ) → x < n → 0 < get_or parts x 0
  has_part x l = v.numbered x l (omega (arith, rank_some (Among edges) n starts ranks order o x l))

  one_is_looped : (e : ℕ × ℕ) → e.0 < n → e.1 < n → Contains edges e → IsTrue (in_one parts e) ↔ IsLooped edges e
  one_is_looped e s_in t_in c = (
    λ same. v.together e.1 e.0 (has_part e.1 t_in) (sym ((Decides-eqb (get_or parts e.0 0) (get_or parts e.1 0)).0 same)),
    λ l. let back = walk_parts (Among edges) n ranks parts n v l.0 e.1 e.0 l.1 (has_part e.0 s_in) in
        let there = v.closed e.0 e.1 c (has_part e.1 t_in) in
        (Decides-eqb (get_or parts e.0 0) (get_or parts e.1 0)).1 (omega (arith, back.1, there.1)),
  )

  place : (x : ℕ) → x < n → (k : ℕ) × (k < n) × (get_or order k 0 ≡ x) × (get_or ranks x 0 ≡ k + 1)
  place x l =
      let p = o.placed x l in
      (p.0, p.1, p.2, sym (ap (λ (q : ℕ). get_or ranks q 0) p.2) ∙ o.rank_at p.0 p.1)

  target_first : (e : ℕ × ℕ) → e.0 < n → e.1 < n → Contains edges e → in_one parts e ≡ false → StandsBefore order e.1 e.0
  target_first e s_in t_in c apart =
      let a = place e.1 t_in in
      let b = place e.0 s_in in
      elim (cases_lt a.0 b.0) [
        | inl lt ↦ (a.0, b.0, lt, omega (arith, b.1, o.order_len), a.2, b.2)
        | inr ge ↦ (let l = o.leads e.0 e.1 s_in t_in (omega (arith, ge, a.3, b.3)) (o.edges e.0 e.1 s_in c) in
            absurd (false≢true (sym apart ∙ (one_is_looped e s_in t_in c).1 l)))
      ]

  apart_at : (i j : ℕ) → i < j → j < length order → get_or order i 0 ≢ get_or order j 0
  apart_at i j lt l same =
      let a = o.rank_at i (omega (arith, lt, l, o.order_len)) in
      let b = o.rank_at j (omega (arith, l, o.order_len)) in
      absurd (omega (arith, lt, a, b, ap (λ (q : ℕ). get_or ranks q 0) same))

  module _ (looped : List Bool) (is : looped ≡ map (in_one parts) edges) where
    mark_at : (k : ℕ) (d : ℕ × ℕ) → k < length edges → get_or looped k false ≡ in_one parts (get_or edges k d)
    mark_at k d l = ap (λ (m : List Bool). get_or m k false) is ∙ get_or-map (in_one parts) edges k d false l

    pub is_marked : IsMarked n edges (record { looped = looped; order = order })
    is_marked = record {
      marks_len = ap (λ (m : List Bool). length m) is ∙ length-map edges (in_one parts);
      loops = λ k d l.
          let e = inside k d l in
          let one = one_is_looped (get_or edges k d) e.0 e.1 (Contains-get_or edges k d l) in
          (λ t. one.0 (sym (mark_at k d l) ∙ t), λ h. mark_at k d l ∙ one.1 h);
      once = differ_from_places order apart_at;
      all = λ x. (
        λ c. subst (λ (q : ℕ). q < n) (any_default order c.0 0 x c.1 ∙ c.2) (o.node c.0 (omega (arith, c.1, o.order_len))),
        λ l. let p = o.placed x l in (p.0, omega (arith, p.1, o.order_len), any_default order p.0 x 0 (omega (arith, p.1, o.order_len)) ∙ p.2),
      );
      targets_first = λ k d l f.
          let e = inside k d l in
          target_first (get_or edges k d) e.0 e.1 (Contains-get_or edges k d l) (sym (mark_at k d l) ∙ f);
    }
