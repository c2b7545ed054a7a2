-- The marks of a search, and the room for what it sees.
use Rattle.std.proofs.Common.{arith, ◌≡◌, ◌≢◌, ℕ, ◌<◌, ◌≤◌, ◌⊎◌, inl, inr, true, false, eqb, List, [], ◌∷◌, ◌++◌, length, get_or, set, refl, sym, ◌∙◌, ap, subst, length-append, get_or-set_same, get_or-set_other, length-set}
use Rattle.std.specs.Prelude.{Contains, replicate}
use Rattle.std.specs.List.{IsDistinct, list_any}
use Rattle.std.specs.Cmp.{nat_eq_equiv}
use Rattle.std.proofs.lemmas.Bool.{false≢true, cases_lt}
use Rattle.std.proofs.lemmas.Bool.Decides.{Decides-eqb}
use Rattle.std.proofs.lemmas.Map.Keys.{IsDistinct-push}
use Rattle.std.proofs.lemmas.Map.Steps.{length-le_from_distinct_below}
use Rattle.std.proofs.lemmas.Map.Views.{Contains-from_any}
use Rattle.std.proofs.lemmas.List.{get_or-replicate, get_or_past, length-replicate}
use Rattle.std.proofs.lemmas.List.Elements.{Contains-push, Contains-push_cases, Contains-append_left}
use Rattle.fib_reach.specs.inner.Visits.{IsVisit, IsSearch}
use Rattle.fib_base_list.proofs.Lists.{either}
use Rattle.fib_reach.proofs.Places.{any_default}

pub same_or_not : (x y : ℕ) → (x ≡ y) ⊎ (x ≢ y)
same_or_not x y = elim (either (eqb x y)) [ inl h ↦ inl ((Decides-eqb x y).0 h) | inr h ↦ inr (λ e. false≢true (sym h ∙ (Decides-eqb x y).1 e)) ]

contains_any : (xs : List ℕ) (q : ℕ) → list_any (eqb q) xs ≡ true → Contains xs q
contains_any xs q h = Contains-from_any (λ x y. (Decides-eqb x y).0) q xs h

not_any : (xs : List ℕ) (q : ℕ) → (Contains xs q → ⊥) → list_any (eqb q) xs ≡ false
not_any xs q far = elim (either (list_any (eqb q) xs)) [ inl h ↦ absurd (far (contains_any xs q h)) | inr h ↦ h ]

module _ {n room visit : ℕ} {marks seen : List ℕ} (v : IsVisit n room marks visit seen) where
  -- a search sees no more nodes than there are
  pub seen_few : length seen ≤ n
  seen_few = length-le_from_distinct_below seen n v.differ (λ q h. v.below q (contains_any seen q h))

  module _ (x : ℕ) (here : x < n) (new : get_or marks x 0 ≡ visit → ⊥) where
    apart : IsDistinct eqb (seen ++ x ∷ [])
    apart = IsDistinct-push nat_eq_equiv seen x v.differ (not_any seen x (λ c. new (v.marked x c)))

    below_more : (q : ℕ) → Contains (seen ++ x ∷ []) q → q < n
    below_more q c = elim (Contains-push_cases seen x q c) [ inl old ↦ v.below q old | inr e ↦ subst (λ (k : ℕ). k < n) e here ]

    -- there is room for one more
    pub seen_fits : length seen < room
    seen_fits =
        let few = length-le_from_distinct_below (seen ++ x ∷ []) n apart (λ q h. below_more q (contains_any (seen ++ x ∷ []) q h)) in
        omega (arith, few, length-append seen (x ∷ []), v.roomy)

    mark_at : (q : ℕ) → q ≡ x → get_or (set marks x visit) q 0 ≡ visit
    mark_at q e = ap (λ (k : ℕ). get_or (set marks x visit) k 0) e ∙ (let l : x < length marks = omega (arith, here, v.marks_len) in rw get_or-set_same refl)

    mark_else : (q : ℕ) → q ≢ x → get_or (set marks x visit) q 0 ≡ get_or marks q 0
    mark_else q ne = rw get_or-set_other refl

    pub visit_push : (room' : ℕ) → room ≤ room' → IsVisit n room' (set marks x visit) visit (seen ++ x ∷ [])
    visit_push room' more = record {
      marks_len = length-set marks x visit ∙ v.marks_len;
      roomy = omega (arith, v.roomy, more);
      passed = λ k. elim (same_or_not k x) [ inl e ↦ omega (arith, mark_at k e) | inr ne ↦ omega (arith, mark_else k ne, v.passed k) ];
      listed = λ q l m. elim (same_or_not q x) [
        | inl e ↦ subst (λ (k : ℕ). Contains (seen ++ x ∷ []) k) (sym e) (Contains-push seen x)
        | inr ne ↦ Contains-append_left seen (x ∷ []) q (v.listed q l (sym (mark_else q ne) ∙ m))
      ];
      marked = λ q c. elim (same_or_not q x) [
        | inl e ↦ mark_at q e
        | inr ne ↦ elim (Contains-push_cases seen x q c) [ inl old ↦ mark_else q ne ∙ v.marked q old | inr e ↦ absurd (ne (sym e)) ]
      ];
      below = below_more;
      differ = apart;
    }

none_differ : IsDistinct eqb []
unfolding IsDistinct
none_differ = tt

-- at the start nothing is seen
pub visit_start : (n room visit : ℕ) (marks seen : List ℕ) → length marks ≡ n → n ≤ room → ((k : ℕ) → get_or marks k 0 < visit) → seen ≡ [] → IsVisit n room marks visit seen
visit_start n room visit marks seen len roomy fresh e = record {
  marks_len = len;
  roomy = roomy;
  passed = λ k. omega (arith, fresh k);
  listed = λ x l m. absurd (omega (arith, fresh x, m));
  marked = λ x c. absurd (omega (arith, c.1, ap (λ l. length l) e));
  below = λ x c. absurd (omega (arith, c.1, ap (λ l. length l) e));
  differ = subst (λ l. IsDistinct eqb l) (sym e) none_differ;
}

pub search_start : (nodes room : ℕ) (marks seen : List ℕ) → length marks ≡ nodes → nodes ≤ room → ((k : ℕ) → get_or marks k 0 < 1) → seen ≡ [] → IsSearch nodes room marks 1 seen 0
search_start nodes room marks seen len roomy zeros e = record {
  kept = visit_start nodes room 1 marks seen len roomy zeros e;
  within = omega arith;
}

pub zeros_low : (n k : ℕ) → get_or (replicate n 0) k 0 < 1
zeros_low n k = elim (cases_lt k n) [
  | inl lt ↦ (let e : ◌≡◌ {A = ℕ} (get_or (replicate n 0) k 0) 0 = get_or-replicate n k 0 0 lt in omega (arith, e))
  | inr ge ↦ (let e : ◌≡◌ {A = ℕ} (get_or (replicate n 0) k 0) 0 = get_or_past (replicate n 0) k 0 (let l : ◌≡◌ {A = ℕ} (length (replicate {A = ℕ} n 0)) n = length-replicate n 0 in omega arith) in omega (arith, e))
]

module _ {nodes room visit done : ℕ} {marks seen : List ℕ} (s : IsSearch nodes room marks visit seen done) where
  pub done_few : done < length seen → done < nodes
  done_few lt = omega (arith, seen_few s.kept)

  pub seen_below : (x : ℕ) → done < length seen → x ≡ get_or seen done x → x < nodes
  seen_below x lt e = s.kept.below x (done, lt, sym e)

pub read_at : (xs : List ℕ) (k x : ℕ) → k < length xs → x ≡ get_or xs k x → x ≡ get_or xs k 0
read_at xs k x lt e = e ∙ any_default xs k x 0 lt

pub zeros_roomy : (n : ℕ) (marks : List ℕ) (room : ℕ) → marks ≡ replicate n 0 → room ≡ n → length marks ≤ room
zeros_roomy n marks room e exact = let l : ◌≡◌ {A = ℕ} (length marks) n = ap (λ (xs : List ℕ). length xs) e ∙ length-replicate n 0 in omega arith
