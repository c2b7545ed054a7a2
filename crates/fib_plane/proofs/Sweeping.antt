-- Sweeps, one after another.
use Rattle.std.proofs.Common.{arith, ◌≡◌, ◌≢◌, ℕ, zero, suc, ◌+◌, ◌*◌, ◌-◌, ◌%◌, ◌<◌, inl, inr, List, [], ◌∷◌, ◌++◌, length, set, Option, None, refl, sym, ◌∙◌, ap, subst, get_or-set_same, get_or-set_other, length-set}
use Rattle.std.specs.Prelude.{Contains, slice_index}
use Rattle.std.proofs.lemmas.Bool.{cases_lt, cases_eq}
use Rattle.std.proofs.lemmas.List.{length_push, get_or_append_left, get_or_push}
use Rattle.std.proofs.lemmas.List.Elements.{Contains-push_cases}
use Rattle.fib_union.specs.Unions.{owner, into, Kept}
use Rattle.fib_pool.specs.declared.object.Object.{Object}
use Rattle.fib_pool.specs.Objects.{at, count_in, count_of, IsDying, free_in}
use Rattle.fib_pool.proofs.Pools.{free_few}
use Rattle.fib_core.specs.declared.word.Word.TheVariants as words
use Rattle.fib_core_board.specs.Boards.{Board, word_in, union_of}
use Rattle.fib_core_board.specs.May.{Allows}
use Rattle.fib_plane.specs.Planes.{with_cells}
use Rattle.fib_plane.specs.Planes.{IsSwept}
use Rattle.fib_plane.specs.inner.Joined.{IsJoined, AreDying}
use Rattle.fib_pool.proofs.Pools.{none_some, at_in}
use Rattle.fib_plane.proofs.Boarding.{dying_count}

pub swept_none : (b : Board) (xs : List (Option Object)) → IsSwept b b xs xs
swept_none b xs = record {
  frame = refl;
  taken = λ o y e. (y, e, refl);
  fewer = λ o. omega arith;
  cells = λ k live. refl;
  cleared = λ k. inl refl;
  holds = λ o. refl;
  stored = refl;
}

pub swept_then : (b c d : Board) (xs ys zs : List (Option Object)) → IsSwept b c xs ys → IsSwept c d ys zs → IsSwept b d xs zs
swept_then b c d xs ys zs s t = record {
  frame = t.frame ∙ ap (λ (q : Board). with_cells q d.union.cells q.union.retired d.stored) s.frame;
  taken = λ o z e. (let y = t.taken o z e in let x = s.taken o y.0 y.1 in (x.0, x.1, x.2 ∙ y.2));
  fewer = λ o. (let a = s.fewer o in let e = t.fewer o in omega arith);
  cells = λ k live. t.cells k live ∙ s.cells k (let f = t.fewer (owner k) in omega arith);
  cleared = λ k. elim (t.cleared k) [ inl same ↦ elim (s.cleared k) [ inl e ↦ inl (same ∙ e) | inr e ↦ inr (same ∙ e) ] | inr e ↦ inr e ];
  holds = λ o. (let a = s.holds o in let e = t.holds o in omega arith);
  stored = (let a = s.stored in let e = t.stored in omega arith);
}

pub swept_allows : (b c : Board) (xs ys : List (Option Object)) → IsSwept b c xs ys → Allows b → Allows c
swept_allows b c xs ys s allowed = subst Allows (sym s.frame) allowed

pub swept_size : (b c : Board) (u v : Kept) (xs ys : List (Option Object)) → IsSwept b c xs ys → IsJoined b u xs → IsJoined c v ys → length ys ≡ length xs
swept_size b c u v xs ys s h j = j.size ∙ (ap (λ (q : Board). q.objects) s.frame ∙ sym h.size)

-- an object whose cells are Drop is given back
module _ (b : Board) (u : Kept) (xs : List (Option Object)) (h : IsJoined b u xs) (o : ℕ) (dying : IsDying xs o) where
  back_at : at (set xs o None) o ≡ None
  back_at = get_or-set_same xs o None None (at_in xs o _ dying.1)

  back_else : (z : ℕ) → z ≢ o → at (set xs o None) z ≡ at xs z
  back_else z ne = get_or-set_other xs o z None None ne

  back_count : (z : ℕ) → count_of (set xs o None) z ≡ count_of xs z
  back_count z = elim (cases_eq z o) [
    | inl same ↦ (let d = dying_count xs o dying in let a : count_of (set xs o None) z ≡ 0 = ap (λ (q : ℕ). count_of (set xs o None) q) same ∙ ap count_in back_at in let e : count_of xs z ≡ count_of xs o = ap (λ (q : ℕ). count_of xs q) same in omega arith)
    | inr ne ↦ ap count_in (back_else z ne)
  ]

  pub back_swept : IsSwept b b xs (set xs o None)
  back_swept = record {
    frame = refl;
    taken = λ z y e. elim (cases_eq z o) [
      | inl same ↦ absurd (none_some (sym back_at ∙ (ap (λ (q : ℕ). at (set xs o None) q) (sym same) ∙ e)))
      | inr ne ↦ (y, sym (back_else z ne) ∙ e, refl)
    ];
    fewer = λ z. (let c = back_count z in omega arith);
    cells = λ k live. refl;
    cleared = λ k. inl refl;
    holds = λ z. ap (λ (n : ℕ). n + into (union_of b) z) (back_count z);
    stored = refl;
  }

  pub back_joined : ((s : ℕ) → s < 16 → word_in b (16 * o + s) ≡ words.Drop) → IsJoined b u (set xs o None)
  back_joined cleared = record {
    size = length-set xs o None ∙ h.size;
    long = h.long;
    few = h.few;
    workers = h.workers;
    same = h.same;
    left = h.left;
    short = h.short;
    counted = λ z. (let c = back_count z in let l = (h.counted z).least in let m = (h.counted z).most in record { least = omega arith; most = omega arith });
    root = (let c = back_count 0 in let r = h.root in omega arith);
    free = λ k e. elim (cases_eq (owner k) o) [
      | inl same ↦ (let at : 16 * o + k % 16 ≡ k = omega arith in ap (λ (q : ℕ). word_in b q) (sym at) ∙ cleared (k % 16) (omega arith))
      | inr ne ↦ h.free k (sym (back_else (owner k) ne) ∙ e)
    ];
  }

  pub back_dying : (ds : List ℕ) → AreDying xs (o ∷ ds) → AreDying (set xs o None) ds
  back_dying ds all = record {
    there = λ i lt. (let d = all.there (suc i) (omega arith) in (d.0, back_else (slice_index ds i) (λ e. all.apart 0 (suc i) (omega arith) (omega arith) (sym e)) ∙ d.1));
    apart = λ i j lt l. all.apart (suc i) (suc j) (omega arith) (omega arith);
    listed = λ z d. elim (cases_eq z o) [
      | inl same ↦ absurd (none_some (sym back_at ∙ (ap (λ (q : ℕ). at (set xs o None) q) (sym same) ∙ d.1)))
      | inr ne ↦ tail z ne (all.listed z (d.0, sym (back_else z ne) ∙ d.1))
    ];
  }
    where
      tail : (z : ℕ) → z ≢ o → Contains (o ∷ ds) z → Contains ds z
      tail z ne (zero, lt, e) = absurd (ne (sym e))
      tail z ne (suc i, lt, e) = (i, omega arith, e)

-- the last of the list in front
pub front_dying : (xs : List (Option Object)) (rest : List ℕ) (o : ℕ) → AreDying xs (rest ++ o ∷ []) → AreDying xs (o ∷ rest)
front_dying xs rest o h = record {
  there = there;
  apart = apart;
  listed = λ z d. elim (Contains-push_cases rest o z (h.listed z d)) [
    | inl old ↦ (suc old.0, omega (arith, old.1), old.2)
    | inr e ↦ (0, omega arith, e)
  ];
}
  where
    long : length (rest ++ o ∷ []) ≡ length rest + 1
    long = length_push rest o

    last : slice_index (rest ++ o ∷ []) (length rest) ≡ o
    last = get_or_push rest o 0 (length rest) refl

    there : (i : ℕ) → i < length (o ∷ rest) → IsDying xs (slice_index (o ∷ rest) i)
    there zero lt = subst (λ (q : ℕ). IsDying xs q) last (h.there (length rest) (let l = long in omega arith))
    there (suc i) lt = subst (λ (q : ℕ). IsDying xs q) (get_or_append_left rest (o ∷ []) 0 i (omega arith)) (h.there i (let l = long in omega arith))

    apart : (i j : ℕ) → i < j → j < length (o ∷ rest) → slice_index (o ∷ rest) i ≢ slice_index (o ∷ rest) j
    apart i zero lt l e = absurd (let bad : ⊥ = omega arith in bad)
    apart zero (suc j) lt l e = h.apart j (length rest) (omega arith) (let n = long in omega arith) (get_or_append_left rest (o ∷ []) 0 j (omega arith) ∙ (sym e ∙ sym last))
    apart (suc i) (suc j) lt l e = h.apart i j (omega arith) (let n = long in omega arith) (get_or_append_left rest (o ∷ []) 0 i (omega arith) ∙ (e ∙ sym (get_or_append_left rest (o ∷ []) 0 j (omega arith))))

-- the rest is nearer to the end
pub nearer : (xs ys : List (Option Object)) → length ys ≡ length xs → free_in ys ≡ free_in xs + 1 → length ys - free_in ys < length xs - free_in xs
nearer xs ys size more = (let f = free_few ys in omega arith)

-- the first cells are Drop
abbrev pub FirstDrop : Board → ℕ → ℕ → Type 0
FirstDrop b o n = (s : ℕ) → s < n → word_in b (16 * o + s) ≡ words.Drop

pub more_drop : (b c : Board) (o slot : ℕ) → FirstDrop b o slot → word_in c (16 * o + slot) ≡ words.Drop → ((k : ℕ) → k ≢ 16 * o + slot → word_in c k ≡ word_in b k) → FirstDrop c o (slot + 1)
more_drop b c o slot old new others s lt = elim (cases_lt s slot) [
  | inl before ↦ others (16 * o + s) (λ e. absurd (let bad : ⊥ = omega arith in bad)) ∙ old s before
  | inr ge ↦ (let e : s ≡ slot = omega arith in ap (λ (q : ℕ). word_in c (16 * o + q)) e ∙ new)
]
