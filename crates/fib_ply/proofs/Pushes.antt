-- A store in the middle of a change.
use Rattle.std.specs.Prelude.{nat_lt}
use Rattle.std.proofs.lemmas.Bool.Decides.{nat_tests}
use native.Mathlib.Decide.{ℕ_discrete}
use mathlib.Core.Logic.{dite}
use Rattle.fib_base_list.proofs.Booleans.{and_both}
use Rattle.fib_plane_view.specs.Frames.{Beside}
use Rattle.fib_plane_view.specs.Promise.{MayPut}
use Rattle.fib_plane_view.specs.View.{View, Kinds, HasKind}
use Rattle.fib_ply.specs.Prefixes.{Look, IsAnswer, Needs}
use Rattle.fib_ply.specs.Plies.{IsOne, Mixed, Has, IsAt}
use Rattle.fib_ply.specs.inner.Change.{is_to_ply, end_of, ahead, IsSpent, IsCalm, IsCellOf}
use Rattle.fib_ply.specs.Served.{Watch, Paths, IsIn, IsServed, Wanted}
use Rattle.fib_ply.specs.Fitting.{IsFilled}
use Rattle.fib_ply.specs.inner.Trie.{IsTrie}
use Rattle.fib_ply.specs.inner.View.{IsSent}
use Rattle.fib_core_promise.specs.Matches.{best_block, or_else}
use Rattle.fib_core_steady.specs.Names.{IsBelow}
use Rattle.fib_ply.proofs.Counts.{cells_le, cells_lt}
use Rattle.fib_ply.proofs.Promises.{IsNew, sound_beside, kept_sent, may_put}
use Rattle.fib_ply.proofs.Stores.{stands_on}
use Rattle.std.proofs.Common.{ap₂, true≢false, not, ◌&&◌, ◌≡◌, ℕ, zero, suc, ◌+◌, ◌*◌, ◌-◌, ◌/◌, ◌%◌, ◌^◌, ◌<◌, ◌≤◌, inl, inr, Bool, true, false, Option, Some, None, refl, sym, ap, ◌∙◌, subst, arith, rules}
use Rattle.std.proofs.lemmas.Nat.{pow_pos, shr_below}
use Rattle.std.proofs.lemmas.Bool.{cases_lt}
use Rattle.std.specs.Option.{IsSome}
use Rattle.std.proofs.Math.Nat.{pow-le-pow_right, mod-eq_of_lt, pow-suc, div-eq_of_lt-le, lt-div-mul-add, div-mul-le_self}
use Rattle.fib_core.specs.declared.word.Word.{Word}
use Rattle.fib_core.specs.declared.word.Word.TheVariants.{Drop, ToPly, ToBalance}
use Rattle.fib_ply.proofs.Blocks.{pushed_at}
use Rattle.fib_ply.proofs.Paths.{fits_trie}
use Rattle.fib_ply.proofs.Cycles.{no_cycle_balance}
use Rattle.fib_ply.proofs.Fitting.{fits_sent, served_sent}

-- the test by which cells are counted
abbrev is_ahead : Paths → View → ℕ → ℕ → ℕ → Bool
is_ahead n u pos x s = not (is_to_ply (u.cell x s)) && nat_lt pos (end_of n x s)

lt_true : (a b : ℕ) → a < b → nat_lt a b ≡ true
lt_true a b h = grind (arith, nat_tests)

lt_false : (a b : ℕ) → b ≤ a → nat_lt a b ≡ false
lt_false a b h = grind (arith, nat_tests)

lt_is : (a b : ℕ) → nat_lt a b ≡ true → a < b
lt_is a b h = grind (arith, nat_tests)

and_true : (a b : Bool) → a ≡ true → b ≡ true → (a && b) ≡ true
and_true true b e f = f
and_true false b e f = absurd (true≢false (sym e))

and_false : (a b : Bool) → b ≡ false → (a && b) ≡ false
and_false true b e = e
and_false false b e = refl

ahead_past : (w : Word) (p e : ℕ) → e ≤ p → (not (is_to_ply w) && nat_lt p e) ≡ false
ahead_past w p e le = and_false (not (is_to_ply w)) (nat_lt p e) (lt_false p e le)

ahead_mono : (w : Word) (p q e : ℕ) → p ≤ q → (not (is_to_ply w) && nat_lt q e) ≡ true → (not (is_to_ply w) && nat_lt p e) ≡ true
ahead_mono w p q e le h = let b = and_both (not (is_to_ply w)) (nat_lt q e) h in and_true (not (is_to_ply w)) (nat_lt p e) b.0 (lt_true p e (let l = lt_is q e b.1 in omega (arith, l)))

-- addresses of one block lie together
pub in_block : (a pos j : ℕ) → pos ≤ a → a < (pos / 2 ^ j + 1) * 2 ^ j → a / 2 ^ j ≡ pos / 2 ^ j
in_block a pos j le lt = div-eq_of_lt-le {k = pos / 2 ^ j} (2 ^ j) (let h : pos / 2 ^ j * 2 ^ j ≤ pos = div-mul-le_self pos (2 ^ j) in omega arith) lt

pub block_end : (a b j : ℕ) → a / 2 ^ j ≡ b → a < (b + 1) * 2 ^ j
block_end a b j e = let h : a < a / 2 ^ j * 2 ^ j + 2 ^ j = lt-div-mul-add {a = a} {b = 2 ^ j} (pow_pos j) in let f : (a / 2 ^ j + 1) * 2 ^ j ≡ (b + 1) * 2 ^ j = ap (λ i. (i + 1) * 2 ^ j) e in omega arith

-- the best prefix has an entry
pub best_is_one : (look : Look) (n b o : ℕ) → best_block look n b ≡ Some o → (l : ℕ) × (c : ℕ) × (look l c ≡ Some o)
unfolding best_block
best_is_one look zero b o e = (0, b, e)
best_is_one look (suc n) b o e = by_first (look (suc n) b) refl e (best_is_one look n (b / 2) o)
  where
    by_first : (f : Option ℕ) → look (suc n) b ≡ f → or_else f (best_block look n (b / 2)) ≡ Some o → (best_block look n (b / 2) ≡ Some o → (l : ℕ) × (c : ℕ) × (look l c ≡ Some o)) → (l : ℕ) × (c : ℕ) × (look l c ≡ Some o)
    by_first None is e' further = further e'
    by_first (Some p) is e' further = (suc n, b, is ∙ e')

half_below : (b n : ℕ) → b < 2 ^ suc n → b / 2 < 2 ^ n
half_below b n lt = let e : 2 ^ suc n ≡ 2 ^ n * 2 = pow-suc 2 n in let h : b < 2 ^ n * 2 = omega arith in omega arith

-- 0.0.0.0/0 answers where nothing else does
pub best_there : (look : Look) (n b o : ℕ) → look 0 0 ≡ Some o → b < 2 ^ n → best_block look n b ≡ None → ⊥
unfolding best_block
best_there look zero b o root lt e = let z : b ≡ 0 = omega arith in absurd (let f : Some o ≡ None = sym root ∙ ap (look 0) (sym z) ∙ e in cc)
best_there look (suc n) b o root lt e = by_first (look (suc n) b) e (best_there look n (b / 2) o root (half_below b n lt))
  where
    by_first : (f : Option ℕ) → or_else f (best_block look n (b / 2)) ≡ None → (best_block look n (b / 2) ≡ None → ⊥) → ⊥
    by_first None e' further = further e'
    by_first (Some p) e' further = let q : Some p ≡ None = e' in cc

some_same : (p q : ℕ) → Some p ≡ Some q → p ≡ q
some_same p q e = cc

pub agree : (wants : Watch) (old new : Look) (pos : ℕ) → ((a p : ℕ) → a < 2 ^ 32 → Wanted wants a p → IsAnswer old a p × IsAnswer new a p) → (a p q : ℕ) → a < 2 ^ 32 → Wanted wants a p → Mixed old new pos a q → q ≡ p
agree wants old new pos promised a p q fits want m = let h = promised a p fits want in elim (cases_lt a pos) [ inl less ↦ some_same q p (sym (m.0 less) ∙ h.1) | inr le ↦ some_same q p (sym (m.1 le) ∙ h.0) ]

module _ (wants : Watch) (there : ℕ → ℕ → Bool) (old new : Look) (pos : ℕ) (n : Paths) (u : View) (at : IsAt wants there old new pos n u) (x d s o : ℕ) (cell : IsCellOf n u pos x d s) (answer : best_block new (4 * (d + 1)) (pos / 2 ^ (28 - 4 * d)) ≡ Some o) where
  shift_is : 32 - 4 * (d + 1) ≡ 28 - 4 * d
  shift_is = omega arith

  block_is : 16 * n.value x + s ≡ pos / 2 ^ (28 - 4 * d)
  block_is = sym cell.below ∙ ap (λ i. pos / 2 ^ i) shift_is

  none : Has there (n.depth x + 1) (16 * n.value x + s) → ⊥
  none = (subst (λ (z : Word). IsFilled (Mixed old new pos) (Has there) n x s z) cell.leaf.1 (at.fits.cells x s cell.path.0 cell.few.0)).0

  -- each address of the cell has the same answer
  answers : (a : ℕ) → IsIn n x s a → IsAnswer new a o
  answers a is =
      let free : Needs new (d + 1) (16 * n.value x + s) → ⊥ = λ h. none (subst (λ (i : ℕ). Has there (i + 1) (16 * n.value x + s)) (sym cell.path.1) (at.wider d (16 * n.value x + s) h)) in
      let le : d + 1 ≤ 8 = omega (arith, cell.few.1) in
      pushed_at new (d + 1) (16 * n.value x + s) a le (subst (λ (i : ℕ). IsBelow a (i + 1) (16 * n.value x + s)) cell.path.1 is.1) free ∙ ap (best_block new (4 * (d + 1))) block_is ∙ answer

  inside : (a : ℕ) → IsIn n x s a → Mixed old new ((pos / 2 ^ (28 - 4 * d) + 1) * 2 ^ (28 - 4 * d)) a o
  inside a is = (λ _. answers a is, λ past. absurd (let lt : a < (pos / 2 ^ (28 - 4 * d) + 1) * 2 ^ (28 - 4 * d) = block_end a (pos / 2 ^ (28 - 4 * d)) (28 - 4 * d) (ap (λ i. a / 2 ^ i) (sym shift_is) ∙ subst (λ (i : ℕ). IsBelow a (i + 1) (16 * n.value x + s)) cell.path.1 is.1 ∙ block_is) in omega arith))

  pub pos_below : pos < (pos / 2 ^ (28 - 4 * d) + 1) * 2 ^ (28 - 4 * d)
  pos_below = block_end pos (pos / 2 ^ (28 - 4 * d)) (28 - 4 * d) refl

  outside : (a p : ℕ) → a < 2 ^ 32 → (IsIn n x s a → ⊥) → Mixed old new pos a p → Mixed old new ((pos / 2 ^ (28 - 4 * d) + 1) * 2 ^ (28 - 4 * d)) a p
  outside a p fits out m = (λ lt. elim (cases_lt a pos) [ inl less ↦ m.0 less | inr le ↦ absurd (out (fits, subst (λ (i : ℕ). IsBelow a (i + 1) (16 * n.value x + s)) (sym cell.path.1) (ap (λ i. a / 2 ^ i) shift_is ∙ in_block a pos (28 - 4 * d) le lt ∙ sym block_is))) ], λ past. m.1 (let h = pos_below in omega arith))

  pub kind_is : HasKind u x (ToBalance o)
  kind_is = let e = best_is_one new (4 * (d + 1)) (pos / 2 ^ (28 - 4 * d)) o answer in at.sound.balance e.0 e.1 o e.2

  pub calm_is : IsCalm u x (ToBalance o)
  calm_is = no_cycle_balance (Wanted wants) n u at.served at.kinds x o (at.fits.held x cell.path.0).0 kind_is.1

  is_new : IsNew wants u (ToBalance o)
  is_new = record {
    apart = λ p e. let f : o ≡ p = cc in subst (λ (i : ℕ). u.is_ply i ≡ false) f kind_is.1;
    still = λ z p t e lt. let f : o ≡ p = cc in let b = best_is_one new (4 * (d + 1)) (pos / 2 ^ (28 - 4 * d)) o answer in subst (λ (i : ℕ). u.cell i t ≡ Drop) f (at.sound.still z b.0 b.1 o t b.2 lt);
  }

  end_is : end_of n x s ≡ (pos / 2 ^ (28 - 4 * d) + 1) * 2 ^ (28 - 4 * d)
  end_is = ap (λ i. (16 * n.value x + s + 1) * 2 ^ (28 - 4 * i)) cell.path.1 ∙ ap (λ i. (i + 1) * 2 ^ (28 - 4 * d)) block_is

  here_ahead : is_ahead n u pos x s ≡ true
  here_ahead = ap (λ z. not (is_to_ply z) && nat_lt pos (end_of n x s)) cell.leaf.1 ∙ lt_true pos (end_of n x s) (let l = pos_below in let e = end_is in omega (arith, l, e))

  ahead_some : 1 ≤ ahead n u pos
  ahead_some = let h = cells_lt (λ y t. false) (is_ahead n u pos) n.all x s (λ y t one lt e. absurd (true≢false (sym e))) (at.list.each x cell.path.0) cell.few.0 refl here_ahead in omega (arith, h)

  module _ (v : View) (put : IsSent u v x s (ToBalance o)) where
    pub served_on : IsServed (Wanted wants) n v
    served_on = served_sent (Wanted wants) (Mixed old new pos) (Mixed old new ((pos / 2 ^ (28 - 4 * d) + 1) * 2 ^ (28 - 4 * d))) (Has there) n u v x s o at.fits cell.path.0 cell.few.0 put none inside outside at.served (agree wants old new ((pos / 2 ^ (28 - 4 * d) + 1) * 2 ^ (28 - 4 * d)) at.promised)

    pub moved_on : Beside u v → Kinds v → IsAt wants there old new ((pos / 2 ^ (28 - 4 * d) + 1) * 2 ^ (28 - 4 * d)) n v
    moved_on beside kinds = record {
      fits = fits_sent (Wanted wants) (Mixed old new pos) (Mixed old new ((pos / 2 ^ (28 - 4 * d) + 1) * 2 ^ (28 - 4 * d))) (Has there) n u v x s o at.fits cell.path.0 cell.few.0 put none inside outside;
      wider = at.wider;
      served = served_on;
      kinds = kinds;
      promised = at.promised;
      was = sound_beside wants old u v beside at.was;
      sound = sound_beside wants new u v beside at.sound;
      kept = kept_sent wants u v at.kept x s (ToBalance o) at.kinds (at.fits.held x cell.path.0).0 is_new beside put;
      list = at.list;
    }

    same_cell : (y t : ℕ) → IsOne n.all y → (y ≡ x → t ≡ s → ⊥) → v.cell y t ≡ u.cell y t
    same_cell y t one apart = put.others y t apart (stands_on u v x s (ToBalance o) put y (at.fits.held y (at.list.only y one)).1)

    here_past : is_ahead n v ((pos / 2 ^ (28 - 4 * d) + 1) * 2 ^ (28 - 4 * d)) x s ≡ false
    here_past = ahead_past (v.cell x s) ((pos / 2 ^ (28 - 4 * d) + 1) * 2 ^ (28 - 4 * d)) (end_of n x s) (let e = end_is in omega (arith, e))

    elsewhere_less : (y t : ℕ) → IsOne n.all y → is_ahead n v ((pos / 2 ^ (28 - 4 * d) + 1) * 2 ^ (28 - 4 * d)) y t ≡ true → (y ≡ x → t ≡ s → ⊥) → is_ahead n u pos y t ≡ true
    elsewhere_less y t one h apart = ahead_mono (u.cell y t) pos ((pos / 2 ^ (28 - 4 * d) + 1) * 2 ^ (28 - 4 * d)) (end_of n y t) (let l = pos_below in omega (arith, l))
        (ap (λ z. not (is_to_ply z) && nat_lt ((pos / 2 ^ (28 - 4 * d) + 1) * 2 ^ (28 - 4 * d)) (end_of n y t)) (sym (same_cell y t one apart)) ∙ h)

    ahead_less : (y t : ℕ) → IsOne n.all y → t < 16 → is_ahead n v ((pos / 2 ^ (28 - 4 * d) + 1) * 2 ^ (28 - 4 * d)) y t ≡ true → is_ahead n u pos y t ≡ true
    ahead_less y t one lt h = dite (ℕ_discrete y x)
        (λ e. dite (ℕ_discrete t s)
        (λ f. absurd (true≢false (sym h ∙ ap₂ (λ i j. is_ahead n v ((pos / 2 ^ (28 - 4 * d) + 1) * 2 ^ (28 - 4 * d)) i j) e f ∙ here_past)))
        (λ ne. elsewhere_less y t one h (λ _ f. ne f)))
        (λ ne. elsewhere_less y t one h (λ e _. ne e))

    pub spent_on : IsSpent n u v pos ((pos / 2 ^ (28 - 4 * d) + 1) * 2 ^ (28 - 4 * d))
    spent_on =
        let less : ahead n v ((pos / 2 ^ (28 - 4 * d) + 1) * 2 ^ (28 - 4 * d)) + 1 ≤ ahead n u pos =
        cells_lt (is_ahead n v ((pos / 2 ^ (28 - 4 * d) + 1) * 2 ^ (28 - 4 * d))) (is_ahead n u pos) n.all x s ahead_less (at.list.each x cell.path.0) cell.few.0 here_past here_ahead in
        record {
          spare = omega (arith, put.spare);
          stored = omega (arith, put.stores.few);
          more = put.stores.more;
          same = cells_le (λ y t. is_to_ply (v.cell y t)) (λ y t. is_to_ply (u.cell y t)) n.all (λ y t one lt h. dite (ℕ_discrete y x)
              (λ e. dite (ℕ_discrete t s)
              (λ f. absurd (true≢false (sym h ∙ ap₂ (λ i j. is_to_ply (v.cell i j)) e f ∙ ap is_to_ply put.cell)))
              (λ ne. ap is_to_ply (sym (same_cell y t one (λ _ f. ne f))) ∙ h))
              (λ ne. ap is_to_ply (sym (same_cell y t one (λ e _. ne e))) ∙ h));
          mine = λ m y is h. m y (sym (put.kinds y (inr (inl h))) ∙ is) (sym (put.held y) ∙ h);
        }

  pub push_may : MayPut wants.promise u x s (ToBalance o)
  push_may = may_put wants u at.kept n x s (ToBalance o) at.served at.kinds (at.fits.held x cell.path.0).0 calm_is is_new (λ v put. served_on v put)
      (record { links = λ c e ne. absurd (cc); unlinks = λ c e t b f. let g : ToBalance cell.leaf.0 ≡ ToPly c = sym cell.leaf.1 ∙ e in absurd (cc) }) tt

  pub push_spare : ahead n u pos ≤ u.spare → 0 < u.spare
  push_spare enough = let k = ahead_some in omega (arith, enough, k)

  pub pos_small : pos < 2 ^ 32 → (pos / 2 ^ (28 - 4 * d) + 1) * 2 ^ (28 - 4 * d) % 18446744073709551616 ≡ (pos / 2 ^ (28 - 4 * d) + 1) * 2 ^ (28 - 4 * d)
  pos_small lt =
      let h : pos / 2 ^ (28 - 4 * d) * 2 ^ (28 - 4 * d) ≤ pos = div-mul-le_self pos (2 ^ (28 - 4 * d)) in
      let p : 2 ^ (28 - 4 * d) ≤ 2 ^ 28 = pow-le-pow_right {n = 2} (omega arith) {i = 28 - 4 * d} {j = 28} (omega arith) in
      mod-eq_of_lt (omega arith)

-- a set with 0.0.0.0/0 has a best prefix for each block
pub best_some : (look : Look) (n b : ℕ) → (o : ℕ) × (look 0 0 ≡ Some o) → b < 2 ^ n → (r : Option ℕ) → r ≡ best_block look n b → IsSome r
best_some look n b root lt None e = absurd (best_there look n b root.0 root.1 lt (sym e))
best_some look n b root lt (Some o) e = search rules

pub block_small : (a d : ℕ) → d ≤ 7 → a < 2 ^ 32 → a / 2 ^ (28 - 4 * d) < 2 ^ (4 * (d + 1))
block_small a d le lt = let e : 4 * (d + 1) + (28 - 4 * d) ≡ 32 = omega arith in shr_below a (4 * (d + 1)) (28 - 4 * d) (subst (λ (i : ℕ). a < 2 ^ i) (sym e) lt)

-- the cell that `find` answers
pub cell_at : (wants : Watch) (there : ℕ → ℕ → Bool) (old new : Look) (pos : ℕ) (n : Paths) (u : View) → IsAt wants there old new pos n u → (x d s : ℕ) → ((m : Paths) → IsTrie m u → IsCellOf m u pos x d s) → IsCellOf n u pos x d s
cell_at wants there old new pos n u at x d s found = found n (fits_trie (Mixed old new pos) (Has there) n u at.fits)

-- spending composes
pub spent_none : (n : Paths) (u : View) (pos : ℕ) → IsSpent n u u pos pos
spent_none n u pos = record { spare = omega arith; stored = omega arith; more = omega arith; same = omega arith; mine = λ m. m }

pub spent_then : (n : Paths) (u v w : View) (p q r : ℕ) → IsSpent n u v p q → IsSpent n v w q r → IsSpent n u w p r
spent_then n u v w p q r f g = record { spare = omega (arith, f.spare, g.spare); stored = omega (arith, f.stored, g.stored); more = omega (arith, f.more, g.more); same = omega (arith, f.same, g.same); mine = λ h. g.mine (f.mine h) }

pub spent_enough : (n : Paths) (u v : View) (p q : ℕ) → IsSpent n u v p q → ahead n u p ≤ u.spare → ahead n v q ≤ v.spare
spent_enough n u v p q s enough = omega (arith, s.spare, enough)
