-- Stores that are counted, call after call; and words are one or not.
use Rattle.std.proofs.Common.{◌≡◌, ◌≢◌, ◌⊎◌, ℕ, zero, suc, ◌+◌, inl, inr, ⊎_elim, List, [], ◌∷◌, ◌++◌, length, refl, sym, ap, ◌∙◌, subst, arith}
use Rattle.std.proofs.lemmas.List.{length-append}
use native.Mathlib.Decide.{ℕ_discrete}
use mathlib.Core.Logic.{dite}
use Rattle.fib_core.specs.declared.word.Word.{Word}
use Rattle.fib_core.specs.declared.word.Word.TheVariants as words
use Rattle.fib_plane_view.specs.View.{View}
use Rattle.fib_plane_view.specs.Stores.{AreOnce, Has, StoresEach}

-- words by a tag and a number
tag : Word → ℕ
tag words.Drop = 0
tag words.Receive = 1
tag (words.Glean i) = 2
tag (words.ToPly x) = 3
tag (words.ToBalance x) = 4
tag (words.ToAdjacency x) = 5
tag (words.Plain n) = 6

number : Word → ℕ
number words.Drop = 0
number words.Receive = 0
number (words.Glean i) = i
number (words.ToPly x) = x
number (words.ToBalance x) = x
number (words.ToAdjacency x) = x
number (words.Plain n) = n

made : ℕ → ℕ → Word
made zero n = words.Drop
made (suc zero) n = words.Receive
made (suc (suc zero)) n = words.Glean n
made (suc (suc (suc zero))) n = words.ToPly n
made (suc (suc (suc (suc zero)))) n = words.ToBalance n
made (suc (suc (suc (suc (suc zero))))) n = words.ToAdjacency n
made (suc (suc (suc (suc (suc (suc t)))))) n = words.Plain n

made_again : (w : Word) → made (tag w) (number w) ≡ w
unfolding made tag number
made_again words.Drop = refl
made_again words.Receive = refl
made_again (words.Glean i) = refl
made_again (words.ToPly x) = refl
made_again (words.ToBalance x) = refl
made_again (words.ToAdjacency x) = refl
made_again (words.Plain n) = refl

pub word_discrete : (v w : Word) → Dec (v ≡ w)
word_discrete v w = dite (ℕ_discrete (tag v) (tag w))
    (λ e. dite (ℕ_discrete (number v) (number w))
    (λ f. yes (sym (made_again v) ∙ ap (λ n. made n (number v)) e ∙ ap (made (tag w)) f ∙ made_again w))
    (λ ne. no (λ is. ne (ap number is))))
    (λ ne. no (λ is. ne (ap tag is)))

pub has_left : (cs ds : List (ℕ × ℕ)) (x s : ℕ) → Has cs x s → Has (cs ++ ds) x s
has_left [] ds x s h = absurd h
has_left (c ∷ cs) ds x s (inl e) = inl e
has_left (c ∷ cs) ds x s (inr h) = inr (has_left cs ds x s h)

pub has_right : (cs ds : List (ℕ × ℕ)) (x s : ℕ) → Has ds x s → Has (cs ++ ds) x s
has_right [] ds x s h = h
has_right (c ∷ cs) ds x s h = inr (has_right cs ds x s h)

pub has_either : (cs ds : List (ℕ × ℕ)) (x s : ℕ) → Has (cs ++ ds) x s → Has cs x s ⊎ Has ds x s
has_either [] ds x s h = inr h
has_either (c ∷ cs) ds x s (inl e) = inl (inl e)
has_either (c ∷ cs) ds x s (inr h) = ⊎_elim (λ (l : Has cs x s). inl (inr l)) (λ (r : Has ds x s). inr r) (has_either cs ds x s h)

once_append : (cs ds : List (ℕ × ℕ)) → AreOnce cs → AreOnce ds → ((x s : ℕ) → Has cs x s → Has ds x s → ⊥) → AreOnce (cs ++ ds)
once_append [] ds a b apart = b
once_append (c ∷ cs) ds a b apart = (
  λ h. ⊎_elim (λ (l : Has cs c.0 c.1). a.0 l) (λ (r : Has ds c.0 c.1). apart c.0 c.1 (inl (refl, refl)) r) (has_either cs ds c.0 c.1 h),
  once_append cs ds a.1 b (λ x s l r. apart x s (inr l) r),
)

pub stores_none : (P : ℕ → ℕ → Type 0) (u v : View) → ((x s : ℕ) → v.cell x s ≡ u.cell x s) → v.stored ≡ u.stored → StoresEach P u v
stores_none P u v same stored = record { cells = []; once = tt; each = λ x s h. absurd h; all = λ x s ne. absurd (ne (sym (same x s))); stored = omega (arith, stored) }

pub stores_weaker : (P Q : ℕ → ℕ → Type 0) (u v : View) → ((x s : ℕ) → u.cell x s ≢ v.cell x s → P x s → Q x s) → StoresEach P u v → StoresEach Q u v
stores_weaker P Q u v f h = record { cells = h.cells; once = h.once; each = λ x s has. (let e = h.each x s has in (e.0, f x s e.0 e.1)); all = h.all; stored = h.stored }

-- calls that store different cells
pub stores_then : (P : ℕ → ℕ → Type 0) (u v w : View) (f : StoresEach P u v) (g : StoresEach P v w)
    → ((x s : ℕ) → Has f.cells x s → Has g.cells x s → ⊥) → StoresEach P u w
stores_then P u v w f g apart = record {
  cells = f.cells ++ g.cells;
  once = once_append f.cells g.cells f.once g.once apart;
  each = λ x s h. ⊎_elim
      (λ (l : Has f.cells x s). (let e = f.each x s l in (λ is. e.0 (is ∙ sym (unchanged x s (λ r. apart x s l r))), e.1)))
      (λ (r : Has g.cells x s). (let e = g.each x s r in (λ is. e.0 (sym (unchanged_before x s (λ l. apart x s l r)) ∙ is), e.1)))
      (has_either f.cells g.cells x s h);
  all = λ x s ne. dite (word_discrete (u.cell x s) (v.cell x s))
      (λ is. has_right f.cells g.cells x s (g.all x s (λ e. ne (is ∙ e))))
      (λ other. has_left f.cells g.cells x s (f.all x s other));
  stored = (let a = f.stored in let b = g.stored in let l = length-append f.cells g.cells in omega (arith, a, b, l));
}
  where
    unchanged : (x s : ℕ) → (Has g.cells x s → ⊥) → v.cell x s ≡ w.cell x s
    unchanged x s none = dite (word_discrete (v.cell x s) (w.cell x s)) (λ is. is) (λ ne. absurd (none (g.all x s ne)))

    unchanged_before : (x s : ℕ) → (Has f.cells x s → ⊥) → u.cell x s ≡ v.cell x s
    unchanged_before x s none = dite (word_discrete (u.cell x s) (v.cell x s)) (λ is. is) (λ ne. absurd (none (f.all x s ne)))
