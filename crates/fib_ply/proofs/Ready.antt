-- A table that has 0.0.0.0/0 alone.
use Rattle.std.proofs.Common.{arith, ◌≡◌, ℕ, ◌+◌, ◌*◌, ◌-◌, ◌/◌, ◌^◌, ◌<◌, inl, inr, ⊎_elim, Bool, true, false, eq-eqb, ne_eqb, [], ◌∷◌, Option, Some, None, refl, sym, ap, ◌∙◌, subst}
use Rattle.std.specs.Prelude.{◌==◌, if◌then◌else◌, nat_lt}
use Rattle.std.proofs.lemmas.Bool.{false≢true}
use Rattle.std.proofs.Math.Nat.{div-eq_of_lt}
use native.Mathlib.Decide.{ℕ_discrete}
use mathlib.Core.Logic.{dite}
use Rattle.fib_addr.specs.Prefixes.{Prefix, same_prefix}
use Rattle.fib_addr.specs.Longest.{everything}
use Rattle.fib_addr.proofs.PrefixLaws.{same_prefix-Decides}
use Rattle.fib_core.specs.declared.word.Word.{Word}
use Rattle.fib_base_ordered.specs.Sets.{Order}
use Rattle.fib_core_promise.specs.Matches.{look_of, added, promised_by}
use Rattle.fib_core_promise.proofs.Answers.{match_answers}
use Rattle.fib_plane_view.specs.Promise.{Promise}
use Rattle.fib_plane_view.specs.View.{View, Kinds}
use Rattle.fib_ply.specs.Prefixes.{IsAnswer, Needs}
use Rattle.fib_ply.specs.Rows.{held}
use Rattle.fib_ply.specs.Tables.{Stands}
use Rattle.fib_ply.specs.declared.rows.Row.{Row}
use Rattle.fib_ply.specs.Blank.{IsBlank}
use Rattle.fib_ply.specs.Plies.{Mixed, Has, IsListed, IsSound, IsTable}
use Rattle.fib_ply.specs.Served.{Paths, IsRight, IsServed, IsWalked, KeepsBeside, Watch, Wanted}
use Rattle.fib_ply.specs.Fitting.{Fits, IsFilled}
use Rattle.fib_ply.proofs.Blanks.{no_ply, blank_still}

abbrev pub root_alone : Paths
root_alone = record { depth = λ x. 0; value = λ x. 0; is_in = λ x. x == 0; all = 0 ∷ [] }

abbrev pub nowhere : ℕ → ℕ → Bool
nowhere d w = false

is_root : (x : ℕ) → (x == 0) ≡ true → x ≡ 0
is_root x is = dite (ℕ_discrete x 0) (λ e. e) (λ ne. absurd (false≢true (sym (ne_eqb x 0 ne) ∙ is)))

some_same : (o r : ℕ) → Some o ≡ Some r → r ≡ o
some_same o r e = cc

none_not : (r : ℕ) → None ≡ Some r → ⊥
none_not r e = cc

module _ (f : Prefix → Option ℕ) (o : ℕ) (is : f ≡ added (λ e. None) everything o) where
  only : (q : Prefix) (r : ℕ) → f q ≡ Some r → (q ≡ everything) × (r ≡ o)
  only q r h = by_test (same_prefix q everything) refl (ap (λ (g : Prefix → Option ℕ). g q) (sym is) ∙ h)
    where
      by_test : (b : Bool) → same_prefix q everything ≡ b → (if b then Some o else None) ≡ Some r → (q ≡ everything) × (r ≡ o)
      by_test true t e = ((same_prefix-Decides q everything).0 t, some_same o r e)
      by_test false t e = absurd (none_not r e)

  all : f everything ≡ Some o
  all = ap (λ (g : Prefix → Option ℕ). g everything) is ∙ (let t : same_prefix everything everything ≡ true = (same_prefix-Decides everything everything).1 refl in ap (λ (b : Bool). if b then Some o else None) t)

  answer : (a : ℕ) → a < 2 ^ 32 → IsAnswer (look_of f) a o
  answer a lt = match_answers f o all a everything o lt (record { short = omega arith; fits = omega arith; cleared = refl })
      (record { there = all; matches = eq-eqb (a / 4294967296) 0 (div-eq_of_lt lt); longest = λ q p h c. let e : q.len ≡ 0 = ap (λ (i : Prefix). i.len) (only q p h).0 in omega (arith, e) })

  length_none : (l c r : ℕ) → look_of f l c ≡ Some r → (l ≡ 0) × (r ≡ o)
  length_none l c r h = let k = only (record { bits = c * 2 ^ (32 - l); len = l }) r h in (ap (λ (i : Prefix). i.len) k.0, k.1)

  no_needs : (d w : ℕ) → Needs (look_of f) (d + 1) w → ⊥
  no_needs d w (j, b, r, le, block, h) = let e = (length_none (4 * (d + 1) + j + 1) b r h).0 in omega (arith, e)

  module _ (p : Promise) (u : View) (blank : IsBlank p u o 16) (kinds : Kinds u) where
    watch : Watch
    watch = record { promise = p; balance = f }

    nothing : (a r : ℕ) → Wanted (record { promise = p; balance = f }) a r → ⊥
    nothing a r h = none_not r (sym (ap (λ (b : Bool). if b then promised_by p.versions f a else None) early) ∙ h)
      where
        early : nat_lt 0 p.applied ≡ false
        early = let z = blank.early.0 in ap (nat_lt 0) z

    filled : (s : ℕ) → s < 16 → IsFilled (Mixed (look_of f) (look_of f) 0) (Has nowhere) root_alone 0 s (u.cell 0 s)
    filled s lt = subst (IsFilled (Mixed (look_of f) (look_of f) 0) (Has nowhere) root_alone 0 s) (sym (blank.filled s lt)) ((λ h. false≢true h), λ a i. (λ _. answer a i.0, λ _. answer a i.0))

    fits : Fits (Mixed (look_of f) (look_of f) 0) (Has nowhere) root_alone u
    fits = record {
      root = (refl, refl, refl);
      held = λ x is. let e = is_root x is in (ap u.is_ply e ∙ blank.root, inl e);
      apart = λ x y is is' _ _. is_root x is ∙ sym (is_root y is');
      needed = λ x is. (omega arith, inl (is_root x is));
      upward = λ d w h. absurd (false≢true h);
      cells = λ x s is lt. subst (λ (i : ℕ). IsFilled (Mixed (look_of f) (look_of f) 0) (Has nowhere) root_alone i s (u.cell i s)) (sym (is_root x is)) (filled s lt);
    }

    walked : (x : ℕ) → IsWalked u x → x ≡ 0
    walked x (inl e) = e
    walked x (inr g) = absurd (no_ply p u o 16 blank g.0 g.1 x g.3)

    served : IsServed (Wanted (record { promise = p; balance = f })) root_alone u
    served = record {
      root = (refl, refl);
      paths = λ x s c g. absurd (no_ply p u o 16 blank x s c g);
      right = λ x s at lt. subst (λ (w : Word). IsRight (Wanted (record { promise = p; balance = f })) root_alone x s w) (sym (ap (λ i. u.cell i s) (walked x at) ∙ blank.filled s lt)) (λ a r i h. absurd (nothing a r h));
    }

    sound : IsSound (record { promise = p; balance = f }) (look_of f) u
    sound = record {
      balance = λ l c r h. let e = (length_none l c r h).1 in (ap u.is_held e ∙ blank.balance.0, ap u.is_ply e ∙ blank.balance.1);
      whole = (o, all);
      still = λ z l c r t h lt. ap (λ i. u.cell i t) (length_none l c r h).1 ∙ blank.drops t lt;
    }

    kept : KeepsBeside (record { promise = p; balance = f }) u
    kept = record {
      allowed = inr blank.early;
      newest = blank.versions.0;
      older = blank.versions.1;
      versions = blank.versions.2;
      buckets = λ b. let z = blank.early.0 in absurd (omega (arith, z, b));
      still = λ z. blank_still p u o 16 blank;
    }

    list : IsListed root_alone
    list = record { each = λ x is. inl (sym (is_root x is)); only = λ x one. ⊎_elim (λ (e : 0 ≡ x). eq-eqb x 0 (sym e)) (λ (no : ⊥). absurd no) one; apart = (tt, tt) }

    pub ready_table : IsTable (record { promise = p; balance = f }) (look_of f) nowhere root_alone u
    ready_table = record {
      at = record {
        fits = fits;
        wider = λ d w h. absurd (no_needs d w h);
        served = served;
        kinds = kinds;
        promised = λ a r lt h. absurd (nothing a r h);
        was = sound;
        sound = sound;
        kept = kept;
        list = list;
      };
      exact = λ e w h. absurd (false≢true h);
    }

pub ready_stands : (rows : Order Row) (o : ℕ) → held rows.members ≡ added (λ e. None) everything o → (p : Promise) (u : View) → IsBlank p u o 16 → Kinds u → Stands p (record { rows = rows; plies = 1 }) u
ready_stands rows o is p u blank kinds = (nowhere, root_alone, ready_table (held rows.members) o is p u blank kinds, refl, λ x ply h. absurd (blank.none x ply h))
