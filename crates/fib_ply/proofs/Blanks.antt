-- The root is filled before the first change.
use Rattle.std.proofs.Common.{arith, ◌≡◌, ℕ, zero, suc, ◌+◌, ◌<◌, ◌≤◌, inl, inr, ⊎_elim, true≢false, None, refl, sym, ap, ◌∙◌, subst}
use Rattle.fib_core.specs.declared.word.Word.{Word}
use Rattle.fib_core.specs.declared.word.Word.TheVariants.{ToPly, ToBalance}
use Rattle.fib_plane_view.specs.Frames.{Beside}
use Rattle.fib_plane_view.specs.Promise.{Promise, Serves, MayPut, IsStill}
use Rattle.fib_plane_view.specs.View.{View, Goes, Kinds, leads}
use Rattle.fib_plane_view.proofs.Frames.{beside_put}
use Rattle.fib_ply.specs.Blank.{IsBlank}
use Rattle.fib_ply.specs.inner.Change.{IsCalm}
use Rattle.fib_ply.specs.inner.View.{IsSent}
use Rattle.fib_ply.proofs.Promises.{sent}

not_ply : (w : Word) (o c : ℕ) → ToPly c ≡ ToBalance o → ⊥
not_ply w o c e = cc

same_balance : (o r : ℕ) → ToBalance r ≡ ToBalance o → r ≡ o
same_balance o r e = cc

module _ (p : Promise) (u : View) (o i : ℕ) (blank : IsBlank p u o i) where
  apart : o ≡ 0 → ⊥
  apart e = true≢false (sym blank.root ∙ ap u.is_ply (sym e) ∙ blank.balance.1)

  pub blank_calm : IsCalm u 0 (ToBalance o)
  blank_calm (zero, e) = apart e
  blank_calm (suc n, walk) = apart (blank.edges o walk.1.0 walk.0 walk.1.1 walk.1.2 walk.1.3).0

  pub no_ply : (x s c : ℕ) → Goes u x s (ToPly c) → ⊥
  no_ply x s c g = not_ply (ToPly c) o c (blank.edges x s c (ToPly c) refl g).1

  pub blank_still : IsStill u
  blank_still x s r t g lt = ap (λ k. u.cell k t) (same_balance o r (blank.edges x s r (ToBalance r) refl g).1) ∙ blank.drops t lt

  pub blank_serves : Serves p (record { depth = λ x. 0; value = λ x. 0; balance = λ e. None }) u
  blank_serves = record {
    paths = record { root = (refl, refl); paths = λ x s c g. absurd (no_ply x s c g) };
    promised = λ b. let z = blank.early.0 in absurd (omega (arith, z, b));
    still = λ z. blank_still;
  }

  module _ (v : View) (less : i < 16) (put : IsSent u v 0 i (ToBalance o)) (beside : Beside u v) where
    pub blank_on : IsBlank p v o (i + 1)
    blank_on = record {
      early = blank.early;
      versions = blank.versions;
      root = put.kinds 0 (inl refl) ∙ blank.root;
      none = λ x is h. blank.none x (sym (put.kinds x (inr (inl h))) ∙ is) (sym (put.held x) ∙ h);
      edges = λ x s y w l g. ⊎_elim (λ (h : Goes u x s w). blank.edges x s y w l h) (λ (h : (x ≡ 0) × (s ≡ i) × (w ≡ ToBalance o)). (h.0, h.2)) (put.edges x s y w l g);
      filled = λ t lt. ⊎_elim (λ (b : t < i). put.others 0 t (λ _ e. absurd (omega (arith, e, b))) (inl refl) ∙ blank.filled t b) (λ (b : i ≤ t). let e : t ≡ i = omega (arith, lt, b) in ap (v.cell 0) e ∙ put.cell) (Rattle.std.proofs.lemmas.Bool.cases_lt t i);
      empty = λ t le lt y l. blank.empty t (omega (arith, le)) lt y (subst (λ (w : Word). leads w y) (put.others 0 t (λ _ e. absurd (omega (arith, e, le))) (inl refl)) l);
      balance = beside.balances o blank.balance;
      drops = λ t lt. beside.cells o t blank.balance ∙ blank.drops t lt;
    }

pub blank_may : (p : Promise) (u : View) (o i : ℕ) → IsBlank p u o i → i < 16 → Kinds u → MayPut p u 0 i (ToBalance o)
blank_may p u o i blank less kinds = record {
  allowed = inr blank.early;
  names = record { depth = λ x. 0; value = λ x. 0; balance = λ e. None };
  before = blank_serves p u o i blank;
  after = λ v a put. blank_serves p v o (i + 1) (blank_on p u o i blank v less (sent u v 0 i (ToBalance o) a (blank_calm p u o i blank) put) (beside_put u v 0 i (ToBalance o) a kinds blank.root put));
  rooted = record { links = λ c e. absurd (no_edge c e); unlinks = λ c e t d f. blank.empty i (omega arith) less c (subst (λ (w : Word). leads w c) (sym e) refl) };
  ends = tt;
}
  where
    no_edge : (c : ℕ) → ToBalance o ≡ ToPly c → ⊥
    no_edge c e = cc
