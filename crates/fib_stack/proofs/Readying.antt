-- What is made ready before the first put.
use Rattle.std.proofs.Common.{◌≡◌, IsErrAnd, ℕ, ◌<◌, ◌≤◌, inl, inr, true≢false, refl, sym, ap, ◌∙◌, subst, arith}
use Rattle.std.specs.Prelude.{IfNone, IfSome, Option, Some, None, Result, Ok, Err}
use native.Mathlib.Decide.{ℕ_discrete}
use mathlib.Core.Logic.{dite}
use Rattle.fib_addr.specs.Prefixes.{Prefix}
use Rattle.fib_pool.specs.declared.object.Kind.TheVariants as kinds
use Rattle.fib_core_steady.specs.Names.{Names}
use Rattle.fib_plane_view.specs.Frames.{IsQuiet}
use Rattle.fib_plane_view.specs.Promise.{Promise, Serves}
use Rattle.fib_plane_view.specs.View.{View, HasRoom, IsBalance, IsPlane, IsTaken}
use Rattle.fib_stack.specs.Records.{SameBalances, SamePlane}
use Rattle.fib_stack.specs.declared.records.Want.{Want}
use Rattle.fib_stack.specs.inner.Readied.{GotObject}
use Rattle.fib_stack.proofs.Clearing.{serves_still, take_serves}
use Rattle.fib_stack.proofs.Leaving.{quiet_none, take_quiet}

-- a view with another room
abbrev roomy : View → ℕ → View
roomy u n = record u { spare = n }

pub room_quiet : (u v : View) → HasRoom u v → (look : Prefix → Option ℕ) → IsQuiet look u v
room_quiet u v h look = subst (λ (w : View). IsQuiet look u w) (sym h.same) (record { plies = λ x is live. (is, live); cells = λ x t is live. refl; edges = λ x t c g. g; kinds = λ x m k. (k, refl); held = λ x is k. k; root = refl })

pub room_serves : (p : Promise) (n : Names) (u v : View) → HasRoom u v → Serves p n u → Serves p n v
room_serves p n u v h s = subst (λ (w : View). Serves p n w) (sym h.same) (serves_still p n u (roomy u v.spare) (λ y t d z l g. g) (λ y t l l'. refl) (λ b e o lasts is q. q) s)

pub room_balances : (u v : View) → HasRoom u v → SameBalances u v
room_balances u v h = subst (λ (w : View). SameBalances u w) (sym h.same) (record { stay = λ x b. b; fresh = λ x b. b; cells = λ x k b. refl })

pub room_same : (u v : View) → HasRoom u v → SamePlane u v
room_same u v h = record {
  users = λ m. ap (λ (w : View). w.users m) h.same;
  record_of = λ m. ap (λ (w : View). w.record_of m) h.same;
  balances = room_balances u v h;
  free = let e = ap (λ (w : View). w.free) h.same in omega (arith, e);
  stored = let e = ap (λ (w : View). w.stored) h.same in omega (arith, e);
  spare = h.more;
}

pub same_then : (u v w : View) → SamePlane u v → SamePlane v w → SamePlane u w
same_then u v w f g = record {
  users = λ m. g.users m ∙ f.users m;
  record_of = λ m. g.record_of m ∙ f.record_of m;
  balances = record {
    stay = λ x b. g.balances.stay x (f.balances.stay x b);
    fresh = λ x b. f.balances.fresh x (g.balances.fresh x b);
    cells = λ x k b. g.balances.cells x k (f.balances.stay x b) ∙ f.balances.cells x k b;
  };
  free = omega (arith, f.free, g.free);
  stored = omega (arith, f.stored, g.stored);
  spare = omega (arith, f.spare, g.spare);
}

pub room_none : (u : View) → HasRoom u u
room_none u = record { more = omega arith; same = refl }

-- the prefix's own balance
pub own_object : (u : View) (balances : Prefix → Option ℕ) (e : Prefix) (o : ℕ) → balances e ≡ Some o → IsBalance u o → GotObject u u balances e o
own_object u balances e o is b = record {
  which = inl is;
  here = b;
  stay = λ x h. h;
  fresh = λ x h. inl h;
  cells = λ x k h. refl;
  records = record { record_of = refl; users = refl };
  free = λ none. absurd (let bad : Some o ≡ None = sym is ∙ none in cc);
  stored = omega arith;
  spare = omega arith;
}

-- one that was taken
pub taken_object : (u v : View) (balances : Prefix → Option ℕ) (e : Prefix) (o : ℕ) → balances e ≡ None → 8 ≤ u.free → IsTaken u v kinds.Balance o → GotObject u v balances e o
taken_object u v balances e o none enough t = record {
  which = inr (none, λ b. true≢false (sym b.0 ∙ t.fresh));
  here = t.held;
  stay = λ x b. let q = t.others x (λ at. true≢false (sym b.0 ∙ ap u.is_held at ∙ t.fresh)) in (q.0 ∙ b.0, q.1 ∙ b.1);
  fresh = λ x b. dite (ℕ_discrete x o) (λ is. inr is) (λ ne. let q = t.others x ne in inl (sym q.0 ∙ b.0, sym q.1 ∙ b.1));
  cells = λ x k b. t.cells x k;
  records = t.records;
  free = λ z. omega (arith, enough, t.free);
  stored = omega (arith, t.stored);
  spare = omega (arith, t.spare);
}

-- one was taken, or not
pub maybe_quiet : (u v : View) (r : Option ℕ) → IsPlane v → IfSome r (IsTaken u v kinds.Balance) → IfNone r (v ≡ u) → (look : Prefix → Option ℕ) → IsQuiet look u v
maybe_quiet u v None plane some none look = subst (λ (w : View). IsQuiet look u w) (sym none) (quiet_none look u)
maybe_quiet u v (Some c) plane some none look = take_quiet u v c plane some look

pub maybe_serves : (p : Promise) (n : Names) (u v : View) (r : Option ℕ) → IfSome r (IsTaken u v kinds.Balance) → IfNone r (v ≡ u) → Serves p n u → Serves p n v
maybe_serves p n u v None some none s = subst (λ (w : View). Serves p n w) (sym none) s
maybe_serves p n u v (Some c) some none s = take_serves p n u v c some s

pub none_same : (u v : View) (r : Option ℕ) → IfNone r (v ≡ u) → r ≡ None → v ≡ u
none_same u v None h e = h
none_same u v (Some c) h e = absurd (cc)

pub none_short : (free : ℕ) (r : Option ℕ) → IfNone r (free < 8) → r ≡ None → free < 8
none_short free None h e = h
none_short free (Some c) h e = absurd (cc)

-- an error that is handed on is the one that was answered
abbrev pub failed_with : (A : Type 0) → Want → Result A Want
failed_with A e = Err e

want_in : {A : Type 0} → Want → Result A Want → Want
want_in d (Ok x) = d
want_in d (Err e) = e

pub handed_on : (A B : Type 0) (r : Result A Want) (q : Result B Want) (e f : Want) → r ≡ failed_with A e → IsErrAnd q (λ y. y ≡ e) → q ≡ failed_with B f → r ≡ failed_with A f
unfolding want_in
handed_on A B r (Ok x) e f was same is = absurd same
handed_on A B r (Err y) e f was same is = was ∙ ap (failed_with A) (sym same ∙ ap (want_in e) is)
