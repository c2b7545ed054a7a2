-- What holds of every plane has one proof at most, so that a type may keep it.
use Rattle.std.proofs.Common.{◌≡◌, ◌∙◌, ℕ, zero, suc, refl, Option, Some, None, sym, ap}
use mathlib.Core.HLevel.{Σ_prop_path, collapsible→set}
use Rattle.std.proofs.Math.Bool.{Bool-set}
use Rattle.std.proofs.Math.Nat.{ℕ_set}
use Rattle.std.proofs.Math.Bridge.{le_prop}
use mathlib.Core.Sum.{⊎_set}
use Rattle.fib_resolve.specs.declared.types.End.{End}
use Rattle.fib_resolve.specs.declared.types.End.TheVariants as answers
use Rattle.fib_core.specs.declared.word.Word.{Word}
use Rattle.fib_core.specs.declared.word.Word.TheVariants as words
use Rattle.fib_core.specs.Union.{IsBucketWord}
use Rattle.fib_plane.specs.Planes.{Plane}
use Rattle.fib_plane_view.specs.View.{View, IsPlane}
use base.Stored.{coded_sub}
use Rattle.std.specs.Coded.{Coded, code_by, ×_prop}
use Rattle.fib_plane.specs.Views.{AreRecorded, Whole, view_of}

bucket_prop : (w : Word) → IsProp (IsBucketWord w)
bucket_prop words.Drop = hlevel
bucket_prop words.Receive = hlevel
bucket_prop (words.Glean i) = hlevel
bucket_prop (words.ToPly o) = hlevel
bucket_prop (words.ToBalance o) = hlevel
bucket_prop (words.ToAdjacency o) = hlevel
bucket_prop (words.Plain n) = hlevel

option_set : IsSet (Option ℕ)
option_set = hlevel (ℕ_set, ⊎_set)

-- an end by its number and its parts
coded : End → ℕ × ℕ × ℕ × Option ℕ
coded answers.Drop = (0, 0, 0, None)
coded answers.Receive = (1, 0, 0, None)
coded (answers.Glean i) = (2, i, 0, None)
coded (answers.Hop i a m) = (3, i, a, m)

read : ℕ × ℕ × ℕ × Option ℕ → End
read (zero, i, a, m) = answers.Drop
read (suc zero, i, a, m) = answers.Receive
read (suc (suc zero), i, a, m) = answers.Glean i
read (suc (suc (suc n)), i, a, m) = answers.Hop i a m

read_coded : (e : End) → read (coded e) ≡ e
unfolding read coded
read_coded answers.Drop = refl
read_coded answers.Receive = refl
read_coded (answers.Glean i) = refl
read_coded (answers.Hop i a m) = refl

code_set : IsSet (ℕ × ℕ × ℕ × Option ℕ)
code_set = hlevel (ℕ_set, option_set)

end_set : IsSet End
end_set = collapsible→set
    (λ x y p. sym (read_coded x) ∙ (ap read (ap coded p) ∙ read_coded y))
    (λ x y p q. ap (λ (r : coded x ≡ coded y). sym (read_coded x) ∙ (ap read r ∙ read_coded y))
    (code_set (coded x) (coded y) (ap coded p) (ap coded q)))

one_number : (o : Option ℕ) → IsProp ((x : ℕ) × (o ≡ Some x))
one_number o a b = Σ_prop_path (λ x. option_set o (Some x)) (let e : Some a.0 ≡ Some b.0 = sym a.1 ∙ b.1 in let f : a.0 ≡ b.0 = cc in f)

pub IsPlane-prop : (u : View) → IsProp (IsPlane u)
IsPlane-prop u = hlevel (le_prop, Bool-set, ℕ_set, option_set, end_set, bucket_prop, one_number)

pub AreRecorded-prop : (p : Plane) → IsProp (AreRecorded p)
AreRecorded-prop p = hlevel (le_prop, Bool-set)

-- a whole plane is stored as its plane
abbrev pub whole_code : Coded Plane → Coded Whole
whole_code code =
    code_by ((p : Plane) × (IsPlane (view_of p) × AreRecorded p))
    (coded_sub code (λ p. IsPlane (view_of p) × AreRecorded p) (λ p. ×_prop (IsPlane-prop (view_of p)) (AreRecorded-prop p)))
    (λ w. (w.plane, (w.sound, w.recorded))) (λ t. record { plane = t.0; sound = t.1.0; recorded = t.1.1 }) (λ _. refl)
