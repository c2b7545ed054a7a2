-- Numbers for what the tables count: a ply by its path, a balance as the prefix table has it, an adjacency as its record is kept.
use Rattle.std.proofs.Common.{◌≡◌, ℕ, ◌/◌, inl, inr, ⊎_elim, eq-eqb, ne_eqb, ◌&&◌, List, [], ◌∷◌, refl, ap, ◌∙◌}
use Rattle.std.specs.Prelude.{◌==◌, Option, Some, None, if◌then◌else◌}
use native.Mathlib.Decide.{ℕ_discrete}
use mathlib.Core.Logic.{dite}
use Rattle.fib_addr.specs.Prefixes.{Prefix, size_of}
use Rattle.fib_resolve.specs.Resolution.{mac_of}
use Rattle.fib_resolve.specs.declared.types.Tables.{Tables}
use Rattle.fib_core.specs.StandsFor.{Thing, ply_of, balance_of, adjacency_of}
use Rattle.fib_plane_view.specs.View.{View}
use Rattle.fib_ply.specs.Plies.{IsOne}
use Rattle.fib_ply.specs.Served.{Paths}

abbrev pub or_zero : Option ℕ → ℕ
or_zero None = 0
or_zero (Some o) = o

-- the first ply of the list with this path
unfoldable pub ply_at : Paths → List ℕ → ℕ → ℕ → ℕ
ply_at n [] d w = 0
ply_at n (x ∷ xs) d w = if (n.depth x == d) && (n.value x == w) then x else ply_at n xs d w

abbrev pub number : Paths → (Prefix → Option ℕ) → View → Tables → Thing → ℕ
number n balances v S (ply_of q) = ply_at n n.all (q.len / 4) (q.bits / size_of q.len)
number n balances v S (balance_of e) = or_zero (balances e)
number n balances v S (adjacency_of x) = or_zero (v.record_of (record { interface = x.interface; next_hop = x.next_hop; mac = mac_of S x.interface x.next_hop }))

-- it is the only one
pub ply_at_is : (n : Paths) (xs : List ℕ) (d w c : ℕ) → IsOne xs c → n.depth c ≡ d → n.value c ≡ w → ((x : ℕ) → IsOne xs x → n.depth x ≡ d → n.value x ≡ w → x ≡ c) → ply_at n xs d w ≡ c
unfolding ply_at
ply_at_is n [] d w c one dep val only = absurd one
ply_at_is n (x ∷ xs) d w c one dep val only =
    let rest : (x ≡ c → ⊥) → ply_at n xs d w ≡ c = λ not. ply_at_is n xs d w c (⊎_elim (λ (is : x ≡ c). absurd (not is)) (λ (h : IsOne xs c). h) one) dep val (λ y h. only y (inr h)) in
    dite (ℕ_discrete (n.depth x) d)
    (λ e. dite (ℕ_discrete (n.value x) w)
    (λ f. rw (eq-eqb (n.depth x) d e, eq-eqb (n.value x) w f) (only x (inl refl) e f))
    (λ ne. rw (eq-eqb (n.depth x) d e, ne_eqb (n.value x) w ne) (rest (λ is. ne (ap n.value is ∙ val)))))
    (λ ne. rw (ne_eqb (n.depth x) d ne) (rest (λ is. ne (ap n.depth is ∙ dep))))
