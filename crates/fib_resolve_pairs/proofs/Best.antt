-- A search for the best pair from behind.
use Rattle.std.proofs.Common.{arith, ◌≡◌, ℕ, suc, ◌-◌, ◌<◌, ◌≤◌, true, List, ◌∷◌, drop, drop-cons, length, get_or, Some, refl, sym, ◌∙◌, ap}
use Rattle.std.specs.Prelude.{slice_get}
use Rattle.std.proofs.lemmas.Option.{slice_get-get_or}
use Rattle.fib_addr.specs.Prefixes.{Prefix, same_prefix}
use Rattle.fib_resolve.specs.Pairs.{best_pair, better}
use Rattle.fib_resolve.specs.declared.pairs.Pair.{Pair}

best_cons : (p : Prefix) (x : Pair) (xs : List Pair) → same_prefix p x.prefix ≡ true → best_pair p (x ∷ xs) ≡ Some (better x (best_pair p xs))
unfolding best_pair
best_cons p x xs h = rw h refl

pub best_step : (p : Prefix) (xs : List Pair) (i : ℕ) (x : Pair) → 0 < i → i ≤ length xs → x ≡ get_or xs (i - 1) x → same_prefix p x.prefix ≡ true → best_pair p (drop (i - 1) xs) ≡ Some (better x (best_pair p (drop i xs)))
best_step p xs i x pos inside is same =
    let back : suc (i - 1) ≡ i = omega (arith, pos) in
    ap (best_pair p) (drop-cons xs (i - 1) x (omega (arith, pos, inside)) ∙ (ap (λ (y : Pair). y ∷ drop (suc (i - 1)) xs) (sym is) ∙ ap (λ (k : ℕ). x ∷ drop k xs) back)) ∙ best_cons p x (drop i xs) same

pub here : (xs : List Pair) (i : ℕ) (x : Pair) → i < length xs → x ≡ get_or xs i x → slice_get xs i ≡ Some x
here xs i x inside is = slice_get-get_or xs i x inside ∙ ap (λ (y : Pair). Some y) (sym is)
