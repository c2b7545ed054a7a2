-- Lists without repeats that differ inside a third alone: how much longer one is than the other is told there.
use Rattle.std.proofs.Common.{arith, ◌≡◌, ◌+◌, Bool, true, false, not, ◌&&◌, List, length, filter, inl, inr, refl, sym, ◌∙◌, ap}
use Rattle.std.specs.List.{IsDistinct}
use Rattle.std.specs.Set.{is_member}
use Rattle.std.specs.Cmp.{IsEquivalence}
use Rattle.std.proofs.lemmas.List.Filters.{length-filter_both}
use Rattle.std.proofs.lemmas.Map.Made.{is_member-filter, length-from_same_keys}
use Rattle.fib_base_list.proofs.Lists.{either}
use Rattle.fib_addr.specs.Prefixes.{Prefix, same_prefix}
use Rattle.fib_addr.proofs.PrefixLaws.{same_prefix-Decides, same_prefix_equiv}
use Rattle.fib_resolve.proofs.Apart.{apart-filter}

swapped : (b c : Bool) → (b && c) ≡ (c && b)
swapped true true = refl
swapped true false = refl
swapped false true = refl
swapped false false = refl

off : (b c : Bool) → c ≡ true → (b && not c) ≡ false
off true c h = ap not h
off false c h = refl

module _ {X : Type 0} (eq : X → X → Bool) (laws : IsEquivalence eq) (exact : (x y : X) → eq x y ≡ true → x ≡ y) where
  kept : (xs ys : List X) → (q : X) → is_member eq (filter (is_member eq ys) xs) q ≡ (is_member eq xs q && is_member eq ys q)
  kept xs ys q = is_member-filter laws (is_member eq ys) q (λ x same. ap (is_member eq ys) (exact q x same)) xs

  left : (xs ys : List X) → (q : X) → is_member eq (filter (λ x. not (is_member eq ys x)) xs) q ≡ (is_member eq xs q && not (is_member eq ys q))
  left xs ys q = is_member-filter laws (λ x. not (is_member eq ys x)) q (λ x same. ap (λ z. not (is_member eq ys z)) (exact q x same)) xs

  inside : (us xs : List X) → IsDistinct eq us → IsDistinct eq xs → length (filter (is_member eq xs) us) ≡ length (filter (is_member eq us) xs)
  inside us xs u x = length-from_same_keys laws (filter (is_member eq xs) us) (filter (is_member eq us) xs) (apart-filter eq (is_member eq xs) us u) (apart-filter eq (is_member eq us) xs x)
      (λ q. kept us xs q ∙ (swapped (is_member eq us q) (is_member eq xs q) ∙ sym (kept xs us q)))

  beside : (us vs xs : List X) → IsDistinct eq us → IsDistinct eq vs → ((q : X) → is_member eq xs q ≡ false → is_member eq us q ≡ is_member eq vs q)
      → length (filter (λ x. not (is_member eq xs x)) us) ≡ length (filter (λ x. not (is_member eq xs x)) vs)
  beside us vs xs u v same =
      length-from_same_keys laws (filter (λ x. not (is_member eq xs x)) us) (filter (λ x. not (is_member eq xs x)) vs)
      (apart-filter eq (λ x. not (is_member eq xs x)) us u) (apart-filter eq (λ x. not (is_member eq xs x)) vs v)
      (λ q. left us xs q ∙ (elim (either (is_member eq xs q)) [
        | inl is ↦ off (is_member eq us q) (is_member eq xs q) is ∙ sym (off (is_member eq vs q) (is_member eq xs q) is)
        | inr isnt ↦ ap (λ b. b && not (is_member eq xs q)) (same q isnt)
      ] ∙ sym (left vs xs q)))

  pub moved_distinct : (us vs xs : List X) → IsDistinct eq us → IsDistinct eq vs → IsDistinct eq xs → ((q : X) → is_member eq xs q ≡ false → is_member eq us q ≡ is_member eq vs q)
      → length vs + length (filter (is_member eq us) xs) ≡ length us + length (filter (is_member eq vs) xs)
  moved_distinct us vs xs u v x same =
      let a = length-filter_both (is_member eq xs) (λ z. not (is_member eq xs z)) (λ z. refl) us in
      let b = length-filter_both (is_member eq xs) (λ z. not (is_member eq xs z)) (λ z. refl) vs in
      let c = inside us xs u x in
      let d = inside vs xs v x in
      let e = beside us vs xs u v same in
      omega (arith, a, b, c, d, e)

pub moved_prefixes : (us vs xs : List Prefix) → IsDistinct same_prefix us → IsDistinct same_prefix vs → IsDistinct same_prefix xs
    → ((q : Prefix) → is_member same_prefix xs q ≡ false → is_member same_prefix us q ≡ is_member same_prefix vs q)
    → length vs + length (filter (is_member same_prefix us) xs) ≡ length us + length (filter (is_member same_prefix vs) xs)
moved_prefixes = moved_distinct same_prefix same_prefix_equiv (λ x y. (same_prefix-Decides x y).0)
