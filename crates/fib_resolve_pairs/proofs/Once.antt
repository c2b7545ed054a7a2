-- Repeats of what lists are made from make repeats.
use Rattle.std.proofs.Common.{append_assoc, ◌≡◌, ℕ, Bool, true, false, ◌||◌, ◌==◌, List, [], ◌∷◌, ◌++◌, map, inl, inr, refl, sym, ◌∙◌, ap}
use Rattle.std.specs.Prelude.{flat_map}
use Rattle.std.specs.Set.{is_member, unique_keys}
use Rattle.std.specs.Cmp.{IsEquivalence}
use Rattle.std.proofs.lemmas.Bool.{false≢true}
use Rattle.std.proofs.lemmas.Bool.Decides.{Decides-eqb}
use Rattle.fib_base_list.proofs.Lists.{either, is_member-unique_keys}
use Rattle.fib_resolve.specs.Pairs.{pairs, all_pairs, base_pairs, neighbor_pairs, derived_pair, recursive_hops, same_pair}
use Rattle.fib_resolve.specs.declared.pairs.Pair.{Pair}
use Rattle.fib_resolve.specs.declared.types.Tables.{Tables}
use Rattle.fib_resolve.proofs.Touching.{same_pair-Decides, same_pair_equiv}

-- the same comes behind the same
pub after_front : {X : Type 0} (eq : X → X → Bool) → IsEquivalence eq → (front xs ys : List X) → unique_keys eq xs ≡ unique_keys eq ys → unique_keys eq (front ++ xs) ≡ unique_keys eq (front ++ ys)
after_front eq laws [] xs ys same = same
after_front eq laws (z ∷ zs) xs ys same =
    let rest = after_front eq laws zs xs ys same in
    let member : is_member eq (zs ++ xs) z ≡ is_member eq (zs ++ ys) z = sym (is_member-unique_keys laws z (zs ++ xs)) ∙ (ap (λ l. is_member eq l z) rest ∙ is_member-unique_keys laws z (zs ++ ys)) in
    step (is_member eq (zs ++ xs) z) (is_member eq (zs ++ ys) z) refl refl member rest
  where
    step : (b c : Bool) → is_member eq (zs ++ xs) z ≡ b → is_member eq (zs ++ ys) z ≡ c → b ≡ c → unique_keys eq (zs ++ xs) ≡ unique_keys eq (zs ++ ys) → unique_keys eq (z ∷ zs ++ xs) ≡ unique_keys eq (z ∷ zs ++ ys)
    step true true e f same rest = rw (e, f) rest
    step true false e f same rest = absurd (false≢true (sym same))
    step false true e f same rest = absurd (false≢true same)
    step false false e f same rest = rw (e, f) (ap (λ l. z ∷ l) rest)

module _ {X Y : Type 0} (eq : X → X → Bool) (same : Y → Y → Bool) (laws : IsEquivalence same) (f : X → Y) (keeps : (a b : X) → eq a b ≡ true → same (f a) (f b) ≡ true) where
  made : (xs : List X) (x : X) → is_member eq xs x ≡ true → is_member same (map f xs) (f x) ≡ true
  made [] x h = absurd (false≢true h)
  made (z ∷ zs) x h = elim (either (eq x z)) [
    | inl is ↦ rw (keeps x z is) refl
    | inr isnt ↦ behind (same (f x) (f z)) (made zs x (rw isnt at h))
  ]
    where
      behind : (b : Bool) {c : Bool} → c ≡ true → (b || c) ≡ true
      behind true e = refl
      behind false e = e

  -- what is made of each once is what is made of all, each once
  pub of_each_once : (xs : List X) → unique_keys same (map f (unique_keys eq xs)) ≡ unique_keys same (map f xs)
  of_each_once [] = refl
  of_each_once (x ∷ xs) = elim (either (is_member eq xs x)) [
    | inl is ↦ rw is (rw (made xs x is) (of_each_once xs))
    | inr isnt ↦ rw isnt (after_front same laws (f x ∷ []) (map f (unique_keys eq xs)) (map f xs) (of_each_once xs))
  ]

-- so next hops, each once, make the pairs of all
pairs_once : (S : Tables) → unique_keys same_pair (base_pairs S ++ (flat_map (neighbor_pairs S) S.neighbors ++ map (derived_pair S) (unique_keys (λ a b. a == b) (flat_map recursive_hops S.routes)))) ≡ pairs S
unfolding pairs all_pairs
pairs_once S =
    let hops = flat_map recursive_hops S.routes in
    let near = flat_map (neighbor_pairs S) S.neighbors in
    let once = map (derived_pair S) (unique_keys (λ a b. a == b) hops) in
    ap (unique_keys same_pair) (sym (append_assoc (base_pairs S) near once))
    ∙ after_front same_pair same_pair_equiv (base_pairs S ++ near) once (map (derived_pair S) hops)
    (of_each_once (λ a b. a == b) same_pair same_pair_equiv (derived_pair S) keeps hops)
  where
    keeps : (a b : ℕ) → (a == b) ≡ true → same_pair (derived_pair S a) (derived_pair S b) ≡ true
    keeps a b is = (same_pair-Decides (derived_pair S a) (derived_pair S b)).1 (ap (derived_pair S) ((Decides-eqb a b).0 is))

pub made_once : (S : Tables) (near out : List Pair) (once : List ℕ) → near ≡ flat_map (neighbor_pairs S) S.neighbors → once ≡ unique_keys (λ a b. a == b) (flat_map recursive_hops S.routes) → out ≡ near ++ map (derived_pair S) once
    → unique_keys same_pair (base_pairs S ++ out) ≡ pairs S
made_once S near out once n o e =
    ap (λ l. unique_keys same_pair (base_pairs S ++ l)) (e ∙ (ap (λ l. l ++ map (derived_pair S) once) n ∙ ap (λ l. flat_map (neighbor_pairs S) S.neighbors ++ map (derived_pair S) l) o)) ∙ pairs_once S
