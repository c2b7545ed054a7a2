-- Pairs by their slots.
use Rattle.std.proofs.Common.{arith, ◌≡◌, ℕ, zero, suc, replicate, ◌+◌, ◌*◌, ◌-◌, ◌<◌, Bool, true, false, List, [], ◌∷◌, drop, length, Option, Some, None, inl, inr, refl, sym, ◌∙◌, ap, subst, slice_index_or}
use Rattle.std.specs.Prelude.{IfSome, position, option_map}
use Rattle.std.specs.List.{position_from}
use Rattle.std.proofs.lemmas.Bool.{false≢true}
use Rattle.std.proofs.lemmas.Bool.Decides.{Decides-eqb}
use Rattle.std.proofs.lemmas.Grind.{get_or-set_at}
use Rattle.std.proofs.lemmas.Iterator.Adapters.{position_from-zero}
use Rattle.std.proofs.lemmas.List.{get_or-set_other, length-set}
use Rattle.std.proofs.lemmas.List.Quantifiers.{position-Some}
use Rattle.fib_base_list.proofs.Booleans.{and_both}
use Rattle.fib_base_list.proofs.Lists.{either}
use Rattle.fib_addr.specs.Prefixes.{Prefix, same_prefix}
use Rattle.fib_addr.proofs.PrefixLaws.{same_prefix-Decides}
use Rattle.fib_resolve_pairs.specs.Numbers.{number_in}
use Rattle.fib_resolve_pairs.proofs.Members.{some_or_none}
use Rattle.fib_resolve_pairs.proofs.Numbers.{one_number}
use Rattle.fib_resolve.specs.Keys.{source_rank, same_source}
use Rattle.fib_resolve.specs.declared.pairs.Pair.{Pair}
use Rattle.fib_resolve.specs.declared.types.FibSource.{FibSource}
use Rattle.fib_resolve.specs.declared.types.FibSource.TheVariants as sources
use Rattle.fib_resolve.specs.declared.types.Tables.{Tables}
use Rattle.fib_entries_rows.specs.inner.Building.{slot_of, kept_in, is_pair_of, AreSlots, ArePlaced}
use Rattle.fib_entries_rows.proofs.Picking.{rank_low}

some_pair : Pair
some_pair = record { prefix = record { bits = 0; len = 0 }; source = sources.Special; paths = [] }

below_by : (n : ℕ) (o : Option ℕ) → ((i : ℕ) → o ≡ Some i → i < n) → IfSome o (λ k. k < n)
below_by n None h = tt
below_by n (Some i) h = h i refl

pub position_below : (test : Pair → Bool) (xs : List Pair) (o : Option ℕ) → o ≡ position test xs → IfSome o (λ k. k < length xs)
position_below test xs o h = below_by (length xs) o (λ i e. (position-Some test xs i some_pair (sym h ∙ e)).0)

pub length_kept : (slot : Option ℕ) (place : ℕ) (places : List (Option ℕ)) → length (kept_in slot place places) ≡ length places
length_kept None place places = refl
length_kept (Some k) place places = length-set places k (Some place)

-- where the place of a pair is kept, by its entry's number
slot_is : (S : Tables) (p : Prefix) (s : FibSource) (k : ℕ) → number_in S p ≡ Some k → slot_of S p s ≡ Some (7 * k + source_rank s)
slot_is S p s k n = ap (option_map (λ m. 7 * m + source_rank s)) n

slot_lacks : (S : Tables) (p : Prefix) (s : FibSource) → number_in S p ≡ None → slot_of S p s ≡ None
slot_lacks S p s n = ap (option_map (λ m. 7 * m + source_rank s)) n

-- a pair more in front
module _ (S : Tables) (xs rest : List Pair) (x : Pair) (i : ℕ) (places : List (Option ℕ)) (pos : 0 < i) (front : xs ≡ x ∷ rest) (p : Prefix) (s : FibSource) (k : ℕ) (n : number_in S p ≡ Some k) where
  here_now : IfSome (slot_of S x.prefix x.source) (λ j. j < length places) → is_pair_of p s x ≡ true →
      slice_index_or (kept_in (slot_of S x.prefix x.source) (i - 1) places) (7 * k + source_rank s) None ≡ position_from (is_pair_of p s) (i - 1) xs
  here_now inside is =
      let both = and_both (same_prefix p x.prefix) (same_source s x.source) is in
      let same : p ≡ x.prefix = (same_prefix-Decides p x.prefix).0 both.0 in
      let rank : source_rank s ≡ source_rank x.source = (Decides-eqb (source_rank s) (source_rank x.source)).0 both.1 in
      let slot : slot_of S x.prefix x.source ≡ Some (7 * k + source_rank s) = slot_is S x.prefix x.source k (ap (number_in S) (sym same) ∙ n) ∙ ap (λ (r : ℕ). Some (7 * k + r)) (sym rank) in
      let lt : 7 * k + source_rank s < length places = subst (λ (o : Option ℕ). IfSome o (λ j. j < length places)) slot inside in
      ap (λ (o : Option ℕ). slice_index_or (kept_in o (i - 1) places) (7 * k + source_rank s) None) slot
      ∙ (get_or-set_at places (7 * k + source_rank s) (7 * k + source_rank s) (Some (i - 1)) None refl lt
      ∙ sym (ap (position_from (is_pair_of p s) (i - 1)) front ∙ rw is refl))

  stays : is_pair_of p s x ≡ false → slice_index_or (kept_in (slot_of S x.prefix x.source) (i - 1) places) (7 * k + source_rank s) None ≡ slice_index_or places (7 * k + source_rank s) None
  stays isnt =
      elim (some_or_none (number_in S x.prefix)) [
        | inl none ↦ ap (λ (o : Option ℕ). slice_index_or (kept_in o (i - 1) places) (7 * k + source_rank s) None) (slot_lacks S x.prefix x.source none)
        | inr some ↦ ap (λ (o : Option ℕ). slice_index_or (kept_in o (i - 1) places) (7 * k + source_rank s) None) (slot_is S x.prefix x.source some.0 some.1)
            ∙ get_or-set_other places (7 * some.0 + source_rank x.source) (7 * k + source_rank s) (Some (i - 1)) None (apart some.0 some.1)
      ]
    where
      apart : (m : ℕ) → number_in S x.prefix ≡ Some m → 7 * k + source_rank s ≡ 7 * m + source_rank x.source → ⊥
      apart m is e =
          let low = rank_low s in
          let small = rank_low x.source in
          let one : m ≡ k = omega (arith, e, low, small) in
          let rank : source_rank s ≡ source_rank x.source = omega (arith, e, low, small) in
          let same : p ≡ x.prefix = one_number S p x.prefix k n (is ∙ ap (λ (j : ℕ). Some j) one) in
          false≢true (sym isnt ∙ rw ((same_prefix-Decides p x.prefix).1 same, (Decides-eqb (source_rank s) (source_rank x.source)).1 rank) refl)

  pub slot_more : IfSome (slot_of S x.prefix x.source) (λ j. j < length places) → slice_index_or places (7 * k + source_rank s) None ≡ position_from (is_pair_of p s) i rest →
      slice_index_or (kept_in (slot_of S x.prefix x.source) (i - 1) places) (7 * k + source_rank s) None ≡ position_from (is_pair_of p s) (i - 1) xs
  slot_more inside known =
      elim (either (is_pair_of p s x)) [
        | inl is ↦ here_now inside is
        | inr isnt ↦ (let back : i ≡ i - 1 + 1 = omega (arith, pos) in
            stays isnt ∙ (known ∙ (ap (λ (m : ℕ). position_from (is_pair_of p s) m rest) back ∙ sym (ap (position_from (is_pair_of p s) (i - 1)) front ∙ rw isnt refl))))
      ]

-- with all pairs the first places are known
pub slots_whole : (S : Tables) (i : ℕ) (xs ys : List Pair) (places : List (Option ℕ)) → i ≡ 0 → xs ≡ ys → AreSlots S i (drop i xs) places → ArePlaced S ys places
slots_whole S i xs ys places none same known p s k n =
    known p s k n
    ∙ (ap (λ (m : ℕ). position_from (is_pair_of p s) m (drop m xs)) none
    ∙ (sym (position_from-zero (is_pair_of p s) xs) ∙ ap (position (is_pair_of p s)) same))

nothing_left : (test : Pair → Bool) (n : ℕ) (xs : List Pair) → position_from test n (drop (length xs) xs) ≡ None
nothing_left test n [] = refl
nothing_left test n (x ∷ xs) = nothing_left test n xs

all_empty : (n j : ℕ) → slice_index_or {A = Option ℕ} (replicate n None) j None ≡ None
all_empty zero j = refl
all_empty (suc n) zero = refl
all_empty (suc n) (suc j) = all_empty n j

pub slots_empty : (S : Tables) (xs : List Pair) (n : ℕ) (places : List (Option ℕ)) → places ≡ replicate n None → AreSlots S (length xs) (drop (length xs) xs) places
slots_empty S xs n places are p s k number =
    ap (λ (l : List (Option ℕ)). slice_index_or l (7 * k + source_rank s) None) are ∙ (all_empty n (7 * k + source_rank s) ∙ sym (nothing_left (is_pair_of p s) (length xs) xs))
