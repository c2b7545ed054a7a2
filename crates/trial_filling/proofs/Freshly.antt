-- The stores that fill a board for the fresh tables: each is good, and after the last the cells stand for these tables.
use Rattle.std.proofs.Common.{◌≡◌, ◌⊎◌, inl, inr, ℕ, zero, suc, ◌+◌, ◌*◌, ◌/◌, ◌%◌, ◌<◌, true, false, List, [], ◌∷◌, length, refl, sym, ap, ◌∙◌, subst, arith}
use Rattle.std.specs.Prelude.{Bool, Contains, not, slice_index, ◌==◌, ◌&&◌, nat_lt, if◌then◌else◌}
use Rattle.std.specs.Set.{is_member}
use Rattle.std.proofs.lemmas.Bool.{eq-eqb, eqb-true, false≢true, ltb-true}
use Rattle.std.proofs.lemmas.Bool.Decides.{nat_tests}
use Rattle.std.proofs.lemmas.Map.Made.{is_member-Decides}
use Rattle.fib_base_list.proofs.Booleans.{and_both}
use Rattle.fib_base_list.proofs.Lists.{either}
use Rattle.fib_addr.specs.Prefixes.{IsPrefix, Prefix, same_prefix, size_of}
use Rattle.fib_buckets.specs.Shares.{buckets}
use Rattle.fib_addr.proofs.PrefixLaws.{same_prefix-Decides}
use Rattle.fib_resolve.specs.Tables.{fresh}
use Rattle.fib_resolve.specs.Pairs.{all_pairs, base_pairs, best_pair, chosen, entries, pairs}
use Rattle.fib_resolve.specs.Sizes.{adjacencies, plies}
use Rattle.fib_resolve.specs.Buckets.{used, wanted}
use Rattle.fib_resolve.specs.Forwarding.{usable}
use Rattle.fib_addr.specs.Longest.{longer, longest}
use Rattle.fib_resolve.specs.declared.pairs.Adjacency.{Adjacency}
use Rattle.fib_core.specs.declared.word.Word.{Word}
use Rattle.fib_core.specs.declared.word.Word.TheVariants as words
use Rattle.fib_core.specs.Words.{decoded, tag_of, value_of, word_of}
use Rattle.fib_core.specs.Walk.{word_at}
use Rattle.fib_core.specs.StandsFor.{IsCounted, StandsFor, Thing, adjacency_of, balance_of, ply_of, thing_word}
use Rattle.trial_filling.specs.inner.Fresh.{after_stores, all_below, all_in, entry_at, entry_stands, holds_all, is_good, number_of, number_stands, ply_at, ply_stands, same_word}

pub all_good : all_below 272 is_good ≡ true
unfolding after_stores
all_good = refl

plies_stand : all_in ply_stands (plies fresh) ≡ true
unfolding after_stores plies entries pairs all_pairs base_pairs chosen best_pair longest longer wanted used usable
plies_stand = refl

entries_stand : all_in entry_stands (entries fresh) ≡ true
unfolding after_stores plies entries pairs all_pairs base_pairs chosen best_pair longest longer wanted used usable buckets
entries_stand = refl

numbers_stand : all_below 64 number_stands ≡ true
unfolding after_stores plies entries pairs all_pairs base_pairs chosen best_pair
numbers_stand = refl

-- no word leads to object 20
abbrev is_elsewhere : ℕ → Bool
is_elsewhere k = not (value_of (after_stores 254 k) == 20)

elsewhere : all_below 1024 is_elsewhere ≡ true
unfolding after_stores
elsewhere = refl

no_adjacency : adjacencies fresh ≡ []
unfolding adjacencies entries pairs all_pairs base_pairs chosen best_pair
no_adjacency = refl

-- what a test over a list or a range says of each
pub in_all : {A : Type 0} (p : A → Bool) (xs : List A) (x : A) → all_in p xs ≡ true → Contains xs x → p x ≡ true
in_all p [] x all (i, lt, is) = absurd (let bad : ⊥ = omega (arith, lt) in bad)
in_all p (y ∷ ys) x all (zero, lt, is) = ap p (sym is) ∙ (and_both (p y) (all_in p ys) all).0
in_all p (y ∷ ys) x all (suc i, lt, is) = in_all p ys x (and_both (p y) (all_in p ys) all).1 (i, (let small = lt in omega arith), is)

pub in_range : (n : ℕ) (p : ℕ → Bool) (i : ℕ) → all_below n p ≡ true → i < n → p i ≡ true
in_range zero p i all lt = absurd (let bad : ⊥ = omega (arith, lt) in bad)
in_range (suc n) p i all lt = elim (either (i == n)) [
  | inl same ↦ ap p (eqb-true i n same) ∙ (and_both (p n) (all_below n p) all).0
  | inr other ↦ in_range n p i (and_both (p n) (all_below n p) all).1 (less i n lt other)
]
  where
    less : (i n : ℕ) → i < suc n → (i == n) ≡ false → i < n
    less i n lt ne = grind (arith, nat_tests)

rebuilt : (w : Word) → w ≡ word_of (tag_of w) (value_of w)
rebuilt words.Drop = refl
rebuilt words.Receive = refl
rebuilt (words.Glean i) = refl
rebuilt (words.ToPly o) = refl
rebuilt (words.ToBalance o) = refl
rebuilt (words.ToAdjacency o) = refl
rebuilt (words.Plain n) = refl

pub same_is : (v w : Word) → same_word v w ≡ true → v ≡ w
same_is v w e =
    let both = and_both (tag_of v == tag_of w) (value_of v == value_of w) e in
    rebuilt v ∙ (λ i. word_of (eqb-true (tag_of v) (tag_of w) both.0 i) (eqb-true (value_of v) (value_of w) both.1 i)) ∙ sym (rebuilt w)

pub drop_is : (w : Word) → tag_of w ≡ 0 → w ≡ words.Drop
drop_is words.Drop e = refl
drop_is words.Receive e = absurd (omega (arith, e))
drop_is (words.Glean i) e = absurd (omega (arith, e))
drop_is (words.ToPly o) e = absurd (omega (arith, e))
drop_is (words.ToBalance o) e = absurd (omega (arith, e))
drop_is (words.ToAdjacency o) e = absurd (omega (arith, e))
drop_is (words.Plain n) e = absurd (omega (arith, e))

pub none_to_twenty : (k : ℕ) → k < 1024 → value_of (after_stores 254 k) ≡ 20 → ⊥
none_to_twenty k lt is = by_test (value_of (after_stores 254 k) == 20) (in_range 1024 is_elsewhere k elsewhere lt) (eq-eqb (value_of (after_stores 254 k)) 20 is)
  where
    by_test : (b : Bool) → not b ≡ true → b ≡ true → ⊥
    by_test true e is = false≢true e
    by_test false e is = false≢true is

-- the facts on a ply and on an entry
module _ (p : Prefix) (there : Contains (plies fresh) p) where
  ply_facts : (nat_lt (number_of (ply_of p)) 15 ≡ true) × (same_prefix (ply_at (number_of (ply_of p))) p && holds_all (ply_of p) ≡ true)
  ply_facts = and_both (nat_lt (number_of (ply_of p)) 15) (same_prefix (ply_at (number_of (ply_of p))) p && holds_all (ply_of p)) (in_all ply_stands (plies fresh) p plies_stand there)

  ply_low : number_of (ply_of p) < 15
  ply_low = ltb-true (number_of (ply_of p)) 15 ply_facts.0

  ply_back : ply_at (number_of (ply_of p)) ≡ p
  ply_back = (same_prefix-Decides (ply_at (number_of (ply_of p))) p).0 (and_both (same_prefix (ply_at (number_of (ply_of p))) p) (holds_all (ply_of p)) ply_facts.1).0

  ply_holds : holds_all (ply_of p) ≡ true
  ply_holds = (and_both (same_prefix (ply_at (number_of (ply_of p))) p) (holds_all (ply_of p)) ply_facts.1).1

module _ (e : Prefix) (there : Contains (entries fresh) e) where
  entry_facts : (nat_lt 14 (number_of (balance_of e)) ≡ true) × (nat_lt (number_of (balance_of e)) 20 && (same_prefix (entry_at (number_of (balance_of e))) e && holds_all (balance_of e)) ≡ true)
  entry_facts = and_both (nat_lt 14 (number_of (balance_of e))) (nat_lt (number_of (balance_of e)) 20 && (same_prefix (entry_at (number_of (balance_of e))) e && holds_all (balance_of e)))
      (in_all entry_stands (entries fresh) e entries_stand there)

  more_facts : (nat_lt (number_of (balance_of e)) 20 ≡ true) × (same_prefix (entry_at (number_of (balance_of e))) e && holds_all (balance_of e) ≡ true)
  more_facts = and_both (nat_lt (number_of (balance_of e)) 20) (same_prefix (entry_at (number_of (balance_of e))) e && holds_all (balance_of e)) entry_facts.1

  pub entry_low : (14 < number_of (balance_of e)) × (number_of (balance_of e) < 20)
  entry_low = (ltb-true 14 (number_of (balance_of e)) entry_facts.0, ltb-true (number_of (balance_of e)) 20 more_facts.0)

  entry_back : entry_at (number_of (balance_of e)) ≡ e
  entry_back = (same_prefix-Decides (entry_at (number_of (balance_of e))) e).0 (and_both (same_prefix (entry_at (number_of (balance_of e))) e) (holds_all (balance_of e)) more_facts.1).0

  entry_holds : holds_all (balance_of e) ≡ true
  entry_holds = (and_both (same_prefix (entry_at (number_of (balance_of e))) e) (holds_all (balance_of e)) more_facts.1).1

abbrev is_whole : ℕ → Bool
is_whole n = nat_lt (entry_at n).len 33 && (nat_lt (entry_at n).bits 4294967296 && ((entry_at n).bits % size_of (entry_at n).len == 0))

whole_entries : all_below 20 is_whole ≡ true
whole_entries = refl

pub entries_are_prefixes : (e : Prefix) → Contains (entries fresh) e → IsPrefix e
entries_are_prefixes e there = subst IsPrefix (entry_back e there) (whole (number_of (balance_of e)) (entry_low e there).1)
  where
    whole : (n : ℕ) → n < 20 → IsPrefix (entry_at n)
    whole n lt =
        let one = and_both (nat_lt (entry_at n).len 33) (nat_lt (entry_at n).bits 4294967296 && ((entry_at n).bits % size_of (entry_at n).len == 0)) (in_range 20 is_whole n whole_entries lt) in
        let two = and_both (nat_lt (entry_at n).bits 4294967296) ((entry_at n).bits % size_of (entry_at n).len == 0) one.1 in
        record {
          short = (let l = ltb-true (entry_at n).len 33 one.0 in omega arith);
          fits = (let l = ltb-true (entry_at n).bits 4294967296 two.0 in omega arith);
          cleared = eqb-true ((entry_at n).bits % size_of (entry_at n).len) 0 two.1;
        }

none_there : (x : Adjacency) → Contains (adjacencies fresh) x → ⊥
none_there x there = (let q : Contains [] x = subst (λ xs. Contains xs x) no_adjacency there in absurd (let lt = q.1 in let bad : ⊥ = omega arith in bad))

pub low : (x : Thing) → IsCounted fresh x → number_of x < 20
low (ply_of p) there = (let lt = ply_low p there in omega arith)
low (balance_of e) there = (entry_low e there).1
low (adjacency_of x) there = absurd (none_there x there)

-- cells that say this stand for the fresh tables
module _ (cells : List ℕ) (long : length cells ≡ 1024) (says : (k : ℕ) → k < 1024 → decoded (slice_index cells k) ≡ after_stores 254 k) where
  holds_by : (x : Thing) → IsCounted fresh x → holds_all x ≡ true
  holds_by (ply_of p) there = ply_holds p there
  holds_by (balance_of e) there = entry_holds e there
  holds_by (adjacency_of x) there = absurd (none_there x there)

  apart_by : (x y : Thing) → IsCounted fresh x → IsCounted fresh y → number_of x ≡ number_of y → x ≡ y
  apart_by (ply_of p) (ply_of q) a b e = ap ply_of (sym (ply_back p a) ∙ ap ply_at e ∙ ply_back q b)
  apart_by (ply_of p) (balance_of q) a b e = absurd (let x = ply_low p a in let y = (entry_low q b).0 in let bad : ⊥ = omega arith in bad)
  apart_by (ply_of p) (adjacency_of y) a b e = absurd (none_there y b)
  apart_by (balance_of p) (ply_of q) a b e = absurd (let x = ply_low q b in let y = (entry_low p a).0 in let bad : ⊥ = omega arith in bad)
  apart_by (balance_of p) (balance_of q) a b e = ap balance_of (sym (entry_back p a) ∙ ap entry_at e ∙ entry_back q b)
  apart_by (balance_of p) (adjacency_of y) a b e = absurd (none_there y b)
  apart_by (adjacency_of x) y a b e = absurd (none_there x a)

  others_by : (o : ℕ) → o < 64 → ((x : Thing) × IsCounted fresh x × (number_of x ≡ o)) ⊎ ((s : ℕ) → s < 16 → word_at cells o s ≡ words.Drop)
  others_by o lt = elim (either (nat_lt o 15)) [
    | inl ply ↦ (let t = and_both (is_member same_prefix (plies fresh) (ply_at o)) (number_of (ply_of (ply_at o)) == o) (ply_test ply) in
        inl (ply_of (ply_at o), (is_member-Decides same_prefix-Decides (plies fresh) (ply_at o)).0 t.0, eqb-true (number_of (ply_of (ply_at o))) o t.1))
    | inr more ↦ elim (either (nat_lt o 20)) [
      | inl entry ↦ (let t = and_both (is_member same_prefix (entries fresh) (entry_at o)) (number_of (balance_of (entry_at o)) == o) (entry_test more entry) in
          inl (balance_of (entry_at o), (is_member-Decides same_prefix-Decides (entries fresh) (entry_at o)).0 t.0, eqb-true (number_of (balance_of (entry_at o))) o t.1))
      | inr free ↦ inr (λ s small. says (16 * o + s) (omega arith)
          ∙ drop_is (after_stores 254 (16 * o + s)) (eqb-true (tag_of (after_stores 254 (16 * o + s))) 0 (in_range 16 (λ t. tag_of (after_stores 254 (16 * o + t)) == 0) s (free_test more free) small)))
    ]
  ]
    where
      test : number_stands o ≡ true
      test = in_range 64 number_stands o numbers_stand lt

      ply_test : nat_lt o 15 ≡ true → is_member same_prefix (plies fresh) (ply_at o) && (number_of (ply_of (ply_at o)) == o) ≡ true
      ply_test is = sym (ap (λ (b : Bool). if b then is_member same_prefix (plies fresh) (ply_at o) && (number_of (ply_of (ply_at o)) == o)
          else if nat_lt o 20 then is_member same_prefix (entries fresh) (entry_at o) && (number_of (balance_of (entry_at o)) == o)
          else all_below 16 (λ s. tag_of (after_stores 254 (16 * o + s)) == 0)) is) ∙ test

      entry_test : nat_lt o 15 ≡ false → nat_lt o 20 ≡ true → is_member same_prefix (entries fresh) (entry_at o) && (number_of (balance_of (entry_at o)) == o) ≡ true
      entry_test no_ply is = sym ((λ i. if no_ply i then is_member same_prefix (plies fresh) (ply_at o) && (number_of (ply_of (ply_at o)) == o)
          else if is i then is_member same_prefix (entries fresh) (entry_at o) && (number_of (balance_of (entry_at o)) == o)
          else all_below 16 (λ s. tag_of (after_stores 254 (16 * o + s)) == 0))) ∙ test

      free_test : nat_lt o 15 ≡ false → nat_lt o 20 ≡ false → all_below 16 (λ s. tag_of (after_stores 254 (16 * o + s)) == 0) ≡ true
      free_test no_ply is = sym ((λ i. if no_ply i then is_member same_prefix (plies fresh) (ply_at o) && (number_of (ply_of (ply_at o)) == o)
          else if is i then is_member same_prefix (entries fresh) (entry_at o) && (number_of (balance_of (entry_at o)) == o)
          else all_below 16 (λ s. tag_of (after_stores 254 (16 * o + s)) == 0))) ∙ test

  sixty_four : length cells / 16 ≡ 64
  sixty_four = omega (arith, long)

  pub stand_for_fresh : StandsFor cells number_of fresh
  stand_for_fresh = record {
    root = refl;
    there = λ x counted. (let lt = low x counted in let all = sixty_four in omega arith);
    apart = apart_by;
    holds = λ x s counted small. (let lt = low x counted in says (16 * number_of x + s) (omega arith)
        ∙ same_is (after_stores 254 (16 * number_of x + s)) (thing_word number_of fresh x s)
        (in_range 16 (λ t. same_word (after_stores 254 (16 * number_of x + t)) (thing_word number_of fresh x t)) s (holds_by x counted) small));
    others = λ o lt. others_by o (let all = sixty_four in omega arith);
  }
