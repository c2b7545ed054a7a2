-- A match is what the prefix table's search answers: so the further conditions are what its changes ask of the promise.
use Rattle.std.proofs.lemmas.Bool.{false≢true}
use Rattle.std.specs.List.{list_all}
use Rattle.fib_base_list.proofs.Booleans.{and_both}
use Rattle.fib_addr.specs.Prefixes.{same_prefix, Prefix, IsPrefix}
use Rattle.fib_addr.proofs.PrefixLaws.{same_prefix-Decides}
use Rattle.fib_resolve.specs.Pairs.{best}
use Rattle.std.proofs.Common.{subst, Bool, true, false, ◌&&◌, [], ◌∷◌, ◌≡◌, ◌≤◌, ◌<◌, ◌^◌, ◌+◌, ◌-◌, ◌/◌, ℕ, zero, suc, List, Option, Some, None, refl, sym, ap, ◌∙◌, arith}
use Rattle.std.specs.Prelude.{Contains, if◌then◌else◌}
use Rattle.std.proofs.lemmas.Nat.{shr-shr}
use Rattle.std.proofs.Math.Nat.{div-one}
use native.Mathlib.Decide.{ℕ_discrete}
use mathlib.Core.Logic.{dite}
use Rattle.fib_addr.specs.Longest.{everything}
use Rattle.fib_resolve.specs.declared.types.Tables.{Tables}
use Rattle.fib_core_steady.specs.Aims.{IsLasting}
use Rattle.fib_core_promise.specs.Matches.{promised_by, IsSometime, FitsVersions, IsMatch, added, removed, Promised, look_of, IsLongestBlock, or_else, best_block}
use Rattle.fib_core_promise.proofs.Matches.{match_block, match_of, match_added, match_removed}
use Rattle.fib_core_promise.proofs.PlyStores.{block_once}
use Rattle.fib_core_steady.proofs.Ways.{best_is_entry}

whole : (b n m : ℕ) → m ≡ n → b / 2 ^ (n - m) ≡ b
whole b n m e = let f : n - m ≡ 0 = omega arith in rw (f, div-one) refl

halved : (b n m : ℕ) → m ≤ n → b / 2 / 2 ^ (n - m) ≡ b / 2 ^ (suc n - m)
halved b n m le = shr-shr b 1 (n - m) ∙ ap (λ i. b / 2 ^ i) (let e : 1 + (n - m) ≡ suc n - m = omega arith in e)

best_longest : (look : ℕ → ℕ → Option ℕ) (n b o : ℕ) → best_block look n b ≡ Some o → IsLongestBlock look n b o
unfolding best_block
best_longest look zero b o e = record { len = 0; within = omega arith; there = ap (look 0) (whole b 0 0 refl) ∙ e; longest = λ m lt le. absurd (omega arith) }
best_longest look (suc n) b o e = by_first (look (suc n) b) refl e (best_longest look n (b / 2) o)
  where
    by_first : (f : Option ℕ) → look (suc n) b ≡ f → or_else f (best_block look n (b / 2)) ≡ Some o → (best_block look n (b / 2) ≡ Some o → IsLongestBlock look n (b / 2) o) → IsLongestBlock look (suc n) b o
    by_first (Some p) is e' further = record { len = suc n; within = omega arith; there = ap (look (suc n)) (whole b (suc n) (suc n) refl) ∙ is ∙ e'; longest = λ m lt le. absurd (omega arith) }
    by_first None is e' further =
        let h = further e' in
        record {
          len = h.len;
          within = omega (arith, h.within);
          there = ap (look h.len) (sym (halved b n h.len h.within)) ∙ h.there;
          longest = λ m lt le. dite (ℕ_discrete m (suc n))
              (λ same. ap (look m) (whole b (suc n) m same) ∙ ap (λ i. look i b) same ∙ is)
              (λ ne. let le' : m ≤ n = omega arith in ap (look m) (sym (halved b n m le')) ∙ h.longest m lt le');
        }

or_some : (f d : Option ℕ) → (o : ℕ) × (d ≡ Some o) → (o : ℕ) × (or_else f d ≡ Some o)
or_some None d some = some
or_some (Some p) d some = (p, refl)

-- where everything has an object, each block has one
best_some : (look : ℕ → ℕ → Option ℕ) (q : ℕ) → look 0 0 ≡ Some q → (n b : ℕ) → b / 2 ^ n ≡ 0 → (o : ℕ) × (best_block look n b ≡ Some o)
unfolding best_block
best_some look q all zero b e = (q, ap (look 0) (let z : b ≡ 0 = omega arith in z) ∙ all)
best_some look q all (suc n) b e = or_some (look (suc n) b) (best_block look n (b / 2)) (best_some look q all n (b / 2) (shr-shr b 1 n ∙ ap (λ i. b / 2 ^ i) (let s : 1 + n ≡ suc n = omega arith in s) ∙ e))

pub match_answers : (look : Prefix → Option ℕ) (q : ℕ) → look everything ≡ Some q → (a : ℕ) (e : Prefix) (o : ℕ) → a < 2 ^ 32 → IsPrefix e → IsMatch look a e o → best_block (look_of look) 32 a ≡ Some o
match_answers look q all a e o small prefix is =
    let found = best_some (look_of look) q all 32 a (omega arith) in
    found.1 ∙ ap Some (block_once (look_of look) 32 a found.0 o (best_longest (look_of look) 32 a found.0 found.1) (match_block look a e o prefix is))

-- both tables answer a promised address with the promised balance
module _ (J : List Tables) (now : Tables) (here : Contains J now) (look : Prefix → Option ℕ) (q : ℕ) (all : look everything ≡ Some q) (fits : FitsVersions J look) where
  pub promised_answer : (a o : ℕ) → a < 2 ^ 32 → Promised J look a o → best_block (look_of look) 32 a ≡ Some o
  promised_answer a o small p = match_answers look q all a p.0 o small (fits.some p.0 o p.2).0 (match_of J now here look fits a o small p)

  pub promised_answer_added : (e : Prefix) (r : ℕ) → look e ≡ None → added look e r everything ≡ Some q → IsPrefix e → IsSometime J e → (a o : ℕ) → a < 2 ^ 32 → Promised J look a o → best_block (look_of (added look e r)) 32 a ≡ Some o
  promised_answer_added e r absent still prefix sometime a o small p = match_answers (added look e r) q still a p.0 o small (fits.some p.0 o p.2).0 (match_added J now here look e r absent prefix sometime fits a o small p)

  pub promised_answer_removed : (e : Prefix) → removed look e everything ≡ Some q → (IsLasting J e → ⊥) → (a o : ℕ) → a < 2 ^ 32 → Promised J look a o → best_block (look_of (removed look e)) 32 a ≡ Some o
  promised_answer_removed e still leaves a o small p = match_answers (removed look e) q still a p.0 o small (fits.some p.0 o p.2).0 (match_removed J now here look e leaves fits a o small p)

-- the promise as a function

each_passes : {X : Type 0} (test : X → Bool) (xs : List X) → list_all test xs ≡ true → (x : X) → Contains xs x → test x ≡ true
each_passes test [] h x c = absurd (omega (arith, c.1))
each_passes test (y ∷ ys) h x (zero, lt, is) = subst (λ z. test z ≡ true) is (and_both (test y) (list_all test ys) h).0
each_passes test (y ∷ ys) h x (suc k, lt, is) = each_passes test ys (and_both (test y) (list_all test ys) h).1 x (k, omega (arith, lt), is)

all_pass : {X : Type 0} (test : X → Bool) (xs : List X) → ((x : X) → Contains xs x → test x ≡ true) → list_all test xs ≡ true
all_pass test [] h = refl
all_pass test (y ∷ ys) h = both (test y) (list_all test ys) (h y (0, omega arith, refl)) (all_pass test ys (λ x c. h x (suc c.0, omega (arith, c.1), c.2)))
  where
    both : (b c : Bool) → b ≡ true → c ≡ true → b && c ≡ true
    both true c e h = h
    both false c e h = absurd (false≢true e)

some_if : (b : Bool) (x : Option ℕ) (o : ℕ) → (if b then x else None) ≡ Some o → (b ≡ true) × (x ≡ Some o)
some_if true x o e = (refl, e)
some_if false x o e = absurd (cc)

pub promised_from : (J : List Tables) (look : Prefix → Option ℕ) (a o : ℕ) → promised_by J look a ≡ Some o → Promised J look a o
promised_from [] look a o e = absurd (cc)
promised_from (S ∷ J) look a o e = (best S a, alike, there.1)
  where
    there : (list_all (λ T. same_prefix (best T a) (best S a)) J ≡ true) × (look (best S a) ≡ Some o)
    there = some_if (list_all (λ T. same_prefix (best T a) (best S a)) J) (look (best S a)) o e

    alike : (T : Tables) → Contains (S ∷ J) T → best T a ≡ best S a
    alike T (zero, lt, is) = ap (λ X. best X a) (sym is)
    alike T (suc k, lt, is) = (same_prefix-Decides (best T a) (best S a)).0 (each_passes (λ T. same_prefix (best T a) (best S a)) J there.0 T (k, omega (arith, lt), is))

pub promised_to : (S : Tables) (J : List Tables) (look : Prefix → Option ℕ) (a o : ℕ) → Promised (S ∷ J) look a o → promised_by (S ∷ J) look a ≡ Some o
promised_to S J look a o p =
    let first : best S a ≡ p.0 = p.1 S (0, omega arith, refl) in
    let all : list_all (λ T. same_prefix (best T a) (best S a)) J ≡ true = all_pass (λ T. same_prefix (best T a) (best S a)) J (λ T c. (same_prefix-Decides (best T a) (best S a)).1 (p.1 T (suc c.0, omega (arith, c.1), c.2) ∙ sym first)) in
    ap (λ b. if b then look (best S a) else None) all ∙ ap look first ∙ p.2

-- between two changes of the versions it stays as it is
pub promised_same : (S : Tables) (J : List Tables) (look now : Prefix → Option ℕ) → ((e : Prefix) → IsLasting (S ∷ J) e → now e ≡ look e) → (a : ℕ) → promised_by (S ∷ J) now a ≡ promised_by (S ∷ J) look a
promised_same S J look now same a = by_test (list_all (λ T. same_prefix (best T a) (best S a)) J) refl
  where
    lasts : list_all (λ T. same_prefix (best T a) (best S a)) J ≡ true → IsLasting (S ∷ J) (best S a)
    lasts all T (zero, lt, is) = subst (λ X. Contains (Rattle.fib_resolve.specs.Pairs.entries X) (best S a)) is (best_is_entry S a)
    lasts all T (suc k, lt, is) = subst (Contains (Rattle.fib_resolve.specs.Pairs.entries T)) ((same_prefix-Decides (best T a) (best S a)).0 (each_passes (λ X. same_prefix (best X a) (best S a)) J all T (k, omega (arith, lt), is))) (best_is_entry T a)

    by_test : (b : Bool) → list_all (λ T. same_prefix (best T a) (best S a)) J ≡ b → (if list_all (λ T. same_prefix (best T a) (best S a)) J then now (best S a) else None) ≡ (if list_all (λ T. same_prefix (best T a) (best S a)) J then look (best S a) else None)
    by_test true all = ap (λ x. if list_all (λ T. same_prefix (best T a) (best S a)) J then x else None) (same (best S a) (lasts all))
    by_test false all = ap (λ b. if b then now (best S a) else None) all ∙ ap (λ b. if b then look (best S a) else None) (sym all)
