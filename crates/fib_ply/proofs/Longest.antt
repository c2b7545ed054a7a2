-- `best` answers with the longest prefix.
use Rattle.std.proofs.Common.{◌≡◌, ℕ, zero, suc, ◌+◌, ◌-◌, ◌/◌, ◌^◌, ◌≤◌, Option, Some, None, refl, sym, ap, ◌∙◌, arith}
use Rattle.std.proofs.lemmas.Nat.{shr-shr}
use Rattle.std.proofs.Math.Nat.{div-one}
use native.Mathlib.Decide.{ℕ_discrete}
use mathlib.Core.Logic.{dite}
use Rattle.fib_ply.specs.Prefixes.{Look}
use Rattle.fib_core_promise.specs.Matches.{or_else, best_block, IsLongestBlock}

whole : (b n m : ℕ) → m ≡ n → b / 2 ^ (n - m) ≡ b
whole b n m e = let f : n - m ≡ 0 = omega arith in rw (f, div-one) refl

halved : (b n m : ℕ) → m ≤ n → b / 2 / 2 ^ (n - m) ≡ b / 2 ^ (suc n - m)
halved b n m le = shr-shr b 1 (n - m) ∙ ap (λ i. b / 2 ^ i) (let e : 1 + (n - m) ≡ suc n - m = omega arith in e)

pub best_longest : (look : Look) (n b o : ℕ) → best_block look n b ≡ Some o → IsLongestBlock look n b o
unfolding best_block
best_longest look zero b o e = record { len = 0; within = omega arith; there = ap (look 0) (whole b 0 0 refl) ∙ e; longest = λ m lt le. absurd (omega arith) }
best_longest look (suc n) b o e = by_first (look (suc n) b) refl e (best_longest look n (b / 2) o)
  where
    by_first : (f : Option ℕ) → look (suc n) b ≡ f → or_else f (best_block look n (b / 2)) ≡ Some o → (best_block look n (b / 2) ≡ Some o → IsLongestBlock look n (b / 2) o) → IsLongestBlock look (suc n) b o
    by_first (Some p) is e' further = record { len = suc n; within = omega arith; there = ap (look (suc n)) (whole b (suc n) (suc n) refl) ∙ is ∙ e'; longest = λ m lt le. absurd (omega arith) }
    by_first None is e' further =
        let h = further e' in
        record {
          len = h.len;
          within = omega (arith, h.within);
          there = ap (look h.len) (sym (halved b n h.len h.within)) ∙ h.there;
          longest = λ m lt le. dite (ℕ_discrete m (suc n))
              (λ same. ap (look m) (whole b (suc n) m same) ∙ ap (λ i. look i b) same ∙ is)
              (λ ne. let le' : m ≤ n = omega arith in ap (look m) (sym (halved b n m le')) ∙ h.longest m lt le');
        }
