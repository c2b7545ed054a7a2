-- One put more is deferred, or not.
use Rattle.std.proofs.Common.{◌≡◌, ◌≢◌, ℕ, zero, suc, ◌+◌, ◌<◌, ◌≤◌, List, length, set, refl, sym, ap, ◌∙◌, subst, arith, add-one}
use Rattle.std.specs.Prelude.{Option, None}
use Rattle.std.proofs.lemmas.List.{get_or-set_other, get_or-set_same}
use Rattle.std.proofs.lemmas.Bool.Decides.{nat_tests}
use native.Mathlib.Decide.{ℕ_discrete}
use mathlib.Core.Logic.{dite}
use Rattle.fib_core.specs.declared.word.Word.{Word}
use Rattle.fib_core.specs.declared.word.Word.TheVariants as words
use Rattle.fib_plane_view.specs.declared.put.Put.{Put}
use Rattle.fib_plane_view.specs.declared.put.Put.TheVariants as puts
use Rattle.fib_stack_ledger.specs.Deferred.{late_count, one_late}
use Rattle.fib_stack.specs.Runs.{word_in, put_in, deferred_at, late_word}

at_slot : (ws : List Word) (gave : List Put) (k : ℕ) → k < 16 → late_word (word_in ws k) (put_in gave k) ≡ deferred_at ws gave k
at_slot ws gave k lt = grind (arith, nat_tests)

pub defer_next : (l m : ℕ → Option Word) (ws : List Word) (gave : List Put) (i : ℕ) → i < 16 → m i ≡ late_word (word_in ws i) (put_in gave i) → ((k : ℕ) → k ≢ i → m k ≡ l k) → ((k : ℕ) → k < i → l k ≡ deferred_at ws gave k) → (k : ℕ) → k < i + 1 → m k ≡ deferred_at ws gave k
defer_next l m ws gave i lt here others done k below = dite (ℕ_discrete k i)
    (λ e. subst (λ (j : ℕ). m j ≡ deferred_at ws gave j) (sym e) (here ∙ at_slot ws gave i lt))
    (λ ne. others k ne ∙ done k (omega (arith, below, ne)))

count_same : (l m : ℕ → Option Word) (n : ℕ) → ((k : ℕ) → k < n → m k ≡ l k) → late_count m n ≡ late_count l n
count_same l m zero same = refl
count_same l m (suc n) same =
    let e : one_late (m n) ≡ one_late (l n) = ap one_late (same n (omega arith)) in
    let ih = count_same l m n (λ k lt. same k (omega (arith, lt))) in
    omega (arith, e, ih)

pub count_next : (l m : ℕ → Option Word) (i n c : ℕ) → ((k : ℕ) → k ≢ i → m k ≡ l k) → n ≡ late_count l i → c ≡ one_late (m i) → n + c ≡ late_count m (i + 1)
count_next l m i n c others before one =
    let s = count_same l m i (λ k lt. others k (λ e. absurd (omega (arith, e, lt)))) in
    rw add-one (omega (arith, s, before, one))

pub one_most : (w : Word) (a : Put) → one_late (late_word w a) ≤ 1
one_most w puts.Same = omega arith
one_most w puts.Stored = omega arith
one_most w puts.Dropped = omega arith

-- one word more is set
pub word_set : (f : ℕ → Word) (ws : List Word) (i : ℕ) (w : Word) → i < length ws → w ≡ f i → ((k : ℕ) → k < i → word_in ws k ≡ f k) → (k : ℕ) → k < i + 1 → word_in (set ws i w) k ≡ f k
word_set f ws i w lt is done k below = dite (ℕ_discrete k i)
    (λ e. subst (λ (j : ℕ). word_in (set ws i w) j ≡ f j) (sym e) (get_or-set_same ws i w words.Drop lt ∙ is))
    (λ ne. get_or-set_other ws i k w words.Drop ne ∙ done k (omega (arith, below, ne)))

pub none_late : (l : ℕ → Option Word) (n : ℕ) → ((k : ℕ) → l k ≡ None) → 0 ≡ late_count l n
none_late l zero none = refl
none_late l (suc n) none =
    let e : one_late (l n) ≡ one_late None = ap one_late (none n) in
    let ih = none_late l n none in
    omega (arith, e, ih)
