-- Words and their numbers.
use Rattle.std.specs.Prelude.{Bool, true, slice_index, replicate, ◌==◌, if◌then◌else◌}
use Rattle.std.proofs.Common.{zero, suc, ◌≡◌, ℕ, ◌+◌, ◌*◌, ◌/◌, ◌%◌, ◌^◌, ◌<◌, ◌≤◌, false, refl, sym, ap, ◌∙◌, subst, arith}
use Rattle.fib_core.specs.declared.word.Word.{Word}
use Rattle.fib_core.specs.declared.word.Word.TheVariants as words
use Rattle.fib_union.specs.Unions.{owner}
use Rattle.fib_union.specs.Marks.{is_even}
use Rattle.fib_core.specs.Words.{IsRoomy, IsWord, tag_of, value_of, encoded, word_of, decoded, is_edge, goes, target}

split_number : (t v : ℕ) → v < 2 ^ 56 → word_of ((t * 2 ^ 56 + v) / 2 ^ 56) ((t * 2 ^ 56 + v) % 2 ^ 56) ≡ word_of t v
split_number t v lt =
    let d : (t * 72057594037927936 + v) / 72057594037927936 ≡ t = omega arith in
    let m : (t * 72057594037927936 + v) % 72057594037927936 ≡ v = omega arith in
    ap (λ x. word_of x ((t * 2 ^ 56 + v) % 2 ^ 56)) d ∙ ap (word_of t) m

pub decoded_encoded : (w : Word) → IsRoomy w → decoded (encoded w) ≡ w
unfolding decoded encoded
decoded_encoded words.Drop lt = refl
decoded_encoded words.Receive lt = refl
decoded_encoded (words.Glean i) lt = split_number 2 i (omega arith)
decoded_encoded (words.ToPly o) lt = split_number 3 o (omega arith)
decoded_encoded (words.ToBalance o) lt = split_number 4 o (omega arith)
decoded_encoded (words.ToAdjacency o) lt = split_number 5 o (omega arith)
decoded_encoded (words.Plain n) lt = split_number 6 n lt

pub decoded-zero : decoded 0 ≡ words.Drop
unfolding decoded
decoded-zero = refl

pub goes-zero : goes 0 ≡ false
unfolding goes decoded
goes-zero = refl

pub goes_of : (n : ℕ) (w : Word) → decoded n ≡ w → goes n ≡ is_edge w
unfolding goes
goes_of n w e = ap is_edge e

pub target_of : (n : ℕ) (w : Word) → decoded n ≡ w → target n ≡ value_of w
unfolding target
target_of n w e = ap value_of e

pub owner_of : (o s : ℕ) → s < 16 → owner (16 * o + s) ≡ o
owner_of o s lt = omega arith

pub odd_not_even : (p : ℕ) → p % 2 ≡ 1 → is_even p ≡ false
odd_not_even p e = rw e refl

-- the cell of an object
pub cell_of : (k : ℕ) → k ≡ 16 * owner k + k % 16
cell_of k = omega arith

-- the tag of a number and its value
pub number_cases : (n : ℕ) → IsWord n → (n / 2 ^ 56 ≤ 6) × ((n / 2 ^ 56 ≡ 6 → ⊥) → n % 2 ^ 56 < 2 ^ 32)
unfolding encoded
number_cases n (words.Drop, room, is) = (omega arith, λ ne. omega arith)
number_cases n (words.Receive, room, is) = (omega arith, λ ne. omega arith)
number_cases n (words.Glean i, room, is) = (omega arith, λ ne. omega arith)
number_cases n (words.ToPly i, room, is) = (omega arith, λ ne. omega arith)
number_cases n (words.ToBalance i, room, is) = (omega arith, λ ne. omega arith)
number_cases n (words.ToAdjacency i, room, is) = (omega arith, λ ne. omega arith)
number_cases n (words.Plain i, room, is) = (omega arith, λ ne. absurd (ne (omega arith)))

pub roomy_decoded : (n : ℕ) → IsWord n → IsRoomy (decoded n)
roomy_decoded n (w, room, is) = subst IsRoomy (sym (ap decoded is ∙ decoded_encoded w room)) room

-- a word with the last tag is its number
other_word : (b : Bool) (w u : Word) (v : ℕ) → (tag_of w ≡ 6 → ⊥) → (tag_of u ≡ 6 → u ≡ words.Plain v) → tag_of (if b then w else u) ≡ 6 → (if b then w else u) ≡ words.Plain v
other_word true w u v ne rest e = absurd (ne e)
other_word false w u v ne rest e = rest e

plain_word : (t v : ℕ) → tag_of (word_of t v) ≡ 6 → word_of t v ≡ words.Plain v
plain_word t v =
    other_word (t == 0) words.Drop _ v (λ e. none 0 (omega arith) e) (other_word (t == 1) words.Receive _ v (λ e. none 1 (omega arith) e)
    (other_word (t == 2) (words.Glean v) _ v (λ e. none 2 (omega arith) e) (other_word (t == 3) (words.ToPly v) _ v (λ e. none 3 (omega arith) e)
    (other_word (t == 4) (words.ToBalance v) _ v (λ e. none 4 (omega arith) e) (other_word (t == 5) (words.ToAdjacency v) _ v (λ e. none 5 (omega arith) e)
    (λ e. refl))))))
  where
    none : (n : ℕ) → n < 6 → n ≡ 6 → ⊥
    none n lt e = omega arith

pub plain_decoded : (n : ℕ) → tag_of (decoded n) ≡ 6 → decoded n ≡ words.Plain (n % 2 ^ 56)
unfolding decoded
plain_decoded n = plain_word (n / 2 ^ 56) (n % 2 ^ 56)

-- cells of a fresh table
pub zeros : (n k : ℕ) → slice_index (replicate n 0) k ≡ 0
zeros zero k = refl
zeros (suc n) zero = refl
zeros (suc n) (suc k) = zeros n k
