-- The words of a line, from its front.
use Rattle.std.proofs.Common.{◌≡◌, ◌∷◌, [], ℕ, ◌+◌, ◌-◌, ◌<◌, ◌≤◌, true, false, List, length, take, drop, get_or, Some, None, filter, refl, sym, ap, ◌∙◌, arith, zero, suc, inl, inr}
use Rattle.std.specs.List.{slice_split, position}
use Rattle.std.proofs.lemmas.List.Splits.{slice_split-cons_yes}
use Rattle.std.proofs.lemmas.List.Quantifiers.{position-Some}
use Rattle.std.proofs.lemmas.List.{drop_more, take_rest, length-take}
use Rattle.std.proofs.lemmas.Bool.{cases_lt, false≢true}
use Rattle.fib_base_lines.proofs.Splits.{split_none, split_some}
use Rattle.fib_base_lines.specs.LineWords.{is_blank, is_some_word, words_of}

pub words_of_nil : words_of [] ≡ []
unfolding words_of
words_of_nil = refl

pub words_of_blank : (b : ℕ) (text : List ℕ) → is_blank b ≡ true → words_of (b ∷ text) ≡ words_of text
unfolding words_of
words_of_blank b text blank = rw (slice_split-cons_yes is_blank b text blank) refl

some_front : (text : List ℕ) (at : ℕ) → 0 < at → 0 < length text → is_some_word (take at text) ≡ true
some_front [] at n l = absurd (omega arith)
some_front (b ∷ text) zero n l = absurd (omega arith)
some_front (b ∷ text) (suc at) n l = refl

some_all : (text : List ℕ) → 0 < length text → is_some_word text ≡ true
some_all [] l = absurd (omega arith)
some_all (b ∷ text) l = refl

keep : (word : List ℕ) (parts : List (List ℕ)) → is_some_word word ≡ true → filter is_some_word (word ∷ parts) ≡ word ∷ filter is_some_word parts
keep word parts e = rw e refl

-- a word at the end of the line
pub words_of_last : (text : List ℕ) → 0 < length text → position is_blank text ≡ None → words_of text ≡ text ∷ []
unfolding words_of
words_of_last text some none = rw (split_none is_blank text none) (keep text [] (some_all text some))

at_front : (text : List ℕ) (at : ℕ) → at ≤ 0 → is_blank (get_or text 0 0) ≡ false → is_blank (get_or text at 0) ≡ true → ⊥
at_front text zero le word blank = false≢true (sym word ∙ blank)
at_front text (suc at) le word blank = omega arith

-- a blank that is the first one, behind a byte that is none
pub not_first : (text : List ℕ) (at : ℕ) → is_blank (get_or text 0 0) ≡ false → position is_blank text ≡ Some at → 0 < at
not_first text at word found =
    let blank = (position-Some is_blank text at 0 found).1 in
    elim (cases_lt 0 at) [ inl lt ↦ lt | inr le ↦ absurd (at_front text at le word blank) ]

-- a word before a blank
pub words_of_first : (text : List ℕ) (at : ℕ) → 0 < length text → is_blank (get_or text 0 0) ≡ false → position is_blank text ≡ Some at → words_of text ≡ take at text ∷ words_of (drop (at + 1) text)
unfolding words_of
words_of_first text at some word found =
    let later = not_first text at word found in
    rw (split_some is_blank text at found) (keep (take at text) (slice_split is_blank (drop (at + 1) text)) (some_front text at later some))

pub words_of_drop : (text : List ℕ) (i : ℕ) → i < length text → is_blank (get_or text i 0) ≡ true → words_of (drop (i + 1) text) ≡ words_of (drop i text)
words_of_drop text i lt blank = sym (ap words_of (drop_more text i 0 lt) ∙ words_of_blank (get_or text i 0) (drop (i + 1) text) blank)

-- and it is not empty
pub some_before : (text : List ℕ) (at : ℕ) → 0 < length text → is_blank (get_or text 0 0) ≡ false → position is_blank text ≡ Some at → 0 < length (take at text)
some_before text at some word found = rw length-take (omega (arith, not_first text at word found))

empty : (text : List ℕ) → length text ≡ 0 → text ≡ []
empty [] e = refl
empty (b ∷ text) e = absurd (omega arith)

-- what the first word of a text is, where its rest has no blank at its front
pub cut_none : (text rest : List ℕ) → words_of rest ≡ words_of text → length rest ≡ 0 → words_of text ≡ []
cut_none text rest same none = sym same ∙ ap words_of (empty rest none) ∙ words_of_nil

pub cut_last : (text rest : List ℕ) → words_of rest ≡ words_of text → 0 < length rest → position is_blank rest ≡ None → words_of text ≡ rest ∷ words_of []
cut_last text rest same some none = sym same ∙ words_of_last rest some none ∙ ap (λ (ws : List (List ℕ)). rest ∷ ws) (sym words_of_nil)

pub cut_first : (text rest : List ℕ) (at : ℕ) → words_of rest ≡ words_of text → 0 < length rest → is_blank (get_or rest 0 0) ≡ false → position is_blank rest ≡ Some at → words_of text ≡ take at rest ∷ words_of (take (length rest - (at + 1)) (drop (at + 1) rest))
cut_first text rest at same some word found = sym same ∙ words_of_first rest at some word found ∙ ap (λ (tail : List ℕ). take at rest ∷ words_of tail) (sym (take_rest rest (at + 1)))
