-- The text of lines, one part after another.
use Rattle.std.proofs.Common.{◌≡◌, ◌∙◌, ℕ, ◌+◌, ◌++◌, ◌∷◌, [], List, refl, sym, ap, append_assoc}
use Rattle.std.proofs.lemmas.List.{append-nil}
use Rattle.std.proofs.lemmas.List.Concat.{flat_map-append}
use Rattle.fib_soak.specs.Draws.{repeated, next, after_4}
use Rattle.fib_soak.specs.Scripts.{lines_for, interfaces, rounds, neighbors, targets, routes, soak_lines, soak_script, ended, text_of}
use Rattle.fib_soak.proofs.Steps.{lines_for_more}

pub text_append : (a b : List (List ℕ)) → text_of (a ++ b) ≡ text_of a ++ text_of b
unfolding text_of
text_append a b = flat_map-append ended a b

pub text_none : text_of [] ≡ []
unfolding text_of
text_none = refl

pub text_one : (line : List ℕ) → text_of (line ∷ []) ≡ ended line
unfolding text_of
text_one line = append-nil (ended line)

pub text_cons : (line : List ℕ) (lines : List (List ℕ)) → text_of (line ∷ lines) ≡ ended line ++ text_of lines
unfolding text_of
text_cons line lines = refl

-- a part begins, in the code's form
pub begins : (start told : List ℕ) (lines : List (List ℕ)) → lines ≡ [] → told ≡ start → told ≡ start ++ text_of lines
begins start told lines none t = rw (none, text_none, t) (sym (append-nil start))

-- a part goes on by lines
pub goes_on : (start told after : List ℕ) (lines more all : List (List ℕ)) → all ≡ lines ++ more → told ≡ start ++ text_of lines → after ≡ told ++ text_of more → after ≡ start ++ text_of all
goes_on start told after lines more all e t a = rw (e, text_append, a, t) (append_assoc start (text_of lines) (text_of more))

-- by one line
pub goes_on_by_line : (f : ℕ → List ℕ) (n : ℕ) (start told after line : List ℕ) → told ≡ start ++ text_of (lines_for f n) → line ≡ f n → after ≡ told ++ ended line → after ≡ start ++ text_of (lines_for f (n + 1))
goes_on_by_line f n start told after line t l a =
    goes_on start told after (lines_for f n) (f n ∷ []) (lines_for f (n + 1)) (lines_for_more f n) t (a ∙ ap (λ x. told ++ ended x) l ∙ ap (λ xs. told ++ xs) (sym (text_one (f n))))

-- three lines
pub three_lines : (start one two three a b c : List ℕ) (x y z : List ℕ) → a ≡ x → b ≡ y → c ≡ z → one ≡ start ++ ended a → two ≡ one ++ ended b → three ≡ two ++ ended c → three ≡ start ++ text_of (x ∷ y ∷ z ∷ [])
three_lines start one two three a b c x y z p q r e f g = rw (text_cons, text_cons, text_one, g, f, e, p, q, r) (append_assoc (start ++ ended x) (ended y) (ended z) ∙ append_assoc start (ended x) (ended y ++ ended z))

-- a round
pub one_round : (start one two three : List ℕ) (lines : List (List ℕ)) (line : List ℕ) → one ≡ start ++ ended line → two ≡ one ++ text_of lines → three ≡ two ++ ended line → three ≡ start ++ text_of ((line ∷ lines) ++ line ∷ [])
one_round start one two three lines line e f g = rw (text_cons, text_append lines (line ∷ []), text_one, g, f, e) (append_assoc (start ++ ended line) (text_of lines) (ended line) ∙ append_assoc start (ended line) (text_of lines ++ ended line))

-- the five parts
pub five_parts : (none a b c d e : List ℕ) (v w x y z : List (List ℕ)) → none ≡ [] → a ≡ none ++ text_of v → b ≡ a ++ text_of w → c ≡ b ++ text_of x → d ≡ c ++ text_of y → e ≡ d ++ text_of z → e ≡ text_of (v ++ w ++ x ++ y ++ z)
five_parts none a b c d e v w x y z n p q r s t = rw (text_append, text_append, text_append, text_append, t, s, r, q, p, n) refl

-- the script, where the states are those that the parts leave
pub whole_script : (seed s0 s1 s2 : ℕ) (none a b c d e : List ℕ) → s0 ≡ seed → s1 ≡ repeated after_4 32 s0 → s2 ≡ repeated next 2000 s1 → none ≡ [] → a ≡ none ++ text_of (interfaces 4) → b ≡ a ++ text_of (neighbors 64) → c ≡ b ++ text_of (targets 32 s0) → d ≡ c ++ text_of (routes 2000 s1) → e ≡ d ++ text_of (rounds 40 s2) → e ≡ soak_script seed
unfolding soak_script soak_lines
whole_script seed s0 s1 s2 none a b c d e e0 e1 e2 n p q r s t =
    five_parts none a b c d e (interfaces 4) (neighbors 64) (targets 32 s0) (routes 2000 s1) (rounds 40 s2) n p q r s t
    ∙ ap (λ x. text_of (interfaces 4 ++ neighbors 64 ++ targets 32 s0 ++ routes 2000 s1 ++ rounds 40 x)) e2
    ∙ ap (λ x. text_of (interfaces 4 ++ neighbors 64 ++ targets 32 s0 ++ routes 2000 x ++ rounds 40 (repeated next 2000 x))) e1
    ∙ ap (λ x. text_of (interfaces 4 ++ neighbors 64 ++ targets 32 x ++ routes 2000 (repeated after_4 32 x) ++ rounds 40 (repeated next 2000 (repeated after_4 32 x)))) e0
