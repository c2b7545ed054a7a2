-- What seats count, result by result and frame by frame.
use Rattle.std.proofs.Common.{◌≡◌, ◌<◌, ◌+◌, ◌++◌, ◌∷◌, [], ℕ, Bool, true, false, List, drop, arith, refl, ap, ◌∙◌, sym, Some}
use Rattle.std.specs.Prelude.{◌==◌, cond, eqb, slice_get, map, if◌then◌else◌}
use Rattle.std.specs.List.{count_by}
use Rattle.std.proofs.lemmas.Bool.Decides.{nat_tests}
use Rattle.std.proofs.lemmas.List.{append_assoc, map-append}
use Rattle.std.proofs.lemmas.List.Elements.{filter-append}
use Rattle.std.proofs.lemmas.List.Recursion.{is_count_by}
use Rattle.fib_resolve.specs.declared.types.End.{End}
use Rattle.fib_core_results.specs.declared.record.Record.{Record}
use Rattle.fib_worker_crew.specs.Results.{results_of}
use Rattle.fib_worker_crew.specs.declared.claims.Frame.{Frame}
use Rattle.fib_worker_crew.proofs.Spans.{drop_at}
use Rattle.fib_core_lawful.specs.Claims.{times}
use Rattle.fib_counts.specs.Counts.{word_of}
use Rattle.fib_counter.specs.inner.Posts.{end_word, is_word, kept_words, results_by, words_of}

pub words_append : (xs ys : List Record) → words_of (xs ++ ys) ≡ words_of xs ++ words_of ys
words_append xs ys = ap kept_words (map-append end_word xs ys) ∙ filter-append is_word (map end_word xs) (map end_word ys)

pub item_at : {A : Type 0} (xs : List A) (place : ℕ) (x : A) → slice_get xs place ≡ Some x → drop place xs ≡ x ∷ drop (place + 1) xs
item_at xs place x at = drop_at xs place x at

-- one result more
pub results_more : (list : List (ℕ × Record)) (place : ℕ) (p : ℕ × Record) (old new : List ℕ) → slice_get list place ≡ Some p → new ≡ old ++ kept_words (end_word p.1 ∷ [])
    → new ++ words_of (results_of (drop (place + 1) list)) ≡ old ++ words_of (results_of (drop place list))
results_more list place p old new at is =
    let rest = results_of (drop (place + 1) list) in
    ap (λ xs. xs ++ words_of rest) is
    ∙ (append_assoc old (kept_words (end_word p.1 ∷ [])) (words_of rest)
    ∙ sym (ap (λ l. old ++ words_of (results_of l)) (item_at list place p at) ∙ ap (λ ws. old ++ ws) (words_append (p.1 ∷ []) rest)))

-- one frame more
pub frames_more : (list : List Frame) (place : ℕ) (f : Frame) (old new : List ℕ) → slice_get list place ≡ Some f → new ≡ old ++ words_of (results_of f.results.list)
    → new ++ words_of (results_by (drop (place + 1) list)) ≡ old ++ words_of (results_by (drop place list))
frames_more list place f old new at is =
    let rest = results_by (drop (place + 1) list) in
    ap (λ xs. xs ++ words_of rest) is
    ∙ (append_assoc old (words_of (results_of f.results.list)) (words_of rest)
    ∙ sym (ap (λ l. old ++ words_of (results_by l)) (item_at list place f at) ∙ ap (λ ws. old ++ ws) (words_append (results_of f.results.list) rest)))

-- a word that there is stands among the words as often as among those that there are
pub times_kept : (w : ℕ) (xs : List ℕ) → w < 770 → times w (kept_words xs) ≡ times w xs
times_kept w [] lt = refl
times_kept w (x ∷ xs) lt = by_test (is_word x) refl (times_kept w xs lt)
  where
    by_test : (b : Bool) → is_word x ≡ b → times w (kept_words xs) ≡ times w xs → times w (cond b (x ∷ kept_words xs) (kept_words xs)) ≡ (if eqb x w then 1 else 0) + times w xs
    by_test true is r = ap (λ n. (if eqb x w then 1 else 0) + n) r
    by_test false is r =
        let none : ◌≡◌ {A = ℕ} (if eqb x w then 1 else 0) 0 = grind (arith, nat_tests, is, lt) in
        let here : 0 + times w xs ≡ times w xs = omega arith in
        r ∙ sym (ap (λ n. n + times w xs) none ∙ here)

-- how often a word stands among the words of ends
pub times_count : (w : ℕ) (ends : List End) → times w (map word_of ends) ≡ count_by (λ end. word_of end == w) ends
times_count w ends = is_count_by (λ es. times w (map word_of es)) (λ end. word_of end == w) refl step ends
  where
    step : (e : End) (es : List End) → (if eqb (word_of e) w then 1 else 0) + times w (map word_of es) ≡ cond (word_of e == w) (1 + times w (map word_of es)) (times w (map word_of es))
    step e es = by_test (word_of e == w) refl
      where
        by_test : (b : Bool) → (word_of e == w) ≡ b → (if eqb (word_of e) w then 1 else 0) + times w (map word_of es) ≡ cond b (1 + times w (map word_of es)) (times w (map word_of es))
        by_test true is = (let one : ◌≡◌ {A = ℕ} (if eqb (word_of e) w then 1 else 0) 1 = grind (arith, nat_tests, is) in omega (arith, one))
        by_test false is = (let none : ◌≡◌ {A = ℕ} (if eqb (word_of e) w then 1 else 0) 0 = grind (arith, nat_tests, is) in omega (arith, none))
