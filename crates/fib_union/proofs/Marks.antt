-- Marks by two numbers and a word: what a look does to all of them.
use Rattle.std.proofs.Common.{arith, ◌≡◌, ℕ, zero, suc, ◌+◌, ◌<◌, ◌≤◌, Bool, true, false, not, cond, ◌&&◌, ltb, List, [], ◌∷◌, ◌++◌, length, get_or, set, take, drop, map, Option, refl, sym, ◌∙◌, ap}
use Rattle.std.specs.Prelude.{min, filter, reverse}
use Rattle.std.specs.List.{All, list_all}
use Rattle.std.proofs.lemmas.Bool.{lt-ltb, le-ltb}
use Rattle.std.proofs.lemmas.Bool.Decides.{nat_tests}
use Rattle.std.proofs.lemmas.List.{same_lists, length-map, map-set, append-nil, map-append, reverse-append, reverse-reverse}
use Rattle.std.proofs.lemmas.List.Elements.{All-contains, Contains-get_or}
use Rattle.fib_union.specs.Marks.{Mark, passed, mark_at, next_mark, is_passed}
use Rattle.fib_union.specs.Unions.{Retired, marked, is_gone, scanned, gone_to}
use Rattle.fib_union.specs.inner.Fields.{mark_of, retired_from, union_of, least_of, receded}
use Rattle.fib_union.specs.declared.retired.Progress.{Progress}

pub all_at : {A : Type 0} (P : A → Type 0) (xs : List A) (k : ℕ) (d : A) → All P xs → k < length xs → P (get_or xs k d)
all_at P xs k d all lt = All-contains P xs (get_or xs k d) all (Contains-get_or xs k d lt)

pub get_or-map : {A B : Type 0} (f : A → B) (xs : List A) (k : ℕ) (d : A) (e : B) → k < length xs → get_or (map f xs) k e ≡ f (get_or xs k d)
get_or-map f [] k d e lt = absurd (omega arith)
get_or-map f (x ∷ xs) zero d e lt = refl
get_or-map f (x ∷ xs) (suc k) d e lt = get_or-map f xs k d e (omega arith)

pub changed_all : {A : Type 0} (f : A → A) (old now : List A) (i : ℕ) → length now ≡ length old → length old ≤ i → ((k : ℕ) (d : A) → k < i → get_or now k d ≡ f (get_or old k d)) → now ≡ map f old
changed_all f old now i len all done =
    same_lists now (map f old) (len ∙ sym (length-map old f)) (λ k d lt. done k d (omega arith) ∙ sym (get_or-map f old k d d (omega arith)))

-- one look

module _ (n word count : ℕ) (ps : List Progress) (q d : Progress) (here : n < length ps) (told : (i : ℕ) → i < count → mark_of i q ≡ next_mark word (mark_of i (get_or ps n d))) where
  marks_look : (i : ℕ) → i < count → set (map (mark_of i) ps) n (next_mark word (mark_at (map (mark_of i) ps) n)) ≡ map (mark_of i) (set ps n q)
  marks_look i lt = ap (λ (m : Mark). set (map (mark_of i) ps) n m) (ap (next_mark word) (get_or-map (mark_of i) ps n d passed here) ∙ sym (told i lt)) ∙ sym (map-set (mark_of i) ps n q)

  pub look_from : (i : ℕ) (cs : List (ℕ × ℕ)) → i + length cs ≤ count → map (marked n word) (retired_from ps i cs) ≡ retired_from (set ps n q) i cs
  look_from i [] le = refl
  look_from i (c ∷ cs) le =
      let head = marks_look i (omega arith) in
      let tail = look_from (i + 1) cs (omega arith) in
      ap (λ (ms : List Mark). record { cell = c.0; to = c.1; marks = ms } ∷ map (marked n word) (retired_from ps (i + 1) cs)) head
      ∙ ap (λ (rs : List Retired). record { cell = c.0; to = c.1; marks = map (mark_of i) (set ps n q) } ∷ rs) tail

-- the copies that are passed for each worker are the oldest

passed_below : (i : ℕ) (p : Progress) → is_passed (mark_of i p) ≡ ltb i p.passed
passed_below i p = grind (arith, nat_tests)

and_true : (b c : Bool) → c ≡ true → b && c ≡ b
and_true true c e = e
and_true false c e = refl

gone_below : (i m : ℕ) (ps : List Progress) → list_all is_passed (map (mark_of i) ps) && ltb i m ≡ ltb i (least_of m ps)
gone_below i m [] = refl
gone_below i m (p ∷ ps) =
    let rest = gone_below i (min m p.passed) ps in
    let here = passed_below i p in
    both (is_passed (mark_of i p)) (list_all is_passed (map (mark_of i) ps)) here ∙ rest
  where
    both : (a b : Bool) → a ≡ ltb i p.passed → (a && b) && ltb i m ≡ b && ltb i (min m p.passed)
    both a true e = grind (arith, nat_tests)
    both true false e = refl
    both false false e = refl

pub gone_is : (i count : ℕ) (c : ℕ × ℕ) (ps : List Progress) → i < count → is_gone (record { cell = c.0; to = c.1; marks = map (mark_of i) ps }) ≡ ltb i (least_of count ps)
gone_is i count c ps lt = sym (and_true (list_all is_passed (map (mark_of i) ps)) (ltb i count) (lt-ltb i count lt)) ∙ gone_below i count ps

module _ (count : ℕ) (ps : List Progress) where
  -- those from the least number on stay
  stay : (i : ℕ) (cs : List (ℕ × ℕ)) → i + length cs ≤ count → least_of count ps ≤ i → (filter (λ r. not (is_gone r)) (retired_from ps i cs) ≡ retired_from ps i cs) × (filter is_gone (retired_from ps i cs) ≡ [])
  stay i [] le past = (refl, refl)
  stay i (c ∷ cs) le past =
      let is : is_gone (record { cell = c.0; to = c.1; marks = map (mark_of i) ps }) ≡ false = gone_is i count c ps (omega arith) ∙ le-ltb i (least_of count ps) past in
      let rest = stay (i + 1) cs (omega arith) (omega arith) in
      let r : Retired = record { cell = c.0; to = c.1; marks = map (mark_of i) ps } in (
        ap (λ (b : Bool). cond (not b) (r ∷ filter (λ s. not (is_gone s)) (retired_from ps (i + 1) cs)) (filter (λ s. not (is_gone s)) (retired_from ps (i + 1) cs))) is ∙ ap (λ (rs : List Retired). r ∷ rs) rest.0,
        ap (λ (b : Bool). cond b (r ∷ filter is_gone (retired_from ps (i + 1) cs)) (filter is_gone (retired_from ps (i + 1) cs))) is ∙ rest.1,
      )

  -- those before it leave
  pub leave : (k i : ℕ) (cs : List (ℕ × ℕ)) → i + length cs ≤ count → i + k ≡ least_of count ps → k ≤ length cs → (filter (λ r. not (is_gone r)) (retired_from ps i cs) ≡ retired_from ps (i + k) (drop k cs)) × (map (λ (r : Retired). r.to) (filter is_gone (retired_from ps i cs)) ≡ map (λ (c : ℕ × ℕ). c.1) (take k cs))
  leave zero i cs le at few = (let s = stay i cs le (omega arith) in let e : i ≡ i + 0 = omega arith in (s.0 ∙ ap (λ (j : ℕ). retired_from ps j cs) e, ap (λ (rs : List Retired). map (λ (r : Retired). r.to) rs) s.1))
  leave (suc k) i [] le at few = absurd (omega arith)
  leave (suc k) i (c ∷ cs) le at few =
      let is : is_gone (record { cell = c.0; to = c.1; marks = map (mark_of i) ps }) ≡ true = gone_is i count c ps (omega arith) ∙ lt-ltb i (least_of count ps) (omega arith) in
      let rest = leave k (i + 1) cs (omega arith) (omega arith) (omega arith) in
      let r : Retired = record { cell = c.0; to = c.1; marks = map (mark_of i) ps } in
      let e : (i + 1) + k ≡ i + suc k = omega arith in (
        ap (λ (b : Bool). cond (not b) (r ∷ filter (λ s. not (is_gone s)) (retired_from ps (i + 1) cs)) (filter (λ s. not (is_gone s)) (retired_from ps (i + 1) cs))) is ∙ (rest.0 ∙ ap (λ (j : ℕ). retired_from ps j (drop k cs)) e),
        ap (λ (b : Bool). map (λ (s : Retired). s.to) (cond b (r ∷ filter is_gone (retired_from ps (i + 1) cs)) (filter is_gone (retired_from ps (i + 1) cs)))) is ∙ ap (λ (xs : List ℕ). c.1 ∷ xs) rest.1,
      )

-- the numbers of those that stay
mark_receded : (gone i : ℕ) (p : Progress) → mark_of (i + gone) p ≡ mark_of i (receded gone p)
mark_receded gone i p = grind (arith, nat_tests)

marks_receded : (gone i : ℕ) (ps : List Progress) → map (mark_of (i + gone)) ps ≡ map (mark_of i) (map (receded gone) ps)
marks_receded gone i [] = refl
marks_receded gone i (p ∷ ps) = cc (mark_receded gone i p, marks_receded gone i ps)

pub recede_from : (gone i : ℕ) (ps : List Progress) (cs : List (ℕ × ℕ)) → retired_from ps (i + gone) cs ≡ retired_from (map (receded gone) ps) i cs
recede_from gone i ps [] = refl
recede_from gone i ps (c ∷ cs) =
    let e : (i + gone) + 1 ≡ (i + 1) + gone = omega arith in
    let tail : retired_from ps ((i + gone) + 1) cs ≡ retired_from (map (receded gone) ps) (i + 1) cs = ap (λ (j : ℕ). retired_from ps j cs) e ∙ recede_from gone (i + 1) ps cs in
    ap (λ (ms : List Mark). record { cell = c.0; to = c.1; marks = ms } ∷ retired_from ps ((i + gone) + 1) cs) (marks_receded gone i ps)
    ∙ ap (λ (rs : List Retired). record { cell = c.0; to = c.1; marks = map (mark_of i) (map (receded gone) ps) } ∷ rs) tail

-- lists the other way round

filter-append : {A : Type 0} (p : A → Bool) (xs ys : List A) → filter p (xs ++ ys) ≡ filter p xs ++ filter p ys
filter-append p [] ys = refl
filter-append p (x ∷ xs) ys = by_case (p x) (filter-append p xs ys)
  where
    by_case : (b : Bool) → filter p (xs ++ ys) ≡ filter p xs ++ filter p ys → cond b (x ∷ filter p (xs ++ ys)) (filter p (xs ++ ys)) ≡ cond b (x ∷ filter p xs) (filter p xs) ++ filter p ys
    by_case true e = ap (λ l. x ∷ l) e
    by_case false e = e

pub rev_cons : {A : Type 0} (x : A) (xs : List A) → reverse (x ∷ xs) ≡ reverse xs ++ x ∷ []
rev_cons x xs = reverse-append (x ∷ []) xs

filter-reverse : {A : Type 0} (p : A → Bool) (xs : List A) → filter p (reverse xs) ≡ reverse (filter p xs)
filter-reverse p [] = refl
filter-reverse p (x ∷ xs) = ap (λ l. filter p l) (rev_cons x xs) ∙ (filter-append p (reverse xs) (x ∷ []) ∙ by_case (p x) (filter-reverse p xs))
  where
    by_case : (b : Bool) → filter p (reverse xs) ≡ reverse (filter p xs) → filter p (reverse xs) ++ cond b (x ∷ []) [] ≡ reverse (cond b (x ∷ filter p xs) (filter p xs))
    by_case true e = ap (λ l. l ++ x ∷ []) e ∙ sym (rev_cons x (filter p xs))
    by_case false e = append-nil (filter p (reverse xs)) ∙ e

pub map-reverse : {A B : Type 0} (f : A → B) (xs : List A) → map f (reverse xs) ≡ reverse (map f xs)
map-reverse f [] = refl
map-reverse f (x ∷ xs) = ap (λ l. map f l) (rev_cons x xs) ∙ (map-append f (reverse xs) (x ∷ []) ∙ (ap (λ l. l ++ f x ∷ []) (map-reverse f xs) ∙ sym (rev_cons (f x) (map f xs))))

-- a look on the fields is a look on the union
pub looked : (edges : List (Option ℕ)) (cs : List (ℕ × ℕ)) (n word count : ℕ) (ps : List Progress) (q d : Progress) → length cs ≡ count → n < length ps → ((i : ℕ) → i < count → mark_of i q ≡ next_mark word (mark_of i (get_or ps n d))) → least_of count (set ps n q) ≤ count
    → (union_of edges (drop (least_of count (set ps n q)) cs) (map (receded (least_of count (set ps n q))) (set ps n q)) ≡ scanned n word (union_of edges cs ps)) × (gone_to n word (union_of edges cs ps) ≡ map (λ (c : ℕ × ℕ). c.1) (take (least_of count (set ps n q)) cs))
looked edges cs n word count ps q d len here told few =
    let ps' : List Progress = set ps n q in
    let k : ℕ = least_of count ps' in
    let new : map (marked n word) (retired_from ps 0 cs) ≡ retired_from ps' 0 cs = look_from n word count ps q d here told 0 cs (omega arith) in
    let parts = leave count ps' k 0 cs (omega arith) (omega arith) (omega arith) in
    let zero_k : retired_from ps' (0 + k) (drop k cs) ≡ retired_from (map (receded k) ps') 0 (drop k cs) = recede_from k 0 ps' (drop k cs) in
    let back : map (marked n word) (reverse (retired_from ps 0 cs)) ≡ reverse (retired_from ps' 0 cs) = map-reverse (marked n word) (retired_from ps 0 cs) ∙ ap (λ (l : List Retired). reverse l) new in (
      ap (λ (rs : List Retired). record { edges = edges; retired = rs }) (sym (ap (λ (l : List Retired). filter (λ r. not (is_gone r)) l) back ∙ (filter-reverse (λ r. not (is_gone r)) (retired_from ps' 0 cs) ∙ ap (λ (l : List Retired). reverse l) (parts.0 ∙ zero_k)))),
      ap (λ (l : List Retired). map (λ (r : Retired). r.to) (filter is_gone l)) (ap (λ (l : List Retired). reverse l) back ∙ reverse-reverse (retired_from ps' 0 cs)) ∙ parts.1,
    )
