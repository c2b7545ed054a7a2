-- A list that is taken once a pair has as many users as pairs have it.
use Rattle.std.proofs.Common.{arith, ◌≡◌, ◌≢◌, ℕ, ◌+◌, ◌<◌, true, false, cond, List, [], ◌∷◌, ◌++◌, length, Option, Some, None, inl, inr, refl, sym, ◌∙◌, ap, ◌==◌, count_by, if◌then◌else◌}
use Rattle.std.specs.Prelude.{Contains, option_map}
use Rattle.std.specs.List.{AllZip}
use Rattle.std.specs.Cmp.Lexicographic.{pointwise}
use Rattle.std.proofs.lemmas.Bool.{cases_eq}
use Rattle.std.proofs.lemmas.Bool.Decides.{Decides-eqb}
use Rattle.fib_base_list.proofs.Lists.{either}
use Rattle.fib_resolve.specs.Keys.{same_path}
use Rattle.fib_resolve.specs.declared.pairs.Pair.{Pair}
use Rattle.fib_resolve.specs.declared.types.Path.{Path}
use Rattle.fib_addr.specs.Longest.{everything}
use Rattle.fib_resolve.specs.declared.types.FibSource.TheVariants as sources
use Rattle.fib_resolve.proofs.Touching.{same_pair-Decides}
use Rattle.std.proofs.lemmas.List.Sums.{sum_by-append, count_by-le-length}
use Rattle.fib_base_interned.specs.Interned.{kept_of, users_in, users_of, AreInterned, Takes}
use Rattle.fib_paths.specs.PathLists.{IsUsedLess}
use Rattle.fib_base_interned.proofs.Finding.{find_place, find_only, none_some, contains_at}
use Rattle.fib_base_interned.proofs.Finding.{get_or_at}
use Rattle.fib_entries_rows.specs.Known.{PathKept, content_of}
use Rattle.fib_entries_rows.specs.inner.Building.{AreTaken}
use Rattle.fib_entries_rows.proofs.Telling.{one_number, kept_some}

some_is : {X : Type 0} (x y : X) → Some x ≡ Some y → x ≡ y
some_is x y e = (cc)

pair_with : List Path → Pair
pair_with ps = record { prefix = everything; source = sources.Special; paths = ps }

-- equal lists pass the test, and no others
pub list_is : (ps qs : List Path) → pointwise same_path ps qs ≡ true → ps ≡ qs
unfolding pair_with
list_is ps qs h = ap (λ x. x.paths) ((same_pair-Decides (pair_with ps) (pair_with qs)).0 h)

pub list_self : (ps : List Path) → pointwise same_path ps ps ≡ true
unfolding pair_with
list_self ps = (same_pair-Decides (pair_with ps) (pair_with ps)).1 refl

abbrev count : List Path → List Pair → ℕ
count paths xs = count_by (λ x. pointwise same_path x.paths paths) xs

-- a kept list is found under its number
pub found_by : (lists : List PathKept) → AreInterned lists → (k : PathKept) → Contains lists k → kept_of lists k.id ≡ Some k
found_by lists kept k c =
    let at = get_or_at lists c.0 k c.1 c.2 in
    find_only (λ z. z.id == k.id) lists c.0 k at ((Decides-eqb k.id k.id).1 refl) (λ j l there same. kept.numbers_apart j c.0 l k there at ((Decides-eqb l.id k.id).0 same))

pub is_kept : (lists : List PathKept) (id : ℕ) (k : PathKept) → kept_of lists id ≡ Some k → Contains lists k
is_kept lists id k h = let f = find_place (λ z. z.id == id) lists k h in contains_at lists f.0 k f.1

module _ (old new : List PathKept) (content : List Path) (id : ℕ) (t : Takes old new content id) (apart : AreInterned new) where
  content_new : content_of new id ≡ Some content
  content_new = ap (option_map (λ k. k.content)) t.taken

  -- a number keeps its content
  content_stays : (other : ℕ) (paths : List Path) → content_of old other ≡ Some paths → content_of new other ≡ Some paths
  content_stays other paths h =
      elim (cases_eq other id) [
        | inl is ↦ (let k = kept_some old other paths h in
            ap (content_of new) is ∙ content_new ∙ ap Some (sym (t.was k.0 (ap (kept_of old) (sym is) ∙ k.1)) ∙ k.2))
        | inr off ↦ ap (option_map (λ k. k.content)) (t.others other off) ∙ h
      ]

  zip_stays : (xs : List Pair) (ids : List ℕ) → AllZip (λ x i. content_of old i ≡ Some x.paths) xs ids → AllZip (λ x i. content_of new i ≡ Some x.paths) xs ids
  zip_stays [] [] h = tt
  zip_stays [] (i ∷ ids) h = h
  zip_stays (x ∷ xs) [] h = h
  zip_stays (x ∷ xs) (i ∷ ids) h = (content_stays i x.paths h.0, zip_stays xs ids h.1)

  zip_push : (xs : List Pair) (ids : List ℕ) (x : Pair) → x.paths ≡ content → AllZip (λ y i. content_of new i ≡ Some y.paths) xs ids → AllZip (λ y i. content_of new i ≡ Some y.paths) (xs ++ x ∷ []) (ids ++ id ∷ [])
  zip_push [] [] x is h = (content_new ∙ ap Some (sym is), tt)
  zip_push [] (i ∷ ids) x is h = absurd h
  zip_push (y ∷ ys) [] x is h = absurd h
  zip_push (y ∷ ys) (i ∷ ids) x is h = (h.0, zip_push ys ids x is h.1)

  -- what no number has, no pair has
  none_counted : (xs : List Pair) (ids : List ℕ) → AllZip (λ y i. content_of old i ≡ Some y.paths) xs ids → kept_of old id ≡ None → count content xs ≡ 0
  none_counted [] [] h none = refl
  none_counted [] (i ∷ ids) h none = refl
  none_counted (x ∷ xs) [] h none = absurd h
  none_counted (x ∷ xs) (i ∷ ids) h none =
      elim (either (pointwise same_path x.paths content)) [
        | inl is ↦ (let e = list_is x.paths content is in
            let one = one_number new apart i id content (content_stays i content (h.0 ∙ ap Some e)) content_new in
            let k = kept_some old i x.paths h.0 in
            absurd (none_some k.0 (sym none ∙ ap (kept_of old) (sym one) ∙ k.1)))
        | inr isnt ↦ rw isnt (none_counted xs ids h.1 none)
      ]

  counted_old : (xs : List Pair) (ids : List ℕ) → AreTaken old xs ids → users_of old id ≡ count content xs
  counted_old xs ids h = by (kept_of old id) refl
    where
      by : (o : Option PathKept) → kept_of old id ≡ o → users_of old id ≡ count content xs
      by None e = ap users_in e ∙ sym (none_counted xs ids h.each e)
      by (Some k) e = ap users_in e ∙ h.users k (is_kept old id k e) ∙ ap (λ ps. count ps xs) (t.was k e)

  one_more : (x : Pair) (xs : List Pair) (paths : List Path) → count paths (xs ++ x ∷ []) ≡ count paths xs + (if pointwise same_path x.paths paths then 1 else 0) + 0
  one_more x xs paths = sum_by-append (λ y. cond (pointwise same_path y.paths paths) 1 0) xs (x ∷ []) ∙ omega arith

  -- one pair more is taken
  pub taken_more : (xs : List Pair) (ids : List ℕ) (x : Pair) → x.paths ≡ content → AreTaken old xs ids → AreTaken new (xs ++ x ∷ []) (ids ++ id ∷ [])
  taken_more xs ids x is h = record {
    each = zip_push xs ids x is (zip_stays xs ids h.each);
    users = λ k c. elim (cases_eq k.id id) [
      | inl same ↦ (let e = some_is k _ (sym (found_by new apart k c) ∙ ap (kept_of new) same ∙ t.taken) in
          let paths = ap (λ z. z.content) e in
          ap (λ z. z.users) e ∙ ap (λ n. n + 1) (counted_old xs ids h)
          ∙ sym (ap (λ ps. count ps (xs ++ x ∷ [])) paths ∙ one_more x xs content ∙ ap (λ b. count content xs + (if b then 1 else 0) + 0) (ap (λ ps. pointwise same_path ps content) is ∙ list_self content) ∙ omega arith))
      | inr off ↦ (let at = sym (t.others k.id off) ∙ found_by new apart k c in
          h.users k (is_kept old k.id k at) ∙ sym (one_more x xs k.content ∙ ap (λ b. count k.content xs + (if b then 1 else 0) + 0) (other k c off) ∙ omega arith))
    ];
  }
    where
      other : (k : PathKept) → Contains new k → k.id ≢ id → pointwise same_path x.paths k.content ≡ false
      other k c off = elim (either (pointwise same_path x.paths k.content)) [
        | inr isnt ↦ isnt
        | inl same ↦ absurd (off (one_number new apart k.id id content (ap (option_map (λ z. z.content)) (found_by new apart k c) ∙ ap Some (sym (list_is x.paths k.content same) ∙ is)) content_new))
      ]

pub few_users : (lists : List PathKept) (xs : List Pair) (ids : List ℕ) (content : List Path) (most : ℕ) → AreTaken lists xs ids → length xs < most → IsUsedLess lists content most
few_users lists xs ids content most h few = record { less = λ k c _. (let n = h.users k c in let le = count_by-le-length (λ x. pointwise same_path x.paths k.content) xs in omega (arith, n, le, few)) }
