-- Vectors that are kept, seen as the lists of their paths.
use Rattle.std.proofs.Common.{arith, ◌≡◌, ◌≢◌, ℕ, zero, suc, ◌+◌, ◌-◌, ◌<◌, ◌==◌, Bool, true, false, List, [], ◌∷◌, length, map, Option, Some, None, inl, inr, refl, sym, ◌∙◌, ap, subst, is_some, slice_get, Vec, Global}
use Rattle.std.specs.Prelude.{IsSome, Contains, option_map}
use Rattle.std.specs.Cmp.Lexicographic.{pointwise}
use Rattle.std.proofs.lemmas.Bool.{false≢true, cases_eq}
use Rattle.fib_base_list.proofs.Lists.{either}
use Rattle.fib_resolve.specs.declared.types.Path.{Path}
use Rattle.fib_resolve.specs.contracts.types.PathPartialEq.TheImpl.{eq-value}
use Rattle.fib_base_interned.specs.Interned.{Kept, kept_of, users_in, users_of, untaken, without_user, AreInterned, IsLastToGo, Takes, TakesBack, Gives, lowered}
use Rattle.fib_base_interned.proofs.Finding.{find_only, find_place, get_or_at}
use Rattle.fib_paths.specs.PathLists.{IsUsedLess}
use Rattle.fib_paths.specs.inner.Vectors.{listed, AreApart}
use Rattle.fib_paths.proofs.SamePaths.{same_paths, lists_are}

some_is : {X : Type 0} (x y : X) → Some x ≡ Some y → x ≡ y
some_is x y e = (cc)

none_some : {X : Type 0} (x : X) → None ≡ Some x → ⊥
none_some x e = false≢true (ap is_some e)

abbrev Rows : Type 0
Rows = List (Kept (Vec Path Global))

pub kept_listed : (rows : Rows) (id : ℕ) → kept_of (map listed rows) id ≡ option_map listed (kept_of rows id)
kept_listed [] id = refl
kept_listed (k ∷ ks) id = elim (either (k.id == id)) [ inl is ↦ rw is refl | inr isnt ↦ rw isnt (kept_listed ks id) ]

users_same : (o : Option (Kept (Vec Path Global))) → users_in (option_map listed o) ≡ users_in o
users_same None = refl
users_same (Some k) = refl

pub users_listed : (rows : Rows) (id : ℕ) → users_of (map listed rows) id ≡ users_of rows id
users_listed rows id = ap users_in (kept_listed rows id) ∙ users_same (kept_of rows id)

some_same : (o : Option (Kept (Vec Path Global))) → is_some (option_map listed o) ≡ is_some o
some_same None = refl
some_same (Some k) = refl

-- a number that has a list has a vector
pub some_listed : (rows : Rows) (id : ℕ) → IsSome (kept_of (map listed rows) id) → IsSome (kept_of rows id)
some_listed rows id h = sym (ap is_some (kept_listed rows id) ∙ some_same (kept_of rows id)) ∙ h

content_same : (o : Option (Kept (Vec Path Global))) (v : Vec Path Global) → option_map (λ k. k.content) o ≡ Some v → option_map (λ k. k.content) (option_map listed o) ≡ Some v.items
content_same None v h = absurd (none_some v h)
content_same (Some k) v h = ap (λ (z : Vec Path Global). Some z.items) (some_is k.content v h)

pub content_listed : (rows : Rows) (id : ℕ) (v : Vec Path Global) → option_map (λ k. k.content) (kept_of rows id) ≡ Some v → option_map (λ k. k.content) (kept_of (map listed rows) id) ≡ Some v.items
content_listed rows id v h = ap (option_map (λ k. k.content)) (kept_listed rows id) ∙ content_same (kept_of rows id) v h

pub at_listed : (rows : Rows) (place : ℕ) → option_map (λ k. k.id) (slice_get (map listed rows) place) ≡ option_map (λ k. k.id) (slice_get rows place)
at_listed [] place = refl
at_listed (k ∷ ks) zero = refl
at_listed (k ∷ ks) (suc place) = at_listed ks place

pub length_listed : (rows : Rows) → length (map listed rows) ≡ length rows
length_listed [] = refl
length_listed (k ∷ ks) = ap suc (length_listed ks)

from_listed : (o : Option (Kept (Vec Path Global))) (k : Kept (List Path)) → option_map listed o ≡ Some k → (l : Kept (Vec Path Global)) × (o ≡ Some l) × (listed l ≡ k)
from_listed None k h = absurd (none_some k h)
from_listed (Some l) k h = (l, refl, some_is (listed l) k h)

slice_listed : (rows : Rows) (place : ℕ) (k : Kept (List Path)) → slice_get (map listed rows) place ≡ Some k → (l : Kept (Vec Path Global)) × (slice_get rows place ≡ Some l) × (listed l ≡ k)
slice_listed [] place k h = absurd (none_some k h)
slice_listed (l ∷ ls) zero k h = (l, refl, some_is (listed l) k h)
slice_listed (l ∷ ls) (suc place) k h = slice_listed ls place k h

contains_listed : (rows : Rows) (k : Kept (Vec Path Global)) → Contains rows k → Contains (map listed rows) (listed k)
contains_listed [] k c = absurd (omega (arith, c.1))
contains_listed (l ∷ ls) k (zero, lt, is) = (0, omega arith, ap listed is)
contains_listed (l ∷ ls) k (suc n, lt, is) = let r = contains_listed ls k (n, omega (arith, lt), is) in (suc r.0, omega (arith, r.1), r.2)

listed_contains : (rows : Rows) (k : Kept (List Path)) → Contains (map listed rows) k → (l : Kept (Vec Path Global)) × Contains rows l × (listed l ≡ k)
listed_contains [] k c = absurd (omega (arith, c.1))
listed_contains (l ∷ ls) k (zero, lt, is) = (l, (0, omega arith, refl), is)
listed_contains (l ∷ ls) k (suc n, lt, is) = let r = listed_contains ls k (n, omega (arith, lt), is) in (r.0, (suc r.1.0, omega (arith, r.1.1), r.1.2), r.2)

module _ (old new : Rows) (content : Vec Path Global) (paths : List Path) (id : ℕ) where
  pub takes_listed : Takes old new content id → content.items ≡ paths → Takes (map listed old) (map listed new) paths id
  takes_listed t is = record {
    was = λ k h. (let r = from_listed (kept_of old id) k (sym (kept_listed old id) ∙ h) in
        ap (λ z. z.content) (sym r.2) ∙ (ap (λ (z : Vec Path Global). z.items) (t.was r.0 r.1) ∙ is));
    taken = kept_listed new id ∙ (ap (option_map listed) t.taken ∙ (ap (λ n. Some (made content.items n)) (ap (λ n. n + 1) (sym (users_listed old id))) ∙ ap (λ ps. Some (made ps (users_of (map listed old) id + 1))) is));
    others = λ other off. kept_listed new other ∙ (ap (option_map listed) (t.others other off) ∙ sym (kept_listed old other));
  }
    where
      made : List Path → ℕ → Kept (List Path)
      made ps n = record { id = id; content = ps; users = n }

lowered_listed : (o : Option (Kept (Vec Path Global))) → option_map listed (lowered o) ≡ lowered (option_map listed o)
lowered_listed None = refl
lowered_listed (Some k) = by (k.users == 1) refl
  where
    by : (b : Bool) → (k.users == 1) ≡ b → option_map listed (lowered (Some k)) ≡ lowered (Some (listed k))
    by true e = rw e refl
    by false e = rw e refl

pub gives_listed : (old new : Rows) (id : ℕ) → Gives old new id → Gives (map listed old) (map listed new) id
gives_listed old new id g = record {
  given = kept_listed new id ∙ (ap (option_map listed) g.given ∙ (lowered_listed (kept_of old id) ∙ ap lowered (sym (kept_listed old id))));
  others = λ other off. kept_listed new other ∙ (ap (option_map listed) (g.others other off) ∙ sym (kept_listed old other));
}

-- each vector that is kept after has the paths of one that was kept under its number before
Keeps : Rows → Rows → Type 0
Keeps old new = (a : ℕ) (k : Kept (Vec Path Global)) → kept_of new a ≡ Some k → (l : Kept (Vec Path Global)) × (kept_of old a ≡ Some l) × (k.content.items ≡ l.content.items)

apart_kept : (old new : Rows) → AreApart old → Keeps old new → AreApart new
unfolding Keeps
apart_kept old new apart keeps a b k l at_a at_b same =
    let x = keeps a k at_a in
    let y = keeps b l at_b in
    apart a b x.0 y.0 x.1 y.1 (sym x.2 ∙ same ∙ y.2)

pub apart_held : (old new : Rows) (id : ℕ) (k : Kept (Vec Path Global)) → AreApart old → kept_of old id ≡ Some k → Takes old new k.content id → AreApart new
unfolding Keeps
apart_held old new id k apart at t = apart_kept old new apart (λ a l h. elim (cases_eq a id) [
  | inl is ↦ (k, ap (kept_of old) is ∙ at, ap (λ z. z.content.items) (some_is l _ (sym h ∙ ap (kept_of new) is ∙ t.taken)))
  | inr off ↦ (l, sym (t.others a off) ∙ h, refl)
])

pub apart_given : (old new : Rows) (id : ℕ) → AreApart old → Gives old new id → AreApart new
unfolding Keeps
apart_given old new id apart g = apart_kept old new apart (λ a l h. elim (cases_eq a id) [
  | inl is ↦ lower (kept_of old id) (ap (kept_of old) is) l (sym g.given ∙ ap (kept_of new) (sym is) ∙ h)
  | inr off ↦ (l, sym (g.others a off) ∙ h, refl)
])
  where
    lower : (o : Option (Kept (Vec Path Global))) {q : Option (Kept (Vec Path Global))} → q ≡ o → (l : Kept (Vec Path Global)) → lowered o ≡ Some l → (m : Kept (Vec Path Global)) × (q ≡ Some m) × (l.content.items ≡ m.content.items)
    lower None {q = q} e l h = absurd (none_some l h)
    lower (Some k) {q = q} e l h = by (k.users == 1) refl
      where
        by : (b : Bool) → (k.users == 1) ≡ b → (m : Kept (Vec Path Global)) × (q ≡ Some m) × (l.content.items ≡ m.content.items)
        by true w = absurd (none_some l (rw w at h))
        by false w = (k, e, ap (λ z. z.content.items) (sym (some_is _ l (rw w at h))))

-- what is found under a number stands in the list
kept_in : (rows : Rows) (id : ℕ) (k : Kept (Vec Path Global)) → kept_of rows id ≡ Some k → Contains rows k × ((k.id == id) ≡ true)
kept_in [] id k h = absurd (none_some k h)
kept_in (l ∷ ls) id k h = elim (either (l.id == id)) [
  | inl is ↦ (let e = some_is l k (rw is at h) in ((0, omega arith, e), ap (λ z. z.id == id) (sym e) ∙ is))
  | inr isnt ↦ (let r = kept_in ls id k (rw isnt at h) in ((suc r.0.0, omega (arith, r.0.1), r.0.2), r.1))
]

-- no kept vector has these paths
pub IsNew : Rows → List Path → Type 0
IsNew rows paths = (k : Kept (Vec Path Global)) → Contains rows k → paths ≢ k.content.items

pub apart_added : (old new : Rows) (id : ℕ) (content : Vec Path Global) → AreApart old → IsNew old content.items → Takes old new content id → kept_of old id ≡ None → AreApart new
unfolding IsNew
apart_added old new id content apart fresh t none a b k l at_a at_b same =
    elim (cases_eq a id) [
      | inl a_is ↦ elim (cases_eq b id) [
        | inl b_is ↦ a_is ∙ sym b_is
        | inr b_off ↦ absurd (fresh l (kept_in old b l (sym (t.others b b_off) ∙ at_b)).0 (sym (held k (sym at_a ∙ ap (kept_of new) a_is ∙ t.taken)) ∙ same))
      ]
      | inr a_off ↦ elim (cases_eq b id) [
        | inl b_is ↦ absurd (fresh k (kept_in old a k (sym (t.others a a_off) ∙ at_a)).0 (sym (held l (sym at_b ∙ ap (kept_of new) b_is ∙ t.taken)) ∙ sym same))
        | inr b_off ↦ apart a b k l (sym (t.others a a_off) ∙ at_a) (sym (t.others b b_off) ∙ at_b) same
      ]
    ]
  where
    held : (z : Kept (Vec Path Global)) → Some z ≡ Some (record { id = id; content = content; users = users_of old id + 1 }) → z.content.items ≡ content.items
    held z e = ap (λ y. y.content.items) (some_is z _ e)

-- no content that is found by the test of its paths
pub new_of : (rows : Rows) (paths : List Path) → ((k : Kept (Vec Path Global)) → Contains rows k → pointwise eq-value.it paths k.content.items ≡ false) → IsNew rows paths
unfolding IsNew
new_of rows paths absent k c is = false≢true (sym (absent k c) ∙ same_paths paths k.content.items is)

pub new_as : (rows : Rows) (paths others : List Path) → others ≡ paths → IsNew rows paths → IsNew rows others
new_as rows paths others is fresh = subst (IsNew rows) (sym is) fresh

-- and the other way round
pub absent_of : (rows : Rows) (paths : List Path) → IsNew rows paths → (k : Kept (Vec Path Global)) → Contains rows k → pointwise eq-value.it paths k.content.items ≡ false
unfolding IsNew
absent_of rows paths fresh k c = elim (either (pointwise eq-value.it paths k.content.items)) [
  | inl is ↦ absurd (fresh k c (lists_are paths k.content.items is))
  | inr isnt ↦ isnt
]

-- a number that is found has few users
pub few_users : (rows : Rows) (paths : List Path) (id most : ℕ) (k : Kept (Vec Path Global)) → IsUsedLess (map listed rows) paths most → kept_of rows id ≡ Some k → pointwise eq-value.it paths k.content.items ≡ true → users_of rows id < most
few_users rows paths id most k less at is =
    subst (λ n. n < most) (sym (ap users_in at)) (less.less (listed k) (contains_listed rows k (kept_in rows id k at).0) (sym (lists_are paths k.content.items is)))

kept_found : (rows : Rows) → AreInterned rows → (k : Kept (Vec Path Global)) → Contains rows k → kept_of rows k.id ≡ Some k
kept_found rows kept k c = (let at = get_or_at rows c.0 k c.1 c.2 in
    find_only (λ z. z.id == k.id) rows c.0 k at (grind arith) (λ j l there same. kept.numbers_apart j c.0 l k there at (grind (arith, same))))

-- the list that is found has few users exactly where it may be taken
pub used_less : (rows : Rows) (paths : List Path) (id most : ℕ) (k : Kept (Vec Path Global)) → AreInterned rows → AreApart rows → kept_of rows id ≡ Some k → pointwise eq-value.it paths k.content.items ≡ true
    → users_of rows id < most → IsUsedLess (map listed rows) paths most
used_less rows paths id most k kept apart at is low = record {
  less = λ l c same. (let r = listed_contains rows l c in
      let found = kept_found rows kept r.0 r.1 in
      let one = apart r.0.id id r.0 k found at (ap (λ z. z.content) r.2 ∙ same ∙ lists_are paths k.content.items is) in
      subst (λ z. z.users < most) r.2 (subst (λ (z : Kept (Vec Path Global)). z.users < most) (some_is k r.0 (sym at ∙ ap (kept_of rows) (sym one) ∙ found)) (subst (λ n. n < most) (ap users_in at) low)));
}

-- what is new isn't listed
pub not_listed : (rows : Rows) (paths : List Path) → IsNew rows paths → (l : Kept (List Path)) → Contains (map listed rows) l → l.content ≢ paths
unfolding IsNew
not_listed rows paths fresh l c same = (let r = listed_contains rows l c in fresh r.0 r.1 (sym same ∙ ap (λ z. z.content) (sym r.2)))

pub used_none : (rows : Rows) (paths : List Path) (most : ℕ) → IsNew rows paths → IsUsedLess (map listed rows) paths most
unfolding IsNew
used_none rows paths most fresh = record { less = λ l c same. absurd (not_listed rows paths fresh l c same) }

-- numbers and contents are apart
pub interned_listed : (rows : Rows) → AreInterned rows → AreApart rows → AreInterned (map listed rows)
interned_listed rows kept apart = record {
  used = λ k c. (let r = listed_contains rows k c in subst (λ z. 0 < z.users) r.2 (kept.used r.0 r.1));
  numbers_apart = λ i j k l a b same. (let x = slice_listed rows i k a in let y = slice_listed rows j l b in
      kept.numbers_apart i j x.0 y.0 x.1 y.1 (ap (λ z. z.id) x.2 ∙ same ∙ ap (λ z. z.id) (sym y.2)));
  contents_apart = λ i j k l a b same. (let x = slice_listed rows i k a in let y = slice_listed rows j l b in
      kept.numbers_apart i j x.0 y.0 x.1 y.1 (apart x.0.id y.0.id x.0 y.0 (found i x.0 x.1) (found j y.0 y.1) (ap (λ z. z.content) x.2 ∙ same ∙ ap (λ z. z.content) (sym y.2))));
}
  where
    first : (ks : Rows) (i : ℕ) (k : Kept (Vec Path Global)) → slice_get ks i ≡ Some k → ((j : ℕ) (l : Kept (Vec Path Global)) → slice_get ks j ≡ Some l → l.id ≡ k.id → j ≡ i) → kept_of ks k.id ≡ Some k
    first [] i k at only = absurd (none_some k at)
    first (l ∷ ls) zero k at only = (let e = some_is l k at in let yes : (l.id == k.id) ≡ true = rw e (same_id k.id) in rw yes (ap Some e))
      where
        same_id : (n : ℕ) → (n == n) ≡ true
        same_id n = grind arith
    first (l ∷ ls) (suc i) k at only = elim (either (l.id == k.id)) [
      | inl is ↦ absurd (let e = only 0 l refl (tells l.id k.id is) in omega (arith, e))
      | inr isnt ↦ rw isnt (first ls i k at (λ j m a same. let e = only (suc j) m a same in omega (arith, e)))
    ]
      where
        tells : (m n : ℕ) → (m == n) ≡ true → m ≡ n
        tells m n h = grind (arith, h)

    found : (i : ℕ) (k : Kept (Vec Path Global)) → slice_get rows i ≡ Some k → kept_of rows k.id ≡ Some k
    found i k at = first rows i k at (λ j l b same. kept.numbers_apart j i l k b at same)

-- what is taken back of vectors is taken back of lists
without_listed : (k : Kept (Vec Path Global)) (ks : Rows) → map listed (without_user k ks) ≡ without_user (listed k) (map listed ks)
without_listed k ks = elim (either (k.users == 1)) [ inl is ↦ rw is refl | inr isnt ↦ rw isnt refl ]

pub untaken_listed : (rows : Rows) (id : ℕ) → map listed (untaken id rows) ≡ untaken id (map listed rows)
untaken_listed [] id = refl
untaken_listed (k ∷ ks) id = elim (either (k.id == id)) [
  | inl is ↦ rw is (without_listed k ks)
  | inr isnt ↦ rw isnt (ap (λ l. listed k ∷ l) (untaken_listed ks id))
]

get_listed : (rows : Rows) (place : ℕ) (k : Kept (Vec Path Global)) → slice_get rows place ≡ Some k → slice_get (map listed rows) place ≡ Some (listed k)
get_listed [] place k h = absurd (none_some k h)
get_listed (l ∷ ls) zero k h = ap (λ (z : Kept (Vec Path Global)). Some (listed z)) (some_is l k h)
get_listed (l ∷ ls) (suc place) k h = get_listed ls place k h

some_listed_back : (rows : Rows) (id : ℕ) → IsSome (kept_of rows id) → IsSome (kept_of (map listed rows) id)
some_listed_back rows id h = ap is_some (kept_listed rows id) ∙ some_same (kept_of rows id) ∙ h

pub back_listed : (old new : Rows) (lists : List (Kept (List Path))) (id : ℕ) → map listed old ≡ lists → TakesBack old new id → TakesBack lists (map listed new) id
back_listed old new lists id same t = record {
  there = some_listed_back new id t.there;
  last = λ k at one. (let r = from_listed (kept_of new id) k (sym (kept_listed new id) ∙ at) in
      ap (λ n. slice_get (map listed new) (n - 1)) (length_listed new)
      ∙ (get_listed new (length new - 1) r.0 (t.last r.0 r.1 (ap (λ z. z.users) r.2 ∙ one)) ∙ ap Some r.2));
  back = sym (untaken_listed new id) ∙ (ap (map listed) t.back ∙ same);
}

-- and the other way round
pub last_listed : (rows : Rows) (id : ℕ) → AreInterned rows → IsLastToGo (map listed rows) id → IsLastToGo rows id
last_listed rows id kept last k at one =
    let here = last (listed k) (kept_listed rows id ∙ ap (option_map listed) at) one in
    let there = slice_listed rows (length rows - 1) (listed k) (ap (λ n. slice_get (map listed rows) (n - 1)) (sym (length_listed rows)) ∙ here) in
    let found = find_place (λ z. z.id == id) rows k at in
    ap (slice_get rows) (kept.numbers_apart (length rows - 1) found.0 there.0 k there.1 found.1 (ap (λ z. z.id) there.2)) ∙ found.1
