-- Kept lists whose users are told by a count, as one is taken and one is given.
use Rattle.std.proofs.Common.{arith, ◌≡◌, ◌≢◌, ℕ, ◌+◌, ◌-◌, ◌<◌, true, false, List, Option, Some, None, inl, inr, refl, sym, ◌∙◌, ap, subst, ◌==◌, if◌then◌else◌}
use Rattle.std.specs.Prelude.{option_map}
use Rattle.std.specs.Cmp.Lexicographic.{pointwise}
use Rattle.std.proofs.lemmas.Bool.{cases_eq, false≢true}
use Rattle.std.proofs.lemmas.Bool.Decides.{Decides-eqb}
use Rattle.fib_base_list.proofs.Lists.{either}
use Rattle.fib_resolve.specs.Keys.{same_path}
use Rattle.fib_resolve.specs.declared.types.Path.{Path}
use Rattle.fib_base_interned.specs.Interned.{Kept, kept_of, users_of, users_in, lowered, AreInterned, Takes, Gives}
use Rattle.fib_base_interned.proofs.Finding.{none_some, some_is}
use Rattle.fib_entries_rows.specs.Known.{content_of}
use Rattle.fib_entries_rows.specs.inner.Fields.{AreCounted}
use Rattle.fib_entries_rows.proofs.Telling.{kept_some, one_number}
use Rattle.fib_entries_rows.proofs.Taking.{list_is, list_self, found_by, is_kept}

abbrev PathKept : Type 0
PathKept = Kept (List Path)

-- one for that list
unfoldable pub once : List Path → List Path → ℕ
once content paths = if pointwise same_path content paths then 1 else 0

pub unit_same : (content paths : List Path) → content ≡ paths → once content paths ≡ 1
unfolding once
unit_same content paths is = ap (λ b. if b then 1 else 0) (subst (λ z. pointwise same_path content z ≡ true) is (list_self content))

pub unit_other : (content paths : List Path) → content ≢ paths → once content paths ≡ 0
unfolding once
unit_other content paths off = elim (either (pointwise same_path content paths)) [
  | inl is ↦ absurd (off (list_is content paths is))
  | inr isnt ↦ ap (λ b. if b then 1 else 0) isnt
]

pub recounted : (lists : List (Kept (List Path))) (f g : List Path → ℕ) → ((paths : List Path) → f paths ≡ g paths) → AreCounted lists f → AreCounted lists g
recounted lists f g same h = record {
  apart = h.apart;
  users = λ k c. h.users k c ∙ same k.content;
  found = λ paths pos. h.found paths (subst (λ n. 0 < n) (sym (same paths)) pos);
}

module _ (old new : List (Kept (List Path))) (content : List Path) (id : ℕ) (t : Takes old new content id) (apart : AreInterned new) (f : List Path → ℕ) (h : AreCounted old f) where
  pub content_taken : content_of new id ≡ Some content
  content_taken = ap (option_map (λ k. k.content)) t.taken

  pub taken_stays : (other : ℕ) (paths : List Path) → content_of old other ≡ Some paths → content_of new other ≡ Some paths
  taken_stays other paths is =
      elim (cases_eq other id) [
        | inl same ↦ (let k = kept_some old other paths is in
            ap (content_of new) same ∙ content_taken ∙ ap Some (sym (t.was k.0 (ap (kept_of old) (sym same) ∙ k.1)) ∙ k.2))
        | inr off ↦ ap (option_map (λ k. k.content)) (t.others other off) ∙ is
      ]

  counted_old : users_of old id ≡ f content
  counted_old = by (kept_of old id) refl
    where
      nothing : (n : ℕ) → (0 < n → ⊥) → 0 ≡ n
      nothing n no_more = elim (cases_eq n 0) [ inl is ↦ sym is | inr off ↦ absurd (no_more (omega (arith, off))) ]

      by : (o : Option PathKept) → kept_of old id ≡ o → users_of old id ≡ f content
      by None e = ap users_in e ∙ nothing (f content) (λ pos.
          let r = h.found content pos in
          let one = one_number new apart r.0 id content (taken_stays r.0 content r.1) content_taken in
          let k = kept_some old r.0 content r.1 in
          none_some k.0 (sym e ∙ ap (kept_of old) (sym one) ∙ k.1))
      by (Some k) e = ap users_in e ∙ h.users k (is_kept old id k e) ∙ ap f (t.was k e)

  pub counted_taken : AreCounted new (λ paths. f paths + once content paths)
  counted_taken = record {
    apart = apart;
    users = λ k c. elim (cases_eq k.id id) [
      | inl same ↦ (let e = some_is k _ (sym (found_by new apart k c) ∙ ap (kept_of new) same ∙ t.taken) in
          let paths = ap (λ z. z.content) e in
          let one = unit_same content k.content (sym paths) in
          let n = ap (λ z. z.users) e in
          let m = counted_old in
          let same_count = ap f paths in
          sums k.users (users_of old id) (f content) (f k.content) (once content k.content) n m same_count one)
      | inr off ↦ (let at = sym (t.others k.id off) ∙ found_by new apart k c in
          let other : content ≢ k.content = λ is. off (one_number new apart k.id id content (ap (option_map (λ z. z.content)) (found_by new apart k c) ∙ ap Some (sym is)) content_taken) in
          plain k.users (f k.content) (once content k.content) (h.users k (is_kept old k.id k at)) (unit_other content k.content other))
    ];
    found = λ paths pos. elim (either (pointwise same_path content paths)) [
      | inl is ↦ (id, content_taken ∙ ap Some (list_is content paths is))
      | inr isnt ↦ (let none = unit_other content paths (λ is. false≢true (sym isnt ∙ subst (λ z. pointwise same_path content z ≡ true) is (list_self content))) in
          let r = h.found paths (less (f paths) (once content paths) pos none) in (r.0, taken_stays r.0 paths r.1))
    ];
  }
    where
      sums : (users before count now one : ℕ) → users ≡ before + 1 → before ≡ count → now ≡ count → one ≡ 1 → users ≡ now + one
      sums users before count now one a b c d = omega (arith, a, b, c, d)

      plain : (users count one : ℕ) → users ≡ count → one ≡ 0 → users ≡ count + one
      plain users count one a b = omega (arith, a, b)

      less : (a b : ℕ) → 0 < a + b → b ≡ 0 → 0 < a
      less a b pos e = omega (arith, pos, e)

module _ (old new : List (Kept (List Path))) (content : List Path) (id : ℕ) (is : content_of old id ≡ Some content) (t : Gives old new id) (apart : AreInterned new) (f g : List Path → ℕ) (h : AreCounted old f)
    (step : (paths : List Path) → f paths ≡ g paths + once content paths) where
  there : (k : Kept (List Path)) × (kept_of old id ≡ Some k) × (k.content ≡ content)
  there = kept_some old id content is

  lower_some : (k : Kept (List Path)) → (k.users == 1) ≡ false → kept_of old id ≡ Some k → content_of new id ≡ Some k.content
  lower_some k off at = ap (option_map (λ z. z.content)) (t.given ∙ ap lowered at) ∙ rw off refl

  -- a list that is still used keeps its number
  pub given_stays : (other : ℕ) (paths : List Path) → 0 < g paths → content_of old other ≡ Some paths → content_of new other ≡ Some paths
  given_stays other paths pos at =
      elim (cases_eq other id) [
        | inl same ↦ (let k = there in
            let users = h.users k.0 (is_kept old id k.0 k.1) in
            let own : k.0.content ≡ paths = some_is k.0.content paths (sym (ap (option_map (λ z. z.content)) k.1) ∙ ap (content_of old) (sym same) ∙ at) in
            let one = unit_same content paths (sym k.2 ∙ own) in
            let more = step paths in
            let count = ap f own in
            ap (content_of new) same ∙ lower_some k.0 (many k.0.users (f k.0.content) (f paths) (g paths) (once content paths) users count more one pos) k.1 ∙ ap Some own)
        | inr off ↦ ap (option_map (λ z. z.content)) (t.others other off) ∙ at
      ]
    where
      many : (users count now left one : ℕ) → users ≡ count → count ≡ now → now ≡ left + one → one ≡ 1 → 0 < left → (users == 1) ≡ false
      many users count now left one a b c d pos = elim (either (users == 1)) [
        | inr isnt ↦ isnt
        | inl is ↦ (let n : users ≡ 1 = (Decides-eqb users 1).0 is in absurd (omega (arith, n, a, b, c, d, pos)))
      ]

  pub counted_given : AreCounted new g
  counted_given = record {
    apart = apart;
    users = λ k c. elim (cases_eq k.id id) [
      | inl same ↦ (let was = there in
          lower was.0 k (h.users was.0 (is_kept old id was.0 was.1)) was.2 (sym (ap lowered was.1) ∙ (sym t.given ∙ (ap (kept_of new) (sym same) ∙ found_by new apart k c))))
      | inr off ↦ (let at = sym (t.others k.id off) ∙ found_by new apart k c in
          let other : content ≢ k.content = λ e. off (one_number old h.apart k.id id content (ap (option_map (λ z. z.content)) at ∙ ap Some (sym e)) is) in
          plain k.users (f k.content) (g k.content) (once content k.content) (h.users k (is_kept old k.id k at)) (step k.content) (unit_other content k.content other))
    ];
    found = λ paths pos. (let r = h.found paths (more (f paths) (g paths) (once content paths) (step paths) pos) in (r.0, given_stays r.0 paths pos r.1));
  }
    where
      plain : (users count left one : ℕ) → users ≡ count → count ≡ left + one → one ≡ 0 → users ≡ left
      plain users count left one a b c = omega (arith, a, b, c)

      more : (count left one : ℕ) → count ≡ left + one → 0 < left → 0 < count
      more count left one e pos = omega (arith, e, pos)

      finish : (users count left one less now : ℕ) → users ≡ count → count ≡ left + one → one ≡ 1 → users - 1 ≡ less → left ≡ now → less ≡ now
      finish users count left one less now a b c d e = omega (arith, a, b, c, d, e)

      lower : (was k : PathKept) → was.users ≡ f was.content → was.content ≡ content → lowered (Some was) ≡ Some k → k.users ≡ g k.content
      lower was k users own low = elim (either (was.users == 1)) [
        | inl last ↦ absurd (none_some k (rw last at low))
        | inr isnt ↦ (let e = some_is _ k (rw isnt at low) in
            finish was.users (f was.content) (g was.content) (once content was.content) k.users (g k.content) users (step was.content) (unit_same content was.content (sym own)) (ap (λ z. z.users) e) (ap (λ z. g z.content) e))
      ]
