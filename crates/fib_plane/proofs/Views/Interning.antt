-- Adjacency records by their contents, where one is taken or given back.
use Rattle.std.proofs.Common.{arith, ◌≡◌, ◌≢◌, ℕ, ◌+◌, ◌-◌, ◌<◌, ◌==◌, Bool, true, false, eqb-true, List, Option, Some, None, inl, inr, refl, sym, ◌∙◌, ap, subst}
use Rattle.std.specs.Prelude.{option_map, if◌then◌else◌}
use Rattle.std.proofs.lemmas.Bool.{cases_eq, false≢true}
use Rattle.fib_base_list.proofs.Lists.{either}
use Rattle.fib_base_interned.specs.Interned.{AreInterned, Gives, Kept, Takes, kept_of, lowered, users_in, users_of}
use Rattle.fib_base_interned.proofs.Finding.{find_only, get_or_at, none_some, some_is}
use Rattle.fib_base_interned.proofs.Books.{kept_id}
use Rattle.fib_pool.specs.declared.object.AdjacencyRecord.{AdjacencyRecord}
use Rattle.fib_pool.specs.Records.{IsUsedLess}
use Rattle.fib_plane.specs.Views.{kept_as, record_in, same_record, users_of_record}
use Rattle.fib_plane.proofs.Views.Seeing.{kept_down, kept_up, record_is_same, same_record_is}

module _ (rows : List (Kept AdjacencyRecord)) (one : AreInterned rows) where
  pub record_up : (o : ℕ) (k : Kept AdjacencyRecord) → kept_of rows o ≡ Some k → record_in rows k.content ≡ Some o
  record_up o k e = ap (option_map (λ (j : Kept AdjacencyRecord). j.id)) (kept_up rows one o k e) ∙ ap (λ (i : ℕ). Some i) (kept_id rows o k e)

  kept_named : (o : ℕ) (k : Kept AdjacencyRecord) (n : AdjacencyRecord) → kept_of rows o ≡ Some k → k.content ≡ n → kept_as rows n ≡ Some k
  kept_named o k n e same = subst (λ (c : AdjacencyRecord). kept_as rows c ≡ Some k) same (kept_up rows one o k e)

  -- an equal record that is kept is the one that is found
  pub few_down : (r : AdjacencyRecord) (most : ℕ) → users_of_record rows r < most → IsUsedLess rows r most
  few_down r most lt k (i, small, is) same =
      let at = get_or_at rows i k small is in
      let found : kept_as rows k.content ≡ Some k = find_only (λ (l : Kept AdjacencyRecord). same_record l.content k.content) rows i k at (record_is_same k.content)
      (λ j l other e. one.contents_apart j i l k other at (same_record_is l.content k.content e)) in
      let users : users_of_record rows r ≡ k.users = ap (λ (c : AdjacencyRecord). users_of_record rows c) (sym same) ∙ ap users_in found in
      omega arith

-- rows that agree but under one number, which is one record's before and after
module _ (old new : List (Kept AdjacencyRecord)) (before : AreInterned old) (after : AreInterned new) (x : ℕ) (r : AdjacencyRecord) (others : (o : ℕ) → o ≢ x → kept_of new o ≡ kept_of old o)
    (was : (k : Kept AdjacencyRecord) → kept_of old x ≡ Some k → k.content ≡ r) (now : (k : Kept AdjacencyRecord) → kept_of new x ≡ Some k → k.content ≡ r) where
  pub kept_else : (n : AdjacencyRecord) → n ≢ r → kept_as new n ≡ kept_as old n
  kept_else n ne = by_old (kept_as old n) refl
    where
      by_new : kept_as old n ≡ None → (e : Option (Kept AdjacencyRecord)) → kept_as new n ≡ e → kept_as new n ≡ kept_as old n
      by_new none None is = is ∙ sym none
      by_new none (Some k) is =
          let d = kept_down new after n k is in
          let apart : k.id ≢ x = (λ same. ne (sym d.1 ∙ now k (ap (kept_of new) (sym same) ∙ d.0))) in
          absurd (none_some k (sym none ∙ kept_named old before k.id k n (sym (others k.id apart) ∙ d.0) d.1))

      by_old : (e : Option (Kept AdjacencyRecord)) → kept_as old n ≡ e → kept_as new n ≡ kept_as old n
      by_old None is = by_new is (kept_as new n) refl
      by_old (Some k) is =
          let d = kept_down old before n k is in
          let apart : k.id ≢ x = (λ same. ne (sym d.1 ∙ was k (ap (kept_of old) (sym same) ∙ d.0))) in
          kept_named new after k.id k n (others k.id apart ∙ d.0) d.1 ∙ sym is

-- one user more
module _ (old new : List (Kept AdjacencyRecord)) (before : AreInterned old) (after : AreInterned new) (r : AdjacencyRecord) (x : ℕ) (t : Takes old new r x) where
  pub taken_as : kept_as new r ≡ Some (record { id = x; content = r; users = users_of old x + 1 })
  taken_as = kept_up new after x (record { id = x; content = r; users = users_of old x + 1 }) t.taken

  pub taken_in : record_in new r ≡ Some x
  taken_in = ap (option_map (λ (j : Kept AdjacencyRecord). j.id)) taken_as

  -- the record was kept under that number, or not at all
  pub kept_there : (k : Kept AdjacencyRecord) → kept_as old r ≡ Some k → k.id ≡ x
  kept_there k is = elim (cases_eq k.id x) [
    | inl same ↦ same
    | inr ne ↦ (let d = kept_down old before r k is in
        let both : Some k ≡ Some (record { id = x; content = r; users = users_of old x + 1 }) = sym (kept_named new after k.id k r (t.others k.id ne ∙ d.0) d.1) ∙ taken_as in
        ap (λ (j : Kept AdjacencyRecord). j.id) (some_is k (record { id = x; content = r; users = users_of old x + 1 }) both))
  ]

  kept_now : (k : Kept AdjacencyRecord) → kept_of new x ≡ Some k → k.content ≡ r
  kept_now k e = ap (λ (j : Kept AdjacencyRecord). j.content) (some_is k (record { id = x; content = r; users = users_of old x + 1 }) (sym e ∙ t.taken))

  pub taken_else : (n : AdjacencyRecord) → n ≢ r → kept_as new n ≡ kept_as old n
  taken_else = kept_else old new before after x r t.others t.was kept_now

  -- the number was the record's, or free
  pub kept_before : (k : Kept AdjacencyRecord) → kept_as old r ≡ Some k → kept_of old x ≡ Some k
  kept_before k is = (let d = kept_down old before r k is in ap (kept_of old) (sym (kept_there k is)) ∙ d.0)

  pub used_before : users_of_record old r ≡ users_of old x
  used_before = by_row (kept_as old r) refl
    where
      by_place : kept_as old r ≡ None → (e : Option (Kept AdjacencyRecord)) → kept_of old x ≡ e → users_of_record old r ≡ users_of old x
      by_place none None is = ap users_in none ∙ sym (ap users_in is)
      by_place none (Some k) is = absurd (none_some k (sym none ∙ kept_named old before x k r is (t.was k is)))

      by_row : (e : Option (Kept AdjacencyRecord)) → kept_as old r ≡ e → users_of_record old r ≡ users_of old x
      by_row None is = by_place is (kept_of old x) refl
      by_row (Some k) is = ap users_in is ∙ sym (ap users_in (kept_before k is))

  pub one_more : users_of_record new r ≡ users_of_record old r + 1
  one_more = ap users_in taken_as ∙ ap (λ (n : ℕ). n + 1) (sym used_before)

-- one user less
lowered_one : (k : Kept AdjacencyRecord) (b : Bool) → (k.users == 1) ≡ b → 0 < k.users → users_in (if b then None else Some (record { id = k.id; content = k.content; users = k.users - 1 })) + 1 ≡ k.users
lowered_one k true e lt = (let is : k.users ≡ 1 = eqb-true k.users 1 e in omega arith)
lowered_one k false e lt = omega arith

lowered_content : (k j : Kept AdjacencyRecord) (b : Bool) → (if b then None else Some (record { id = k.id; content = k.content; users = k.users - 1 })) ≡ Some j → j.content ≡ k.content
lowered_content k j true e = absurd (none_some j e)
lowered_content k j false e = ap (λ (i : Kept AdjacencyRecord). i.content) (sym (some_is (record { id = k.id; content = k.content; users = k.users - 1 }) j e))

module _ (old new : List (Kept AdjacencyRecord)) (before : AreInterned old) (after : AreInterned new) (o : ℕ) (k : Kept AdjacencyRecord) (there : kept_of old o ≡ Some k) (g : Gives old new o) where
  kept_was : (j : Kept AdjacencyRecord) → kept_of old o ≡ Some j → j.content ≡ k.content
  kept_was j e = ap (λ (i : Kept AdjacencyRecord). i.content) (some_is j k (sym e ∙ there))

  given : kept_of new o ≡ lowered (Some k)
  given = g.given ∙ ap lowered there

  kept_is : (j : Kept AdjacencyRecord) → kept_of new o ≡ Some j → j.content ≡ k.content
  kept_is j e = lowered_content k j (k.users == 1) (sym given ∙ e)

  pub given_else : (n : AdjacencyRecord) → n ≢ k.content → kept_as new n ≡ kept_as old n
  given_else = kept_else old new before after o k.content g.others kept_was kept_is

  given_here : kept_as new k.content ≡ lowered (Some k)
  given_here = by_row (lowered (Some k)) refl
    where
      by_name : lowered (Some k) ≡ None → (e : Option (Kept AdjacencyRecord)) → kept_as new k.content ≡ e → kept_as new k.content ≡ lowered (Some k)
      by_name none None is = is ∙ sym none
      by_name none (Some j) is =
          let d = kept_down new after k.content j is in
          let apart : j.id ≢ o = (λ same. none_some j (sym (given ∙ none) ∙ (ap (kept_of new) (sym same) ∙ d.0))) in
          let both : Some j ≡ Some k = sym (kept_named old before j.id j k.content (sym (g.others j.id apart) ∙ d.0) d.1) ∙ kept_up old before o k there in
          absurd (apart (ap (λ (i : Kept AdjacencyRecord). i.id) (some_is j k both) ∙ kept_id old o k there))

      by_row : (e : Option (Kept AdjacencyRecord)) → lowered (Some k) ≡ e → kept_as new k.content ≡ lowered (Some k)
      by_row None is = by_name is (kept_as new k.content) refl
      by_row (Some j) is = kept_named new after o j k.content (given ∙ is) (kept_is j (given ∙ is)) ∙ sym is

  pub one_less : 0 < k.users → users_of_record new k.content + 1 ≡ users_of_record old k.content
  one_less lt = ap (λ (e : Option (Kept AdjacencyRecord)). users_in e + 1) given_here ∙ (lowered_one k (k.users == 1) refl lt ∙ sym (ap users_in (kept_up old before o k there)))

  -- a record that still has users is kept as before
  pub kept_still : (n : AdjacencyRecord) → 0 < users_of_record new n → record_in new n ≡ record_in old n
  kept_still n lt = elim (either (same_record n k.content)) [
    | inl is ↦ (let same = same_record_is n k.content is in by_row (lowered (Some k)) refl same)
    | inr isnt ↦ ap (option_map (λ (j : Kept AdjacencyRecord). j.id)) (given_else n (λ same. false≢true (sym isnt ∙ (ap (λ (c : AdjacencyRecord). same_record c k.content) same ∙ record_is_same k.content))))
  ]
    where
      by_row : (e : Option (Kept AdjacencyRecord)) → lowered (Some k) ≡ e → n ≡ k.content → record_in new n ≡ record_in old n
      by_row None is same = (let none : users_of_record new n ≡ 0 = ap (users_of_record new) same ∙ (ap users_in given_here ∙ ap users_in is) in absurd (let bad : ⊥ = omega arith in bad))
      by_row (Some j) is same =
          let a : record_in new k.content ≡ Some o = ap (record_in new) (sym (kept_is j (given ∙ is))) ∙ record_up new after o j (given ∙ is) in
          ap (record_in new) same ∙ (a ∙ (sym (record_up old before o k there) ∙ ap (record_in old) (sym same)))
