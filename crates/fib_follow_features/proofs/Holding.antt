-- One set that changes among those of all features, and features that come or go one after the other.
use Rattle.std.proofs.Common.{arith, ◌≡◌, ◌≢◌, ◌⊎◌, ◌↔◌, ◌+◌, ◌<◌, ℕ, zero, suc, take, get_or, length, cond, List}
use Rattle.std.proofs.Common.{[], ◌∷◌, ◌++◌, Option, inl, inr, sym, ◌∙◌, ap, subst}
use Rattle.std.specs.Prelude.{Contains, OnErr, Result, Ok, Err}
use Rattle.std.specs.Map.{lookup}
use Rattle.std.proofs.lemmas.Bool.{false≢true}
use Rattle.std.proofs.lemmas.List.{take_more}
use Rattle.std.proofs.lemmas.List.Elements.{Contains-append_left, Contains-append_right, Contains-append_cases}
use Rattle.fib_base_list.proofs.Lists.{either, Contains-nil}
use Rattle.fib_addr.specs.Prefixes.{Prefix}
use Rattle.fib_follow_features.specs.Holders.{Holders, holders, members_of, same_feature, IsFound, IsGone, Forgets, Notes, NotesSome}
use Rattle.fib_follow_features.specs.declared.feature.Feature.{Feature}
use Rattle.fib_follow_features.specs.inner.Puts.{Puts, TakesOut, AreSame}
use Rattle.fib_follow_features.proofs.Same.{same_is, same_self}

pub in_one : {X : Type 0} (x y : X) → Contains (x ∷ []) y → x ≡ y
in_one x y (zero, lt, is) = is
in_one x y (suc k, lt, is) = absurd (omega (arith, lt))

pub one_in : {X : Type 0} (x y : X) → x ≡ y → Contains (x ∷ []) y
one_in x y is = (0, omega arith, is)

pub on_err : {X E P : Type 0} (r : Result X E) → P → OnErr r P
on_err (Ok x) p = tt
on_err (Err e) p = p

-- the first of a list, and one more
pub taken : {X : Type 0} (xs : List X) (i : ℕ) (x : X) → i < length xs → x ≡ get_or xs i x → take (i + 1) xs ≡ take i xs ++ x ∷ []
taken xs i x lt is = take_more xs i x lt ∙ ap (λ y. take i xs ++ y ∷ []) (sym is)

pub in_taken : {X : Type 0} (xs : List X) (i : ℕ) (x : X) → Contains (take i xs) x → Contains xs x
in_taken [] zero x c = c
in_taken [] (suc i) x c = c
in_taken (y ∷ ys) zero x c = absurd (Contains-nil x c)
in_taken (y ∷ ys) (suc i) x (zero, lt, is) = (0, omega arith, is)
in_taken (y ∷ ys) (suc i) x (suc k, lt, is) = let r = in_taken ys i x (k, omega (arith, lt), is) in (suc r.0, omega (arith, r.1), r.2)

-- the feature has another set, or none, and each other feature the same
abbrev pub Updated : List Holders → List Holders → Feature → Option (List Prefix) → Type 0
Updated old new f o = (g : Feature) → lookup (same_feature g) new ≡ cond (same_feature f g) o (lookup (same_feature g) old)

module _ (old new : List Holders) (f : Feature) (o : Option (List Prefix)) (set : Updated old new f o) where
  -- what is found by a feature afterwards
  moved : (g : Feature) → ((f ≡ g) × (holders new g ≡ members_of o)) ⊎ ((f ≢ g) × (holders new g ≡ holders old g))
  moved g = elim (either (same_feature f g)) [
    | inl is ↦ inl (same_is f g is, ap members_of (set g ∙ ap (λ b. cond b o (lookup (same_feature g) old)) is))
    | inr off ↦ inr (
      λ h. false≢true (sym off ∙ ap (same_feature f) (sym h) ∙ same_self f),
      ap members_of (set g ∙ ap (λ b. cond b o (lookup (same_feature g) old)) off),
    )
  ]

  module _ (s : List Prefix) (was : holders old f ≡ s) where
    before : (g : Feature) (q : Prefix) → f ≡ g → IsFound old g q → Contains s q
    before g q is c = subst (λ l. Contains l q) (ap (holders old) (sym is) ∙ was) c

    there : (g : Feature) (q : Prefix) → f ≡ g → Contains s q → IsFound old g q
    there g q is c = subst (λ l. Contains l q) (sym was ∙ ap (holders old) is) c

    pub puts_in : (e : Prefix) → ((q : Prefix) → Contains (members_of o) q ↔ Contains s q ⊎ (q ≡ e)) → Puts old new f e
    puts_in e is g q = elim (moved g) [
      | inl h ↦ (
        λ c. elim ((is q).0 (subst (λ l. Contains l q) h.1 c)) [ inl k ↦ inl (there g q h.0 k) | inr own ↦ inr (own, h.0) ],
        λ d. subst (λ l. Contains l q) (sym h.1) ((is q).1 (elim d [ inl k ↦ inl (before g q h.0 k) | inr k ↦ inr k.0 ])),
      )
      | inr h ↦ (
        λ c. inl (subst (λ l. Contains l q) h.1 c),
        λ d. elim d [ inl k ↦ subst (λ l. Contains l q) (sym h.1) k | inr k ↦ absurd (h.0 k.1) ],
      )
    ]

    pub takes_from : (e : Prefix) → ((q : Prefix) → Contains (members_of o) q ↔ Contains s q × (q ≢ e)) → TakesOut old new f e
    takes_from e is g q = elim (moved g) [
      | inl h ↦ (
        λ c. (let k = (is q).0 (subst (λ l. Contains l q) h.1 c) in (there g q h.0 k.0, λ own. k.1 own.0)),
        λ d. subst (λ l. Contains l q) (sym h.1) ((is q).1 (before g q h.0 d.0, λ own. d.1 (own, h.0))),
      )
      | inr h ↦ (
        λ c. (subst (λ l. Contains l q) h.1 c, λ own. h.0 own.1),
        λ d. subst (λ l. Contains l q) (sym h.1) d.0,
      )
    ]

    pub same_in : members_of o ≡ s → AreSame old new
    same_in is g q = elim (moved g) [
      | inl h ↦ (
        λ c. there g q h.0 (subst (λ l. Contains l q) (h.1 ∙ is) c),
        λ d. subst (λ l. Contains l q) (sym (h.1 ∙ is)) (before g q h.0 d),
      )
      | inr h ↦ (λ c. subst (λ l. Contains l q) h.1 c, λ d. subst (λ l. Contains l q) (sym h.1) d)
    ]

-- where nothing is found by the feature, nothing goes
pub takes_none : (sets : List Holders) (f : Feature) (e : Prefix) → holders sets f ≡ [] → TakesOut sets sets f e
takes_none sets f e none g q = (
  λ c. (c, λ own. Contains-nil q (subst (λ l. Contains l q) (ap (holders sets) (sym own.1) ∙ none) c)),
  λ d. d.0,
)

pub takes_same : (old mid new : List Holders) (f : Feature) (e : Prefix) → TakesOut old mid f e → AreSame mid new → TakesOut old new f e
takes_same old mid new f e out same g q = (λ c. (out g q).0 ((same g q).0 c), λ d. (same g q).1 ((out g q).1 d))

-- features that come
pub notes_none : (sets : List Holders) (e : Prefix) → Notes sets sets e []
notes_none sets e g q = (λ c. inl c, λ d. elim d [ inl c ↦ c | inr k ↦ absurd (Contains-nil g k.1) ])

pub notes_more : (old mid new : List Holders) (e : Prefix) (fs : List Feature) (f : Feature) → Notes old mid e fs → Puts mid new f e
    → Notes old new e (fs ++ f ∷ [])
notes_more old mid new e fs f early put g q = (
  λ c. elim ((put g q).0 c) [
    | inl m ↦ elim ((early g q).0 m) [ inl k ↦ inl k | inr k ↦ inr (k.0, Contains-append_left fs (f ∷ []) g k.1) ]
    | inr k ↦ inr (k.0, Contains-append_right fs (f ∷ []) g (one_in f g k.1))
  ],
  λ d. (put g q).1 (elim d [
    | inl k ↦ inl ((early g q).1 (inl k))
    | inr k ↦ elim (Contains-append_cases fs (f ∷ []) g k.1) [
      | inl first ↦ inl ((early g q).1 (inr (k.0, first)))
      | inr last ↦ inr (k.0, in_one f g last)
    ]
  ]),
)

pub notes_some : (old mid new : List Holders) (e : Prefix) (some fs : List Feature) → ((g : Feature) → Contains some g → Contains fs g)
    → Notes old mid e some → AreSame mid new → NotesSome old new e fs
notes_some old mid new e some fs among early same = record {
  stays = λ g q c. (same g q).1 ((early g q).1 (inl c));
  real = λ g q c. elim ((early g q).0 ((same g q).0 c)) [ inl k ↦ inl k | inr k ↦ inr (k.0, among g k.1) ];
}

-- features that go
pub forgets_none : (sets : List Holders) (e : Prefix) (news : List Feature) → Forgets sets sets e [] news
forgets_none sets e news g q = (λ c. (c, λ gone. Contains-nil g gone.1), λ d. d.0)

module _ (old mid : List Holders) (e : Prefix) (olds news : List Feature) (f : Feature) (early : Forgets old mid e olds news) where
  later : (g : Feature) (q : Prefix) → IsGone e olds news g q → IsGone e (olds ++ f ∷ []) news g q
  later g q gone = (gone.0, Contains-append_left olds (f ∷ []) g gone.1, gone.2)

  pub forgets_kept : Contains news f → Forgets old mid e (olds ++ f ∷ []) news
  forgets_kept there g q = (
    λ c. (let k = (early g q).0 c in (
      k.0,
      λ gone. elim (Contains-append_cases olds (f ∷ []) g gone.1) [
        | inl first ↦ k.1 (gone.0, first, gone.2)
        | inr last ↦ gone.2 (subst (Contains news) (in_one f g last) there)
      ],
    )),
    λ d. (early g q).1 (d.0, λ gone. d.1 (later g q gone)),
  )

  pub forgets_more : (new : List Holders) → (Contains news f → ⊥) → TakesOut mid new f e → Forgets old new e (olds ++ f ∷ []) news
  forgets_more new off out g q = (
    λ c. (let m = (out g q).0 c in let k = (early g q).0 m.0 in (
      k.0,
      λ gone. elim (Contains-append_cases olds (f ∷ []) g gone.1) [
        | inl first ↦ k.1 (gone.0, first, gone.2)
        | inr last ↦ m.1 (gone.0, in_one f g last)
      ],
    )),
    λ d. (out g q).1 (
      (early g q).1 (d.0, λ gone. d.1 (later g q gone)),
      λ own. d.1 (own.0, Contains-append_right olds (f ∷ []) g (one_in f g own.1), λ n. off (subst (Contains news) (sym own.1) n)),
    ),
  )
