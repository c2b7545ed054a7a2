-- What a plan's steps leave of a row, and what they give it.
use Rattle.std.proofs.Common.{◌≡◌, ◌≢◌, ◌⊎◌, ◌↔◌, List, [], ◌∷◌, map, inl, inr, refl, sym, ◌∙◌, ap, ap₂, subst, if◌then◌else◌}
use Rattle.std.specs.Prelude.{Contains}
use Rattle.std.specs.List.{AllZip}
use Rattle.std.proofs.lemmas.Bool.{false≢true}
use Rattle.std.proofs.lemmas.List.Elements.{Contains-append_left, Contains-append_right, Contains-append_cases}
use Rattle.fib_base_list.proofs.Lists.{either, Contains-nil}
use Rattle.fib_addr.specs.Prefixes.{Prefix, same_prefix}
use Rattle.fib_addr.proofs.PrefixLaws.{same_prefix-Decides}
use Rattle.fib_reach.specs.Walks.{AllDiffer}
use Rattle.fib_resolve_changes.proofs.Edits.{in_cases, in_front, in_rest}
use Rattle.fib_entries_rows.specs.Rows.{Row}
use Rattle.fib_entries_rows.specs.inner.Coming.{with_pairs}
use Rattle.fib_entries_rows.specs.inner.Leaf.{pushed}
use Rattle.fib_follow_told.proofs.Gathering.{append_differ, head_differs, only}
use Rattle.fib_follow_write.specs.Written.{changed, led, leads, marked, sourced, upon, with_marks}
use Rattle.fib_follow_write.specs.declared.plan.Edge.{Edge}
use Rattle.fib_follow_write.specs.declared.plan.Marks.{Marks}
use Rattle.fib_follow_write.specs.declared.plan.Sourced.{Sourced}
use Rattle.fib_follow_write.proofs.Joining.{changed_field, upon_field}
use Rattle.fib_follow_write.proofs.Upon.{led_prefix, upon_off, upon_own, upon_prefix}

-- fields that no change has

pub marked_keep : {Y : Type 0} (get : Row → Y) → ((m : Marks) (r : Row) → get (with_marks m r) ≡ get r) → (ms : List Marks) (r : Row)
    → get (changed marked ms r) ≡ get r
marked_keep get same ms r = changed_field marked get (λ m q. upon_field m.prefix (with_marks m) get (same m) q) ms r

pub sourced_keep : {Y : Type 0} (get : Row → Y) → ((s : Sourced) (r : Row) → get (with_pairs s.pairs r) ≡ get r) → (ss : List Sourced) (r : Row)
    → get (changed sourced ss r) ≡ get r
sourced_keep get same ss r = changed_field sourced get (λ s q. upon_field s.prefix (with_pairs s.pairs) get (same s) q) ss r

-- changes of named rows
module _ {X : Type 0} (name : X → Prefix) (f : X → Row → Row) (keeps : (x : X) (r : Row) → (f x r).prefix ≡ r.prefix) where
  abbrev step : X → Row → Row
  step x r = upon (name x) (f x) r

  -- off all names the row stays
  pub changed_off : (xs : List X) (r : Row) → (Contains (map name xs) r.prefix → ⊥) → changed step xs r ≡ r
  changed_off [] r off = refl
  changed_off (x ∷ xs) r off =
      ap (changed step xs) (upon_off (name x) (f x) r (λ is. off (in_front (name x) r.prefix (map name xs) is)))
      ∙ changed_off xs r (λ c. off (in_rest (name x) r.prefix (map name xs) c))

  -- the change of that name is made
  pub changed_own : {Y : Type 0} (get : Row → Y) (of : X → Y) → ((x : X) (r : Row) → get (f x r) ≡ of x) → (xs : List X) (r : Row) (x : X)
      → AllDiffer (map name xs) → Contains xs x → name x ≡ r.prefix → get (changed step xs r) ≡ of x
  changed_own get of gives [] r x once c own = absurd (Contains-nil x c)
  changed_own get of gives (y ∷ ys) r x once c own =
      let stays : (step y r).prefix ≡ r.prefix = upon_prefix (name y) (f y) (keeps y) r in
      elim (in_cases y x ys c) [
        | inl is ↦ (let at : name y ≡ r.prefix = ap name is ∙ own in
            ap get (changed_off ys (step y r) (λ d. head_differs (name y) (map name ys) once.0 (step y r).prefix d (at ∙ sym stays)))
            ∙ (ap get (upon_own (name y) (f y) r at) ∙ (gives y r ∙ ap of is)))
        | inr later ↦ changed_own get of gives ys (step y r) x once.1 later (own ∙ sym stays)
      ]

-- edges that come
same_edge : (e : Edge) (d p : Prefix) → e.from ≡ d → e.to ≡ p → e ≡ record { from = d; to = p }
same_edge e d p x y = ap₂ (λ (a b : Prefix). record { from = a; to = b }) x y

led_one : (e : Edge) (r : Row) (d : Prefix) → Contains (led e r).dependants d ↔ Contains r.dependants d ⊎ (e ≡ record { from = d; to = r.prefix })
led_one e r d = elim (either (same_prefix e.to r.prefix)) [
  | inl is ↦ (let own = (same_prefix-Decides e.to r.prefix).0 is in let made = upon_own e.to (pushed e.from) r own in (
    λ c. elim (Contains-append_cases r.dependants (e.from ∷ []) d (subst (λ (z : Row). Contains z.dependants d) made c)) [
      | inl was ↦ inl was
      | inr new ↦ inr (same_edge e d r.prefix (only e.from d new) own)
    ],
    λ k. subst (λ (z : Row). Contains z.dependants d) (sym made) (elim k [
      | inl was ↦ Contains-append_left r.dependants (e.from ∷ []) d was
      | inr it ↦ Contains-append_right r.dependants (e.from ∷ []) d (in_front e.from d [] (ap (λ (z : Edge). z.from) it))
    ]),
  ))
  | inr isnt ↦ (let off : e.to ≢ r.prefix = λ own. false≢true (sym isnt ∙ (same_prefix-Decides e.to r.prefix).1 own) in
      let made = upon_off e.to (pushed e.from) r off in (
        λ c. inl (subst (λ (z : Row). Contains z.dependants d) made c),
        λ k. subst (λ (z : Row). Contains z.dependants d) (sym made) (elim k [
          | inl was ↦ was
          | inr it ↦ absurd (off (ap (λ (z : Edge). z.to) it))
        ]),
      ))
]

-- the dependants are those of before and those that the edges lead from
pub led_all : (es : List Edge) (r : Row) (d : Prefix) → Contains (changed led es r).dependants d ↔ Contains r.dependants d ⊎ leads es d r.prefix
led_all [] r d = (λ c. inl c, λ k. elim k [ inl c ↦ c | inr none ↦ absurd (Contains-nil (record { from = d; to = r.prefix }) none) ])
led_all (e ∷ es) r d =
    let all = led_all es (led e r) d in
    let one = led_one e r d in
    let edge : Edge = record { from = d; to = r.prefix } in (
      λ c. elim (all.0 c) [
        | inl c ↦ elim (one.0 c) [ inl was ↦ inl was | inr it ↦ inr (in_front e edge es it) ]
        | inr later ↦ inr (in_rest e edge es (subst (λ q. leads es d q) (led_prefix e r) later))
      ],
      λ k. all.1 (elim k [
        | inl was ↦ inl (one.1 (inl was))
        | inr new ↦ elim (in_cases e edge es new) [
          | inl it ↦ inl (one.1 (inr it))
          | inr later ↦ inr (subst (λ q. leads es d q) (sym (led_prefix e r)) later)
        ]
      ]),
    )

-- each stays once
pub led_once : (es : List Edge) (r : Row) → AllDiffer es → AllDiffer r.dependants
    → ((e : Edge) → Contains es e → e.to ≡ r.prefix → Contains r.dependants e.from → ⊥) → AllDiffer (changed led es r).dependants
led_once [] r once differ absent = differ
led_once (e ∷ es) r once differ absent = led_once es (led e r) once.1 differs later
  where
    differs : AllDiffer (led e r).dependants
    differs = elim (either (same_prefix e.to r.prefix)) [
      | inl is ↦ (let own = (same_prefix-Decides e.to r.prefix).0 is in
          subst (λ (z : Row). AllDiffer z.dependants) (sym (upon_own e.to (pushed e.from) r own))
          (append_differ r.dependants (e.from ∷ []) differ (tt, tt)
          (λ d c one. absent e (in_front e e es refl) own (subst (Contains r.dependants) (sym (only e.from d one)) c))))
      | inr isnt ↦ subst (λ (z : Row). AllDiffer z.dependants)
          (sym (upon_off e.to (pushed e.from) r (λ own. false≢true (sym isnt ∙ (same_prefix-Decides e.to r.prefix).1 own)))) differ
    ]

    later : (g : Edge) → Contains es g → g.to ≡ (led e r).prefix → Contains (led e r).dependants g.from → ⊥
    later g c to d =
        let own : g.to ≡ r.prefix = to ∙ led_prefix e r in
        elim ((led_one e r g.from).0 d) [
          | inl was ↦ absent g (in_rest e g es c) own was
          | inr it ↦ head_differs e es once.0 g c (it ∙ sym (same_edge g g.from r.prefix refl own))
        ]

-- what stands in one of two lists that go side by side
pub zip_to : {X Y : Type 0} (P : X → Y → Type 0) (xs : List X) (ys : List Y) → AllZip P xs ys → (x : X) → Contains xs x
    → (y : Y) × Contains ys y × P x y
zip_to P [] ys a x c = absurd (Contains-nil x c)
zip_to P (z ∷ xs) [] a x c = absurd a
zip_to P (z ∷ xs) (y ∷ ys) a x c = elim (in_cases z x xs c) [
  | inl is ↦ (y, in_front y y ys refl, subst (λ w. P w y) is a.0)
  | inr later ↦ (let r = zip_to P xs ys a.1 x later in (r.0, in_rest y r.0 ys r.1, r.2))
]

pub zip_back : {X Y : Type 0} (P : X → Y → Type 0) (xs : List X) (ys : List Y) → AllZip P xs ys → (y : Y) → Contains ys y
    → (x : X) × Contains xs x × P x y
zip_back P xs [] a y c = absurd (Contains-nil y c)
zip_back P [] (z ∷ ys) a y c = absurd a
zip_back P (x ∷ xs) (z ∷ ys) a y c = elim (in_cases z y ys c) [
  | inl is ↦ (x, in_front x x xs refl, subst (λ w. P x w) is a.0)
  | inr later ↦ (let r = zip_back P xs ys a.1 y later in (r.0, in_rest x r.0 xs r.1, r.2))
]
