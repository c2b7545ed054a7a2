-- Sets of prefixes that grow.
use Rattle.std.proofs.Common.{◌≡◌, ℕ, ◌+◌, ◌-◌, ◌≤◌, Bool, true, false, ◌||◌, List, [], ◌∷◌, length, filter, take, get_or, Option, Some}
use Rattle.std.proofs.Common.{◌⊎◌, inl, inr, refl, sym, ◌∙◌, ap, subst, ◌↔◌, slice_get}
use Rattle.std.specs.Prelude.{Contains, unwrap_or}
use Rattle.std.specs.List.{list_any}
use Rattle.std.specs.Set.{is_member}
use Rattle.std.proofs.lemmas.Bool.{false≢true}
use Rattle.std.proofs.lemmas.Bool.Decides.{Decides-eqb}
use Rattle.std.proofs.lemmas.List.Folds.{list_any_more}
use Rattle.std.proofs.lemmas.Map.Views.{Contains-from_any}
use Rattle.std.proofs.lemmas.Option.{slice_get_within, unwrap_or-slice_get}
use Rattle.fib_base_list.proofs.Booleans.{or_cases, or_left, or_right}
use Rattle.fib_addr.specs.Prefixes.{Prefix, contains, host, masked, same_prefix, size_of}
use Rattle.fib_addr.proofs.PrefixLaws.{same_prefix-Decides}
use Rattle.fib_cover.proofs.Sets.{take_whole}
use Rattle.fib_resolve.specs.Edits.{paths_at}
use Rattle.fib_resolve.specs.declared.types.Address.{Address}
use Rattle.fib_resolve.specs.declared.types.FibSource.{FibSource}
use Rattle.fib_resolve.specs.declared.types.Path.{Path}
use Rattle.fib_resolve.specs.declared.types.Tables.{Tables}
use Rattle.fib_resolve.specs.declared.types.Neighbor.{Neighbor}
use Rattle.fib_resolve_changes.specs.Affected.{is_own, own_prefixes}
use Rattle.fib_resolve_changes.specs.declared.change.Change.{Change}
use Rattle.fib_resolve_changes.specs.declared.change.Change.TheVariants as changes
use Rattle.fib_resolve_changes.proofs.Edits.{any_in}
use Rattle.fib_entries_rows.specs.Known.{Known}
use Rattle.fib_follow_looked.specs.declared.shorts.Turn.{Turn}
use Rattle.fib_follow_looked.specs.declared.shorts.Turned.{Turned}
use Rattle.fib_follow_looked.specs.inner.Adding.{Adds, AddsEach, AddsMore}
use Rattle.fib_follow_looked.specs.inner.Naming.{are_hops, is_hop, leads, names}
use Rattle.fib_follow_looked.specs.inner.Turning.{is_near, is_turn, near_inside, turn_rank}

pub member_is : (xs : List Prefix) (q : Prefix) → Contains xs q → is_member same_prefix xs q ≡ true
member_is xs q c = any_in (same_prefix q) xs q c ((same_prefix-Decides q q).1 refl)

pub is_member_in : (xs : List Prefix) (q : Prefix) → is_member same_prefix xs q ≡ true → Contains xs q
is_member_in xs q h = Contains-from_any (λ x y. (same_prefix-Decides x y).0) q xs h

pub adds_one : (old new : List Prefix) (e : Prefix) → ((q : Prefix) → Contains new q ↔ Contains old q ⊎ (q ≡ e)) → Adds (λ q. same_prefix q e) old new
adds_one old new e h q = (
  λ c. elim ((h q).0 c) [ inl there ↦ inl there | inr is ↦ inr ((same_prefix-Decides q e).1 is) ],
  λ c. (h q).1 (elim c [ inl there ↦ inl there | inr is ↦ inr ((same_prefix-Decides q e).0 is) ]),
)

pub adds_same : (set : List Prefix) → Adds (λ q. false) set set
adds_same set q = (λ c. inl c, λ c. elim c [ inl there ↦ there | inr bad ↦ absurd (false≢true bad) ])

pub adds_two : (f g : Prefix → Bool) (old mid new : List Prefix) → Adds f old mid → Adds g mid new → Adds (λ q. f q || g q) old new
adds_two f g old mid new h k q = (
  λ c. elim ((k q).0 c) [
    | inl early ↦ elim ((h q).0 early) [ inl there ↦ inl there | inr is ↦ inr (or_left (f q) (g q) is) ]
    | inr is ↦ inr (or_right (f q) (g q) is)
  ],
  λ c. (k q).1 (elim c [
    | inl there ↦ inl ((h q).1 (inl there))
    | inr is ↦ elim (or_cases (f q) (g q) is) [ inl first ↦ inl ((h q).1 (inr first)) | inr second ↦ inr second ]
  ]),
)

pub adds_more : (f : Prefix → Bool) (old new : List Prefix) → Adds f old new → AddsMore old new
adds_more f old new h q c = (h q).1 (inl c)

module _ {X : Type 0} (f : X → Prefix → Bool) where
  pub adds_none : (xs : List X) (set : List Prefix) → AddsEach f (take 0 xs) set set
  adds_none [] set = adds_same set
  adds_none (x ∷ xs) set = adds_same set

  pub adds_step : (xs : List X) (k : ℕ) (x : X) (first old new : List Prefix) → slice_get xs k ≡ Some x → AddsEach f (take k xs) first old
      → Adds (f x) old new → AddsEach f (take (k + 1) xs) first new
  adds_step xs k x first old new here before more q =
      let is : get_or xs k x ≡ x = sym (unwrap_or-slice_get xs k x) ∙ ap (λ o. unwrap_or o x) here in
      let among = list_any (λ y. f y q) (take k xs) in
      let step : list_any (λ y. f y q) (take (k + 1) xs) ≡ (among || f x q) =
      list_any_more (λ y. f y q) xs k x (slice_get_within xs k x here) ∙ ap (λ z. among || f z q) is in
      let two = adds_two (λ p. list_any (λ y. f y p) (take k xs)) (f x) first old new before more q in (
        λ c. elim (two.0 c) [ inl there ↦ inl there | inr now ↦ inr (step ∙ now) ],
        λ c. two.1 (elim c [ inl there ↦ inl there | inr now ↦ inr (sym step ∙ now) ]),
      )

  pub adds_whole : (xs : List X) (k : ℕ) (first new : List Prefix) → length xs ≤ k → AddsEach f (take k xs) first new → AddsEach f xs first new
  adds_whole xs k first new le h = subst (λ l. AddsEach f l first new) (take_whole xs k le) h

-- the same by another test
pub adds_like : (f g : Prefix → Bool) (old new : List Prefix) → ((q : Prefix) → f q ≡ g q) → Adds f old new → Adds g old new
adds_like f g old new same h q = (
  λ c. elim ((h q).0 c) [ inl there ↦ inl there | inr is ↦ inr (sym (same q) ∙ is) ],
  λ c. (h q).1 (elim c [ inl there ↦ inl there | inr is ↦ inr (same q ∙ is) ]),
)

pub hop_one : (hop : Option ℕ) (a : ℕ) (e : Prefix) (old new : List Prefix) → hop ≡ Some a → e ≡ host a → Adds (λ q. same_prefix q e) old new
    → Adds (is_hop hop) old new
hop_one hop a e old new some is h = adds_like (λ q. same_prefix q e) (is_hop hop) old new (λ q. ap (same_prefix q) is ∙ ap (λ o. is_hop o q) (sym some)) h

pub near_one : (i : ℕ) (n : Neighbor) (e : Prefix) (old new : List Prefix) → n.interface ≡ i → e ≡ host n.addr
    → Adds (λ q. same_prefix q e) old new → Adds (is_near i n) old new
near_one i n e old new on is h = adds_like (λ q. same_prefix q e) (is_near i n) old new
    (λ q. ap (same_prefix q) is ∙ sym (rw ((Decides-eqb n.interface i).1 on) refl)) h

pub turn_one : (how : Turn) (x : Turned) (old new : List Prefix) → turn_rank x.how ≡ turn_rank how → Adds (λ q. same_prefix q x.prefix) old new
    → Adds (is_turn how x) old new
turn_one how x old new on h = adds_like (λ q. same_prefix q x.prefix) (is_turn how x) old new
    (λ q. sym (rw ((Decides-eqb (turn_rank x.how) (turn_rank how)).1 on) refl)) h

four : {X : Type 0} (a b c d e f g h : X) → a ≡ e → b ≡ f → c ≡ g → d ≡ h → a ∷ b ∷ c ∷ d ∷ [] ≡ e ∷ f ∷ g ∷ h ∷ []
four a b c d e f g h p q r s =
    ap (λ z. z ∷ b ∷ c ∷ d ∷ []) p ∙ (ap (λ z. e ∷ z ∷ c ∷ d ∷ []) q ∙ (ap (λ z. e ∷ f ∷ z ∷ d ∷ []) r ∙ ap (λ z. e ∷ f ∷ g ∷ z ∷ []) s))

own_is : (a : Address) (near p q r : Prefix) (b l : ℕ) → near ≡ masked a.addr a.len → p ≡ host a.addr → q ≡ host b → b ≡ near.bits → r ≡ host l
    → l ≡ near.bits + size_of near.len - 1 → near ∷ p ∷ q ∷ r ∷ [] ≡ own_prefixes a
own_is a near p q r b l first second third lowest fourth highest = four near p q r _ _ _ _ first second (third ∙ ap host (lowest ∙ ap (λ z. z.bits) first))
    (fourth ∙ ap host (highest ∙ ap (λ z. z.bits + size_of z.len - 1) first))

pub own_all : (a : Address) (near p q r : Prefix) (b l : ℕ) (xs old new : List Prefix) → near ≡ masked a.addr a.len → p ≡ host a.addr → q ≡ host b
    → b ≡ near.bits → r ≡ host l → l ≡ near.bits + size_of near.len - 1 → xs ≡ near ∷ p ∷ q ∷ r ∷ [] → Adds (is_member same_prefix xs) old new
    → Adds (is_own a) old new
own_all a near p q r b l xs old new first second third lowest fourth highest is h =
    subst (λ l. Adds (is_member same_prefix l) old new) (is ∙ own_is a near p q r b l first second third lowest fourth highest) h

pub led_one : (T : Tables) (p : Prefix) (s : FibSource) (ps : List Path) (change : Change) (old new : List Prefix) → change ≡ changes.Route p s
    → ps ≡ paths_at p s T.routes → Adds (are_hops ps) old new → Adds (leads T change) old new
led_one T p s ps change old new at is h =
    adds_like (are_hops ps) (leads T change) old new (λ q. ap (λ l. are_hops l q) is ∙ ap (λ z. leads T z q) (sym at)) h

pub names_like : (v : Known) (T : Tables) (change other : Change) (f : Prefix → Bool) (old new : List Prefix) → change ≡ other
    → ((q : Prefix) → f q ≡ names v T other q) → Adds f old new → Adds (names v T change) old new
names_like v T change other f old new at is h = adds_like f (names v T change) old new (λ q. is q ∙ ap (λ z. names v T z q) (sym at)) h

pub adds_route : (f g h : Prefix → Bool) (old one two new : List Prefix) → Adds f old one → Adds g one two → Adds h two new
    → Adds (λ q. f q || (g q || h q)) old new
adds_route f g h old one two new a b c = adds_two f (λ q. g q || h q) old one new a (adds_two g h one two new b c)

pub inside_one : (T : Tables) (p : Prefix) (attached : Option ℕ) (i : ℕ) (ns : List Neighbor) (old new : List Prefix) → attached ≡ Some i
    → ns ≡ filter (λ n. contains p n.addr) T.neighbors → AddsEach (is_near i) ns old new → Adds (near_inside T p attached) old new
inside_one T p attached i ns old new at is h =
    adds_like (λ q. list_any (λ n. is_near i n q) ns) (near_inside T p attached) old new
    (λ q. ap (list_any (λ n. is_near i n q)) is ∙ ap (λ o. near_inside T p o q) (sym at)) h
