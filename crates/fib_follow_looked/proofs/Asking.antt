-- Whose hosts are to be found.
use Rattle.std.proofs.Common.{◌≡◌, ℕ, ◌+◌, ◌≤◌, List, [], ◌∷◌, ◌++◌, map, take, Option, Some, None, ◌⊎◌, inl, inr, refl, sym, ◌∙◌, ap, subst, ◌↔◌}
use Rattle.std.proofs.Common.{slice_get}
use Rattle.std.specs.Prelude.{Contains, option_map, option_to_list}
use Rattle.std.proofs.lemmas.List.Elements.{Contains-append_left, Contains-append_right, Contains-append_cases}
use Rattle.fib_base_list.proofs.Lists.{Contains-nil}
use Rattle.fib_base_interned.proofs.Finding.{none_some, some_is}
use Rattle.fib_addr.specs.Prefixes.{Prefix}
use Rattle.fib_cover.specs.Covers.{IsLongestMatch}
use Rattle.fib_resolve.specs.declared.types.Tables.{Tables}
use Rattle.fib_resolve_changes.specs.Looked.{IsAbove}
use Rattle.fib_resolve_changes.proofs.Edits.{in_cases, in_front}
use Rattle.fib_entries_rows.specs.Known.{Known, StandsFor, prefix_of}
use Rattle.fib_follow_looked.specs.Looks.{AreAsks, AreTurns, IsAsk, IsTurn}
use Rattle.fib_follow_looked.specs.declared.ask.Ask.{Ask}
use Rattle.fib_follow_looked.specs.declared.ask.Ask.TheVariants as asked
use Rattle.fib_follow_looked.specs.declared.shorts.Turn.{Turn}
use Rattle.fib_follow_looked.specs.declared.shorts.Turn.TheVariants as turns
use Rattle.fib_follow_looked.specs.declared.shorts.Turned.{Turned}
use Rattle.fib_follow_looked.specs.inner.Turning.{subject}
use Rattle.fib_follow_looked.proofs.Above.{above_is}
use Rattle.fib_follow_looked.proofs.Turning.{row_short, rows_good, take_in, turned_with}

abbrev pub inside_of : Prefix → Option Prefix → Option Ask
inside_of q cover = option_map (λ c. asked.Inside c q) cover

module _ (S T : Tables) (q : Prefix) where
  abbrev pub Tells : Option Ask → Type 0
  Tells o = (x : Ask) → (o ≡ Some x) ↔ IsAsk S T x × (subject x ≡ q)

  inside_to : (r : Option Prefix) → ((c : Prefix) → r ≡ Some c → IsAbove S q c) → IsTurn S T q turns.Comes → (x : Ask) → inside_of q r ≡ Some x
      → IsAsk S T x × (subject x ≡ q)
  inside_to None above h x e = absurd (none_some x e)
  inside_to (Some c) above h x e = subst (λ z. IsAsk S T z × (subject z ≡ q)) (some_is (asked.Inside c q) x e) ((h, above c refl), refl)

  inside_from : (r : Option Prefix) → ((c : Prefix) → IsAbove S q c → r ≡ Some c) → IsTurn S T q turns.Comes → (x : Ask) → IsAsk S T x → subject x ≡ q
      → inside_of q r ≡ Some x
  inside_from r above h (asked.Under p) is on = absurd (elim is [
    | inl goes ↦ h.1 (subst (λ z. IsTurn S T z turns.Goes) on goes).0
    | inr other ↦ h.1 (subst (λ z. IsTurn S T z turns.Attaches) on other).0
  ])
  inside_from r above h (asked.Inside c p) is on =
      ap (inside_of q) (above c (subst (λ z. IsAbove S z c) on is.1)) ∙ ap (λ z. Some (asked.Inside c z)) (sym on)

  -- for one that goes or attaches otherwise
  pub under_is : IsTurn S T q turns.Goes ⊎ IsTurn S T q turns.Attaches → Tells (Some (asked.Under q))
  under_is h x = (λ e. subst (λ z. IsAsk S T z × (subject z ≡ q)) (some_is (asked.Under q) x e) (h, refl), λ r. back x r.0 r.1)
    where
      back : (x : Ask) → IsAsk S T x → subject x ≡ q → Some (asked.Under q) ≡ Some x
      back (asked.Under p) is on = ap (λ z. Some (asked.Under z)) (sym on)
      back (asked.Inside c p) is on = absurd (elim h [
        | inl goes ↦ (subst (λ z. IsTurn S T z turns.Comes) on is.0).1 goes.0
        | inr other ↦ (subst (λ z. IsTurn S T z turns.Comes) on is.0).1 other.0
      ])

-- for one that comes
pub inside_is : (v : Known) (S T : Tables) (k : StandsFor v S) (q : Prefix) (order : List Prefix) (r : Option Prefix) → q.len ≤ 32
    → order ≡ map prefix_of v.rows
    → IsLongestMatch order q.len q.bits r → IsTurn S T q turns.Comes → Tells S T q (inside_of q r)
inside_is v S T k q order r le is m h =
    let above = above_is S (map prefix_of v.rows) q (rows_good v S k) le (row_short v S k) r (subst (λ l. IsLongestMatch l q.len q.bits r) is m) in
    λ x. (inside_to S T q r (λ c e. (above c).0 e) h x, λ t. inside_from S T q r (λ c a. (above c).1 a) h x t.0 t.1)

abbrev HasSubject : List Turned → Ask → Type 0
HasSubject first x = (t : Turned) × Contains first t × (subject x ≡ t.prefix)

-- the asks of the first that turn
abbrev pub AsksAmong : Tables → Tables → List Turned → List Ask → Type 0
AsksAmong S T first out = (x : Ask) → Contains out x ↔ IsAsk S T x × HasSubject first x

pub asks_none : (S T : Tables) (xs : List Turned) → AsksAmong S T (take 0 xs) []
asks_none S T [] x = (λ c. absurd (Contains-nil x c), λ h. absurd (Contains-nil h.1.0 h.1.1))
asks_none S T (y ∷ ys) x = (λ c. absurd (Contains-nil x c), λ h. absurd (Contains-nil h.1.0 h.1.1))

option_in : (o : Option Ask) (x : Ask) → Contains (option_to_list o) x ↔ (o ≡ Some x)
option_in None x = (λ c. absurd (Contains-nil x c), λ e. absurd (none_some x e))
option_in (Some y) x = (
  λ c. elim (in_cases y x [] c) [ inl is ↦ ap Some is | inr none ↦ absurd (Contains-nil x none) ],
  λ e. in_front y x [] (some_is y x e),
)

pub asks_step : (S T : Tables) (xs : List Turned) (k : ℕ) (t : Turned) (o : Option Ask) (old new : List Ask) → slice_get xs k ≡ Some t
    → AsksAmong S T (take k xs) old → Tells S T t.prefix o → new ≡ old ++ option_to_list o → AsksAmong S T (take (k + 1) xs) new
asks_step S T xs k t o old new here before tells is x = (
  λ c. elim (Contains-append_cases old (option_to_list o) x (subst (λ l. Contains l x) is c)) [
    | inl early ↦ (let r = (before x).0 early in (r.0, (r.1.0, (take_in xs k t r.1.0 here).1 (inl r.1.1), r.1.2)))
    | inr late ↦ (let r = (tells x).0 ((option_in o x).0 late) in (r.0, (t, (take_in xs k t t here).1 (inr refl), r.1)))
  ],
  λ h. subst (λ l. Contains l x) (sym is) (elim ((take_in xs k t h.1.0 here).0 h.1.1) [
    | inl early ↦ Contains-append_left old (option_to_list o) x ((before x).1 (h.0, (h.1.0, early, h.1.2)))
    | inr same ↦ Contains-append_right old (option_to_list o) x ((option_in o x).1 ((tells x).1 (h.0, h.1.2 ∙ ap (λ z. z.prefix) (sym same))))
  ]),
)

pub asks_whole : (S T : Tables) (xs : List Turned) (out : List Ask) → AreTurns S T xs → AsksAmong S T xs out → AreAsks S T out
asks_whole S T xs out are among x = (λ c. ((among x).0 c).0, λ h. (among x).1 (h, has x h))
  where
    of_turn : (q : Prefix) (t : Turn) → IsTurn S T q t → (z : Turned) × Contains xs z × (q ≡ z.prefix)
    of_turn q t h = (turned_with q t, (are (turned_with q t)).1 h, refl)

    has : (x : Ask) → IsAsk S T x → HasSubject xs x
    has (asked.Under q) (inl goes) = of_turn q turns.Goes goes
    has (asked.Under q) (inr other) = of_turn q turns.Attaches other
    has (asked.Inside c q) h = of_turn q turns.Comes h.0
