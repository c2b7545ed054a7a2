-- Which prefixes that can cover turn: those that changes name alone.
use Rattle.std.proofs.Common.{arith, ◌≡◌, ℕ, ◌+◌, ◌<◌, ◌≤◌, ◌==◌, Bool, true, false, List, [], ◌∷◌, ◌++◌, map, take, get_or}
use Rattle.std.proofs.Common.{Option, Some, None, ◌⊎◌, inl, inr, refl, sym, ◌∙◌, ap, ap₂, subst, ◌↔◌, slice_get}
use Rattle.std.specs.Prelude.{Contains, unwrap_or}
use Rattle.std.specs.Set.{is_member}
use Rattle.std.proofs.lemmas.Bool.{false≢true, ltb-true}
use Rattle.std.proofs.lemmas.Bool.Decides.{Decides-eqb}
use Rattle.std.proofs.lemmas.List.Elements.{Contains-append_left, Contains-append_right, Contains-append_cases}
use Rattle.std.proofs.lemmas.Map.Views.{Contains-from_any}
use Rattle.std.proofs.lemmas.Option.{slice_get_within, unwrap_or-slice_get}
use Rattle.fib_base_list.proofs.Lists.{either, Contains-nil}
use Rattle.fib_base_list.proofs.Booleans.{and_both}
use Rattle.fib_base_interned.proofs.Finding.{none_some, some_is}
use Rattle.fib_addr.specs.Prefixes.{Prefix, IsPrefix, same_prefix}
use Rattle.fib_addr.proofs.PrefixLaws.{same_prefix-Decides}
use Rattle.fib_resolve.specs.Pairs.{attached_of, base_pairs, best_pair, chosen, entries, pairs, short_prefixes}
use Rattle.fib_resolve.specs.Tables.{IsSound}
use Rattle.fib_resolve.specs.declared.pairs.Pair.{Pair}
use Rattle.fib_resolve.specs.declared.types.Path.{Path}
use Rattle.fib_resolve.specs.declared.types.Tables.{Tables}
use Rattle.fib_resolve.proofs.Entries.{is_entry}
use Rattle.fib_resolve.proofs.OneList.{one_list}
use Rattle.fib_resolve.proofs.Touching.{best_of, best_paths_same}
use Rattle.fib_resolve_changes.specs.Differ.{Differ}
use Rattle.fib_resolve_changes.specs.Looked.{attached_at}
use Rattle.fib_resolve_changes.specs.Named.{own_in}
use Rattle.fib_resolve_changes.specs.Ranks.{has_entry}
use Rattle.fib_resolve_changes.specs.Sources.{ArePrefixes}
use Rattle.fib_resolve_changes.specs.declared.change.Change.{Change}
use Rattle.fib_resolve_changes.proofs.CauseLaws.{any_from}
use Rattle.fib_resolve_changes.proofs.Covers.{short_from}
use Rattle.fib_resolve_changes.proofs.Edits.{in_cases, in_front, any_in}
use Rattle.fib_resolve_changes.proofs.Named.{base_named}
use Rattle.fib_resolve_changes.proofs.SamePairs.{from_origin, base, map_from}
use Rattle.fib_resolve_changes.proofs.Targets.{pair_entry}
use Rattle.fib_entries_rows.specs.Known.{Known, StandsFor, prefix_of}
use Rattle.fib_entries_rows.proofs.Anew.{take_more}
use Rattle.fib_entries_rows.proofs.Apart.{short_pair}
use Rattle.fib_follow_pairs.specs.Fresh.{IsFresh, prefix_in}
use Rattle.fib_follow_pairs.specs.declared.fresh.Fresh.{Fresh}
use Rattle.fib_follow_pairs.specs.declared.fresh.Fresh.TheVariants as made
use Rattle.fib_follow_pairs.proofs.Hosted.{attached_chosen}
use Rattle.fib_follow_looked.specs.Looks.{AreNamed, AreShorts, AreTurns, IsBefore, IsTurn}
use Rattle.fib_follow_looked.specs.declared.named.Named.{Named}
use Rattle.fib_follow_looked.specs.declared.shorts.Shorts.{Shorts}
use Rattle.fib_follow_looked.specs.declared.shorts.Turn.{Turn}
use Rattle.fib_follow_looked.specs.declared.shorts.Turn.TheVariants as turns
use Rattle.fib_follow_looked.specs.declared.shorts.Turned.{Turned}
use Rattle.fib_follow_looked.specs.inner.Adding.{AddsEach}
use Rattle.fib_follow_looked.specs.inner.Turning.{is_made, is_turn, same_interface, turn_by, turn_rank, turned_at}

-- one that can cover is an entry
pub short_entry : (S : Tables) (q : Prefix) → q.len < 32 → Contains (short_prefixes S) q ↔ (has_entry S q ≡ true)
short_entry S q short = (
  λ c. (let r = short_from S q c in pair_entry S r.0 q (from_origin S r.0 (base r.1)) r.2),
  λ is. (let r = any_from (λ x. same_prefix q x.prefix) (pairs S) (sym (is_entry S q) ∙ is) in
      let on = (same_prefix-Decides q r.0.prefix).0 r.2 in
      subst (Contains (short_prefixes S)) (sym on) (short_pair S S r.0 r.1 (subst (λ z. z.len < 32) on short) (λ c. c))),
)

pub is_short_there : (S : Tables) (q : Prefix) → Contains (short_prefixes S) q → q.len < 32
is_short_there S q c = ltb-true q.len 32 (short_from S q c).3

pub decide_short : (S : Tables) (q : Prefix) → Contains (short_prefixes S) q ⊎ (Contains (short_prefixes S) q → ⊥)
decide_short S q = elim (either (is_member same_prefix (short_prefixes S) q)) [
  | inl is ↦ inl (Contains-from_any (λ x y. (same_prefix-Decides x y).0) q (short_prefixes S) is)
  | inr isnt ↦ inr (λ c. false≢true (sym isnt ∙ any_in (same_prefix q) (short_prefixes S) q c ((same_prefix-Decides q q).1 refl)))
]

-- the entries before that can cover, by rows
module _ (v : Known) (S : Tables) (k : StandsFor v S) where
  pub row_short : (q : Prefix) → q.len < 32 → Contains (map prefix_of v.rows) q ↔ Contains (short_prefixes S) q
  row_short q short = (
    λ c. (short_entry S q short).1 (any_in (same_prefix q) (entries S) q ((k.entries q).0 c) ((same_prefix-Decides q q).1 refl)),
    λ c. (k.entries q).1 (Contains-from_any (λ x y. (same_prefix-Decides x y).0) q (entries S) ((short_entry S q short).0 c)),
  )

  pub rows_good : ArePrefixes S
  rows_good q c =
      let r = map_from prefix_of v.rows q ((row_short q (is_short_there S q c)).1 c) in
      subst IsPrefix r.2 (k.rows r.0 r.1).prefix

-- what no change names doesn't turn
module _ (list : List Change) (S T : Tables) (d : Differ list S T) (sound : IsSound T) (q : Prefix) (quiet : own_in list q ≡ false) where
  base_same : (x : Pair) → q ≡ x.prefix → Contains (base_pairs S) x ↔ Contains (base_pairs T) x
  base_same x on = base_named list S T d x (subst (λ z. own_in list z ≡ false) on quiet)

  short_there : Contains (short_prefixes S) q → Contains (short_prefixes T) q
  short_there c =
      let r = short_from S q c in
      subst (Contains (short_prefixes T)) r.2
      (short_pair S T r.0 (from_origin S r.0 (base r.1)) (subst (λ z. z.len < 32) (sym r.2) (is_short_there S q c)) (base_same r.0 (sym r.2)).0)

  pub short_back : Contains (short_prefixes T) q → Contains (short_prefixes S) q
  short_back c =
      let r = short_from T q c in
      subst (Contains (short_prefixes S)) r.2
      (short_pair T S r.0 (from_origin T r.0 (base r.1)) (subst (λ z. z.len < 32) (sym r.2) (is_short_there T q c)) (base_same r.0 (sym r.2)).1)

  attached_same : attached_at S q ≡ attached_at T q
  attached_same = ap attached_of
      (best_paths_same q (base_pairs S) (base_pairs T) (λ x y c e own is. one_list T sound x y (from_origin T x (base c)) (from_origin T y (base e)) own is)
      base_same (best_pair q (base_pairs S)) (best_pair q (base_pairs T)) (best_of q (base_pairs S)) (best_of q (base_pairs T)))

  pub no_turn : (t : Turn) → IsTurn S T q t → ⊥
  no_turn turns.Comes h = h.1 (short_back h.0)
  no_turn turns.Goes h = h.1 (short_there h.0)
  no_turn turns.Attaches h = h.2 attached_same

same_means : (o p : Option ℕ) → same_interface o p ≡ true ↔ (o ≡ p)
same_means None None = (λ t. refl, λ e. refl)
same_means None (Some j) = (λ t. absurd (false≢true t), λ e. absurd (none_some j e))
same_means (Some i) None = (λ t. absurd (false≢true t), λ e. absurd (none_some i (sym e)))
same_means (Some i) (Some j) = (λ t. ap Some ((Decides-eqb i j).0 t), λ e. (Decides-eqb i j).1 (some_is i j e))

module _ (S T : Tables) (q : Prefix) (short : q.len < 32) (same : Bool) (is : same ≡ true ↔ (attached_at S q ≡ attached_at T q)) where
  inside : (U : Tables) → has_entry U q ≡ true → Contains (short_prefixes U) q
  inside U h = (short_entry U q short).1 h

  outside : (U : Tables) → has_entry U q ≡ false → Contains (short_prefixes U) q → ⊥
  outside U h c = false≢true (sym h ∙ (short_entry U q short).0 c)

  turn_to : (b c e : Bool) → has_entry S q ≡ b → has_entry T q ≡ c → same ≡ e → (t : Turn) → turn_by b c e ≡ Some t → IsTurn S T q t
  turn_to false false e hs ht he t h = absurd (none_some t h)
  turn_to false true e hs ht he t h = subst (IsTurn S T q) (some_is turns.Comes t h) (inside T ht, outside S hs)
  turn_to true false e hs ht he t h = subst (IsTurn S T q) (some_is turns.Goes t h) (inside S hs, outside T ht)
  turn_to true true true hs ht he t h = absurd (none_some t h)
  turn_to true true false hs ht he t h =
      subst (IsTurn S T q) (some_is turns.Attaches t h) (inside S hs, inside T ht, λ a. false≢true (sym he ∙ is.1 a))

  turn_from : (b c e : Bool) → has_entry S q ≡ b → has_entry T q ≡ c → same ≡ e → (t : Turn) → IsTurn S T q t → turn_by b c e ≡ Some t
  turn_from false false e hs ht he turns.Comes h = absurd (outside T ht h.0)
  turn_from false true e hs ht he turns.Comes h = refl
  turn_from true false e hs ht he turns.Comes h = absurd (h.1 (inside S hs))
  turn_from true true e hs ht he turns.Comes h = absurd (h.1 (inside S hs))
  turn_from false false e hs ht he turns.Goes h = absurd (outside S hs h.0)
  turn_from false true e hs ht he turns.Goes h = absurd (outside S hs h.0)
  turn_from true false e hs ht he turns.Goes h = refl
  turn_from true true e hs ht he turns.Goes h = absurd (h.1 (inside T ht))
  turn_from false false e hs ht he turns.Attaches h = absurd (outside S hs h.0)
  turn_from false true e hs ht he turns.Attaches h = absurd (outside S hs h.0)
  turn_from true false e hs ht he turns.Attaches h = absurd (outside T ht h.1)
  turn_from true true true hs ht he turns.Attaches h = absurd (h.2 (is.0 he))
  turn_from true true false hs ht he turns.Attaches h = refl

made_entry : (T : Tables) (f : Fresh) → IsFresh T f → has_entry T (prefix_in f) ≡ is_made f
made_entry T (made.Entry f) h = h.effective
made_entry T (made.Gone e) h = h

-- what becomes of a prefix, as it is found
pub turn_found : (S T : Tables) (q : Prefix) (f : Fresh) (ps : List Path) (i j : Option ℕ) (was is same : Bool) → IsSound S → IsSound T → q.len < 32
    → prefix_in f ≡ q → IsFresh T f → was ≡ has_entry S q → is ≡ is_made f → ps ≡ chosen S q → i ≡ attached_of ps
    → (IsSound T → IsFresh T f → (prefix_in f).len < 32 → j ≡ attached_at T (prefix_in f)) → same ≡ same_interface i j
    → (o : Option Turn) → o ≡ turn_by was is same → (t : Turn) → (o ≡ Some t) ↔ IsTurn S T q t
turn_found S T q f ps i j was is same sound after short on fresh before now list first second alike o by t =
    let old : i ≡ attached_at S q = first ∙ (ap attached_of list ∙ attached_chosen S sound q short) in
    let new : j ≡ attached_at T q = second after fresh (subst (λ z. z.len < 32) (sym on) short) ∙ ap (attached_at T) on in
    let known : same ≡ true ↔ (attached_at S q ≡ attached_at T q) = (
      λ h. sym old ∙ ((same_means i j).0 (sym alike ∙ h) ∙ new),
      λ e. alike ∙ (same_means i j).1 (old ∙ (e ∙ sym new)),
    ) in
    let there : has_entry T q ≡ is = ap (has_entry T) (sym on) ∙ (made_entry T f fresh ∙ sym now) in (
      λ h. turn_to S T q short same known was is same (sym before) there refl t (sym by ∙ h),
      λ h. by ∙ turn_from S T q short same known was is same (sym before) there refl t h,
    )

-- hosts don't turn
pub host_stays : (S T : Tables) (q : Prefix) → 32 ≤ q.len → (t : Turn) → (None ≡ Some t) ↔ IsTurn S T q t
host_stays S T q long t = (λ e. absurd (none_some t e), λ h. absurd (by t h))
  where
    no_short : (U : Tables) → Contains (short_prefixes U) q → ⊥
    no_short U c = let lt = is_short_there U q c in omega (arith, lt, long)

    by : (t : Turn) → IsTurn S T q t → ⊥
    by turns.Comes h = no_short T h.0
    by turns.Goes h = no_short S h.0
    by turns.Attaches h = no_short S h.0

-- one more of a list
pub take_in : {X : Type 0} (xs : List X) (k : ℕ) (x y : X) → slice_get xs k ≡ Some x → Contains (take (k + 1) xs) y ↔ Contains (take k xs) y ⊎ (x ≡ y)
take_in xs k x y here =
    let is : x ≡ get_or xs k x = ap (λ o. unwrap_or o x) (sym here) ∙ unwrap_or-slice_get xs k x in
    let more = take_more xs k x (slice_get_within xs k x here) is in (
      λ c. elim (Contains-append_cases (take k xs) (x ∷ []) y (subst (λ l. Contains l y) more c)) [
        | inl early ↦ inl early
        | inr late ↦ elim (in_cases x y [] late) [ inl same ↦ inr same | inr none ↦ absurd (Contains-nil y none) ]
      ],
      λ c. subst (λ l. Contains l y) (sym more) (elim c [
        | inl early ↦ Contains-append_left (take k xs) (x ∷ []) y early
        | inr same ↦ Contains-append_right (take k xs) (x ∷ []) y (in_front x y [] same)
      ]),
    )

-- the turns of the first prefixes
abbrev pub TurnsAmong : Tables → Tables → List Prefix → List Turned → Type 0
TurnsAmong S T first out = (x : Turned) → Contains out x ↔ Contains first x.prefix × IsTurn S T x.prefix x.how

pub turns_none : (S T : Tables) (xs : List Prefix) → TurnsAmong S T (take 0 xs) []
turns_none S T [] x = (λ c. absurd (Contains-nil x c), λ h. absurd (Contains-nil x.prefix h.0))
turns_none S T (y ∷ ys) x = (λ c. absurd (Contains-nil x c), λ h. absurd (Contains-nil x.prefix h.0))

abbrev pub turned_with : Prefix → Turn → Turned
turned_with q t = record { prefix = q; how = t }

turned_in : (q : Prefix) (o : Option Turn) (x : Turned) → Contains (turned_at q o) x ↔ (q ≡ x.prefix) × (o ≡ Some x.how)
turned_in q None x = (λ c. absurd (Contains-nil x c), λ h. absurd (none_some x.how h.1))
turned_in q (Some t) x = (
  λ c. elim (in_cases (turned_with q t) x [] c) [
    | inl is ↦ (ap (λ z. z.prefix) is, ap (λ z. Some z.how) is)
    | inr none ↦ absurd (Contains-nil x none)
  ],
  λ h. in_front (turned_with q t) x [] (ap₂ turned_with h.0 (some_is t x.how h.1)),
)

pub turns_step : (S T : Tables) (xs : List Prefix) (k : ℕ) (q : Prefix) (o : Option Turn) (old new : List Turned) → slice_get xs k ≡ Some q
    → TurnsAmong S T (take k xs) old → ((t : Turn) → (o ≡ Some t) ↔ IsTurn S T q t) → new ≡ old ++ turned_at q o → TurnsAmong S T (take (k + 1) xs) new
turns_step S T xs k q o old new here before tells is x = (
  λ c. elim (Contains-append_cases old (turned_at q o) x (subst (λ l. Contains l x) is c)) [
    | inl early ↦ (let r = (before x).0 early in ((take_in xs k q x.prefix here).1 (inl r.0), r.1))
    | inr late ↦ (let r = (turned_in q o x).0 late in
        ((take_in xs k q x.prefix here).1 (inr r.0), subst (λ z. IsTurn S T z x.how) r.0 ((tells x.how).0 r.1)))
  ],
  λ h. subst (λ l. Contains l x) (sym is) (elim ((take_in xs k q x.prefix here).0 h.0) [
    | inl early ↦ Contains-append_left old (turned_at q o) x ((before x).1 (early, h.1))
    | inr on ↦ Contains-append_right old (turned_at q o) x
        ((turned_in q o x).1 (on, (tells x.how).1 (subst (λ z. IsTurn S T z x.how) (sym on) h.1)))
  ]),
)

turn_ranked : (s t : Turn) → turn_rank s ≡ turn_rank t → s ≡ t
turn_ranked turns.Comes turns.Comes e = refl
turn_ranked turns.Comes turns.Goes e = absurd (omega (arith, e))
turn_ranked turns.Comes turns.Attaches e = absurd (omega (arith, e))
turn_ranked turns.Goes turns.Comes e = absurd (omega (arith, e))
turn_ranked turns.Goes turns.Goes e = refl
turn_ranked turns.Goes turns.Attaches e = absurd (omega (arith, e))
turn_ranked turns.Attaches turns.Comes e = absurd (omega (arith, e))
turn_ranked turns.Attaches turns.Goes e = absurd (omega (arith, e))
turn_ranked turns.Attaches turns.Attaches e = refl

-- those that turn so
turn_set : (S T : Tables) (turned : List Turned) (how : Turn) (set : List Prefix) → AreTurns S T turned → AddsEach (is_turn how) turned [] set
    → (q : Prefix) → Contains set q ↔ IsTurn S T q how
turn_set S T turned how set are put q = (
  λ c. elim ((put q).0 c) [
    | inl none ↦ absurd (Contains-nil q none)
    | inr is ↦ (let w = any_from (λ x. is_turn how x q) turned is in
        let both = and_both (turn_rank w.0.how == turn_rank how) (same_prefix q w.0.prefix) w.2 in
        let same = turn_ranked w.0.how how ((Decides-eqb (turn_rank w.0.how) (turn_rank how)).0 both.0) in
        subst (IsTurn S T q) same (subst (λ z. IsTurn S T z w.0.how) (sym ((same_prefix-Decides q w.0.prefix).0 both.1)) ((are w.0).0 w.1)))
  ],
  λ h. (put q).1 (inr (any_in (λ x. is_turn how x q) turned (turned_with q how) ((are (turned_with q how)).1 h)
      (rw ((Decides-eqb (turn_rank how) (turn_rank how)).1 refl, (same_prefix-Decides q q).1 refl) refl))),
)

-- all that turn are named
pub are_shorts : (v : Known) (list : List Change) (S T : Tables) (named : Named) (x : Shorts) → IsBefore v list S T → IsSound T → AreNamed list S T named
    → TurnsAmong S T named.prefixes x.turned.items → AddsEach (is_turn turns.Comes) x.turned.items [] x.come
    → AddsEach (is_turn turns.Goes) x.turned.items [] x.gone → AreShorts S T x
are_shorts v list S T named x h sound are among come gone =
    let turned : AreTurns S T x.turned.items = λ y. (
      λ c. ((among y).0 c).1,
      λ t. (among y).1 (
        elim (either (own_in list y.prefix)) [
          | inl is ↦ (are.prefixes y.prefix).1 (inl is)
          | inr quiet ↦ absurd (no_turn list S T h.differ sound y.prefix quiet y.how t)
        ],
        t,
      ),
    ) in record {
      turned = turned;
      come = turn_set S T x.turned.items turns.Comes x.come turned come;
      gone = turn_set S T x.turned.items turns.Goes x.gone turned gone;
      good = λ q c. elim (either (own_in list q)) [
        | inl is ↦ are.good q ((are.prefixes q).1 (inl is))
        | inr quiet ↦ rows_good v S h.stands q (short_back list S T h.differ sound q quiet c)
      ];
    }
