-- Turns, changes and settling keep steady traffic in the stack.
use Rattle.std.proofs.Common.{◌≡◌, ◌<◌, ◌⊎◌, inl, inr, ⊎_elim, true, true≢false, ℕ, List, [], ◌∷◌, Option, Some, None, refl, sym, ap, ◌∙◌, subst, arith}
use Rattle.std.specs.Prelude.{Contains, slice_get, IfSome}
use Rattle.std.proofs.lemmas.Bool.{false≢true}
use Rattle.fib_base_list.proofs.Lists.{either, each-at}
use Rattle.fib_addr.specs.Prefixes.{Prefix, host, same_prefix}
use Rattle.fib_addr.proofs.PrefixLaws.{same_prefix-Decides}
use Rattle.fib_resolve.specs.Pairs.{entries, cover}
use Rattle.fib_resolve.specs.Buckets.{wanted}
use Rattle.fib_resolve.specs.declared.types.Path.{Path}
use Rattle.fib_resolve.specs.declared.types.PathKind.{PathKind}
use Rattle.fib_resolve.specs.declared.types.PathKind.TheVariants as kinds
use Rattle.fib_resolve.specs.declared.types.End.{End}
use Rattle.fib_resolve.specs.declared.types.End.TheVariants as answers
use Rattle.fib_resolve.specs.declared.types.Tables.{Tables}
use Rattle.fib_resolve.proofs.Taken.{IsWanted, wanted_taken}
use Rattle.fib_core.specs.Walk.{word_at}
use Rattle.fib_resolve.specs.declared.aims.Aim.{Aim}
use Rattle.fib_resolve.specs.declared.aims.Aim.TheVariants as aims
use Rattle.fib_resolve.specs.Aims.{path_aim, kind_aim, aim}
use Rattle.fib_core_steady.specs.Aims.{IsLasting, WantsAlike}
use Rattle.fib_core_promise.specs.Stack.{is_some, Objects, Ledger, to_balance, to_adjacency, aim_word, Anchored, Holding, IsSteadyStack}
use Rattle.fib_core_promise.specs.Turns.{Stack, HasEnd, IsRestacked, IsRemoved, IsQuietStack}
use Rattle.fib_core_steady.proofs.Lists.{some_same}
use Rattle.fib_core_promise.proofs.Stack.{some_of}
use Rattle.fib_core_steady.proofs.Ways.{Leads, leads}

-- what a bucket leads to

aim_on : (S : Tables) (e t : Prefix) (o : Option Path) → IfSome o (λ p. Leads S e p.kind) → path_aim S e o ≡ aims.On t → Contains (entries S) t
aim_on S e t None l is = absurd (apart is)
  where
    apart : aims.Ends answers.Drop ≡ aims.On t → ⊥
    apart e = cc
aim_on S e t (Some p) l is = by_kind p.kind l is
  where
    ends_on : (x : End) → aims.Ends x ≡ aims.On t → ⊥
    ends_on x e = cc

    on_same : (q : Prefix) → aims.On q ≡ aims.On t → q ≡ t
    on_same q e = cc

    by_kind : (kind : PathKind) → Leads S e kind → kind_aim S e kind ≡ aims.On t → Contains (entries S) t
    by_kind kinds.Drop l is = absurd (ends_on _ is)
    by_kind kinds.Local l is = absurd (ends_on _ is)
    by_kind (kinds.Attached i) l is = absurd (ends_on _ is)
    by_kind (kinds.Hop a i) l is = absurd (ends_on _ is)
    by_kind (kinds.Recursive a) l is = subst (Contains (entries S)) (on_same (host a) is) l
    by_kind kinds.Cover l is = subst (Contains (entries S)) (on_same (cover S e.bits) is) l

pub bucket_on : (S : Tables) (e t : Prefix) (k : ℕ) → aim S e k ≡ aims.On t → Contains (entries S) t
unfolding aim
bucket_on S e t k is = aim_on S e t (slice_get (wanted S e) k) (leads S e k) is

aim_hop : (S : Tables) (e : Prefix) (i a : ℕ) (m : Option ℕ) (o : Option Path) → IfSome o (IsWanted S e) → path_aim S e o ≡ aims.Ends (answers.Hop i a m) → HasEnd S e (answers.Hop i a m)
aim_hop S e i a m None t is = absurd (drops is)
  where
    drops : aims.Ends answers.Drop ≡ aims.Ends (answers.Hop i a m) → ⊥
    drops e = cc
aim_hop S e i a m (Some p) t is = (p, t.0, is)

pub bucket_hop : (S : Tables) (e : Prefix) (k i a : ℕ) (m : Option ℕ) → aim S e k ≡ aims.Ends (answers.Hop i a m) → HasEnd S e (answers.Hop i a m)
unfolding aim
bucket_hop S e k i a m is = aim_hop S e i a m (slice_get (wanted S e) k) (each-at (IsWanted S e) (wanted S e) k (wanted_taken S e)) is

-- anchors

anchored_by : (at : Objects) (l : Ledger) (e : Prefix) (m : Aim) → ((t : Prefix) → m ≡ aims.On t → is_some (at.balance t) ≡ true) → ((i a : ℕ) (x : Option ℕ) → m ≡ aims.Ends (answers.Hop i a x) → l.holds e (answers.Hop i a x) ≡ true) → Anchored at l e m
anchored_by at l e (aims.Ends answers.Drop) balances hops = tt
anchored_by at l e (aims.Ends answers.Receive) balances hops = tt
anchored_by at l e (aims.Ends (answers.Glean i)) balances hops = tt
anchored_by at l e (aims.Ends (answers.Hop i a x)) balances hops = hops i a x refl
anchored_by at l e (aims.On t) balances hops = balances t refl

anchor_on : (at : Objects) (l : Ledger) (e t : Prefix) (m : Aim) → Anchored at l e m → m ≡ aims.On t → is_some (at.balance t) ≡ true
anchor_on at l e t m a is = subst (Anchored at l e) is a

anchor_hop : (at : Objects) (l : Ledger) (e : Prefix) (i a : ℕ) (x : Option ℕ) (m : Aim) → Anchored at l e m → m ≡ aims.Ends (answers.Hop i a x) → l.holds e (answers.Hop i a x) ≡ true
anchor_hop at l e i a x m anchored is = subst (Anchored at l e) is anchored

word_same : (at to : Objects) (m : Aim) → ((t : Prefix) → m ≡ aims.On t → to.balance t ≡ at.balance t) → ((i a : ℕ) (x : Option ℕ) → m ≡ aims.Ends (answers.Hop i a x) → to.record_of (answers.Hop i a x) ≡ at.record_of (answers.Hop i a x)) → aim_word to m ≡ aim_word at m
word_same at to (aims.Ends answers.Drop) balances records = refl
word_same at to (aims.Ends answers.Receive) balances records = refl
word_same at to (aims.Ends (answers.Glean i)) balances records = refl
word_same at to (aims.Ends (answers.Hop i a x)) balances records = ap to_adjacency (records i a x refl)
word_same at to (aims.On t) balances records = ap to_balance (balances t refl)

same_or_not : (d e : Prefix) → (d ≡ e) ⊎ (d ≡ e → ⊥)
same_or_not d e = elim (either (same_prefix d e)) [
  | inl is ↦ inl ((same_prefix-Decides d e).0 is)
  | inr isnt ↦ inr (λ same. false≢true (sym isnt ∙ (same_prefix-Decides d e).1 same))
]

-- the stack is steady for these versions
abbrev pub KeepsSteady : List Tables → Stack → Type 0
KeepsSteady J s = IsSteadyStack J s.objects s.ledger s.cells

-- a turn of an entry
module _ (J : List Tables) (S : Tables) (here : Contains J S) (e : Prefix) (o : ℕ) (s t : Stack) (steady : KeepsSteady J s) (r : IsRestacked S e o s t) where
  same_object : (x : Prefix) → is_some (s.objects.balance x) ≡ true → t.objects.balance x ≡ s.objects.balance x
  same_object x some = ⊎_elim
      (λ (is : x ≡ e). subst (λ i. t.objects.balance i ≡ s.objects.balance i) (sym is) (⊎_elim
      (λ (b : s.objects.balance e ≡ Some o). r.here ∙ sym b)
      (λ (b : s.objects.balance e ≡ None). absurd (true≢false (sym some ∙ ap (λ i. is_some (s.objects.balance i)) is ∙ ap is_some b)))
      r.before))
      (λ (ne : x ≡ e → ⊥). r.others x ne)
      (same_or_not x e)

  named_still : (x : Prefix) → is_some (s.objects.balance x) ≡ true → is_some (t.objects.balance x) ≡ true
  named_still x some = ap is_some (same_object x some) ∙ some

  module _ (d : Prefix) (k : ℕ) (m : Aim) (lt : k < 16) (lasting : IsLasting J d) (alike : WantsAlike J d k m) where
    old : Holding s.objects s.ledger s.cells d k m
    old = steady.holding d k m lt lasting alike

    keeps_hold : (i a : ℕ) (x : Option ℕ) → m ≡ aims.Ends (answers.Hop i a x) → t.ledger.holds d (answers.Hop i a x) ≡ true
    keeps_hold i a x is = ⊎_elim
        (λ (at : d ≡ e). subst (λ p. t.ledger.holds p (answers.Hop i a x) ≡ true) (sym at) (r.holding (answers.Hop i a x) (subst (λ p. HasEnd S p (answers.Hop i a x)) at (bucket_hop S d k i a x (alike S here ∙ is)))))
        (λ (ne : d ≡ e → ⊥). r.others_holding d (answers.Hop i a x) ne ∙ anchor_hop s.objects s.ledger d i a x m old.anchored is)
        (same_or_not d e)

    still_word : aim_word t.objects m ≡ aim_word s.objects m
    still_word = word_same s.objects t.objects m (λ x is. same_object x (anchor_on s.objects s.ledger d x m old.anchored is)) (λ i a x is. r.same_record d (answers.Hop i a x) (keeps_hold i a x is) (anchor_hop s.objects s.ledger d i a x m old.anchored is))

    still_anchored : Anchored t.objects t.ledger d m
    still_anchored = anchored_by t.objects t.ledger d m (λ x is. named_still x (anchor_on s.objects s.ledger d x m old.anchored is)) keeps_hold

    still_here : t.objects.balance d ≡ Some old.object
    still_here = same_object d (ap is_some old.here) ∙ old.here

    elsewhere : (d ≡ e → ⊥) → Holding t.objects t.ledger t.cells d k m
    elsewhere ne = record { object = old.object; here = still_here; cell = r.others_cell d old.object k ne old.here lt ∙ old.cell ∙ sym still_word; on_time = r.others_late d k ne ∙ old.on_time; anchored = still_anchored }

    itself : d ≡ e → Holding t.objects t.ledger t.cells d k m
    itself is =
        let same : old.object ≡ o = some_same old.object o (t.objects.balance e) (subst (λ p. t.objects.balance p ≡ Some old.object) is still_here) r.here in
        let wants : aim S e k ≡ m = subst (λ p. aim S p k ≡ m) is (alike S here) in
        let held : word_at s.cells o k ≡ aim_word t.objects (aim S e k) = subst (λ (i : ℕ). word_at s.cells i k ≡ aim_word t.objects m) same (old.cell ∙ sym still_word) ∙ ap (aim_word t.objects) (sym wants) in
        let late : t.ledger.late e k ≡ None = r.same k lt (subst (λ p. s.objects.balance p ≡ Some o) is (subst (λ (x : ℕ). s.objects.balance d ≡ Some x) same old.here)) held in
        record { object = o; here = subst (λ p. t.objects.balance p ≡ Some o) (sym is) r.here; cell = r.filled k lt late ∙ ap (aim_word t.objects) wants; on_time = subst (λ p. t.ledger.late p k ≡ None) (sym is) late; anchored = still_anchored }

    pub held_on : Holding t.objects t.ledger t.cells d k m
    held_on = ⊎_elim itself elsewhere (same_or_not d e)

  pub restacked_steady : KeepsSteady J t
  restacked_steady = record { named = λ x lasting. named_still x (steady.named x lasting); holding = held_on }

-- a turn of a prefix that left
module _ (J : List Tables) (S : Tables) (here : Contains J S) (e : Prefix) (s t : Stack) (steady : KeepsSteady J s) (r : IsRemoved S e s t) where
  other_entry : (x : Prefix) → Contains (entries S) x → x ≡ e → ⊥
  other_entry x c is = r.left (subst (Contains (entries S)) is c)

  module _ (d : Prefix) (k : ℕ) (m : Aim) (lt : k < 16) (lasting : IsLasting J d) (alike : WantsAlike J d k m) where
    held : Holding s.objects s.ledger s.cells d k m
    held = steady.holding d k m lt lasting alike

    ne : d ≡ e → ⊥
    ne = other_entry d (lasting S here)

    target_stays : (x : Prefix) → m ≡ aims.On x → x ≡ e → ⊥
    target_stays x is = other_entry x (bucket_on S d x k (alike S here ∙ is))

    holds_still : (i a : ℕ) (x : Option ℕ) → m ≡ aims.Ends (answers.Hop i a x) → t.ledger.holds d (answers.Hop i a x) ≡ true
    holds_still i a x is = r.others_holding d (answers.Hop i a x) ne ∙ anchor_hop s.objects s.ledger d i a x m held.anchored is

    word_still : aim_word t.objects m ≡ aim_word s.objects m
    word_still = word_same s.objects t.objects m (λ x is. r.others x (target_stays x is)) (λ i a x is. r.same_record d (answers.Hop i a x) (holds_still i a x is) (anchor_hop s.objects s.ledger d i a x m held.anchored is))

    pub kept_on : Holding t.objects t.ledger t.cells d k m
    kept_on = record {
      object = held.object;
      here = r.others d ne ∙ held.here;
      cell = r.others_cell d held.object k ne held.here lt ∙ held.cell ∙ sym word_still;
      on_time = r.others_late d k ne ∙ held.on_time;
      anchored = anchored_by t.objects t.ledger d m (λ x is. ap is_some (r.others x (target_stays x is)) ∙ anchor_on s.objects s.ledger d x m held.anchored is) holds_still;
    }

  pub removed_steady : KeepsSteady J t
  removed_steady = record { named = λ x lasting. ap is_some (r.others x (other_entry x (lasting S here))) ∙ steady.named x lasting; holding = kept_on }

-- a change asks less
pub changed_steady : (J K : List Tables) (s : Stack) → ((S : Tables) → Contains J S → Contains K S) → KeepsSteady J s → KeepsSteady K s
changed_steady J K s more steady = record { named = λ x lasting. steady.named x (λ S c. lasting S (more S c)); holding = λ d k m lt lasting alike. steady.holding d k m lt (λ S c. lasting S (more S c)) (λ S c. alike S (more S c)) }

-- settling leaves one version
pub settled_steady : (S : Tables) (s : Stack) → IsQuietStack S s → KeepsSteady (S ∷ []) s
settled_steady S s quiet = record {
  named = λ x lasting. quiet.placed x (lasting S (0, omega arith, refl));
  holding = λ d k m lt lasting alike.
      let c : Contains (entries S) d = lasting S (0, omega arith, refl) in
      let wants : aim S d k ≡ m = alike S (0, omega arith, refl) in
      let at = some_of (s.objects.balance d) (quiet.placed d c) in
      record {
        object = at.0;
        here = at.1;
        cell = quiet.filled d at.0 k c at.1 lt ∙ ap (aim_word s.objects) wants;
        on_time = quiet.on_time d k;
        anchored = anchored_by s.objects s.ledger d m (λ x is. quiet.placed x (bucket_on S d x k (wants ∙ is))) (λ i a x is. quiet.holding d (answers.Hop i a x) (bucket_hop S d k i a x (wants ∙ is)));
      };
}
