-- Buckets of which all versions want the same keep their word.
use Rattle.std.proofs.Common.{◌≡◌, ℕ, ◌<◌, ⊎_elim, Bool, true, false, true≢false, List, [], ◌∷◌, refl, sym, ap, ◌∙◌, subst, arith}
use Rattle.std.specs.Prelude.{Option, Some, None, Contains}
use mathlib.Core.Logic.{dite}
use Rattle.fib_addr.specs.Prefixes.{Prefix}
use Rattle.fib_addr.proofs.PrefixLaws.{same_prefix-Decides}
use Rattle.fib_resolve.specs.Aims.{aim, marked_list}
use Rattle.fib_resolve.specs.Forwarding.{forwards}
use Rattle.fib_resolve.specs.Pairs.{entries}
use Rattle.fib_resolve.specs.declared.aims.Aim.{Aim}
use Rattle.fib_resolve.specs.declared.aims.Aim.TheVariants as aims
use Rattle.fib_resolve.specs.declared.types.End.{End}
use Rattle.fib_resolve.specs.declared.types.End.TheVariants as answers
use Rattle.fib_resolve.specs.declared.types.Tables.{Tables}
use Rattle.std.proofs.lemmas.Map.Made.{is_member-Decides}
use Rattle.fib_core.specs.declared.word.Word.{Word}
use Rattle.fib_resolve_changes.specs.Ranks.{counts_on, has_entry, IsRanked}
use Rattle.fib_resolve_changes.proofs.MarkLaws.{aim_is}
use Rattle.fib_core_promise.specs.Stack.{Objects, aim_word, Anchored, is_some}
use Rattle.fib_stack.specs.States.{State, Fits, IsQuiet, has_hop}
use Rattle.fib_stack.specs.Steps.{Restacked, Removed, Applied, Retried, StillOrStored, StandsFor}
use Rattle.fib_stack.specs.Steadiness.{ledger_of, Holding, IsSteady}
use Rattle.fib_stack.proofs.Aiming.{bucket_on, bucket_hop}
use Rattle.fib_stack.proofs.Keeping.{word_same, some_there, prefix_discrete}

pub is_entry : (S : Tables) (e : Prefix) → Contains (entries S) e → has_entry S e ≡ true
is_entry S e c = (is_member-Decides same_prefix-Decides (entries S) e).1 c

-- what a bucket leads to
pub aims_on : (S : Tables) (e t : Prefix) (k : ℕ) → aim S e k ≡ aims.On t → counts_on (marked_list S e) t ≡ true
aims_on S e t k is = (bucket_on (forwards S) (marked_list S e) k t (sym (aim_is S e k) ∙ is)).0

pub aims_hop : (S : Tables) (e : Prefix) (k i a : ℕ) (x : Option ℕ) → aim S e k ≡ aims.Ends (answers.Hop i a x) → has_hop (marked_list S e) (answers.Hop i a x) ≡ true
aims_hop S e k i a x is = bucket_hop (forwards S) (marked_list S e) k i a x (sym (aim_is S e k) ∙ is)

anchor_on : (s : State) (e t : Prefix) (m : Aim) → Anchored s.objects (ledger_of s) e m → m ≡ aims.On t → is_some (s.objects.balance t) ≡ true
anchor_on s e t m a is = subst (λ v. Anchored s.objects (ledger_of s) e v) is a

pub anchor_hop : (s : State) (e : Prefix) (i a : ℕ) (x : Option ℕ) (m : Aim) → Anchored s.objects (ledger_of s) e m → m ≡ aims.Ends (answers.Hop i a x) → s.holds e (answers.Hop i a x) ≡ true
anchor_hop s e i a x m anchored is = subst (λ v. Anchored s.objects (ledger_of s) e v) is anchored

anchored_by : (s : State) (e : Prefix) (m : Aim) → ((t : Prefix) → m ≡ aims.On t → is_some (s.objects.balance t) ≡ true) → ((i a : ℕ) (x : Option ℕ) → m ≡ aims.Ends (answers.Hop i a x) → s.holds e (answers.Hop i a x) ≡ true) → Anchored s.objects (ledger_of s) e m
anchored_by s e (aims.Ends answers.Drop) on_them hops = tt
anchored_by s e (aims.Ends answers.Receive) on_them hops = tt
anchored_by s e (aims.Ends (answers.Glean i)) on_them hops = tt
anchored_by s e (aims.Ends (answers.Hop i a x)) on_them hops = hops i a x refl
anchored_by s e (aims.On t) on_them hops = on_them t refl

same_some : (a b : ℕ) (x : Option ℕ) → x ≡ Some a → x ≡ Some b → a ≡ b
same_some a b x e h = let both : Some a ≡ Some b = sym e ∙ h in cc

-- a turn of an entry keeps a bucket that is wanted as it is
module _ (S : Tables) (e : Prefix) (o : ℕ) (s t : State) (r : Restacked S e o s t) (d : Prefix) (k : ℕ) (m : Aim) (old : Holding s d k m) (wants : aim S d k ≡ m) where
  keeps_hold : (i a : ℕ) (x : Option ℕ) → m ≡ aims.Ends (answers.Hop i a x) → t.holds d (answers.Hop i a x) ≡ true
  keeps_hold i a x is = dite (prefix_discrete d e)
      (λ at. let mine : has_hop (marked_list S d) (answers.Hop i a x) ≡ true = aims_hop S d k i a x (wants ∙ is) in
      subst (λ p. t.holds p (answers.Hop i a x) ≡ true) (sym at) (r.holding (answers.Hop i a x) ∙ subst (λ p. has_hop (marked_list S p) (answers.Hop i a x) ≡ true) at mine))
      (λ ne. r.others_holding d (answers.Hop i a x) ne ∙ anchor_hop s d i a x m old.anchored is)

  pub same_object : (x : Prefix) → is_some (s.objects.balance x) ≡ true → t.objects.balance x ≡ s.objects.balance x
  same_object x some = dite (prefix_discrete x e)
      (λ is. subst (λ i. t.objects.balance i ≡ s.objects.balance i) (sym is) (⊎_elim
      (λ (b : s.objects.balance e ≡ Some o). r.here ∙ sym b)
      (λ (b : (s.objects.balance e ≡ None) × ((y : Prefix) → s.objects.balance y ≡ Some o → y ≡ e)). absurd (true≢false (sym some ∙ ap (λ i. is_some (s.objects.balance i)) is ∙ ap is_some b.0)))
      r.before))
      (λ ne. r.others x ne)

  pub same_word : aim_word t.objects m ≡ aim_word s.objects m
  same_word = word_same s.objects t.objects m (λ x is. same_object x (anchor_on s d x m old.anchored is)) (λ i a x is. r.same_record d d (answers.Hop i a x) (keeps_hold i a x is) (anchor_hop s d i a x m old.anchored is))

  anchored : Anchored t.objects (ledger_of t) d m
  anchored = anchored_by t d m (λ x is. let some : is_some (s.objects.balance x) ≡ true = anchor_on s d x m old.anchored is in ap is_some (same_object x some) ∙ some) keeps_hold

  still : t.objects.balance d ≡ Some old.object
  still = same_object d (ap is_some old.here) ∙ old.here

  there : (d ≡ e → ⊥) → Holding t d k m
  there ne = record {
    object = old.object;
    here = still;
    cell = r.others_cell d old.object k ne old.here ∙ old.cell ∙ sym same_word;
    on_time = r.others_late d k ne ∙ old.on_time;
    anchored = anchored;
  }

  here : k < 16 → d ≡ e → Holding t d k m
  here lt is =
      let at : t.objects.balance d ≡ Some o = subst (λ i. t.objects.balance i ≡ Some o) (sym is) r.here in
      let same : old.object ≡ o = same_some old.object o (t.objects.balance d) still at in
      let wants_e : aim S e k ≡ m = subst (λ i. aim S i k ≡ m) is wants in
      let held : s.cell o k ≡ aim_word t.objects (aim S e k) = subst (λ i. s.cell i k ≡ aim_word t.objects m) same (old.cell ∙ sym same_word) ∙ ap (aim_word t.objects) (sym wants_e) in
      let late : t.late e k ≡ None = r.same k lt (subst (λ i. s.objects.balance i ≡ Some o) is (subst (λ x. s.objects.balance d ≡ Some x) same old.here)) held in
      let fits : t.cell o k ≡ aim_word t.objects (aim S e k) = subst (λ l. Fits l (t.cell o k) (aim_word t.objects (aim S e k))) late (r.filled k lt) in
      record {
        object = o;
        here = at;
        cell = fits ∙ ap (aim_word t.objects) wants_e;
        on_time = subst (λ i. t.late i k ≡ None) (sym is) late;
        anchored = anchored;
      }

  pub restacked_holding : k < 16 → Holding t d k m
  restacked_holding lt = dite (prefix_discrete d e) (here lt) there

pub restacked_steady : (J : List Tables) (S : Tables) → Contains J S → (e : Prefix) (o : ℕ) (s t : State) → IsSteady J s → Restacked S e o s t → IsSteady J t
restacked_steady J S c e o s t steady r = record {
  named = λ d lasting. named_still d (steady.named d lasting);
  holding = λ d k m lt lasting alike. restacked_holding S e o s t r d k m (steady.holding d k m lt lasting alike) (alike S c) lt;
}
  where
    named_still : (d : Prefix) → is_some (s.objects.balance d) ≡ true → is_some (t.objects.balance d) ≡ true
    named_still d some = dite (prefix_discrete d e)
        (λ is. subst (λ i. is_some (t.objects.balance i) ≡ true) (sym is) (ap is_some r.here))
        (λ ne. ap is_some (r.others d ne) ∙ some)

-- a turn of a prefix that left keeps it
module _ (S : Tables) (rank : Prefix → ℕ) (e : Prefix) (s t : State) (sound : IsRanked S rank) (left : has_entry S e ≡ false) (r : Removed e s t) (d : Prefix) (k : ℕ) (m : Aim) (old : Holding s d k m) (has : has_entry S d ≡ true) (wants : aim S d k ≡ m) where
  ne : d ≡ e → ⊥
  ne is = true≢false (sym has ∙ ap (has_entry S) is ∙ left)

  target_stays : (x : Prefix) → m ≡ aims.On x → x ≡ e → ⊥
  target_stays x is at = true≢false (sym (sound.falls d x (sound.woken d x (aims_on S d x k (wants ∙ is)))).0 ∙ ap (has_entry S) at ∙ left)

  keeps_hold_too : (i a : ℕ) (x : Option ℕ) → m ≡ aims.Ends (answers.Hop i a x) → t.holds d (answers.Hop i a x) ≡ true
  keeps_hold_too i a x is = r.others_holding d (answers.Hop i a x) ne ∙ anchor_hop s d i a x m old.anchored is

  pub same_word_too : aim_word t.objects m ≡ aim_word s.objects m
  same_word_too = word_same s.objects t.objects m (λ x is. r.others x (target_stays x is)) (λ i a x is. r.same_record d d (answers.Hop i a x) (keeps_hold_too i a x is) (anchor_hop s d i a x m old.anchored is))

  pub removed_holding : Holding t d k m
  removed_holding = record {
    object = old.object;
    here = r.others d ne ∙ old.here;
    cell = r.others_cell d old.object k ne old.here ∙ old.cell ∙ sym same_word_too;
    on_time = r.others_late d k ne ∙ old.on_time;
    anchored = anchored_by t d m (λ x is. ap is_some (r.others x (target_stays x is)) ∙ anchor_on s d x m old.anchored is) keeps_hold_too;
  }

pub removed_steady : (J : List Tables) (S : Tables) (rank : Prefix → ℕ) → Contains J S → (e : Prefix) (s t : State) → IsRanked S rank → has_entry S e ≡ false → IsSteady J s → Removed e s t → IsSteady J t
removed_steady J S rank c e s t sound left steady r = record {
  named = λ d lasting. ap is_some (r.others d (other d (is_entry S d (lasting S c)))) ∙ steady.named d lasting;
  holding = λ d k m lt lasting alike. removed_holding S rank e s t sound left r d k m (steady.holding d k m lt lasting alike) (is_entry S d (lasting S c)) (alike S c);
}
  where
    other : (d : Prefix) → has_entry S d ≡ true → d ≡ e → ⊥
    other d has is = true≢false (sym has ∙ ap (has_entry S) is ∙ left)

-- more versions ask less
pub wider_steady : (J K : List Tables) (s : State) → ((S : Tables) → Contains J S → Contains K S) → IsSteady J s → IsSteady K s
wider_steady J K s more steady = record {
  named = λ x lasting. steady.named x (λ S c. lasting S (more S c));
  holding = λ d k m lt lasting alike. steady.holding d k m lt (λ S c. lasting S (more S c)) (λ S c. alike S (more S c));
}

-- a change of the tables leaves all of it
pub applied_steady : (J : List Tables) (S T : Tables) (s t : State) → IsSteady J s → Applied S T s t → IsSteady J t
applied_steady J S T s t steady a = record {
  named = λ d lasting. ap (λ (n : Objects). is_some (n.balance d)) a.objects ∙ steady.named d lasting;
  holding = λ d k m lt lasting alike. let old = steady.holding d k m lt lasting alike in record {
    object = old.object;
    here = ap (λ (n : Objects). n.balance d) a.objects ∙ old.here;
    cell = ap (λ (f : ℕ → ℕ → Word). f old.object k) a.cell ∙ old.cell ∙ ap (λ (n : Objects). aim_word n m) (sym a.objects);
    on_time = ap (λ (f : Prefix → ℕ → Option Word). f d k) a.late ∙ old.on_time;
    anchored = anchored_by t d m
        (λ x is. ap (λ (n : Objects). is_some (n.balance x)) a.objects ∙ anchor_on s d x m old.anchored is)
        (λ i b x is. ap (λ (f : Prefix → End → Bool). f d (answers.Hop i b x)) a.holds ∙ anchor_hop s d i b x m old.anchored is);
  };
}

-- and so does a retry
pub retried_steady : (J : List Tables) (s t : State) → IsSteady J s → Retried s t → IsSteady J t
retried_steady J s t steady r = record {
  named = λ d lasting. ap (λ (n : Objects). is_some (n.balance d)) r.objects ∙ steady.named d lasting;
  holding = λ d k m lt lasting alike. let old = steady.holding d k m lt lasting alike in record {
    object = old.object;
    here = ap (λ (n : Objects). n.balance d) r.objects ∙ old.here;
    cell = cell_same d k old.object lt old.here old.on_time ∙ old.cell ∙ ap (λ (n : Objects). aim_word n m) (sym r.objects);
    on_time = r.no_more d k old.on_time;
    anchored = anchored_by t d m
        (λ x is. ap (λ (n : Objects). is_some (n.balance x)) r.objects ∙ anchor_on s d x m old.anchored is)
        (λ i b x is. ap (λ (f : Prefix → End → Bool). f d (answers.Hop i b x)) r.holds ∙ anchor_hop s d i b x m old.anchored is);
  };
}
  where
    none_stays : (l l' : Option Word) (c c' : Word) → StillOrStored l l' c c' → l ≡ None → c' ≡ c
    none_stays None l' c c' h e = h.1
    none_stays (Some v) l' c c' h e = absurd (cc)

    cell_same : (d : Prefix) (k o : ℕ) → k < 16 → s.objects.balance d ≡ Some o → s.late d k ≡ None → t.cell o k ≡ s.cell o k
    cell_same d k o lt at late = by_queue (s.queued d) refl
      where
        by_queue : (b : Bool) → s.queued d ≡ b → t.cell o k ≡ s.cell o k
        by_queue true q = (r.waiting d o k at q).1
        by_queue false q = none_stays (s.late d k) (t.late d k) (s.cell o k) (t.cell o k) (r.cells d o k at lt q) late

-- settling leaves one version
pub settled_steady : (S : Tables) (rank : Prefix → ℕ) (s : State) → IsRanked S rank → IsQuiet s → StandsFor S s → IsSteady (S ∷ []) s
settled_steady S rank s sound quiet stands = record {
  named = λ d lasting. stands.placed d ∙ is_entry S d (lasting S (0, omega arith, refl));
  holding = λ d k m lt lasting alike.
      let wants : aim S d k ≡ m = alike S (0, omega arith, refl) in
      let there = some_there (s.objects.balance d) (stands.placed d ∙ is_entry S d (lasting S (0, omega arith, refl))) in
      record {
        object = there.0;
        here = there.1;
        cell = stands.filled d there.0 k there.1 lt ∙ ap (aim_word s.objects) wants;
        on_time = quiet.1 d k;
        anchored = anchored_by s d m
            (λ x is. stands.placed x ∙ (sound.falls d x (sound.woken d x (aims_on S d x k (wants ∙ is)))).0)
            (λ i a x is. stands.holding d (answers.Hop i a x) ∙ aims_hop S d k i a x (wants ∙ is));
      };
}
