-- What each event does to each part.
use Rattle.std.proofs.Common.{◌≡◌, ◌≢◌, ℕ, zero, suc, ◌+◌, ◌*◌, ◌^◌, ◌<◌, ◌≤◌, inl, inr, ⊎_elim, Bool, true, false, List, [], ◌∷◌, length, replicate, refl, sym, ap, ◌∙◌, subst, arith, get_or-set_same, get_or-set_other, length-set, length-append}
use Rattle.std.specs.Prelude.{Option, Some, None, slice_index, slice_set, slice_get}
use mathlib.Core.Logic.{dite}
use native.Mathlib.Decide.{ℕ_discrete}
use Rattle.fib_reach.specs.Walks.{Leads, IsAcyclic}
use Rattle.fib_reach.proofs.Walking.{walk-map}
use Rattle.fib_resolve.specs.Resolution.{resolve}
use Rattle.fib_resolve.specs.Tables.{fresh}
use Rattle.fib_resolve.specs.declared.types.End.{End}
use Rattle.fib_resolve.specs.declared.types.End.TheVariants as answers
use Rattle.fib_resolve.specs.declared.types.Tables.{Tables}
use Rattle.fib_core_results.specs.declared.record.Version.{Version}
use Rattle.fib_core_results.specs.Trails.{version_at, AtLeast}
use Rattle.fib_core.specs.declared.word.Word.{Word}
use Rattle.fib_core.specs.declared.word.Word.TheVariants as words
use Rattle.fib_union.specs.Unions.{owner}
use Rattle.fib_core.specs.Words.{IsWord, decoded, goes, target}
use Rattle.fib_core.specs.Walk.{IsFlow, root, asked, walk, Arrives, EndsIn}
use Rattle.fib_union.specs.Marks.{Mark, unseen, mark_at}
use Rattle.fib_core.specs.Union.{Union, Goes, Edge, Usable, PlyEdge, IsTyped, stored, scan_retired, scanned, must_retire}
use Rattle.fib_core.specs.Trails.{Load, Walked, place, IsEndOf}
use Rattle.fib_core.proofs.Numbers.{goes_of, target_of}
use Rattle.fib_core.proofs.Unions.{usable_lies, goes_stored, usable_stored, usable_stored_else, goes-scanned, retire_needed}
use Rattle.fib_core.proofs.Passes.{Along, walked-map}
use Rattle.fib_core.proofs.Walks.{arrives_on, reads_on, heads_on, heads-map, ends-map, adjacency_stored, reads_stored, heads_stored}
use Rattle.fib_core.proofs.Stands.{backed}
use Rattle.fib_core.proofs.Endings.{walk_ends}
use Rattle.fib_core_results.specs.Versions.{packed}
use Rattle.fib_core_lawful.specs.Layout.{version_word, first_cell, cell_word}
use Rattle.fib_core_lawful.specs.State.{Log, begun, settled}
use Rattle.fib_core_lawful.specs.Lawful.{IsCopied, IsWithin, IsLog, AnswersAt, IsSettled, HoldsEnds, IsTold, IsEndSince, EndsLawfully, AimsOnce}
use Rattle.fib_core_lawful.proofs.Fresh.{fresh_drops}
use Rattle.fib_core_lawful.proofs.Histories.{get_front, end_grows, end_widens, told_later}

-- a word below the cells is stored

pub copied_else : (objects i n : ℕ) (words cells : List ℕ) → i < first_cell → IsCopied objects words cells → IsCopied objects (slice_set words i n) cells
copied_else objects i n words cells low c = record { size = length-set words i n ∙ c.size; long = c.long; same = λ k lt. get_or-set_other words i (cell_word k) n 0 (omega arith) ∙ c.same k lt }

pub log_else : (i n : ℕ) (words : List ℕ) (l : Log) → version_word < i → IsLog words l → IsLog (slice_set words i n) l
log_else i n words l low g = record { packed = get_or-set_other words i version_word n 0 (omega arith) ∙ g.packed; fits = g.fits; order = g.order; long = g.long; first = g.first }

-- a load of a cell

pub aimed_start : (objects : ℕ) (u : Union) (l : Log) (lo : Version) → 0 < objects → length u.cells ≡ 16 * objects → IsWithin objects u → IsAcyclic (Edge u) → IsSettled u l → IsTold l.version lo → EndsLawfully u.cells l lo []
aimed_start objects u l lo some long within calm settled told = record {
  low = told;
  read = λ a h f. tt;
  heads = λ a h f. tt;
  right = λ a h k S f is now held. subst (Arrives u.cells a h root) ((settled k S now held).answers a h f) (walk_ends u objects a h some (λ j w g e. within.edges j w (g, inl e)) calm long);
}

pub aimed_on : (cells : List ℕ) (l : Log) (lo : Version) (t : List Load) (k found : ℕ) → found ≡ slice_index cells k → HoldsEnds cells l → EndsLawfully cells l lo t → EndsLawfully cells l lo ((k, found) ∷ t)
aimed_on cells l lo t k found is ends old = record {
  low = old.low;
  read = λ a h f. reads_on cells a h (place t) (decoded found) (there a h f.0) f.1 (old.read a h f.2);
  heads = λ a h f. heads_on (IsEndSince l lo.settled) (inl refl) cells a h (place t) (decoded found) (there a h f.0) f.1 (old.read a h f.2) since (old.heads a h f.2);
  right = λ a h m S f low now held. arrives_on cells a h (place t) (decoded found) (resolve S a h) (there a h f.0) f.1 (old.read a h f.2) (old.right a h m S f.2 low now held);
}
  where
    there : (a h : ℕ) → k ≡ asked a h (place t) → decoded found ≡ decoded (slice_index cells (asked a h (place t)))
    there a h e = ap decoded (is ∙ ap (λ i. slice_index cells i) e)

    since : EndsIn (IsEndSince l lo.settled) cells (decoded found)
    since = ends-map (IsEndOf l.history l.version.settled l.version.applied) (IsEndSince l lo.settled) cells
        (λ e x. inr (end_widens l.history l.version.settled l.version.applied lo.settled l.version.applied e old.low.last.settled (let n : ℕ = l.version.applied in let same : n ≤ n = omega arith in same) x))
        (decoded found) (subst (λ n. EndsIn (IsEndOf l.history l.version.settled l.version.applied) cells (decoded n)) (sym is) (ends k))

-- a store of a cell

pub copied_stored : (objects k w : ℕ) (words cells : List ℕ) → k < 16 * objects → IsCopied objects words cells → IsCopied objects (slice_set words (cell_word k) w) (slice_set cells k w)
copied_stored objects k w words cells small q =
    let size = q.size in
    let long = q.long in
    record {
      size = length-set words (cell_word k) w ∙ q.size;
      long = length-set cells k w ∙ q.long;
      same = λ j jlt. dite (ℕ_discrete j k)
          (λ e. subst (λ i. slice_index (slice_set words (cell_word k) w) (cell_word i) ≡ slice_index (slice_set cells k w) i) (sym e) (get_or-set_same words (cell_word k) w 0 (omega arith) ∙ sym (get_or-set_same cells k w 0 (omega arith))))
          (λ ne. get_or-set_other words (cell_word k) (cell_word j) w 0 (λ e. ne (omega arith)) ∙ q.same j jlt ∙ sym (get_or-set_other cells k j w 0 ne));
    }

pub within_stored : (objects : ℕ) (keep : Bool) (fresh : List Mark) (u : Union) (k w : ℕ) → k < length u.cells → IsWord w → (goes w ≡ true → target w < objects) → IsWithin objects u → IsWithin objects (stored keep fresh u k w)
within_stored objects keep fresh u k w room word ends old = record {
  words = λ j. dite (ℕ_discrete j k)
      (λ e. subst IsWord (sym (rw e (get_or-set_same u.cells k w 0 room))) word)
      (λ ne. subst IsWord (sym (get_or-set_other u.cells k j w 0 ne)) (old.words j));
  edges = λ j v g. ⊎_elim (λ (a : Goes u j v). old.edges j v a) (λ (q : (j ≡ k) × (v ≡ w)). subst (λ x. target x < objects) (sym q.1) (ends (ap goes (sym q.1) ∙ g.0))) (goes_stored keep fresh u k w j v g);
}

-- stored ends stay such ends: no adjacency into which the union leads is written
pub ends_stored : (P : End → Type 0) (u : Union) (k w : ℕ) → ((j v o : ℕ) → Goes u j v → decoded v ≡ words.ToAdjacency o → owner k ≢ o) → (j : ℕ) (W : Word) → decoded (slice_index u.cells j) ≡ W → EndsIn P u.cells W → EndsIn P (slice_set u.cells k w) W
ends_stored P u k w whole j words.Drop is e = tt
ends_stored P u k w whole j words.Receive is e = e
ends_stored P u k w whole j (words.Glean i) is e = e
ends_stored P u k w whole j (words.ToPly o) is e = tt
ends_stored P u k w whole j (words.ToBalance o) is e = tt
ends_stored P u k w whole j (words.ToAdjacency o) is e = subst P (sym (adjacency_stored u.cells k w o (whole j (slice_index u.cells j) o (goes_of (slice_index u.cells j) (words.ToAdjacency o) is, inl refl) is))) e
ends_stored P u k w whole j (words.Plain n) is e = tt

ends_new : (P : End → Type 0) (u : Union) (k w : ℕ) → (goes w ≡ true → Leads (Edge u) (target w) (owner k) → ⊥) → (W : Word) → decoded w ≡ W → EndsIn P u.cells W → EndsIn P (slice_set u.cells k w) W
ends_new P u k w apart words.Drop is e = tt
ends_new P u k w apart words.Receive is e = e
ends_new P u k w apart (words.Glean i) is e = e
ends_new P u k w apart (words.ToPly o) is e = tt
ends_new P u k w apart (words.ToBalance o) is e = tt
ends_new P u k w apart (words.ToAdjacency o) is e = subst P (sym (adjacency_stored u.cells k w o (λ same. apart (goes_of w (words.ToAdjacency o) is) (0, target_of w (words.ToAdjacency o) is ∙ sym same)))) e
ends_new P u k w apart (words.Plain n) is e = tt

pub all_ends_stored : (P : End → Type 0) (u : Union) (k w : ℕ) → k < length u.cells
    → ((j v o : ℕ) → Goes u j v → decoded v ≡ words.ToAdjacency o → owner k ≢ o) → (goes w ≡ true → Leads (Edge u) (target w) (owner k) → ⊥)
    → EndsIn P u.cells (decoded w) → ((j : ℕ) → EndsIn P u.cells (decoded (slice_index u.cells j)))
    → (j : ℕ) → EndsIn P (slice_set u.cells k w) (decoded (slice_index (slice_set u.cells k w) j))
all_ends_stored P u k w room whole apart new old j = dite (ℕ_discrete j k)
    (λ e. let at : slice_index (slice_set u.cells k w) j ≡ w = rw e (get_or-set_same u.cells k w 0 room) in subst (λ n. EndsIn P (slice_set u.cells k w) (decoded n)) (sym at) (ends_new P u k w apart (decoded w) refl new))
    (λ ne. let at : slice_index (slice_set u.cells k w) j ≡ slice_index u.cells j = get_or-set_other u.cells k j w 0 ne in subst (λ n. EndsIn P (slice_set u.cells k w) (decoded n)) (sym at) (ends_stored P u k w whole j (decoded (slice_index u.cells j)) refl (old j)))

-- where a version is not settled, no version is a settled one
not_level : (v : Version) (k : ℕ) → v.settled < v.applied → v ≡ version_at k → ⊥
not_level v k lt is =
    let a : v.settled ≡ k = ap (λ x. x.settled) is in
    let b : v.applied ≡ k = ap (λ x. x.applied) is in
    apart v.settled v.applied k lt a b
  where
    apart : (x y k : ℕ) → x < y → x ≡ k → y ≡ k → ⊥
    apart x y k lt a b = omega arith

pub settled_pending : (u : Union) (l : Log) → l.version.settled < l.version.applied → IsSettled u l
settled_pending u l lt k S now held = absurd (not_level l.version k lt now)

pub some_is : (x y : Tables) → Some x ≡ Some y → x ≡ y
some_is x y e = ap of_some e
  where
    of_some : Option Tables → Tables
    of_some None = x
    of_some (Some z) = z

-- the fresh table is filled while every walk drops
pub settled_filling : (u : Union) (words : List ℕ) (l : Log) → l.version ≡ version_at 0 → IsLog words l → ((a h : ℕ) → IsFlow a h → walk u.cells a h ≡ answers.Drop) → IsSettled u l
settled_filling u words l zero_is g drops k S now held =
    let k0 : k ≡ 0 = ap (λ v. v.applied) (sym now ∙ zero_is) in
    let S0 : S ≡ fresh = some_is S fresh (sym held ∙ ap (slice_get l.history) k0 ∙ g.first) in
    record {
      answers = λ a h f. drops a h f ∙ sym (ap (λ T. resolve T a h) S0 ∙ fresh_drops a h);
      quiet = λ lt. absurd (none k k0 lt);
    }
  where
    none : (k : ℕ) → k ≡ 0 → 0 < k → ⊥
    none k e lt = omega arith

pub aimed_stored : (u : Union) (l : Log) (lo : Version) (t : List Load) (n p k w : ℕ) → ((j v o : ℕ) → Goes u j v → decoded v ≡ words.ToAdjacency o → owner k ≢ o) → l.version.settled < l.version.applied → Walked (Usable u n p) t → EndsLawfully u.cells l lo t → EndsLawfully (slice_set u.cells k w) l lo t
aimed_stored u l lo t n p k w whole lt walked old = record {
  low = old.low;
  read = λ a h f. reads_stored u k w whole (place t) (backed u n p a h t f walked) (old.read a h f);
  heads = λ a h f. heads_stored (IsEndSince l lo.settled) u k w whole (place t) (backed u n p a h t f walked) (old.heads a h f);
  right = λ a h m S f low now held. absurd (not_level l.version m lt now);
}

pub aims_stored : (u : Union) (l : Log) (lo : Version) (t : List Load) (n p k w : ℕ) → ((j v o : ℕ) → Goes u j v → decoded v ≡ words.ToAdjacency o → owner k ≢ o) → l.version.settled < l.version.applied → Walked (Usable u n p) t → AimsOnce u.cells l lo t → AimsOnce (slice_set u.cells k w) l lo t
aims_stored u l lo [] n p k w whole lt walked old = tt
aims_stored u l lo (x ∷ t) n p k w whole lt walked old = aimed_stored u l lo (x ∷ t) n p k w whole lt walked old

-- running passes walk the union after a store
pub walked_stored : (b : Bool) (fresh : List Mark) (u : Union) (k w n p : ℕ) (t : List Load) → must_retire u k ≡ b → mark_at fresh n ≡ unseen → Walked (Usable u n p) t → Walked (Usable (stored b fresh u k w) n p) t
walked_stored true fresh u k w n p t is new walked = walked-map (Usable u n p) (Usable (stored true fresh u k w) n p) (λ i v going led ok. usable_stored fresh u k w n p i v new going ok) t walked
walked_stored false fresh u k w n p t is new walked =
    let alone = retire_needed u k is in
    walked-map (Usable u n p) (Usable (stored false fresh u k w) n p)
    (λ i v going led ok. usable_stored_else false fresh u k w n p i v
    (λ e. ⊎_elim (λ (z : owner i ≡ 0). alone.0 (ap owner (sym e) ∙ z))
    (λ (x : (x : ℕ) × Along (Usable u n p) x (owner i)). alone.1 x.1.0 x.1.1 (x.1.4, usable_lies u n p x.1.0 x.1.1 x.1.5) (x.1.3 ∙ ap owner e)) led) ok)
    t walked

pub fresh_unseen : (workers n : ℕ) → n < workers → mark_at (replicate workers unseen) n ≡ unseen
fresh_unseen zero n lt = absurd (none n lt)
  where
    none : (n : ℕ) → n < 0 → ⊥
    none n lt = omega arith
fresh_unseen (suc m) zero lt = refl
fresh_unseen (suc m) (suc n) lt = fresh_unseen m n (less n m lt)
  where
    less : (n m : ℕ) → suc n < suc m → n < m
    less n m lt = omega arith

-- a scan

pub typed-scanned : (u : Union) (n w : ℕ) → IsTyped u → IsTyped (scanned u n w)
typed-scanned u n w t = record {
  one_tag = λ k v j x g q e. t.one_tag k v j x (goes-scanned u n w k v g) (goes-scanned u n w j x q) e;
  rootless = λ k v g e. t.rootless k v (goes-scanned u n w k v g) e;
  plies = λ k v j x g is q e. t.plies k v j x (goes-scanned u n w k v g) is (goes-scanned u n w j x q) e;
  shallow = λ d y walk. t.shallow d y (walk-map (PlyEdge (scanned u n w)) (PlyEdge u) (λ a b e. (e.0, e.1, e.2, e.3, goes-scanned u n w e.0 e.1 e.4)) d 0 y walk);
  root = t.root;
  formed = λ k v s g lt. t.formed k v s (goes-scanned u n w k v g) lt;
}

pub settled-scanned : (u : Union) (n w : ℕ) (l : Log) → IsSettled u l → IsSettled (scanned u n w) l
settled-scanned u n w l s k S now held = record {
  answers = (s k S now held).answers;
  quiet = λ lt. ap (λ rs. scan_retired n w rs) ((s k S now held).quiet lt);
}

-- a version begins

pub log_begun : (words : List ℕ) (l : Log) (S : Tables) (w : ℕ) → w ≡ packed (begun l S).version → l.version.applied + 1 < 2 ^ 32 → 0 < length words → IsLog words l → IsLog (slice_set words version_word w) (begun l S)
log_begun words l S w is room some g =
    let long = g.long in
    let order = g.order in
    record {
      packed = get_or-set_same words version_word w 0 some ∙ is;
      fits = room;
      order = omega arith;
      long = (let n = length-append l.history (S ∷ []) in omega arith);
      first = get_front l.history (S ∷ []) 0 (omega arith) ∙ g.first;
    }

pub begun_later : (l : Log) (S : Tables) → AtLeast l.version (begun l S).version
begun_later l S = record { settled = same l.version.settled; applied = more l.version.applied }
  where
    same : (n : ℕ) → n ≤ n
    same n = omega arith

    more : (n : ℕ) → n ≤ n + 1
    more n = omega arith

begun_pending : (l : Log) (S : Tables) → l.version.settled ≤ l.version.applied → (begun l S).version.settled < (begun l S).version.applied
begun_pending l S le = omega arith

pub settled_begun : (u : Union) (l : Log) (S : Tables) → l.version.settled ≤ l.version.applied → IsSettled u (begun l S)
settled_begun u l S le = settled_pending u (begun l S) (begun_pending l S le)

pub ends_begun : (cells : List ℕ) (l : Log) (S : Tables) → HoldsEnds cells l → HoldsEnds cells (begun l S)
ends_begun cells l S old k = ends-map (IsEndOf l.history l.version.settled l.version.applied) (IsEndOf (begun l S).history l.version.settled (l.version.applied + 1)) cells
    (λ e x. end_grows l.history S l.version.settled l.version.applied l.version.settled (l.version.applied + 1) e (begun_later l S).settled (begun_later l S).applied x)
    (decoded (slice_index cells k)) (old k)

pub aims_begun : (cells : List ℕ) (l : Log) (S : Tables) (lo : Version) (t : List Load) → l.version.settled ≤ l.version.applied → AimsOnce cells l lo t → AimsOnce cells (begun l S) lo t
aims_begun cells l S lo [] le old = tt
aims_begun cells l S lo (x ∷ t) le old = record {
  low = told_later l.version (begun l S).version lo (begun_later l S) old.low;
  read = old.read;
  heads = λ a h f. heads-map (IsEndSince l lo.settled) (IsEndSince (begun l S) lo.settled) cells
      (λ e s. ⊎_elim (λ (d : e ≡ answers.Drop). inl d) (λ (y : IsEndOf l.history lo.settled l.version.applied e). inr (end_grows l.history S lo.settled l.version.applied lo.settled (l.version.applied + 1) e (same lo.settled) (begun_later l S).applied y)) s)
      (place (x ∷ t)) (old.heads a h f);
  right = λ a h m T f low now held. absurd (not_level (begun l S).version m (begun_pending l S le) now);
}
  where
    same : (n : ℕ) → n ≤ n
    same n = omega arith

-- a version is settled

pub log_settled : (words : List ℕ) (l : Log) (w : ℕ) → w ≡ packed (settled l).version → 0 < length words → IsLog words l → IsLog (slice_set words version_word w) (settled l)
log_settled words l w is some g = record { packed = get_or-set_same words version_word w 0 some ∙ is; fits = g.fits; order = same l.version.applied; long = g.long; first = g.first }
  where
    same : (n : ℕ) → n ≤ n
    same n = omega arith

pub settled_later : (l : Log) → l.version.settled ≤ l.version.applied → AtLeast l.version (settled l).version
settled_later l le = record { settled = le; applied = same l.version.applied }
  where
    same : (n : ℕ) → n ≤ n
    same n = omega arith

pub settled_now : (u : Union) (l : Log) (S : Tables) → slice_get l.history l.version.applied ≡ Some S → u.retired ≡ [] → ((a h : ℕ) → IsFlow a h → walk u.cells a h ≡ resolve S a h) → IsSettled u (settled l)
settled_now u l S held quiet answers k T now held' =
    let at : l.version.applied ≡ k = ap (λ v. v.applied) now in
    let same : Some S ≡ Some T = sym held ∙ ap (slice_get l.history) at ∙ held' in
    subst (AnswersAt u k) (some_is S T same) (record { answers = answers; quiet = λ lt. quiet })

pub aims_settled : (cells : List ℕ) (l : Log) (lo : Version) (t : List Load) → l.version.settled ≤ l.version.applied → AimsOnce cells l lo t → AimsOnce cells (settled l) lo t
aims_settled cells l lo [] le old = tt
aims_settled cells l lo (x ∷ t) le old = record {
  low = told_later l.version (settled l).version lo (settled_later l le) old.low;
  read = old.read;
  heads = old.heads;
  right = λ a h k S f is now held. old.right a h k S f is (level k is now) held;
}
  where
    between : (x y s k : ℕ) → x ≤ s → x ≡ k → s ≤ y → y ≡ k → s ≡ k
    between x y s k a b c d = omega arith

    level : (k : ℕ) → lo ≡ version_at k → (settled l).version ≡ version_at k → l.version ≡ version_at k
    level k is now =
        let a : lo.settled ≡ k = ap (λ v. v.settled) is in
        let b : l.version.applied ≡ k = ap (λ v. v.applied) now in
        let c : l.version.settled ≡ k = between lo.settled l.version.applied l.version.settled k old.low.last.settled a le b in
        λ i. record { settled = c i; applied = b i }
