-- Walks over cells, and how one more load brings a trail on.
use Rattle.std.proofs.Common.{◌≡◌, ◌≢◌, ℕ, zero, suc, ◌+◌, ◌*◌, ◌<◌, Bool, true, false, List, [], ◌∷◌, refl, sym, ap, ◌∙◌, subst, arith, get_or-set_other}
use Rattle.std.specs.Prelude.{slice_index, slice_set, nat_lt, if◌then◌else◌}
use Rattle.fib_reach.specs.Walks.{Walk}
use Rattle.fib_resolve.specs.declared.types.End.{End}
use Rattle.fib_resolve.specs.declared.types.End.TheVariants as answers
use Rattle.fib_core.specs.declared.word.Word.{Word}
use Rattle.fib_core.specs.declared.word.Word.TheVariants as words
use Rattle.fib_union.specs.Unions.{owner}
use Rattle.fib_core.specs.Words.{decoded}
use Rattle.fib_core.specs.Walk.{word_at, Place, ply, balance, adjacency, ended, asked, hop_of, from_ply, from_balance, next, adjacency_end, stepped, after, end_at, Arrives, ReadsWhole, Heads, EndsIn}
use Rattle.fib_core.specs.Union.{Union, Goes, PlyEdge}
use Rattle.fib_core.specs.Trails.{IsGoing}
use Rattle.fib_core.proofs.Numbers.{owner_of}

module _ (cells : List ℕ) (a h : ℕ) where
  pub after_ended : (n : ℕ) (e : End) → after cells a h n (ended e) ≡ ended e
  after_ended zero e = refl
  after_ended (suc n) e = after_ended n e

  -- a walk has one end
  pub arrives_once : (n m : ℕ) (p : Place) (e f : End) → after cells a h n p ≡ ended e → after cells a h m p ≡ ended f → e ≡ f
  arrives_once zero m p e f x y = ap end_at (sym (after_ended m e) ∙ ap (after cells a h m) (sym x) ∙ y)
  arrives_once (suc n) zero p e f x y = ap end_at (sym x ∙ ap (after cells a h (suc n)) y ∙ after_ended n f)
  arrives_once (suc n) (suc m) p e f x y = arrives_once n m (stepped cells a h p) e f x y

  not_ended : (p : Place) (e : End) → IsGoing p → p ≡ ended e → ⊥
  not_ended p e going is = subst IsGoing is going

  -- where the pass stands the walk ends so: after one more load too
  pub arrives_on : (p : Place) (w : Word) (e : End) → w ≡ decoded (slice_index cells (asked a h p)) → IsGoing p → ReadsWhole cells p → Arrives cells a h p e → Arrives cells a h (next p w) e
  arrives_on (ply o d) w e is going read (zero, x) = absurd (not_ended (ply o d) e tt x)
  arrives_on (ply o d) w e is going read (suc n, x) = subst (λ v. Arrives cells a h (from_ply d v) e) (sym is) (n, x)
  arrives_on (balance o m) w e is going read (zero, x) = absurd (not_ended (balance o m) e tt x)
  arrives_on (balance o m) w e is going read (suc n, x) = subst (λ v. Arrives cells a h (from_balance m v) e) (sym is) (n, x)
  arrives_on (adjacency o ws) w e is going read (zero, x) = absurd (not_ended (adjacency o ws) e tt x)
  arrives_on (adjacency o []) w e is going read (suc n, x) = (suc n, x)
  arrives_on (adjacency o (i ∷ [])) w e is going read (suc n, x) = (suc n, x)
  arrives_on (adjacency o (i ∷ g ∷ [])) w e is going read (suc n, x) =
      (n, ap (λ f. after cells a h n (ended f)) (ap (λ v. hop_of v g w) (sym read.0) ∙ ap (λ v. hop_of (word_at cells o 0) v w) (sym read.1) ∙ ap (hop_of (word_at cells o 0) (word_at cells o 1)) is) ∙ x)
  arrives_on (adjacency o (i ∷ g ∷ v ∷ ws)) w e is going read (suc n, x) = absurd read
  arrives_on (ended f) w e is going read x = absurd going

  -- an adjacency is read whole
  reads_deeper : (d o : ℕ) (b : Bool) → nat_lt d 7 ≡ b → ReadsWhole cells (if b then ply o (suc d) else ended answers.Drop)
  reads_deeper d o true is = tt
  reads_deeper d o false is = tt

  reads_ply : (d : ℕ) (w : Word) → ReadsWhole cells (from_ply d w)
  reads_ply d (words.ToPly o) = reads_deeper d o (nat_lt d 7) refl
  reads_ply d (words.ToBalance o) = tt
  reads_ply d words.Drop = tt
  reads_ply d words.Receive = tt
  reads_ply d (words.Glean i) = tt
  reads_ply d (words.ToAdjacency o) = tt
  reads_ply d (words.Plain n) = tt

  reads_balance : (m : ℕ) (w : Word) → ReadsWhole cells (from_balance m w)
  reads_balance m (words.ToPly o) = tt
  reads_balance m (words.ToBalance o) = tt
  reads_balance m words.Drop = tt
  reads_balance m words.Receive = tt
  reads_balance m (words.Glean i) = tt
  reads_balance m (words.ToAdjacency o) = tt
  reads_balance m (words.Plain n) = tt

  pub reads_on : (p : Place) (w : Word) → w ≡ decoded (slice_index cells (asked a h p)) → IsGoing p → ReadsWhole cells p → ReadsWhole cells (next p w)
  reads_on (ply o d) w is going read = reads_ply d w
  reads_on (balance o m) w is going read = reads_balance m w
  reads_on (adjacency o []) w is going read = let same : 16 * o + 0 ≡ 16 * o = omega arith in sym is
  reads_on (adjacency o (i ∷ [])) w is going read = (read, sym is)
  reads_on (adjacency o (i ∷ g ∷ [])) w is going read = tt
  reads_on (adjacency o (i ∷ g ∷ v ∷ ws)) w is going read = absurd read
  reads_on (ended f) w is going read = absurd going

-- the end that the walk has, or will have, is one of these
module _ (P : End → Type 0) (dropped : P answers.Drop) (cells : List ℕ) where
  heads_deeper : (d o : ℕ) (b : Bool) → Heads P cells (if b then ply o (suc d) else ended answers.Drop)
  heads_deeper d o true = tt
  heads_deeper d o false = dropped

  heads_ply : (d : ℕ) (w : Word) → Heads P cells (from_ply d w)
  heads_ply d (words.ToPly o) = heads_deeper d o (nat_lt d 7)
  heads_ply d (words.ToBalance o) = tt
  heads_ply d words.Drop = dropped
  heads_ply d words.Receive = dropped
  heads_ply d (words.Glean i) = dropped
  heads_ply d (words.ToAdjacency o) = dropped
  heads_ply d (words.Plain n) = dropped

  heads_balance : (m : ℕ) (w : Word) → EndsIn P cells w → Heads P cells (from_balance m w)
  heads_balance m (words.ToPly o) e = dropped
  heads_balance m (words.ToBalance o) e = tt
  heads_balance m words.Drop e = dropped
  heads_balance m words.Receive e = e
  heads_balance m (words.Glean i) e = e
  heads_balance m (words.ToAdjacency o) e = e
  heads_balance m (words.Plain n) e = dropped

  pub heads_on : (a h : ℕ) (p : Place) (w : Word) → w ≡ decoded (slice_index cells (asked a h p)) → IsGoing p → ReadsWhole cells p → EndsIn P cells w → Heads P cells p → Heads P cells (next p w)
  heads_on a h (ply o d) w is going read e head = heads_ply d w
  heads_on a h (balance o m) w is going read e head = heads_balance m w e
  heads_on a h (adjacency o []) w is going read e head = head
  heads_on a h (adjacency o (i ∷ [])) w is going read e head = head
  heads_on a h (adjacency o (i ∷ g ∷ [])) w is going read e head = subst P (sym (ap (λ v. hop_of v g w) (sym read.0) ∙ ap (λ v. hop_of (word_at cells o 0) v w) (sym read.1) ∙ ap (hop_of (word_at cells o 0) (word_at cells o 1)) is)) head
  heads_on a h (adjacency o (i ∷ g ∷ v ∷ ws)) w is going read e head = absurd read
  heads_on a h (ended f) w is going read e head = absurd going

-- a fact on ends is a fact on more ends
pub heads-map : (P Q : End → Type 0) (cells : List ℕ) → ((e : End) → P e → Q e) → (p : Place) → Heads P cells p → Heads Q cells p
heads-map P Q cells f (ended e) h = f e h
heads-map P Q cells f (adjacency o ws) h = f (adjacency_end cells o) h
heads-map P Q cells f (ply o d) h = tt
heads-map P Q cells f (balance o n) h = tt

pub ends-map : (P Q : End → Type 0) (cells : List ℕ) → ((e : End) → P e → Q e) → (w : Word) → EndsIn P cells w → EndsIn Q cells w
ends-map P Q cells f words.Receive h = f answers.Receive h
ends-map P Q cells f (words.Glean i) h = f (answers.Glean i) h
ends-map P Q cells f (words.ToAdjacency o) h = f (adjacency_end cells o) h
ends-map P Q cells f words.Drop h = tt
ends-map P Q cells f (words.ToPly o) h = tt
ends-map P Q cells f (words.ToBalance o) h = tt
ends-map P Q cells f (words.Plain n) h = tt

-- a store into another object leaves an adjacency's words alone
pub word_stored : (cells : List ℕ) (k w o s : ℕ) → s < 16 → owner k ≢ o → word_at (slice_set cells k w) o s ≡ word_at cells o s
word_stored cells k w o s lt ne = ap decoded (get_or-set_other cells k (16 * o + s) w 0 (λ e. ne (ap owner (sym e) ∙ owner_of o s lt)))

pub adjacency_stored : (cells : List ℕ) (k w o : ℕ) → owner k ≢ o → adjacency_end (slice_set cells k w) o ≡ adjacency_end cells o
adjacency_stored cells k w o ne =
    ap (λ x. hop_of x (word_at (slice_set cells k w) o 1) (word_at (slice_set cells k w) o 2)) (word_stored cells k w o 0 (omega arith) ne)
    ∙ ap (λ x. hop_of (word_at cells o 0) x (word_at (slice_set cells k w) o 2)) (word_stored cells k w o 1 (omega arith) ne)
    ∙ ap (hop_of (word_at cells o 0) (word_at cells o 1)) (word_stored cells k w o 2 (omega arith) ne)

-- where a pass stands at an adjacency an edge of the union leads to it; a ply lies as deep as plies' edges of the union lead
abbrev pub Backed : Union → Place → Type 0
Backed u (adjacency o ws) = (k : ℕ) × (w : ℕ) × (decoded w ≡ words.ToAdjacency o) × Goes u k w
Backed u (ply o d) = Walk (PlyEdge u) d 0 o
Backed u (balance o n) = (k : ℕ) × (w : ℕ) × (decoded w ≡ words.ToBalance o) × Goes u k w
Backed u (ended e) = Unit {0}

pub reads_stored : (u : Union) (k w : ℕ) → ((j v o : ℕ) → Goes u j v → decoded v ≡ words.ToAdjacency o → owner k ≢ o) → (p : Place) → Backed u p → ReadsWhole u.cells p → ReadsWhole (slice_set u.cells k w) p
reads_stored u k w apart (ply o d) b r = tt
reads_stored u k w apart (balance o n) b r = tt
reads_stored u k w apart (ended e) b r = tt
reads_stored u k w apart (adjacency o []) b r = tt
reads_stored u k w apart (adjacency o (i ∷ [])) b r = word_stored u.cells k w o 0 (omega arith) (apart b.0 b.1 o b.3 b.2) ∙ r
reads_stored u k w apart (adjacency o (i ∷ g ∷ [])) b r = (word_stored u.cells k w o 0 (omega arith) (apart b.0 b.1 o b.3 b.2) ∙ r.0, word_stored u.cells k w o 1 (omega arith) (apart b.0 b.1 o b.3 b.2) ∙ r.1)
reads_stored u k w apart (adjacency o (i ∷ g ∷ v ∷ ws)) b r = absurd r

pub heads_stored : (P : End → Type 0) (u : Union) (k w : ℕ) → ((j v o : ℕ) → Goes u j v → decoded v ≡ words.ToAdjacency o → owner k ≢ o) → (p : Place) → Backed u p → Heads P u.cells p → Heads P (slice_set u.cells k w) p
heads_stored P u k w apart (ply o d) b h = tt
heads_stored P u k w apart (balance o n) b h = tt
heads_stored P u k w apart (ended e) b h = h
heads_stored P u k w apart (adjacency o ws) b h = subst P (sym (adjacency_stored u.cells k w o (apart b.0 b.1 o b.3 b.2))) h
