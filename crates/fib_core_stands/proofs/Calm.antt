-- Cells that stand for well-formed tables have no cycle: plies lead to deeper plies and to balances, balances along the ways of resolution, which come to an
-- end, and adjacencies nowhere.
use Rattle.std.proofs.Common.{◌≡◌, ℕ, zero, suc, ◌+◌, ◌*◌, ◌/◌, ◌%◌, ◌<◌, ◌≤◌, ◌⊎◌, inl, inr, ⊎_elim, Bool, true, false, true≢false, List, [], ◌∷◌, length, refl, sym, ap, ◌∙◌, subst, arith}
use Rattle.std.specs.Prelude.{Contains, slice_index, slice_get, filter, nat_le, not, Option, Some, None, IfSome, ◌==◌, if◌then◌else◌}
use Rattle.std.specs.Set.{is_member}
use Rattle.std.proofs.lemmas.Bool.{false≢true}
use Rattle.std.proofs.lemmas.List.{get_or_past}
use Rattle.std.proofs.lemmas.Map.Views.{Contains-from_any}
use mathlib.Core.Logic.{dite}
use native.Mathlib.Decide.{dec_lt}
use Rattle.fib_base_list.proofs.Booleans.{and_both}
use Rattle.fib_base_list.proofs.Lists.{either, Contains-nil}
use Rattle.fib_addr.specs.Prefixes.{Prefix, host, same_prefix}
use Rattle.fib_addr.specs.Longest.{everything, longest, longer}
use Rattle.fib_addr.proofs.PrefixLaws.{same_prefix-Decides}
use Rattle.fib_reach.specs.Walks.{Walk, Reaches, IsAcyclic}
use Rattle.fib_reach.proofs.Walking.{edge_reaches, reaches_leads, reaches_then}
use Rattle.fib_resolve.specs.Buckets.{wanted}
use Rattle.fib_resolve.specs.Forwarding.{forwards, usable, usable_kind}
use Rattle.fib_resolve.specs.Loops.{Kept}
use Rattle.fib_resolve.specs.Pairs.{entries, chosen, cover}
use Rattle.fib_resolve.specs.Sizes.{plies}
use Rattle.fib_resolve.specs.Tables.{IsSound}
use Rattle.fib_resolve.specs.declared.pairs.Adjacency.{Adjacency}
use Rattle.fib_resolve.specs.declared.types.Path.{Path}
use Rattle.fib_resolve.specs.declared.types.PathKind.{PathKind}
use Rattle.fib_resolve.specs.declared.types.PathKind.TheVariants as kinds
use Rattle.fib_resolve.specs.declared.types.Tables.{Tables}
use Rattle.fib_resolve.proofs.KeptEdges.{kept_acyclic}
use Rattle.fib_resolve.proofs.Taken.{IsWanted}
use Rattle.fib_union.specs.Unions.{owner}
use Rattle.fib_core.specs.declared.word.Word.{Word}
use Rattle.fib_core.specs.declared.word.Word.TheVariants as words
use Rattle.fib_core.specs.Words.{decoded, goes, is_edge, target, value_of}
use Rattle.fib_core.specs.Walk.{word_at}
use Rattle.fib_core.specs.Union.{Union, Edge}
use Rattle.fib_core.specs.StandsFor.{Thing, ply_of, balance_of, adjacency_of, IsCounted, below, covering, ply_word, kind_word, bucket_word, mac_word, adjacency_word, thing_word, StandsFor}
use Rattle.fib_core.proofs.Numbers.{decoded-zero, goes_of, owner_of, target_of}
use Rattle.fib_core_stands.proofs.Balances.{low16}
use Rattle.fib_core_stands.proofs.Listed.{at_bucket, adjacency_listed, cover_entry, first_in, recursive_entry}
use Rattle.fib_core_stands.proofs.Nibbles.{everything_entry}

-- ---- where words lead

-- a longest match is one of the prefixes, or that of every address
longer_one : (ps : List Prefix) (b : Bool) (p q : Prefix) → Contains ps q ⊎ (q ≡ everything)
    → Contains (p ∷ ps) (if b then p else q) ⊎ ((if b then p else q) ≡ everything)
longer_one ps true p q r = inl (first_in p ps)
longer_one ps false p q (inl c) = inl (suc c.0, (let lt = c.1 in omega arith), c.2)
longer_one ps false p q (inr e) = inr e

longest_one : (a : ℕ) (ps : List Prefix) → Contains ps (longest a ps) ⊎ (longest a ps ≡ everything)
unfolding longest longer
longest_one a [] = inr refl
longest_one a (p ∷ ps) = longer_one ps _ p (longest a ps) (longest_one a ps)

filtered_one : {A : Type 0} (f : A → Bool) (y : A) (ys : List A) (x : A) (b : Bool) → (Contains (filter f ys) x → Contains ys x)
    → Contains (if b then y ∷ filter f ys else filter f ys) x → Contains (y ∷ ys) x
filtered_one f y ys x true more (zero, lt, is) = (zero, omega arith, is)
filtered_one f y ys x true more (suc k, lt, is) = (let c = more (k, (omega (arith, lt)), is) in let low = c.1 in (suc c.0, omega arith, c.2))
filtered_one f y ys x false more c = (let d = more c in let low = d.1 in (suc d.0, omega arith, d.2))

filtered : {A : Type 0} (f : A → Bool) (xs : List A) (x : A) → Contains (filter f xs) x → Contains xs x
filtered f [] x c = c
filtered f (y ∷ ys) x c = filtered_one f y ys x (f y) (filtered f ys x) c

covering_entry : (S : Tables) (q : Prefix) → Contains (entries S) (covering S q)
covering_entry S q = elim (longest_one q.bits (filter (λ e. nat_le e.len q.len) (entries S))) [
  | inl c ↦ filtered (λ e. nat_le e.len q.len) (entries S) (covering S q) c
  | inr e ↦ subst (Contains (entries S)) (sym e) (everything_entry S)
]

-- a taken path that goes on has an edge that is left without looped paths
recursive_kept : (S : Tables) (e : Prefix) (p : Path) (a : ℕ) → IsWanted S e p → p.kind ≡ kinds.Recursive a → Kept S e (host a)
unfolding usable
recursive_kept S e p a t k =
    let u = subst (λ kind. usable_kind S (forwards S) e p.need kind ≡ true) k t.1 in
    (p, t.0, rw k ((and_both _ _ u).0), rw k (first_in (host a) []))

cover_kept : (S : Tables) (e : Prefix) (p : Path) → IsWanted S e p → p.kind ≡ kinds.Cover → Kept S e (cover S e.bits)
cover_kept S e p t k = (p, t.0, rw k refl, rw k (first_in (cover S e.bits) []))

-- one thing's words lead to the other
abbrev Below : Tables → Thing → Thing → Type 0
Below S (ply_of p) (ply_of q) = p.len < q.len
Below S (ply_of p) (balance_of f) = Unit {0}
Below S (ply_of p) (adjacency_of y) = Unit {0}
Below S (balance_of e) (ply_of q) = ⊥
Below S (balance_of e) (balance_of f) = Reaches (Kept S) e f
Below S (balance_of e) (adjacency_of y) = Unit {0}
Below S (adjacency_of x) Y = ⊥

below_then : (S : Tables) (X Y Z : Thing) → Below S X Y → Below S Y Z → Below S X Z
below_then S (ply_of p) (ply_of q) (ply_of r) u v = (omega (arith, u, v))
below_then S (ply_of p) (ply_of q) (balance_of f) u v = tt
below_then S (ply_of p) (ply_of q) (adjacency_of y) u v = tt
below_then S (ply_of p) (balance_of e) (ply_of r) u v = absurd v
below_then S (ply_of p) (balance_of e) (balance_of f) u v = tt
below_then S (ply_of p) (balance_of e) (adjacency_of y) u v = tt
below_then S (ply_of p) (adjacency_of x) Z u v = absurd v
below_then S (balance_of e) (ply_of q) Z u v = absurd u
below_then S (balance_of e) (balance_of f) (ply_of r) u v = absurd v
below_then S (balance_of e) (balance_of f) (balance_of g) u v = reaches_both (Kept S) e f g u v
  where
    reaches_both : (E : Prefix → Prefix → Type 0) (x y z : Prefix) → Reaches E x y → Reaches E y z → Reaches E x z
    reaches_both E x y z a b = reaches_then E x y z a (reaches_leads E y z b)
below_then S (balance_of e) (balance_of f) (adjacency_of y) u v = tt
below_then S (balance_of e) (adjacency_of x) Z u v = absurd v
below_then S (adjacency_of x) Y Z u v = absurd u

below_self : (S : Tables) → IsSound S → (X : Thing) → Below S X X → ⊥
below_self S sound (ply_of p) u = omega (arith, u)
below_self S sound (balance_of e) u = kept_acyclic S sound e u
below_self S sound (adjacency_of x) u = u

module _ (cells : List ℕ) (names : Thing → ℕ) (S : Tables) (stands : StandsFor cells names S) where
  -- an edge's word leads to a thing below
  record Next (X : Thing) (W : Word) : Type 0 where
    to : Thing
    counted : IsCounted S to
    named : names to ≡ value_of W
    under : Below S X to

  ply_next : (p : Prefix) (s : ℕ) (b : Bool) → is_member same_prefix (plies S) (below p s) ≡ b
      → Next (ply_of p) (if b then words.ToPly (names (ply_of (below p s))) else words.ToBalance (names (balance_of (covering S (below p s)))))
  ply_next p s true is = record {
    to = ply_of (below p s);
    counted = Contains-from_any (λ x y. (same_prefix-Decides x y).0) (below p s) (plies S) is;
    named = refl;
    under = omega arith;
  }
  ply_next p s false is = record { to = balance_of (covering S (below p s)); counted = covering_entry S (below p s); named = refl; under = tt }

  attached_next : (e : Prefix) (p : Path) (i : ℕ) (b : Bool) → IsWanted S e p → p.kind ≡ kinds.Attached i → (e.len == 32) ≡ b
      → is_edge (if b then words.ToAdjacency (names (adjacency_of (record { interface = i; next_hop = e.bits }))) else words.Glean i) ≡ true
      → Next (balance_of e) (if b then words.ToAdjacency (names (adjacency_of (record { interface = i; next_hop = e.bits }))) else words.Glean i)
  attached_next e p i true t k is edge = record {
    to = adjacency_of (record { interface = i; next_hop = e.bits });
    counted = adjacency_listed S e p (record { interface = i; next_hop = e.bits }) t.0 (rw k (rw is (first_in (record { interface = i; next_hop = e.bits }) [])));
    named = refl;
    under = tt;
  }
  attached_next e p i false t k is edge = absurd (false≢true edge)

  kind_next : (e : Prefix) (p : Path) (kind : PathKind) → p.kind ≡ kind → IsWanted S e p → is_edge (kind_word names S e kind) ≡ true → Next (balance_of e) (kind_word names S e kind)
  kind_next e p kinds.Drop k t edge = absurd (false≢true edge)
  kind_next e p kinds.Local k t edge = absurd (false≢true edge)
  kind_next e p (kinds.Attached i) k t edge = attached_next e p i (e.len == 32) t k refl edge
  kind_next e p (kinds.Hop a i) k t edge = record {
    to = adjacency_of (record { interface = i; next_hop = a });
    counted = adjacency_listed S e p (record { interface = i; next_hop = a }) t.0 (rw k (first_in (record { interface = i; next_hop = a }) []));
    named = refl;
    under = tt;
  }
  kind_next e p (kinds.Recursive a) k t edge = record {
    to = balance_of (host a);
    counted = recursive_entry S e p a t k;
    named = refl;
    under = edge_reaches (Kept S) e (host a) (recursive_kept S e p a t k);
  }
  kind_next e p kinds.Cover k t edge = record {
    to = balance_of (cover S e.bits);
    counted = cover_entry S e p t k;
    named = refl;
    under = edge_reaches (Kept S) e (cover S e.bits) (cover_kept S e p t k);
  }

  bucket_next : (e : Prefix) (o : Option Path) → IfSome o (IsWanted S e) → is_edge (bucket_word names S e o) ≡ true → Next (balance_of e) (bucket_word names S e o)
  bucket_next e None t edge = absurd (false≢true edge)
  bucket_next e (Some p) t edge = kind_next e p p.kind refl t edge

  no_mac_edge : (m : Option ℕ) → is_edge (mac_word m) ≡ true → ⊥
  no_mac_edge None edge = false≢true edge
  no_mac_edge (Some m) edge = false≢true edge

  no_edge : (x : Adjacency) (s : ℕ) → is_edge (adjacency_word S x s) ≡ true → ⊥
  no_edge x zero edge = false≢true edge
  no_edge x (suc zero) edge = false≢true edge
  no_edge x (suc (suc zero)) edge = no_mac_edge _ edge
  no_edge x (suc (suc (suc s))) edge = false≢true edge

  thing_next : (X : Thing) (s : ℕ) → is_edge (thing_word names S X s) ≡ true → Next X (thing_word names S X s)
  thing_next (ply_of p) s edge = ply_next p s (is_member same_prefix (plies S) (below p s)) refl
  thing_next (balance_of e) s edge = bucket_next e (slice_get (wanted S e) s) (at_bucket S e s) edge
  thing_next (adjacency_of x) s edge = absurd (no_edge x s edge)

  -- ---- where cells lead

  record Leads (X : Thing) (w : ℕ) : Type 0 where
    to : Thing
    counted : IsCounted S to
    named : names to ≡ target w
    under : Below S X to

  back : (k : ℕ) → 16 * (k / 16) + k % 16 ≡ k
  back k = omega arith

  owned : (k : ℕ) → owner k ≡ k / 16
  owned k = ap owner (sym (back k)) ∙ owner_of (k / 16) (k % 16) (low16 k)

  said : (k w : ℕ) → slice_index cells k ≡ w → decoded w ≡ word_at cells (k / 16) (k % 16)
  said k w is = ap decoded (sym is) ∙ ap (λ i. decoded (slice_index cells i)) (sym (back k))

  thing_leads : (X : Thing) (k w : ℕ) → IsCounted S X → names X ≡ owner k → slice_index cells k ≡ w → goes w ≡ true → Leads X w
  thing_leads X k w c named is going =
      let here : decoded w ≡ thing_word names S X (k % 16) =
      said k w is ∙ ap (λ o. word_at cells o (k % 16)) (sym (named ∙ owned k)) ∙ stands.holds X (k % 16) c (low16 k) in
      let n = thing_next X (k % 16) (sym (goes_of w (thing_word names S X (k % 16)) here) ∙ going) in
      record { to = n.to; counted = n.counted; named = n.named ∙ sym (target_of w (thing_word names S X (k % 16)) here); under = n.under }

  -- an edge leaves no free object
  never_zero : (w : ℕ) → decoded w ≡ words.Drop → goes w ≡ true → ⊥
  never_zero w none going = true≢false (sym going ∙ goes_of w words.Drop none)

  begins : (objects : ℕ) → length cells ≡ 16 * objects → (k w : ℕ) → slice_index cells k ≡ w → goes w ≡ true → (X : Thing) × IsCounted S X × (names X ≡ owner k)
  begins objects long k w is going = dite (dec_lt (k / 16) (length cells / 16))
      (λ lt. elim (stands.others (k / 16) lt) [
        | inl n ↦ (n.0, n.1, n.2 ∙ sym (owned k))
        | inr free ↦ absurd (never_zero w (said k w is ∙ free (k % 16) (low16 k)) going)
      ])
      (λ ge. absurd (never_zero w (ap decoded (sym is ∙ get_or_past cells k 0 (past (length cells) k objects long ge)) ∙ decoded-zero) going))
    where
      past : (l k n : ℕ) → l ≡ 16 * n → (k / 16 < l / 16 → ⊥) → l ≤ k
      past l k n e ge = omega arith

  -- ---- walks

  abbrev Cells : Union
  Cells = record { cells = cells; retired = [] }

  walk_under : (n : ℕ) (X : Thing) (x y : ℕ) → IsCounted S X → names X ≡ x → Walk (Edge Cells) (suc n) x y → (Y : Thing) × IsCounted S Y × (names Y ≡ y) × Below S X Y
  walk_under n X x y c named (z, (k, w, from, to, (going, inr none)), more) = absurd none
  walk_under zero X x y c named (z, (k, w, from, to, (going, inl is)), more) =
      let l = thing_leads X k w c (named ∙ sym from) is going in
      (l.to, l.counted, l.named ∙ to ∙ more, l.under)
  walk_under (suc n) X x y c named (z, (k, w, from, to, (going, inl is)), more) =
      let l = thing_leads X k w c (named ∙ sym from) is going in
      let r = walk_under n l.to z y l.counted (l.named ∙ to) more in
      (r.0, r.1, r.2, below_then S X l.to r.0 l.under r.3)

  pub calm : IsSound S → (objects : ℕ) → length cells ≡ 16 * objects → IsAcyclic (Edge (record { cells = cells; retired = [] }))
  calm sound objects long x (n, (z, (k, w, from, to, (going, inr none)), more)) = absurd none
  calm sound objects long x (n, (z, (k, w, from, to, (going, inl is)), more)) =
      let b = begins objects long k w is going in
      let r = walk_under n b.0 x x b.1 (b.2 ∙ from) (z, (k, w, from, to, (going, inl is)), more) in
      let same : r.0 ≡ b.0 = stands.apart r.0 b.0 r.1 b.1 (r.2 ∙ sym from ∙ sym b.2) in
      below_self S sound b.0 (subst (Below S b.0) same r.3)

  -- and lead to objects alone
  pub leads_within : (objects : ℕ) → length cells ≡ 16 * objects → (k w : ℕ) → goes w ≡ true → slice_index cells k ≡ w → target w < objects
  leads_within objects long k w going is =
      let b = begins objects long k w is going in
      let l = thing_leads b.0 k w b.1 b.2 is going in
      let lt = stands.there l.to l.counted in
      let at = l.named in
      omega arith

-- with nothing retired
pub calm_union : (u : Union) (names : Thing → ℕ) (S : Tables) → StandsFor u.cells names S → IsSound S → (objects : ℕ) → length u.cells ≡ 16 * objects → u.retired ≡ [] → IsAcyclic (Edge u)
calm_union u names S stands sound objects long quiet = subst (λ rs. IsAcyclic (Edge (record { cells = u.cells; retired = rs }))) (sym quiet) (calm u.cells names S stands sound objects long)
