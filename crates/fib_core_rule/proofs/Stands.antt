-- Where the cells stand for tables and nothing is retired, the promise of these tables alone holds.
use Rattle.std.proofs.Common.{◌≡◌, ℕ, zero, suc, ◌+◌, ◌-◌, ◌*◌, ◌/◌, ◌%◌, ◌^◌, ◌<◌, ◌≤◌, inl, inr, ⊎_elim, Bool, true, false, List, [], ◌∷◌, length, refl, sym, ap, ◌∙◌, subst, arith}
use Rattle.std.proofs.lemmas.Bool.{false≢true}
use Rattle.std.proofs.lemmas.Bool.Decides.{Decides-eqb}
use Rattle.std.proofs.Math.Nat.{mul-div_cancel}
use Rattle.std.proofs.Math.Pow.{pow_pos}
use Rattle.std.proofs.lemmas.List.{get_or_past}
use Rattle.std.proofs.lemmas.Map.Views.{Contains-from_any, list_any-from_Contains}
use Rattle.std.proofs.lemmas.List.Elements.{All-contains, All-from_recursion}
use Rattle.std.specs.Prelude.{Contains, find, flat_map, slice_get, slice_index, IfSome, Option, Some, None, ◌==◌, if◌then◌else◌}
use Rattle.std.specs.List.{AllByRecursion, range_with_len}
use Rattle.std.specs.Set.{is_member}
use native.Mathlib.Decide.{dec_lt}
use mathlib.Core.Logic.{dite}
use Rattle.fib_base_list.proofs.Lists.{either, each-weaker, each-map, each-flat_map, Contains-nil}
use Rattle.fib_addr.specs.Prefixes.{Prefix, IsPrefix, host, size_of, masked, same_prefix}
use Rattle.fib_addr.specs.Longest.{everything}
use Rattle.fib_addr.proofs.PrefixLaws.{same_fields, same_prefix-Decides, same_prefix_equiv}
use Rattle.fib_resolve.specs.Pairs.{entries, cover, best}
use Rattle.fib_resolve.specs.Buckets.{wanted}
use Rattle.fib_resolve.specs.Resolution.{hop_end}
use Rattle.fib_resolve.specs.Sizes.{plies_of, plies, adjacencies}
use Rattle.fib_resolve.specs.declared.pairs.Adjacency.{Adjacency}
use Rattle.fib_resolve.specs.declared.types.Path.{Path}
use Rattle.fib_resolve.specs.declared.types.PathKind.{PathKind}
use Rattle.fib_resolve.specs.declared.types.PathKind.TheVariants as kinds
use Rattle.fib_resolve.specs.declared.types.End.TheVariants as answers
use Rattle.fib_resolve.specs.declared.types.Tables.{Tables}
use Rattle.fib_resolve.proofs.OneList.{each-itself}
use Rattle.fib_resolve.proofs.PairLaws.{each-unique}
use Rattle.fib_resolve.proofs.Taken.{IsWanted}
use Rattle.fib_core.specs.declared.word.Word.TheVariants as words
use Rattle.fib_union.specs.Unions.{owner}
use Rattle.fib_core.specs.Words.{decoded}
use Rattle.fib_core.specs.Walk.{word_at, adjacency_end}
use Rattle.fib_core.specs.Union.{Retired, Union, AnyOf, Goes}
use Rattle.fib_core.specs.StandsFor.{Thing, ply_of, balance_of, adjacency_of, IsCounted, below, covering, kind_word, bucket_word, mac_word, adjacency_word, thing_word, StandsFor}
use Rattle.fib_core.proofs.Numbers.{decoded-zero, cell_of}
use Rattle.fib_core_stands.proofs.Listed.{at_bucket, adjacency_listed, first_in}
use Rattle.fib_core_stands.proofs.Balances.{adjacency_says, low16}
use Rattle.fib_core_stands.proofs.Nibbles.{ply_root, covering_best, no_longer}
use Rattle.fib_resolve.specs.declared.aims.Aim.{Aim}
use Rattle.fib_resolve.specs.Aims.{path_aim, kind_aim, aim}
use Rattle.fib_core_steady.specs.Names.{Names, IsChild, IsWalked}
use Rattle.fib_core_steady.specs.Promise.{IsEndWord, IsAimed, IsRight, KeepsCells, IsPromised}
use Rattle.fib_core_steady.proofs.Edges.{ways_by}
use Rattle.fib_core_steady.proofs.Ways.{Leads, leads, best_is_entry}
use Rattle.fib_core_rule.proofs.Named.{ply_at, depth_of, path_of, names_of}

-- a test that one member alone passes finds it
found_one : {X : Type 0} (test : X → Bool) (xs : List X) (x : X) → Contains xs x → test x ≡ true → ((y : X) → Contains xs y → test y ≡ true → y ≡ x) → find test xs ≡ Some x
found_one test [] x c passes only = absurd (Contains-nil x c)
found_one test (y ∷ ys) x c passes only = elim (either (test y)) [
  | inl is ↦ (let same : y ≡ x = only y (0, omega arith, refl) is in ap (λ b. if b then Some y else find test ys) is ∙ ap Some same)
  | inr isnt ↦ ap (λ b. if b then Some y else find test ys) isnt ∙ found_one test ys x (later c isnt) passes (λ z k t. only z (suc k.0, omega (arith, k.1), k.2) t)
]
  where
    later : Contains (y ∷ ys) x → test y ≡ false → Contains ys x
    later (zero, lt, is) isnt = absurd (false≢true (sym isnt ∙ ap test is ∙ passes))
    later (suc k, lt, is) isnt = (k, omega (arith, lt), is)

-- each ply is that of the first nibbles of an address
abbrev pub IsNibbles : Prefix → Type 0
IsNibbles p = (d : ℕ) × (v : ℕ) × (d ≤ 7) × (p.len ≡ 4 * d) × (p.bits ≡ v * size_of (4 * d))

range_low : (m a n : ℕ) → a + n ≤ m → AllByRecursion (λ k. k < m) (range_with_len a n)
range_low m a zero le = tt
range_low m a (suc n) le = (omega arith, range_low m (a + 1) n (omega arith))

pub ply_nibbles : (S : Tables) → ((q : Prefix) → Contains (entries S) q → IsPrefix q) → (q : Prefix) → Contains (plies S) q → IsNibbles q
unfolding plies
ply_nibbles S fine q c = All-contains IsNibbles (plies S) q (All-from_recursion IsNibbles (plies S) (each-unique IsNibbles same_prefix (everything ∷ flat_map plies_of (entries S)) (
  (0, 0, omega arith, refl, refl),
  each-flat_map IsNibbles plies_of (entries S)
      (each-weaker (Contains (entries S)) (λ x. AllByRecursion IsNibbles (plies_of x)) (λ x k. each-map IsNibbles (λ i. masked x.bits (4 * i)) (range_with_len 0 ((x.len + 3) / 4))
      (each-weaker (λ i. i < 8) (λ i. IsNibbles (masked x.bits (4 * i))) (λ i lt. (i, x.bits / size_of (4 * i), omega arith, refl, refl)) (range_with_len 0 ((x.len + 3) / 4)) (range_low 8 0 ((x.len + 3) / 4) (let s = (fine x k).short in omega arith))))
      (entries S) (each-itself (entries S))),
))) c

join : (d v s : ℕ) → d ≤ 7 → v * size_of (4 * d) + s * size_of (4 * d + 4) ≡ (16 * v + s) * size_of (4 * suc d)
join zero v s le = omega arith
join (suc zero) v s le = omega arith
join (suc (suc zero)) v s le = omega arith
join (suc (suc (suc zero))) v s le = omega arith
join (suc (suc (suc (suc zero)))) v s le = omega arith
join (suc (suc (suc (suc (suc zero))))) v s le = omega arith
join (suc (suc (suc (suc (suc (suc zero)))))) v s le = omega arith
join (suc (suc (suc (suc (suc (suc (suc zero))))))) v s le = omega arith
join (suc (suc (suc (suc (suc (suc (suc (suc d)))))))) v s le = absurd (omega arith)

-- the block below a ply's cell
below_bits : (p : Prefix) (n : IsNibbles p) (s : ℕ) → (below p s).bits ≡ (16 * n.1 + s) * size_of (4 * suc n.0)
below_bits p n s = ap (λ (i : ℕ). i + s * size_of (p.len + 4)) n.4 ∙ ap (λ (i : ℕ). n.1 * size_of (4 * n.0) + s * size_of (i + 4)) n.3 ∙ join n.0 n.1 s n.2

below_len : (p : Prefix) (n : IsNibbles p) (s : ℕ) → (below p s).len ≡ 4 * suc n.0
below_len p n s = let l : p.len ≡ 4 * n.0 = n.3 in omega arith

quarter : (len d : ℕ) → len ≡ 4 * d → len / 4 ≡ d
quarter len d e = omega arith

path_is : (bits len v d : ℕ) → len ≡ 4 * d → bits ≡ v * size_of (4 * d) → bits / size_of len ≡ v
path_is bits len v d e is = ap (λ i. bits / size_of i) e ∙ ap (λ i. i / size_of (4 * d)) is ∙ mul-div_cancel v (pow_pos (32 - 4 * d))

module _ (u : Union) (names : Thing → ℕ) (S : Tables) (quiet : u.retired ≡ []) (stands : StandsFor u.cells names S) (fine : (q : Prefix) → Contains (entries S) q → IsPrefix q) where
  member_in : (xs : List Prefix) (p : Prefix) → is_member same_prefix xs p ≡ true → Contains xs p
  member_in xs p is = Contains-from_any (λ x y. (same_prefix-Decides x y).0) p xs is

  ply_same : (p q : Prefix) → ply_of p ≡ ply_of q → p ≡ q
  ply_same p q e = cc

  -- names by numbers
  pub at_ply : (p : Prefix) → Contains (plies S) p → ply_at names S (names (ply_of p)) ≡ Some p
  at_ply p c = found_one (λ q. names (ply_of q) == names (ply_of p)) (plies S) p c ((Decides-eqb (names (ply_of p)) (names (ply_of p))).1 refl) (λ q k is. ply_same q p (stands.apart (ply_of q) (ply_of p) k c ((Decides-eqb (names (ply_of q)) (names (ply_of p))).0 is)))

  abbrev N : Names
  N = names_of names S

  ply_depth : (p : Prefix) (c : Contains (plies S) p) → (names_of names S).depth (names (ply_of p)) ≡ (ply_nibbles S fine p c).0
  ply_depth p c = let n = ply_nibbles S fine p c in ap depth_of (at_ply p c) ∙ quarter p.len n.0 n.3

  ply_value : (p : Prefix) (c : Contains (plies S) p) → (names_of names S).value (names (ply_of p)) ≡ (ply_nibbles S fine p c).1
  ply_value p c = let n = ply_nibbles S fine p c in ap path_of (at_ply p c) ∙ path_is p.bits p.len n.1 n.0 n.3 n.4

  balance_is : (e : Prefix) → Contains (entries S) e → (names_of names S).balance e ≡ Some (names (balance_of e))
  balance_is e c = ap (λ b. if b then Some (names (balance_of e)) else None) (list_any-from_Contains same_prefix_equiv e (entries S) c)

  -- first point

  no_same : (T : Tables) → Contains (S ∷ []) T → S ≡ T
  no_same T (zero, lt, is) = is
  no_same T (suc k, lt, is) = absurd (omega (arith, lt))

  this : Contains (S ∷ []) S
  this = (0, omega arith, refl)

  attached_aimed : (e : Prefix) (i : ℕ) (b : Bool) → (b ≡ true → Contains (adjacencies S) (record { interface = i; next_hop = e.bits })) → IsEndWord (adjacency_end u.cells) (if b then hop_end S i e.bits else answers.Glean i) (if b then words.ToAdjacency (names (adjacency_of (record { interface = i; next_hop = e.bits }))) else words.Glean i)
  attached_aimed e i true listed = (names (adjacency_of (record { interface = i; next_hop = e.bits })), refl, adjacency_says u.cells names S stands i e.bits (listed refl))
  attached_aimed e i false listed = refl

  kind_aimed : (e : Prefix) (p : Path) (kind : PathKind) → p.kind ≡ kind → IsWanted S e p → Leads S e kind → IsAimed (names_of names S).balance (adjacency_end u.cells) (kind_aim S e kind) (kind_word names S e kind)
  kind_aimed e p kinds.Drop is t l = refl
  kind_aimed e p kinds.Local is t l = refl
  kind_aimed e p (kinds.Attached i) is t l = attached_aimed e i (e.len == 32) (λ host_is. adjacency_listed S e p (record { interface = i; next_hop = e.bits }) t.0 (rw is (rw host_is (first_in (record { interface = i; next_hop = e.bits }) []))))
  kind_aimed e p (kinds.Hop a i) is t l = (names (adjacency_of (record { interface = i; next_hop = a })), refl, adjacency_says u.cells names S stands i a (adjacency_listed S e p (record { interface = i; next_hop = a }) t.0 (rw is (first_in (record { interface = i; next_hop = a }) []))))
  kind_aimed e p (kinds.Recursive a) is t l = (names (balance_of (host a)), refl, balance_is (host a) l)
  kind_aimed e p kinds.Cover is t l = (names (balance_of (cover S e.bits)), refl, balance_is (cover S e.bits) l)

  path_aimed : (e : Prefix) (o : Option Path) → IfSome o (IsWanted S e) → IfSome o (λ p. Leads S e p.kind) → IsAimed (names_of names S).balance (adjacency_end u.cells) (path_aim S e o) (bucket_word names S e o)
  path_aimed e None t l = refl
  path_aimed e (Some p) t l = kind_aimed e p p.kind refl t l

  bucket_aimed : (e : Prefix) (k : ℕ) → Contains (entries S) e → k < 16 → IsAimed (names_of names S).balance (adjacency_end u.cells) (aim S e k) (word_at u.cells (names (balance_of e)) k)
  unfolding aim
  bucket_aimed e k c lt = subst (IsAimed (names_of names S).balance (adjacency_end u.cells) (path_aim S e (slice_get (wanted S e) k))) (sym (stands.holds (balance_of e) k c lt)) (path_aimed e (slice_get (wanted S e) k) (at_bucket S e k) (leads S e k))

  some_balance : (x y : ℕ) (o : Option ℕ) → o ≡ Some x → o ≡ Some y → x ≡ y
  some_balance x y o p q = cc

  pub keeps_buckets : KeepsCells (S ∷ []) (names_of names S).balance u.cells
  keeps_buckets = record {
    named = λ e lasting. (names (balance_of e), balance_is e (lasting S this));
    held = λ e o lasting is. tt;
    aimed = λ e o k m lasting is lt alike.
        let c = lasting S this in
        let same : names (balance_of e) ≡ o = some_balance (names (balance_of e)) o ((names_of names S).balance e) (balance_is e c) is in
        subst (λ (i : ℕ). IsAimed (names_of names S).balance (adjacency_end u.cells) m (word_at u.cells i k)) same (subst (λ (w : Aim). IsAimed (names_of names S).balance (adjacency_end u.cells) w (word_at u.cells (names (balance_of e)) k)) (alike S this) (bucket_aimed e k c lt));
  }

  -- second point

  no_ply_kind : (e : Prefix) (kind : PathKind) (c : ℕ) → kind_word names S e kind ≡ words.ToPly c → ⊥
  no_ply_kind e kinds.Drop c is = absurd (drop_apart c is)
    where
      drop_apart : (c : ℕ) → words.Drop ≡ words.ToPly c → ⊥
      drop_apart c e = cc
  no_ply_kind e kinds.Local c is = absurd (receive_apart c is)
    where
      receive_apart : (c : ℕ) → words.Receive ≡ words.ToPly c → ⊥
      receive_apart c e = cc
  no_ply_kind e (kinds.Attached i) c is = by_length (e.len == 32) is
    where
      by_length : (b : Bool) → (if b then words.ToAdjacency (names (adjacency_of (record { interface = i; next_hop = e.bits }))) else words.Glean i) ≡ words.ToPly c → ⊥
      by_length true is = cc
      by_length false is = cc
  no_ply_kind e (kinds.Hop a i) c is = adjacency_apart (names (adjacency_of (record { interface = i; next_hop = a }))) c is
    where
      adjacency_apart : (x c : ℕ) → words.ToAdjacency x ≡ words.ToPly c → ⊥
      adjacency_apart x c e = cc
  no_ply_kind e (kinds.Recursive a) c is = balance_apart (names (balance_of (host a))) c is
    where
      balance_apart : (x c : ℕ) → words.ToBalance x ≡ words.ToPly c → ⊥
      balance_apart x c e = cc
  no_ply_kind e kinds.Cover c is = balance_apart (names (balance_of (cover S e.bits))) c is
    where
      balance_apart : (x c : ℕ) → words.ToBalance x ≡ words.ToPly c → ⊥
      balance_apart x c e = cc

  no_ply_bucket : (e : Prefix) (o : Option Path) (c : ℕ) → bucket_word names S e o ≡ words.ToPly c → ⊥
  no_ply_bucket e None c is = drop_apart c is
    where
      drop_apart : (c : ℕ) → words.Drop ≡ words.ToPly c → ⊥
      drop_apart c e = cc
  no_ply_bucket e (Some p) c is = no_ply_kind e p.kind c is

  no_ply_mac : (m : Option ℕ) (c : ℕ) → mac_word m ≡ words.ToPly c → ⊥
  no_ply_mac None c is = plain_apart 0 c is
    where
      plain_apart : (x c : ℕ) → words.Plain x ≡ words.ToPly c → ⊥
      plain_apart x c e = cc
  no_ply_mac (Some m) c is = plain_apart (suc m) c is
    where
      plain_apart : (x c : ℕ) → words.Plain x ≡ words.ToPly c → ⊥
      plain_apart x c e = cc

  no_ply_adjacency : (x : Adjacency) (s c : ℕ) → adjacency_word S x s ≡ words.ToPly c → ⊥
  no_ply_adjacency x zero c is = plain_apart x.interface c is
    where
      plain_apart : (x c : ℕ) → words.Plain x ≡ words.ToPly c → ⊥
      plain_apart x c e = cc
  no_ply_adjacency x (suc zero) c is = plain_apart x.next_hop c is
    where
      plain_apart : (x c : ℕ) → words.Plain x ≡ words.ToPly c → ⊥
      plain_apart x c e = cc
  no_ply_adjacency x (suc (suc zero)) c is = no_ply_mac _ c is
  no_ply_adjacency x (suc (suc (suc s))) c is = drop_apart c is
    where
      drop_apart : (c : ℕ) → words.Drop ≡ words.ToPly c → ⊥
      drop_apart c e = cc

  ply_word_is : (q : Prefix) (c : ℕ) (b : Bool) (o : ℕ) → (if b then words.ToPly (names (ply_of q)) else words.ToBalance o) ≡ words.ToPly c → (b ≡ true) × (names (ply_of q) ≡ c)
  ply_word_is q c true o is = (refl, ply_number (names (ply_of q)) c is)
    where
      ply_number : (x c : ℕ) → words.ToPly x ≡ words.ToPly c → x ≡ c
      ply_number x c e = cc
  ply_word_is q c false o is = absurd (balance_apart o c is)
    where
      balance_apart : (x c : ℕ) → words.ToBalance x ≡ words.ToPly c → ⊥
      balance_apart x c e = cc

  -- a cell that leads to a ply is one of a ply, and that ply lies below it
  abbrev pub IsPlyCell : ℕ → ℕ → Type 0
  IsPlyCell k c = (p : Prefix) × Contains (plies S) p × (names (ply_of p) ≡ owner k) × Contains (plies S) (below p (k % 16)) × (names (ply_of (below p (k % 16))) ≡ c)

  by_thing : (k c : ℕ) (x : Thing) → IsCounted S x → names x ≡ owner k → thing_word names S x (k % 16) ≡ words.ToPly c → IsPlyCell k c
  by_thing k c (ply_of p) there at is =
      let found = ply_word_is (below p (k % 16)) c (is_member same_prefix (plies S) (below p (k % 16))) (names (balance_of (covering S (below p (k % 16))))) is in
      (p, there, at, member_in (plies S) (below p (k % 16)) found.0, found.1)
  by_thing k c (balance_of e) there at is = absurd (no_ply_bucket e (slice_get (wanted S e) (k % 16)) c is)
  by_thing k c (adjacency_of x) there at is = absurd (no_ply_adjacency x (k % 16) c is)

  module _ (objects : ℕ) (long : length u.cells ≡ 16 * objects) where
    own_cell : (k : ℕ) → word_at u.cells (owner k) (k % 16) ≡ decoded (slice_index u.cells k)
    own_cell k = ap (λ i. decoded (slice_index u.cells i)) (sym (cell_of k))

    below_objects : (o k n : ℕ) → n ≡ 16 * objects → k ≡ 16 * o + k % 16 → k < n → o < n / 16
    below_objects o k n e at lt = omega arith

    past_cells : (k : ℕ) → (k < length u.cells → ⊥) → slice_index u.cells k ≡ 0
    past_cells k past = get_or_past u.cells k 0 (low (length u.cells) k past)
      where
        low : (n k : ℕ) → (k < n → ⊥) → n ≤ k
        low n k h = omega arith

    ply_cell : (k c : ℕ) → decoded (slice_index u.cells k) ≡ words.ToPly c → IsPlyCell k c
    ply_cell k c is = dite (dec_lt k (length u.cells))
        (λ lt. ⊎_elim
        (λ (found : (x : Thing) × IsCounted S x × (names x ≡ owner k)). by_thing k c found.0 found.1 found.2 (sym (stands.holds found.0 (k % 16) found.1 (low16 k)) ∙ ap (λ o. word_at u.cells o (k % 16)) found.2 ∙ own_cell k ∙ is))
        (λ (free : (s : ℕ) → s < 16 → word_at u.cells (owner k) s ≡ words.Drop). absurd (drop_apart (sym (free (k % 16) (low16 k)) ∙ own_cell k ∙ is)))
        (stands.others (owner k) (below_objects (owner k) k (length u.cells) long (cell_of k) lt)))
        (λ past. absurd (drop_apart (sym decoded-zero ∙ ap decoded (sym (past_cells k past)) ∙ is)))
      where
        drop_apart : words.Drop ≡ words.ToPly c → ⊥
        drop_apart e = cc

    held_now : (k w : ℕ) → Goes u k w → slice_index u.cells k ≡ w
    held_now k w (going, inl is) = is
    held_now k w (going, inr at) = absurd (subst (λ (rs : List Retired). AnyOf (λ r. (r.cell ≡ k) × (r.word ≡ w)) rs) quiet at)

    edge_cell : (k w c : ℕ) → Goes u k w → decoded w ≡ words.ToPly c → IsPlyCell k c
    edge_cell k w c g is = ply_cell k c (ap decoded (held_now k w g) ∙ is)

    child_at : (p : Prefix) (s : ℕ) → Contains (plies S) p → Contains (plies S) (below p s) → IsChild (names_of names S) (names (ply_of p)) s (names (ply_of (below p s)))
    child_at p s c c' =
        let n = ply_nibbles S fine p c in
        let m = ply_nibbles S fine (below p s) c' in
        let deep : m.0 ≡ suc n.0 = let a = below_len p n s in let b = m.3 in four m.0 (suc n.0) (sym b ∙ a) in
        let more : suc n.0 ≡ n.0 + 1 = omega arith in
        let worth : m.1 ≡ 16 * n.1 + s = sym (path_is (below p s).bits (below p s).len m.1 m.0 m.3 m.4) ∙ path_is (below p s).bits (below p s).len (16 * n.1 + s) (suc n.0) (below_len p n s) (below_bits p n s) in (
          ply_depth (below p s) c' ∙ deep ∙ more ∙ ap (λ i. i + 1) (sym (ply_depth p c)),
          ply_value (below p s) c' ∙ worth ∙ ap (λ i. 16 * i + s) (sym (ply_value p c)),
          subst (λ (i : ℕ). i ≤ 7) (sym (ply_depth (below p s) c')) m.2,
        )
      where
        four : (a b : ℕ) → 4 * a ≡ 4 * b → a ≡ b
        four a b e = omega arith

    edge_child : (k w c : ℕ) → Goes u k w → decoded w ≡ words.ToPly c → IsChild (names_of names S) (owner k) (k % 16) c
    edge_child k w c g is =
        let at = edge_cell k w c g is in
        subst (λ (i : ℕ). IsChild (names_of names S) (owner k) (k % 16) i) at.4 (subst (λ (i : ℕ). IsChild (names_of names S) i (k % 16) (names (ply_of (below at.0 (k % 16))))) at.2 (child_at at.0 (k % 16) at.1 at.3))

    walked_ply : (x : ℕ) → IsWalked u x → (p : Prefix) × Contains (plies S) p × (names (ply_of p) ≡ x)
    walked_ply x (inl is) = (everything, ply_root S, stands.root ∙ sym is)
    walked_ply x (inr (y, (k, w, from, is, g))) = let at = edge_cell k w x g is in (below at.0 (k % 16), at.3, at.4)

    right_word : (p : Prefix) (s : ℕ) (c : Contains (plies S) p) → (b : Bool) → is_member same_prefix (plies S) (below p s) ≡ b → IsRight (S ∷ []) (names_of names S) (names (ply_of p)) s (if b then words.ToPly (names (ply_of (below p s))) else words.ToBalance (names (balance_of (covering S (below p s)))))
    right_word p s c true is = tt
    right_word p s c false is = λ a e inside alike.
        let n = ply_nibbles S fine p c in
        let more : n.0 + 1 ≡ suc n.0 = omega arith in
        let low : n.0 ≤ 7 = n.2 in
        let block : a / size_of (4 * suc n.0) ≡ 16 * n.1 + s = ap (λ i. a / 2 ^ (32 - 4 * i)) (sym more) ∙ ap (λ i. a / 2 ^ (32 - 4 * (i + 1))) (sym (ply_depth p c)) ∙ inside.1 ∙ ap (λ i. 16 * i + s) (ply_value p c) in
        let same : below p s ≡ masked a (4 * suc n.0) = same_fields (below p s) (masked a (4 * suc n.0)) (below_bits p n s ∙ ap (λ i. i * size_of (4 * suc n.0)) (sym block), below_len p n s) in
        let lacks : is_member same_prefix (plies S) (masked a (4 * suc n.0)) ≡ false = ap (is_member same_prefix (plies S)) (sym same) ∙ is in
        let found : covering S (masked a (4 * suc n.0)) ≡ best S a = covering_best S fine a inside.0 (4 * suc n.0) (omega arith) (no_longer S fine a inside.0 (suc n.0) (omega arith) lacks) in
        ap (names_of names S).balance (sym (alike S this)) ∙ balance_is (best S a) (best_is_entry S a) ∙ ap (λ q. Some (names (balance_of q))) (sym found ∙ ap (covering S) (sym same))

    right_cell : (x s : ℕ) → IsWalked u x → s < 16 → IsRight (S ∷ []) (names_of names S) x s (word_at u.cells x s)
    right_cell x s walked lt =
        let at = walked_ply x walked in
        subst (λ (i : ℕ). IsRight (S ∷ []) (names_of names S) i s (word_at u.cells i s)) at.2 (subst (IsRight (S ∷ []) (names_of names S) (names (ply_of at.0)) s) (sym (stands.holds (ply_of at.0) s at.1 lt)) (right_word at.0 s at.1 (is_member same_prefix (plies S) (below at.0 s)) refl))

    -- the promise of the tables
    pub stands_promised : IsPromised (S ∷ []) (names_of names S) u
    stands_promised = record {
      buckets = keeps_buckets;
      plies = record {
        ways = ways_by (names_of names S) u (
          ap (names_of names S).depth (sym stands.root) ∙ ap depth_of (at_ply everything (ply_root S)),
          ap (names_of names S).value (sym stands.root) ∙ ap path_of (at_ply everything (ply_root S)),
        )
            edge_child;
        right = right_cell;
      };
    }
