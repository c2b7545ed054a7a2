-- The plies that the tables count are the prefix table's, and their cells lead where the tables say.
use Rattle.std.proofs.Common.{◌≡◌, ℕ, zero, suc, ◌+◌, ◌*◌, ◌-◌, ◌/◌, ◌<◌, ◌≤◌, ◌^◌, ◌⊎◌, inl, inr, ⊎_elim, true, false, ◌∷◌, refl, sym, ap, ap₂, ◌∙◌, subst, arith}
use Rattle.std.specs.Prelude.{Some, Contains, flat_map, if◌then◌else◌}
use Rattle.std.specs.List.{AllByRecursion, range_with_len}
use Rattle.std.specs.Set.{is_member}
use native.Mathlib.Decide.{ℕ_discrete}
use mathlib.Core.Logic.{dite}
use Rattle.std.proofs.lemmas.Nat.{mul-le, pow-add, shl-shr, shr-shr}
use Rattle.std.proofs.Math.Nat.{add-mul, div-mul-le_self, mul-div_cancel, mul_comm, mul_right_comm}
use Rattle.std.proofs.Math.Pow.{pow_pos}
use Rattle.std.proofs.lemmas.Bool.{cases_lt}
use Rattle.std.proofs.lemmas.Map.Made.{is_member-Decides}
use Rattle.std.proofs.lemmas.List.Elements.{All-contains, All-from_recursion}
use Rattle.fib_base_list.proofs.Lists.{either, each-weaker, each-map, each-flat_map}
use Rattle.fib_addr.specs.Prefixes.{Prefix, IsPrefix, masked, same_prefix, size_of}
use Rattle.fib_addr.specs.Longest.{everything}
use Rattle.fib_addr.proofs.PrefixLaws.{same_fields, same_prefix-Decides}
use Rattle.fib_resolve.specs.Pairs.{best, entries}
use Rattle.fib_resolve.specs.Sizes.{plies, plies_of}
use Rattle.fib_resolve.specs.declared.types.Tables.{Tables}
use Rattle.fib_resolve.proofs.OneList.{each-itself}
use Rattle.fib_resolve.proofs.PairLaws.{each-unique}
use Rattle.fib_resolve_changes.specs.Ranks.{has_entry}
use Rattle.fib_core.specs.declared.word.Word.{Word}
use Rattle.fib_core.specs.declared.word.Word.TheVariants as words
use Rattle.fib_core.specs.StandsFor.{Thing, ply_of, balance_of, below, covering, ply_word}
use Rattle.fib_core_promise.specs.Matches.{look_of}
use Rattle.fib_core_promise.specs.Stack.{is_some}
use Rattle.fib_core_stands.proofs.Nibbles.{covering_best, no_longer, ply_root, ply_there}
use Rattle.fib_plane_view.specs.Promise.{Promise}
use Rattle.fib_plane_view.specs.View.{View}
use Rattle.fib_ply.specs.Prefixes.{Look, Needs}
use Rattle.fib_ply.specs.Rows.{ArePrefixes, held}
use Rattle.fib_ply.specs.Tables.{Stands, Table, object_in}
use Rattle.fib_ply.specs.Plies.{Has, Mixed}
use Rattle.fib_ply.specs.Served.{Paths}
use Rattle.fib_ply.specs.Fitting.{IsFilled}
use Rattle.fib_ply.proofs.Laws.{plies_exact}
use Rattle.fib_ply.proofs.Needing.{needs_here}
use Rattle.fib_control_quiet.proofs.Numbers.{number, or_zero, ply_at, ply_at_is}
use Rattle.fib_control_quiet.proofs.Reaching.{balance_at, best_reached, entry_of}

-- the prefix of the addresses below a ply with this path
abbrev pub block : ℕ → ℕ → Prefix
block d w = record { bits = w * size_of (4 * d); len = 4 * d }

range_low : (m a n : ℕ) → a + n ≤ m → AllByRecursion (λ k. k < m) (range_with_len a n)
range_low m a zero le = tt
range_low m a (suc n) le = (omega arith, range_low m (a + 1) n (omega arith))

sixteenth : (d : ℕ) → d ≤ 7 → size_of (4 * d) ≡ 16 * size_of (4 * (d + 1))
sixteenth d le =
    let e : 32 - 4 * d ≡ 4 + (32 - 4 * (d + 1)) = omega arith in
    ap (λ i. 2 ^ i) e ∙ pow-add 2 4 (32 - 4 * (d + 1))

times_sixteen : (w r m : ℕ) → m ≡ 16 * r → 16 * w * r ≡ w * m
times_sixteen w r m e = mul_right_comm 16 w r ∙ mul_comm (16 * r) w ∙ ap (λ i. w * i) (sym e)

one_more : (w r : ℕ) → w * r + r ≡ (w + 1) * r
one_more w r = (let e : w * r + 1 * r ≡ w * r + r = omega arith in sym e) ∙ sym (add-mul w 1 r)

times_sum : (w s m n : ℕ) → n ≡ 16 * m → w * n + s * m ≡ (16 * w + s) * m
times_sum w s m n e = ap (λ i. i + s * m) (sym (times_sixteen w m n e)) ∙ sym (add-mul (16 * w) s m)

no_times : (m : ℕ) → 0 ≡ 0 * m
no_times m = omega arith

pub below_block : (d w s : ℕ) → d ≤ 7 → below (block d w) s ≡ block (d + 1) (16 * w + s)
below_block d w s le =
    let l : 4 * d + 4 ≡ 4 * (d + 1) = omega arith in
    same_fields (below (block d w) s) (block (d + 1) (16 * w + s))
    (ap (λ i. w * size_of (4 * d) + s * size_of i) l ∙ times_sum w s (size_of (4 * (d + 1))) (size_of (4 * d)) (sixteenth d le), l)

-- a ply of the table with its block
pub record IsPly (n : Paths) (q : Prefix) : Type 0 where
  pub ply : ℕ
  pub here : n.is_in ply ≡ true
  pub is : q ≡ block (n.depth ply) (n.value ply)
  pub fits : q.bits < 2 ^ 32

module _ (S : Tables) (p : Promise) (t : Table) (u : View) (st : Stands p t u) (are : ArePrefixes t.rows.members)
    (fine : (q : Prefix) → Contains (entries S) q → IsPrefix q) (rows : (q : Prefix) (o : ℕ) → object_in t q ≡ Some o → IsPrefix q)
    (placed : (e : Prefix) → is_some (object_in t e) ≡ has_entry S e) where
  abbrev pub n : Paths
  n = st.1

  abbrev pub look : Look
  look = look_of (held t.rows.members)

  -- an entry that is longer needs the ply
  needs_of : (e : Prefix) (k : ℕ) → Contains (entries S) e → 4 * k < e.len → Needs look k (e.bits / size_of (4 * k))
  needs_of e k c lt = let o = balance_at S (object_in t) fine rows placed e c in needs_here (object_in t) e k o.0 (fine e c) o.1 lt

  root_ply : (q : Prefix) → q.len ≡ 0 → q.bits ≡ 0 → IsPly n q
  root_ply q l b =
      let fits = st.2.at.fits in
      record {
        ply = 0;
        here = fits.root.0;
        is = same_fields q (block (n.depth 0) (n.value 0))
            (b ∙ no_times (size_of (4 * n.depth 0)) ∙ sym (ap (λ i. i * size_of (4 * n.depth 0)) fits.root.2), l ∙ (let e : n.depth 0 ≡ 0 = fits.root.1 in let z : 0 ≡ 4 * n.depth 0 = omega arith in z));
        fits = omega (arith, b);
      }

  entry_ply : (e : Prefix) (k : ℕ) → Contains (entries S) e → 4 * k < e.len → IsPly n (masked e.bits (4 * k))
  entry_ply e k c lt = dite (ℕ_discrete k 0)
      (λ z.
      let low : e.bits < 4294967296 = (fine e c).fits in
      let z' : 4 * k ≡ 0 = omega (arith, z) in
      root_ply (masked e.bits (4 * k)) z' (ap (λ i. e.bits / size_of i * size_of i) z' ∙ (let r : e.bits / 4294967296 * 4294967296 ≡ 0 = omega (arith, low) in r)))
      (λ ne.
      let d : ℕ = k - 1 in
      let k_is : k ≡ d + 1 = omega (arith, ne) in
      let w : ℕ = e.bits / size_of (4 * k) in
      let r = (plies_exact p t u are st d w).0 (subst (λ (i : ℕ). Needs look i w) k_is (needs_of e k c lt)) in
      record {
        ply = r.0;
        here = st.2.at.list.only r.0 r.1;
        is = sym (ap₂ block (r.2 ∙ sym k_is) r.3);
        fits = (let le = div-mul-le_self e.bits (size_of (4 * k)) in let low : e.bits < 4294967296 = (fine e c).fits in omega (arith, le, low));
      })

  all_plies : AllByRecursion (IsPly n) (plies S)
  unfolding plies
  all_plies = each-unique (IsPly n) same_prefix (everything ∷ flat_map plies_of (entries S)) (
    root_ply everything refl refl,
    each-flat_map (IsPly n) plies_of (entries S)
        (each-weaker (Contains (entries S)) (λ x. AllByRecursion (IsPly n) (plies_of x)) (λ x c. each-map (IsPly n) (λ i. masked x.bits (4 * i)) (range_with_len 0 ((x.len + 3) / 4))
        (each-weaker (λ i. i < (x.len + 3) / 4) (λ i. IsPly n (masked x.bits (4 * i))) (λ i lt. entry_ply x i c (omega (arith, lt))) (range_with_len 0 ((x.len + 3) / 4)) (range_low ((x.len + 3) / 4) 0 ((x.len + 3) / 4) (omega arith))))
        (entries S) (each-itself (entries S))),
  )

  pub counted_ply : (q : Prefix) → Contains (plies S) q → IsPly n q
  counted_ply q c = All-contains (IsPly n) (plies S) q (All-from_recursion (IsPly n) (plies S) all_plies) c

  -- what is needed is counted
  needs_counted : (d w : ℕ) → Needs look d w → Contains (plies S) (block d w)
  needs_counted d w (j, b, o, le, blk, is) =
      let l : ℕ = 4 * d + j + 1 in
      let e : Prefix = record { bits = b * 2 ^ (32 - l); len = l } in
      let there = ply_there S e d (entry_of S (object_in t) fine rows placed e o is) (omega arith) in
      let shifts : 32 - 4 * d ≡ 32 - l + (j + 1) = omega (arith, le) in
      let first : e.bits / size_of (4 * d) ≡ w =
      ap (λ i. e.bits / 2 ^ i) shifts ∙ sym (shr-shr e.bits (32 - l) (j + 1)) ∙ ap (λ i. i / 2 ^ (j + 1)) (shl-shr b (32 - l)) ∙ blk in
      subst (Contains (plies S)) (ap (λ i. block d i) first) there

  pub ply_counted : (c : ℕ) → n.is_in c ≡ true → (c ≡ 0) ⊎ (0 < n.depth c) → Contains (plies S) (block (n.depth c) (n.value c))
  ply_counted c is (inl z) =
      let fits = st.2.at.fits in
      let root : block (n.depth c) (n.value c) ≡ everything = ap (λ i. block (n.depth i) (n.value i)) z ∙ ap₂ block fits.root.1 fits.root.2 ∙ same_fields (block 0 0) everything (refl, refl) in
      subst (Contains (plies S)) (sym root) (ply_root S)
  ply_counted c is (inr deep) =
      let d : ℕ = n.depth c - 1 in
      let d_is : n.depth c ≡ d + 1 = omega (arith, deep) in
      needs_counted (n.depth c) (n.value c) (subst (λ (i : ℕ). Needs look i (n.value c)) (sym d_is) ((plies_exact p t u are st d (n.value c)).1 (c, st.2.at.list.each c is, d_is, refl)))

  -- and has its number
  pub ply_number : (c d w : ℕ) → n.is_in c ≡ true → n.depth c ≡ d → n.value c ≡ w → number n (object_in t) u S (ply_of (block d w)) ≡ c
  ply_number c d w is dep val =
      let over : 4 * d / 4 ≡ d = omega arith in
      ap₂ (ply_at n n.all) over (mul-div_cancel w (pow_pos (32 - 4 * d)))
      ∙ ply_at_is n n.all d w c (st.2.at.list.each c is) dep val (λ x one dx vx. st.2.at.fits.apart x c (st.2.at.list.only x one) is (dx ∙ sym dep) (vx ∙ sym val))

  pub ply_is : (y : ℕ) (is : n.is_in y ≡ true) (x : IsPly n (block (n.depth y) (n.value y))) → x.ply ≡ y
  ply_is y is x = sym (ply_number x.ply (n.depth x.ply) (n.value x.ply) x.here refl refl) ∙ ap (λ q. number n (object_in t) u S (ply_of q)) (sym x.is) ∙ ply_number y (n.depth y) (n.value y) is refl refl

  -- a cell of a ply
  module _ (q : Prefix) (counted : Contains (plies S) q) (s : ℕ) (lt : s < 16) where
    abbrev pub ply : IsPly n q
    ply = counted_ply q counted

    abbrev pub c : ℕ
    c = ply.ply

    abbrev pub d : ℕ
    d = n.depth ply.ply

    abbrev pub v : ℕ
    v = 16 * n.value ply.ply + s

    low : d ≤ 7
    low = (st.2.at.fits.needed ply.ply ply.here).0

    below_is : below q s ≡ block (d + 1) v
    below_is = ap (λ (x : Prefix). below x s) ply.is ∙ below_block d (n.value ply.ply) s low

    positive : 0 < size_of (4 * (d + 1))
    positive = pow_pos (32 - 4 * (d + 1))

    cell_fits : v * size_of (4 * (d + 1)) < 2 ^ 32
    cell_fits =
        let whole : 2 ^ (4 * d) * size_of (4 * d) ≡ 4294967296 = sym (pow-add 2 (4 * d) (32 - 4 * d)) ∙ ap (λ i. 2 ^ i) (let e : 4 * d + (32 - 4 * d) ≡ 32 = (let l = low in omega (arith, l)) in e) in
        let bits : n.value ply.ply * size_of (4 * d) ≡ q.bits = sym (ap (λ (x : Prefix). x.bits) ply.is) in
        let below_all : n.value ply.ply < 2 ^ (4 * d) = elim (cases_lt (n.value ply.ply) (2 ^ (4 * d))) [
          | inl less ↦ less
          | inr more ↦ absurd (let le = mul-le (2 ^ (4 * d)) (size_of (4 * d)) (n.value ply.ply) (size_of (4 * d)) more (omega arith) in let f = ply.fits in omega (arith, le, f, whole, bits))
        ] in
        let upto : (n.value ply.ply + 1) * size_of (4 * d) ≤ 2 ^ (4 * d) * size_of (4 * d) = mul-le (n.value ply.ply + 1) (size_of (4 * d)) (2 ^ (4 * d)) (size_of (4 * d)) (omega (arith, below_all)) (omega arith) in
        let next : (16 * n.value ply.ply + s + 1) * size_of (4 * (d + 1)) ≤ (16 * (n.value ply.ply + 1)) * size_of (4 * (d + 1)) = mul-le (16 * n.value ply.ply + s + 1) (size_of (4 * (d + 1))) (16 * (n.value ply.ply + 1)) (size_of (4 * (d + 1))) (omega (arith, lt)) (omega arith) in
        let same : (16 * (n.value ply.ply + 1)) * size_of (4 * (d + 1)) ≡ (n.value ply.ply + 1) * size_of (4 * d) = times_sixteen (n.value ply.ply + 1) (size_of (4 * (d + 1))) (size_of (4 * d)) (sixteenth d low) in
        let more : v * size_of (4 * (d + 1)) + size_of (4 * (d + 1)) ≡ (16 * n.value ply.ply + s + 1) * size_of (4 * (d + 1)) = one_more (16 * n.value ply.ply + s) (size_of (4 * (d + 1))) in
        let pos = positive in
        omega (arith, whole, upto, next, same, more, pos)

    abbrev pub names : Thing → ℕ
    names = number n (object_in t) u S

    -- where the ply is counted it is the table's
    not_counted : (Has st.0 (d + 1) v → ⊥) → is_member same_prefix (plies S) (block (d + 1) v) ≡ false
    not_counted none = ⊎_elim (λ (yes : is_member same_prefix (plies S) (block (d + 1) v) ≡ true). absurd (
        let x = counted_ply (block (d + 1) v) ((is_member-Decides same_prefix-Decides (plies S) (block (d + 1) v)).0 yes) in
        let lens : 4 * (d + 1) ≡ 4 * n.depth x.ply = ap (λ (e : Prefix). e.len) x.is in
        let depth : n.depth x.ply ≡ d + 1 = omega (arith, lens) in
        let bits : v * size_of (4 * (d + 1)) ≡ n.value x.ply * size_of (4 * n.depth x.ply) = ap (λ (e : Prefix). e.bits) x.is in
        let value : n.value x.ply ≡ v =
        sym (mul-div_cancel (n.value x.ply) positive) ∙ ap (λ i. n.value x.ply * size_of (4 * i) / size_of (4 * (d + 1))) (sym depth) ∙ ap (λ i. i / size_of (4 * (d + 1))) (sym bits) ∙ mul-div_cancel v positive in
        ⊎_elim
        (λ (z : x.ply ≡ 0). let top = ap n.depth z ∙ st.2.at.fits.root.1 in omega (arith, top, depth))
        (λ (h : Has st.0 (n.depth x.ply) (n.value x.ply)). none (ap₂ st.0 (sym depth) (sym value) ∙ h))
        (st.2.at.fits.needed x.ply x.here).1)) (λ no. no) (either (is_member same_prefix (plies S) (block (d + 1) v)))

    by_word : (z : Word) → IsFilled (Mixed look look 0) (Has st.0) n c s z → z ≡ ply_word names S (block (d + 1) v)
    by_word (words.ToPly y) f =
        let there : Contains (plies S) (block (d + 1) v) = subst (Contains (plies S)) (ap₂ block f.1.0 f.1.1) (ply_counted y f.0 (inr (let e : n.depth y ≡ d + 1 = f.1.0 in omega (arith, e)))) in
        let member : is_member same_prefix (plies S) (block (d + 1) v) ≡ true = (is_member-Decides same_prefix-Decides (plies S) (block (d + 1) v)).1 there in
        ap words.ToPly (sym (ply_number y (d + 1) v f.0 f.1.0 f.1.1))
        ∙ ap (λ b. if b then words.ToPly (names (ply_of (block (d + 1) v))) else words.ToBalance (names (balance_of (covering S (block (d + 1) v))))) (sym member)
    by_word (words.ToBalance o) f =
        let lacks = not_counted f.0 in
        let a : ℕ = v * size_of (4 * (d + 1)) in
        let first : a / size_of (4 * (d + 1)) ≡ v = mul-div_cancel v positive in
        let masked_is : masked a (4 * (d + 1)) ≡ block (d + 1) v = ap (λ i. block (d + 1) i) first in
        let le : 4 * (d + 1) ≤ 32 = (let l = low in omega (arith, l)) in
        let answer = (f.1 a (cell_fits, first)).1 (omega arith) in
        let reached = best_reached S (object_in t) fine rows placed a o cell_fits answer in
        let cover : covering S (block (d + 1) v) ≡ best S a =
        ap (covering S) (sym masked_is) ∙ covering_best S fine a cell_fits (4 * (d + 1)) le (no_longer S fine a cell_fits (d + 1) le (ap (is_member same_prefix (plies S)) masked_is ∙ lacks)) in
        ap words.ToBalance (sym (ap (λ e. or_zero (object_in t e)) cover ∙ ap or_zero reached))
        ∙ ap (λ b. if b then words.ToPly (names (ply_of (block (d + 1) v))) else words.ToBalance (names (balance_of (covering S (block (d + 1) v))))) (sym lacks)
    by_word words.Drop f = absurd f
    by_word words.Receive f = absurd f
    by_word (words.Glean i) f = absurd f
    by_word (words.ToAdjacency o) f = absurd f
    by_word (words.Plain i) f = absurd f

    -- a balance to which it leads is a prefix's
    pub ply_balance : (o : ℕ) → u.cell c s ≡ words.ToBalance o → (e : Prefix) × (object_in t e ≡ Some o)
    ply_balance o is =
        let f : IsFilled (Mixed look look 0) (Has st.0) n c s (words.ToBalance o) = subst (λ (z : Word). IsFilled (Mixed look look 0) (Has st.0) n c s z) is (st.2.at.fits.cells c s ply.here lt) in
        let a : ℕ = v * size_of (4 * (d + 1)) in
        let answer = (f.1 a (cell_fits, mul-div_cancel v positive)).1 (omega arith) in
        (best S a, best_reached S (object_in t) fine rows placed a o cell_fits answer)

    pub ply_cell : u.cell (names (ply_of q)) s ≡ ply_word names S (below q s)
    ply_cell =
        let mine : names (ply_of q) ≡ c = ap (λ x. names (ply_of x)) ply.is ∙ ply_number c d (n.value ply.ply) ply.here refl refl in
        ap (λ i. u.cell i s) mine ∙ by_word (u.cell c s) (st.2.at.fits.cells c s ply.here lt) ∙ ap (ply_word names S) (sym below_is)

  -- a balance to which a ply of the table leads is a prefix's
  pub leaf_balance : (y s o : ℕ) → n.is_in y ≡ true → (y ≡ 0) ⊎ (0 < n.depth y) → s < 16 → u.cell y s ≡ words.ToBalance o → (e : Prefix) × (object_in t e ≡ Some o)
  leaf_balance y s o is deep lt at =
      let q : Prefix = block (n.depth y) (n.value y) in
      let c : Contains (plies S) q = ply_counted y is deep in
      ply_balance q c s lt o (ap (λ i. u.cell i s) (ply_is y is (counted_ply q c)) ∙ at)
