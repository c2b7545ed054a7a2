-- What a table that stands for a set answers, and which plies it has.
use Rattle.std.proofs.Common.{◌≡◌, ℕ, zero, suc, ◌+◌, ◌*◌, ◌-◌, ◌/◌, ◌%◌, ◌^◌, ◌<◌, ◌≤◌, ◌↔◌, inl, inr, ⊎_elim, ◌⊎◌, Bool, true, false, List, [], ◌∷◌, None, Some, refl, sym, ap, ap₂, ◌∙◌, subst, arith}
use Rattle.std.specs.Prelude.{if◌then◌else◌}
use Rattle.std.proofs.lemmas.Bool.{cases_lt}
use Rattle.std.proofs.lemmas.Nat.{mod_below, mul-le, pow-add}
use Rattle.std.proofs.Math.Nat.{div-eq_of_lt, div-mul-le_self}
use Rattle.fib_addr.specs.Prefixes.{Prefix, IsPrefix, same_prefix}
use Rattle.fib_addr.proofs.PrefixLaws.{same_prefix-Decides}
use Rattle.fib_core.specs.declared.word.Word.{Word}
use Rattle.fib_core.specs.declared.word.Word.TheVariants.{Drop, ToPly, ToBalance, Plain, Receive, Glean, ToAdjacency}
use Rattle.fib_plane_view.specs.View.{View}
use Rattle.fib_ply.specs.Prefixes.{Look, Needs}
use Rattle.fib_ply.specs.Plies.{Mixed, Has, IsOne, StandsFor}
use Rattle.fib_ply.specs.Served.{Paths, Watch, IsIn}
use Rattle.fib_ply.specs.Fitting.{IsFilled, Fits}
use Rattle.fib_core_promise.specs.Matches.{IsLongestBlock, best_block, look_of}
use Rattle.fib_ply.specs.inner.Change.{IsCellOf}
use Rattle.fib_ply.specs.inner.Trie.{IsTrie}
use Rattle.fib_ply.proofs.Paths.{fits_trie}
use Rattle.fib_ply.proofs.Longest.{best_longest}
use Rattle.fib_plane_view.specs.Promise.{Promise}
use Rattle.fib_ply.specs.Rows.{ArePrefixes, held}
use Rattle.fib_ply.specs.declared.rows.Row.{Row}
use Rattle.fib_ply.specs.Tables.{Table, Stands, HasItsPlies, IsHeldPly, LeadsAll, watch_of}
use Rattle.fib_core_steady.specs.Names.{IsBelow}
use Rattle.fib_ply.proofs.Blocks.{below_next}
use Rattle.fib_ply.specs.Hops.{IsPlyOf, hopped, hops}
use Rattle.fib_ply.proofs.Hops.{from_here, goes_down, hops-suc, in_block}
use Rattle.fib_core.specs.Walk.{ply, balance, root, from_ply}

module _ (K N : ℕ → ℕ → Type 0) (n : Paths) (u : View) (fits : Fits K N n u) where
  -- the walk from a ply of the table comes to where the address may be sent
  pub walk_ends : (k x a h : ℕ) → n.depth x + k ≡ 8 → n.is_in x ≡ true → a < 2 ^ 32 → IsBelow a (n.depth x) (n.value x)
      → (o : ℕ) × (j : ℕ) × (j ≤ k) × (hops u.cell a h j (ply x (n.depth x)) ≡ balance o 0) × K a o
  walk_ends zero x a h e is lt below = let le : n.depth x ≤ 7 = (fits.needed x is).0 in absurd (omega arith)
  walk_ends (suc k) x a h e is lt below =
      let s : ℕ = a / 2 ^ (4 * k) % 16 in
      let less : s < 16 = mod_below (a / 2 ^ (4 * k)) 16 (omega arith) in
      let same : 28 - 4 * n.depth x ≡ 4 * k = omega arith in
      let r = by_word s (lt, below_next a (n.depth x) k (n.value x) e below) (λ c e' is' below'. walk_ends k c a h e' is' lt below') (u.cell x s) (fits.cells x s is less) in
      (r.0, suc r.1, omega (arith, r.2), ap (hops u.cell a h r.1) (from_here u.cell a h x (n.depth x) s (ap (λ i. a / 2 ^ i % 16) same)) ∙ r.3, r.4)
    where
      by_word : (s : ℕ) → IsIn n x s a → ((c : ℕ) → n.depth c + k ≡ 8 → n.is_in c ≡ true → IsBelow a (n.depth c) (n.value c) → (o : ℕ) × (j : ℕ) × (j ≤ k) × (hops u.cell a h j (ply c (n.depth c)) ≡ balance o 0) × K a o)
          → (w : Word) → IsFilled K N n x s w → (o : ℕ) × (j : ℕ) × (j ≤ k) × (hops u.cell a h j (from_ply (n.depth x) w) ≡ balance o 0) × K a o
      by_word s inside further (ToPly c) f =
          let e' : n.depth c + k ≡ 8 = omega (arith, f.1.0) in
          let le : n.depth c ≤ 7 = f.1.2 in
          let r = further c e' f.0 (subst (λ (d : ℕ). IsBelow a d (n.value c)) (sym f.1.0) (inside.1 ∙ sym f.1.1)) in
          let down : n.depth x + 1 ≡ suc (n.depth x) = omega arith in
          (r.0, r.1, r.2, ap (hops u.cell a h r.1) (goes_down (n.depth x) c (omega (arith, le, f.1.0)) ∙ ap (ply c) (sym (f.1.0 ∙ down))) ∙ r.3, r.4)
      by_word s inside further (ToBalance o) f = (o, 0, omega arith, refl, f.1 a inside)
      by_word s inside further Drop f = absurd f
      by_word s inside further (Plain v) f = absurd f
      by_word s inside further Receive f = absurd f
      by_word s inside further (Glean v) f = absurd f
      by_word s inside further (ToAdjacency v) f = absurd f

  -- each place has its ply
  pub ply_there : (e w : ℕ) → ((w : ℕ) → N 1 w → w < 16) → N (e + 1) w → (c : ℕ) × (n.is_in c ≡ true) × (n.depth c ≡ e + 1) × (n.value c ≡ w)
  ply_there zero w small h =
      by_word (u.cell 0 w) (fits.cells 0 w fits.root.0 (small w (subst (λ (i : ℕ). N i w) (let f : 0 + 1 ≡ 1 = omega arith in f) h)))
    where
      by_word : (z : Word) → IsFilled K N n 0 w z → (c : ℕ) × (n.is_in c ≡ true) × (n.depth c ≡ 0 + 1) × (n.value c ≡ w)
      by_word (ToPly c) f = (c, f.0, f.1.0 ∙ ap (λ i. i + 1) fits.root.1, f.1.1 ∙ (let v : n.value 0 ≡ 0 = fits.root.2 in let r : 16 * n.value 0 + w ≡ w = omega arith in r))
      by_word (ToBalance o) f = absurd (f.0 (subst (λ (i : ℕ). N (i + 1) (16 * n.value 0 + w)) (sym fits.root.1) (subst (λ (i : ℕ). N (0 + 1) i) (let v : n.value 0 ≡ 0 = fits.root.2 in let r : w ≡ 16 * n.value 0 + w = omega arith in r) h)))
      by_word Drop f = absurd f
      by_word (Plain v) f = absurd f
      by_word Receive f = absurd f
      by_word (Glean v) f = absurd f
      by_word (ToAdjacency v) f = absurd f
  ply_there (suc e) w small h =
      let a : suc e + 1 ≡ e + 2 = omega arith in
      let b : e + 2 ≡ suc e + 1 = omega arith in
      let p = ply_there e (w / 16) small (fits.upward e w (subst (λ (i : ℕ). N i w) a h)) in
      by_word p.0 p.1 p.2 p.3 (u.cell p.0 (w % 16)) (fits.cells p.0 (w % 16) p.1 (mod_below w 16 (omega arith)))
    where
      by_word : (x : ℕ) → n.is_in x ≡ true → n.depth x ≡ e + 1 → n.value x ≡ w / 16 → (z : Word) → IsFilled K N n x (w % 16) z → (c : ℕ) × (n.is_in c ≡ true) × (n.depth c ≡ suc e + 1) × (n.value c ≡ w)
      by_word x is d v (ToPly c) f = (c, f.0, (let r : n.depth c ≡ suc e + 1 = omega (arith, f.1.0) in r), f.1.1 ∙ (let r : 16 * n.value x + w % 16 ≡ w = omega arith in r))
      by_word x is d v (ToBalance o) f = absurd (f.0 (subst (λ (i : ℕ). N i (16 * n.value x + w % 16)) (let r : suc e + 1 ≡ n.depth x + 1 = omega arith in r) (subst (λ (i : ℕ). N (suc e + 1) i) (let r : w ≡ 16 * n.value x + w % 16 = omega arith in r) h)))
      by_word x is d v Drop f = absurd f
      by_word x is d v (Plain b) f = absurd f
      by_word x is d v Receive f = absurd f
      by_word x is d v (Glean b) f = absurd f
      by_word x is d v (ToAdjacency b) f = absurd f

-- the walk comes to the object of the longest prefix
pub table_answers : (wants : Watch) (look : Look) (u : View) (a h : ℕ) → a < 2 ^ 32 → StandsFor wants look u
    → (o : ℕ) × (j : ℕ) × (j ≤ 8) × (hops u.cell a h j root ≡ balance o 0) × (best_block look 32 a ≡ Some o)
table_answers wants look u a h lt s =
    let fits = s.2.at.fits in
    let e : s.1.depth 0 + 8 ≡ 8 = omega (arith, fits.root.1) in
    let r = walk_ends (Mixed look look 0) (Has s.0) s.1 u fits 8 0 a h e fits.root.0 lt (subst (λ (i : ℕ). IsBelow a i (s.1.value 0)) (sym fits.root.1) (div-eq_of_lt lt ∙ sym fits.root.2)) in
    (r.0, r.1, r.2, ap (λ d. hops u.cell a h r.1 (ply 0 d)) (sym fits.root.1) ∙ r.3, r.4.1 (omega arith))

-- the longest prefix's object, for each address
pub leads_all : (p : Promise) (t : Table) (u : View) → Stands p t u → LeadsAll t u
leads_all p t u s a h lt =
    let r = table_answers (watch_of p t) (look_of (held t.rows.members)) u a h lt (s.0, s.1, s.2) in
    (r.0, r.1, r.2, r.3, best_longest (look_of (held t.rows.members)) 32 a r.0 r.4)

pub held_prefix : (rows : List Row) → ArePrefixes rows → (q : Prefix) (o : ℕ) → held rows q ≡ Some o → IsPrefix q
held_prefix [] h q o e = absurd (none_not e)
  where
    none_not : None ≡ Some o → ⊥
    none_not e = cc
held_prefix (r ∷ rs) h q o e = by_test (same_prefix r.prefix q) refl e (held_prefix rs h.1 q o)
  where
    by_test : (b : Bool) → same_prefix r.prefix q ≡ b → (if b then Some r.object else held rs q) ≡ Some o → (held rs q ≡ Some o → IsPrefix q) → IsPrefix q
    by_test true t e rest = subst IsPrefix ((same_prefix-Decides r.prefix q).0 t) h.0
    by_test false t e rest = rest e

-- the blocks of depth 1 are sixteen
first_needed : (rows : List Row) → ArePrefixes rows → (w : ℕ) → Needs (look_of (held rows)) 1 w → w < 16
first_needed rows are w (j, b, o, some, block, is) =
    let l : ℕ = 4 * 1 + j + 1 in
    let prefix : IsPrefix (record { bits = b * 2 ^ (32 - l); len = l }) = held_prefix rows are (record { bits = b * 2 ^ (32 - l); len = l }) o is in
    let below : b * 2 ^ (32 - l) < 4294967296 = prefix.fits in
    ⊎_elim (λ (less : w < 16). less) (λ (more : 16 ≤ w). absurd (
    let at : w * 2 ^ (j + 1) ≤ b = subst (λ (i : ℕ). i * 2 ^ (j + 1) ≤ b) block (div-mul-le_self b (2 ^ (j + 1))) in
    let at16 : 16 * 2 ^ (j + 1) ≤ w * 2 ^ (j + 1) = mul-le 16 (2 ^ (j + 1)) w (2 ^ (j + 1)) more (omega arith) in
    let up : 16 * 2 ^ (j + 1) * 2 ^ (32 - l) ≤ b * 2 ^ (32 - l) = mul-le (16 * 2 ^ (j + 1)) (2 ^ (32 - l)) b (2 ^ (32 - l)) (omega (arith, at, at16)) (omega arith) in
    let four : 2 ^ (4 + (j + 1)) ≡ 16 * 2 ^ (j + 1) = pow-add 2 4 (j + 1) in
    let shifts : 4 + (j + 1) + (32 - l) ≡ 32 = omega (arith, some) in
    let all : 16 * 2 ^ (j + 1) * 2 ^ (32 - l) ≡ 4294967296 = ap (λ i. i * 2 ^ (32 - l)) (sym four) ∙ sym (pow-add 2 (4 + (j + 1)) (32 - l)) ∙ ap (λ i. 2 ^ i) shifts in
    omega (arith, up, all, below))) (cases_lt w 16)

-- besides the root, the plies are those that the set needs, one for each place
pub plies_exact : (p : Promise) (t : Table) (u : View) → ArePrefixes t.rows.members → (s : Stands p t u) → (d w : ℕ)
    → Needs (look_of (held t.rows.members)) (d + 1) w ↔ ((c : ℕ) × IsOne s.1.all c × (s.1.depth c ≡ d + 1) × (s.1.value c ≡ w))
plies_exact p t u are s d w = (there, back)
  where
    there : Needs (look_of (held t.rows.members)) (d + 1) w → (c : ℕ) × IsOne s.1.all c × (s.1.depth c ≡ d + 1) × (s.1.value c ≡ w)
    there h =
        let r = ply_there (Mixed (look_of (held t.rows.members)) (look_of (held t.rows.members)) 0) (Has s.0) s.1 u s.2.at.fits d w (λ v k. first_needed t.rows.members are v (s.2.exact 0 v k)) (s.2.at.wider d w h) in
        (r.0, s.2.at.list.each r.0 r.1, r.2, r.3)

    back : (c : ℕ) × IsOne s.1.all c × (s.1.depth c ≡ d + 1) × (s.1.value c ≡ w) → Needs (look_of (held t.rows.members)) (d + 1) w
    back (c, one, dep, val) = ⊎_elim
        (λ (z : c ≡ 0). absurd (let r = s.2.at.fits.root.1 in let e : s.1.depth 0 ≡ d + 1 = subst (λ (i : ℕ). s.1.depth i ≡ d + 1) z dep in omega (arith, r, e)))
        (λ (k : s.0 (s.1.depth c) (s.1.value c) ≡ true). s.2.exact d w (ap₂ s.0 (sym dep) (sym val) ∙ k))
        (s.2.at.fits.needed c (s.2.at.list.only c one)).1

module _ (K N : ℕ → ℕ → Type 0) (n : Paths) (u : View) (fits : Fits K N n u) (small : (w : ℕ) → N 1 w → w < 16) where
  -- the walk of each address of a ply's block stands on it after as many hops as it is deep
  pub reached : (d x : ℕ) → n.is_in x ≡ true → n.depth x ≡ d → IsPlyOf u d (n.value x) x
  reached zero x is e a h lt below = ap (λ y. ply y 0) (fits.apart 0 x fits.root.0 is (fits.root.1 ∙ sym e) (fits.root.2 ∙ sym (div-eq_of_lt lt) ∙ below))
  reached (suc d) x is e a h lt below =
      let v : ℕ = n.value x in
      let le : n.depth x ≤ 7 = (fits.needed x is).0 in
      let at : IsBelow a d (v / 16) × (a / 2 ^ (28 - 4 * d) % 16 ≡ v % 16) = in_block a d v (omega arith) below in
      let need : N (suc d) v = ⊎_elim (λ (z : x ≡ 0). absurd (let r = fits.root.1 in let e0 : n.depth 0 ≡ suc d = subst (λ (i : ℕ). n.depth i ≡ suc d) z e in omega (arith, r, e0)))
      (λ (k : N (n.depth x) v). subst (λ (i : ℕ). N i v) e k) (fits.needed x is).1 in
      let p = parent d v need in
      let here = reached d p.0 p.1 p.2 a h lt (at.0 ∙ sym p.3) in
      let s : ℕ = v % 16 in
      let less : s < 16 = mod_below v 16 (omega arith) in
      hops-suc u.cell a h d root ∙ ap (hopped u.cell a h) here ∙ from_here u.cell a h p.0 d s at.1
      ∙ by_word p.0 p.2 p.3 need (u.cell p.0 s) (fits.cells p.0 s p.1 less)
    where
      parent : (d v : ℕ) → N (suc d) v → (y : ℕ) × (n.is_in y ≡ true) × (n.depth y ≡ d) × (n.value y ≡ v / 16)
      parent zero v k = (0, fits.root.0, fits.root.1, let less : v < 16 = small v k in let z = fits.root.2 in omega (arith, z, less))
      parent (suc d) v k =
          let two : suc (suc d) ≡ d + 2 = omega arith in
          let r = ply_there K N n u fits d (v / 16) small (fits.upward d v (subst (λ (i : ℕ). N i v) two k)) in
          (r.0, r.1, r.2 ∙ (let one : d + 1 ≡ suc d = omega arith in one), r.3)

      by_word : (y : ℕ) → n.depth y ≡ d → n.value y ≡ n.value x / 16 → N (suc d) (n.value x) → (w : Word) → IsFilled K N n y (n.value x % 16) w → from_ply d w ≡ ply x (suc d)
      by_word y dy vy need (ToPly c) f =
          let le : n.depth x ≤ 7 = (fits.needed x is).0 in
          let same : n.depth c ≡ n.depth x = omega (arith, f.1.0, dy, e) in
          let whole : n.value c ≡ n.value x = omega (arith, f.1.1, vy) in
          goes_down d c (omega (arith, le, e)) ∙ ap (λ z. ply z (suc d)) (fits.apart c x f.0 is same whole)
      by_word y dy vy need (ToBalance o) f =
          let same : suc d ≡ n.depth y + 1 = omega (arith, dy) in
          let whole : n.value x ≡ 16 * n.value y + n.value x % 16 = omega (arith, vy) in
          absurd (f.0 (subst (λ (i : ℕ). N i (16 * n.value y + n.value x % 16)) same (subst (λ (i : ℕ). N (suc d) i) whole need)))
      by_word y dy vy need Drop f = absurd f
      by_word y dy vy need (Plain b) f = absurd f
      by_word y dy vy need Receive f = absurd f
      by_word y dy vy need (Glean b) f = absurd f
      by_word y dy vy need (ToAdjacency b) f = absurd f

-- a table that stands has exactly the plies that its prefixes need
module _ (p : Promise) (t : Table) (u : View) (are : ArePrefixes t.rows.members) (s : Stands p t u) where
  abbrev look : Look
  look = look_of (held t.rows.members)

  small : (w : ℕ) → s.0 1 w ≡ true → w < 16
  small w k = first_needed t.rows.members are w (s.2.exact 0 w k)

  stands_at : (d x : ℕ) → s.1.is_in x ≡ true → s.1.depth x ≡ d + 1 → IsPlyOf u (d + 1) (s.1.value x) x
  stands_at d x is e = reached (Mixed look look 0) (Has s.0) s.1 u s.2.at.fits small (d + 1) x is e

  ply_of : (x : ℕ) → s.1.is_in x ≡ true → (x ≡ 0) ⊎ IsHeldPly u x
  ply_of x is = let h = s.2.at.fits.held x is in ⊎_elim (λ (z : x ≡ 0). inl z) (λ (k : u.is_held x ≡ true). inr (h.0, k)) h.1

  pub its_plies : HasItsPlies t u
  its_plies = record {
    all = s.1.all;
    apart = s.2.at.list.apart;
    each = λ x. (
      λ one. ply_of x (s.2.at.list.only x one),
      λ h. s.2.at.list.each x (⊎_elim (λ (z : x ≡ 0). subst (λ (i : ℕ). s.1.is_in i ≡ true) (sym z) s.2.at.fits.root.0) (λ (k : IsHeldPly u x). (s.4 x k.0 k.1).0) h),
    );
    number = s.3;
    needed = λ x h.
        (let mine = s.4 x h.0 h.1 in
        let d : ℕ = s.1.depth x - 1 in
        let dep : s.1.depth x ≡ d + 1 = omega (arith, mine.1) in
        let r = (plies_exact p t u are s d (s.1.value x)).1 (x, s.2.at.list.each x mine.0, dep, refl) in
        (d, s.1.value x, r, stands_at d x mine.0 dep));
    there = λ d w need.
        (let r = (plies_exact p t u are s d w).0 need in
        let is = s.2.at.list.only r.0 r.1 in
        (r.0, below_root r.0 d is r.2, subst (λ (i : ℕ). IsPlyOf u (d + 1) i r.0) r.3 (stands_at d r.0 is r.2)));
  }
    where
      below_root : (x d : ℕ) → s.1.is_in x ≡ true → s.1.depth x ≡ d + 1 → IsHeldPly u x
      below_root x d is dep = ⊎_elim
          (λ (z : x ≡ 0). absurd (let r = s.2.at.fits.root.1 in let e : s.1.depth 0 ≡ d + 1 = subst (λ (i : ℕ). s.1.depth i ≡ d + 1) z dep in omega (arith, r, e)))
          (λ (k : IsHeldPly u x). k)
          (ply_of x is)

  -- the cell of an address has its answer
  pub answered : (a x d k o : ℕ) → a < 2 ^ 32 → IsCellOf s.1 u a x d k → u.cell x k ≡ ToBalance o
      → ((h : ℕ) → (j : ℕ) × (j ≤ 8) × (hops u.cell a h j root ≡ balance o 0)) × IsLongestBlock look 32 a o
  answered a x d k o lt cell is =
      let here = reached (Mixed look look 0) (Has s.0) s.1 u s.2.at.fits small d x cell.path.0 cell.path.1 in
      let shift : 32 - 4 * (d + 1) ≡ 28 - 4 * d = omega arith in
      let at : a / 2 ^ (28 - 4 * d) ≡ 16 * s.1.value x + k = ap (λ i. a / 2 ^ i) (sym shift) ∙ cell.below in
      let few = cell.few.0 in
      let slot : a / 2 ^ (28 - 4 * d) % 16 ≡ k = omega (arith, at, few) in
      let deep = cell.few.1 in
      let filled = subst (λ (w : Word). IsFilled (Mixed look look 0) (Has s.0) s.1 x k w) is (s.2.at.fits.cells x k cell.path.0 few) in
      let inside : IsIn s.1 x k a = (lt, subst (λ (i : ℕ). IsBelow a (i + 1) (16 * s.1.value x + k)) (sym cell.path.1) cell.below) in (
        λ h. (
          suc d,
          omega (arith, deep),
          hops-suc u.cell a h d root ∙ ap (hopped u.cell a h) (here a h lt cell.path.2) ∙ from_here u.cell a h x d k slot ∙ ap (from_ply d) is,
        ),
        best_longest look 32 a o ((filled.1 a inside).1 (omega arith)),
      )

-- the shape of its plies
pub trie_of : (p : Promise) (t : Table) (u : View) → (s : Stands p t u) → IsTrie s.1 u
trie_of p t u s = fits_trie (Mixed (look_of (held t.rows.members)) (look_of (held t.rows.members)) 0) (Has s.0) s.1 u s.2.at.fits
