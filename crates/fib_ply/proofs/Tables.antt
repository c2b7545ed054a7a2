-- Tables with their own sets of prefixes.
use Rattle.std.proofs.Common.{◌≡◌, ℕ, ◌+◌, ◌*◌, ◌-◌, ◌/◌, ◌%◌, ◌^◌, ◌<◌, ◌≤◌, ⊎_elim, Bool, false, List, [], ◌∷◌, Option, Some, None, refl, sym, ap, ap₂, ◌∙◌, subst, arith}
use Rattle.std.specs.Prelude.{length}
use Rattle.std.proofs.lemmas.Bool.{cases_lt}
use Rattle.std.proofs.lemmas.Nat.{mul-le, pow-add}
use Rattle.std.proofs.Math.Nat.{div-mul-le_self}
use native.Mathlib.Decide.{ℕ_discrete}
use mathlib.Core.Logic.{dite}
use mathlib.Core.Path.{fun_ext}
use Rattle.fib_addr.specs.Prefixes.{Prefix, IsPrefix, same_prefix, size_of}
use Rattle.fib_addr.proofs.PrefixLaws.{same_prefix-Decides}
use Rattle.fib_core_steady.specs.Aims.{IsLasting}
use Rattle.fib_core_promise.specs.Matches.{FitsVersions, IsSometime, look_of}
use Rattle.fib_core_promise.specs.Matches as tables
use Rattle.fib_core_promise.proofs.Matches.{fits_added, fits_removed}
use Rattle.fib_base_ordered.specs.Sets.{Order}
use Rattle.fib_plane_view.specs.Promise.{Promise, IsBegun}
use Rattle.fib_plane_view.specs.View.{View}
use Rattle.fib_ply.specs.Prefixes.{Look, Needs}
use Rattle.fib_ply.specs.Rows.{held, ArePrefixes}
use Rattle.fib_ply.specs.Tables.{Came, Stands}
use Rattle.fib_ply.specs.declared.rows.Row.{Row}
use Rattle.fib_ply.specs.Served.{Paths}
use Rattle.fib_ply.specs.Plies.{IsMine, IsTable}
use Rattle.fib_ply.specs.inner.Change.{IsPromised, CanAdd, CanRemove, IsAdded, IsRemoved, IsStoredFew}
use Rattle.fib_ply.specs.inner.Change as blocks
use Rattle.fib_ply.proofs.Needing.{whole_is}
use Rattle.fib_ply.proofs.Rewatching.{renamed, promised_added, promised_removed}
use Rattle.fib_ply.proofs.Rowing.{look_added, look_removed, not_true}

-- only prefixes have objects
held_none : (rows : List Row) → ArePrefixes rows → (q : Prefix) → (IsPrefix q → ⊥) → held rows q ≡ None
held_none [] h q out = refl
held_none (r ∷ rs) h q out =
    let t : same_prefix r.prefix q ≡ false = not_true (same_prefix r.prefix q) (λ t. out (subst IsPrefix ((same_prefix-Decides r.prefix q).0 t) h.0)) in
    rw t (held_none rs h.1 q out)

-- two functions of prefixes that agree by length and first bits, and have nothing else
same_of : (f g : Prefix → Option ℕ) → look_of f ≡ look_of g → ((q : Prefix) → (IsPrefix q → ⊥) → f q ≡ None) → ((q : Prefix) → (IsPrefix q → ⊥) → g q ≡ None) → f ≡ g
same_of f g same out out' = fun_ext (λ q. ⊎_elim
    (λ (long : 32 < q.len). let no : IsPrefix q → ⊥ = λ h. let l = h.short in omega (arith, l, long) in out q no ∙ sym (out' q no))
    (λ (short : q.len ≤ 32). dite (ℕ_discrete (q.bits % size_of q.len) 0)
    (λ cleared.
    let c : ℕ = q.bits / 2 ^ (32 - q.len) in
    let block : (let r : Prefix = record { bits = c * 2 ^ (32 - q.len); len = q.len } in r) ≡ q = ap (λ b. let r : Prefix = record { bits = b; len = q.len } in r) (whole_is q.bits (2 ^ (32 - q.len)) cleared) in
    sym (ap f block) ∙ ap (λ (look : Look). look q.len c) same ∙ ap g block)
    (λ ne. let no : IsPrefix q → ⊥ = λ h. ne h.cleared in out q no ∙ sym (out' q no)))
    (cases_lt 32 q.len))

module _ (p : Promise) (rows : Order Row) (plies : ℕ) (are : ArePrefixes rows.members) (u : View) (e : Prefix) (prefix : IsPrefix e) (some : 1 ≤ e.len) (fits : IsBegun p → FitsVersions p.versions (held rows.members)) (stands : Stands p (record { rows = rows; plies = plies }) u) (len top : ℕ) (len_is : len ≡ e.len) (top_is : top ≡ e.bits / 2 ^ (32 - len)) where
  abbrev f : Prefix → Option ℕ
  f = held rows.members

  pub small : (1 ≤ len) × (len ≤ 32) × (top < 2 ^ len)
  small = (
    omega (arith, len_is, some),
    (let s = prefix.short in omega (arith, len_is, s)),
    ⊎_elim (λ (less : top < 2 ^ len). less) (λ (more : 2 ^ len ≤ top). absurd (
        let at : top * 2 ^ (32 - len) ≤ e.bits = subst (λ (i : ℕ). i * 2 ^ (32 - len) ≤ e.bits) (sym top_is) (div-mul-le_self e.bits (2 ^ (32 - len))) in
        let h : 2 ^ len * 2 ^ (32 - len) ≤ top * 2 ^ (32 - len) = mul-le (2 ^ len) (2 ^ (32 - len)) top (2 ^ (32 - len)) more (omega arith) in
        let w : len + (32 - len) ≡ 32 = (let s = prefix.short in omega (arith, len_is, s)) in
        let all : 2 ^ len * 2 ^ (32 - len) ≡ 4294967296 = sym (pow-add 2 len (32 - len)) ∙ ap (λ i. 2 ^ i) w in
        let below = prefix.fits in omega (arith, at, h, all, below))) (cases_lt top (2 ^ len)),
  )

  block : (let r : Prefix = record { bits = top * 2 ^ (32 - len); len = len } in r) ≡ e
  block = ap₂ (λ x y. let r : Prefix = record { bits = x * 2 ^ (32 - y); len = y } in r) (top_is ∙ ap (λ i. e.bits / 2 ^ (32 - i)) len_is) len_is ∙ ap (λ b. let r : Prefix = record { bits = b; len = e.len } in r) (whole_is e.bits (2 ^ (32 - e.len)) prefix.cleared)

  -- the plies that came, by the prefix
  pub came : (count : ℕ) → count ≤ (len - 1) / 4 → ((d : ℕ) → (len - 1) / 4 < d + count → d ≤ (len - 1) / 4 → Needs (look_of f) d (top * 2 ^ (32 - len) / 2 ^ (32 - 4 * d)) → ⊥) → Came f e count
  came count within bare =
      let steps : (len - 1) / 4 ≡ (e.len - 1) / 4 = ap (λ i. (i - 1) / 4) len_is in
      let bits : top * 2 ^ (32 - len) ≡ e.bits = ap (λ (r : Prefix). r.bits) block in
      record {
        few = omega (arith, within, steps);
        bare = λ d lt le needs. bare d (omega (arith, lt, steps)) (omega (arith, le, steps)) (subst (λ (i : ℕ). Needs (look_of f) d (i / 2 ^ (32 - 4 * d))) (sym bits) needs);
      }

  more : (o : ℕ) → look_of (tables.added f e o) ≡ blocks.added (look_of f) len top o
  more o = ap (λ i. look_of (tables.added f i o)) (sym block) ∙ look_added f len top o

  less : look_of (tables.removed f e) ≡ blocks.removed (look_of f) len top
  less = ap (λ i. look_of (tables.removed f i)) (sym block) ∙ look_removed f len top

  table : IsTable (record { promise = p; balance = f }) (look_of f) stands.0 stands.1 u
  table = stands.2

  has : (q : ℕ) × (look_of f 0 0 ≡ Some q)
  has = table.at.sound.whole

  module _ (o : ℕ) (absent : f e ≡ None) (sometime : IsBegun p → IsSometime p.versions e) where
    promise_added : IsPromised (record { promise = p; balance = f }) (look_of f) (blocks.added (look_of f) len top o)
    promise_added = subst (IsPromised (record { promise = p; balance = f }) (look_of f)) (more o) (let k = table.at.kept in promised_added p f k.newest k.older k.versions has.0 has.1 fits e prefix some o absent sometime)

    pub can_add : 16 * (plies + 7) ≤ u.spare → CanAdd p (look_of f) u len top o
    can_add spare = (record { promise = p; balance = f }, stands.0, stands.1, table, refl, subst (λ (i : ℕ). 16 * (i + 7) ≤ u.spare) (sym stands.3) spare, promise_added)

    module _ (now : Order Row) (are' : ArePrefixes now.members) (look_is : look_of (held now.members) ≡ blocks.added (look_of f) len top o) where
      pub object_added : held now.members ≡ tables.added f e o
      object_added = same_of (held now.members) (tables.added f e o) (look_is ∙ sym (more o)) (held_none now.members are')
          (λ q out. let t : same_prefix q e ≡ false = not_true (same_prefix q e) (λ t. out (subst IsPrefix (sym ((same_prefix-Decides q e).0 t)) prefix)) in rw t (held_none rows.members are q out))

      pub fits_now : IsBegun p → FitsVersions p.versions (held now.members)
      fits_now b = subst (FitsVersions p.versions) (sym object_added) (fits_added p.versions f e o prefix (sometime b) (fits b))

      lasts : IsBegun p → (q : Prefix) → IsLasting p.versions q → held now.members q ≡ f q
      lasts b q l = ap (λ (g : Prefix → Option ℕ). g q) object_added ∙ (let r = (fits b).all q l in let t : same_prefix q e ≡ false = not_true (same_prefix q e) (λ t. none_not r.0 (sym absent ∙ ap f (sym ((same_prefix-Decides q e).0 t)) ∙ r.1)) in rw t refl)
        where
          none_not : (x : ℕ) → None ≡ Some x → ⊥
          none_not x e = cc

      module _ (v : View) (count : ℕ) (did : IsAdded p (look_of f) (look_of (held now.members)) u v count) where
        done : (after : ℕ → ℕ → Bool) × (m : Paths) × IsTable (record { promise = p; balance = f }) (look_of (held now.members)) after m v × (length m.all ≡ length stands.1.all + count) × IsStoredFew stands.1 u v × (IsMine stands.1 u → IsMine m v)
        done = did (record { promise = p; balance = f }) stands.0 stands.1 table refl (subst (IsPromised (record { promise = p; balance = f }) (look_of f)) (sym look_is) promise_added)

        pub stands_added : Stands p (record { rows = now; plies = plies + count }) v
        stands_added = (done.0, done.1, renamed p f (held now.members) lasts (look_of (held now.members)) done.0 done.1 v done.2, done.3 ∙ ap (λ i. i + count) stands.3, done.5 stands.4)

        pub stored_more : u.stored ≤ v.stored
        stored_more = done.4.more

  module _ (leaves : IsBegun p → IsLasting p.versions e → ⊥) where
    promise_removed : IsPromised (record { promise = p; balance = f }) (look_of f) (blocks.removed (look_of f) len top)
    promise_removed = subst (IsPromised (record { promise = p; balance = f }) (look_of f)) less (let k = table.at.kept in promised_removed p f k.newest k.older k.versions has.0 has.1 fits e prefix some leaves)

    pub can_remove : 16 * plies ≤ u.spare → CanRemove p (look_of f) u len top
    can_remove spare = (record { promise = p; balance = f }, stands.0, stands.1, table, refl, subst (λ (i : ℕ). 16 * i ≤ u.spare) (sym stands.3) spare, promise_removed)

    module _ (now : Order Row) (are' : ArePrefixes now.members) (look_is : look_of (held now.members) ≡ blocks.removed (look_of f) len top) where
      pub object_removed : held now.members ≡ tables.removed f e
      object_removed = same_of (held now.members) (tables.removed f e) (look_is ∙ sym less) (held_none now.members are')
          (λ q out. let t : same_prefix q e ≡ false = not_true (same_prefix q e) (λ t. out (subst IsPrefix (sym ((same_prefix-Decides q e).0 t)) prefix)) in rw t (held_none rows.members are q out))

      pub fits_left : IsBegun p → FitsVersions p.versions (held now.members)
      fits_left b = subst (FitsVersions p.versions) (sym object_removed) (fits_removed p.versions f e (leaves b) (fits b))

      lasts' : IsBegun p → (q : Prefix) → IsLasting p.versions q → held now.members q ≡ f q
      lasts' b q l = ap (λ (g : Prefix → Option ℕ). g q) object_removed ∙ (let t : same_prefix q e ≡ false = not_true (same_prefix q e) (λ t. leaves b (subst (IsLasting p.versions) ((same_prefix-Decides q e).0 t) l)) in rw t refl)

      module _ (v : View) (count : ℕ) (did : IsRemoved p (look_of f) (look_of (held now.members)) u v count) where
        gone : (after : ℕ → ℕ → Bool) × (m : Paths) × IsTable (record { promise = p; balance = f }) (look_of (held now.members)) after m v × (length m.all + count ≡ length stands.1.all) × IsStoredFew stands.1 u v × (IsMine stands.1 u → IsMine m v)
        gone = did (record { promise = p; balance = f }) stands.0 stands.1 table refl (subst (IsPromised (record { promise = p; balance = f }) (look_of f)) (sym look_is) promise_removed)

        pub fewer : count ≤ plies
        fewer = let a = gone.3 in let b = stands.3 in omega (arith, a, b)

        pub stands_removed : Stands p (record { rows = now; plies = plies - count }) v
        stands_removed = (gone.0, gone.1, renamed p f (held now.members) lasts' (look_of (held now.members)) gone.0 gone.1 v gone.2, (let a = gone.3 in let b = stands.3 in let r : length gone.1.all ≡ plies - count = omega (arith, a, b) in r), gone.5 stands.4)

        pub stored_grew : u.stored ≤ v.stored
        stored_grew = gone.4.more

-- counts that wrap
pub wraps : (a b before after : ℕ) → a ≤ b → before ≡ a % 18446744073709551616 → after ≡ b % 18446744073709551616 → (after + (18446744073709551616 - before)) % 18446744073709551616 ≡ (b - a) % 18446744073709551616
wraps a b before after le e f = omega (arith, le, e, f)
