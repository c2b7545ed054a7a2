-- A table under another promise, or under other names.
use Rattle.std.proofs.Common.{◌≡◌, ℕ, ◌<◌, ◌≤◌, Bool, true, false, List, ◌∷◌, Option, Some, None, refl, sym, ap, ◌∙◌, subst, arith}
use Rattle.std.specs.Prelude.{nat_lt, Contains, if◌then◌else◌}
use Rattle.std.proofs.lemmas.Bool.Decides.{nat_tests}
use Rattle.fib_addr.specs.Prefixes.{Prefix, IsPrefix, same_prefix}
use Rattle.fib_addr.proofs.PrefixLaws.{same_prefix-Decides}
use Rattle.fib_addr.specs.Longest.{everything}
use Rattle.fib_core.specs.declared.word.Word.{Word}
use Rattle.fib_core.specs.declared.word.Word.TheVariants.{Drop, ToPly, ToBalance, Plain, Receive, Glean, ToAdjacency}
use Rattle.fib_resolve.specs.declared.aims.Aim.{Aim}
use Rattle.fib_resolve.specs.declared.aims.Aim.TheVariants as aims
use Rattle.fib_resolve.specs.declared.types.Tables.{Tables}
use Rattle.fib_core_steady.specs.Aims.{IsLasting, WantsAlike}
use Rattle.fib_core_promise.specs.Matches.{IsSometime}
use Rattle.fib_core_promise.specs.Matches.{FitsVersions, look_of, promised_by}
use Rattle.fib_core_promise.specs.Matches as tables
use Rattle.fib_core_promise.proofs.Answers.{promised_from, promised_same, promised_answer, promised_answer_added, promised_answer_removed}
use Rattle.fib_core_promise.proofs.Turns.{bucket_on}
use Rattle.fib_plane_view.specs.Promise.{Promise, IsBegun, KeepsBuckets}
use Rattle.fib_core_steady.specs.Promise.{IsAimed}
use Rattle.fib_plane_view.specs.View.{View, adjacency_end}
use Rattle.fib_ply.specs.Prefixes.{Look}
use Rattle.fib_ply.specs.Plies.{IsSound, IsTable}
use Rattle.fib_ply.specs.inner.Change.{IsPromised}
use Rattle.fib_ply.specs.Served.{Paths, IsRight, IsServed, KeepsBeside, Watch, Wanted}
use Rattle.fib_ply.proofs.Rowing.{not_true}

-- less is promised
module _ (W V : ℕ → ℕ → Type 0) (fewer : (a p : ℕ) → V a p → W a p) (n : Paths) where
  pub right_fewer : (x s : ℕ) (w : Word) → IsRight W n x s w → IsRight V n x s w
  right_fewer x s (ToPly c) h = h
  right_fewer x s (ToBalance o) h = λ a p i v. h a p i (fewer a p v)
  right_fewer x s Drop h = h
  right_fewer x s (Plain v) h = h
  right_fewer x s Receive h = h
  right_fewer x s (Glean v) h = h
  right_fewer x s (ToAdjacency v) h = h

  served_fewer : (u : View) → IsServed W n u → IsServed V n u
  served_fewer u ok = record { root = ok.root; paths = ok.paths; right = λ x s walked lt. right_fewer x s (u.cell x s) (ok.right x s walked lt) }

pub rewatch : (w v : Watch) → ((a p : ℕ) → Wanted v a p → Wanted w a p) → (v.promise.applied ≡ 0 → w.promise.applied ≡ 0) → (look : Look) (there : ℕ → ℕ → Bool) (n : Paths) (u : View) → KeepsBeside v u → IsTable w look there n u → IsTable v look there n u
rewatch w v fewer begun look there n u kept table = record {
  at = record {
    fits = table.at.fits;
    wider = table.at.wider;
    served = served_fewer (Wanted w) (Wanted v) fewer n u table.at.served;
    kinds = table.at.kinds;
    promised = λ a p lt h. table.at.promised a p lt (fewer a p h);
    was = sound table.at.was;
    sound = sound table.at.sound;
    kept = kept;
    list = table.at.list;
  };
  exact = table.exact;
}
  where
    sound : IsSound w look u → IsSound v look u
    sound s = record { balance = s.balance; whole = s.whole; still = λ z. s.still (begun z) }

-- the names of entries of all versions stay
module _ (J : List Tables) (f g : Prefix → Option ℕ) (same : (e : Prefix) → IsLasting J e → g e ≡ f e) (u : View) where
  aimed_same : (e : Prefix) (k : ℕ) (m : Aim) (w : Word) → WantsAlike J e k m → IsAimed f (adjacency_end u) m w → IsAimed g (adjacency_end u) m w
  aimed_same e k (aims.Ends end) w alike h = h
  aimed_same e k (aims.On t) w alike h = (h.0, h.1, same t (λ S c. bucket_on S e t k (alike S c)) ∙ h.2)

  buckets_same : KeepsBuckets J f u → KeepsBuckets J g u
  buckets_same h = record {
    named = λ e l. let r = h.named e l in (r.0, same e l ∙ r.1);
    held = λ e o l is. h.held e o l (sym (same e l) ∙ is);
    aimed = λ e o k m l is lt alike. aimed_same e k m (u.cell o k) alike (h.aimed e o k m l (sym (same e l) ∙ is) lt alike);
  }

module _ (p : Promise) (f g : Prefix → Option ℕ) (same : IsBegun p → (e : Prefix) → IsLasting p.versions e → g e ≡ f e) where
  abbrev pub was : Watch
  was = record { promise = p; balance = f }

  abbrev pub now : Watch
  now = record { promise = p; balance = g }

  lt_begun : (z : ℕ) → nat_lt 0 z ≡ true → 0 < z
  lt_begun z h = grind (arith, nat_tests)

  kept_same : (u : View) → KeepsBeside was u → KeepsBeside now u
  kept_same u k = record { allowed = k.allowed; newest = k.newest; older = k.older; versions = k.versions; buckets = λ b. buckets_same p.versions f g (same b) u (k.buckets b); still = k.still }

  wanted_same : (S : Tables) (J : List Tables) → p.versions ≡ S ∷ J → (a o : ℕ) → Wanted now a o → Wanted was a o
  wanted_same S J versions a o h = by_begun (nat_lt 0 p.applied) refl h
    where
      by_begun : (b : Bool) → nat_lt 0 p.applied ≡ b → (if b then promised_by p.versions g a else None) ≡ Some o → (if b then promised_by p.versions f a else None) ≡ Some o
      by_begun true is h =
          let lasts : (e : Prefix) → IsLasting (S ∷ J) e → g e ≡ f e = λ e l. same (lt_begun p.applied is) e (subst (λ (K : List Tables). IsLasting K e) (sym versions) l) in
          ap (λ (K : List Tables). promised_by K f a) versions ∙ sym (promised_same S J f g lasts a) ∙ sym (ap (λ (K : List Tables). promised_by K g a) versions) ∙ h
      by_begun false is h = h

  pub renamed : (look : Look) (there : ℕ → ℕ → Bool) (n : Paths) (u : View) → IsTable was look there n u → IsTable now look there n u
  renamed look there n u table = let k = table.at.kept in rewatch was now (wanted_same k.newest k.older k.versions) (λ z. z) look there n u (kept_same u k) table

-- what is promised, both sets answer
pub wanted_begun : (w : Watch) (a o : ℕ) → Wanted w a o → IsBegun w.promise × (promised_by w.promise.versions w.balance a ≡ Some o)
wanted_begun w a o h = by_begun (nat_lt 0 w.promise.applied) refl h
  where
    lt_is : nat_lt 0 w.promise.applied ≡ true → 0 < w.promise.applied
    lt_is h = grind (arith, nat_tests)

    by_begun : (b : Bool) → nat_lt 0 w.promise.applied ≡ b → (if b then promised_by w.promise.versions w.balance a else None) ≡ Some o → IsBegun w.promise × (promised_by w.promise.versions w.balance a ≡ Some o)
    by_begun true is h = (lt_is is, h)
    by_begun false is h = absurd (none_is h)
      where
        none_is : None ≡ Some o → ⊥
        none_is e = cc

module _ (p : Promise) (f : Prefix → Option ℕ) (S : Tables) (J : List Tables) (versions : p.versions ≡ S ∷ J) (q : ℕ) (all : f everything ≡ Some q) (fits : IsBegun p → FitsVersions p.versions f) (e : Prefix) (prefix : IsPrefix e) (some : 1 ≤ e.len) where
  abbrev pub watch : Watch
  watch = record { promise = p; balance = f }

  here : Contains p.versions S
  here = subst (λ (K : List Tables). Contains K S) (sym versions) (0, omega arith, refl)

  differs : same_prefix everything e ≡ false
  differs = not_true (same_prefix everything e) (λ t. let l : 0 ≡ e.len = ap (λ (i : Prefix). i.len) ((same_prefix-Decides everything e).0 t) in omega (arith, l, some))

  not_all : (b : Bool) (x : Option ℕ) → b ≡ false → (if b then x else f everything) ≡ Some q
  not_all b x is = rw is all

  pub promised_added : (o : ℕ) → f e ≡ None → (IsBegun p → IsSometime p.versions e) → IsPromised watch (look_of f) (look_of (tables.added f e o))
  promised_added o absent sometime a r lt want =
      let w = wanted_begun watch a r want in
      let from = promised_from p.versions f a r w.1 in (
        promised_answer p.versions S here f q all (fits w.0) a r lt from,
        promised_answer_added p.versions S here f q all (fits w.0) e o absent (not_all (same_prefix everything e) (Some o) differs) prefix (sometime w.0) a r lt from,
      )

  pub promised_removed : (IsBegun p → IsLasting p.versions e → ⊥) → IsPromised watch (look_of f) (look_of (tables.removed f e))
  promised_removed leaves a r lt want =
      let w = wanted_begun watch a r want in
      let from = promised_from p.versions f a r w.1 in (
        promised_answer p.versions S here f q all (fits w.0) a r lt from,
        promised_answer_removed p.versions S here f q all (fits w.0) e (not_all (same_prefix everything e) None differs) (leaves w.0) a r lt from,
      )
