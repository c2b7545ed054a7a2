-- The fresh table is lawful.
use Rattle.std.proofs.Common.{◌≡◌, ℕ, zero, suc, ◌+◌, ◌*◌, ◌/◌, ◌%◌, ◌<◌, ◌≤◌, inl, inr, false, true≢false, List, [], ◌∷◌, length, replicate, refl, sym, ap, ◌∙◌, subst, arith}
use Rattle.std.proofs.lemmas.Bool.Decides.{nat_tests}
use Rattle.std.specs.Prelude.{slice_index, slice_index_or, slice_get, nat_lt, if◌then◌else◌}
use mathlib.Core.Option.{some, some-injective, some-ne-none}
use lib.ListN.{get_elem?}
use Rattle.fib_addr.specs.Prefixes.{nibble}
use Rattle.fib_reach.specs.Walks.{Walk, IsAcyclic}
use Rattle.fib_resolve.specs.Tables.{fresh}
use Rattle.fib_resolve.specs.Resolution.{resolve}
use Rattle.fib_resolve.specs.declared.types.End.{End}
use Rattle.fib_resolve.specs.declared.types.End.TheVariants as answers
use Rattle.fib_core_results.specs.Trails.{version_at}
use Rattle.fib_core.specs.declared.word.Word.TheVariants as words
use Rattle.fib_core.specs.Words.{encoded, decoded, goes}
use Rattle.fib_core.specs.Walk.{root, from_ply, after, end_at, walk, EndsIn}
use Rattle.fib_core.specs.Union.{Union, Goes, Edge, PlyEdge, IsTyped}
use Rattle.fib_core.specs.Trails.{IsEndOf}
use Rattle.fib_core.proofs.Numbers.{zeros, goes-zero, decoded-zero}
use Rattle.fib_core.proofs.Walks.{after_ended}
use Rattle.fib_core_results.specs.Versions.{packed}
use Rattle.fib_core_lawful.specs.Layout.{version_word, pass_word, claim_word, first_cell, cell_word, words_for}
use Rattle.fib_core_lawful.specs.State.{Control, View, control, first_control}
use Rattle.fib_core_lawful.specs.Frame.{Fits}
use Rattle.fib_core_lawful.specs.Claims.{one_if}
use Rattle.fib_core_lawful.specs.Lawful.{lawful}
use Rattle.fib_core_lawful.specs.Rule.{Holds}
use Rattle.fib_core_lawful.proofs.Parts.{some_is}
use Rattle.fib_core_lawful.proofs.Fresh.{fresh_drops}

pub falses : (n k : ℕ) → slice_index_or (replicate n false) k false ≡ false
falses zero k = refl
falses (suc n) zero = refl
falses (suc n) (suc k) = falses n k

pub length_zeros : {A : Type 0} (n : ℕ) (x : A) → length (replicate n x) ≡ n
length_zeros zero x = refl
length_zeros (suc n) x = ap suc (length_zeros n x)

module _ (n : ℕ) where
  fresh_union : Union
  fresh_union = record { cells = replicate n 0; retired = [] }

  pub no_goes : (k w : ℕ) → Goes (record { cells = replicate n 0; retired = [] }) k w → ⊥
  no_goes k w (going, inl e) = true≢false (sym going ∙ ap goes (sym e ∙ zeros n k) ∙ goes-zero)
  no_goes k w (going, inr a) = a

  no_walk : (d y : ℕ) → Walk (PlyEdge (record { cells = replicate n 0; retired = [] })) d 0 y → d ≤ 7
  no_walk zero y w = omega arith
  no_walk (suc d) y w = absurd (no_goes w.1.0 w.1.1 w.1.4)

  pub drop_at : (k : ℕ) → decoded (slice_index (replicate n 0) k) ≡ words.Drop
  drop_at k = ap decoded (zeros n k) ∙ decoded-zero

  pub fresh_typed : IsTyped (record { cells = replicate n 0; retired = [] })
  fresh_typed = record {
    one_tag = λ k w j v g q e. absurd (no_goes k w g);
    rootless = λ k w g e. no_goes k w g;
    plies = λ k w j v g is q e. absurd (no_goes k w g);
    shallow = no_walk;
    root = λ s lt. inr (drop_at (16 * 0 + s));
    formed = λ k w s g lt. absurd (no_goes k w g);
  }

  fresh_calm : IsAcyclic (Edge (record { cells = replicate n 0; retired = [] }))
  fresh_calm x r = no_goes r.1.1.0 r.1.1.1 r.1.1.4

  fresh_walk : (a h : ℕ) → walk (replicate n 0) a h ≡ answers.Drop
  unfolding walk
  fresh_walk a h =
      let cells : List ℕ = replicate n 0 in
      ap (λ i. end_at (after (replicate n 0) a h i root)) (more (length cells / 16))
      ∙ ap (λ w. end_at (after (replicate n 0) a h (length cells / 16) (from_ply 0 w))) (drop_at (16 * 0 + nibble a 0))
      ∙ ap end_at (after_ended cells a h (length cells / 16) answers.Drop)
    where
      more : (m : ℕ) → m + 1 ≡ suc m
      more m = omega arith

  fresh_ends : (P : End → Type 0) (k : ℕ) → EndsIn P (replicate n 0) (decoded (slice_index (replicate n 0) k))
  fresh_ends P k = subst (EndsIn P (replicate n 0)) (sym (drop_at k)) tt

alone : (v u : View) (seat : ℕ) → get_elem? (v ∷ []) seat ≡ some u → (seat ≡ 0) × (v ≡ u)
alone v u zero e = (refl, some-injective v u e)
alone v u (suc seat) e = absurd (some-ne-none u (sym e))

zero_word : 0 ≡ encoded words.Drop
unfolding encoded
zero_word = refl

zero_version : 0 ≡ packed (version_at 0)
unfolding packed
zero_version = refl

pub begins_lawful : (objects workers : ℕ) → 0 < objects → workers ≤ 8 → Holds (lawful objects) (replicate (words_for objects) 0) (control (first_control objects workers) ∷ [])
begins_lawful objects workers any few =
    let c : Control = first_control objects workers in
    let ws : List ℕ = replicate (words_for objects) 0 in
    let n : ℕ = 16 * objects in
    let long : length ws ≡ words_for objects = length_zeros (words_for objects) 0 in
    record {
      rule = (
        c,
        (λ m. 0),
        record {
          size = subst (λ m. first_cell ≤ m) (sym long) (omega arith);
          desk = record { outs = refl; count = refl; same = λ m lt home. zeros (words_for objects) (pass_word m) ∙ sym (zeros 8 m) };
          here = record {
            known = refl;
            any = any;
            few = few;
            copied = record { size = long; long = length_zeros (16 * objects) 0; same = λ k lt. zeros (words_for objects) (cell_word k) ∙ sym (zeros (16 * objects) k) };
            within = record { words = λ k. (words.Drop, tt, zeros (16 * objects) k ∙ zero_word); edges = λ k w g. absurd (no_goes (16 * objects) k w g) };
            typed = fresh_typed (16 * objects);
            acyclic = fresh_calm (16 * objects);
            log = record { packed = zeros (words_for objects) version_word ∙ zero_version; fits = omega arith; order = omega arith; long = refl; first = refl };
            settled = λ k S now held. (let k0 : k ≡ 0 = ap (λ v. v.applied) (sym now) in let S0 : S ≡ fresh = some_is S fresh (sym held ∙ ap (slice_get (fresh ∷ [])) k0) in record {
              answers = λ a h f. fresh_walk (16 * objects) a h ∙ sym (ap (λ T. resolve T a h) S0 ∙ fresh_drops a h);
              quiet = λ lt. refl;
            });
            ends = fresh_ends (16 * objects) (IsEndOf (fresh ∷ []) 0 0);
            home = tt;
            spare = omega arith;
            rested = λ m. ap (λ x. x % 2) (zeros 8 m);
          };
          fits = λ seat v at. (let e = alone (control c) v seat at in subst (Fits (lawful objects) ws c (λ m. 0) seat) e.1 (e.0, refl));
        },
      );
      claims = record { all = zeros (words_for objects) claim_word; each = λ m. sym (ap (λ k. if nat_lt m k then 1 else 0) (zeros (words_for objects) claim_word) ∙ none m) };
      seats = λ m. sym (ap one_if (falses 8 m));
    }
  where
    none : (m : ℕ) → ◌≡◌ {A = ℕ} (if nat_lt m 0 then 1 else 0) 0
    none m = grind (arith, nat_tests)
