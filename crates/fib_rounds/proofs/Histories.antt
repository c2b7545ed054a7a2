-- Histories of tables.
use Rattle.std.proofs.Common.{◌≡◌, ◌+◌, ◌++◌, ◌∷◌, [], ℕ, List, length, arith, refl, ap, ◌∙◌, Some, inl, inr}
use Rattle.std.specs.Prelude.{slice_get, ◌==◌, if◌then◌else◌}
use Rattle.std.proofs.lemmas.List.{length-append, get_or_append_left}
use Rattle.std.proofs.Math.Seq.{get_or-append_seam}
use Rattle.std.proofs.lemmas.Option.{slice_get_within, slice_get-get_or, get_or_from_slice_get}
use Rattle.std.proofs.lemmas.Bool.Decides.{nat_tests}
use Rattle.fib_resolve.specs.declared.types.Tables.{Tables}
use Rattle.fib_rounds_turns.specs.Routers.{Router}
use Rattle.fib_rounds.specs.Stages.{IsHistory, Stage, start, grown}
use Rattle.fib_rounds.proofs.Turning.{Steps}

pub kept : (H more : List Tables) (k : ℕ) (S : Tables) → slice_get H k ≡ Some S → slice_get (H ++ more) k ≡ Some S
kept H more k S e =
    let lt = slice_get_within H k S e in
    slice_get-get_or (H ++ more) k S (omega (arith, lt, length-append H more)) ∙ ap (λ (T : Tables). Some T) (get_or_append_left H more S k lt ∙ get_or_from_slice_get H k S S e)

pub pushed : (H : List Tables) (T : Tables) (k : ℕ) → k ≡ length H → slice_get (H ++ T ∷ []) k ≡ Some T
pushed H T k e =
    rw e (slice_get-get_or (H ++ T ∷ []) (length H) T (omega (arith, length-append H (T ∷ []))) ∙ ap (λ (S : Tables). Some S) (get_or-append_seam H T [] T))

by_same : (H more : List Tables) (a b : ℕ) → a ≡ b → (if a == b then H else more) ≡ H
by_same H more a b e = grind (arith, nat_tests)

by_other : (H more : List Tables) (a b : ℕ) → a ≡ b + 1 → (if a == b then H else more) ≡ more
by_other H more a b e = grind (arith, nat_tests)

pub grown_is : (at : Stage) (s : Router) → Steps at.router s → IsHistory at → IsHistory (record { router = s; history = grown at.history at.router s })
grown_is at s (inl same) h =
    let is : grown at.history at.router s ≡ at.history = by_same at.history (at.history ++ s.config.tables ∷ []) s.changes at.router.changes same.0 in
    record {
      count = ap length is ∙ omega (arith, h.count, same.0);
      newest = rw (is, same.0, same.1) h.newest;
    }
grown_is at s (inr more) h =
    let is : grown at.history at.router s ≡ at.history ++ s.config.tables ∷ [] = by_other at.history (at.history ++ s.config.tables ∷ []) s.changes at.router.changes more in
    record {
      count = ap length is ∙ omega (arith, h.count, more, length-append at.history (s.config.tables ∷ []));
      newest = rw is (pushed at.history s.config.tables s.changes (omega (arith, h.count, more)));
    }

pub held_on : (at : Stage) (s : Router) (k : ℕ) (S : Tables) → Steps at.router s → slice_get at.history k ≡ Some S → slice_get (grown at.history at.router s) k ≡ Some S
held_on at s k S (inl same) e = rw (by_same at.history (at.history ++ s.config.tables ∷ []) s.changes at.router.changes same.0) e
held_on at s k S (inr more) e = rw (by_other at.history (at.history ++ s.config.tables ∷ []) s.changes at.router.changes more) (kept at.history (s.config.tables ∷ []) k S e)

pub start_is : (room : ℕ) → IsHistory (start room)
start_is room = record { count = refl; newest = refl }
