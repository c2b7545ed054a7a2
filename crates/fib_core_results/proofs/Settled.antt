-- A result whose pass saw one settled version.
use Rattle.std.proofs.Common.{arith, ◌≡◌, ◌<◌, ℕ, List, Option, Some, length, refl, sym, ◌∙◌, ap}
use Rattle.std.specs.Prelude.{slice_get}
use Rattle.fib_resolve.specs.Resolution.{Trip, resolve}
use Rattle.fib_resolve.specs.declared.types.Tables.{Tables}
use Rattle.fib_core_results.specs.declared.record.Version.{Version}
use Rattle.fib_core_results.specs.Trails.{IsRecordOk, version_at, settled_answer}
use Rattle.fib_core_results.specs.Steady.{IsSteady}

some_is : (S T : Tables) (o : Option Tables) → o ≡ Some S → o ≡ Some T → S ≡ T
some_is S T o p q = cc

same_version : (j k : ℕ) → version_at k ≡ version_at j → k ≡ j
same_version j k e = ap (λ (v : Version). v.settled) e

pub settled_ok : (H : List Tables) (k a h : ℕ) (S : Tables) → k < length H → slice_get H k ≡ Some S → IsRecordOk H (settled_answer S k a h)
settled_ok H k a h S inside held = record {
  order = record { settled = omega arith; applied = omega arith };
  low = omega arith;
  high = omega arith;
  inside = inside;
  quiet = λ j T at got. (
      let same = same_version j k at.lo in
      let e : S ≡ T = some_is S T (slice_get H j) (ap (λ (n : ℕ). slice_get H n) (sym same) ∙ held) got in
      ap (λ (X : Tables). resolve X a h) e);
  wide = λ no_version. absurd (no_version k (record { lo = refl; hi = refl }));
}

pub settled_steady : (H : List Tables) (k a h : ℕ) (S : Tables) → k < length H → slice_get H k ≡ Some S → IsSteady H (settled_answer S k a h)
unfolding resolve
settled_steady H k a h S inside held trip keeps = ap (λ (t : Trip). t.end) (keeps k S (omega arith) (omega arith) held)
