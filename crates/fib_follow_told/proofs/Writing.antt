-- Who is written holds all that a change can touch.
use Rattle.std.proofs.Common.{List, [], inl, inr, ◌↔◌}
use Rattle.std.specs.Prelude.{◌⊎◌, Contains}
use Rattle.std.specs.Set.{is_member}
use Rattle.fib_addr.specs.Prefixes.{Prefix, same_prefix}
use Rattle.fib_resolve.specs.declared.types.Tables.{Tables}
use Rattle.fib_resolve_changes.specs.Reached.{HoldsTouched}
use Rattle.fib_follow_view.specs.Views.{Seen, is_changed}
use Rattle.fib_follow_part.specs.Parts.{IsPart, Part, in_part}
use Rattle.fib_follow_part.proofs.Parting.{among, member_of}
use Rattle.fib_follow_told.specs.Told.{AreOthers}
use Rattle.fib_follow_told.specs.inner.Gathered.{Gathers}
use Rattle.fib_follow_told.proofs.Gathering.{gather, gathered}

pub written_each : (members others mid w : List Prefix) → Gathers members [] mid → Gathers others mid w → (e : Prefix)
    → Contains w e ↔ Contains members e ⊎ Contains others e
written_each members others mid w a b e = (
  λ c. elim ((b.each e).0 c) [ inl m ↦ inl (gathered members mid a e m) | inr o ↦ inr o ],
  λ k. elim k [ inl m ↦ (b.each e).1 (inl (gather members mid a e m)) | inr o ↦ (b.each e).1 (inr o) ],
)

pub written_holds : (v : Seen) (S T : Tables) (p : Part) (others w : List Prefix) → IsPart v S T p → AreOthers S T (is_changed v.changed) others
    → ((e : Prefix) → Contains w e ↔ Contains p.members e ⊎ Contains others e)
    → HoldsTouched S T (is_changed v.changed) (in_part p) (is_member same_prefix w)
written_holds v S T p others w is are each = record {
  reached = is.reached;
  has_part = λ e there. member_of w e ((each e).1 (inl (among p.members e there)));
  needing = λ e q a c kind need changed. member_of w e ((each e).1 (inr (are.needing e q a c kind need changed)));
  ends = λ e q c means. member_of w e ((each e).1 (inr (are.ends e q c means)));
}
