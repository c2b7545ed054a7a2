-- What was planned, once it is written.
use Rattle.std.proofs.Common.{arith, ◌≡◌, ◌≤◌, ◌<◌, ◌-◌, ◌^◌, ℕ, List, sym, subst}
use Rattle.std.specs.Prelude.{IfSome, Option, Some, None, min}
use Rattle.fib_addr.specs.Prefixes.{Prefix}
use Rattle.fib_resolve.specs.Sizes.{size}
use Rattle.fib_resolve.specs.declared.types.Tables.{Tables}
use Rattle.fib_resolve_changes.specs.declared.change.Change.{Change}
use Rattle.fib_entries_rows.specs.Changes.{FromBefore, IsFollowed}
use Rattle.fib_entries_rows.specs.Known.{Known, PathKept}
use Rattle.fib_entries_rows.specs.Rows.{Row}
use Rattle.fib_follow_view.specs.Views.{Seen}
use Rattle.fib_follow_features.specs.Holders.{Holders}
use Rattle.fib_follow_write.specs.Plans.{IsPlan, IsWritten}
use Rattle.fib_follow_write.specs.declared.writing.Plan.{Plan}
use Rattle.fib_follow_plan.specs.Made.{plan_of}
use Rattle.fib_follow_plan.proofs.Rows.{moved_after, stands_after}
use Rattle.fib_entries.specs.inner.Kept.{AreKept}
use Rattle.fib_entries.specs.inner.Planned.{HasWritten, IsFrom, IsMadeFor, IsPlanned, IsSize}
use Rattle.fib_entries.specs.declared.steps.Planned.{Planned}

small : (s most n : ℕ) → n ≡ min s (2 ^ 32 - 1) → n ≤ most → most < 2 ^ 32 - 1 → s ≤ most
small s most n is low lt = omega (arith, is, low, lt)

by_seen : (u : Seen) (w : Known) (S T : Tables) (x : Planned) (most : ℕ) → IsPlan u.before.rows x.plan → HasWritten x.plan u.before w
    → IsMadeFor u S T x → IsSize T x.objects → x.objects ≤ most → most < 2 ^ 32 - 1
    → IsFollowed u.before (record { rows = w.rows; lists = w.lists; objects = x.objects }) S T most x.followed
by_seen u w S T x most suits h m sized low lt =
    let plan = plan_of u m.part m.ranks m.bodies m.edges in
    let fits : IsPlan u.before.rows plan = subst (IsPlan u.before.rows) m.made suits in
    let written : IsWritten plan u.before.rows w.rows u.before.lists w.lists h.after =
    subst (λ (p : Plan). IsWritten p u.before.rows w.rows u.before.lists w.lists h.after) m.made h.written in
    record {
      stands = stands_after u S T m.part m.ranks m.list m.bodies m.edges w.rows w.lists h.after m.works fits written x.objects sized;
      touched = m.told.touched;
      moved = moved_after u S T m.part m.ranks m.list m.bodies m.edges w.rows w.lists h.after m.works fits written x.followed.moved m.told.moved;
      fits = small (size T) most x.objects sized low lt;
    }

-- what was planned is followed once it is written
pub followed : (v w : Known) (list : List Change) (T : Tables) (x : Planned) → IsPlanned v list T x → HasWritten x.plan v w
    → (most : ℕ) → x.objects ≤ most → most < 2 ^ 32 - 1
    → FromBefore v list T (λ S. IsFollowed v (record { rows = w.rows; lists = w.lists; objects = x.objects }) S T most x.followed)
followed v w list T x p h most low lt S stands differ =
    let from : IsFrom v list S T = record { stands = stands; differ = differ } in
    let m = p.works S from in
    subst (λ (k : Known). IsFollowed k (record { rows = w.rows; lists = w.lists; objects = x.objects }) S T most x.followed) m.1
    (by_seen m.0 w S T x most (subst (λ (k : Known). IsPlan k.rows x.plan) (sym m.1) p.suits)
    (subst (λ (k : Known). HasWritten x.plan k w) (sym m.1) h) m.2 (p.sized S from) low lt)

-- what is kept of equal parts
pub kept_of : (rows new : List Row) (lists later : List PathKept) (order after : List Prefix) (sets : List Holders) → new ≡ rows → later ≡ lists → after ≡ order
    → AreKept rows lists order sets → AreKept new later after sets
kept_of rows new lists later order after sets r l o h = rw (r, l, o) h

-- an answer that may lack, by four clauses
pub by_four : {X : Type 0} (A B C D E : X → Type 0) → ((x : X) → A x → B x → C x → D x → E x) → (o : Option X) → IfSome o A → IfSome o B → IfSome o C
    → IfSome o D → IfSome o E
by_four A B C D E make None a b c d = tt
by_four A B C D E make (Some x) a b c d = make x a b c d
