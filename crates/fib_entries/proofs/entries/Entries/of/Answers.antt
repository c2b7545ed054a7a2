use Rattle.std.proofs.Common.{◌≡◌, ℕ, List, [], map, refl, sym, ◌∙◌, subst, ◌↔◌}
use Rattle.std.specs.Prelude.{min, ◌^◌, ◌-◌, Contains}
use Rattle.fib_addr.specs.Prefixes.{Prefix}
use Rattle.fib_cover.specs.Covers.{IsAscending, ArePrefixes}
use Rattle.fib_resolve.specs.Pairs.{pairs, entries}
use Rattle.fib_resolve.specs.Sizes.{size}
use Rattle.fib_resolve.specs.Tables.{IsSound}
use Rattle.fib_resolve.specs.declared.pairs.Pair.{Pair}
use Rattle.fib_resolve.specs.declared.types.Tables.{Tables}
use Rattle.fib_entries_rows.specs.Rows.{Row}
use Rattle.fib_entries_rows.specs.Known.{PathKept, StandsFor, prefix_of}
use Rattle.fib_entries_rows.specs.inner.Building.{AreTaken, AreAnew}
use Rattle.fib_entries_rows.specs.inner.Used.{AreUsed}
use Rattle.fib_base_interned.specs.Interned.{AreInterned}
use Rattle.fib_entries_rows.proofs.Anew.{stands_anew, all_held, in_place}
use Rattle.fib_entries_rows.proofs.Named.{counted_rows}
use Rattle.fib_entries_rows.proofs.Placing.{same_order}
use Rattle.fib_follow_features.proofs.Noting.{noted_exact}
use Rattle.fib_entries.proofs.entries.Entries.of.Goals as goal

taken_of : (lists : List PathKept) (S : Tables) (xs : List Pair) (ids slice : List ℕ) → xs ≡ pairs S → slice ≡ ids → AreTaken lists xs ids → AreTaken lists (pairs S) slice
taken_of lists S xs ids slice x s h = subst (AreTaken lists (pairs S)) (sym s) (subst (λ q. AreTaken lists q ids) x h)

pub rows_anew-requires-clause-taken : goal.rows_anew-requires-clause-taken
rows_anew-requires-clause-taken c =
    taken_of c.take_all.new.lists c.in_ok-meaning.meaning c.pairs.result.now c.in_ok-ids.ids.items c.as_slice.result.now c.pairs.ensures c.as_slice.ensures.value c.in_ok-ids.ensures

all_in : (S : Tables) (order listed : List Prefix) → order ≡ listed → ((e : Prefix) → Contains listed e ↔ Contains (entries S) e) → (e : Prefix) → Contains order e ↔ Contains (entries S) e
all_in S order listed p all e = subst (λ q. Contains q e ↔ Contains (entries S) e) (sym p) (all e)

pub rows_anew-requires-clause-same : goal.rows_anew-requires-clause-same
rows_anew-requires-clause-same c = all_in c.in_ok-meaning.meaning c.as_slice-2.result.now c.in_ok-listed.listed.items c.as_slice-2.ensures.value c.in_ok-listed.ensures.all

all_stands : (lists : List PathKept) (S T : Tables) (rows : List Row) (order listed : List Prefix) (ids : List ℕ) (xs : List Pair) (objects : ℕ) → S ≡ T → AreAnew lists S order rows → order ≡ listed → IsAscending listed
    → ((e : Prefix) → Contains listed e ↔ Contains (entries S) e) → xs ≡ pairs S → AreTaken lists xs ids → objects ≡ min (size S) (2 ^ 32 - 1) → IsSound S → StandsFor (record { rows = rows; lists = lists; objects = objects }) T
all_stands lists S T rows order listed ids xs objects is h p ordered all x taken counted sound =
    subst (StandsFor (record { rows = rows; lists = lists; objects = objects })) is
    (stands_anew lists S order rows ids objects h (subst IsAscending (sym p) ordered) (all_in S order listed p all) (subst (λ q. AreTaken lists q ids) x taken) counted sound)

used_of : (lists : List PathKept) (S : Tables) (rows : List Row) (order listed set : List Prefix) (objects : ℕ) → AreAnew lists S order rows → order ≡ listed → IsAscending listed → IsAscending set
    → ((e : Prefix) → Contains listed e ↔ Contains (entries S) e) → ((e : Prefix) → Contains set e ↔ Contains (entries S) e)
    → StandsFor (record { rows = rows; lists = lists; objects = objects }) S → AreInterned lists → AreUsed rows lists set
used_of lists S rows order listed set objects h p ordered set_ordered all set_all stands apart =
    let same = in_place lists S order h.ranks [] rows h.made ∙ p in
    let asc = subst IsAscending (sym same) ordered in
    let held = all_held lists S order h.ranks _ rows h.made in
    record {
      held = held;
      used = counted_rows (record { rows = rows; lists = lists; objects = objects }) S stands held apart;
      ordered = asc;
      same = same_order set (map prefix_of rows) set_ordered asc (λ e. (
        λ c. subst (λ l. Contains l e) (sym same) ((all e).1 ((set_all e).0 c)),
        λ c. (set_all e).1 ((all e).0 (subst (λ l. Contains l e) same c)),
      ));
    }

anew_as : (lists : List PathKept) (S : Tables) (order : List Prefix) (rows made : List Row) → rows ≡ made → AreAnew lists S order made → AreAnew lists S order rows
anew_as lists S order rows made is h = subst (AreAnew lists S order) (sym is) h

pub size_of-requires-clause-prefixes : goal.size_of-requires-clause-prefixes
size_of-requires-clause-prefixes c = subst ArePrefixes (sym c.as_slice-3.ensures.value) c.in_ok-listed.ensures.prefixes

pub size_of-requires-clause-same : goal.size_of-requires-clause-same
size_of-requires-clause-same c = all_in c.in_ok-meaning.meaning c.as_slice-3.result.now c.in_ok-listed.listed.items c.as_slice-3.ensures.value c.in_ok-listed.ensures.all

pub of-requires-3 : goal.of-requires-3
of-requires-3 c =
    let S = c.in_ok-meaning.meaning in
    let lists = c.take_all.new.lists in
    let rows = c.in_ok-rows.rows in
    let anew = anew_as lists S c.as_slice-2.result.now rows c.in_ok-made.made.items c.in_ok-rows.ensures c.in_ok-made.ensures in
    all_held lists S c.as_slice-2.result.now anew.ranks _ rows anew.made

pub invariant_of-result : goal.invariant_of-result
invariant_of-result c =
    let S = c.in_ok-meaning.meaning in
    let lists = c.take_all.new.lists in
    let rows = c.in_ok-rows.rows in
    let anew = anew_as lists S c.as_slice-2.result.now rows c.in_ok-made.made.items c.in_ok-rows.ensures c.in_ok-made.ensures in
    record {
      used = used_of lists S rows c.as_slice-2.result.now c.in_ok-listed.listed.items c.into_entries-order.result c.in_ok-objects.objects anew c.as_slice-2.ensures.value
          c.in_ok-listed.ensures.ordered c.into_entries-order.ensures.ordered c.in_ok-listed.ensures.all c.into_entries-order.ensures.all
          (all_stands lists S S rows c.as_slice-2.result.now c.in_ok-listed.listed.items c.in_ok-ids.ids.items c.pairs.result.now c.in_ok-objects.objects refl anew c.as_slice-2.ensures.value
          c.in_ok-listed.ensures.ordered c.in_ok-listed.ensures.all c.pairs.ensures c.in_ok-ids.ensures c.in_ok-objects.ensures (subst IsSound (sym c.in_ok-meaning.ensures) c.requires))
          c.count-count.ensures.interned;
      noted = noted_exact lists c.into_entries-order.result rows c.in_ok-features.features c.in_ok-features.ensures;
    }

pub returns : goal.returns
returns c =
    let S = c.in_ok-meaning.meaning in
    let lists = c.take_all.new.lists in
    let rows = c.in_ok-rows.rows in
    all_stands lists S c.args.tables.now rows c.as_slice-2.result.now c.in_ok-listed.listed.items c.in_ok-ids.ids.items c.pairs.result.now c.in_ok-objects.objects c.in_ok-meaning.ensures
    (anew_as lists S c.as_slice-2.result.now rows c.in_ok-made.made.items c.in_ok-rows.ensures c.in_ok-made.ensures) c.as_slice-2.ensures.value
    c.in_ok-listed.ensures.ordered c.in_ok-listed.ensures.all c.pairs.ensures c.in_ok-ids.ensures c.in_ok-objects.ensures (subst IsSound (sym c.in_ok-meaning.ensures) c.requires)
