use Rattle.std.proofs.Common.{sym, ◌∙◌, subst, refl, ◌+◌}
use Rattle.std.proofs.lemmas.Option.{slice_get_read}
use Rattle.fib_entries_rows.specs.inner.Building.{ArePicked}
use Rattle.fib_resolve.specs.Pairs.{pairs}
use Rattle.fib_entries_rows.proofs.Picking.{none_at_all, none_more, one_more}
use Rattle.fib_entries_rows.proofs.parts.held_of.Goals.{in-Some-place_of+in_ok-push, in_default-place_of}
use Rattle.fib_entries_rows.proofs.parts.held_of.Goals as goal

pub loop-rank-preserved : goal.loop-rank-preserved
loop-rank-preserved c = elim c.match-place_of.branch [
  | in-Some-place_of+in_ok-push w ↦ (let inside = w.in-Some-place_of.ensures.inside in
      subst (ArePicked c.args.prefix (pairs c.args.parts.meaning.now) c.args.parts.ids.now (c.loop-rank.rank + 1)) (sym (w.out-is ∙ w.in_ok-push.ensures.ok))
      (one_more c.args.prefix (pairs c.args.parts.meaning.now) c.args.parts.ids.now c.loop-rank.rank c.loop-rank.out c.source_at-source.result w.in-Some-place_of.place w.index-ids-place.result c.loop-rank.invariant c.source_at-source.ensures
      (sym w.in-Some-place_of.ensures.place) (slice_get_read c.args.parts.ids.now _ w.in-Some-place_of.place w.index-ids-place.result refl inside w.index-ids-place.is)))
  | in_default-place_of w ↦ subst (ArePicked c.args.prefix (pairs c.args.parts.meaning.now) c.args.parts.ids.now (c.loop-rank.rank + 1)) (sym w.out-is)
      (none_more c.args.prefix (pairs c.args.parts.meaning.now) c.args.parts.ids.now c.loop-rank.rank c.loop-rank.out c.source_at-source.result c.loop-rank.invariant c.source_at-source.ensures (sym w.in_default-place_of.ensures.place))
]

pub returns-in_default : goal.returns-in_default
returns-in_default c =
    subst (ArePicked c.args.prefix (pairs c.args.parts.meaning.now) c.args.parts.ids.now 7) (sym c.new-out.ensures)
    (none_at_all c.args.parts.meaning.now c.args.prefix c.args.parts.ids.now (sym c.number.ensures.value ∙ c.in_default.is))
