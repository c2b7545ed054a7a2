use Rattle.std.proofs.Common.{Some, ap, subst, ◌∙◌, ◌≡◌, Option}
use Rattle.std.specs.Prelude.{is_some, option_map}
use Rattle.fib_pool.specs.declared.object.AdjacencyRecord.{AdjacencyRecord}
use Rattle.fib_plane.specs.Views.{record_in}
use Rattle.fib_plane.proofs.Views.Seeing.{record_down}
use Rattle.trial_plain.proofs.records.kept_at.Goals as goal

one_content : (a b : AdjacencyRecord) (o : Option AdjacencyRecord) → o ≡ Some a → o ≡ Some b → a ≡ b
one_content a b o p q = cc

pub record-requires : goal.record-requires
record-requires c =
    ap is_some (record_down c.args.plane.now.plane.records c.tells.ensures.told.interned c.requires.0 c.args.object c.requires.1).1

pub returns : goal.returns
returns c =
    let rows = c.args.plane.now.plane.records in
    let kept = record_down rows c.tells.ensures.told.interned c.requires.0 c.args.object c.requires.1 in
    let same = one_content c.requires.0 c.record.result _ (ap (option_map (λ k. k.content)) kept.1 ∙ ap Some kept.2) c.record.ensures in
    subst (λ (r : AdjacencyRecord). record_in rows r ≡ Some c.args.object) same c.requires.1
