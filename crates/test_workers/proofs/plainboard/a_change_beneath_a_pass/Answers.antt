use Rattle.std.proofs.Common.{arith, ap, sym, ◌∙◌, subst, ℕ, ◌<◌, None}
use Rattle.std.specs.Prelude.{slice_index, slice_index_or}
use Rattle.fib_core_lawful.specs.State.{left_of}
use Rattle.fib_core_board.specs.Boards.{Board}
use Rattle.fib_core_plainboard.specs.Passes.{FoundEdge, IsOnItsWay, loads_in, pass_of}
use Rattle.trial_filling.proofs.Changing as changing
use Rattle.test_workers.proofs.plainboard.a_change_beneath_a_pass.Goals as goal

pub begin-requires-clause-rests : goal.begin-requires-clause-rests
begin-requires-clause-rests g c = ap (λ (b : Board). pass_of b 0) c.begin_version.ensures ∙ ap (λ ps. slice_index_or ps 0 None) c.in_ok-board.ensures.passes

pub begin-requires-clause-left : goal.begin-requires-clause-left
begin-requires-clause-left g c =
    let none = ap (λ (b : Board). slice_index b.rests 0) c.begin_version.ensures ∙ ap (λ rs. slice_index rs 0) c.in_ok-board.ensures.rests in
    subst (λ (n : ℕ). 0 < left_of n) (sym none) (omega arith)

pub store-requires-clause-may : goal.store-requires-clause-may
store-requires-clause-may g c =
    let first = changing.begins_changing c.in_ok-board.board c.begin_version.new.self c.fresh-tables.result c.in_ok-board.ensures.ready c.fresh-tables.ensures.value c.begin_version.ensures in
    let begun = changing.still_changing c.begin_version.new.self c.begin.new.self first (ap (λ (b : Board). b.union) c.begin.ensures.pass) (ap (λ (b : Board). b.log) c.begin.ensures.pass) (ap (λ (b : Board). b.objects) c.begin.ensures.pass) in
    let hopped = changing.still_changing c.begin.new.self c.hop.new.self begun (ap (λ (b : Board). b.union) c.hop.ensures.pass) (ap (λ (b : Board). b.log) c.hop.ensures.pass) (ap (λ (b : Board). b.objects) c.hop.ensures.pass) in
    changing.may_number c.hop.new.self hopped

pub store-requires-2-clause-may : goal.store-requires-2-clause-may
store-requires-2-clause-may g c =
    let first = changing.begins_changing c.in_ok-board.board c.begin_version.new.self c.fresh-tables.result c.in_ok-board.ensures.ready c.fresh-tables.ensures.value c.begin_version.ensures in
    let begun = changing.still_changing c.begin_version.new.self c.begin.new.self first (ap (λ (b : Board). b.union) c.begin.ensures.pass) (ap (λ (b : Board). b.log) c.begin.ensures.pass) (ap (λ (b : Board). b.objects) c.begin.ensures.pass) in
    let hopped = changing.still_changing c.begin.new.self c.hop.new.self begun (ap (λ (b : Board). b.union) c.hop.ensures.pass) (ap (λ (b : Board). b.log) c.hop.ensures.pass) (ap (λ (b : Board). b.objects) c.hop.ensures.pass) in
    let with_number = changing.numbered c.hop.new.self c.store.new.self hopped c.store.ensures in
    let then = changing.still_numbered c.store.new.self c.hop-2.new.self with_number (ap (λ (b : Board). b.union) c.hop-2.ensures.pass) (ap (λ (b : Board). b.log) c.hop-2.ensures.pass) (ap (λ (b : Board). b.objects) c.hop-2.ensures.pass) in
    changing.may_clear c.hop-2.new.self then

pub hop-requires-3 : goal.hop-requires-3
hop-requires-3 g c =
    let on = changing.none_of c.hop-2.result (IsOnItsWay c.hop-2.new.self 0 × FoundEdge (loads_in (pass_of c.hop-2.new.self 0))) (sym c.is_some-2.ensures ∙ c.if-is_some-2.false) c.hop-2.ensures.on in
    let stored = subst (λ (b : Board). IsOnItsWay b 0) (sym c.store-2.ensures) on.0 in
    subst (λ (b : Board). IsOnItsWay b 0) (sym c.scan.ensures.board) stored

pub settle_version-requires : goal.settle_version-requires
settle_version-requires g c =
    let first = changing.begins_changing c.in_ok-board.board c.begin_version.new.self c.fresh-tables.result c.in_ok-board.ensures.ready c.fresh-tables.ensures.value c.begin_version.ensures in
    let begun = changing.still_changing c.begin_version.new.self c.begin.new.self first (ap (λ (b : Board). b.union) c.begin.ensures.pass) (ap (λ (b : Board). b.log) c.begin.ensures.pass) (ap (λ (b : Board). b.objects) c.begin.ensures.pass) in
    let hopped = changing.still_changing c.begin.new.self c.hop.new.self begun (ap (λ (b : Board). b.union) c.hop.ensures.pass) (ap (λ (b : Board). b.log) c.hop.ensures.pass) (ap (λ (b : Board). b.objects) c.hop.ensures.pass) in
    let with_number = changing.numbered c.hop.new.self c.store.new.self hopped c.store.ensures in
    let then = changing.still_numbered c.store.new.self c.hop-2.new.self with_number (ap (λ (b : Board). b.union) c.hop-2.ensures.pass) (ap (λ (b : Board). b.log) c.hop-2.ensures.pass) (ap (λ (b : Board). b.objects) c.hop-2.ensures.pass) in
    let cleared = changing.cleared c.hop-2.new.self then c.store-2.new.self c.store-2.ensures in
    let looked = changing.still_changing c.store-2.new.self c.scan.new.self cleared (ap (λ (b : Board). b.union) c.scan.ensures.board ∙ changing.looked_same c.store-2.new.self.union 0 c.scan.result cleared.quiet) (ap (λ (b : Board). b.log) c.scan.ensures.board) (ap (λ (b : Board). b.objects) c.scan.ensures.board) in
    let last = changing.still_changing c.scan.new.self c.hop-3.new.self looked (ap (λ (b : Board). b.union) c.hop-3.ensures.pass) (ap (λ (b : Board). b.log) c.hop-3.ensures.pass) (ap (λ (b : Board). b.objects) c.hop-3.ensures.pass) in
    let ended = changing.still_changing c.hop-3.new.self c.end-record.new.self last (ap (λ (b : Board). b.union) c.end-record.ensures.pass) (ap (λ (b : Board). b.log) c.end-record.ensures.pass) (ap (λ (b : Board). b.objects) c.end-record.ensures.pass) in
    changing.changing_settles c.end-record.new.self ended
