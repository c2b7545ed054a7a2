use Rattle.std.proofs.Common.{arith, ◌≡◌, List, length, ◌-◌, ap, ◌∙◌, map}
use Rattle.fib_union.specs.inner.Fields.{plain}
use Rattle.fib_union.specs.declared.retired.RetiredEdge.{RetiredEdge}
use Rattle.fib_union.proofs.Leaving.{first_targets, first_count, first_left, turned, turned_plain}
use Rattle.fib_union.proofs.Chains.{linked_drop}
use Rattle.fib_union.proofs.union.drop_oldest.Goals as goal

pub give_up-requires-clause-targets : goal.give_up-requires-clause-targets
give_up-requires-clause-targets c = rw c.deref.ensures.value (first_targets c.args.gone c.args.retired.now.items (length c.args.ins.now) c.requires.targets)

pub returns-clause-retired : goal.returns-clause-retired
returns-clause-retired c =
    let stay : c.len.result - c.args.gone ≡ length c.args.retired.now.items - c.args.gone = (let e = c.rotate_left.ensures.len in let f = c.args.retired.now.ok.0 in let g = c.len.ensures in omega arith) in
    let cut = turned c.args.gone c.args.retired.now.items (c.len.result - c.args.gone) c.rotate_left.new.self.items c.truncate.new.self.items stay c.requires.gone c.rotate_left.ensures.items c.truncate.ensures.items in
    turned_plain c.args.gone c.args.retired.now.items c.truncate.new.self.items cut

pub returns-clause-linked : goal.returns-clause-linked
returns-clause-linked c =
    let stay : c.len.result - c.args.gone ≡ length c.args.retired.now.items - c.args.gone = (let e = c.rotate_left.ensures.len in let f = c.args.retired.now.ok.0 in let g = c.len.ensures in omega arith) in
    let cut = turned c.args.gone c.args.retired.now.items (c.len.result - c.args.gone) c.rotate_left.new.self.items c.truncate.new.self.items stay c.requires.gone c.rotate_left.ensures.items c.truncate.ensures.items in
    rw (cut, c.leave.ensures) (linked_drop (length c.args.newest.now) c.args.newest.now c.args.retired.now.items c.args.gone c.requires.linked)

pub returns-clause-ins : goal.returns-clause-ins
returns-clause-ins c = λ o. first_count c.args.gone c.args.retired.now.items o _ _ (rw (← c.deref.ensures.value) (c.give_up.ensures.ins o))

pub returns-clause-left : goal.returns-clause-left
returns-clause-left c = first_left c.args.gone c.args.retired.now.items _ _ (rw (← c.deref.ensures.value) c.give_up.ensures.left)
