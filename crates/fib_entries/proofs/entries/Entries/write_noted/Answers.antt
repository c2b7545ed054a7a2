use Rattle.std.proofs.Common.{List, map, sym, subst}
use Rattle.fib_addr.specs.Prefixes.{Prefix}
use Rattle.fib_entries_rows.specs.Known.{Known, prefix_of}
use Rattle.fib_follow_plan.specs.Noted.{AreTold}
use Rattle.fib_follow_plan.proofs.Keeping.{written_noted}
use Rattle.fib_entries.proofs.Carrying.{kept_of}
use Rattle.fib_entries.proofs.entries.Entries.write_noted.Goals as goal

pub invariant_of-self : goal.invariant_of-self
invariant_of-self c = record {
  used = c.self.invariant.used;
  noted = c.note_all.ensures.stays c.self.inside.lists c.self.inside.order c.self.inside.rows c.self.invariant.noted;
}

pub invariant_of-self-in_err-write : goal.invariant_of-self-in_err-write
invariant_of-self-in_err-write c =
    kept_of c.self.inside.rows c.write.new.rows c.self.inside.lists c.write.new.lists c.self.inside.order c.write.new.order c.note_all.new.features
    c.in_err-write.ensures.rows c.in_err-write.ensures.lists c.in_err-write.ensures.order
    (record {
      used = c.self.invariant.used;
      noted = c.note_all.ensures.stays c.self.inside.lists c.self.inside.order c.self.inside.rows c.self.invariant.noted;
    })

pub invariant_of-self-2 : goal.invariant_of-self-2
invariant_of-self-2 c =
    let rows = c.self.inside.rows in
    let lists = c.self.inside.lists in
    let order = c.self.inside.order in
    let plan = c.args.plan in
    let list = c.args.renoted.now in
    let told = subst (λ (o : List Prefix). AreTold rows lists o plan list) (sym c.self.invariant.used.same)
    (subst (λ (v : Known). AreTold v.rows v.lists (map prefix_of v.rows) plan list) (sym c.self.view_is) c.requires.noted) in
    let written = c.in_ok-write.ensures.ok in
    let noted = c.note_all.ensures.stays lists order rows c.self.invariant.noted in
    record {
      used = written.used;
      noted = c.forget_all.ensures.stays c.write.new.lists c.write.new.order c.write.new.rows
          (told.full c.write.new.rows c.write.new.lists c.write.new.order written)
          (written_noted rows c.write.new.rows lists c.write.new.lists order c.write.new.order plan list c.note_all.new.features noted
          c.in_ok-note_all.ensures.noted told written);
    }
