use Rattle.std.proofs.Common.{List, sym, subst}
use Rattle.fib_follow_looked.specs.Looks.{AreAnswered, IsBefore}
use Rattle.fib_follow_looked.specs.declared.ask.Ask.{Ask}
use Rattle.fib_addr.specs.Prefixes.{Prefix}
use Rattle.fib_entries.proofs.steps.look_around.Goals as goal

pub returns-clause-around : goal.returns-clause-around
returns-clause-around c = λ S h.
    let k = c.args.course.now in
    let T = k.after.now.tables in
    let list = k.changes.now in
    let b : IsBefore k.before list S T = record { stands = h.stands; differ = h.differ; near = c.in_ok-see_neighbors.ensures } in
    let named = c.in_ok-named.ensures S b in
    let shorts = c.in_ok-shorts.ensures list S b named in
    let asks = c.in_ok-asks.ensures S T h.stands shorts in
    let hosts = c.in_ok-hosts.ensures k.before S h.stands c.requires.noted in
    record {
      shorts = shorts;
      hops = c.in_ok-hops.ensures k.before list S b c.requires.noted named;
      all = c.in_ok-prefixes.ensures.all list S c.in_ok-asks.asks.items b named shorts asks
          (subst (λ (l : List Prefix). AreAnswered S c.in_ok-asks.asks.items l) (sym c.as_slice-2.ensures.value)
          (subst (λ (a : List Ask). AreAnswered S a c.in_ok-hosts.hosts.items) c.as_slice.ensures.value hosts));
    }
