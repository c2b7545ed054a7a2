use Rattle.std.proofs.Common.{◌≡◌, ◌++◌, ◌∙◌, [], ap, subst}
use Rattle.std.proofs.lemmas.List.{append-nil}
use Rattle.fib_outside.specs.Outside.{Appends}
use Rattle.fib_worker_crew.specs.Packets.{span}
use Rattle.fib_worker_crew.specs.Results.{results_of}
use Rattle.fib_rounds.specs.Packets.{packets_text}
use Rattle.fib_rounds.proofs.Writing.{on_err, stopped}
use Rattle.fib_rounds.proofs.put.write_frame.Goals as goal

-- the tap failed after all lines were written
pub returns-in_err-take_all-clause-err : goal.returns-in_err-take_all-clause-err
returns-in_err-take_all-clause-err g c =
    let T = c.args.page.now.tables.now in
    let n = c.args.frame.from in
    let ps = span c.args.page.now.packets.now.packets n c.args.frame.to in
    let lines = packets_text T n ps (results_of c.args.results.now.list) in
    let text : c.deref.result.now ≡ lines =
    c.deref.ensures.value ∙ (c.in_ok-put_span.ensures ∙ (ap (λ t. t ++ packets_text T n ps (results_of c.list.result.now)) c.clear.ensures.items ∙ ap (λ rs. packets_text T n ps (results_of rs)) c.list.ensures)) in
    on_err c.from_residual-in_err-take_all.result (stopped _ _ lines [] lines (subst (Appends _ _) text c.in_ok-put_all.ensures.ok) (append-nil lines))
