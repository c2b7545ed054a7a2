use Rattle.std.proofs.Common.{Some, sym, ◌∙◌, ap}
use Rattle.fib_follow_write.proofs.Listing.{taken_back, taken_found, taken_last}
use Rattle.fib_follow_write.proofs.lists.ListedStepPathLists.take_back.Goals as goal

pub take_back-requires-clause-last : goal.take_back-requires-clause-last
take_back-requires-clause-last c = taken_last c.args.self.now c.requires.0 c.args.state.now c.requires.1 c.in-Some.id
    (c.in-Some.ensures.found ∙ ap Some c.as_slice.ensures)

pub returns-in-Some : goal.returns-in-Some
returns-in-Some c = λ before h. taken_back c.args.self.now before c.args.state.now h c.take_back.new.self c.in-Some.id
    (c.in-Some.ensures.found ∙ ap Some c.as_slice.ensures) c.take_back.ensures.back

pub returns-in-None : goal.returns-in-None
returns-in-None c = λ before h. absurd
    (taken_found c.args.self.now before c.args.state.now h (λ k d is. c.in-None.ensures.absent k d (is ∙ sym c.as_slice.ensures)))
