use Rattle.std.proofs.Common.{Some, sym, ◌∙◌, ap, subst, is_some}
use Rattle.fib_follow_features.specs.Holders.{holders, members_of}
use Rattle.fib_follow_features.specs.inner.Puts.{TakesOut}
use Rattle.fib_follow_features.proofs.Holding.{takes_from, takes_none, Updated}
use Rattle.fib_follow_features.proofs.Same.{lookup_is, updated_is}
use Rattle.fib_follow_features.proofs.features.Features.strike.Goals.{in-Some, in-None}
use Rattle.fib_follow_features.proofs.features.Features.strike.Goals as goal

pub returns-clause-out : goal.returns-clause-out
returns-clause-out c =
    let old = c.self.inside.sets.entries in
    let f = c.args.feature in
    elim c.match-get_mut.branch [
      | in-Some w ↦ (
          let new = (c.get_mut.follows.lender w.remove.new.self).entries in
          let set = Some w.remove.new.self in
          let known = ap is_some (sym w.in-Some.ensures.value) in
          subst (λ z. TakesOut c.args.self.now z.sets.entries f c.args.e) (sym w.self-inside-is)
          (takes_from c.args.self.now new f set
          (subst (λ l. Updated l new f set) c.self.view_is (updated_is old new f set ((c.get_mut.follows.holds w.remove.new.self).3 known).0))
          w.in-Some.set.now
          (ap (λ l. holders l f) (sym c.self.view_is) ∙ ap members_of (sym (w.in-Some.ensures.value ∙ lookup_is f old))) c.args.e
          w.remove.ensures.members)
          )
      | in-None w ↦ (
          let same = ap (λ m. m.entries) c.get_mut.follows.holds-at-none ∙ c.self.view_is in
          subst (λ z. TakesOut c.args.self.now z.sets.entries f c.args.e) (sym w.self-inside-is)
          (subst (λ l. TakesOut c.args.self.now l f c.args.e) (sym same)
          (takes_none c.args.self.now f c.args.e
          (ap (λ l. holders l f) (sym c.self.view_is) ∙ ap members_of (sym (w.in-None.ensures.value ∙ lookup_is f old)))))
          )
    ]
