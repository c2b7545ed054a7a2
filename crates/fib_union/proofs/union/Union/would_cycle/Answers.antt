use Rattle.std.proofs.Common.{inl, inr, sym}
use Rattle.fib_reach.proofs.Walking.{closes_iff, leads_iff}
use Rattle.fib_union.specs.Unions.{Edge}
use Rattle.fib_union.proofs.union.Union.would_cycle.Goals as goal

pub returns-clause-cycle : goal.returns-clause-cycle
returns-clause-cycle c = λ calm.
    let E = Edge c.args.self.now.union in
    let closes = closes_iff E c.args.from c.args.to calm in
    let leads = leads_iff E c.args.to c.args.from in (
      λ t. closes.1 (elim (leads.0 (c.leads.ensures.leads.0 t)) [ inl e ↦ inl (sym e) | inr r ↦ inr r ]),
      λ h. c.leads.ensures.leads.1 (leads.1 (elim (closes.0 h) [ inl e ↦ inl (sym e) | inr r ↦ inr r ])),
    )
