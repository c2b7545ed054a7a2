use Rattle.fib_resolve_changes.proofs.Targets.{edge_entry}
use Rattle.fib_resolve_changes.proofs.laws.edges_lead_to_entries.Goals as goal

pub returns : goal.returns
returns c = edge_entry
