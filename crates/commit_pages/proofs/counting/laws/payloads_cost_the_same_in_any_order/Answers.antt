use Rattle.commit_pages.proofs.Orders.{stored_pages, written_pages}
use Rattle.commit_pages.proofs.counting.laws.payloads_cost_the_same_in_any_order.Goals as goal

pub returns : goal.returns
returns c = record { stored = stored_pages; written = written_pages }
