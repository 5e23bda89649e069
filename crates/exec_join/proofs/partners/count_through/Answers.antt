use Rattle.std.proofs.Common.{rules}
use Rattle.std.proofs.lemmas.List.Sorted.{IsPartitionPoint-from_clause}
use Rattle.std.specs.Ordering.{is_le}
use Rattle.exec_join.specs.Inner.Partners.{against}
use Rattle.exec_join.proofs.PartnerLaws.{falls_through}
use Rattle.exec_join.proofs.partners.count_through.Goals as goal

pub returns-clause-point : goal.returns-clause-point
returns-clause-point c =
    IsPartitionPoint-from_clause (λ p. is_le (against c.args.key.now.items p)) _ _ c.partition_point.ensures.partitioned (falls_through c.args.key.now.items c.args.partners.now c.requires) (λ a r q k. search rules)
