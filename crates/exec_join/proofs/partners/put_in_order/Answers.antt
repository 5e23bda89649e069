use Rattle.std.proofs.Common.{rules}
use Rattle.std.proofs.lemmas.Fn.{always_returns_same}
use Rattle.std.proofs.lemmas.List.Sorted.{ranks_by}
use Rattle.std.specs.Ordering.{is_lt}
use Rattle.array_rows.specs.Rows.{row_major}
use Rattle.array_rows.proofs.RowsLemmas.{row_major_total}
use Rattle.exec_join.specs.Inner.Partners.{paired_of}
use Rattle.exec_join.proofs.partners.put_in_order.Goals as goal

pub returns-clause-sorted : goal.returns-clause-sorted
returns-clause-sorted c =
    c.in_ok-sort_by.ensures.sorted (λ a b. is_lt (row_major (paired_of a) (paired_of b))) (ranks_by row_major_total paired_of) (always_returns_same _ _ _ (λ a r f k. search rules))

pub returns-clause-stable : goal.returns-clause-stable
returns-clause-stable c =
    c.sort_by.ensures.stable (λ a b. is_lt (row_major (paired_of a) (paired_of b))) (ranks_by row_major_total paired_of) (always_returns_same _ _ _ (λ a r f k. search rules))
