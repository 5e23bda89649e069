use Rattle.array_rows.proofs.RowLaws.{long_beside, rows_appended}
use Rattle.array_rows.proofs.columns.rows.Rows.append_columns.Goals as goal

pub invariant_of-self-2 : goal.invariant_of-self-2
invariant_of-self-2 c =
    long_beside c.self.inside.count c.more.inside.count c.self.inside.columns.items c.more.inside.columns.items c.append.new.self.items _ _ c.self.view_is c.more.view_is c.requires c.in_ok-append.ensures.items
    c.self.invariant c.more.invariant

pub returns-clause-ok : goal.returns-clause-ok
returns-clause-ok c =
    rows_appended c.self.inside.count c.more.inside.count c.self.inside.columns.items c.more.inside.columns.items c.append.new.self.items _ _ c.self.view_is c.more.view_is c.requires c.in_ok-append.ensures.items
