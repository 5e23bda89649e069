use Rattle.prepared_commits.proofs.CostLaws.{needs_are_costs}
use Rattle.prepared_commits.proofs.costs.commits_need_what_they_cost.Goals as goal

pub returns : goal.returns
returns g c = λ s k change changed db x asked began.
    needs_are_costs g.D.Disk.moment s k x
    (record {
      last = c.newest_are_last.ensures;
      over = c.found_files_are_over.ensures;
      records = c.commits_take_what_they_cost.ensures.records;
      bases = c.commits_take_what_they_cost.ensures.bases;
    })
    (g.met.D.Disk.as_read s.disk) change changed db asked began
