use Rattle.shape_exec.proofs.BuildLaws.{moved_made}
use Rattle.shape_exec.proofs.coord_maps.ByCoordsCellMap.rows_from.Goals as goal

pub returns : goal.returns
returns g c =
    let by = c.args.self.now.by.now in
    moved_made (g.M.CoordMap.domain by) (g.M.CoordMap.range by) (g.M.CoordMap.forth by) (g.M.CoordMap.back by) c.args.area.now c.args.rows c.in_ok-made.made c.in_order.result c.requires.sound.3 c.in_ok-made.ensures c.requires.inside c.in_order.ensures
