use Rattle.std.proofs.Common.{◌≡◌, ◌+◌, ◌∙◌, length, sym, subst, arith}
use Rattle.csv.specs.Records.{fields_of}
use Rattle.csv_scripts.specs.Conversion.{HasRecordValues, records_of}
use Rattle.csv_scripts.proofs.Conversions.{added}
use Rattle.csv_scripts.proofs.conversion.Progress.add.Goals as goal

pub returns : goal.returns
returns g c fields before s =
    let plan = c.args.plan.now in
    let Reads = HasRecordValues plan c.args.options.is_bare c.args.options.null.now c.args.places.now in
    let row = fields_of c.args.row.now in
    let room = c.make_room.new.self in
    let made = c.in_ok-make_room.ensures.converting c.args.options.is_bare c.args.options.null.now c.args.places.now fields before s in
    let loaded = c.in_ok-load.ensures (2 + length (records_of made.loads)) made.script made.rows made.is_loading in
    let same : c.as_slice.result.now ≡ c.values_of.new.values = c.as_slice.ensures ∙ c.in_ok-make_room.ensures.values in
    let read : Reads row c.as_slice.result.now = subst (Reads row) (sym same) (c.in_ok-values_of.ensures.said, c.in_ok-values_of.ensures.all) in
    let next : c.in-Some.number ≡ room.number + 1 = omega (arith, c.in-Some.ensures) in
    added plan Reads fields row c.as_slice.result.now room.number c.in-Some.number room.loader c.load.new.loader before (g.W.Write.contents c.make_room.new.out)
    (g.W.Write.contents c.load.new.out) loaded.0 made read next loaded.1 loaded.2
