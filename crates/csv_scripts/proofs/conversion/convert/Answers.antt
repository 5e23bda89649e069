use Rattle.std.proofs.Common.{◌∙◌, inr, option_map, if◌then◌else◌, List, [], ◌∷◌, refl, sym, ap, subst, arith}
use Rattle.csv.specs.Reading.{Reached, strip_bom}
use Rattle.csv.specs.Records.{fields_of}
use Rattle.cell_values.specs.declared.schema.Attribute.{Attribute}
use Rattle.csv_scripts.specs.Conversion.{AreColumns, HasRecordValues, scripts_of}
use Rattle.csv_scripts.specs.Inner.Converting.{HasRead}
use Rattle.csv_scripts.specs.Scripts.{create_bytes}
use Rattle.csv_scripts.proofs.Conversions.{appends_more, begun}
use Rattle.csv_scripts.proofs.conversion.convert.Goals as goal

pub returns-in-Ok : goal.returns-in-Ok
unfolding Reached
returns-in-Ok g c text e =
    let rem = g.R.Read.remaining in
    let plan = c.args.plan.now in
    let options = c.args.options in
    let places = c.in_ok-places.places in
    let reader = c.from_reader-reader.result in
    let fr = c.from_reader-reader.ensures in
    let h = c.has_headers.ensures in
    let names = fields_of c.next_record.new.row in
    let start : HasRead rem reader (strip_bom text) [] = (
      inr (inr (rw h at fr.has_headers, fr.headers)),
      rw h at fr.trim ∙ c.new.ensures.trim,
      rw h at fr.config ∙ c.new.ensures.config,
      strip_bom text,
      fr.source ∙ ap (option_map strip_bom) e,
      (sym fr.state, refl),
    ) in
    let head : HasRead rem c.next_record.new.reader (strip_bom text) (names ∷ []) = c.in_ok-next_record.ensures.more (strip_bom text) [] start c.if-not-branch.false in
    let created = g.W.Write.contents c.create_array.new.out in
    let progress = c.in_ok-progress.progress in
    let begins = begun plan (HasRecordValues plan options.is_bare options.null.now places) progress.number progress.loader created c.in_ok-progress.ensures.next
    (c.in_ok-progress.ensures.loader plan) in
    let done = c.in-Ok.ensures (strip_bom text) names created head begins in
    let loaded = done.2 in
    record {
      names = names;
      fields = done.0;
      places = places;
      loads = loaded.loads;
      are_records = done.1;
      are_columns = subst (λ (cs : List Attribute). AreColumns names cs places) c.as_slice.ensures c.in_ok-places.ensures;
      are_read = loaded.are_read;
      are_loads = loaded.are_loads;
      written = appends_more (g.W.Write.contents c.args.out.now) created (g.W.Write.contents c.convert_records.new.out)
          (if options.creates then create_bytes plan.name plan.schema else []) (scripts_of loaded.loads) c.in_ok-create_array.ensures loaded.written;
      counted = omega (arith, loaded.counted);
    }
