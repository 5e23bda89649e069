use Rattle.std.proofs.Common.{ℕ, [], ◌∷◌, ◌++◌, subst}
use Rattle.std.proofs.lemmas.Result.{IfOk-weaker}
use Rattle.csv.specs.Records.{fields_of}
use Rattle.csv_scripts.specs.Conversion.{HasRecordValues}
use Rattle.csv_scripts.specs.Inner.Converting.{IsLoaded}
use Rattle.csv_scripts.proofs.conversion.convert_records.Goals as goal

pub returns-then-not-branch : goal.returns-then-not-branch
returns-then-not-branch g c text names before h s =
    let plan = c.args.plan.now in
    let options = c.args.options in
    let places = c.args.places.now in
    let after = g.W.Write.contents c.end_load.new.out in
    let inv = c.loop.invariant text names before h s in
    let all = c.in_ok-next_record.ensures.end text (names ∷ inv.0) inv.1 c.if-not-branch.true in
    let loaded = c.in_ok-end_load.ensures.loaded options.is_bare options.null.now places inv.0 before inv.2 in
    IfOk-weaker c.count_below.result _ _
    (λ count e. (inv.0, all, subst (λ (n : ℕ). IsLoaded plan (HasRecordValues plan options.is_bare options.null.now places) inv.0 n before after) e loaded))
    c.count_below.ensures

pub loop-preserved : goal.loop-preserved
loop-preserved g c text names before h s =
    let inv = c.loop.invariant text names before h s in
    let row = fields_of c.next_record.new.row in
    let read = c.in_ok-next_record.ensures.more text (names ∷ inv.0) inv.1 c.if-not-branch.false in
    (inv.0 ++ row ∷ [], read, c.in_ok-add.ensures inv.0 before inv.2)
