use Rattle.std.proofs.Common.{ℕ, List, slice_index_or, Ok, Err, subst}
use Rattle.page_chain.specs.declared.slots.layout.logs.RecordAt.{RecordAt}
use Rattle.file_meaning.specs.Opening.{logged_in}
use Rattle.file_reading.specs.Inner.Log.{Applies, behind_log, record_step}
use Rattle.file_reading.proofs.LogLaws.{goes_by, stops_by}
use Rattle.file_reading.proofs.Steps.{at_some}
use Rattle.file_reading.proofs.log.read_logged.Goals as goal

pub returns-in-Ok-keep_pages-clause-exact : goal.returns-in-Ok-keep_pages-clause-exact
returns-in-Ok-keep_pages-clause-exact g c = λ seen seen_is d later.
    let slots = c.args.file.now.slots in
    let log = slots.current.root.log in
    let before = c.args.catalog.now in
    let now = c.read_record.new.catalog in
    let pages = c.in-Ok.pages in
    let at = slice_index_or slots.records c.args.number d in
    let applies : Applies (Ok pages) now (record_step seen log c.as_slice.result.now before at) =
    at_some (λ (s : List ℕ). (d : RecordAt) → Applies (Ok pages) now (record_step s log c.as_slice.result.now before (slice_index_or slots.records c.args.number d)))
    (g.D.Disk.moment c.args.file.now.disk).state.seen seen c.in-Ok.ensures.exact seen_is d in
    let step : Applies (Ok pages) now (record_step seen log c.args.taken.now before at) =
    subst (λ (ts : List ℕ). Applies (Ok pages) now (record_step seen log ts before at)) c.as_slice.ensures applies in
    goes_by seen log c.args.taken.now c.keep_pages.new.taken before now c.args.logged.now c.keep_pages.new.logged pages at later step c.in-Ok-keep_pages.ensures.taken c.in-Ok-keep_pages.ensures.logged

pub returns-in-Err-clause-exact : goal.returns-in-Err-clause-exact
returns-in-Err-clause-exact g c = λ seen seen_is d later.
    let slots = c.args.file.now.slots in
    let log = slots.current.root.log in
    let before = c.args.catalog.now in
    let now = c.read_record.new.catalog in
    let at = slice_index_or slots.records c.args.number d in
    let applies : Applies (Err c.in-Err.cause) now (record_step seen log c.as_slice.result.now before at) =
    at_some (λ (s : List ℕ). (d : RecordAt) → Applies (Err c.in-Err.cause) now (record_step s log c.as_slice.result.now before (slice_index_or slots.records c.args.number d)))
    (g.D.Disk.moment c.args.file.now.disk).state.seen seen c.in-Err.ensures.exact seen_is d in
    let step : Applies (Err c.in-Err.cause) now (record_step seen log c.args.taken.now before at) =
    subst (λ (ts : List ℕ). Applies (Err c.in-Err.cause) now (record_step seen log ts before at)) c.as_slice.ensures applies in
    stops_by c.in-Err.cause seen log c.args.taken.now before now c.args.logged.now at later (behind_log c.args.logged.now (logged_in seen log c.args.taken.now now later)) step
