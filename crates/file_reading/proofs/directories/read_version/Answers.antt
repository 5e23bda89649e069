use Rattle.std.proofs.Common.{◌≡◌, [], None, Err, true, false, sym, ◌∙◌, ap}
use Rattle.page_chain.proofs.RunLemmas.{ok_no_fault, reads_none, wrong_no_fault}
use Rattle.page_chain.specs.Pages.{page_size, first_past}
use Rattle.file_meaning.proofs.Parts.{claimed_there}
use Rattle.file_reading.specs.Inner.Rows.{entries_of, rules_of}
use Rattle.file_reading.proofs.BesideLaws.{version_beside}
use Rattle.file_reading.proofs.RowLaws.{Asked, claims_of, paid_of, unread, unpaid, whole}
use Rattle.file_reading.proofs.directories.read_version.Goals as goal

pub returns-in-Err-clause-exact : goal.returns-in-Err-clause-exact
returns-in-Err-clause-exact g c = λ seen seen_is before has.
    let base = c.args.base.now in
    let at = c.args.at.now in
    let a : Asked = record { file = seen; rules = rules_of base; dims = c.args.schema.now.dimensions; seen = entries_of [] c.args.before.now; taken = before; at = at } in
    let own = claims_of seen before at.pages c.as_slice.result.now base.first c.claim.result true c.claim.new.set c.as_slice.ensures c.if-not-claim.false (c.claim.ensures seen before base.first has) in
    let there : first_past page_size seen at.pages ≡ None = claimed_there seen base.first at.pages before own.0 own.1 in
    unread a own.0 c.in-Err.cause c.claim.new.set own.1 (c.in-Err.ensures.exact seen seen_is there)

pub returns-then-claim_payloads-clause-exact : goal.returns-then-claim_payloads-clause-exact
returns-then-claim_payloads-clause-exact g c = λ seen seen_is before has.
    let base = c.args.base.now in
    let at = c.args.at.now in
    let a : Asked = record { file = seen; rules = rules_of base; dims = c.args.schema.now.dimensions; seen = entries_of [] c.args.before.now; taken = before; at = at } in
    let own = claims_of seen before at.pages c.as_slice.result.now base.first c.claim.result true c.claim.new.set c.as_slice.ensures c.if-not-claim.false (c.claim.ensures seen before base.first has) in
    let there : first_past page_size seen at.pages ≡ None = claimed_there seen base.first at.pages before own.0 own.1 in
    let all = paid_of a own.0 c.in-Ok.directory c.as_slice-in-Ok.result.now c.claim_payloads.result true c.claim_payloads.new.taken c.as_slice-in-Ok.ensures c.if-claim_payloads.true (c.claim_payloads.ensures seen own.0 _ own.2) in
    (all.0, whole a own.0 all.0 c.in-Ok.directory own.1 (c.in-Ok.ensures.exact seen seen_is there) all.1, all.2)

pub returns-else-claim_payloads-clause-exact : goal.returns-else-claim_payloads-clause-exact
returns-else-claim_payloads-clause-exact g c = λ seen seen_is before has.
    let base = c.args.base.now in
    let at = c.args.at.now in
    let a : Asked = record { file = seen; rules = rules_of base; dims = c.args.schema.now.dimensions; seen = entries_of [] c.args.before.now; taken = before; at = at } in
    let own = claims_of seen before at.pages c.as_slice.result.now base.first c.claim.result true c.claim.new.set c.as_slice.ensures c.if-not-claim.false (c.claim.ensures seen before base.first has) in
    let there : first_past page_size seen at.pages ≡ None = claimed_there seen base.first at.pages before own.0 own.1 in
    let wrong = paid_of a own.0 c.in-Ok.directory c.as_slice-in-Ok.result.now c.claim_payloads.result false c.claim_payloads.new.taken c.as_slice-in-Ok.ensures c.if-claim_payloads.false (c.claim_payloads.ensures seen own.0 _ own.2) in
    unpaid a own.0 c.in-Ok.directory own.1 (c.in-Ok.ensures.exact seen seen_is there) wrong ∙ ap Err (sym c.first_page.ensures)

pub returns-then-claim_payloads-clause-beside : goal.returns-then-claim_payloads-clause-beside
returns-then-claim_payloads-clause-beside g c = λ tells others has seen.
    let base = c.args.base.now in
    let at = c.args.at.now in
    let a : Asked = record { file = tells; rules = rules_of base; dims = c.args.schema.now.dimensions; seen = entries_of [] c.args.before.now; taken = has.0; at = at } in
    let own = claims_of tells has.0 at.pages c.as_slice.result.now base.first c.claim.result true c.claim.new.set c.as_slice.ensures c.if-not-claim.false (c.claim.ensures tells has.0 base.first has.1) in
    let all = paid_of a own.0 c.in-Ok.directory c.as_slice-in-Ok.result.now c.claim_payloads.result true c.claim_payloads.new.taken c.as_slice-in-Ok.ensures c.if-claim_payloads.true (c.claim_payloads.ensures tells own.0 _ own.2) in
    version_beside a others own.0 all.0 c.in-Ok.directory c.claim_payloads.new.taken has.2 own.1 seen all.1 all.2

pub returns-then-not-claim-clause-reads : goal.returns-then-not-claim-clause-reads
returns-then-not-claim-clause-reads g c = reads_none (g.D.Disk.moment c.args.file.now.disk).state _ _ (g.met.D.Disk.only_now c.args.file.now.disk)

pub returns-else-claim_payloads-clause-fault : goal.returns-else-claim_payloads-clause-fault
returns-else-claim_payloads-clause-fault g c = wrong_no_fault c.first_page.result

pub returns-then-claim_payloads-clause-fault : goal.returns-then-claim_payloads-clause-fault
returns-then-claim_payloads-clause-fault g c = ok_no_fault c.in-Ok.directory _
