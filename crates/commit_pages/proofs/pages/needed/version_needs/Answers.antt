use Rattle.std.proofs.Common.{◌+◌, refl}
use Rattle.commit_pages.proofs.Needs.{needs_are}
use Rattle.commit_pages.proofs.Results.{handed}
use Rattle.commit_pages.proofs.pages.needed.version_needs.Goals as goal

pub returns : goal.returns
returns c =
    let payloads = c.in_ok-payload_count.field-0 in
    let own = c.count_at.result in
    handed c.sum.result _ _ (needs_are c.args.written.now c.args.newest.now c.args.at.now payloads own (payloads + own) c.requires c.in_ok-payload_count.ensures c.count_at.ensures refl) c.sum.ensures
