use Rattle.store_sealing.proofs.Laid.{laid_records_stand, laid_bases_stand}
use Rattle.store_sealing.proofs.sealing.images.laid_commits_stand.Goals as goal

pub returns : goal.returns
returns c = record {
  records = laid_records_stand c.laid_records_make_next.ensures;
  bases = laid_bases_stand c.laid_bases_make_next.ensures;
}
