use Rattle.commit_pages.proofs.CountingLengths.{directories_are_alike, catalogs_read_no_page, records_read_no_page, changes_keep_alike}
use Rattle.commit_pages.proofs.counting.laws.lengths_hang_on_no_page.Goals as goal

pub returns : goal.returns
returns c = record { directories = directories_are_alike; catalogs = catalogs_read_no_page; records = records_read_no_page; changes = changes_keep_alike }
