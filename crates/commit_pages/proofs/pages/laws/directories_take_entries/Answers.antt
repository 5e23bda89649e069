use Rattle.commit_pages.proofs.Directories.{stores_list_theirs, inserts_replace}
use Rattle.commit_pages.proofs.pages.laws.directories_take_entries.Goals as goal

pub returns : goal.returns
returns c = record { stores = stores_list_theirs; inserts = inserts_replace }
