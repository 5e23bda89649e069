use Rattle.commit_pages.proofs.Catalogs.{catalogs_of_databases, record_pages_are_told, catalogue_pages_are_told}
use Rattle.commit_pages.proofs.counting.laws.costs_follow_the_catalogue.Goals as goal

pub returns : goal.returns
returns c = record { next = catalogs_of_databases; records = record_pages_are_told; catalogs = catalogue_pages_are_told }
