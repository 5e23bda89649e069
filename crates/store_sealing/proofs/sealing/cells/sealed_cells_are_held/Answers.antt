use Rattle.store_sealing.proofs.Rest.{Rest}
use Rattle.store_sealing.proofs.CellsSealed.{sealed_cells, sealed_images}
use Rattle.store_sealing.proofs.sealing.cells.sealed_cells_are_held.Goals as goal

pub returns : goal.returns
returns g c =
    let rest : Rest = record {
      over = c.found_files_are_over.ensures;
      own = c.opened_files_stand.ensures.slots;
      torn = c.opened_files_stand.ensures.roots;
      untouched = c.unopened_images.ensures.untouched;
      unopened = c.unopened_images.ensures.unopened;
      opening_records = c.opening_images.ensures.records;
      opening_roots = c.opening_images.ensures.roots;
      next = c.next_images.ensures;
      laid_records = c.laid_commits_stand.ensures.records;
      laid_bases = c.laid_commits_stand.ensures.bases;
      stood = c.images_have_stood.ensures.images;
    } in
    record { cells = sealed_cells rest g.D.Disk.moment c.sealed_stores_are_kept.ensures; images = sealed_images rest g.D.Disk.moment }
