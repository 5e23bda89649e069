-- What the tests of some bytes answer.
use Rattle.std.proofs.Common.{◌≡◌, ℕ, ◌-◌, ◌^◌, ◌<◌, ◌≤◌, Bool, false, nat_le, List, length, Some, Result, Ok, Err, sym, ◌∙◌, ap, arith}
use Rattle.std.specs.Prelude.{if◌then◌else◌, min}
use Rattle.std.proofs.lemmas.Bool.{le-leb}
use Rattle.std.proofs.lemmas.Bool.Decides.{nat_tests}
use Rattle.file_items.specs.Items.{wrong_at}
use Rattle.backup_format.specs.Backups.{backup}
use Rattle.backup_format.specs.Pieces.{PiecesArray, pieces_of}
use Rattle.backup_format.specs.PiecePlaces.{arrays_in}
use Rattle.backup_format.specs.Table.{backup_in}
use Rattle.backup_format.specs.declared.arrays.ArrayAt.{ArrayAt}
use Rattle.backup_meaning.proofs.Reading.{backups_are_read}
use Rattle.backup_restoring.specs.Laws.{BackupsAreRestored}
use Rattle.backup_restoring.specs.Restores.{restore_pages, free_pages, restored_if, restored_from, restored_by}
use Rattle.backup_restoring.specs.Inner.Steps.{IsDecoded, IsFitting, IsReadBackup, MayRestore}
use Rattle.backup_restoring.specs.declared.fault.RestoreFault.{RestoreFault}
use Rattle.backup_restoring.specs.declared.fault.RestoreFault.TheVariants as faults

fits_if : (needed free : ℕ) → needed ≤ free → restored_if needed free ≡ Ok tt
fits_if needed free fits = ap (λ (b : Bool). if b then Ok tt else Err (faults.Full (min needed (2 ^ 32 - 1)) free)) (le-leb needed free fits)

full_if : (needed free : ℕ) → free < needed → restored_if needed free ≡ Err (faults.Full (min needed (2 ^ 32 - 1)) free)
full_if needed free more =
    let not : nat_le needed free ≡ false = grind (arith, nat_tests) in
    ap (λ (b : Bool). if b then Ok tt else Err (faults.Full (min needed (2 ^ 32 - 1)) free)) not

by_fits : (pages : ℕ) (bytes : List ℕ) (all : List PiecesArray) → backup_in bytes ≡ Ok all → restore_pages all ≤ free_pages pages → restored_by pages bytes ≡ Ok tt
unfolding restored_by
by_fits pages bytes all read fits = ap (restored_from pages (length bytes)) read ∙ fits_if (restore_pages all) (free_pages pages) fits

by_full : (pages : ℕ) (bytes : List ℕ) (all : List PiecesArray) → backup_in bytes ≡ Ok all → free_pages pages < restore_pages all
    → restored_by pages bytes ≡ Err (faults.Full (min (restore_pages all) (2 ^ 32 - 1)) (free_pages pages))
unfolding restored_by
by_full pages bytes all read more = ap (restored_from pages (length bytes)) read ∙ full_if (restore_pages all) (free_pages pages) more

wrong_from : (pages size at : ℕ) (reading : Result (List PiecesArray) ℕ) → wrong_at size reading ≡ Some at → restored_from pages size reading ≡ Err (faults.NotBackup at)
wrong_from pages size at (Ok all) is = absurd cc
wrong_from pages size at (Err left) is = let e : size - left ≡ at = cc in ap (λ (n : ℕ). Err (faults.NotBackup n)) e

by_wrong : (pages at : ℕ) (bytes : List ℕ) → wrong_at (length bytes) (backup_in bytes) ≡ Some at → restored_by pages bytes ≡ Err (faults.NotBackup at)
unfolding restored_by
by_wrong pages at bytes is = wrong_from pages (length bytes) at (backup_in bytes) is

pub decoded_fault : (pages : ℕ) (bytes : List ℕ) (fault : RestoreFault) → IsDecoded bytes (Err fault) → IsReadBackup pages bytes (Err fault)
decoded_fault pages bytes faults.Source is = is
decoded_fault pages bytes faults.Disk is = is
decoded_fault pages bytes (faults.NotEmpty count) is = is
decoded_fault pages bytes (faults.NotBackup at) is = by_wrong pages at bytes is
decoded_fault pages bytes (faults.Full needed free) is = absurd is
decoded_fault pages bytes (faults.NotDatabase page) is = is
decoded_fault pages bytes faults.Memory is = tt

pub fitting_fault : (pages : ℕ) (bytes : List ℕ) (all : List PiecesArray) (fault : RestoreFault) → backup_in bytes ≡ Ok all → IsFitting pages (restore_pages all) (Err fault) → IsReadBackup pages bytes (Err fault)
fitting_fault pages bytes all faults.Source read is = is
fitting_fault pages bytes all faults.Disk read is = is
fitting_fault pages bytes all (faults.NotEmpty count) read is = is
fitting_fault pages bytes all (faults.NotBackup at) read is = absurd is
fitting_fault pages bytes all (faults.Full needed free) read is =
    by_full pages bytes all read is.0 ∙ ap (λ (n : ℕ). Err (faults.Full n (free_pages pages))) (sym is.1) ∙ ap (λ (n : ℕ). Err (faults.Full needed n)) (sym is.2)
fitting_fault pages bytes all (faults.NotDatabase page) read is = is
fitting_fault pages bytes all faults.Memory read is = tt

pub may_restore : (pages : ℕ) (bytes : List ℕ) (arrays : List ArrayAt) → IsDecoded bytes (Ok arrays) → IsFitting pages (restore_pages (arrays_in bytes arrays)) (Ok tt) → MayRestore pages bytes arrays
may_restore pages bytes arrays is fits = record { read = is.0; rules = is.1; fits = fits; by = by_fits pages bytes (arrays_in bytes arrays) is.0 fits }

pub backups_are_restored : BackupsAreRestored
backups_are_restored pages db database counted fits = by_fits pages (backup db) (pieces_of db) (backups_are_read db database counted) fits
