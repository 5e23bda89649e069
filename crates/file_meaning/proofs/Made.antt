-- The file of no arrays.
use Rattle.std.proofs.Common.{◌≡◌, ℕ, List, [], ◌∷◌, refl, sym, ◌∙◌, ap, subst, arith}
use Rattle.std.specs.Prelude.{Ok}
use Rattle.file_items.specs.Items.{repeat}
use Rattle.page_file.specs.Pages.{page_size}
use Rattle.page_file.specs.Chains.{chain, chain_bytes}
use Rattle.page_file.specs.Start.{IsEmptyDatabase, first_root}
use Rattle.version_catalog.specs.declared.rules.catalog.Catalog.{Catalog}
use Rattle.version_catalog.specs.Table.{catalog_in, arrays_at}
use Rattle.version_catalog.specs.Stored.{IsDatabase}
use Rattle.file_meaning.specs.Slots.{Slots, slots_in}
use Rattle.file_meaning.specs.Opening.{blamed, found_in, opened}
use Rattle.file_meaning.specs.Standing.{Stands, HoldsFound}
use Rattle.file_meaning.specs.declared.meaning.found.Found.{Found}
use Rattle.file_meaning.proofs.Steps.{then_is}
use Rattle.file_meaning.proofs.SlotLaws.{slots_are}

abbrev none : Catalog
none = record { arrays = [] }

abbrev empty : Found
empty = record { chain = 1 ∷ []; logged = []; catalog = none; directories = [] }

abbrev slots : Slots
slots = record { current = first_root; records = [] }

-- four bytes of zeros are the catalogue of no arrays
catalog_is : catalog_in (0 ∷ 0 ∷ 0 ∷ 0 ∷ []) ≡ Ok none
unfolding arrays_at repeat
catalog_is = refl

found_is : (file : List ℕ) → IsEmptyDatabase file → found_in file slots ≡ Ok empty
unfolding found_in
found_is file is =
    then_is (chain page_size file (2 ∷ []) 0 1 4) _ (1 ∷ []) is.catalogue
    ∙ then_is (blamed 1 (catalog_in (chain_bytes page_size file (1 ∷ []) 4))) _ none (ap (λ (bytes : List ℕ). blamed 1 (catalog_in bytes)) is.none ∙ ap (blamed 1) catalog_is)

pub opened_is : (file : List ℕ) → IsEmptyDatabase file → opened file ≡ Ok empty
unfolding opened
opened_is file is = then_is (slots_in file) (found_in file) slots (slots_are first_root [] file is.opens) ∙ found_is file is

no_arrays : IsDatabase []
no_arrays = record { names = record { count = omega arith; rising = tt; each = tt }; rows = tt }

pub made_stands : (file : List ℕ) → IsEmptyDatabase file → Stands file []
made_stands file is = record {
  database = no_arrays;
  holds = subst (HoldsFound file []) (sym (opened_is file is)) (record { names = refl; versions = tt });
}
