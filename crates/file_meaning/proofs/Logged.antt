-- One more record behind those of a log.
use Rattle.std.proofs.Common.{◌≡◌, ◌<◌, ℕ, zero, suc, Bool, true, false, ◌||◌, List, [], ◌∷◌, ◌++◌, length, refl, sym, ◌∙◌, ap, subst, arith}
use Rattle.std.specs.Prelude.{if◌then◌else◌, nat_eq, Ok, Err}
use Rattle.std.specs.List.{list_any}
use Rattle.std.proofs.lemmas.Bool.Decides.{nat_tests}
use Rattle.page_chain.specs.Places.{IsNone}
use Rattle.page_chain.specs.declared.slots.layout.logs.RecordAt.{RecordAt}
use Rattle.page_file.specs.Pages.{page_size}
use Rattle.page_file.specs.Chains.{chain, chain_bytes}
use Rattle.version_catalog.specs.declared.rules.catalog.Catalog.{Catalog}
use Rattle.version_catalog.specs.declared.rules.catalog_record.CatalogRecord.{CatalogRecord}
use Rattle.version_catalog.specs.declared.rules.catalog_record.CatalogRecord.TheVariants.{Create, First, Next, Remove, RemoveVersions}
use Rattle.version_catalog.specs.Spelling.{spell_record}
use Rattle.version_catalog.specs.Table.{record_in}
use Rattle.version_catalog.specs.Records.{is_allowed, after_record}
use Rattle.file_meaning.specs.Opening.{blamed, if_allowed, Logged, logged_in}
use Rattle.file_meaning.proofs.Steps.{then_is}
use Rattle.file_meaning.proofs.Elsewhere.{record_steps}

-- what is read of one more record
pub record IsRead (file : List ℕ) (log : ℕ) (logged : Logged) (at : RecordAt) (pages : List ℕ) (entry : CatalogRecord) : Type 0 where
  pub chained : chain page_size file logged.taken log at.first at.length ≡ Ok pages
  pub spelled : record_in (chain_bytes page_size file pages at.length) ≡ Ok entry
  pub allowed : is_allowed logged.catalog entry ≡ true

pub logged_more : (file : List ℕ) (log : ℕ) (records : List RecordAt) (taken : List ℕ) (catalog : Catalog) (logged : Logged) (at : RecordAt) (pages : List ℕ) (entry : CatalogRecord) → logged_in file log taken catalog records ≡ Ok logged
    → IsRead file log logged at pages entry
    → logged_in file log taken catalog (records ++ at ∷ []) ≡ Ok (record { pages = logged.pages ++ pages ∷ []; catalog = after_record logged.catalog entry; taken = pages ++ logged.taken })
logged_more file log [] taken catalog logged at pages entry is read =
    let same : record { pages = []; catalog = catalog; taken = taken } ≡ logged = cc in
    let here : IsRead file log (record { pages = []; catalog = catalog; taken = taken }) at pages entry = subst (λ (l : Logged). IsRead file log l at pages entry) (sym same) read in
    subst (λ (l : Logged). logged_in file log taken catalog (at ∷ []) ≡ Ok (record { pages = l.pages ++ pages ∷ []; catalog = after_record l.catalog entry; taken = pages ++ l.taken })) same
    (then_is (chain page_size file taken log at.first at.length) _ pages here.chained
    ∙ then_is (blamed at.first (record_in (chain_bytes page_size file pages at.length))) _ entry (ap (blamed at.first) here.spelled)
    ∙ then_is (if_allowed catalog at.first entry) _ entry (ap (λ (b : Bool). if b then Ok entry else Err at.first) here.allowed))
logged_more file log (r ∷ records) taken catalog logged at pages entry is read =
    let s = record_steps file log taken catalog r records logged is in
    let here : IsRead file log s.later at pages entry = record {
      chained = subst (λ (l : Logged). chain page_size file l.taken log at.first at.length ≡ Ok pages) (sym s.is) read.chained;
      spelled = read.spelled;
      allowed = subst (λ (l : Logged). is_allowed l.catalog entry ≡ true) (sym s.is) read.allowed;
    } in
    let later = logged_more file log records (s.pages ++ taken) (after_record catalog s.entry) s.later at pages entry s.rest here in
    subst (λ (l : Logged). logged_in file log taken catalog (r ∷ (records ++ at ∷ [])) ≡ Ok (record { pages = l.pages ++ pages ∷ []; catalog = after_record l.catalog entry; taken = pages ++ l.taken })) s.is
    (then_is (chain page_size file taken log r.first r.length) _ s.pages s.chained
    ∙ then_is (blamed r.first (record_in (chain_bytes page_size file s.pages r.length))) _ s.spelled s.read
    ∙ then_is (if_allowed catalog r.first s.spelled) _ s.entry s.allowed
    ∙ then_is (logged_in file log (s.pages ++ taken) (after_record catalog s.entry) (records ++ at ∷ [])) _ (record { pages = s.later.pages ++ pages ∷ []; catalog = after_record s.later.catalog entry; taken = pages ++ s.later.taken }) later)

pub some_bytes : (entry : CatalogRecord) → 0 < length (spell_record entry)
unfolding spell_record
some_bytes (Create name schema) = omega arith
some_bytes (First name schema directory) = omega arith
some_bytes (Next name directory) = omega arith
some_bytes (Remove name) = omega arith
some_bytes (RemoveVersions name below) = omega arith

none_one : (b rest : Bool) → (b || rest) ≡ false → (b ≡ false) × (rest ≡ false)
none_one true rest is = absurd cc
none_one false rest is = (refl, is)

-- what no test finds is none of the pages
pub none_of_has : (pages : List ℕ) (p : ℕ) → list_any (λ page. nat_eq page p) pages ≡ false → IsNone pages p
none_of_has [] p none k low same = absurd (omega arith)
none_of_has (q ∷ pages) p none zero low same =
    let other : nat_eq q p ≡ false = (none_one (nat_eq q p) (list_any (λ page. nat_eq page p) pages) none).0 in
    let is : nat_eq q p ≡ true = grind (arith, nat_tests) in
    absurd cc
none_of_has (q ∷ pages) p none (suc k) low same = none_of_has pages p (none_one (nat_eq q p) (list_any (λ page. nat_eq page p) pages) none).1 k (omega arith) same
