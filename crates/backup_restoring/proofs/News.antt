-- A new file, and the database that is made of it.
use Rattle.std.proofs.Common.{◌≡◌, ◌↔◌, ℕ, ◌+◌, ◌^◌, ◌<◌, ◌≤◌, Bool, true, false, List, length, IsTrue, Option, Some, None, IfSome, IfOk, IfErr, Result, Ok, Err, refl, sym, ◌∙◌, ap, subst, arith}
use Rattle.std.specs.Prelude.{OnOk}
use Rattle.afl_outside.specs.Disk.{DiskGoesOn, Moment, Only}
use Rattle.page_chain.specs.Opens.{OpensAs, WrongAt}
use Rattle.page_chain.specs.Puts.{OnlySyncs}
use Rattle.page_chain.specs.Roots.{current}
use Rattle.page_chain.specs.Standing.{IsSound}
use Rattle.page_chain.specs.declared.fault.OpenCause.{OpenCause}
use Rattle.page_chain.specs.declared.fault.OpenCause.TheVariants as causes
use Rattle.page_chain.specs.declared.slots.layout.logs.RecordAt.{RecordAt}
use Rattle.page_chain.specs.declared.slots.layout.roots.OpenRoot.{OpenRoot}
use Rattle.page_chain.specs.declared.slots.layout.roots.Root.{Root}
use Rattle.page_chain.specs.declared.slots.slots.slots.Slots.{Slots}
use Rattle.page_chain.proofs.RunLemmas.{goes, rose_on}
use Rattle.page_file.specs.Moments.{IsKnown}
use Rattle.page_file.specs.OpeningOpened.{HasCause, IsOpened}
use Rattle.page_file.specs.Start.{first_root, IsEmptyDatabase, IsInit, WhereNotEmpty, HasCause as HasInitCause}
use Rattle.page_file.specs.declared.making.fault.InitFault.{InitFault}
use Rattle.page_file.specs.declared.making.fault.InitFault.TheVariants as inits
use Rattle.page_file.proofs.Kept.{at_some}
use Rattle.version_catalog.specs.declared.rules.catalog.Catalog.{Catalog}
use Rattle.file_meaning.proofs.Free.{none_cons}
use Rattle.file_meaning.proofs.Made.{opened_is}
use Rattle.file_meaning.proofs.WrongSlots.{wrong_file, not_both}
use Rattle.version_catalog.specs.declared.rules.catalog.CatalogArray.{CatalogArray}
use Rattle.version_catalog.specs.Spelling.{spelling as catalog_spelling}
use Rattle.backup_format.specs.Pieces.{PiecesArray}
use Rattle.backup_restoring.specs.Restores.{array_pages, catalogue_length, restore_pages}
use Rattle.backup_restoring.specs.Inner.Layout.{array_at, catalog_of, behind_versions, HoldsArray, HoldsArrays}
use Rattle.backup_restoring.specs.Inner.Making.{init_fault, open_fault, FailsMade, FailsNew, OpensMade}
use Rattle.backup_restoring.specs.Inner.Writing.{chain_needs, Closes, Fails, IsBase, IsBased, IsMade, Lays, Makes, OpensNew}
use Rattle.backup_restoring.specs.declared.fault.RestoreFault.{RestoreFault}
use Rattle.backup_restoring.specs.declared.fault.RestoreFault.TheVariants as faults
use Rattle.backup_restoring.proofs.Laid.{none_below}
use Rattle.backup_restoring.proofs.Lengths.{catalogue_long}
use Rattle.backup_restoring.proofs.Written.{arrays_stay}

-- ---- opening

one_root : (a b : OpenRoot) (o : Option OpenRoot) → o ≡ Some a → o ≡ Some b → a ≡ b
one_root a b o p q = let e : Some a ≡ Some b = sym p ∙ q in cc

-- the file of an empty database opens with the first root
pub first_opens : (o : Option (List ℕ)) (it : OpenRoot) (records : List RecordAt) → IfSome o (λ file. OpensAs it records file) → (it.root ≡ first_root.root → ⊥) → IfSome o (λ file. IsEmptyDatabase file → ⊥)
first_opens None it records opens other = tt
first_opens (Some file) it records opens other = λ made. other (ap (λ (r : OpenRoot). r.root) (one_root it first_root (current file) opens.slot made.opens.slot))

-- and is never wrong at a page
pub never_wrong : (o : Option (List ℕ)) (page : ℕ) → IfSome o (λ file. WrongAt page file) → IfSome o (λ file. IsEmptyDatabase file → ⊥)
never_wrong None page wrong = tt
never_wrong (Some file) page wrong = λ made. not_both file _ page (opened_is file made) (wrong_file page file wrong)

pub open_fails : (cause : OpenCause) (old new : Moment) → IfSome old.state.seen (λ seen. IsOpened seen (Err cause)) → OnlySyncs old new → HasCause cause old.state new.state → FailsMade (open_fault cause) old new
open_fails causes.Disk old new opened reads is = record { same = reads.same; cause = is }
open_fails (causes.NotDatabase page) old new opened reads is = record { same = reads.same; cause = never_wrong old.state.seen page opened }
open_fails causes.Memory old new opened reads is = record { same = reads.same; cause = tt }

pub known_by : (slots : Slots) (old new : Moment) → OnlySyncs old new → (IsTrue old.state.honest → IfSome old.state.seen (λ seen. IsSound slots seen new.may_leave))
    → IsTrue old.state.honest → IfSome old.state.seen (λ seen. IsKnown slots seen new)
known_by slots old new reads sound honest = go old.state.seen refl (sound honest)
  where
    go : (o : Option (List ℕ)) → old.state.seen ≡ o → IfSome o (λ seen. IsSound slots seen new.may_leave) → IfSome o (λ seen. IsKnown slots seen new)
    go None is s = tt
    go (Some seen) is s = record { honest = subst (λ (b : Bool). IsTrue b) (sym reads.same.honest) honest; tells = reads.seen ∙ is; sound = s }

-- ---- the database

-- THE DATABASE of what was written is made
pub makes_by : (arrays : List PiecesArray) (catalog : List CatalogArray) (next : ℕ) (s0 s1 s2 s3 : Slots) (m0 m1 m2 m3 : Moment) → 3 + restore_pages arrays ≤ 2 ^ 32 → Closes s0 s1 m0 m1
    → Lays array_pages array_at HoldsArray 3 arrays next catalog s1 s2 m1 m2 → IsBased next (catalog_spelling (record { arrays = catalog })) s2 m2 m3 → Makes arrays s0 m0 m3
makes_by arrays catalog next s0 s1 s2 s3 m0 m1 m2 m3 room closes lays based = record {
  same = goes m0.state m1.state m3.state closes.same (goes m1.state m2.state m3.state lays.writes.same based.same);
  made = λ seen known.
      let x = closes.known seen known in
      let y = lays.writes.known x.0 x.1 in
      made y.0 y.3 (based.based y.0 y.1);
}
  where
    first : ℕ
    first = behind_versions arrays

    made : (now : List ℕ) → HoldsArrays now 3 arrays → IsBase next (length (catalog_spelling (record { arrays = catalog }))) (catalog_spelling (record { arrays = catalog })) now m3 → IsMade arrays m3
    made now held base =
        let text : catalog_spelling (record { arrays = catalog }) ≡ catalog_spelling (catalog_of arrays) = ap (λ (es : List CatalogArray). catalog_spelling (record { arrays = es })) lays.made_is in
        let long : length (catalog_spelling (catalog_of arrays)) ≡ catalogue_length arrays = catalogue_long arrays in
        let at : IsBase first (length (catalog_spelling (record { arrays = catalog }))) (catalog_spelling (record { arrays = catalog })) now m3
        = subst (λ (n : ℕ). IsBase n (length (catalog_spelling (record { arrays = catalog }))) (catalog_spelling (record { arrays = catalog })) now m3) lays.next_is base in
        let told : IsBase first (length (catalog_spelling (catalog_of arrays))) (catalog_spelling (catalog_of arrays)) now m3 = subst (λ (bytes : List ℕ). IsBase first (length bytes) bytes now m3) text at in
        let b : IsBase first (catalogue_length arrays) (catalog_spelling (catalog_of arrays)) now m3 = subst (λ (n : ℕ). IsBase first n (catalog_spelling (catalog_of arrays)) now m3) long told in
        record {
          file = b.now;
          side = b.side;
          reads = b.reads;
          leaves = b.leaves;
          opens = b.opens;
          holds = record {
            held = arrays_stay _ now b.now 3 first arrays b.keeps (λ p low high. none_cons 0 _ p (λ same. omega (arith, same, low)) (none_below first _ p high)) (omega arith) held;
            chained = b.holds;
            small = omega (arith, room);
          };
        }

-- ---- a new file

not_true : (b : Bool) → b ≡ false → IsTrue b → ⊥
not_true true is holds = absurd cc
not_true false is holds = absurd cc

pub no_first : (b : Bool) (root now : Root) → b ≡ false → (IsTrue b ↔ (root ≡ first_root.root)) → root ≡ now → now ≡ first_root.root → ⊥
no_first b root now is exact same first = not_true b is (exact.1 (same ∙ first))

some_map : (o : Option (List ℕ)) (P Q : List ℕ → Type 0) → ((x : List ℕ) → P x → Q x) → IfSome o P → IfSome o Q
some_map None P Q over is = tt
some_map (Some x) P Q over is = over x is

-- what an honest disk that tells its bytes was made
abbrev pub WasMade : Moment → Moment → Type 0
WasMade old mid = IsTrue old.state.honest → IfSome old.state.seen (λ _. (file : List ℕ) × (mid.state.seen ≡ Some file) × IsEmptyDatabase file × Only file mid.may_leave)

pub opens_new : (slots : Slots) (old mid now : Moment) → DiskGoesOn old.state mid.state → WasMade old mid → OpensMade mid slots now → OpensNew old slots now
opens_new slots old mid now same made opens = record {
  same = goes old.state mid.state now.state same opens.same;
  slots_are = opens.slots_are;
  known = λ honest.
      some_map old.state.seen (λ _. (file : List ℕ) × (mid.state.seen ≡ Some file) × IsEmptyDatabase file × Only file mid.may_leave) (λ _. (seen : List ℕ) × IsKnown slots seen now)
      (λ x was. (was.0, at_some mid.state.seen was.0 (λ seen. IsKnown slots seen now) was.1 (opens.known (subst (λ (b : Bool). IsTrue b) (sym same.honest) honest))))
      (made honest);
}

pub fails_new : (fault : RestoreFault) (old mid new : Moment) → DiskGoesOn old.state mid.state → WasMade old mid → FailsMade fault mid new → FailsNew fault old new
fails_new faults.Source old mid new same made fails = absurd fails.cause
fails_new faults.Disk old mid new same made fails =
    record { same = goes old.state mid.state new.state same fails.same; cause = rose_on old.state.faults mid.state.faults new.state.faults same.later fails.cause }
fails_new (faults.NotEmpty count) old mid new same made fails = absurd fails.cause
fails_new (faults.NotBackup at) old mid new same made fails = absurd fails.cause
fails_new (faults.Full needed free) old mid new same made fails = absurd fails.cause
fails_new (faults.NotDatabase page) old mid new same made fails = record {
  same = goes old.state mid.state new.state same fails.same;
  cause = λ honest.
      some_map old.state.seen (λ _. (file : List ℕ) × (mid.state.seen ≡ Some file) × IsEmptyDatabase file × Only file mid.may_leave) (λ _. ⊥)
      (λ x was. at_some mid.state.seen was.0 (λ seen. IsEmptyDatabase seen → ⊥) was.1 fails.cause was.2) (made honest);
}
fails_new faults.Memory old mid new same made fails = record { same = goes old.state mid.state new.state same fails.same; cause = tt }

pub init_fails : (fault : InitFault) (old new : Moment) → IfSome old.state.seen (λ seen. IsInit seen (Err fault)) → DiskGoesOn old.state new.state → HasInitCause fault old.state new.state → WhereNotEmpty fault (OnlySyncs old new)
    → FailsNew (init_fault fault) old new
init_fails inits.Disk old new is same cause kept = record { same = same; cause = cause }
init_fails (inits.NotEmpty count) old new is same cause kept = record { same = same; cause = (kept, is) }
init_fails inits.Memory old new is same cause kept = record { same = same; cause = tt }

pub ok_on : {F E : Type 0} (r : Result F E) (P Q : F → Type 0) → ((x : F) → P x → Q x) → IfOk r P → IfOk r Q
ok_on (Ok x) P Q over is = over x is
ok_on (Err e) P Q over is = tt

pub err_on : {F E : Type 0} (r : Result F E) (P Q : E → Type 0) → ((e : E) → P e → Q e) → IfErr r P → IfErr r Q
err_on (Ok x) P Q over is = tt
err_on (Err e) P Q over is = over e is

-- ---- all of it

pub filled : (arrays : List PiecesArray) (slots : Slots) (old mid new : Moment) (answer : Result (Unit {0}) RestoreFault) → OpensNew old slots mid → OnOk answer (Makes arrays slots mid new)
    → OnOk answer (IsTrue old.state.honest → IfSome old.state.seen (λ _. IsMade arrays new))
filled arrays slots old mid new (Err fault) opens makes = tt
filled arrays slots old mid new (Ok u) opens makes = λ honest.
    some_map old.state.seen (λ _. (seen : List ℕ) × IsKnown slots seen mid) (λ _. IsMade arrays new) (λ x known. makes.made known.0 known.1) (opens.known honest)

fill_fails : (fault : RestoreFault) (old mid new : Moment) → DiskGoesOn old.state mid.state → Fails fault mid.state new.state → FailsNew fault old new
fill_fails faults.Source old mid new same fails = absurd fails.cause
fill_fails faults.Disk old mid new same fails = record { same = goes old.state mid.state new.state same fails.same; cause = rose_on old.state.faults mid.state.faults new.state.faults same.later fails.cause }
fill_fails (faults.NotEmpty count) old mid new same fails = absurd fails.cause
fill_fails (faults.NotBackup at) old mid new same fails = absurd fails.cause
fill_fails (faults.Full needed free) old mid new same fails = absurd fails.cause
fill_fails (faults.NotDatabase page) old mid new same fails = absurd fails.cause
fill_fails faults.Memory old mid new same fails = record { same = goes old.state mid.state new.state same fails.same; cause = tt }

pub all_fail : (arrays : List PiecesArray) (slots : Slots) (old mid new : Moment) (answer : Result (Unit {0}) RestoreFault) → DiskGoesOn old.state mid.state → IfErr answer (λ fault. Fails fault mid.state new.state)
    → IfErr answer (λ fault. FailsNew fault old new)
all_fail arrays slots old mid new (Ok u) same fails = tt
all_fail arrays slots old mid new (Err fault) same fails = fill_fails fault old mid new same fails

pub goes_on : (arrays : List PiecesArray) (slots : Slots) (old mid new : Moment) (answer : Result (Unit {0}) RestoreFault) → DiskGoesOn old.state mid.state → OnOk answer (Makes arrays slots mid new)
    → IfErr answer (λ fault. Fails fault mid.state new.state) → DiskGoesOn old.state new.state
goes_on arrays slots old mid new (Ok u) same makes fails = goes old.state mid.state new.state same makes.same
goes_on arrays slots old mid new (Err fault) same makes fails = goes old.state mid.state new.state same fails.same

pub makes_all : (arrays : List PiecesArray) (catalog : List CatalogArray) (next : ℕ) (s0 s1 s2 s3 : Slots) (m0 m1 m2 m3 : Moment) (answer : Result (Unit {0}) RestoreFault) → 3 + restore_pages arrays ≤ 2 ^ 32 → Closes s0 s1 m0 m1
    → Lays array_pages array_at HoldsArray 3 arrays next catalog s1 s2 m1 m2 → OnOk answer (IsBased next (catalog_spelling (record { arrays = catalog })) s2 m2 m3) → OnOk answer (Makes arrays s0 m0 m3)
makes_all arrays catalog next s0 s1 s2 s3 m0 m1 m2 m3 (Ok u) room closes lays based = makes_by arrays catalog next s0 s1 s2 s3 m0 m1 m2 m3 room closes lays based
makes_all arrays catalog next s0 s1 s2 s3 m0 m1 m2 m3 (Err fault) room closes lays based = tt

pub base_room : (arrays : List PiecesArray) (catalog : List CatalogArray) (next : ℕ) (s t : Slots) (old new : Moment) → 3 + restore_pages arrays ≤ 2 ^ 32 → Lays array_pages array_at HoldsArray 3 arrays next catalog s t old new
    → next + chain_needs (length (catalog_spelling (record { arrays = catalog }))) < 2 ^ 32
base_room arrays catalog next s t old new room lays =
    let long : length (catalog_spelling (record { arrays = catalog })) ≡ catalogue_length arrays = ap (λ (es : List CatalogArray). length (catalog_spelling (record { arrays = es }))) lays.made_is ∙ catalogue_long arrays in
    let needs : chain_needs (length (catalog_spelling (record { arrays = catalog }))) ≡ chain_needs (catalogue_length arrays) = ap chain_needs long in
    let at = lays.next_is in
    omega (arith, room, needs, at)

pub some_bytes : (catalog : Catalog) → 0 < length (catalog_spelling catalog)
unfolding catalog_spelling
some_bytes catalog = omega arith
