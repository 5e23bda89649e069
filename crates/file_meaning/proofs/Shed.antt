-- The directories of an array are found again without the first one: what it alone had claimed is claimed by those that share it.
use Rattle.std.proofs.Common.{◌≡◌, ℕ, zero, suc, Bool, true, false, ◌||◌, List, [], ◌∷◌, ◌++◌, length, drop, slice_index, refl, sym, ◌∙◌, ap, subst}
use Rattle.std.specs.Prelude.{if◌then◌else◌, Result, Ok, Err}
use Rattle.std.specs.List.{AllByRecursion}
use Rattle.file_items.specs.Items.{◌>>=◌}
use Rattle.cell_values.specs.declared.schema.Dimension.{Dimension}
use Rattle.page_chain.specs.Places.{IsNone}
use Rattle.page_file.specs.Pages.{page_size, blob}
use Rattle.page_file.specs.Chains.{names_page}
use Rattle.chunk_map.specs.declared.directory.DirEntry.{DirEntry}
use Rattle.chunk_map.specs.declared.directory.Directory.{Directory}
use Rattle.chunk_map.specs.Entries.{AreRising}
use Rattle.chunk_map.specs.Table.{directory_in}
use Rattle.version_catalog.specs.declared.rules.catalog.BlobAt.{BlobAt}
use Rattle.file_meaning.specs.Opening.{blamed, claimed, is_same, is_seen, payload_in, payloads_in, Listed, Rules, directory_from, Row, row_in}
use Rattle.file_meaning.proofs.Steps.{then_is}
use Rattle.file_meaning.proofs.Fewer.{Fewer}
use Rattle.file_meaning.proofs.Elsewhere.{entry_steps, directory_steps, row_steps}
use Rattle.file_meaning.proofs.Free.{AreNamed, Differ, MayClaim, with_pages, crossed, weaker, claims, claimed_may, claimed_is, may_claim, may_named, may_differ, names_more, names_fewer, names_other, named_beside, beside_pages, with_none}
use Rattle.file_meaning.proofs.Appended.{seen_either}
use Rattle.file_meaning.proofs.Same.{same_entry, same_itself, same_back, AreUnseen, unseen_more, unseen_none}

-- What is known beside two lists of entries that were seen: those of `full` were claimed beside `more`, and those of them that aren't
-- in `lesser` may be claimed beside `less`.
record Shed (file more less : List ℕ) (full lesser : List DirEntry) : Type 0 where
  fewer : Fewer file more less
  within : (f : DirEntry) → is_seen lesser f ≡ true → is_seen full f ≡ true
  free : (f : DirEntry) → is_seen full f ≡ true → is_seen lesser f ≡ false → AreNamed file less f.pages
  gone : (f : DirEntry) → is_seen full f ≡ true → (p : ℕ) → names_page page_size file more p ≡ true → IsNone f.pages p
  apart : (f g : DirEntry) → is_seen full f ≡ true → is_seen full g ≡ true → is_same f g ≡ false → AllByRecursion (IsNone f.pages) g.pages
  own : (f : DirEntry) → is_seen full f ≡ true → Differ f.pages

-- ---- truths

either : (a b : Bool) {G : Type 0} → (a || b) ≡ true → (a ≡ true → G) → (b ≡ true → G) → G
either true b is left right = left refl
either false b is left right = right is

neither : (a b : Bool) → (a || b) ≡ false → (a ≡ false) × (b ≡ false)
neither true b is = absurd cc
neither false b is = (refl, is)

or_left : (a b : Bool) → a ≡ true → (a || b) ≡ true
or_left true b is = refl
or_left false b is = absurd cc

or_right : (a b : Bool) → b ≡ true → (a || b) ≡ true
or_right true b is = refl
or_right false b is = is

clash : (b : Bool) → b ≡ true → b ≡ false → ⊥
clash true is not_so = cc
clash false is not_so = cc

-- ---- more pages, more entries

fewer_pages : (file pages more less : List ℕ) → Fewer file more less → Fewer file (with_pages pages more) (with_pages pages less)
fewer_pages file [] more less fewer = fewer
fewer_pages file (q ∷ pages) more less fewer = fewer_pages file pages (q ∷ more) (q ∷ less) (λ p names. names_more file less q p (names_other file more q p names) (fewer p (names_fewer file more q p names)))

-- pages that may be claimed beside `more` are none of an entry's
none_of : (file more less : List ℕ) (full lesser : List DirEntry) (pages : List ℕ) → Shed file more less full lesser → MayClaim file more pages → (f : DirEntry) → is_seen full f ≡ true → AllByRecursion (IsNone f.pages) pages
none_of file more less full lesser pages shed may f seen = weaker (λ p. names_page page_size file more p ≡ true) (IsNone f.pages) (λ p names. shed.gone f seen p names) pages (may_named file pages more may)

-- pages are claimed on both sides
shed_pages : (file more less : List ℕ) (full lesser : List DirEntry) (pages : List ℕ) → Shed file more less full lesser → MayClaim file more pages → Shed file (with_pages pages more) (with_pages pages less) full lesser
shed_pages file more less full lesser pages shed may = record {
  fewer = fewer_pages file pages more less shed.fewer;
  within = shed.within;
  free = λ f seen not_so. named_beside file pages less (with_pages pages less) f.pages (beside_pages file pages less) (crossed f.pages pages (none_of file more less full lesser pages shed may f seen)) (shed.free f seen not_so);
  gone = λ f seen p names. shed.gone f seen p (with_none file pages more p names).1;
  apart = shed.apart;
  own = shed.own;
}

-- pages are claimed beside `more` alone
shed_more : (file more less : List ℕ) (full lesser : List DirEntry) (pages : List ℕ) → Shed file more less full lesser → MayClaim file more pages → Shed file (with_pages pages more) less full lesser
shed_more file more less full lesser pages shed may = record {
  fewer = λ p names. shed.fewer p (with_none file pages more p names).1;
  within = shed.within;
  free = shed.free;
  gone = λ f seen p names. shed.gone f seen p (with_none file pages more p names).1;
  apart = shed.apart;
  own = shed.own;
}

-- fewer entries of the full list, more of the lesser one
shed_of : (file more less : List ℕ) (full lesser full' lesser' : List DirEntry) → ((f : DirEntry) → is_seen full' f ≡ true → is_seen full f ≡ true) → ((f : DirEntry) → is_seen lesser' f ≡ false → is_seen lesser f ≡ false)
    → ((f : DirEntry) → is_seen lesser' f ≡ true → is_seen full' f ≡ true) → Shed file more less full lesser → Shed file more less full' lesser'
shed_of file more less full lesser full' lesser' down up within shed = record {
  fewer = shed.fewer;
  within = within;
  free = λ f seen not_so. shed.free f (down f seen) (up f not_so);
  gone = λ f seen. shed.gone f (down f seen);
  apart = λ f g seen other. shed.apart f g (down f seen) (down g other);
  own = λ f seen. shed.own f (down f seen);
}

-- what one more entry needs
record IsOne (file more less : List ℕ) (full : List DirEntry) (e : DirEntry) : Type 0 where
  gone : (p : ℕ) → names_page page_size file more p ≡ true → IsNone e.pages p
  apart : (f : DirEntry) → is_seen full f ≡ true → AllByRecursion (IsNone f.pages) e.pages
  own : Differ e.pages

-- an entry whose pages were claimed is seen from then on
shed_entry : (file more less : List ℕ) (full lesser lesser' : List DirEntry) (e : DirEntry) → Shed file more less full lesser → IsOne file more less full e → ((f : DirEntry) → is_seen lesser' f ≡ false → is_seen lesser f ≡ false)
    → ((f : DirEntry) → is_seen lesser' f ≡ true → is_seen (e ∷ full) f ≡ true) → ((f : DirEntry) → is_same f e ≡ true → is_seen lesser' f ≡ false → AreNamed file less f.pages) → Shed file more less (e ∷ full) lesser'
shed_entry file more less full lesser lesser' e shed one up within free = record {
  fewer = shed.fewer;
  within = within;
  free = λ f seen not_so. either (is_same f e) (is_seen full f) seen (λ same. free f same not_so) (λ before. shed.free f before (up f not_so));
  gone = λ f seen. either (is_same f e) (is_seen full f) {G = (p : ℕ) → names_page page_size file more p ≡ true → IsNone f.pages p} seen
      (λ same. subst (λ (x : DirEntry). (p : ℕ) → names_page page_size file more p ≡ true → IsNone x.pages p) (sym (same_entry f e same)) one.gone) (λ before. shed.gone f before);
  apart = λ f g seen other not_same. either (is_same f e) (is_seen full f) {G = AllByRecursion (IsNone f.pages) g.pages} seen
      (λ same. either (is_same g e) (is_seen full g) {G = AllByRecursion (IsNone f.pages) g.pages} other
      (λ too. absurd (clash (is_same f g) (subst (λ (x : DirEntry). is_same f x ≡ true) (same_entry f e same ∙ sym (same_entry g e too)) (same_itself f)) not_same))
      (λ before. subst (λ (x : DirEntry). AllByRecursion (IsNone x.pages) g.pages) (sym (same_entry f e same)) (crossed g.pages e.pages (one.apart g before))))
      (λ before. either (is_same g e) (is_seen full g) {G = AllByRecursion (IsNone f.pages) g.pages} other
      (λ too. subst (λ (x : DirEntry). AllByRecursion (IsNone f.pages) x.pages) (sym (same_entry g e too)) (one.apart f before))
      (λ both. shed.apart f g before both not_same));
  own = λ f seen. either (is_same f e) (is_seen full f) {G = Differ f.pages} seen (λ same. subst (λ (x : DirEntry). Differ x.pages) (sym (same_entry f e same)) one.own) (λ before. shed.own f before);
}

-- ---- entry by entry

record Step (file now : List ℕ) (full lesser : List DirEntry) (step : Result (List ℕ) ℕ) : Type 0 where
  others : List ℕ
  is : step ≡ Ok others
  shed : Shed file now others full lesser

-- an entry that neither list has: it is claimed on both sides
step_new : (file : List ℕ) (named : ℕ) (full lesser : List DirEntry) (more less now : List ℕ) (e : DirEntry) → Shed file more less full lesser → claimed file named more e.pages ≡ Ok now
    → Step file now (e ∷ full) (e ∷ lesser) (claimed file named less e.pages)
step_new file named full lesser more less now e shed is =
    let may = claimed_may file named e.pages more now is in
    let too : MayClaim file less e.pages = may_claim file e.pages less (weaker (λ p. names_page page_size file more p ≡ true) (λ p. names_page page_size file less p ≡ true) shed.fewer e.pages (may_named file e.pages more may)) (may_differ file e.pages more may) in
    let after = shed_pages file more less full lesser e.pages shed may in
    let one : IsOne file (with_pages e.pages more) (with_pages e.pages less) full e = record {
      gone = λ p names. (with_none file e.pages more p names).0;
      apart = none_of file more less full lesser e.pages shed may;
      own = may_differ file e.pages more may;
    } in
    let here : Shed file (with_pages e.pages more) (with_pages e.pages less) (e ∷ full) (e ∷ lesser)
    = shed_entry file (with_pages e.pages more) (with_pages e.pages less) full lesser (e ∷ lesser) e after one
    (λ f not_so. (neither (is_same f e) (is_seen lesser f) not_so).1)
    (λ f seen. either (is_same f e) (is_seen lesser f) seen (λ same. or_left (is_same f e) (is_seen full f) same) (λ before. or_right (is_same f e) (is_seen full f) (shed.within f before)))
    (λ f same not_so. absurd (clash (is_same f e) same (neither (is_same f e) (is_seen lesser f) not_so).0)) in
    record {
      others = with_pages e.pages less;
      is = claims file named e.pages less too;
      shed = subst (λ (ts : List ℕ). Shed file ts (with_pages e.pages less) (e ∷ full) (e ∷ lesser)) (claimed_is file named e.pages more now is) here;
    }

full_has : (full : List DirEntry) (e : DirEntry) → is_seen full e ≡ true → (f : DirEntry) → is_seen (e ∷ full) f ≡ true → is_seen full f ≡ true
full_has full e has f seen = either (is_same f e) (is_seen full f) seen (λ same. subst (λ (x : DirEntry). is_seen full x ≡ true) (sym (same_entry f e same)) has) (λ before. before)

within_more : (full lesser : List DirEntry) (e : DirEntry) → ((f : DirEntry) → is_seen lesser f ≡ true → is_seen full f ≡ true) → (f : DirEntry) → is_seen (e ∷ lesser) f ≡ true → is_seen (e ∷ full) f ≡ true
within_more full lesser e within f seen = either (is_same f e) (is_seen lesser f) seen (λ same. or_left (is_same f e) (is_seen full f) same) (λ before. or_right (is_same f e) (is_seen full f) (within f before))

-- an entry that both lists have: it is claimed on neither side
step_shared : (file more less : List ℕ) (full lesser : List DirEntry) (e : DirEntry) → Shed file more less full lesser → is_seen full e ≡ true → Shed file more less (e ∷ full) (e ∷ lesser)
step_shared file more less full lesser e shed has =
    shed_of file more less full lesser (e ∷ full) (e ∷ lesser) (full_has full e has) (λ f not_so. (neither (is_same f e) (is_seen lesser f) not_so).1) (within_more full lesser e shed.within) shed

-- an entry that the full list alone has: it is claimed beside `less`
step_left : (file : List ℕ) (named : ℕ) (full lesser : List DirEntry) (more less : List ℕ) (e : DirEntry) → Shed file more less full lesser → is_seen full e ≡ true → is_seen lesser e ≡ false
    → Step file more (e ∷ full) (e ∷ lesser) (claimed file named less e.pages)
step_left file named full lesser more less e shed has not_so =
    let may : MayClaim file less e.pages = may_claim file e.pages less (shed.free e has not_so) (shed.own e has) in
    let after = with_pages e.pages less in
    record {
      others = after;
      is = claims file named e.pages less may;
      shed = record {
        fewer = λ p names. beside_pages file e.pages less p (shed.gone e has p names) (shed.fewer p names);
        within = within_more full lesser e shed.within;
        free = λ f seen left.
            let n = neither (is_same f e) (is_seen lesser f) left in
            named_beside file e.pages less after f.pages (beside_pages file e.pages less) (shed.apart e f has (full_has full e has f seen) (same_back f e n.0)) (shed.free f (full_has full e has f seen) n.1);
        gone = λ f seen. shed.gone f (full_has full e has f seen);
        apart = λ f g seen other. shed.apart f g (full_has full e has f seen) (full_has full e has g other);
        own = λ f seen. shed.own f (full_has full e has f seen);
      };
    }

step_cases : (file : List ℕ) (named : ℕ) (done full lesser : List DirEntry) (more less after : List ℕ) (e : DirEntry) → Shed file more less (done ++ full) (done ++ lesser) → is_seen done e ≡ false → (b c : Bool) → is_seen full e ≡ b → is_seen lesser e ≡ c
    → (if b then Ok more else claimed file named more e.pages) ≡ Ok after → Step file after (e ∷ (done ++ full)) (e ∷ (done ++ lesser)) (if c then Ok less else claimed file named less e.pages)
step_cases file named done full lesser more less after e shed unseen true true has had is =
    let same : more ≡ after = cc in
    let seen : is_seen (done ++ full) e ≡ true = seen_either done full e ∙ or_right (is_seen done e) (is_seen full e) has in
    record { others = less; is = refl; shed = subst (λ (ts : List ℕ). Shed file ts less (e ∷ (done ++ full)) (e ∷ (done ++ lesser))) same (step_shared file more less (done ++ full) (done ++ lesser) e shed seen) }
step_cases file named done full lesser more less after e shed unseen true false has had is =
    let same : more ≡ after = cc in
    let seen : is_seen (done ++ full) e ≡ true = seen_either done full e ∙ or_right (is_seen done e) (is_seen full e) has in
    let not_so : is_seen (done ++ lesser) e ≡ false = seen_either done lesser e ∙ ap (λ (b : Bool). b || is_seen lesser e) unseen ∙ had in
    subst (λ (ts : List ℕ). Step file ts (e ∷ (done ++ full)) (e ∷ (done ++ lesser)) (claimed file named less e.pages)) same (step_left file named (done ++ full) (done ++ lesser) more less e shed seen not_so)
step_cases file named done full lesser more less after e shed unseen false true has had is =
    let seen : is_seen (done ++ lesser) e ≡ true = seen_either done lesser e ∙ or_right (is_seen done e) (is_seen lesser e) had in
    let not_so : is_seen (done ++ full) e ≡ false = seen_either done full e ∙ ap (λ (b : Bool). b || is_seen full e) unseen ∙ has in
    absurd (clash (is_seen (done ++ full) e) (shed.within e seen) not_so)
step_cases file named done full lesser more less after e shed unseen false false has had is = step_new file named (done ++ full) (done ++ lesser) more less after e shed is

-- some entries were seen, the last one first
abbrev push_all : List DirEntry → List DirEntry → List DirEntry
push_all [] done = done
push_all (e ∷ entries) done = push_all entries (e ∷ done)

payloads_shed : (file : List ℕ) (sequence : ℕ) (dims : List Dimension) (named : ℕ) (full lesser entries done : List DirEntry) (more less now : List ℕ) → Shed file more less (done ++ full) (done ++ lesser) → AreUnseen done entries → AreRising entries
    → payloads_in file sequence dims named full more entries ≡ Ok now → Step file now (push_all entries done ++ full) (push_all entries done ++ lesser) (payloads_in file sequence dims named lesser less entries)
payloads_shed file sequence dims named full lesser [] done more less now shed unseen rising is =
    let same : more ≡ now = cc in
    record { others = less; is = refl; shed = subst (λ (ts : List ℕ). Shed file ts less (done ++ full) (done ++ lesser)) same shed }
payloads_shed file sequence dims named full lesser (e ∷ entries) done more less now shed unseen rising is =
    let s = entry_steps file sequence dims named full more e entries now is in
    let t = step_cases file named done full lesser more less s.after e shed unseen.0 (is_seen full e) (is_seen lesser e) refl refl s.claims in
    let later = payloads_shed file sequence dims named full lesser entries (e ∷ done) s.after t.others now t.shed (unseen_more done e entries rising.0 unseen.1) rising.1 s.rest in
    record {
      others = later.others;
      is = ap (λ (b : Bool). if b then (payload_in file named lesser less e >>= λ after. payloads_in file sequence dims named lesser after entries) else Err named) s.tested
          ∙ then_is (payload_in file named lesser less e) (λ after. payloads_in file sequence dims named lesser after entries) t.others t.is ∙ later.is;
      shed = later.shed;
    }

pushed : (entries done rest : List DirEntry) (f : DirEntry) → is_seen (push_all entries done ++ rest) f ≡ is_seen (entries ++ (done ++ rest)) f
pushed [] done rest f = refl
pushed (e ∷ entries) done rest f =
    pushed entries (e ∷ done) rest f ∙ seen_either entries (e ∷ (done ++ rest)) f
    ∙ turn (is_seen entries f) (is_same f e) (is_seen (done ++ rest) f) ∙ ap (λ (b : Bool). is_same f e || b) (sym (seen_either entries (done ++ rest) f))
  where
    turn : (a b c : Bool) → (a || (b || c)) ≡ (b || (a || c))
    turn true true c = refl
    turn true false c = refl
    turn false true c = refl
    turn false false c = refl

in_order : (file more less : List ℕ) (full lesser entries : List DirEntry) → Shed file more less (push_all entries [] ++ full) (push_all entries [] ++ lesser) → Shed file more less (entries ++ full) (entries ++ lesser)
in_order file more less full lesser entries shed =
    shed_of file more less (push_all entries [] ++ full) (push_all entries [] ++ lesser) (entries ++ full) (entries ++ lesser)
    (λ f seen. pushed entries [] full f ∙ seen) (λ f not_so. pushed entries [] lesser f ∙ not_so)
    (λ f seen. sym (pushed entries [] full f) ∙ shed.within f (pushed entries [] lesser f ∙ seen)) shed

-- ---- directory by directory

record Lists (file : List ℕ) (listed : Listed) (full lesser : List DirEntry) (step : Result Listed ℕ) : Type 0 where
  others : Listed
  is : step ≡ Ok others
  same : others.directory ≡ listed.directory
  shed : Shed file listed.taken others.taken (listed.directory.entries ++ full) (listed.directory.entries ++ lesser)

directory_shed : (file : List ℕ) (rules : Rules) (dims : List Dimension) (full lesser : List DirEntry) (more less : List ℕ) (at : BlobAt) (listed : Listed) → Shed file more less full lesser → AreRising listed.directory.entries
    → directory_from file rules dims full more at ≡ Ok listed → Lists file listed full lesser (directory_from file rules dims lesser less at)
directory_shed file rules dims full lesser more less at listed shed rising is =
    let s = directory_steps file rules dims full more at listed is in
    let may = claimed_may file rules.first at.pages more s.own s.claims in
    let too : MayClaim file less at.pages = may_claim file at.pages less (weaker (λ p. names_page page_size file more p ≡ true) (λ p. names_page page_size file less p ≡ true) shed.fewer at.pages (may_named file at.pages more may)) (may_differ file at.pages more may) in
    let own = with_pages at.pages less in
    let after : Shed file s.own own full lesser = subst (λ (ts : List ℕ). Shed file ts own full lesser) (claimed_is file rules.first at.pages more s.own s.claims) (shed_pages file more less full lesser at.pages shed may) in
    let rise : AreRising s.directory.entries = subst (λ (l : Listed). AreRising l.directory.entries) (sym s.is) rising in
    let p = payloads_shed file rules.sequence dims (slice_index at.pages 0) full lesser s.directory.entries [] s.own own s.all after (unseen_none s.directory.entries) rise s.payloads in
    let here : Lists file (record { directory = s.directory; taken = s.all }) full lesser (directory_from file rules dims lesser less at) = record {
      others = record { directory = s.directory; taken = p.others };
      is = then_is (claimed file rules.first less at.pages) _ own (claims file rules.first at.pages less too)
          ∙ then_is (blamed (slice_index at.pages 0) (directory_in (length dims) (blob page_size file at.pages at.length))) _ s.directory s.read
          ∙ then_is (payloads_in file rules.sequence dims (slice_index at.pages 0) lesser own s.directory.entries) _ p.others p.is;
      same = refl;
      shed = in_order file s.all p.others full lesser s.directory.entries p.shed;
    } in
    subst (λ (l : Listed). Lists file l full lesser (directory_from file rules dims lesser less at)) s.is here

pub record Rows (file : List ℕ) (row : Row) (step : Result Row ℕ) : Type 0 where
  pub others : Row
  pub is : step ≡ Ok others
  pub same : others.directories ≡ row.directories
  pub fewer : Fewer file row.taken others.taken

row_shed : (file : List ℕ) (rules : Rules) (dims : List Dimension) (blobs : List BlobAt) (full lesser : List DirEntry) (more less : List ℕ) (row : Row) → Shed file more less full lesser → AllByRecursion (λ d. AreRising d.entries) row.directories
    → row_in file rules dims full more blobs ≡ Ok row → Rows file row (row_in file rules dims lesser less blobs)
row_shed file rules dims [] full lesser more less row shed rising is =
    let same : record { directories = []; taken = more } ≡ row = cc in
    subst (λ (r : Row). Rows file r (row_in file rules dims lesser less [])) same (record { others = record { directories = []; taken = less }; is = refl; same = refl; fewer = shed.fewer })
row_shed file rules dims (at ∷ blobs) full lesser more less row shed rising is =
    let s = row_steps file rules dims full more at blobs row is in
    let rise : AllByRecursion (λ (d : Directory). AreRising d.entries) (s.first.directory ∷ s.later.directories) = subst (λ (r : Row). AllByRecursion (λ d. AreRising d.entries) r.directories) (sym s.is) rising in
    let c = directory_shed file rules dims full lesser more less at s.first shed rise.0 s.found in
    let d = row_shed file rules dims blobs (s.first.directory.entries ++ full) (s.first.directory.entries ++ lesser) s.first.taken c.others.taken s.later c.shed rise.1 s.rest in
    let here : Rows file (record { directories = s.first.directory ∷ s.later.directories; taken = s.later.taken }) (row_in file rules dims lesser less (at ∷ blobs)) = record {
      others = record { directories = c.others.directory ∷ d.others.directories; taken = d.others.taken };
      is = then_is (directory_from file rules dims lesser less at) _ c.others c.is
          ∙ ap (λ (x : Directory). row_in file rules dims (x.entries ++ lesser) c.others.taken blobs >>= λ later. Ok (record { directories = c.others.directory ∷ later.directories; taken = later.taken })) c.same
          ∙ then_is (row_in file rules dims (s.first.directory.entries ++ lesser) c.others.taken blobs) _ d.others d.is;
      same = ap (λ (x : Directory). x ∷ d.others.directories) c.same ∙ ap (λ (xs : List Directory). s.first.directory ∷ xs) d.same;
      fewer = d.fewer;
    } in
    subst (λ (r : Row). Rows file r (row_in file rules dims lesser less (at ∷ blobs))) s.is here

-- ---- without the first directory

shed_first : (file more less : List ℕ) (full : List DirEntry) (e : DirEntry) → Shed file more less full [] → MayClaim file more e.pages → Shed file (with_pages e.pages more) less (e ∷ full) []
shed_first file more less full e shed may =
    shed_entry file (with_pages e.pages more) less full [] [] e (shed_more file more less full [] e.pages shed may)
    (record { gone = λ p names. (with_none file e.pages more p names).0; apart = none_of file more less full [] e.pages shed may; own = may_differ file e.pages more may })
    (λ f not_so. refl) (λ f seen. absurd cc)
    (λ f same not_so. subst (λ (x : DirEntry). AreNamed file less x.pages) (sym (same_entry f e same))
    (weaker (λ p. names_page page_size file more p ≡ true) (λ p. names_page page_size file less p ≡ true) shed.fewer e.pages (may_named file e.pages more may)))

payloads_first : (file : List ℕ) (sequence : ℕ) (dims : List Dimension) (named : ℕ) (entries done : List DirEntry) (more less now : List ℕ) → Shed file more less (done ++ []) [] → payloads_in file sequence dims named [] more entries ≡ Ok now
    → Shed file now less (push_all entries done ++ []) []
payloads_first file sequence dims named [] done more less now shed is = let same : more ≡ now = cc in subst (λ (ts : List ℕ). Shed file ts less (done ++ []) []) same shed
payloads_first file sequence dims named (e ∷ entries) done more less now shed is =
    let s = entry_steps file sequence dims named [] more e entries now is in
    let may = claimed_may file named e.pages more s.after s.claims in
    let here : Shed file s.after less (e ∷ (done ++ [])) [] = subst (λ (ts : List ℕ). Shed file ts less (e ∷ (done ++ [])) []) (claimed_is file named e.pages more s.after s.claims) (shed_first file more less (done ++ []) e shed may) in
    payloads_first file sequence dims named entries (e ∷ done) s.after less now here s.rest

shed_none : (file taken : List ℕ) → Shed file taken taken [] []
shed_none file taken = record { fewer = λ p names. names; within = λ f seen. seen; free = λ f seen. absurd cc; gone = λ f seen. absurd cc; apart = λ f g seen. absurd cc; own = λ f seen. absurd cc }

directory_first : (file : List ℕ) (rules : Rules) (dims : List Dimension) (taken : List ℕ) (at : BlobAt) (listed : Listed) → directory_from file rules dims [] taken at ≡ Ok listed → Shed file listed.taken taken (listed.directory.entries ++ []) []
directory_first file rules dims taken at listed is =
    let s = directory_steps file rules dims [] taken at listed is in
    let own : Shed file s.own taken [] [] = subst (λ (ts : List ℕ). Shed file ts taken [] []) (claimed_is file rules.first at.pages taken s.own s.claims) (shed_more file taken taken [] [] at.pages (shed_none file taken) (claimed_may file rules.first at.pages taken s.own s.claims)) in
    let all = payloads_first file rules.sequence dims (slice_index at.pages 0) s.directory.entries [] s.own taken s.all own s.payloads in
    subst (λ (l : Listed). Shed file l.taken taken (l.directory.entries ++ []) []) s.is
    (shed_of file s.all taken (push_all s.directory.entries [] ++ []) [] (s.directory.entries ++ []) [] (λ f seen. pushed s.directory.entries [] [] f ∙ seen) (λ f not_so. refl) (λ f seen. absurd cc) all)

-- what is found of the later ones
pub record Cut (file : List ℕ) (k : ℕ) (row : Row) (step : Result Row ℕ) : Type 0 where
  pub others : Row
  pub is : step ≡ Ok others
  pub same : others.directories ≡ drop k row.directories
  pub fewer : Fewer file row.taken others.taken

drop_none : {A : Type 0} (xs : List A) → drop 0 xs ≡ xs
drop_none [] = refl
drop_none (x ∷ xs) = refl

-- WITHOUT THE FIRST DIRECTORIES the others are found again
pub row_cut : (file : List ℕ) (rules : Rules) (dims : List Dimension) (k : ℕ) (blobs : List BlobAt) (taken : List ℕ) (row : Row) → AllByRecursion (λ d. AreRising d.entries) row.directories → row_in file rules dims [] taken blobs ≡ Ok row
    → Cut file k row (row_in file rules dims [] taken (drop k blobs))
row_cut file rules dims zero blobs taken row rising is =
    record { others = row; is = ap (row_in file rules dims [] taken) (drop_none blobs) ∙ is; same = sym (drop_none row.directories); fewer = λ p names. names }
row_cut file rules dims (suc k) [] taken row rising is =
    let same : record { directories = []; taken = taken } ≡ row = cc in
    subst (λ (r : Row). Cut file (suc k) r (row_in file rules dims [] taken [])) same (record { others = record { directories = []; taken = taken }; is = refl; same = refl; fewer = λ p names. names })
row_cut file rules dims (suc k) (at ∷ blobs) taken row rising is =
    let s = row_steps file rules dims [] taken at blobs row is in
    let rise : AllByRecursion (λ (d : Directory). AreRising d.entries) (s.first.directory ∷ s.later.directories) = subst (λ (r : Row). AllByRecursion (λ d. AreRising d.entries) r.directories) (sym s.is) rising in
    let one = row_shed file rules dims blobs (s.first.directory.entries ++ []) [] s.first.taken taken s.later (directory_first file rules dims taken at s.first s.found) rise.1 s.rest in
    let more : AllByRecursion (λ (d : Directory). AreRising d.entries) one.others.directories = subst (AllByRecursion (λ (d : Directory). AreRising d.entries)) (sym one.same) rise.1 in
    let c = row_cut file rules dims k blobs taken one.others more one.is in
    subst (λ (r : Row). Cut file (suc k) r (row_in file rules dims [] taken (drop k blobs))) s.is
    (record { others = c.others; is = c.is; same = c.same ∙ ap (drop k) one.same; fewer = λ p names. c.fewer p (one.fewer p names) })
