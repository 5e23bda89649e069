-- Pages that differ from one another and from those taken.
use Rattle.std.proofs.Common.{◌≡◌, ◌≢◌, ◌<◌, ℕ, zero, suc, Bool, true, false, cond, List, [], ◌∷◌, ◌++◌, length, slice_index, refl, sym, ◌∙◌, ap, subst, arith}
use Rattle.std.specs.Prelude.{if◌then◌else◌, ◌&&◌, ◌||◌, not, nat_eq, nat_lt, Option, Some, None, Ok, Err}
use Rattle.std.specs.List.{AllByRecursion, list_any}
use Rattle.std.proofs.lemmas.Bool.Decides.{nat_tests}
use Rattle.page_chain.specs.Places.{IsNone}
use Rattle.page_file.specs.Pages.{page_size, has_page, first_past, AreDistinct}
use Rattle.page_file.specs.Chains.{names_page}
use Rattle.page_file.specs.Links.{AreFree}
use Rattle.page_file.proofs.LinkLaws.{unequal}
use Rattle.file_meaning.specs.Opening.{claimed}
use Rattle.file_meaning.proofs.Parts.{claim_parts, each_none}
use Rattle.file_meaning.proofs.More.{Beside}

-- ---- pages that are none of some

pub none_cons : (q : ℕ) (pages : List ℕ) (p : ℕ) → q ≢ p → IsNone pages p → IsNone (q ∷ pages) p
none_cons q pages p apart none zero low = apart
none_cons q pages p apart none (suc k) low = none k (omega arith)

pub none_later : (q : ℕ) (pages : List ℕ) (p : ℕ) → IsNone (q ∷ pages) p → IsNone pages p
none_later q pages p none k low = none (suc k) (omega arith)

pub none_front : (xs ys : List ℕ) (p : ℕ) → IsNone (xs ++ ys) p → IsNone xs p
none_front [] ys p none k low = absurd (omega arith)
none_front (x ∷ xs) ys p none zero low = none 0 (omega arith)
none_front (x ∷ xs) ys p none (suc k) low = none_front xs ys p (none_later x (xs ++ ys) p none) k (omega arith)

pub none_rest : (xs ys : List ℕ) (p : ℕ) → IsNone (xs ++ ys) p → IsNone ys p
none_rest [] ys p none = none
none_rest (x ∷ xs) ys p none = none_rest xs ys p (none_later x (xs ++ ys) p none)

pub none_both : (xs ys : List ℕ) (p : ℕ) → IsNone xs p → IsNone ys p → IsNone (xs ++ ys) p
none_both [] ys p a b k low = b k low
none_both (x ∷ xs) ys p a b zero low = a 0 (omega arith)
none_both (x ∷ xs) ys p a b (suc k) low = none_both xs ys p (none_later x xs p a) b k (omega arith)

-- where none of the one list is in the other, none of the other is in the one
pub turned : (xs ys : List ℕ) → ((k : ℕ) → k < length xs → IsNone ys (slice_index xs k)) → AllByRecursion (IsNone xs) ys
turned xs [] apart = tt
turned xs (y ∷ ys) apart = (λ k low same. apart k low 0 (omega arith) (sym same), turned xs ys (λ k low. none_later y ys (slice_index xs k) (apart k low)))

pub crossed : (xs ys : List ℕ) → AllByRecursion (IsNone xs) ys → AllByRecursion (IsNone ys) xs
crossed xs ys all = turned ys xs (each_none xs ys all)

pub has_none : (pages : List ℕ) (p : ℕ) → IsNone pages p → list_any (λ page. nat_eq page p) pages ≡ false
has_none [] p none = refl
has_none (q ∷ pages) p none = ap (λ (b : Bool). b || list_any (λ page. nat_eq page p) pages) (unequal q p (none 0 (omega arith))) ∙ has_none pages p (none_later q pages p none)

pub weaker : {A : Type 0} (P Q : A → Type 0) → ((x : A) → P x → Q x) → (xs : List A) → AllByRecursion P xs → AllByRecursion Q xs
weaker P Q go [] all = tt
weaker P Q go (x ∷ xs) all = (go x all.0, weaker P Q go xs all.1)

pub pair_all : {A : Type 0} (P Q : A → Type 0) (xs : List A) → AllByRecursion P xs → AllByRecursion Q xs → AllByRecursion (λ x. P x × Q x) xs
pair_all P Q [] p q = tt
pair_all P Q (x ∷ xs) p q = ((p.0, q.0), pair_all P Q xs p.1 q.1)

-- ---- what a link may name

pub names_more : (file taken : List ℕ) (p q : ℕ) → p ≢ q → names_page page_size file taken q ≡ true → names_page page_size file (p ∷ taken) q ≡ true
names_more file taken p q apart names =
    ap (λ (b : Bool). nat_lt 0 q && has_page page_size file q && not (b || list_any (λ page. nat_eq page q) taken)) (unequal p q apart) ∙ names

fewer : (x b rest : Bool) → (x && not (b || rest)) ≡ true → ((x && not rest) ≡ true) × (b ≡ false)
fewer true true rest is = absurd cc
fewer true false rest is = (is, refl)
fewer false b rest is = absurd cc

pub names_fewer : (file taken : List ℕ) (p q : ℕ) → names_page page_size file (p ∷ taken) q ≡ true → names_page page_size file taken q ≡ true
names_fewer file taken p q names = (fewer (nat_lt 0 q && has_page page_size file q) (nat_eq p q) (list_any (λ page. nat_eq page q) taken) names).0

pub names_other : (file taken : List ℕ) (p q : ℕ) → names_page page_size file (p ∷ taken) q ≡ true → p ≢ q
names_other file taken p q names same =
    let no : nat_eq p q ≡ false = (fewer (nat_lt 0 q && has_page page_size file q) (nat_eq p q) (list_any (λ page. nat_eq page q) taken) names).1 in
    let is : nat_eq p q ≡ true = grind (arith, nat_tests) in
    absurd (cc (no, is))

pub names_rest : (file extra taken : List ℕ) (q : ℕ) → names_page page_size file (extra ++ taken) q ≡ true → names_page page_size file taken q ≡ true
names_rest file [] taken q names = names
names_rest file (p ∷ extra) taken q names = names_rest file extra taken q (names_fewer file (extra ++ taken) p q names)

pub names_none : (file taken : List ℕ) (q : ℕ) → names_page page_size file taken q ≡ true → names_page page_size file [] q ≡ true
names_none file [] q names = names
names_none file (p ∷ taken) q names = names_none file taken q (names_fewer file taken p q names)

-- what is beside some pages is beside the first one alone
pub names_first : (file : List ℕ) (p : ℕ) (others : List ℕ) (q : ℕ) → names_page page_size file (p ∷ others) q ≡ true → names_page page_size file (p ∷ []) q ≡ true
names_first file p others q names = names_more file [] p q (names_other file others p q names) (names_none file (p ∷ others) q names)

pub by_index : (P : ℕ → Type 0) (pages : List ℕ) → ((k : ℕ) → k < length pages → P (slice_index pages k)) → AllByRecursion P pages
by_index P [] each = tt
by_index P (p ∷ pages) each = (each 0 (omega arith), by_index P pages (λ k low. each (suc k) (omega arith)))

first : (x y z : Bool) → (x && y && z) ≡ true → (x ≡ true) × (y ≡ true)
first true true z is = (refl, refl)
first true false z is = absurd cc
first false y z is = absurd cc

pub names_has : (file taken : List ℕ) (q : ℕ) → names_page page_size file taken q ≡ true → has_page page_size file q ≡ true
names_has file taken q names = (first (nat_lt 0 q) (has_page page_size file q) (not (list_any (λ page. nat_eq page q) taken)) names).1

pub names_positive : (file taken : List ℕ) (q : ℕ) → names_page page_size file taken q ≡ true → 0 < q
names_positive file taken q names =
    let some : nat_lt 0 q ≡ true = (first (nat_lt 0 q) (has_page page_size file q) (not (list_any (λ page. nat_eq page q) taken)) names).0 in
    grind (arith, nat_tests)

pub names_by : (file taken : List ℕ) (q : ℕ) → 0 < q → has_page page_size file q ≡ true → list_any (λ page. nat_eq page q) taken ≡ false → names_page page_size file taken q ≡ true
names_by file taken q some has none =
    let least : nat_lt 0 q ≡ true = grind (arith, nat_tests) in
    ap (λ (b : Bool). b && has_page page_size file q && not (list_any (λ page. nat_eq page q) taken)) least
    ∙ ap (λ (b : Bool). true && b && not (list_any (λ page. nat_eq page q) taken)) has ∙ ap (λ (b : Bool). true && true && not b) none

pub names_with : (file extra taken : List ℕ) (q : ℕ) → IsNone extra q → names_page page_size file taken q ≡ true → names_page page_size file (extra ++ taken) q ≡ true
names_with file [] taken q none names = names
names_with file (p ∷ extra) taken q none names = names_more file (extra ++ taken) p q (none 0 (omega arith)) (names_with file extra taken q (none_later p extra q none) names)

-- ---- pages that are claimed one after the other

abbrev pub AreNamed : List ℕ → List ℕ → List ℕ → Type 0
AreNamed file taken pages = AllByRecursion (λ p. names_page page_size file taken p ≡ true) pages

abbrev pub with_pages : List ℕ → List ℕ → List ℕ
with_pages [] taken = taken
with_pages (p ∷ pages) taken = with_pages pages (p ∷ taken)

abbrev pub MayClaim : List ℕ → List ℕ → List ℕ → Type 0
MayClaim file taken [] = Unit {0}
MayClaim file taken (p ∷ pages) = (names_page page_size file taken p ≡ true) × MayClaim file (p ∷ taken) pages

pub claims : (file : List ℕ) (named : ℕ) (pages taken : List ℕ) → MayClaim file taken pages → claimed file named taken pages ≡ Ok (with_pages pages taken)
claims file named [] taken may = refl
claims file named (p ∷ pages) taken may = ap (λ (b : Bool). if b then claimed file named (p ∷ taken) pages else Err named) may.0 ∙ claims file named pages (p ∷ taken) may.1

pub first_claims : (file xs ys taken : List ℕ) → MayClaim file taken (xs ++ ys) → MayClaim file taken xs
first_claims file [] ys taken may = tt
first_claims file (x ∷ xs) ys taken may = (may.0, first_claims file xs ys (x ∷ taken) may.1)

pub later_claims : (file xs ys taken : List ℕ) → MayClaim file taken (xs ++ ys) → MayClaim file (with_pages xs taken) ys
later_claims file [] ys taken may = may
later_claims file (x ∷ xs) ys taken may = later_claims file xs ys (x ∷ taken) may.1

pub with_both : (xs ys taken : List ℕ) → with_pages (xs ++ ys) taken ≡ with_pages ys (with_pages xs taken)
with_both [] ys taken = refl
with_both (x ∷ xs) ys taken = with_both xs ys (x ∷ taken)

-- each differs from all behind it
abbrev pub Differ : List ℕ → Type 0
Differ [] = Unit {0}
Differ (p ∷ pages) = AllByRecursion (λ q. p ≢ q) pages × Differ pages

pub differ_by : (pages : List ℕ) → AreDistinct pages → Differ pages
differ_by [] distinct = tt
differ_by (p ∷ pages) distinct = (
  by_index (λ q. p ≢ q) pages (λ k low. distinct 0 (suc k) (omega arith) (omega arith)),
  differ_by pages (λ i j less low. distinct (suc i) (suc j) (omega arith) (omega arith)),
)

named_more : (file taken : List ℕ) (p : ℕ) (pages : List ℕ) → AreNamed file taken pages → AllByRecursion (λ q. p ≢ q) pages → AreNamed file (p ∷ taken) pages
named_more file taken p [] named apart = tt
named_more file taken p (q ∷ pages) named apart = (names_more file taken p q apart.0 named.0, named_more file taken p pages named.1 apart.1)

pub may_claim : (file pages taken : List ℕ) → AreNamed file taken pages → Differ pages → MayClaim file taken pages
may_claim file [] taken named differ = tt
may_claim file (p ∷ pages) taken named differ = (named.0, may_claim file pages (p ∷ taken) (named_more file taken p pages named.1 differ.0) differ.1)

-- what was claimed could be
pub claimed_may : (file : List ℕ) (named : ℕ) (pages taken now : List ℕ) → claimed file named taken pages ≡ Ok now → MayClaim file taken pages
claimed_may file named [] taken now is = tt
claimed_may file named (p ∷ pages) taken now is = let e = claim_parts file named taken pages now p is in (e.0, claimed_may file named pages (p ∷ taken) now e.1)

pub claimed_is : (file : List ℕ) (named : ℕ) (pages taken now : List ℕ) → claimed file named taken pages ≡ Ok now → with_pages pages taken ≡ now
claimed_is file named [] taken now is = let same : taken ≡ now = cc in same
claimed_is file named (p ∷ pages) taken now is = claimed_is file named pages (p ∷ taken) now (claim_parts file named taken pages now p is).1

named_fewer : (file taken : List ℕ) (p : ℕ) (pages : List ℕ) → AreNamed file (p ∷ taken) pages → AreNamed file taken pages
named_fewer file taken p pages named = weaker (λ q. names_page page_size file (p ∷ taken) q ≡ true) (λ q. names_page page_size file taken q ≡ true) (λ q names. names_fewer file taken p q names) pages named

pub may_named : (file pages taken : List ℕ) → MayClaim file taken pages → AreNamed file taken pages
may_named file [] taken may = tt
may_named file (p ∷ pages) taken may = (may.0, named_fewer file taken p pages (may_named file pages (p ∷ taken) may.1))

pub may_differ : (file pages taken : List ℕ) → MayClaim file taken pages → Differ pages
may_differ file [] taken may = tt
may_differ file (p ∷ pages) taken may = (
  weaker (λ q. names_page page_size file (p ∷ taken) q ≡ true) (λ q. p ≢ q) (λ q names. names_other file taken p q names) pages (may_named file pages (p ∷ taken) may.1),
  may_differ file pages (p ∷ taken) may.1,
)

-- ---- free pages of two lists, one behind the other

pub index_front : (xs ys : List ℕ) (k : ℕ) → k < length xs → slice_index (xs ++ ys) k ≡ slice_index xs k
index_front [] ys k low = absurd (omega arith)
index_front (x ∷ xs) ys zero low = refl
index_front (x ∷ xs) ys (suc k) low = index_front xs ys k (omega arith)

longer : (xs ys : List ℕ) (k : ℕ) → k < length xs → k < length (xs ++ ys)
longer [] ys k low = absurd (omega arith)
longer (x ∷ xs) ys zero low = omega arith
longer (x ∷ xs) ys (suc k) low = let more : k < length (xs ++ ys) = longer xs ys k (omega arith) in omega (arith, more)

pub free_front : (taken less xs ys : List ℕ) → ((p : ℕ) → IsNone taken p → IsNone less p) → AreFree taken (xs ++ ys) → AreFree less xs
free_front taken less xs ys fewer_taken free = record {
  least = λ k low. subst (λ (p : ℕ). 0 < p) (index_front xs ys k low) (free.least k (longer xs ys k low));
  most = λ k low. subst (λ (p : ℕ). p < 4294967296) (index_front xs ys k low) (free.most k (longer xs ys k low));
  apart = λ k low. fewer_taken (slice_index xs k) (subst (λ (p : ℕ). IsNone taken p) (index_front xs ys k low) (free.apart k (longer xs ys k low)));
  distinct = λ i j less low same. free.distinct i j less (longer xs ys j low) (index_front xs ys i (omega (arith, less, low)) ∙ same ∙ sym (index_front xs ys j low));
}

pub free_rest : (taken xs ys : List ℕ) → AreFree taken (xs ++ ys) → AreFree taken ys
free_rest taken [] ys free = free
free_rest taken (x ∷ xs) ys free = free_rest taken xs ys (record {
  least = λ k low. free.least (suc k) (omega arith);
  most = λ k low. free.most (suc k) (omega arith);
  apart = λ k low. free.apart (suc k) (omega arith);
  distinct = λ i j less low. free.distinct (suc i) (suc j) (omega arith) (omega arith);
})

first_apart : (x : ℕ) (xs ys : List ℕ) → ((k : ℕ) → k < length (xs ++ ys) → x ≢ slice_index (xs ++ ys) k) → (j : ℕ) → j < length ys → x ≢ slice_index ys j
first_apart x [] ys apart j low = apart j low
first_apart x (z ∷ xs) ys apart j low = first_apart x xs ys (λ k less. apart (suc k) (omega arith)) j low

-- those behind are none of those in front
pub distinct_cross : (xs ys : List ℕ) → AreDistinct (xs ++ ys) → (j : ℕ) → j < length ys → IsNone xs (slice_index ys j)
distinct_cross [] ys distinct j low k less = absurd (omega arith)
distinct_cross (x ∷ xs) ys distinct j low zero less = first_apart x xs ys (λ k short. distinct 0 (suc k) (omega arith) (omega arith)) j low
distinct_cross (x ∷ xs) ys distinct j low (suc k) less = distinct_cross xs ys (λ a b more short. distinct (suc a) (suc b) (omega arith) (omega arith)) j low k (omega arith)

-- ---- what holds beside pages

pub beside_pages : (file pages taken : List ℕ) → Beside pages file taken (with_pages pages taken)
beside_pages file [] taken p none names = names
beside_pages file (q ∷ pages) taken p none names = beside_pages file pages (q ∷ taken) p (none_later q pages p none) (names_more file taken q p (none 0 (omega arith)) names)

pub named_beside : (file pages taken now new : List ℕ) → Beside pages file taken now → AllByRecursion (IsNone pages) new → AreNamed file taken new → AreNamed file now new
named_beside file pages taken now [] beside apart named = tt
named_beside file pages taken now (p ∷ new) beside apart named = (beside p apart.0 named.0, named_beside file pages taken now new beside apart.1 named.1)

-- what may be named behind some pages is none of them, and could be named before
pub with_none : (file pages taken : List ℕ) (p : ℕ) → names_page page_size file (with_pages pages taken) p ≡ true → IsNone pages p × (names_page page_size file taken p ≡ true)
with_none file [] taken p names = (λ k low. absurd (omega arith), names)
with_none file (q ∷ pages) taken p names =
    let e = with_none file pages (q ∷ taken) p names in
    (none_both (q ∷ []) pages p (one (names_other file taken q p e.1)) e.0, names_fewer file taken q p e.1)
  where
    one : q ≢ p → IsNone (q ∷ []) p
    one apart zero low = apart
    one apart (suc k) low = absurd (omega arith)

passes : (b : Bool) (p : ℕ) (rest : Option ℕ) → cond (not b) (Some p) rest ≡ None → (b ≡ true) × (rest ≡ None)
passes true p rest is = (refl, is)
passes false p rest is = absurd cc

-- pages none of which passes the end are there
pub all_there : (file pages : List ℕ) → first_past page_size file pages ≡ None → AllByRecursion (λ p. has_page page_size file p ≡ true) pages
all_there file [] none = tt
all_there file (p ∷ pages) none = let e = passes (has_page page_size file p) p (first_past page_size file pages) none in (e.0, all_there file pages e.1)

-- free pages that are there may be named beside what is taken
pub free_named : (file taken base pages : List ℕ) → ((p : ℕ) → IsNone base p → list_any (λ page. nat_eq page p) taken ≡ false) → AreFree base pages → AllByRecursion (λ p. has_page page_size file p ≡ true) pages → AreNamed file taken pages
free_named file taken base [] none free there = tt
free_named file taken base (p ∷ pages) none free there = (
  names_by file taken p (free.least 0 (omega arith)) there.0 (none p (free.apart 0 (omega arith))),
  free_named file taken base pages none (free_rest base (p ∷ []) pages free) there.1,
)
