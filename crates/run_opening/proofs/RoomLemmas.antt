-- The streams of sessions are put together.
use Rattle.std.proofs.Common.{◌≡◌, ℕ, suc, ◌+◌, ◌<◌, ◌≤◌, ◌==◌, Bool, true, false, List, [], ◌∷◌, ◌++◌, length, map, take, get_or, remove, slice_get, Some, refl, sym, ◌∙◌, ap, subst, arith, append_assoc, append-nil, length-append}
use Rattle.std.specs.List.{AllByRecursion, AllZip}
use Rattle.std.proofs.lemmas.Bool.Decides.{nat_tests}
use Rattle.std.proofs.lemmas.List.{map-append, take_more}
use Rattle.afl_lexer.specs.Inner.Standing.{Splitting, StandsAfter}
use Rattle.afl_outside.specs.Source.{SourceState}
use Rattle.afl_outside.specs.Sink.{SinkState}
use Rattle.afl_outside.specs.Shelf.{ShelfState}
use Rattle.run_opening.specs.declared.reports.reports.Streams.{Streams}
use Rattle.run_opening.specs.Names.{Word, reply_name}
use Rattle.run_opening.specs.Opened.{AreOpenedFor, IsSinkOf, IsSourceOf}
use Rattle.run_opening.specs.Inner.Rooms.{streams_of}

abbrev pub joined : {S K : Type 0} → S → K → Splitting → Streams S K
joined source sink splitter = record { source = source; sink = sink; splitter = splitter }

-- the first of each of three lists is taken away
pub joins_one : {S K : Type 0} (done more : List (Streams S K)) (xs xs' : List S) (ys ys' : List K) (zs zs' : List Splitting) (x : S) (y : K) (z : Splitting)
    → slice_get xs 0 ≡ Some x → slice_get ys 0 ≡ Some y → slice_get zs 0 ≡ Some z → xs' ≡ remove xs 0 → ys' ≡ remove ys 0 → zs' ≡ remove zs 0
    → more ≡ done ++ joined x y z ∷ [] → more ++ streams_of xs' ys' zs' ≡ done ++ streams_of xs ys zs
joins_one done more [] xs' ys ys' zs zs' x y z first second third fewer less least grown = absurd (cc (first))
joins_one done more (a ∷ xs) xs' [] ys' zs zs' x y z first second third fewer less least grown = absurd (cc (second))
joins_one done more (a ∷ xs) xs' (b ∷ ys) ys' [] zs' x y z first second third fewer less least grown = absurd (cc (third))
joins_one {S} {K} done more (a ∷ xs) xs' (b ∷ ys) ys' (c ∷ zs) zs' x y z first second third fewer less least grown =
    let same_x : a ≡ x = cc (first) in
    let same_y : b ≡ y = cc (second) in
    let same_z : c ≡ z = cc (third) in
    let one : joined x y z ≡ joined a b c =
    ap (λ (s : S). joined s y z) (sym same_x) ∙ ap (λ (k : K). joined a k z) (sym same_y) ∙ ap (λ (t : Splitting). joined a b t) (sym same_z) in
    let rest : streams_of xs' ys' zs' ≡ streams_of xs ys zs =
    ap (λ (l : List S). streams_of l ys' zs') fewer ∙ ap (λ (l : List K). streams_of xs l zs') less ∙ ap (λ (l : List Splitting). streams_of xs ys l) least in
    ap (λ (l : List (Streams S K)). l ++ streams_of xs' ys' zs') (grown ∙ ap (λ (s : Streams S K). done ++ s ∷ []) one)
    ∙ ap (λ (l : List (Streams S K)). (done ++ joined a b c ∷ []) ++ l) rest
    ∙ append_assoc done (joined a b c ∷ []) (streams_of xs ys zs)

-- none is left
pub joins_all : {S K : Type 0} (done whole : List (Streams S K)) (xs : List S) (ys : List K) (zs : List Splitting) → length xs ≡ 0
    → done ++ streams_of xs ys zs ≡ whole → done ≡ whole
joins_all done whole [] ys zs none joined = sym (append-nil done) ∙ joined
joins_all done whole (x ∷ xs) ys zs none joined = absurd (omega (arith, none))

-- what was made for one more is added at the end
pub mapped_more : {A B : Type 0} (f : A → B) (xs : List A) (i : ℕ) (x : A) (y : B) (before after : List B) → i < length xs → x ≡ get_or xs i x → y ≡ f x
    → before ≡ map f (take i xs) → after ≡ before ++ y ∷ [] → after ≡ map f (take (i + 1) xs)
mapped_more f xs i x y before after within is made so_far grown =
    grown ∙ ap (λ l. l ++ y ∷ []) so_far ∙ ap (λ z. map f (take i xs) ++ z ∷ []) (made ∙ ap f is)
    ∙ sym (ap (map f) (take_more xs i x within) ∙ map-append f (take i xs) (get_or xs i x ∷ []))

all_with : {A : Type 0} (P : A → Type 0) (xs : List A) (x : A) → AllByRecursion P xs → P x → AllByRecursion P (xs ++ x ∷ [])
all_with P [] x all this = (this, tt)
all_with P (y ∷ xs) x all this = (all.0, all_with P xs x all.1 this)

pub all_more : {A : Type 0} (P : A → Type 0) (xs ys : List A) (x : A) → ys ≡ xs ++ x ∷ [] → AllByRecursion P xs → P x → AllByRecursion P ys
all_more P xs ys x grown all this = subst (AllByRecursion P) (sym grown) (all_with P xs x all this)

pub count_more : {A : Type 0} (xs ys : List A) (x : A) (n : ℕ) → ys ≡ xs ++ x ∷ [] → length xs ≡ n → length ys ≡ n + 1
count_more xs ys x n grown count = ap length grown ∙ length-append xs (x ∷ []) ∙ ap (λ k. k + 1) count

-- ---- the firsts of lists that are as long are taken away

pub some_left : (len n : ℕ) (empty : Bool) → empty ≡ (len == 0) → empty ≡ false → len ≡ n → 1 ≤ n
some_left len n empty is full same = grind (arith, nat_tests)

pub none_left : (len n : ℕ) (empty : Bool) → empty ≡ (len == 0) → empty ≡ true → len ≡ n → n ≡ 0
none_left len n empty is all same = grind (arith, nat_tests)

pub first_there : {A : Type 0} (xs : List A) (x : A) → 1 ≤ length xs → x ≡ get_or xs 0 x → slice_get xs 0 ≡ Some x
first_there [] x some is = absurd (omega (arith, some))
first_there (y ∷ xs) x some is = ap Some (sym is)

pub still_as_many : {A B : Type 0} (xs xs' : List A) (ys ys' : List B) → xs' ≡ remove xs 0 → ys' ≡ remove ys 0 → 1 ≤ length xs → length ys ≡ length xs
    → length ys' ≡ length xs'
still_as_many [] xs' ys ys' fewer less some same = absurd (omega (arith, some))
still_as_many (x ∷ xs) xs' [] ys' fewer less some same = absurd (omega (arith, same))
still_as_many (x ∷ xs) xs' (y ∷ ys) ys' fewer less some same =
    ap length less ∙ (let n : ℕ = length xs in let m : ℕ = length ys in let g : m ≡ n = omega (arith, same) in g) ∙ sym (ap length fewer)

pub still_room : {A B : Type 0} (done more : List A) (j : A) (xs xs' : List B) (room room' : ℕ) → more ≡ done ++ j ∷ [] → xs' ≡ remove xs 0 → 1 ≤ length xs
    → room' ≡ room → length done + length xs ≤ room → length more + length xs' ≤ room'
still_room done more j [] xs' room room' grown fewer some same fits = absurd (omega (arith, some))
still_room done more j (x ∷ xs) xs' room room' grown fewer some same fits =
    omega (arith, count_more done more j (length done) grown refl, ap length fewer, same, fits)

-- the streams of scripts and their replies
pub opened_for : {S K : Type 0} (source_state : S → SourceState) (sink_state : K → SinkState) (shelf : ShelfState) (scripts : List Word) (sources : List S) (sinks : List K) (splitters : List Splitting)
    → AllZip (IsSourceOf shelf) scripts (map source_state sources) → AllZip (IsSinkOf shelf) (map reply_name scripts) (map sink_state sinks)
    → AllByRecursion (StandsAfter []) splitters → length splitters ≡ length scripts
    → AreOpenedFor source_state sink_state shelf scripts (streams_of sources sinks splitters)
opened_for source_state sink_state shelf [] [] sinks splitters opened held fresh count = tt
opened_for source_state sink_state shelf [] (s ∷ sources) sinks splitters opened held fresh count = absurd opened
opened_for source_state sink_state shelf (n ∷ scripts) [] sinks splitters opened held fresh count = absurd opened
opened_for source_state sink_state shelf (n ∷ scripts) (s ∷ sources) [] splitters opened held fresh count = absurd held
opened_for source_state sink_state shelf (n ∷ scripts) (s ∷ sources) (k ∷ sinks) [] opened held fresh count = absurd (omega (arith, count))
opened_for source_state sink_state shelf (n ∷ scripts) (s ∷ sources) (k ∷ sinks) (p ∷ splitters) opened held fresh count = (
  record { source = opened.0; sink = held.0; splitter = fresh.0 },
  opened_for source_state sink_state shelf scripts sources sinks splitters opened.1 held.1 fresh.1 (omega (arith, count)),
)

-- as many are opened as there are names
pub as_many : {A B S : Type 0} (R : A → B → Type 0) (f : S → B) (xs : List A) (ys : List S) → AllZip R xs (map f ys) → length ys ≡ length xs
as_many R f [] [] all = refl
as_many R f [] (y ∷ ys) all = absurd all
as_many R f (x ∷ xs) [] all = absurd all
as_many R f (x ∷ xs) (y ∷ ys) all = ap (λ n. suc n) (as_many R f xs ys all.1)
