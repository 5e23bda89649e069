-- What is read is spelled so, and what is spelled so is read: kept by each way to put readings together.
use Rattle.std.proofs.Common.{◌≡◌, ℕ, zero, suc, ◌^◌, ◌<◌, ◌≤◌, Bool, true, false, cond, ltb, eqb, List, [], ◌∷◌, ◌++◌, length, get_or, take, drop, Result, Ok, Err, refl, sym, ap, subst, ◌∙◌, append_assoc, arith}
use Rattle.std.specs.Int.{Width, w16, w32, w64, byte_len, from_le_bytes, to_le_bytes}
use Rattle.std.specs.List.{flat_map}
use Rattle.std.proofs.lemmas.Bool.{ltb-false, le-ltb, eqb-true}
use Rattle.std.proofs.lemmas.List.{take_at, drop_at, take-append-drop, length-append, length-take, append-nil, nil_from_length}
use Rattle.std.proofs.lemmas.List.Concat.{flat_map-cons}
use Rattle.std.proofs.lemmas.Nat.{le_bytes_2, le_bytes_4, le_bytes_8, from_le_bytes-to_le_bytes_2, from_le_bytes-to_le_bytes_4, from_le_bytes-to_le_bytes_8}
use Rattle.file_items.specs.Items.{◌>>=◌, Reading, number_at, bytes_at, item, at_start, one_item, repeat, counted, spell_counted, Are, AreCounted, whole}

abbrev pub AreBytes : List ℕ → Type 0
AreBytes bytes = (i : ℕ) → get_or bytes i 0 < 256

later_bytes : (b : ℕ) (bytes : List ℕ) → AreBytes (b ∷ bytes) → AreBytes bytes
later_bytes b bytes small i = small (suc i)

-- both parts of bytes are bytes
text_bytes : (text rest : List ℕ) → AreBytes (text ++ rest) → AreBytes text
text_bytes [] rest small i = omega arith
text_bytes (b ∷ text) rest small zero = small zero
text_bytes (b ∷ text) rest small (suc i) = text_bytes text rest (later_bytes b (text ++ rest) small) i

rest_bytes : (text rest : List ℕ) → AreBytes (text ++ rest) → AreBytes rest
rest_bytes [] rest small = small
rest_bytes (b ∷ text) rest small = rest_bytes text rest (later_bytes b (text ++ rest) small)

-- the value of a step after which reading went on
pub bind_ok : {A B : Type 0} (step : Result A ℕ) (more : A → Result B ℕ) (y : B) → (step >>= more) ≡ Ok y → (x : A) × (step ≡ Ok x) × (more x ≡ Ok y)
bind_ok (Ok x) more y e = (x, refl, e)
bind_ok (Err left) more y e = absurd cc

-- a test that was passed
pub test_ok : {A : Type 0} (b : Bool) (left : ℕ) (x y : A) → cond b (Ok x) (Err left) ≡ Ok y → (b ≡ true) × (x ≡ y)
test_ok true left x y e = (refl, cc)
test_ok false left x y e = absurd cc

abbrev done : {A : Type 0} → A → Result A ℕ
done x = Ok x

pub ok_is : {A : Type 0} (x y : A) → done x ≡ done y → x ≡ y
ok_is x y e = cc

-- a text stands in front, and bytes follow it
pub record Begins (bytes text rest : List ℕ) : Type 0 where
  pub joined : bytes ≡ text ++ rest
  pub after : AreBytes rest

pub two_begin : (bytes text middle text' rest : List ℕ) → Begins bytes text middle → Begins middle text' rest → Begins bytes (text ++ text') rest
two_begin bytes text middle text' rest first second =
    let all : bytes ≡ text ++ (text' ++ rest) = subst (λ (m : List ℕ). bytes ≡ text ++ m) second.joined first.joined in
    record { joined = rw append_assoc all; after = second.after }

-- the two laws of a reading
pub record Reads {A : Type 0} (reads : Reading A) (spell : A → List ℕ) (Good : A → Type 0) : Type 0 where
  pub takes : (bytes : List ℕ) (x : A) (rest : List ℕ) → AreBytes bytes → reads bytes ≡ Ok (x, rest) → Begins bytes (spell x) rest × Good x
  pub again : (x : A) (rest : List ℕ) → Good x → reads (spell x ++ rest) ≡ Ok (x, rest)

-- ---- so many bytes

abbrev read_two : {A : Type 0} → A → List ℕ → Result (A × List ℕ) ℕ
read_two x rest = Ok (x, rest)

-- where there are bytes enough, what was read is the two parts
parts_are : {A : Type 0} (b : Bool) (left : ℕ) (x : A) (rest : List ℕ) (y : A) (rest' : List ℕ) → cond b (Err left) (read_two x rest) ≡ read_two y rest' → (b ≡ false) × (x ≡ y) × (rest ≡ rest')
parts_are true left x rest y rest' e = absurd cc
parts_are {A = A} false left x rest y rest' e =
    let first : A × List ℕ = (x, rest) in
    let second : A × List ℕ = (y, rest') in
    let same : first ≡ second = ok_is first second e in
    (refl, ap (λ (p : A × List ℕ). p.0) same, ap (λ (p : A × List ℕ). p.1) same)

cut_there : (n : ℕ) (bytes : List ℕ) → ltb (length bytes) n ≡ false → length (take n bytes) ≡ n
cut_there n bytes long = let le : n ≤ length bytes = ltb-false _ _ long in omega (arith, length-take n bytes)

cut_begins : (n : ℕ) (bytes rest : List ℕ) → AreBytes bytes → drop n bytes ≡ rest → Begins bytes (take n bytes) rest
cut_begins n bytes rest small e =
    let whole : bytes ≡ take n bytes ++ drop n bytes = sym (take-append-drop n bytes) in
    record { joined = whole ∙ ap (λ (r : List ℕ). take n bytes ++ r) e; after = subst AreBytes e (rest_bytes (take n bytes) (drop n bytes) (subst AreBytes whole small)) }

cut_bytes : (n : ℕ) (bytes : List ℕ) → AreBytes bytes → AreBytes (take n bytes)
cut_bytes n bytes small = text_bytes (take n bytes) (drop n bytes) (subst AreBytes (sym (take-append-drop n bytes)) small)

long_enough : (n : ℕ) (text rest : List ℕ) → length text ≡ n → ltb (length (text ++ rest)) n ≡ false
long_enough n text rest len = le-ltb _ _ (omega (arith, len, length-append text rest))

pub bytes_reads : (n : ℕ) → Reads (bytes_at n) (λ text. text) (λ text. (length text ≡ n) × AreBytes text)
bytes_reads n = record {
  takes = λ bytes text rest small e.
      let p = parts_are (ltb (length bytes) n) (length bytes) (take n bytes) (drop n bytes) text rest e in
      (rw (← p.1) (cut_begins n bytes rest small p.2), (rw (← p.1) (cut_there n bytes p.0), subst AreBytes p.1 (cut_bytes n bytes small)));
  again = λ text rest good. let len = good.0 in rw (long_enough n text rest len, take_at text rest n len, drop_at text rest n len) refl;
}

-- ---- numbers

-- a width's numbers and their bytes are one another's
pub record IsExact (w : Width) (limit : ℕ) : Type 0 where
  pub size : (n : ℕ) → length (to_le_bytes w n) ≡ byte_len w
  pub bytes_back : (bytes : List ℕ) → length bytes ≡ byte_len w → AreBytes bytes → to_le_bytes w (from_le_bytes w bytes) ≡ bytes
  pub number_back : (n : ℕ) → n < limit → from_le_bytes w (to_le_bytes w n) ≡ n
  pub bound : (bytes : List ℕ) → AreBytes bytes → from_le_bytes w bytes < limit

pub exact16 : IsExact w16 (2 ^ 16)
exact16 = record {
  size = λ n. refl;
  bytes_back = λ bytes len small. le_bytes_2 bytes _ len small refl;
  number_back = from_le_bytes-to_le_bytes_2;
  bound = λ bytes small. omega (arith, small 0, small 1);
}

pub exact32 : IsExact w32 (2 ^ 32)
exact32 = record {
  size = λ n. refl;
  bytes_back = λ bytes len small. le_bytes_4 bytes _ len small refl;
  number_back = from_le_bytes-to_le_bytes_4;
  bound = λ bytes small. omega (arith, small 0, small 1, small 2, small 3);
}

pub exact64 : IsExact w64 (2 ^ 64)
exact64 = record {
  size = λ n. refl;
  bytes_back = λ bytes len small. le_bytes_8 bytes _ len small refl;
  number_back = from_le_bytes-to_le_bytes_8;
  bound = λ bytes small. omega (arith, small 0, small 1, small 2, small 3, small 4, small 5, small 6, small 7);
}

pub number_reads : (w : Width) (limit : ℕ) → IsExact w limit → Reads (number_at w) (to_le_bytes w) (λ n. n < limit)
number_reads w limit exact = record {
  takes = λ bytes n rest small e.
      let p = parts_are (ltb (length bytes) (byte_len w)) (length bytes) (from_le_bytes w (take (byte_len w) bytes)) (drop (byte_len w) bytes) n rest e in
      let cut = cut_bytes (byte_len w) bytes small in
      let spelled : to_le_bytes w n ≡ take (byte_len w) bytes = ap (to_le_bytes w) (sym p.1) ∙ exact.bytes_back (take (byte_len w) bytes) (cut_there (byte_len w) bytes p.0) cut in
      (rw spelled (cut_begins (byte_len w) bytes rest small p.2), subst (λ (k : ℕ). k < limit) p.1 (exact.bound (take (byte_len w) bytes) cut));
  again = λ n rest lt.
      let len = exact.size n in
      rw (long_enough (byte_len w) (to_le_bytes w n) rest len, take_at (to_le_bytes w n) rest (byte_len w) len, drop_at (to_le_bytes w n) rest (byte_len w) len, exact.number_back n lt) refl;
}

-- ---- an item with its test, several fields that are one item

pub item_reads : {A : Type 0} (reads : Reading A) (spell : A → List ℕ) (Good : A → Type 0) (test : A → Bool) → Reads reads spell Good → Reads (item reads test) spell (λ x. Good x × (test x ≡ true))
item_reads {A = A} reads spell Good test laws = record {
  takes = λ bytes x rest fits e.
      let a = bind_ok (reads bytes) (λ y. cond (test y.0) (Ok y) (Err (length bytes))) (x, rest) e in
      let g = test_ok (test a.0.0) (length bytes) a.0 (x, rest) a.2 in
      let read = laws.takes bytes x rest fits (a.1 ∙ ap (λ (y : A × List ℕ). Ok y) g.1) in
      (read.0, (read.1, ap (λ (y : A × List ℕ). test y.0) (sym g.1) ∙ g.0));
  again = λ x rest good. rw (laws.again x rest good.0, good.1) refl;
}

at_start_ok : {A : Type 0} (left : ℕ) (r : Result A ℕ) (x : A) → at_start left r ≡ Ok x → r ≡ Ok x
at_start_ok left (Ok y) x e = e
at_start_ok left (Err inside) x e = absurd cc

pub one_item_reads : {A : Type 0} (reads : Reading A) (spell : A → List ℕ) (Good : A → Type 0) → Reads reads spell Good → Reads (one_item reads) spell Good
one_item_reads reads spell Good laws = record {
  takes = λ bytes x rest fits e. laws.takes bytes x rest fits (at_start_ok (length bytes) (reads bytes) (x, rest) e);
  again = λ x rest good. rw (laws.again x rest good) refl;
}

-- ---- one after the other

then_takes : {A B C : Type 0} (spell : A → List ℕ) (Good : A → Type 0) (spell' : A → B → List ℕ) (Good' : A → B → Type 0)
    (make : A → B → C) (fst : C → A) (snd : C → B) → ((a : A) (b : B) → fst (make a b) ≡ a) → ((a : A) (b : B) → snd (make a b) ≡ b)
    → (bytes : List ℕ) (a : A) (b : B) (after : List ℕ) (c : C) (rest : List ℕ) → done {A = C × List ℕ} (make a b, after) ≡ done {A = C × List ℕ} (c, rest)
    → Begins bytes (spell a ++ spell' a b) after → Good a → Good' a b → Begins bytes (spell (fst c) ++ spell' (fst c) (snd c)) rest × (Good (fst c) × Good' (fst c) (snd c))
then_takes {C = C} spell Good spell' Good' make fst snd fst_is snd_is bytes a b after c rest e takes good good' =
    let made : C × List ℕ = (make a b, after) in
    subst (λ (p : C × List ℕ). Begins bytes (spell (fst p.0) ++ spell' (fst p.0) (snd p.0)) p.1 × (Good (fst p.0) × Good' (fst p.0) (snd p.0))) (ok_is made (c, rest) e) (rw (fst_is a b, snd_is a b) (takes, (good, good')))

pub then_reads : {A B C : Type 0} (reads : Reading A) (spell : A → List ℕ) (Good : A → Type 0) (reads' : A → Reading B) (spell' : A → B → List ℕ) (Good' : A → B → Type 0)
    (make : A → B → C) (fst : C → A) (snd : C → B) → ((a : A) (b : B) → fst (make a b) ≡ a) → ((a : A) (b : B) → snd (make a b) ≡ b) → ((c : C) → make (fst c) (snd c) ≡ c)
    → Reads reads spell Good → ((a : A) → Good a → Reads (reads' a) (spell' a) (Good' a))
    → Reads (λ bytes. reads bytes >>= λ a. reads' a.0 a.1 >>= λ b. Ok (make a.0 b.0, b.1)) (λ c. spell (fst c) ++ spell' (fst c) (snd c)) (λ c. Good (fst c) × Good' (fst c) (snd c))
then_reads {C = C} reads spell Good reads' spell' Good' make fst snd fst_is snd_is made laws laws' = record {
  takes = λ bytes c rest fits e.
      let a = bind_ok (reads bytes) (λ a. reads' a.0 a.1 >>= λ b. Ok (make a.0 b.0, b.1)) (c, rest) e in
      let b = bind_ok (reads' a.0.0 a.0.1) (λ b. Ok (make a.0.0 b.0, b.1)) (c, rest) a.2 in
      let t = laws.takes bytes a.0.0 a.0.1 fits a.1 in
      let t' = (laws' a.0.0 t.1).takes a.0.1 b.0.0 b.0.1 t.0.after b.1 in
      then_takes spell Good spell' Good' make fst snd fst_is snd_is bytes a.0.0 b.0.0 b.0.1 c rest b.2 (two_begin bytes (spell a.0.0) a.0.1 (spell' a.0.0 b.0.0) b.0.1 t.0 t'.0) t.1 t'.1;
  again = λ c rest good.
      rw (append_assoc, laws.again (fst c) (spell' (fst c) (snd c) ++ rest) good.0, (laws' (fst c) good.0).again (snd c) rest good.1, made c) refl;
}

-- ---- the value seen otherwise

seen_takes : {A C : Type 0} (spell : A → List ℕ) (Good : A → Type 0) (make : A → C) (back : C → A) → ((a : A) → back (make a) ≡ a)
    → (bytes : List ℕ) (a : A) (after : List ℕ) (c : C) (rest : List ℕ) → done {A = C × List ℕ} (make a, after) ≡ done {A = C × List ℕ} (c, rest)
    → Begins bytes (spell a) after → Good a → Begins bytes (spell (back c)) rest × Good (back c)
seen_takes {C = C} spell Good make back back_is bytes a after c rest e takes good =
    let made : C × List ℕ = (make a, after) in
    subst (λ (p : C × List ℕ). Begins bytes (spell (back p.0)) p.1 × Good (back p.0)) (ok_is made (c, rest) e) (rw (back_is a) (takes, good))

pub seen_reads : {A C : Type 0} (reads : Reading A) (spell : A → List ℕ) (Good : A → Type 0) (make : A → C) (back : C → A) → ((a : A) → back (make a) ≡ a) → ((c : C) → make (back c) ≡ c)
    → Reads reads spell Good → Reads (λ bytes. reads bytes >>= λ a. Ok (make a.0, a.1)) (λ c. spell (back c)) (λ c. Good (back c))
seen_reads {C = C} reads spell Good make back back_is made laws = record {
  takes = λ bytes c rest fits e.
      let a = bind_ok (reads bytes) (λ a. Ok (make a.0, a.1)) (c, rest) e in
      let t = laws.takes bytes a.0.0 a.0.1 fits a.1 in
      seen_takes spell Good make back back_is bytes a.0.0 a.0.1 c rest a.2 t.0 t.1;
  again = λ c rest good. rw (laws.again (back c) rest good, made c) refl;
}

-- ---- many of a kind

repeat_takes : {S A : Type 0} (one : S → ℕ → Reading A) (next : S → A → S) (spell : A → List ℕ) (Good : S → ℕ → A → Type 0) (laws : (so_far : S) (n : ℕ) → Reads (one so_far n) spell (Good so_far n))
    (n : ℕ) (so_far : S) (bytes : List ℕ) (xs : List A) (rest : List ℕ) → AreBytes bytes → repeat one next n so_far bytes ≡ Ok (xs, rest) → Begins bytes (flat_map spell xs) rest × Are Good next n so_far xs
unfolding repeat Are
repeat_takes {A = A} one next spell Good laws zero so_far bytes xs rest fits e =
    subst (λ (y : List A × List ℕ). Begins bytes (flat_map spell y.0) y.1 × Are Good next 0 so_far y.0) (ok_is ([], bytes) (xs, rest) e) (record { joined = refl; after = fits }, tt)
repeat_takes {A = A} one next spell Good laws (suc n) so_far bytes xs rest fits e =
    let a = bind_ok (one so_far n bytes) (λ first. repeat one next n (next so_far first.0) first.1 >>= λ others. Ok (first.0 ∷ others.0, others.1)) (xs, rest) e in
    let b = bind_ok (repeat one next n (next so_far a.0.0) a.0.1) (λ others. Ok (a.0.0 ∷ others.0, others.1)) (xs, rest) a.2 in
    let t = (laws so_far n).takes bytes a.0.0 a.0.1 fits a.1 in
    let t' = repeat_takes one next spell Good laws n (next so_far a.0.0) a.0.1 b.0.0 b.0.1 t.0.after b.1 in
    let both = two_begin bytes (spell a.0.0) a.0.1 (flat_map spell b.0.0) b.0.1 t.0 t'.0 in
    let made : List A × List ℕ = (a.0.0 ∷ b.0.0, b.0.1) in
    subst (λ (y : List A × List ℕ). Begins bytes (flat_map spell y.0) y.1 × Are Good next (suc n) so_far y.0) (ok_is made (xs, rest) b.2) (rw flat_map-cons both, (t.1, t'.1))

repeat_again : {S A : Type 0} (one : S → ℕ → Reading A) (next : S → A → S) (spell : A → List ℕ) (Good : S → ℕ → A → Type 0) (laws : (so_far : S) (n : ℕ) → Reads (one so_far n) spell (Good so_far n))
    (n : ℕ) (so_far : S) (xs : List A) (rest : List ℕ) → Are Good next n so_far xs → repeat one next n so_far (flat_map spell xs ++ rest) ≡ Ok (xs, rest)
unfolding repeat Are
repeat_again one next spell Good laws zero so_far [] rest good = refl
repeat_again one next spell Good laws zero so_far (x ∷ xs) rest good = absurd good
repeat_again one next spell Good laws (suc n) so_far [] rest good = absurd good
repeat_again one next spell Good laws (suc n) so_far (x ∷ xs) rest good =
    let regrouped : flat_map spell (x ∷ xs) ++ rest ≡ spell x ++ (flat_map spell xs ++ rest) = ap (λ (t : List ℕ). t ++ rest) (flat_map-cons spell x xs) ∙ append_assoc (spell x) (flat_map spell xs) rest in
    ap (repeat one next (suc n) so_far) regrouped ∙ rw ((laws so_far n).again x (flat_map spell xs ++ rest) good.0, repeat_again one next spell Good laws n (next so_far x) xs rest good.1) refl

pub repeat_reads : {S A : Type 0} (one : S → ℕ → Reading A) (next : S → A → S) (spell : A → List ℕ) (Good : S → ℕ → A → Type 0) → ((so_far : S) (n : ℕ) → Reads (one so_far n) spell (Good so_far n))
    → (n : ℕ) (so_far : S) → Reads (repeat one next n so_far) (flat_map spell) (Are Good next n so_far)
repeat_reads one next spell Good laws n so_far = record { takes = repeat_takes one next spell Good laws n so_far; again = repeat_again one next spell Good laws n so_far }

pub Are-length : {S A : Type 0} (Good : S → ℕ → A → Type 0) (next : S → A → S) (n : ℕ) (so_far : S) (xs : List A) → Are Good next n so_far xs → length xs ≡ n
unfolding Are
Are-length Good next zero so_far [] good = refl
Are-length Good next zero so_far (x ∷ xs) good = absurd good
Are-length Good next (suc n) so_far [] good = absurd good
Are-length Good next (suc n) so_far (x ∷ xs) good = ap suc (Are-length Good next n (next so_far x) xs good.1)

pub counted_reads : {S A : Type 0} (w : Width) (limit : ℕ) → IsExact w limit → (test : ℕ → Bool) (one : S → ℕ → Reading A) (next : S → A → S) (spell : A → List ℕ) (Good : S → ℕ → A → Type 0) → ((so_far : S) (n : ℕ) → Reads (one so_far n) spell (Good so_far n))
    → (so_far : S) → Reads (counted w test one next so_far) (spell_counted w spell) (AreCounted limit test Good next so_far)
counted_reads {A = A} w limit exact test one next spell Good laws so_far = record {
  takes = λ bytes xs rest fits e.
      let a = bind_ok (item (number_at w) test bytes) (λ count. repeat one next count.0 so_far count.1) (xs, rest) e in
      let t = (item_reads (number_at w) (to_le_bytes w) (λ n. n < limit) test (number_reads w limit exact)).takes bytes a.0.0 a.0.1 fits a.1 in
      let t' = (repeat_reads one next spell Good laws a.0.0 so_far).takes a.0.1 xs rest t.0.after a.2 in
      let both = two_begin bytes (to_le_bytes w a.0.0) a.0.1 (flat_map spell xs) rest t.0 t'.0 in
      subst (λ (n : ℕ). Begins bytes (to_le_bytes w n ++ flat_map spell xs) rest × ((n < limit) × (test n ≡ true) × Are Good next n so_far xs) → Begins bytes (spell_counted w spell xs) rest × AreCounted limit test Good next so_far xs)
      (Are-length Good next a.0.0 so_far xs t'.1) (λ p. (p.0, record { below = p.1.0; count = p.1.1; each = p.1.2 })) (both, (t.1.0, t.1.1, t'.1));
  again = λ xs rest good.
      rw (append_assoc, (item_reads (number_at w) (to_le_bytes w) (λ n. n < limit) test (number_reads w limit exact)).again (length xs) (flat_map spell xs ++ rest) (good.below, good.count), (repeat_reads one next spell Good laws (length xs) so_far).again xs rest good.each) refl;
}

-- ---- all of the bytes

pub whole_takes : {A : Type 0} (reads : Reading A) (spell : A → List ℕ) (Good : A → Type 0) → Reads reads spell Good → (bytes : List ℕ) (x : A) → AreBytes bytes → whole reads bytes ≡ Ok x → Good x × (bytes ≡ spell x)
whole_takes {A = A} reads spell Good laws bytes x fits e =
    let a = bind_ok (reads bytes) (λ y. cond (eqb (length y.1) 0) (Ok y.0) (Err (length y.1))) x e in
    let g = test_ok (eqb (length a.0.1) 0) (length a.0.1) a.0.0 x a.2 in
    let t = laws.takes bytes a.0.0 a.0.1 fits a.1 in
    let nothing : a.0.1 ≡ [] = nil_from_length a.0.1 (eqb-true _ _ g.0) in
    let parts : bytes ≡ spell a.0.0 = t.0.joined ∙ ap (λ (r : List ℕ). spell a.0.0 ++ r) nothing ∙ append-nil (spell a.0.0) in
    subst (λ (y : A). Good y × (bytes ≡ spell y)) g.1 (t.1, parts)

pub whole_again : {A : Type 0} (reads : Reading A) (spell : A → List ℕ) (Good : A → Type 0) → Reads reads spell Good → (x : A) → Good x → whole reads (spell x) ≡ Ok x
whole_again reads spell Good laws x good =
    let read : reads (spell x) ≡ Ok (x, []) = ap reads (sym (append-nil (spell x))) ∙ laws.again x [] good in
    rw read refl
