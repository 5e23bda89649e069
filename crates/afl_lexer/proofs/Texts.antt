-- Texts in quotes at the front.
use Rattle.std.proofs.Common.{◌≡◌, ℕ, zero, suc, ◌+◌, ◌-◌, ◌<◌, ◌≤◌, Bool, true, false, List, [], ◌∷◌, ◌++◌, Option, Some, None, length, take, drop, refl, sym, ap, subst, ◌∙◌, arith}
use Rattle.std.specs.Prelude.{if◌then◌else◌, ◌==◌, ◌||◌, not, nat_lt, slice_range, ⊤}
use Rattle.std.specs.List.{list_all, concat}
use Rattle.std.proofs.lemmas.Bool.{and_parts, and_from, or_parts, or_from, eqb-true, ltb-true, ltb-false, not-true, not_from_false, cond_both, cond-true, cond-false}
use Rattle.std.proofs.lemmas.List.{length-append, length-drop, length-take, length-take-le, take_at, take-take, drop-drop, drop-take, take-append-drop, append_assoc}
use Rattle.afl_lexer.specs.declared.token.TokenKind.TheVariants.{Text}
use Rattle.afl_lexer.specs.declared.token.LexKind.TheVariants.{TextTooLong}
use Rattle.afl_lexer.specs.declared.reading.Reading.TheVariants.{Wrong}
use Rattle.afl_lexer.specs.Quoted.{items, items_of, is_item, is_known, inside, IsText}
use Rattle.afl_lexer.specs.Tokens.{IsForm, text_form, IsSpelled, IsBadEscape}
use Rattle.afl_lexer.specs.Scan.{further, quote_at, escape_at, escape_reading, content_reading, closed_reading, text_reading}
use Rattle.afl_lexer.proofs.Forms.{quote, start_of, FormBy, form_by, nil_no_form}
use Rattle.afl_lexer.proofs.Fronts.{IsFront}
use Rattle.afl_lexer.proofs.Judged.{IsRight}

pub items_pair : (b c : ℕ) (rest : List ℕ) → (b == 92) ≡ true → items (b ∷ c ∷ rest) ≡ (b ∷ c ∷ []) ∷ items rest
items_pair b c rest e = cond-true (b == 92) ((b ∷ c ∷ []) ∷ items rest) ((b ∷ []) ∷ items (c ∷ rest)) e

pub items_plain : (b : ℕ) (rest : List ℕ) → (b == 92) ≡ false → items (b ∷ rest) ≡ (b ∷ []) ∷ items rest
items_plain b [] e = refl
items_plain b (c ∷ rest) e = cond-false (b == 92) ((b ∷ c ∷ []) ∷ items rest) ((b ∷ []) ∷ items (c ∷ rest)) e

-- what the place of the closing quote says of the bytes
abbrev QuoteTells : List ℕ → Option ℕ → Type 0
QuoteTells xs None = ⊤
QuoteTells xs (Some k) = (inner : List ℕ) × (behind : List ℕ) × (xs ≡ inner ++ 39 ∷ behind) × (length inner ≡ k) × (list_all is_item (items inner) ≡ true)

quote_first : (b : ℕ) (rest : List ℕ) → (b == 39) ≡ true → QuoteTells (b ∷ rest) (Some 0)
quote_first b rest e = ([], rest, ap (λ x. x ∷ rest) (eqb-true b 39 e), refl, refl)

tells_pair : (b c : ℕ) (rest : List ℕ) (o : Option ℕ) → (b == 92) ≡ true → QuoteTells rest o → QuoteTells (b ∷ c ∷ rest) (further 2 o)
tells_pair b c rest None e t = tt
tells_pair b c rest (Some k) e (inner, behind, same, size, ok) =
    (b ∷ c ∷ inner, behind, ap (λ ys. b ∷ c ∷ ys) same, omega arith, ap (list_all is_item) (items_pair b c inner e) ∙ ok)

tells_plain : (b : ℕ) (rest : List ℕ) (o : Option ℕ) → (b == 39) ≡ false → (b == 92) ≡ false → QuoteTells rest o → QuoteTells (b ∷ rest) (further 1 o)
tells_plain b rest None f e t = tt
tells_plain b rest (Some k) f e (inner, behind, same, size, ok) = (
  b ∷ inner,
  behind,
  ap (λ ys. b ∷ ys) same,
  omega arith,
  ap (list_all is_item) (items_plain b inner e) ∙ and_from (not (b == 39 || b == 92)) (list_all is_item (items inner)) (not_from_false (b == 39 || b == 92) (or_from (b == 39) (b == 92) f e)) ok,
)

quote_tells : (xs : List ℕ) → QuoteTells xs (quote_at xs)
quote_tells [] = tt
quote_tells (b ∷ []) = cond_both (b == 39) (Some 0) None (QuoteTells (b ∷ [])) (λ e. quote_first b [] e) (λ _. tt)
quote_tells (b ∷ c ∷ rest) =
    let P : Option ℕ → Type 0 = QuoteTells (b ∷ c ∷ rest) in
    cond_both (b == 39) (Some 0) _ P (λ e. quote_first b (c ∷ rest) e) (λ f.
    cond_both (b == 92) (further 2 (quote_at rest)) (further 1 (quote_at (c ∷ rest))) P
    (λ e. tells_pair b c rest (quote_at rest) e (quote_tells rest))
    (λ e. tells_plain b (c ∷ rest) (quote_at (c ∷ rest)) f e (quote_tells (c ∷ rest))))

quote_there : (behind : List ℕ) → quote_at (39 ∷ behind) ≡ Some 0
quote_there [] = refl
quote_there (c ∷ rest) = refl

two_on : (b c : ℕ) (rest : List ℕ) (k : ℕ) → (b == 92) ≡ true → quote_at rest ≡ Some k → quote_at (b ∷ c ∷ rest) ≡ Some (suc (suc k))
two_on b c rest k e q =
    let same : b ≡ 92 = eqb-true b 92 e in
    let more : 2 + k ≡ suc (suc k) = omega arith in
    ap (λ x. quote_at (x ∷ c ∷ rest)) same ∙ ap (further 2) q ∙ ap Some more

one_on : (b c : ℕ) (rest : List ℕ) (k : ℕ) → (b == 39) ≡ false → (b == 92) ≡ false → quote_at (c ∷ rest) ≡ Some k → quote_at (b ∷ c ∷ rest) ≡ Some (suc k)
one_on b c rest k f e q =
    let more : 1 + k ≡ suc k = omega arith in
    cond-false (b == 39) (Some 0) _ f ∙ cond-false (b == 92) _ (further 1 (quote_at (c ∷ rest))) e ∙ ap (further 1) q ∙ ap Some more

-- a byte that is an item by itself
plain_item : (b : ℕ) → is_item (b ∷ []) ≡ true → ((b == 39) ≡ false) × ((b == 92) ≡ false)
plain_item b t = or_parts (b == 39) (b == 92) (not-true (b == 39 || b == 92) t)

closes_by : (b c : ℕ) (r behind : List ℕ) (v : Bool) → (b == 92) ≡ v → list_all is_item (if v then (b ∷ c ∷ []) ∷ items r else (b ∷ []) ∷ items (c ∷ r)) ≡ true
    → (list_all is_item (items r) ≡ true → quote_at (r ++ 39 ∷ behind) ≡ Some (length r))
    → (list_all is_item (items (c ∷ r)) ≡ true → quote_at (c ∷ (r ++ 39 ∷ behind)) ≡ Some (length (c ∷ r)))
    → quote_at (b ∷ c ∷ (r ++ 39 ∷ behind)) ≡ Some (length (b ∷ c ∷ r))
closes_by b c r behind true e t h i = two_on b c (r ++ 39 ∷ behind) (length r) e (h t)
closes_by b c r behind false e t h i =
    let both : (is_item (b ∷ []) ≡ true) × (list_all is_item (items (c ∷ r)) ≡ true) = and_parts (is_item (b ∷ [])) (list_all is_item (items (c ∷ r))) t in
    one_on b c (r ++ 39 ∷ behind) (length (c ∷ r)) (plain_item b both.0).0 e (i both.1)

pub closes : (inner behind : List ℕ) → list_all is_item (items inner) ≡ true → quote_at (inner ++ 39 ∷ behind) ≡ Some (length inner)
closes [] behind t = quote_there behind
closes (b ∷ []) behind t =
    let plain = plain_item b (and_parts (is_item (b ∷ [])) true t).0 in
    one_on b 39 behind 0 plain.0 plain.1 (quote_there behind)
closes (b ∷ c ∷ r) behind t = closes_by b c r behind (b == 92) refl t (λ h. closes r behind h) (λ h. closes (c ∷ r) behind h)

abbrev pub quoted : List ℕ → List ℕ
quoted inner = 39 ∷ inner ++ 39 ∷ []

pub inside_quoted : (inner : List ℕ) → inside (quoted inner) ≡ inner
inside_quoted inner =
    let size : length (39 ∷ inner ++ 39 ∷ []) - 1 - 1 ≡ length inner = omega (arith, length-append inner (39 ∷ [])) in
    ap (λ n. take n (inner ++ 39 ∷ [])) size ∙ take_at inner (39 ∷ []) (length inner) refl

pub quoted_is_text : (inner : List ℕ) → list_all is_item (items inner) ≡ true → IsText (quoted inner)
quoted_is_text inner t = record {
  quotes = ap quoted (sym (inside_quoted inner));
  closed = ap (λ ys. list_all is_item (items ys)) (inside_quoted inner) ∙ t;
}

text_closes : (rest : List ℕ) (m : ℕ) → m ≤ length rest → IsText (39 ∷ take m rest) → (k : ℕ) × (quote_at rest ≡ Some k) × (m ≡ k + 1)
text_closes rest m within text =
    let inner : List ℕ = inside (39 ∷ take m rest) in
    let same : take m rest ≡ inner ++ 39 ∷ [] = cc (text.quotes) in
    let all : rest ≡ inner ++ 39 ∷ drop m rest = sym (take-append-drop m rest) ∙ ap (λ ys. ys ++ drop m rest) same ∙ append_assoc inner (39 ∷ []) (drop m rest) in
    let size : length (take m rest) ≡ m = length-take-le m rest within in
    let sum : length (inner ++ 39 ∷ []) ≡ length inner + 1 = length-append inner (39 ∷ []) in
    let equal : length (take m rest) ≡ length (inner ++ 39 ∷ []) = ap length same in
    (length inner, ap quote_at all ∙ closes inner (drop m rest) text.closed, omega arith)

text_most : (b : ℕ) (rest : List ℕ) (m : ℕ) → start_of b ≡ quote → b ≡ 39 → m ≤ length (b ∷ rest) → IsForm (take m (b ∷ rest)) → (k : ℕ) × (quote_at rest ≡ Some k) × (m ≡ k + 2)
text_most b rest zero o e within f = absurd (nil_no_form f)
text_most b rest (suc m) o e within f =
    let text : IsText (b ∷ take m rest) = subst (λ k. FormBy k (b ∷ take m rest)) o (form_by b (take m rest) f) in
    let found = text_closes rest m (omega arith) (subst (λ x. IsText (x ∷ take m rest)) e text) in
    (found.0, found.1, omega (arith, found.2))

-- what the place of the first bad escape says of the bytes
abbrev pub EscapeTells : List ℕ → Option ℕ → Type 0
EscapeTells xs None = list_all is_known (items xs) ≡ true
EscapeTells xs (Some k) = (before : List (List ℕ)) × (item : List ℕ) × (after : List (List ℕ)) × (items xs ≡ before ++ item ∷ after) × (list_all is_known before ≡ true) × (is_known item ≡ false) × (k ≡ length (concat before))

escape_on : (first : List ℕ) (n : ℕ) (xs rest : List ℕ) (o : Option ℕ) → items xs ≡ first ∷ items rest → is_known first ≡ true → length first ≡ n → EscapeTells rest o → EscapeTells xs (further n o)
escape_on first n xs rest None e k size t = ap (list_all is_known) e ∙ and_from (is_known first) (list_all is_known (items rest)) k t
escape_on first n xs rest (Some m) e k size (before, item, after, same, known, bad, place) =
    let sum : length (first ++ concat before) ≡ length first + length (concat before) = length-append first (concat before) in
    (first ∷ before, item, after, e ∙ ap (λ is. first ∷ is) same, and_from (is_known first) (list_all is_known before) k known, bad, omega arith)

pub escape_tells : (xs : List ℕ) → EscapeTells xs (escape_at xs)
escape_tells [] = refl
escape_tells (b ∷ []) = refl
escape_tells (b ∷ c ∷ rest) =
    let P : Option ℕ → Type 0 = EscapeTells (b ∷ c ∷ rest) in
    cond_both (b == 92) _ (further 1 (escape_at (c ∷ rest))) P
    (λ e. cond_both (c == 39 || c == 92) (further 2 (escape_at rest)) (Some 0) P
    (λ k. escape_on (b ∷ c ∷ []) 2 (b ∷ c ∷ rest) rest (escape_at rest) (items_pair b c rest e) k refl (escape_tells rest))
    (λ k. ([], b ∷ c ∷ [], items rest, items_pair b c rest e, refl, k, refl)))
    (λ e. escape_on (b ∷ []) 1 (b ∷ c ∷ rest) (c ∷ rest) (escape_at (c ∷ rest)) (items_plain b (c ∷ rest) e) refl refl (escape_tells (c ∷ rest)))

module _ (bytes inner : List ℕ) (n : ℕ) (front : IsFront IsForm bytes n) (some : n ≡ length inner + 2) (same : take n bytes ≡ quoted inner) (closed : list_all is_item (items inner) ≡ true) where
  is_text : IsText (take n bytes)
  is_text = subst IsText (sym same) (quoted_is_text inner closed)

  same_items : items_of (take n bytes) ≡ items inner
  same_items = ap items_of same ∙ ap items (inside_quoted inner)

  escape_right : (o : Option ℕ) → EscapeTells inner o → length (items inner) ≤ 65535 → IsRight bytes (escape_reading (length inner) o)
  escape_right None t h =
      subst (λ k. (0 < k) × IsFront IsForm bytes k × IsSpelled Text (take k bytes)) some
      (omega arith, front, (is_text, ap (list_all is_known) same_items ∙ t, subst (λ is. length is ≤ 65535) (sym same_items) h))
  escape_right (Some k) (before, item, after, parts, known, bad, place) h =
      let escape : IsBadEscape (take n bytes) (k + 1) = record { before = before; item = item; after = after; parts = same_items ∙ parts; known = known; bad = bad; place = omega arith } in
      (n, front, (is_text, subst (λ is. length is ≤ 65535) (sym same_items) h, escape))

  content_right : IsRight bytes (content_reading inner)
  unfolding content_reading
  content_right = cond_both (nat_lt 65535 (length (items inner))) (Wrong TextTooLong 0) (escape_reading (length inner) (escape_at inner)) (IsRight bytes)
      (λ h. (n, front, (refl, is_text, subst (λ is. 65535 < length is) (sym same_items) (ltb-true 65535 (length (items inner)) h))))
      (λ h. escape_right (escape_at inner) (escape_tells inner) (ltb-false 65535 (length (items inner)) h))

closed_right : (b : ℕ) (rest : List ℕ) (o : Option ℕ) → start_of b ≡ quote → b ≡ 39 → quote_at rest ≡ o → QuoteTells rest o → IsRight (b ∷ rest) (closed_reading rest o)
closed_right b rest None s e is t =
    (refl, (λ m within f. let found = text_most b rest m s e within f in let no : None ≡ Some found.0 = sym is ∙ found.1 in cc), ap Some e)
closed_right b rest (Some k) s e is (inner, behind, same, size, closed) =
    let piece : take k rest ≡ inner = ap (take k) same ∙ take_at inner (39 ∷ behind) k size in
    let whole : b ∷ rest ≡ quoted inner ++ behind = ap (λ x. x ∷ rest) e ∙ ap (λ ys. 39 ∷ ys) (same ∙ sym (append_assoc inner (39 ∷ []) behind)) in
    let sum : length (inner ++ 39 ∷ []) ≡ length inner + 1 = length-append inner (39 ∷ []) in
    let total : length (b ∷ rest) ≡ length (quoted inner) + length behind = ap length whole ∙ length-append (quoted inner) behind in
    let n : ℕ = length inner + 2 in
    let front_is : take n (b ∷ rest) ≡ quoted inner = ap (take n) whole ∙ take_at (quoted inner) behind n (omega arith) in
    let front : IsFront IsForm (b ∷ rest) n = record {
      within = omega arith;
      fits = text_form (subst IsText (sym front_is) (quoted_is_text inner closed));
      longest = λ m more within f. let found = text_most b rest m s e within f in let equal : Some k ≡ Some found.0 = sym is ∙ found.1 in let equals : k ≡ found.0 = cc in omega (arith, found.2);
    } in
    subst (λ ys. IsRight (b ∷ rest) (content_reading ys)) (sym piece) (content_right (b ∷ rest) inner n front refl front_is closed)

pub text_right : (b : ℕ) (rest : List ℕ) → start_of b ≡ quote → b ≡ 39 → IsRight (b ∷ rest) (text_reading rest)
unfolding text_reading
text_right b rest s e = closed_right b rest (quote_at rest) s e refl (quote_tells rest)

pub text_length : (piece : List ℕ) → IsText piece → length (inside piece) + 2 ≡ length piece
text_length piece text =
    let whole : length piece ≡ length (39 ∷ (inside piece ++ 39 ∷ [])) = ap length text.quotes in
    let sum : length (inside piece ++ 39 ∷ []) ≡ length (inside piece) + 1 = length-append (inside piece) (39 ∷ []) in
    omega arith

-- what stands inside a piece of a text
inside_slice : (text : List ℕ) (start end : ℕ) → start + 2 ≤ end → end ≤ length text → inside (slice_range text start end) ≡ slice_range text (start + 1) (end - 1)
inside_slice text start end h within =
    let m : ℕ = end - start - 1 in
    let k : ℕ = end - 1 - (start + 1) in
    let e : end - start ≡ 1 + m = omega arith in
    let size : length (slice_range text start end) ≡ end - start = length-take-le (end - start) (drop start text) (simp length-drop (omega arith)) in
    let less : length (slice_range text start end) - 1 - 1 ≡ k = omega arith in
    ap (λ n. take n (drop 1 (slice_range text start end))) less
    ∙ ap (λ n. take k (drop 1 (take n (drop start text)))) e
    ∙ ap (take k) (drop-take 1 m (drop start text) ∙ ap (take m) (drop-drop 1 start text))
    ∙ take-take k m (drop (start + 1) text) (omega arith)

pub inside_text : (text : List ℕ) (start end : ℕ) → end ≤ length text → IsText (slice_range text start end) → inside (slice_range text start end) ≡ slice_range text (start + 1) (end - 1)
inside_text text start end within is =
    let size : length (inside (slice_range text start end)) + 2 ≡ length (slice_range text start end) = text_length (slice_range text start end) is in
    inside_slice text start end (omega (arith, length-take (end - start) (drop start text))) within
