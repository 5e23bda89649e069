-- Symbols at the front.
use Rattle.std.proofs.Common.{◌≡◌, ◌≢◌, ℕ, zero, suc, ◌<◌, ◌≤◌, true, List, [], ◌∷◌, Option, Some, None, length, take, get_or, refl, sym, ap, subst, ◌∙◌, arith}
use Rattle.std.specs.Prelude.{◌==◌, ◌&&◌, ⊤}
use Rattle.std.proofs.lemmas.Bool.{and_parts, eqb-true, cond_both}
use Rattle.std.proofs.lemmas.List.{length-take-le}
use Rattle.afl_lexer.specs.declared.token.Symbol.{Symbol}
use Rattle.afl_lexer.specs.declared.token.Symbol.TheVariants.{LeftParen, RightParen, LeftBracket, RightBracket, Less, More, AtMost, AtLeast, Equal, Differs, NotEqual, Comma, Colon, Star, Plus, Minus, Slash, Percent, At}
use Rattle.afl_lexer.specs.Tokens.{symbol_bytes, IsForm, symbol_form}
use Rattle.afl_lexer.specs.Scan.{double_symbol, single_symbol, single_reading, double_reading, symbol_reading}
use Rattle.afl_lexer.proofs.Forms.{other, quote, start_of, FormBy, form_by, nil_no_form}
use Rattle.afl_lexer.proofs.Fronts.{IsFront}
use Rattle.afl_lexer.proofs.Judged.{IsRight}

abbrev SingleTells : ℕ → Option Symbol → Type 0
SingleTells b (Some symbol) = b ∷ [] ≡ symbol_bytes symbol
SingleTells b None = ⊤

abbrev DoubleTells : ℕ → ℕ → Option Symbol → Type 0
DoubleTells b c (Some symbol) = b ∷ c ∷ [] ≡ symbol_bytes symbol
DoubleTells b c None = ⊤

one_byte : (b x : ℕ) → (b == x) ≡ true → b ∷ [] ≡ x ∷ []
one_byte b x e = ap (λ y. y ∷ []) (eqb-true b x e)

two_bytes : (b c x y : ℕ) → (b == x && c == y) ≡ true → b ∷ c ∷ [] ≡ x ∷ y ∷ []
two_bytes b c x y e =
    let both : ((b == x) ≡ true) × ((c == y) ≡ true) = and_parts (b == x) (c == y) e in
    ap (λ z. z ∷ c ∷ []) (eqb-true b x both.0) ∙ ap (λ z. x ∷ z ∷ []) (eqb-true c y both.1)

single_tells : (b : ℕ) → SingleTells b (single_symbol b)
single_tells b =
    let P : Option Symbol → Type 0 = SingleTells b in
    cond_both (b == 40) (Some LeftParen) _ P (λ e. one_byte b 40 e) (λ _.
    cond_both (b == 41) (Some RightParen) _ P (λ e. one_byte b 41 e) (λ _.
    cond_both (b == 91) (Some LeftBracket) _ P (λ e. one_byte b 91 e) (λ _.
    cond_both (b == 93) (Some RightBracket) _ P (λ e. one_byte b 93 e) (λ _.
    cond_both (b == 60) (Some Less) _ P (λ e. one_byte b 60 e) (λ _.
    cond_both (b == 62) (Some More) _ P (λ e. one_byte b 62 e) (λ _.
    cond_both (b == 61) (Some Equal) _ P (λ e. one_byte b 61 e) (λ _.
    cond_both (b == 44) (Some Comma) _ P (λ e. one_byte b 44 e) (λ _.
    cond_both (b == 58) (Some Colon) _ P (λ e. one_byte b 58 e) (λ _.
    cond_both (b == 42) (Some Star) _ P (λ e. one_byte b 42 e) (λ _.
    cond_both (b == 43) (Some Plus) _ P (λ e. one_byte b 43 e) (λ _.
    cond_both (b == 45) (Some Minus) _ P (λ e. one_byte b 45 e) (λ _.
    cond_both (b == 47) (Some Slash) _ P (λ e. one_byte b 47 e) (λ _.
    cond_both (b == 37) (Some Percent) _ P (λ e. one_byte b 37 e) (λ _.
    cond_both (b == 64) (Some At) _ P (λ e. one_byte b 64 e) (λ _. tt)))))))))))))))

double_tells : (b c : ℕ) → DoubleTells b c (double_symbol b c)
double_tells b c =
    let P : Option Symbol → Type 0 = DoubleTells b c in
    cond_both (b == 60 && c == 61) (Some AtMost) _ P (λ e. two_bytes b c 60 61 e) (λ _.
    cond_both (b == 62 && c == 61) (Some AtLeast) _ P (λ e. two_bytes b c 62 61 e) (λ _.
    cond_both (b == 60 && c == 62) (Some Differs) _ P (λ e. two_bytes b c 60 62 e) (λ _.
    cond_both (b == 33 && c == 61) (Some NotEqual) _ P (λ e. two_bytes b c 33 61 e) (λ _. tt))))

single_back : (s : Symbol) (b : ℕ) → b ∷ [] ≡ symbol_bytes s → single_symbol b ≡ Some s
single_back LeftParen b e = ap (λ (ys : List ℕ). single_symbol (get_or ys 0 0)) e
single_back RightParen b e = ap (λ (ys : List ℕ). single_symbol (get_or ys 0 0)) e
single_back LeftBracket b e = ap (λ (ys : List ℕ). single_symbol (get_or ys 0 0)) e
single_back RightBracket b e = ap (λ (ys : List ℕ). single_symbol (get_or ys 0 0)) e
single_back Less b e = ap (λ (ys : List ℕ). single_symbol (get_or ys 0 0)) e
single_back More b e = ap (λ (ys : List ℕ). single_symbol (get_or ys 0 0)) e
single_back AtMost b e = cc
single_back AtLeast b e = cc
single_back Equal b e = ap (λ (ys : List ℕ). single_symbol (get_or ys 0 0)) e
single_back Differs b e = cc
single_back NotEqual b e = cc
single_back Comma b e = ap (λ (ys : List ℕ). single_symbol (get_or ys 0 0)) e
single_back Colon b e = ap (λ (ys : List ℕ). single_symbol (get_or ys 0 0)) e
single_back Star b e = ap (λ (ys : List ℕ). single_symbol (get_or ys 0 0)) e
single_back Plus b e = ap (λ (ys : List ℕ). single_symbol (get_or ys 0 0)) e
single_back Minus b e = ap (λ (ys : List ℕ). single_symbol (get_or ys 0 0)) e
single_back Slash b e = ap (λ (ys : List ℕ). single_symbol (get_or ys 0 0)) e
single_back Percent b e = ap (λ (ys : List ℕ). single_symbol (get_or ys 0 0)) e
single_back At b e = ap (λ (ys : List ℕ). single_symbol (get_or ys 0 0)) e

one_is_not_two : {a : ℕ} (b c : ℕ) → b ∷ c ∷ [] ≡ a ∷ [] → ⊥
one_is_not_two b c e = cc

double_back : (s : Symbol) (b c : ℕ) → b ∷ c ∷ [] ≡ symbol_bytes s → double_symbol b c ≡ Some s
double_back LeftParen b c e = absurd (one_is_not_two b c e)
double_back RightParen b c e = absurd (one_is_not_two b c e)
double_back LeftBracket b c e = absurd (one_is_not_two b c e)
double_back RightBracket b c e = absurd (one_is_not_two b c e)
double_back Less b c e = absurd (one_is_not_two b c e)
double_back More b c e = absurd (one_is_not_two b c e)
double_back AtMost b c e = ap (λ (ys : List ℕ). double_symbol (get_or ys 0 0) (get_or ys 1 0)) e
double_back AtLeast b c e = ap (λ (ys : List ℕ). double_symbol (get_or ys 0 0) (get_or ys 1 0)) e
double_back Equal b c e = absurd (one_is_not_two b c e)
double_back Differs b c e = ap (λ (ys : List ℕ). double_symbol (get_or ys 0 0) (get_or ys 1 0)) e
double_back NotEqual b c e = ap (λ (ys : List ℕ). double_symbol (get_or ys 0 0) (get_or ys 1 0)) e
double_back Comma b c e = absurd (one_is_not_two b c e)
double_back Colon b c e = absurd (one_is_not_two b c e)
double_back Star b c e = absurd (one_is_not_two b c e)
double_back Plus b c e = absurd (one_is_not_two b c e)
double_back Minus b c e = absurd (one_is_not_two b c e)
double_back Slash b c e = absurd (one_is_not_two b c e)
double_back Percent b c e = absurd (one_is_not_two b c e)
double_back At b c e = absurd (one_is_not_two b c e)

symbol_size : (s : Symbol) → length (symbol_bytes s) ≤ 2
symbol_size LeftParen = omega arith
symbol_size RightParen = omega arith
symbol_size LeftBracket = omega arith
symbol_size RightBracket = omega arith
symbol_size Less = omega arith
symbol_size More = omega arith
symbol_size AtMost = omega arith
symbol_size AtLeast = omega arith
symbol_size Equal = omega arith
symbol_size Differs = omega arith
symbol_size NotEqual = omega arith
symbol_size Comma = omega arith
symbol_size Colon = omega arith
symbol_size Star = omega arith
symbol_size Plus = omega arith
symbol_size Minus = omega arith
symbol_size Slash = omega arith
symbol_size Percent = omega arith
symbol_size At = omega arith

-- a symbol of more bytes would be the one of both
symbol_most : (b : ℕ) (rest : List ℕ) (m : ℕ) → start_of b ≡ other → m ≤ length (b ∷ rest) → IsForm (take m (b ∷ rest)) → (0 < m) × (m ≤ 2)
symbol_most b rest zero o within f = absurd (nil_no_form f)
symbol_most b rest (suc m) o within f =
    let symbol : FormBy other (b ∷ take m rest) = subst (λ k. FormBy k (b ∷ take m rest)) o (form_by b (take m rest) f) in
    let size : length (take m rest) ≡ m = length-take-le m rest (omega arith) in
    let same : length (b ∷ take m rest) ≡ length (symbol_bytes symbol.0) = ap length symbol.1 in
    let most : length (symbol_bytes symbol.0) ≤ 2 = symbol_size symbol.0 in
    (omega arith, omega arith)

one_form : (b : ℕ) (rest : List ℕ) → start_of b ≡ other → IsForm (take 1 (b ∷ rest)) → (s : Symbol) × (single_symbol b ≡ Some s)
one_form b rest o f =
    let symbol : FormBy other (b ∷ []) = subst (λ k. FormBy k (b ∷ [])) o (form_by b [] f) in
    (symbol.0, single_back symbol.0 b symbol.1)

two_form : (b c : ℕ) (rest : List ℕ) → start_of b ≡ other → IsForm (take 2 (b ∷ c ∷ rest)) → (s : Symbol) × (double_symbol b c ≡ Some s)
two_form b c rest o f =
    let symbol : FormBy other (b ∷ c ∷ []) = subst (λ k. FormBy k (b ∷ c ∷ [])) o (form_by b (c ∷ []) f) in
    (symbol.0, double_back symbol.0 b c symbol.1)

-- whether both first bytes, where there are two, are a symbol
abbrev NoDouble : List ℕ → Type 0
NoDouble [] = ⊤
NoDouble (b ∷ []) = ⊤
NoDouble (b ∷ c ∷ rest) = double_symbol b c ≡ None

no_two : (b : ℕ) (rest : List ℕ) → start_of b ≡ other → NoDouble (b ∷ rest) → 2 ≤ length (b ∷ rest) → IsForm (take 2 (b ∷ rest)) → ⊥
no_two b [] o n h f = omega arith
no_two b (c ∷ rest) o n h f = let d = two_form b c rest o f in let e : None ≡ Some d.0 = sym n ∙ d.1 in cc

by_size : (P : ℕ → Type 0) (m : ℕ) → 0 < m → m ≤ 2 → P m → (P 1 → ⊥) → (P 2 → ⊥) → ⊥
by_size P zero h i p one two = omega arith
by_size P (suc zero) h i p one two = one p
by_size P (suc (suc zero)) h i p one two = two p
by_size P (suc (suc (suc m))) h i p one two = omega arith

double_right : (b c : ℕ) (rest : List ℕ) (s : Symbol) → start_of b ≡ other → b ∷ c ∷ [] ≡ symbol_bytes s → IsFront IsForm (b ∷ c ∷ rest) 2
double_right b c rest s o e = record {
  within = omega arith;
  fits = symbol_form s e;
  longest = λ m more within f. let most = symbol_most b (c ∷ rest) m o within f in omega (arith, most.1);
}

single_right : (b : ℕ) (rest : List ℕ) (o : Option Symbol) → single_symbol b ≡ o → SingleTells b o → start_of b ≡ other → NoDouble (b ∷ rest) → IsRight (b ∷ rest) (single_reading o)
single_right b rest None is t o n =
    let not_quote : Some b ≢ Some 39 = λ (q : Some b ≡ Some 39). let p : b ≡ 39 = cc in let k : other ≡ quote = sym o ∙ ap start_of p in cc in (
      refl,
      (λ m within f. let most = symbol_most b rest m o within f in
          by_size (λ k. IsForm (take k (b ∷ rest)) × (k ≤ length (b ∷ rest))) m most.0 most.1 (f, within)
          (λ g. let s = one_form b rest o g.0 in let e : None ≡ Some s.0 = sym is ∙ s.1 in cc)
          (λ g. no_two b rest o n g.1 g.0)),
      not_quote,
    )
single_right b rest (Some s) is t o n = (
  omega arith,
  record {
    within = omega arith;
    fits = symbol_form s t;
    longest = λ m more within f. let most = symbol_most b rest m o within f in
        by_size (λ k. IsForm (take k (b ∷ rest)) × (k ≤ length (b ∷ rest)) × (1 < k)) m most.0 most.1 (f, within, more)
        (λ g. omega (arith, g.2))
        (λ g. no_two b rest o n g.1 g.0);
  },
  t,
)

both_right : (b c : ℕ) (rest : List ℕ) (o : Option Symbol) → double_symbol b c ≡ o → DoubleTells b c o → start_of b ≡ other → IsRight (b ∷ c ∷ rest) (double_reading b o)
both_right b c rest None is t o = single_right b (c ∷ rest) (single_symbol b) refl (single_tells b) o is
both_right b c rest (Some s) is t o = (omega arith, double_right b c rest s o t, t)

pub symbol_right : (b : ℕ) (rest : List ℕ) → start_of b ≡ other → IsRight (b ∷ rest) (symbol_reading (b ∷ rest))
unfolding symbol_reading
symbol_right b [] o = single_right b [] (single_symbol b) refl (single_tells b) o tt
symbol_right b (c ∷ rest) o = both_right b c rest (double_symbol b c) refl (double_tells b c) o
