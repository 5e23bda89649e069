-- What derives is read.
use Rattle.std.proofs.Common.{◌≡◌, ◌⊎◌, ℕ, zero, suc, ◌+◌, ◌≤◌, Bool, true, false, ◌&&◌, Option, Some, None, List, [], ◌∷◌, ◌++◌, inl, inr, length, refl, sym, ap, subst, ◌∙◌, arith}
use Rattle.std.specs.Prelude.{nat_le, nat_lt}
use Rattle.std.proofs.lemmas.Bool.{lt-ltb, le-leb}
use Rattle.cell_values.specs.declared.name.Span.{Span}
use Rattle.afl_lexer.specs.declared.token.Word.TheVariants.{Null, As, Create}
use Rattle.afl_lexer.specs.declared.token.Symbol.TheVariants.{LeftParen, RightParen, Less, At as AtSign}
use Rattle.afl_lexer.specs.Lexemes.{Lexeme, a_name, a_number, a_text, a_code, a_word, a_symbol, Placed}
use Rattle.schema_grammar.specs.declared.shape_text.SchemaText.{SchemaText}
use Rattle.schema_grammar.specs.declared.state.ShapeState.{ShapeState}
use Rattle.schema_grammar.specs.declared.state.ShapeState.TheVariants.{Start as ShapeStart}
use Rattle.schema_grammar.specs.declared.state.ShapeStep.{ShapeStep}
use Rattle.schema_grammar.specs.declared.state.ShapeStep.TheVariants.{On, Whole, Unexpected as NoShape}
use Rattle.schema_grammar.specs.Spelling.{placed, across, SpellsSchema}
use Rattle.schema_grammar.specs.Inner.Reading.{shape_turn, ShapeRun, Read, Open as OpenShape, Stuck, shape_go, shape_run}
use Rattle.schema_grammar.proofs.ShapeComplete.{shape_read}
use Rattle.afl_trees.specs.Term.{Term, create, number, text, truth, null, missing, reference, version, call, schema, star, renamed, opposite, negative, binary, group, Terms, no_terms, and_term, to_terms}
use Rattle.afl_trees.specs.Grammar.{line_of, left_line, line, height, heights, truth_word, Spells, SpellsArguments, SpellsMore, SpellsCreate, IsStatement}
use Rattle.afl_parser.specs.Inner.Machine.{Turn, Go, want, expected, shallow, leaf_of, leaf_or_open, shaped, made, operated, operated_or_joined, named, turn, begin, start, first, verdict, run, go_on, finish}
use Rattle.afl_parser.specs.declared.frame.Frame.{Frame}
use Rattle.afl_parser.specs.declared.frame.Frame.TheVariants.{Group, Not, Minus, Left, Call}
use Rattle.afl_parser.specs.declared.frame.Focus.TheVariants.{Start, NewShape, Made, Want, First, Have, Naming, Shape}
use Rattle.afl_parser.proofs.Heights.{one_le}
use Rattle.afl_parser.proofs.Settling.{line_le_left, line_lt_right, ClosesBy, Closes, closes_more, past, past_not, past_minus, past_left, settle_stays}

-- the arguments so far, and those to come
abbrev joined : List Term → Terms → Terms
joined [] ts = ts
joined (t ∷ done) ts = and_term t (joined done ts)

joined_last : (done : List Term) (t : Term) → to_terms (done ++ t ∷ []) ≡ joined done (and_term t no_terms)
joined_last [] t = refl
joined_last (a ∷ done) t = ap (and_term a) (joined_last done t)

joined_next : (done : List Term) (t : Term) (ts : Terms) → joined (done ++ t ∷ []) ts ≡ joined done (and_term t ts)
joined_next [] t ts = refl
joined_next (a ∷ done) t ts = ap (and_term a) (joined_next done t ts)

-- no tree begins so
abbrev Begins : Lexeme → Type 0
Begins (a_symbol RightParen) = ⊥
Begins (a_word Create) = ⊥
Begins _ = Unit {0}

abbrev BeginsWell : List Placed → Type 0
BeginsWell [] = Unit {0}
BeginsWell (x ∷ xs) = Begins x.what

begins_truth : (b : Bool) → Begins (truth_word b)
begins_truth true = tt
begins_truth false = tt

begins : (t : Term) (xs zs : List Placed) → Spells t xs zs → BeginsWell xs
begins (create s n m) xs zs h = absurd h
begins (number s n) xs zs h = subst BeginsWell (sym h) tt
begins (text s x) xs zs h = subst BeginsWell (sym h) tt
begins (truth s b) xs zs h = subst BeginsWell (sym h) (begins_truth b)
begins (null s) xs zs (inl h) = subst BeginsWell (sym h) tt
begins (null s) xs zs (inr h) = subst BeginsWell (sym h) tt
begins (missing s c) xs zs (l, h) = subst BeginsWell (sym h) tt
begins (reference s n) xs zs h = subst BeginsWell (sym h) tt
begins (version s n v) xs zs (b, w, e, h, p) = subst BeginsWell (sym h) tt
begins (call s n ts) xs zs (b, l, r, ys, h, p, g) = subst BeginsWell (sym h) tt
begins (schema s m) xs zs (l, g, b, e, ys, ws, h, attrs, dims, q, r) = subst BeginsWell (sym h) tt
begins (star s) xs zs h = subst BeginsWell (sym h) tt
begins (renamed s a n) xs zs (w, e, p, l, h) = begins a xs _ h
begins (opposite s a) xs zs (w, ys, h, p, l, g) = subst BeginsWell (sym h) tt
begins (negative s a) xs zs (w, ys, h, p, l, g) = subst BeginsWell (sym h) tt
begins (binary s o a b) xs zs (x, w, ys, q, p, l, h, m, g) = begins a xs _ h
begins (group s a) xs zs (l, r, ys, h, p, m, g) = subst BeginsWell (sym h) tt

first_token : (limit : ℕ) (n : List ℕ) (b : Span) (k : List Frame) (s : Span) (x : Lexeme) → Begins x → first limit k n b s x ≡ begin limit (Call n b [] ∷ k) s x
first_token limit n b k s (a_symbol RightParen) h = absurd h
first_token limit n b k s _ h = refl

start_token : (limit : ℕ) (k : List Frame) (s : Span) (x : Lexeme) → Begins x → start limit k s x ≡ begin limit k s x
start_token limit k s (a_word Create) h = absurd h
start_token limit k s _ h = refl

-- a call's first argument
first_argument : (limit : ℕ) (n : List ℕ) (b : Span) (k : List Frame) (xs : List Placed) → BeginsWell xs
    → verdict limit k (First n b) xs ≡ verdict limit (Call n b [] ∷ k) Want xs
first_argument limit n b k [] h = refl
first_argument limit n b k (x ∷ xs) h = ap (λ t. finish (go_on t (λ k f. run limit k f xs))) (first_token limit n b k x.span x.what h)

-- an expression's first token
first_of_statement : (limit : ℕ) (k : List Frame) (xs : List Placed) → BeginsWell xs → verdict limit k Start xs ≡ verdict limit k Want xs
first_of_statement limit k [] h = refl
first_of_statement limit k (x ∷ xs) h = ap (λ t. finish (go_on t (λ k f. run limit k f xs))) (start_token limit k x.span x.what h)

closes_argument : (ts : Terms) (r : Span) (n : ℕ) (xs zs : List Placed) → SpellsMore ts r xs zs → Closes n xs
closes_argument no_terms r n xs zs h = subst (Closes n) (sym h) tt
closes_argument (and_term t ts) r n xs zs (w, ys, ws, e, h, m) = subst (Closes n) (sym e) tt

pub both_true : (a b : Bool) → a ≡ true → b ≡ true → (a && b) ≡ true
both_true a b p q = ap (λ v. v && b) p ∙ q

module _ (limit : ℕ) where
  -- the verdict after a turn
  abbrev after : List Placed → Turn → Option Term
  after xs turn = finish (go_on turn (λ k f. run limit k f xs))

  -- the verdict after a schema that is an argument
  abbrev pub after_shape : List Frame → ShapeRun → Option Term
  after_shape k (Read m s zs) = verdict limit k (Have (schema s m)) zs
  after_shape k (OpenShape state) = None
  after_shape k Stuck = None

  shape_step : (k : List Frame) (xs : List Placed) (step : ShapeStep) → ((state : ShapeState) → verdict limit k (Shape state) xs ≡ after_shape k (shape_run state xs))
      → after xs (shaped k step) ≡ after_shape k (shape_go step xs (λ state. shape_run state xs))
  shape_step k xs (On state) h = h state
  shape_step k xs (Whole m s) h = refl
  shape_step k xs NoShape h = refl

  pub shape_verdict : (k : List Frame) (xs : List Placed) (state : ShapeState) → verdict limit k (Shape state) xs ≡ after_shape k (shape_run state xs)
  shape_verdict k [] state = refl
  shape_verdict k (x ∷ xs) state = shape_step k xs (shape_turn state x) (λ state. shape_verdict k xs state)

  -- the verdict after the schema of `create array`
  abbrev pub after_new_shape : List Frame → Span → List ℕ → ShapeRun → Option Term
  after_new_shape k c n (Read m s zs) = verdict limit k (Made (create (across c s) n m)) zs
  after_new_shape k c n (OpenShape state) = None
  after_new_shape k c n Stuck = None

  new_shape_step : (k : List Frame) (c : Span) (n : List ℕ) (xs : List Placed) (step : ShapeStep)
      → ((state : ShapeState) → verdict limit k (NewShape c n state) xs ≡ after_new_shape k c n (shape_run state xs))
      → after xs (made k c n step) ≡ after_new_shape k c n (shape_go step xs (λ state. shape_run state xs))
  new_shape_step k c n xs (On state) h = h state
  new_shape_step k c n xs (Whole m s) h = refl
  new_shape_step k c n xs NoShape h = refl

  pub new_shape_verdict : (k : List Frame) (c : Span) (n : List ℕ) (xs : List Placed) (state : ShapeState) → verdict limit k (NewShape c n state) xs ≡ after_new_shape k c n (shape_run state xs)
  new_shape_verdict k c n [] state = refl
  new_shape_verdict k c n (x ∷ xs) state = new_shape_step k c n xs (shape_turn state x) (λ state. new_shape_verdict k c n xs state)

  -- a tree of one token
  complete_leaf : (t : Term) (s : Span) (x : Lexeme) (k : List Frame) (xs zs : List Placed) → xs ≡ placed x s ∷ zs → leaf_of s x ≡ Some t → height t + length k ≤ limit
      → verdict limit k Want xs ≡ verdict limit k (Have t) zs
  complete_leaf t s x k xs zs e l h =
      ap (verdict limit k Want) e
      ∙ ap (λ leaf. after zs (leaf_or_open limit k s x leaf)) l
      ∙ ap (λ b. after zs (shallow b (Go k (Have t)))) (lt-ltb (length k) limit (omega (arith, one_le t)))

  code_is_leaf : (s : Span) (c : ℕ) → 1 ≤ c → leaf_of s (a_code c) ≡ Some (missing s c)
  code_is_leaf s zero h = absurd (omega arith)
  code_is_leaf s (suc c) h = refl

  truth_is_leaf : (s : Span) (b : Bool) → leaf_of s (truth_word b) ≡ Some (truth s b)
  truth_is_leaf s true = refl
  truth_is_leaf s false = refl

  complete_schema : (m : SchemaText) (s : Span) (k : List Frame) (xs zs : List Placed) → want k ≤ 0 → SpellsSchema m s xs zs → length k + 1 ≤ limit
      → verdict limit k Want xs ≡ verdict limit k (Have (schema s m)) zs
  complete_schema m s k xs zs w (l, g, b, e, ys, ws, p, attrs, dims, q, r) h =
      ap (verdict limit k Want) p
      ∙ ap (λ b. after ys (expected b (shallow (nat_lt (length k) limit) (shaped k (shape_turn ShapeStart (placed (a_symbol Less) l)))))) (le-leb (want k) 0 w)
      ∙ ap (λ b. after ys (shallow b (shaped k (shape_turn ShapeStart (placed (a_symbol Less) l))))) (lt-ltb (length k) limit (omega arith))
      ∙ shape_step k ys (shape_turn ShapeStart (placed (a_symbol Less) l)) (λ state. shape_verdict k ys state)
      ∙ ap (λ xs. after_shape k (shape_run ShapeStart xs)) (sym p)
      ∙ ap (after_shape k) (shape_read m s xs zs (l, g, b, e, ys, ws, p, attrs, dims, q, r))

  mutual
    pub complete : (t : Term) (k : List Frame) (xs zs : List Placed) → want k ≤ line t → Spells t xs zs → height t + length k ≤ limit → Closes (line t) zs
        → verdict limit k Want xs ≡ verdict limit k (Have t) zs
    complete (create s n m) k xs zs w e h c = absurd e
    complete (number s n) k xs zs w e h c = complete_leaf (number s n) s (a_number n) k xs zs e refl h
    complete (text s x) k xs zs w e h c = complete_leaf (text s x) s (a_text x) k xs zs e refl h
    complete (truth s b) k xs zs w e h c = complete_leaf (truth s b) s (truth_word b) k xs zs e (truth_is_leaf s b) h
    complete (null s) k xs zs w (inl e) h c = complete_leaf (null s) s (a_word Null) k xs zs e refl h
    complete (null s) k xs zs w (inr e) h c = complete_leaf (null s) s (a_code 0) k xs zs e refl h
    complete (missing s n) k xs zs w (l, e) h c = complete_leaf (missing s n) s (a_code n) k xs zs e (code_is_leaf s n l) h
    complete (reference s n) k xs zs w e h c = complete_leaf (reference s n) s (a_name n) k xs zs e refl h
    complete (version s n v) k xs zs w (b, a, l, e, p) h c =
        complete_leaf (reference b n) b (a_name n) k xs (placed (a_symbol AtSign) a ∷ placed (a_number v) l ∷ zs) e refl h
        ∙ ap (λ s. verdict limit k (Have (version s n v)) zs) (sym p)
    complete (call s n ts) k xs zs w (b, lp, rp, ys, e, p, g) h c =
        complete_leaf (reference b n) b (a_name n) k xs (placed (a_symbol LeftParen) lp ∷ ys) e refl (omega arith)
        ∙ complete_arguments ts n b rp k ys zs g (omega arith)
        ∙ ap (λ s. verdict limit k (Have (call s n ts)) zs) (sym p)
    complete (schema s m) k xs zs w g h c = complete_schema m s k xs zs w g (omega arith)
    complete (star s) k xs zs w e h c =
        ap (verdict limit k Want) e
        ∙ ap (λ b. after zs (expected b (shallow (nat_lt (length k) limit) (Go k (Have (star s)))))) (le-leb (want k) 0 w)
        ∙ ap (λ b. after zs (shallow b (Go k (Have (star s))))) (lt-ltb (length k) limit (omega arith))
    complete (renamed s a n) k xs zs w (v, e, p, l, g) h c =
        complete a k xs (placed (a_word As) v ∷ placed (a_name n) e ∷ zs) (omega (arith, l)) g (omega arith) l
        ∙ ap (λ p. after (placed (a_name n) e ∷ zs) (named limit p)) (settle_stays 0 k a w)
        ∙ ap (λ b. after (placed (a_name n) e ∷ zs) (expected b (shallow (nat_le (length k + 1 + height a) limit) (Go k (Naming a))))) (both_true _ _ (le-leb (want k) 0 w) (le-leb 1 (line a) l))
        ∙ ap (λ b. after (placed (a_name n) e ∷ zs) (shallow b (Go k (Naming a)))) (le-leb (length k + 1 + height a) limit (omega arith))
        ∙ ap (λ s. verdict limit k (Have (renamed s a n)) zs) (sym p)
    complete (opposite s a) k xs zs w (v, ys, e, p, l, g) h c =
        ap (verdict limit k Want) e
        ∙ ap (λ b. after ys (expected b (shallow (nat_lt (length k + 1) limit) (Go (Not v ∷ k) Want)))) (le-leb (want k) 3 w)
        ∙ ap (λ b. after ys (shallow b (Go (Not v ∷ k) Want))) (lt-ltb (length k + 1) limit (omega (arith, one_le a)))
        ∙ complete a (Not v ∷ k) ys zs l g (omega arith) (closes_more 3 (line a) zs l c)
        ∙ past limit (Not v) k a zs (past_not v zs c)
        ∙ ap (λ s. verdict limit k (Have (opposite s a)) zs) (sym p)
    complete (negative s a) k xs zs w (v, ys, e, p, l, g) h c =
        ap (verdict limit k Want) e
        ∙ ap (λ b. after ys (shallow b (Go (Minus v ∷ k) Want))) (lt-ltb (length k + 1) limit (omega (arith, one_le a)))
        ∙ complete a (Minus v ∷ k) ys zs l g (omega arith) (closes_more 7 (line a) zs l c)
        ∙ past limit (Minus v) k a zs (past_minus v zs c)
        ∙ ap (λ s. verdict limit k (Have (negative s a)) zs) (sym p)
    complete (binary s o a b) k xs zs w (x, v, ys, q, p, l, ga, m, gb) h c =
        complete a k xs (placed x v ∷ ys) (omega (arith, l, line_le_left o)) ga (omega arith) (subst (λ op. ClosesBy op (line a) x) (sym q) l)
        ∙ ap (λ op. after ys (operated_or_joined limit k a v x op)) q
        ∙ ap (λ p. after ys (operated limit o p)) (settle_stays (line_of o) k a w)
        ∙ ap (λ v. after ys (expected v (shallow (nat_le (length k + 1 + height a) limit) (Go (Left o a ∷ k) Want)))) (both_true _ _ (le-leb (want k) (line_of o) w) (le-leb (left_line o) (line a) l))
        ∙ ap (λ v. after ys (shallow v (Go (Left o a ∷ k) Want))) (le-leb (length k + 1 + height a) limit (omega (arith, one_le b)))
        ∙ complete b (Left o a ∷ k) ys zs m gb (omega arith) (closes_more (line_of o) (line b) zs (omega (arith, m, line_lt_right o)) c)
        ∙ past limit (Left o a) k b zs (past_left o a zs c)
        ∙ ap (λ s. verdict limit k (Have (binary s o a b)) zs) (sym p)
    complete (group s a) k xs zs w (lp, rp, ys, e, p, l, g) h c =
        ap (verdict limit k Want) e
        ∙ ap (λ b. after ys (shallow b (Go (Group lp ∷ k) Want))) (lt-ltb (length k + 1) limit (omega (arith, one_le a)))
        ∙ complete a (Group lp ∷ k) ys (placed (a_symbol RightParen) rp ∷ zs) l g (omega arith) tt
        ∙ ap (λ s. verdict limit k (Have (group s a)) zs) (sym p)

    complete_arguments : (ts : Terms) (n : List ℕ) (b r : Span) (k : List Frame) (xs zs : List Placed) → SpellsArguments ts r xs zs → heights ts + (length k + 1) ≤ limit
        → verdict limit k (First n b) xs ≡ verdict limit k (Have (call (across b r) n ts)) zs
    complete_arguments no_terms n b r k xs zs g h = ap (verdict limit k (First n b)) g
    complete_arguments (and_term t ts) n b r k xs zs (ys, g, m) h =
        first_argument limit n b k xs (begins t xs ys g)
        ∙ complete t (Call n b [] ∷ k) xs ys (omega arith) g (omega arith) (closes_argument ts r (line t) ys zs m)
        ∙ complete_more ts n b r [] t k ys zs m (omega arith)

    complete_more : (ts : Terms) (n : List ℕ) (b r : Span) (done : List Term) (t : Term) (k : List Frame) (xs zs : List Placed) → SpellsMore ts r xs zs → heights ts + (length k + 1) ≤ limit
        → verdict limit (Call n b done ∷ k) (Have t) xs ≡ verdict limit k (Have (call (across b r) n (joined done (and_term t ts)))) zs
    complete_more no_terms n b r done t k xs zs g h =
        ap (verdict limit (Call n b done ∷ k) (Have t)) g
        ∙ ap (λ ts. verdict limit k (Have (call (across b r) n ts)) zs) (joined_last done t)
    complete_more (and_term u us) n b r done t k xs zs (w, ys, ws, e, g, m) h =
        ap (verdict limit (Call n b done ∷ k) (Have t)) e
        ∙ complete u (Call n b (done ++ t ∷ []) ∷ k) ys ws (omega arith) g (omega arith) (closes_argument us r (line u) ws zs m)
        ∙ complete_more us n b r (done ++ t ∷ []) u k ws zs m (omega arith)
        ∙ ap (λ ts. verdict limit k (Have (call (across b r) n ts)) zs) (joined_next done t (and_term u us))

  complete_create : (t : Term) (xs : List Placed) → SpellsCreate t xs [] → verdict limit [] Start xs ≡ Some t
  complete_create (create s n m) xs (c, a, b, e, ys, p, q, g) =
      ap (verdict limit [] Start) p
      ∙ new_shape_verdict [] c n ys ShapeStart
      ∙ ap (after_new_shape [] c n) (shape_read m e ys [] g)
      ∙ ap (λ s. Some (create s n m)) (sym q)
  complete_create _ xs h = absurd h

  read_derived : (t : Term) (xs : List Placed) → height t ≤ limit → SpellsCreate t xs [] ⊎ ((1 ≤ line t) × Spells t xs []) → verdict limit [] Start xs ≡ Some t
  read_derived t xs h (inl g) = complete_create t xs g
  read_derived t xs h (inr (l, g)) = first_of_statement limit [] xs (begins t xs [] g) ∙ complete t [] xs [] l g (omega arith) tt

-- the tree of a statement is what the reader comes to
pub read_again : (limit : ℕ) (ts : List Placed) (t : Term) → IsStatement limit ts t → verdict limit [] Start ts ≡ Some t
read_again limit ts t s = read_derived limit t ts s.depth s.derived
