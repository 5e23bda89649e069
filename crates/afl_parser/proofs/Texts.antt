-- From tokens to texts.
use Rattle.std.proofs.Common.{◌≡◌, inl, inr, ℕ, Err, List, drop, refl, sym, ap, subst, ◌∙◌}
use Rattle.afl_lexer.specs.declared.token.Token.{Token}
use Rattle.afl_lexer.specs.declared.token.LexKind.{LexKind}
use Rattle.afl_lexer.specs.declared.token.LexFault.{LexFault}
use Rattle.afl_lexer.specs.declared.token.LexFault.TheVariants as lex
use Rattle.afl_lexer.specs.Tokens.{AreTokens, LexStops}
use Rattle.afl_lexer.specs.Outcome as lexer
use Rattle.afl_lexer.specs.Outcome.{IsStop, AnswersTokens}
use Rattle.afl_trees.specs.Term.{Term}
use Rattle.afl_trees.specs.Grammar.{IsStatement, Stops}
use Rattle.afl_trees.specs.Statement.{lexemes, DerivesText, StopsText, start_of, lexical, syntactic}
use Rattle.afl_parser.specs.Inner.Reply.{IsTokenStop, at_token, in_token}
use Rattle.afl_parser.specs.Outcome.{IsTextStop, AnswersTree, AnswersStop}
use Rattle.afl_trees.specs.declared.kind.StopKind.{StopKind}
use Rattle.afl_parser.specs.declared.parser.TokenFault.{TokenFault}
use Rattle.afl_parser.specs.declared.parser.TokenFault.TheVariants as token_fault
use Rattle.afl_trees.specs.declared.kind.ParseKind.{ParseKind}
use Rattle.afl_parser.proofs.Stopping.{one_tree, no_stop, one_stop}

module _ (text : List ℕ) where
  -- the text has no other tokens than these, and no stop within a token
  abbrev pub OnlyTokens : List Token → Type 0
  OnlyTokens ts = ((us : List Token) → AreTokens text us → ts ≡ us) × ((at : ℕ) (kind : LexKind) → LexStops text at kind → ⊥)

  statement_of : (ts us : List Token) (t : Term) → ts ≡ us → IsStatement 128 (lexemes text ts) t → IsStatement 128 (lexemes text us) t
  statement_of ts us t e s = subst (λ l. IsStatement 128 (lexemes text l) t) e s

  stop_of : (ts us : List Token) (i : ℕ) (kind : StopKind) → ts ≡ us → Stops 128 (lexemes text ts) i kind → Stops 128 (lexemes text us) i kind
  stop_of ts us i kind e s = subst (λ l. Stops 128 (lexemes text l) i kind) e s

  -- The tokens have a tree.

  pub tree_only_tree : (ts : List Token) (t : Term) → OnlyTokens ts → IsStatement 128 (lexemes text ts) t → (u : Term) → DerivesText text u → t ≡ u
  tree_only_tree ts t o s u d = one_tree 128 (lexemes text d.tokens) t u (statement_of ts d.tokens t (o.0 d.tokens d.cut) s) d.statement

  pub tree_no_stop : (ts : List Token) (t : Term) → OnlyTokens ts → IsStatement 128 (lexemes text ts) t → (at : ℕ) (kind : ParseKind) → StopsText text at kind → ⊥
  tree_no_stop ts t o s at kind (inl l) = o.1 at l.lex_kind l.stop
  tree_no_stop ts t o s at kind (inr r) = no_stop 128 (lexemes text r.tokens) t r.index r.stop_kind (statement_of ts r.tokens t (o.0 r.tokens r.cut) s) r.stop

  -- The tokens stop.

  pub token_stop : (ts : List Token) (fault : TokenFault) → AreTokens text ts → IsTokenStop 128 (lexemes text ts) fault → IsTextStop text (at_token text ts fault)
  token_stop ts (token_fault.At i kind) a s = inr (record { tokens = ts; cut = a; index = i; stop_kind = kind; stop = s; same_place = refl; same_kind = refl })
  token_stop ts token_fault.Memory a s = tt

  pub token_only_tree : (ts : List Token) (fault : TokenFault) → OnlyTokens ts → IsTokenStop 128 (lexemes text ts) fault → (u : Term) → DerivesText text u → AnswersTree (Err (at_token text ts fault)) u
  token_only_tree ts (token_fault.At i kind) o s u d = no_stop 128 (lexemes text d.tokens) u i kind d.statement (stop_of ts d.tokens i kind (o.0 d.tokens d.cut) s)
  token_only_tree ts token_fault.Memory o s u d = tt

  pub token_only_stop : (ts : List Token) (fault : TokenFault) → OnlyTokens ts → IsTokenStop 128 (lexemes text ts) fault
      → (at : ℕ) (kind : ParseKind) → StopsText text at kind → AnswersStop (Err (at_token text ts fault)) at kind
  token_only_stop ts (token_fault.At i k) o s at kind (inl l) = absurd (o.1 at l.lex_kind l.stop)
  token_only_stop ts (token_fault.At i k) o s at kind (inr r) =
      let same : ts ≡ r.tokens = o.0 r.tokens r.cut in
      let one : (i ≡ r.index) × (k ≡ r.stop_kind) = one_stop 128 (lexemes text r.tokens) i r.index k r.stop_kind (stop_of ts r.tokens i k same s) r.stop in
      (ap (λ l. start_of text (drop i l)) same ∙ ap (λ n. start_of text (drop n r.tokens)) one.0 ∙ sym r.same_place, ap syntactic one.1 ∙ sym r.same_kind)
  token_only_stop ts token_fault.Memory o s at kind r = tt

  -- The text stops within a token.

  pub lex_stop : (fault : LexFault) → IsStop text fault → IsTextStop text (in_token fault)
  lex_stop (lex.At at kind) s = inl (record { lex_kind = kind; stop = s; same_kind = refl })
  lex_stop lex.Memory s = tt

  pub lex_only_tree : (fault : LexFault) → ((us : List Token) → AreTokens text us → AnswersTokens (Err fault) us) → (u : Term) → DerivesText text u → AnswersTree (Err (in_token fault)) u
  lex_only_tree (lex.At at kind) o u d = o d.tokens d.cut
  lex_only_tree lex.Memory o u d = tt

  pub lex_only_stop : (fault : LexFault) → ((us : List Token) → AreTokens text us → AnswersTokens (Err fault) us)
      → ((at : ℕ) (kind : LexKind) → LexStops text at kind → lexer.AnswersStop (Err fault) at kind)
      → (at : ℕ) (kind : ParseKind) → StopsText text at kind → AnswersStop (Err (in_token fault)) at kind
  lex_only_stop (lex.At a k) o p at kind (inl l) = let r = p at l.lex_kind l.stop in (r.0, ap lexical r.1 ∙ sym l.same_kind)
  lex_only_stop (lex.At a k) o p at kind (inr r) = absurd (o r.tokens r.cut)
  lex_only_stop lex.Memory o p at kind r = tt
