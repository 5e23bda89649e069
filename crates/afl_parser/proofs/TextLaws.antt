-- Each text has a tree or a stop, and only one.
use Rattle.std.proofs.Common.{◌⊎◌, inl, inr, ℕ, List, drop, refl, sym, ap, ◌∙◌}
use Rattle.afl_lexer.specs.declared.token.Token.{Token}
use Rattle.afl_lexer.specs.declared.token.LexKind.{LexKind}
use Rattle.afl_lexer.specs.Tokens.{AreTokens, LexStops}
use Rattle.afl_lexer.specs.Outcome as lexer
use Rattle.afl_trees.specs.Term.{Term}
use Rattle.afl_trees.specs.Statement.{lexemes, DerivesText, StopsText, start_of, lexical, syntactic}
use Rattle.afl_parser.specs.Outcome.{HasTreeOrStop, HasNotBoth, HasOneTree, HasOneStop}
use Rattle.afl_trees.specs.declared.kind.ParseKind.{ParseKind}
use Rattle.afl_parser.specs.declared.parser.TokenFault.TheVariants as token_fault
use Rattle.afl_parser.proofs.Either.{TreeOrStop, tree_or_stop}
use Rattle.afl_parser.proofs.Texts.{OnlyTokens, tree_only_tree, tree_no_stop, token_only_stop}

-- a text has a tree, or a stop
abbrev TextTreeOrStop : List ℕ → Type 0
TextTreeOrStop text = ((t : Term) × DerivesText text t) ⊎ ((at : ℕ) × (kind : ParseKind) × StopsText text at kind)

from_tokens : (text : List ℕ) (ts : List Token) → AreTokens text ts → TreeOrStop (lexemes text ts) → TextTreeOrStop text
from_tokens text ts a (inl (t, s)) = inl (t, record { tokens = ts; cut = a; statement = s })
from_tokens text ts a (inr (i, kind, s)) =
    inr (start_of text (drop i ts), syntactic kind, inr (record { tokens = ts; cut = a; index = i; stop_kind = kind; stop = s; same_place = refl; same_kind = refl }))

from_lexer : (text : List ℕ) → ((tokens : List Token) × AreTokens text tokens) ⊎ ((at : ℕ) × (kind : LexKind) × LexStops text at kind) → TextTreeOrStop text
from_lexer text (inl (ts, a)) = from_tokens text ts a (tree_or_stop (lexemes text ts))
from_lexer text (inr (at, kind, s)) = inr (at, lexical kind, inl (record { lex_kind = kind; stop = s; same_kind = refl }))

pub text_tree_or_stop : lexer.HasTokensOrStop → HasTreeOrStop
text_tree_or_stop h text = from_lexer text (h text)

module _ (not_both : lexer.HasNotBoth) (one_list : lexer.HasOneList) where
  only_these : (text : List ℕ) (ts : List Token) → AreTokens text ts → OnlyTokens text ts
  only_these text ts a = ((λ us b. one_list text ts us a b), (λ at kind s. not_both text ts at kind a s))

  pub text_not_both : HasNotBoth
  text_not_both text t at kind d s = tree_no_stop text d.tokens t (only_these text d.tokens d.cut) d.statement at kind s

  pub text_one_tree : HasOneTree
  text_one_tree text t u d e = tree_only_tree text d.tokens t (only_these text d.tokens d.cut) d.statement u e

  pub text_one_stop : lexer.HasOneStop → HasOneStop
  text_one_stop one text at place kind why (inl l) (inl m) =
      let r = one text at place l.lex_kind m.lex_kind l.stop m.stop in (r.0, l.same_kind ∙ ap lexical r.1 ∙ sym m.same_kind)
  text_one_stop one text at place kind why (inl l) (inr r) = absurd (not_both text r.tokens at l.lex_kind r.cut l.stop)
  text_one_stop one text at place kind why (inr r) s =
      let o = token_only_stop text r.tokens (token_fault.At r.index r.stop_kind) (only_these text r.tokens r.cut) r.stop place why s in
      (r.same_place ∙ o.0, r.same_kind ∙ o.1)
