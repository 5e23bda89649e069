use Rattle.std.proofs.Common.{All, subst, sym, ◌∙◌, Err}
use Rattle.afl_lexer.specs.Tokens.{AreTokens, IsTokenOf}
use Rattle.afl_parser.specs.Outcome.{AnswersTree, AnswersStop, IsTextStop}
use Rattle.afl_parser.specs.declared.fault.ParseFault.{ParseFault}
use Rattle.afl_parser.proofs.Texts.{tree_only_tree, tree_no_stop, token_only_tree, token_only_stop, token_stop, lex_only_tree, lex_only_stop, lex_stop}
use Rattle.afl_parser.proofs.parser.parse.Goals as goal

pub returns-in-Ok-read_tokens-clause-only_tree : goal.returns-in-Ok-read_tokens-clause-only_tree
returns-in-Ok-read_tokens-clause-only_tree c =
    tree_only_tree c.args.text.now c.as_slice-tokens.result.now c.in-Ok-read_tokens.tree
    ((λ us a. c.as_slice-tokens.ensures ∙ c.in-Ok.ensures.only_tokens us a), c.in-Ok.ensures.only_stop) c.in-Ok-read_tokens.ensures.tree

pub returns-in-Ok-read_tokens-clause-only_stop : goal.returns-in-Ok-read_tokens-clause-only_stop
returns-in-Ok-read_tokens-clause-only_stop c =
    tree_no_stop c.args.text.now c.as_slice-tokens.result.now c.in-Ok-read_tokens.tree
    ((λ us a. c.as_slice-tokens.ensures ∙ c.in-Ok.ensures.only_tokens us a), c.in-Ok.ensures.only_stop) c.in-Ok-read_tokens.ensures.tree

pub returns-in-Ok-clause-only_tree : goal.returns-in-Ok-clause-only_tree
returns-in-Ok-clause-only_tree c t d =
    subst (λ (e : ParseFault). AnswersTree (Err e) t) (sym c.at_token.ensures)
    (token_only_tree c.args.text.now c.as_slice-tokens.result.now c.in-Err-read_tokens.fault
    ((λ us a. c.as_slice-tokens.ensures ∙ c.in-Ok.ensures.only_tokens us a), c.in-Ok.ensures.only_stop) c.in-Err-read_tokens.ensures.stop t d)

pub returns-in-Ok-clause-only_stop : goal.returns-in-Ok-clause-only_stop
returns-in-Ok-clause-only_stop c at kind s =
    subst (λ (e : ParseFault). AnswersStop (Err e) at kind) (sym c.at_token.ensures)
    (token_only_stop c.args.text.now c.as_slice-tokens.result.now c.in-Err-read_tokens.fault
    ((λ us a. c.as_slice-tokens.ensures ∙ c.in-Ok.ensures.only_tokens us a), c.in-Ok.ensures.only_stop) c.in-Err-read_tokens.ensures.stop at kind s)

pub returns-clause-only_tree : goal.returns-clause-only_tree
returns-clause-only_tree c t d =
    subst (λ (e : ParseFault). AnswersTree (Err e) t) (sym c.in_token.ensures) (lex_only_tree c.args.text.now c.in-Err.fault c.in-Err.ensures.only_tokens t d)

pub returns-clause-only_stop : goal.returns-clause-only_stop
returns-clause-only_stop c at kind s =
    subst (λ (e : ParseFault). AnswersStop (Err e) at kind) (sym c.in_token.ensures)
    (lex_only_stop c.args.text.now c.in-Err.fault c.in-Err.ensures.only_tokens c.in-Err.ensures.only_stop at kind s)

pub read_tokens-requires : goal.read_tokens-requires
read_tokens-requires c = subst (All (IsTokenOf c.args.text.now)) (sym c.as_slice-tokens.ensures) c.in-Ok.ensures.each

pub returns-in-Ok-clause-stop : goal.returns-in-Ok-clause-stop
returns-in-Ok-clause-stop c =
    subst (IsTextStop c.args.text.now) (sym c.at_token.ensures)
    (token_stop c.args.text.now c.as_slice-tokens.result.now c.in-Err-read_tokens.fault
    (subst (AreTokens c.args.text.now) (sym c.as_slice-tokens.ensures) c.in-Ok.ensures.tokens) c.in-Err-read_tokens.ensures.stop)

pub returns-clause-stop : goal.returns-clause-stop
returns-clause-stop c =
    subst (IsTextStop c.args.text.now) (sym c.in_token.ensures) (lex_stop c.args.text.now c.in-Err.fault c.in-Err.ensures.stop)
