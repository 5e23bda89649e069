-- From token to token.
use Rattle.std.proofs.Common.{◌≡◌, ℕ, suc, ◌+◌, ◌≤◌, ◌<◌, Some, List, [], ◌∷◌, length, map, take, drop, sym, ap, subst, ◌∙◌, arith, slice_index_or, Err}
use Rattle.std.proofs.Math.Seq.{take-length, drop-cons}
use Rattle.std.proofs.lemmas.List.{map_more, take-map, drop-map, length-map}
use Rattle.afl_lexer.specs.declared.token.Token.{Token}
use Rattle.afl_lexer.specs.Lexemes.{lexeme_of, Placed}
use Rattle.afl_trees.specs.Term.{Term}
use Rattle.afl_trees.specs.Grammar.{IsStatement, Stops}
use Rattle.afl_trees.specs.Statement.{lexemes}
use Rattle.afl_parser.specs.Inner.Machine.{Go, turn, run, go_on, finish, finished, Fits}
use Rattle.afl_parser.specs.Inner.Reply.{Gives, GivesWhole, placed, IsTokenStop}
use Rattle.afl_parser.specs.declared.frame.Frame.{Frame}
use Rattle.afl_parser.specs.declared.frame.Focus.{Focus}
use Rattle.afl_parser.specs.declared.frame.Focus.TheVariants.{Start}
use Rattle.afl_parser.specs.declared.reader.Reader.{Reader}
use Rattle.afl_parser.specs.declared.reader.Fault.{Fault}
use Rattle.afl_parser.specs.declared.reader.Fault.TheVariants as fault
use Rattle.afl_parser.proofs.Fitting.{FitsTurn}
use Rattle.afl_parser.proofs.Sound.{read_is_statement}
use Rattle.afl_parser.proofs.Stopping.{run_one, fits_run, stops_here, stops_at_end}

pub fits_reached : (p : List Placed) (k : List Frame) (f : Focus) → run 128 [] Start p ≡ Go k f → Fits 128 k f
fits_reached p k f e = subst (FitsTurn 128) e (fits_run 128 p [] Start (omega arith, tt))

module _ (text : List ℕ) (ts : List Token) where
  -- the reader went over the first tokens
  abbrev pub Reached : ℕ → List Frame → Focus → Type 0
  Reached i k f = run 128 [] Start (lexemes text (take i ts)) ≡ Go k f

  pub next_reached : (i : ℕ) (d : Token) (k : List Frame) (f : Focus) (r : Reader) → i < length ts → Reached i k f
      → turn 128 k f (lexeme_of text (slice_index_or ts i d)) ≡ Go r.stack r.focus → Reached (i + 1) r.stack r.focus
  next_reached i d k f r h e s =
      ap (run 128 [] Start) (map_more (lexeme_of text) ts i d h)
      ∙ run_one 128 (lexemes text (take i ts)) (lexeme_of text (slice_index_or ts i d)) k f e
      ∙ ap (λ t. go_on t (λ k f. Go k f)) s

  -- what is left begins with the next token
  rest_is : (i : ℕ) (d : Token) → i < length ts → drop i (lexemes text ts) ≡ lexeme_of text (slice_index_or ts i d) ∷ lexemes text (drop (suc i) ts)
  rest_is i d h = drop-map (lexeme_of text) i ts ∙ ap (map (lexeme_of text)) (drop-cons ts i d h)

  front_is : (i : ℕ) (k : List Frame) (f : Focus) → Reached i k f → run 128 [] Start (take i (lexemes text ts)) ≡ Go k f
  front_is i k f e = ap (run 128 [] Start) (take-map (lexeme_of text) i ts) ∙ e

  -- A stop at a fault.

  pub stops_at : (i : ℕ) (d : Token) (k : List Frame) (f : Focus) (e : Fault) → i < length ts → Reached i k f
      → Gives (Err e) (turn 128 k f (lexeme_of text (slice_index_or ts i d))) → IsTokenStop 128 (lexemes text ts) (placed i e)
  stops_at i d k f (fault.Stop kind) h e s =
      stops_here 128 (lexemes text ts) i (lexeme_of text (slice_index_or ts i d)) (lexemes text (drop (suc i) ts)) k f kind
      (omega arith) (omega (arith, length-map ts (lexeme_of text))) (front_is i k f e) (rest_is i d h) s
  stops_at i d k f fault.Memory h e s = tt

  pub all_reached : (i : ℕ) (k : List Frame) (f : Focus) → i ≤ length ts → length ts ≤ i → Reached i k f → run 128 [] Start (lexemes text ts) ≡ Go k f
  all_reached i k f a b e =
      let same : i ≡ length ts = omega arith in
      ap (λ l. run 128 [] Start (lexemes text l)) (sym (take-length ts) ∙ ap (λ n. take n ts) (sym same)) ∙ e

  pub stop_at_end : (k : List Frame) (f : Focus) (e : Fault) → run 128 [] Start (lexemes text ts) ≡ Go k f
      → GivesWhole (Err e) (finished k f) → IsTokenStop 128 (lexemes text ts) (placed (length ts) e)
  stop_at_end k f (fault.Stop kind) e s =
      subst (λ n. Stops 128 (lexemes text ts) n kind) (length-map ts (lexeme_of text))
      (subst (λ kind. Stops 128 (lexemes text ts) (length (lexemes text ts)) kind) (sym s.0) (stops_at_end 128 (lexemes text ts) k f (omega arith) e s.1))
  stop_at_end k f fault.Memory e s = tt

-- The whole tree.

pub statement_reached : (xs : List Placed) (k : List Frame) (f : Focus) (t : Term) → run 128 [] Start xs ≡ Go k f → finished k f ≡ Some t → IsStatement 128 xs t
statement_reached xs k f t e s = read_is_statement 128 xs t (omega arith) (ap finish e ∙ s)
