-- Each list of tokens has a tree or a stop.
use Rattle.std.proofs.Common.{◌≡◌, ◌⊎◌, inl, inr, ℕ, Option, Some, None, List, [], ◌∷◌, ◌++◌, length, refl, sym, ap, subst, ◌∙◌, arith, append_assoc}
use Rattle.std.proofs.lemmas.List.{append-nil, length-append}
use Rattle.std.proofs.Math.Seq.{take-append_seam, drop-append_seam}
use Rattle.afl_lexer.specs.Lexemes.{Placed}
use Rattle.afl_trees.specs.Term.{Term}
use Rattle.afl_trees.specs.Grammar.{IsStatement, Stops}
use Rattle.afl_parser.specs.Inner.Machine.{Turn, Go, Stop, turn, run, go_on, finished}
use Rattle.afl_trees.specs.declared.kind.StopKind.{StopKind}
use Rattle.afl_trees.specs.declared.kind.StopKind.TheVariants.{Unexpected}
use Rattle.afl_parser.specs.declared.frame.Frame.{Frame}
use Rattle.afl_parser.specs.declared.frame.Focus.{Focus}
use Rattle.afl_parser.specs.declared.frame.Focus.TheVariants.{Start}
use Rattle.afl_parser.proofs.Stopping.{run_one, stops_here, stops_at_end}
use Rattle.afl_parser.proofs.Parsing.{statement_reached}

abbrev AStop : List Placed → Type 0
AStop ts = (at : ℕ) × (kind : StopKind) × Stops 128 ts at kind

abbrev pub TreeOrStop : List Placed → Type 0
TreeOrStop ts = ((t : Term) × IsStatement 128 ts t) ⊎ AStop ts

at_last : (ts : List Placed) (k : List Frame) (f : Focus) (whole : Option Term) → run 128 [] Start ts ≡ Go k f → finished k f ≡ whole → TreeOrStop ts
at_last ts k f (Some t) e s = inl (t, statement_reached ts k f t e s)
at_last ts k f None e s = inr (length ts, Unexpected, stops_at_end 128 ts k f (omega arith) e s)

stops_after : (done : List Placed) (x : Placed) (rest : List Placed) (k : List Frame) (f : Focus) (kind : StopKind)
    → run 128 [] Start done ≡ Go k f → turn 128 k f x ≡ Stop kind → Stops 128 (done ++ x ∷ rest) (length done) kind
stops_after done x rest k f kind e s =
    stops_here 128 (done ++ x ∷ rest) (length done) x rest k f kind (omega arith) (omega (arith, length-append done (x ∷ rest)))
    (ap (run 128 [] Start) (take-append_seam done (x ∷ rest)) ∙ e) (drop-append_seam done (x ∷ rest)) s

after_turn : (done : List Placed) (x : Placed) (rest : List Placed) (k : List Frame) (f : Focus) (next : Turn)
    → run 128 [] Start done ≡ Go k f → turn 128 k f x ≡ next
    → ((j : List Frame) (g : Focus) → run 128 [] Start (done ++ x ∷ []) ≡ Go j g → TreeOrStop ((done ++ x ∷ []) ++ rest)) → TreeOrStop (done ++ x ∷ rest)
after_turn done x rest k f (Go j g) e s later =
    subst TreeOrStop (append_assoc done (x ∷ []) rest) (later j g (run_one 128 done x k f e ∙ ap (λ t. go_on t (λ k f. Go k f)) s))
after_turn done x rest k f (Stop kind) e s later = inr (length done, kind, stops_after done x rest k f kind e s)

-- the reader went over the first tokens, and goes on with the rest
goes_on_so : (rest done : List Placed) (k : List Frame) (f : Focus) → run 128 [] Start done ≡ Go k f → TreeOrStop (done ++ rest)
goes_on_so [] done k f e = subst TreeOrStop (sym (append-nil done)) (at_last done k f (finished k f) e refl)
goes_on_so (x ∷ rest) done k f e = after_turn done x rest k f (turn 128 k f x) e refl (λ j g r. goes_on_so rest (done ++ x ∷ []) j g r)

pub tree_or_stop : (ts : List Placed) → TreeOrStop ts
tree_or_stop ts = goes_on_so ts [] [] Start refl
