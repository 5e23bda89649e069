use Rattle.std.proofs.Common.{List, sym, ap, subst, ◌∙◌}
use Rattle.afl_trees.specs.Term.{Term}
use Rattle.afl_parser.specs.Inner.Machine.{settle, FitsBelow}
use Rattle.afl_parser.specs.declared.frame.Frame.{Frame}
use Rattle.afl_parser.proofs.Fitting.{fits_closed}
use Rattle.afl_parser.proofs.Settling.{settle_kept, settle_past}
use Rattle.afl_parser.proofs.reader.settle.Goals as goal

pub loop-frame-preserved : goal.loop-frame-preserved
loop-frame-preserved c =
    let line = c.args.line in
    let frame = c.in-Some.frame in
    let below = c.pop.new.self in
    let tree = c.loop-frame.tree in (
      ap (settle line below) c.in-Ok-close.ensures
          ∙ sym (settle_past line frame below tree (sym c.if-not-ends.ensures))
          ∙ ap (λ (k : List Frame). settle line k tree) (sym c.in-Some.ensures)
          ∙ c.loop-frame.invariant.0,
      subst (λ (t : Term). FitsBelow 128 (below, t)) (sym c.in-Ok-close.ensures)
          (fits_closed 128 frame below tree (subst (λ (k : List Frame). FitsBelow 128 (k, tree)) c.in-Some.ensures c.loop-frame.invariant.1)),
    )

pub returns-in-Ok-clause-fits : goal.returns-in-Ok-clause-fits
returns-in-Ok-clause-fits c =
    subst (λ (k : List Frame). FitsBelow 128 (k, c.loop-frame.tree)) (c.in-Some.ensures ∙ sym c.in-Ok.ensures) c.loop-frame.invariant.1

pub returns-in-Ok-clause-settled : goal.returns-in-Ok-clause-settled
returns-in-Ok-clause-settled c =
    let line = c.args.line in
    let tree = c.loop-frame.tree in
    sym c.loop-frame.invariant.0
    ∙ ap (λ (k : List Frame). settle line k tree) c.in-Some.ensures
    ∙ settle_kept line c.in-Some.frame c.pop.new.self tree (sym c.if-not-ends.ensures)
    ∙ ap (λ (k : List Frame). (k, tree)) (sym c.in-Ok.ensures)

pub returns-clause-settled : goal.returns-clause-settled
returns-clause-settled c =
    let tree = c.loop-frame.tree in
    sym c.loop-frame.invariant.0
    ∙ ap (λ (k : List Frame). settle c.args.line k tree) c.in_default.ensures.0
    ∙ ap (λ (k : List Frame). (k, tree)) (sym c.in_default.ensures.1)
