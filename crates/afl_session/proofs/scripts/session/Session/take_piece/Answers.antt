use Rattle.std.proofs.Common.{◌∙◌, length, inl, inr, sym}
use Rattle.std.proofs.lemmas.Bool.{eqb-true}
use Rattle.afl_session.proofs.ScriptsEnding.{nothing_in}
use Rattle.afl_session.proofs.scripts.session.Session.take_piece.Goals as goal

pub returns-then-is_empty-clause-taken : goal.returns-then-is_empty-clause-taken
returns-then-is_empty-clause-taken g c session first script own serving =
    inl (nothing_in c.args.bytes.now (eqb-true (length c.args.bytes.now) 0 (sym c.is_empty.ensures ∙ c.if-is_empty.true)), c.take_end-end.ensures.ends session first script own serving)

pub returns-in-Ok-clause-taken : goal.returns-in-Ok-clause-taken
returns-in-Ok-clause-taken g c session first script own serving = rw c.in-Ok.is at (c.take_bytes-taken.ensures.serving session first script own serving)

pub returns-in-Err-clause-taken : goal.returns-in-Err-clause-taken
returns-in-Err-clause-taken g c session first script own serving =
    inr (c.in-Err.stopped, c.end.ensures, rw c.in-Err.is at (c.take_bytes-taken.ensures.serving session first script own serving))
