use Rattle.std.proofs.Common.{◌∙◌, ap, sym, subst, length}
use Rattle.std.specs.List.{AllByRecursion}
use Rattle.array_geom.specs.Link.{NumbersRise, numbers}
use Rattle.chunk_rle.specs.Stored.{IsStored}
use Rattle.file_checking.proofs.PayloadLaws.{are_overlaps}
use Rattle.file_checking.proofs.overlaps.first_wrong_overlap.Goals as goal

pub first_wrong-requires-clause-stored : goal.first_wrong-requires-clause-stored
first_wrong-requires-clause-stored g c = subst (AllByRecursion (IsStored c.args.schema.now)) (sym c.as_slice.ensures) c.in-Ok.ensures.stored

pub first_wrong-requires-clause-rise : goal.first_wrong-requires-clause-rise
first_wrong-requires-clause-rise g c = subst NumbersRise (sym (ap numbers c.as_slice.ensures ∙ c.in-Ok.ensures.numbers)) c.requires.rise

pub first_wrong-requires-clause-each : goal.first_wrong-requires-clause-each
first_wrong-requires-clause-each g c = ap length c.as_slice-in-Ok.ensures ∙ c.in-Ok.ensures.each

pub returns-in-Ok-first_wrong-clause-told : goal.returns-in-Ok-first_wrong-clause-told
returns-in-Ok-first_wrong-clause-told g c = λ seen is.
    let read = c.in-Ok.ensures.told seen is in
    are_overlaps seen c.args.schema.now c.args.entries.now c.in-Ok.chunks c.as_slice.result.now c.in-Ok.payloads c.in-Ok-first_wrong.page read c.as_slice.ensures (c.in-Ok-first_wrong.ensures seen (c.as_slice-in-Ok.ensures ∙ read.payloads_are))
