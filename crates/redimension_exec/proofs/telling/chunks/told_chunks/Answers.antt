use Rattle.std.proofs.Common.{length}
use Rattle.std.specs.Map.{values_of}
use Rattle.group_rows.proofs.TakenLaws.{none_left}
use Rattle.redimension_exec.proofs.TellLaws.{can_next, tell_first, tell_last, tell_next}
use Rattle.redimension_exec.proofs.telling.chunks.told_chunks.Goals as goal

pub telling-init : goal.telling-init
telling-init c = (c.requires.0, tell_first c.args.target.now c.args.margins.now.items c.requires.0 (values_of c.args.chunks.entries) c.in_ok-told.told c.in_ok-told.ensures c.requires.1)

pub told_chunk-requires : goal.told_chunk-requires
told_chunk-requires c =
    let so = c.telling.invariant in (
      so.0,
      can_next c.args.target.now c.args.margins.now.items so.0 (values_of c.args.chunks.entries) c.telling.told c.telling.chunks.entries c.pop_first.new.self.entries c.in-Some._number c.in-Some.chunk c.in-Some.ensures.removal so.1,
    )

pub telling-preserved : goal.telling-preserved
telling-preserved c =
    let so = c.telling.invariant in (
      so.0,
      tell_next c.args.target.now c.args.margins.now.items so.0 (values_of c.args.chunks.entries) c.telling.told c.push.new.self c.telling.chunks.entries c.pop_first.new.self.entries c.in-Some._number c.in-Some.chunk c.in_ok-next.next
          c.in-Some.ensures.removal c.in_ok-next.ensures c.in_ok-push.ensures.ok so.1,
    )

pub returns : goal.returns
returns c =
    let so = c.telling.invariant in
    let none = none_left c.pop_first.result (length c.telling.chunks.entries) c.in_default.not-Some c.pop_first.ensures.variant.1 in
    tell_last c.args.target.now c.args.margins.now.items so.0 (values_of c.args.chunks.entries) c.telling.told c.telling.chunks.entries none so.1
