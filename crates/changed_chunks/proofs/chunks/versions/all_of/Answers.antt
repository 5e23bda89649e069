use Rattle.std.proofs.Common.{sym, subst}
use Rattle.array_parts.specs.Cores.{cores_of}
use Rattle.changed_chunks.specs.Inner.Writes.{IsStoreOf}
use Rattle.changed_chunks.proofs.Written.{all_written}
use Rattle.changed_chunks.proofs.chunks.versions.all_of.Goals as goal

pub returns : goal.returns
returns c = subst (IsStoreOf c.args.array.schema (cores_of c.args.array)) (sym c.whole_version.ensures) (all_written c.args.array c.requires)
