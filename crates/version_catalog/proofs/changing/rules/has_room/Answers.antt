use Rattle.std.proofs.Common.{ℕ, nat_lt, sym, ap, ◌∙◌}
use Rattle.version_catalog.proofs.Maps.{same_count}
use Rattle.version_catalog.proofs.changing.rules.has_room.Goals as goal

pub returns : goal.returns
returns c = ap (λ (n : ℕ). nat_lt n 1024) (c.len.ensures ∙ sym (same_count c.args.arrays.now))
