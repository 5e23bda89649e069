use Rattle.std.proofs.Common.{◌∙◌, List, ℕ, ap}
use Rattle.byteorder.specs.Endian.{little_number}
use Rattle.page_chain.proofs.FieldLemmas.{number_in_rest}
use Rattle.page_chain.proofs.slots.layout.fields.u32_in.Goals as goal

pub returns : goal.returns
returns c = c.read_u32.ensures ∙ ap (λ (xs : List ℕ). little_number 4 xs) c.split_at.ensures.back ∙ number_in_rest 4 c.args.at c.args.page.now
