-- Only behind a tree may a statement end.
use Rattle.std.proofs.Common.{◌≡◌, None, List, refl}
use Rattle.afl_trees.specs.Term.{Term}
use Rattle.afl_parser.specs.Inner.Machine.{finished}
use Rattle.afl_parser.specs.declared.frame.Frame.{Frame}
use Rattle.afl_parser.specs.declared.frame.Focus.{Focus}
use Rattle.afl_parser.specs.declared.frame.Focus.TheVariants.{Made, Have}

pub none_finished : (k : List Frame) (f : Focus) → ((t : Term) → f ≡ Have t → ⊥) → ((t : Term) → f ≡ Made t → ⊥) → finished k f ≡ None
none_finished k (Have t) h m = absurd (h t refl)
none_finished k (Made t) h m = absurd (m t refl)
none_finished k _ h m = refl
