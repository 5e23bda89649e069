-- What a reading of some bytes has to say.
use Rattle.std.proofs.Common.{◌≡◌, ◌≢◌, ℕ, ◌<◌, ◌≤◌, List, Some, length, take}
use Rattle.std.specs.Prelude.{slice_get}
use Rattle.afl_lexer.specs.declared.token.LexKind.{LexKind}
use Rattle.afl_lexer.specs.declared.token.LexKind.TheVariants.{UnknownCharacter, OpenText}
use Rattle.afl_lexer.specs.declared.reading.Reading.{Reading}
use Rattle.afl_lexer.specs.declared.reading.Reading.TheVariants.{Found, Wrong}
use Rattle.afl_lexer.specs.Tokens.{IsForm, IsSpelled, IsWrong}
use Rattle.afl_lexer.proofs.Fronts.{IsFront}

abbrev pub NoFront : List ℕ → Type 0
NoFront bytes = (m : ℕ) → m ≤ length bytes → IsForm (take m bytes) → ⊥

abbrev pub FailsFront : List ℕ → LexKind → ℕ → Type 0
FailsFront bytes UnknownCharacter at = (at ≡ 0) × NoFront bytes × (slice_get bytes 0 ≢ Some 39)
FailsFront bytes OpenText at = (at ≡ 0) × NoFront bytes × (slice_get bytes 0 ≡ Some 39)
FailsFront bytes kind at = (n : ℕ) × IsFront IsForm bytes n × IsWrong kind (take n bytes) at

abbrev pub IsRight : List ℕ → Reading → Type 0
IsRight bytes (Found kind n) = (0 < n) × IsFront IsForm bytes n × IsSpelled kind (take n bytes)
IsRight bytes (Wrong kind at) = FailsFront bytes kind at
