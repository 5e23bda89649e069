-- The backup of a database of no arrays, and texts that differ from it.
use Rattle.std.specs.Prelude.{◌≡◌, ℕ, List, [], ◌∷◌, ◌++◌, length, Ok}
use Rattle.backup_format.specs.Backups.{backup, IsNoBackupAt}
use Rattle.backup_format.specs.Table.{backup_in}

-- the text, and the count of the arrays
abbrev pub front : List ℕ
front = 65 ∷ 70 ∷ 76 ∷ 68 ∷ 85 ∷ 77 ∷ 80 ∷ 49 ∷ 0 ∷ 0 ∷ 0 ∷ 0 ∷ []

-- the first 31 bytes of their digest
abbrev pub digest : List ℕ
digest = 111 ∷ 144 ∷ 166 ∷ 163 ∷ 168 ∷ 53 ∷ 27 ∷ 185 ∷ 182 ∷ 235 ∷ 15 ∷ 59 ∷ 62 ∷ 111 ∷ 139 ∷ 88
    ∷ 175 ∷ 74 ∷ 137 ∷ 242 ∷ 225 ∷ 171 ∷ 231 ∷ 87 ∷ 66 ∷ 180 ∷ 94 ∷ 171 ∷ 85 ∷ 45 ∷ 156 ∷ []

abbrev pub EmptyBackup : Type 0
EmptyBackup = (backup [] ≡ front ++ (digest ++ 172 ∷ [])) × (length (backup []) ≡ 44)

abbrev pub EmptyIsRead : Type 0
EmptyIsRead = backup_in (front ++ (digest ++ 172 ∷ [])) ≡ Ok []

-- the first byte changed, the last byte changed, the last byte cut off, one byte more
abbrev pub ChangedText : Type 0
ChangedText = IsNoBackupAt 0 (64 ∷ 70 ∷ 76 ∷ 68 ∷ 85 ∷ 77 ∷ 80 ∷ 49 ∷ 0 ∷ 0 ∷ 0 ∷ 0 ∷ (digest ++ 172 ∷ []))

abbrev pub ChangedDigest : Type 0
ChangedDigest = IsNoBackupAt 12 (front ++ (digest ++ 173 ∷ []))

abbrev pub CutDigest : Type 0
CutDigest = IsNoBackupAt 12 (front ++ digest)

abbrev pub OneByteMore : Type 0
OneByteMore = IsNoBackupAt 44 (front ++ (digest ++ 172 ∷ 0 ∷ []))
