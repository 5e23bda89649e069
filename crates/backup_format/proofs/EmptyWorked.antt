-- The backup of a database of no arrays, and texts that differ from it.
use Rattle.std.proofs.Common.{refl}
use Rattle.sha2.specs.Sha256.{sha256, first_words, schedule, rounds, compress, hash_after, digest_bytes}
use Rattle.file_items.specs.Items.{repeat}
use Rattle.backup_format.specs.Spelling.{spell_arrays}
use Rattle.backup_format.specs.Backups.{backup}
use Rattle.backup_format.specs.Table.{arrays_at, backup_in}
use Rattle.backup_format.specs.Worked.{EmptyBackup, EmptyIsRead, ChangedText, ChangedDigest, CutDigest, OneByteMore}

pub empty_backup : EmptyBackup
unfolding backup spell_arrays sha256 digest_bytes hash_after compress rounds schedule first_words
empty_backup = (refl, refl)

pub empty_is_read : EmptyIsRead
unfolding backup_in arrays_at repeat sha256 digest_bytes hash_after compress rounds schedule first_words
empty_is_read = refl

pub changed_text : ChangedText
unfolding backup_in arrays_at repeat sha256 digest_bytes hash_after compress rounds schedule first_words
changed_text = refl

pub changed_digest : ChangedDigest
unfolding backup_in arrays_at repeat sha256 digest_bytes hash_after compress rounds schedule first_words
changed_digest = refl

pub cut_digest : CutDigest
unfolding backup_in arrays_at repeat sha256 digest_bytes hash_after compress rounds schedule first_words
cut_digest = refl

pub one_byte_more : OneByteMore
unfolding backup_in arrays_at repeat sha256 digest_bytes hash_after compress rounds schedule first_words
one_byte_more = refl
