-- What an honest disk has of each payload goes on over pins, unpins and reaps.
use Rattle.std.proofs.Common.{ℕ, not, nat_eq, List, ◌∷◌}
use Rattle.afl_outside.specs.Disk.{Moment}
use Rattle.event_core.specs.declared.entry.Entry.TheVariants.{Pin, Unpin, Reap}
use Rattle.event_core.specs.History.{History, OpenPin, names_at, open_pins}
use Rattle.store_versions.specs.declared.row.VersionRow.{VersionRow}
use Rattle.store_versions.specs.Versions.{Directories, versions_at}
use Rattle.store_state.specs.Payloads.{HavePayloads, HasPayloads, HoldsPayloads}
use Rattle.store_state.specs.Standings.{Standing}
use Rattle.store_state.specs.Inner.Keeping.{Keeping}
use Rattle.store_state.proofs.Lists.{all_push, all_filter}

module _ {D : Type 0} (moment : D → Moment) (s : Standing D) (k : Keeping) (file : List ℕ) (h : History) (given : Directories)
    (x : HoldsPayloads moment s k file h given) where
  abbrev Sees : OpenPin → List ℕ → Type 0
  Sees pin image = HavePayloads given.first file image (names_at s.ledger.base pin.before) (versions_at s.ledger.base given pin.before)

  pub payloads_pin : (session : ℕ) → HoldsPayloads moment s k file (Pin session ∷ h) given
  payloads_pin session = record {
    bytes = x.bytes;
    known = x.known;
    images = λ image left.
        let i : HasPayloads s.ledger.base given file h image = x.images image left in
        record { now = i.now; pinned = all_push (λ (pin : OpenPin). Sees pin image) (open_pins h) (record { session = session; before = h }) i.pinned i.now };
  }

  pub payloads_unpin : (session : ℕ) (rows : List VersionRow) → HoldsPayloads moment s (record k { rows = rows }) file (Unpin session ∷ h) given
  payloads_unpin session rows = record {
    bytes = x.bytes;
    known = x.known;
    images = λ image left.
        let i : HasPayloads s.ledger.base given file h image = x.images image left in
        record { now = i.now; pinned = all_filter (λ (pin : OpenPin). Sees pin image) (λ pin. not (nat_eq pin.session session)) (open_pins h) i.pinned };
  }

  pub payloads_reap : HoldsPayloads moment s k file (Reap ∷ h) given
  payloads_reap = record {
    bytes = x.bytes;
    known = x.known;
    images = λ image left.
        let i : HasPayloads s.ledger.base given file h image = x.images image left in
        record { now = i.now; pinned = i.pinned };
  }
