use Rattle.std.proofs.Common.{refl, inl, false, [], ◌∷◌}
use Rattle.array_store.specs.Worked.{worked_others, worked_removal}
use Rattle.array_store.proofs.told.told.laws.a_pin_sees_what_was.Goals as goal

pub returns : goal.returns
returns c = record {
  began = refl;
  first_told = refl;
  sealed = refl;
  open_pin = record { before = []; begun = refl; place = refl; names = refl };
  open_later = record { before = []; begun = refl; place = refl; names = refl };
  untried = refl;
  pinned_chunks = refl;
  chunks_now = refl;
  made = record {
    used = record { version = []; catalogue = 5 ∷ 6 ∷ [] };
    moment = 7;
    directory = record { entries = [] };
    tries = record {
      own = worked_removal;
      adds = record { others = []; theirs = refl; grown = refl };
      fresh = refl;
      tried = record { comes = false; faults = []; fault = inl refl; is = refl };
    };
  };
  turn = record { others = worked_others; theirs = refl; grown = refl };
  found = refl;
  own = refl;
  unpinned = refl;
}
