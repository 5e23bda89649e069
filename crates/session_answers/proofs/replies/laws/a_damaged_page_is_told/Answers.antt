use Rattle.std.proofs.Common.{◌≡◌, ◌∙◌, ℕ, refl, inl, List, [], ◌∷◌, Some, sym, subst}
use Rattle.std.proofs.lemmas.List.Elements.{Contains-push}
use Rattle.std.proofs.lemmas.Option.{none-some}
use Rattle.page_chain.specs.Pages.{first_past, page_size}
use Rattle.chunk_map.specs.declared.directory.DirEntry.{DirEntry}
use Rattle.store_versions.specs.Versions.{MadeVersion}
use Rattle.store_state.specs.Payloads.{HasTold, WasDamagedAt}
use Rattle.store_state.specs.Worked.{worked_directory}
use Rattle.event_core.specs.declared.entry.Entry.TheVariants.{Pin}
use Rattle.array_store.specs.Told.{told}
use Rattle.array_store.specs.Worked.{worked_leaf, worked_seen, worked_start}
use Rattle.session_answers.specs.RepliesWorked.{empty_moment}
use Rattle.session_answers.proofs.replies.laws.a_damaged_page_is_told.Goals as goal

same_file : (file : List ℕ) → Some [] ≡ Some file → [] ≡ file
same_file file e = cc

abbrev payload : DirEntry
payload = record { at = record { items = 0 ∷ [] }; length = 66; birth = 2; pages = 4 ∷ [] }

abbrev version : MadeVersion
version = record { name = worked_leaf.name; version = 1; directory = worked_directory }

-- the page lies behind the end
behind_end : first_past page_size [] (4 ∷ []) ≡ Some 4
unfolding page_size
behind_end = refl

torn : (file : List ℕ) → HasTold (empty_moment tt).state file → WasDamagedAt 4 (told worked_start worked_seen).first file worked_leaf.schema
torn file tells = subst (λ (bytes : List ℕ). WasDamagedAt 4 (told worked_start worked_seen).first bytes worked_leaf.schema) (same_file file tells.tells) (record {
  entry = payload;
  listed = record { version = version; made = Contains-push [] version; lists = Contains-push [] payload };
  begins = refl;
  damaged = λ whole. none-some 4 (sym whole.within ∙ behind_end);
})

pub returns : goal.returns
returns c = record {
  page = record { leaf = worked_leaf; at = record { items = 0 ∷ [] }; named = (refl, inl refl); begins = refl; was = torn };
  later = record { leaf = worked_leaf; at = record { items = 0 ∷ [] }; named = (refl, inl refl); begins = refl; was = torn };
  fresh = record { later = Pin 1 ∷ Pin 0 ∷ []; grown = refl; left = (refl, tt); room = refl };
  looked = refl;
  made = refl;
}
