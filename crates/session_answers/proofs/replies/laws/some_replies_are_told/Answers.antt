use Rattle.std.proofs.Common.{◌≡◌, ℕ, ◌<◌, ◌≤◌, ◌-◌, ◌^◌, Bool, true, false, refl, inl, inr, List, [], ◌∷◌, ◌++◌, ap, sym, arith}
use Rattle.std.specs.Prelude.{codes}
use Rattle.std.proofs.lemmas.Bool.{true≢false}
use Rattle.afl_types.specs.declared.types.statements.checking.Typed.TheVariants.{Change as AChange}
use Rattle.check_rules.specs.Operators.{query_named, change_named}
use Rattle.plan_changes.specs.declared.change.Change.TheVariants.{Remove}
use Rattle.plan_changes.specs.Databases.{Database}
use Rattle.statement_replies.specs.Reply.{traced}
use Rattle.statement_replies.specs.Statements.{text_alone}
use Rattle.statement_replies.specs.declared.replies.style.Style.{Style}
use Rattle.store_state.specs.Standings.{BeganAs}
use Rattle.array_store.specs.Worked.{worked_leaf}
use Rattle.session_answers.specs.WorkedReplies.{unknown_moment}
use Rattle.session_answers.proofs.replies.laws.some_replies_are_told.Goals as goal

-- the file began as no database, as far as is known
unknown : (db : Database) → BeganAs (unknown_moment tt).state db → ⊥
unknown db began = true≢false (sym began.honest)

-- the numbers that the facts come to
one_of_two : 1 ≤ 2
one_of_two = omega arith

above_none : 0 < 4
above_none = omega arith

all_four : 4 ≤ 4
all_four = omega arith

next_number : 2 < 2 ^ 64 - 1
next_number = omega arith

-- no lines stand behind the removal, whether they are wanted or not
no_lines : (wanted : Bool) → traced (record { csv = false; trace = wanted }) [] ≡ []
no_lines true = refl
no_lines false = refl

removal_told : (style : Style) → text_alone (codes "ok\n") ≡ text_alone (codes "ok\n" ++ traced style [])
removal_told style = ap (λ (lines : List ℕ). text_alone (codes "ok\n" ++ lines)) (sym (no_lines style.trace))

pub returns : goal.returns
unfolding query_named change_named
returns c style = record {
  removed = (
    (record { version = []; catalogue = 5 ∷ 6 ∷ [] }, record { is = refl; later = one_of_two }),
    record { kind = (([], ([], refl, refl), removal_told style), refl); told = λ db began. absurd (unknown db began) },
    record { next = next_number; fits = record { count = 0; needed = λ db began. absurd (unknown db began); fits = omega arith } },
  );
  refused = (
    inr ((above_none, all_four), (Remove (codes "A"), refl)),
    record { kind = refl; told = λ db began. absurd (unknown db began) },
  );
  damaged = (
    inl refl,
    record { leaf = worked_leaf; at = record { items = 0 ∷ [] }; named = (refl, inl refl); begins = refl; was = λ file tells. absurd (true≢false (sym tells.honest)) },
    unknown,
    (AChange (Remove (codes "A")), refl),
  );
  full = record { then = []; others = []; behind = refl; at = record { later = []; grown = refl; count = refl }; full = refl };
}
