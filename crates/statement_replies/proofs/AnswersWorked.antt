-- Statements over stored arrays: their forms, a change that is one over some names and breaks a rule over others, and an outcome in a
-- database that a source tells.
use Rattle.std.proofs.Common.{◌≡◌, ℕ, pos, Bool, true, false, None, Some, Ok, List, [], ◌∷◌, refl, ap, sym, arith}
use Rattle.std.specs.Prelude.{codes}
use Rattle.cell_values.specs.declared.name.Span.{Span}
use Rattle.cell_values.specs.declared.datum.Cell.TheVariants.{Full}
use Rattle.cell_values.specs.declared.datum.Datum.TheVariants.{Int}
use Rattle.cell_values.specs.declared.datum.Row.{Row}
use Rattle.cell_values.specs.declared.schema.Schema.{Schema}
use Rattle.cell_values.specs.declared.schema.Kind.TheVariants.{Int64}
use Rattle.schema_grammar.specs.declared.kinds.TypeKind.TheVariants.{UnknownArray}
use Rattle.afl_trees.specs.Term.{Term, reference, call, no_terms, and_term}
use Rattle.logical_plan.specs.Query.{scanned}
use Rattle.logical_plan.specs.declared.names.NameEntry.{NameEntry}
use Rattle.logical_plan.specs.declared.names.Names.{Names}
use Rattle.plan_changes.specs.declared.change.Change.{Change}
use Rattle.plan_changes.specs.declared.change.Change.TheVariants.{Insert, Remove}
use Rattle.plan_changes.specs.Databases.{Database, names_of, rows_of}
use Rattle.plan_changes.specs.Stored.{IsDatabase}
use Rattle.check_rules.specs.Checked.{refused as broken_rule}
use Rattle.check_rules.specs.Operators.{query_named, change_named}
use Rattle.afl_types.specs.Checking.{check_of}
use Rattle.afl_types.specs.declared.types.statements.checking.Typed.TheVariants.{Change as AChange, Versions}
use Rattle.chunk_source.specs.Source.{SourceState, asks}
use Rattle.result_print.specs.declared.refusal.Refusal.TheVariants.{Typing}
use Rattle.statement_replies.specs.Reply.{refused, traced}
use Rattle.statement_replies.specs.declared.replies.replies.Reply.{Reply}
use Rattle.statement_replies.specs.Statements.{change_reply, reply_to, text_alone}
use Rattle.statement_replies.specs.declared.replies.style.Style.{Style}
use Rattle.statement_replies.specs.declared.answers.outcome.Outcome.{Outcome}
use Rattle.statement_replies.specs.declared.answers.outcome.Outcome.TheVariants.{Replied, Changes}
use Rattle.statement_replies.specs.Forms.{a_change, a_listing, form_said}
use Rattle.statement_replies.specs.Outcomes.{HasOutcomeKind, IsOutcomeOf, IsToldBy, all_asked, asked_for}

at : ℕ → ℕ → Span
at a b = record { start = a; end = b }

line : Schema
line = record { attributes = record { name = codes "v"; kind = Int64; nullable = true } ∷ []; dimensions = record { name = codes "i"; lo = pos 0; hi = pos 4; chunk = 5; overlap = 0 } ∷ [] }

entry : List ℕ → List ℕ → NameEntry
entry name versions = record { name = name; schema = line; next = 4; versions = versions }

both : Names
both = record { arrays = entry (codes "A") (1 ∷ 3 ∷ []) ∷ entry (codes "B") (2 ∷ []) ∷ [] }

-- insert(B, A)
tree : Term
tree = call (at 0 12) (codes "insert") (and_term (reference (at 7 8) (codes "B")) (and_term (reference (at 10 11) (codes "A")) no_terms))

change : Change
change = Insert (codes "A") line (scanned (record { name = codes "B"; version = 2; schema = line }))

form_is : form_said tree ≡ a_change
unfolding tree query_named change_named
form_is = refl

change_is : check_of tree [] both ≡ Ok (AChange change)
unfolding tree both entry line change at query_named change_named
change_is = refl

-- each version has one chunk
abbrev source : SourceState
source = record {
  stored = λ name version. None;
  chunks = λ name version. record { items = 0 ∷ [] } ∷ [];
  tells = λ rows. rows ≡ (λ name version. []);
  asked = [];
  damaged = None;
  faults = 0;
}

row : Row
row = record { at = record { items = pos 1 ∷ [] }; cell = Full (Int (pos 7) ∷ []) }

-- that of version 2 of B is asked for, and where a row is put in, then that of version 3 of A, its newest one
puts_one : all_asked (row ∷ []) source both (Ok (AChange change)) ≡ asks 0 (record { items = 0 ∷ [] }) ∷ asks 1 (record { items = 0 ∷ [] }) ∷ []
unfolding both entry change line row
puts_one = refl

-- where none is put in, none of A
puts_none : all_asked [] source both (Ok (AChange change)) ≡ asks 0 (record { items = 0 ∷ [] }) ∷ []
unfolding both entry change line
puts_none = refl

-- nor where the change is refused
refused_asks : (reply : Reply) → asked_for (row ∷ []) source both (Ok (AChange change)) (Replied reply) ≡ asks 0 (record { items = 0 ∷ [] }) ∷ []
unfolding both entry change line row
refused_asks reply = refl

-- where B isn't stored a rule is broken, and the outcome is a refusal
alone : Names
alone = record { arrays = entry (codes "A") (1 ∷ 3 ∷ []) ∷ [] }

is_broken : check_of tree [] alone ≡ broken_rule (at 7 8) UnknownArray
unfolding tree alone entry at query_named change_named
is_broken = refl

is_refused : (style : Style) → HasOutcomeKind style alone (check_of tree [] alone) (Replied (refused (Typing (at 7 8) UnknownArray)))
unfolding tree alone entry at query_named change_named
is_refused style = refl

-- versions(A)
listing : Term
listing = call (at 0 11) (codes "versions") (and_term (reference (at 9 10) (codes "A")) no_terms)

listing_is : check_of listing [] both ≡ Ok (Versions (codes "A"))
unfolding listing both entry at query_named change_named
listing_is = refl

listing_form : form_said listing ≡ a_listing
unfolding listing query_named change_named
listing_form = refl

-- ---- an array without versions, which is removed

abbrev short : Schema
short = record { attributes = record { name = codes "v"; kind = Int64; nullable = true } ∷ []; dimensions = record { name = codes "i"; lo = pos 0; hi = pos 4; chunk = 5; overlap = 0 } ∷ [] }

abbrev db : Database
db = record { name = codes "A"; schema = short; next = 1; versions = [] } ∷ []

abbrev short_source : SourceState
short_source = record { stored = λ name version. None; chunks = λ name version. []; tells = λ rows. rows ≡ rows_of db; asked = []; damaged = None; faults = 0 }

database : IsDatabase db
database = record {
  names = record {
    count = omega arith;
    rising = tt;
    each = (
      record { name = refl; schema = refl; named = record { attributes = (refl, tt); dimensions = (refl, tt) }; next = (omega arith, omega arith); versions = tt },
      tt,
    );
  };
  rows = (tt, tt);
}

told : IsToldBy (names_of db) short_source db
told = record { database = database; named = refl; tells = refl }

-- remove(A)
abbrev removal : Term
removal = call (record { start = 0; end = 9 }) (codes "remove") (and_term (reference (record { start = 7; end = 8 }) (codes "A")) no_terms)

abbrev outcome : Outcome
outcome = Changes (Remove (codes "A")) None (text_alone (codes "ok\n"))

-- no lines stand behind it, whether they are wanted or not
no_lines : (wanted : Bool) → traced (record { csv = false; trace = wanted }) [] ≡ []
no_lines true = refl
no_lines false = refl

told_alone : (style : Style) → text_alone (codes "ok\n") ≡ change_reply (names_of db) (traced style []) (Remove (codes "A"))
told_alone style = ap (λ (lines : List ℕ). change_reply (names_of db) lines (Remove (codes "A"))) (sym (no_lines style.trace))

kind : (style : Style) → HasOutcomeKind style (names_of db) (check_of removal [] (names_of db)) outcome
unfolding query_named change_named
kind style = (refl, record { named = refl; typed = (refl, tt); comes = refl; valid = tt }, ([], ([], refl, refl), told_alone style))

is_outcome : (style : Style) → IsOutcomeOf db (reply_to style db [] removal) outcome
unfolding query_named change_named
is_outcome style = (ap (λ (reply : Reply). record { reply = reply; change = Some (Remove (codes "A")) }) (sym (told_alone style)), record { stores = tt; whole = refl; chunks = tt })
