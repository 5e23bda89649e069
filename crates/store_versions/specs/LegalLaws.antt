-- What holds of legal and of ordered histories.
use Rattle.std.specs.Prelude.{◌≡◌, IsTrue}
use Rattle.plan_changes.specs.Databases.{Database, names_of}
use Rattle.plan_changes.specs.Stored.{IsDatabase, AreStored}
use Rattle.event_core.specs.declared.state.Core.{Core}
use Rattle.event_core.specs.History.{History, names_at, pages_at}
use Rattle.event_core.specs.Allowed.{IsBase, is_allowed}
use Rattle.event_core.specs.Agree.{are_unique, HavePages}
use Rattle.event_core.specs.Cells.{at}
use Rattle.event_core.specs.Legal.{Cost, IsLegal, IsOrdered, AllStoreArrays}

-- after each allowed history the versions that can be named are those that have pages, if it is so at its base
abbrev pub NamedVersionsHavePages : Type 0
NamedVersionsHavePages = (base : Core) (h : History) → IsTrue (are_unique base.names.arrays) →
    HavePages base.names base.pages → IsTrue (is_allowed base h) → HavePages (names_at base h) (pages_at base h)

-- the names after a history are those of the database after it
abbrev pub NamesAreOfTheDatabase : Type 0
NamesAreOfTheDatabase = (db : Database) (base : Core) (h : History) → base.names ≡ names_of db → names_of (at db h) ≡ names_at base h

-- a legal history is an ordered one
abbrev pub LegalIsOrdered : Type 0
LegalIsOrdered = (cost : Cost) (db : Database) (base : Core) (h : History) → IsLegal cost db base h → IsOrdered base h

-- an ordered history is an allowed one over a base
abbrev pub OrderedIsAllowed : Type 0
OrderedIsAllowed = (base : Core) (h : History) → IsOrdered base h → IsBase base × IsTrue (is_allowed base h)

-- after an ordered history the names rise, their versions rise below the next number, and no more arrays stand than may
abbrev pub OrderedNamesAreStored : Type 0
OrderedNamesAreStored = (base : Core) (h : History) → IsOrdered base h → AreStored (names_at base h)

-- after an ordered history each version that can be named has pages, and no other
abbrev pub OrderedVersionsHavePages : Type 0
OrderedVersionsHavePages = (base : Core) (h : History) → IsOrdered base h → HavePages (names_at base h) (pages_at base h)

-- after a legal history of such plans there is a database
abbrev pub LegalDatabases : Type 0
LegalDatabases = (cost : Cost) (db : Database) (base : Core) (h : History) → IsLegal cost db base h → AllStoreArrays db h → IsDatabase (at db h)
