-- The script of `generate`, for a number.
use Rattle.std.specs.Prelude.{ℕ, ◌+◌, ◌*◌, ◌%◌, List, ◌++◌, codes}
use Rattle.std.specs.Fmt.{decimal}

-- an array of 1,000 times 1,000 cells in chunks of 100 times 100, whose values are `(a*x+b*y+c)%1000`
abbrev pub built : ℕ → List ℕ
built number =
    codes "build(<v:int64>[x=0:999,100,2,y=0:999,100,2], ("
    ++ decimal (10 * (number % 100) + 1) ++ codes "*x+" ++ decimal (10 * (number % 10) + 3) ++ codes "*y+" ++ decimal (number % 1000)
    ++ codes ")%1000)"

-- the cells below 20 are stored, and read
abbrev pub storing : ℕ → List ℕ
storing number =
    codes "store(filter(" ++ built number ++ codes ", v<20), G);\n"
    ++ codes "aggregate(G, count(*), sum(v), min(v), max(v));\n"
    ++ codes "between(G, 0, 0, 0, 199);\n"

-- those from 20 to 29 are inserted, and both versions are read
abbrev pub inserting : ℕ → List ℕ
inserting number =
    codes "insert(filter(" ++ built number ++ codes ", v>=20 and v<30), G);\n"
    ++ codes "aggregate(G, count(*), sum(v), min(v), max(v));\n"
    ++ codes "aggregate(join(G@1, G@2), count(*), sum(v_2));\n"

abbrev pub script : ℕ → List ℕ
script number = storing number ++ inserting number
