-- A script at work.
use Rattle.std.specs.Prelude.{◌≡◌, ◌++◌, codes}
use Rattle.command_words.specs.Script.{script}

-- the numbers for 7 are 71, 73 and 7
abbrev pub WorkedScript : Type 0
WorkedScript = script 7 ≡ codes "store(filter(build(<v:int64>[x=0:999,100,2,y=0:999,100,2], (71*x+73*y+7)%1000), v<20), G);\n"
    ++ codes "aggregate(G, count(*), sum(v), min(v), max(v));\n"
    ++ codes "between(G, 0, 0, 0, 199);\n"
    ++ codes "insert(filter(build(<v:int64>[x=0:999,100,2,y=0:999,100,2], (71*x+73*y+7)%1000), v>=20 and v<30), G);\n"
    ++ codes "aggregate(G, count(*), sum(v), min(v), max(v));\n"
    ++ codes "aggregate(join(G@1, G@2), count(*), sum(v_2));\n"
