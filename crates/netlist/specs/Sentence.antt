-- A refusal in words.
--   sentence r          what `{}` prints of the refusal r
use Rattle.std.specs.Prelude.{List, ◌++◌, ℕ, codes}
use Rattle.std.specs.Fmt.{decimal}
use Rattle.netlist.specs.declared.Refusal.{Refusal}
use Rattle.netlist.specs.declared.Refusal.TheVariants as its
use Rattle.netlist.specs.declared.Refusal.TheVariants.{Head, NodeLine, EdgeLine, FanIn, Loop, Reach, Period, Count, Choices, Start, Room, Vectors}

abbrev pub sentence : Refusal → List ℕ
sentence (its.Line n) = codes "line " ++ decimal n ++ codes " is missing, malformed or surplus"
sentence Head = codes "a number of the head is out of range"
sentence (NodeLine n) = codes "the node on line " ++ decimal n ++ codes " breaks a rule"
sentence (EdgeLine n) = codes "the edge on line " ++ decimal n ++ codes " breaks a rule"
sentence (FanIn v) = codes "node " ++ decimal v ++ codes " has a wrong number of in-edges"
sentence Loop = codes "a loop has no register"
sentence (Reach v) = codes "node " ++ decimal v ++ codes " is not between an input and an output"
sentence Period = codes "no legal retiming meets the period"
sentence (Count e) = codes "edge " ++ decimal e ++ codes " would have more than 32 registers"
sentence Choices = codes "more than 24 values are to be chosen"
sentence Start = codes "no choice of values carries the start"
sentence Room = codes "the buffer is too short"
sentence Vectors = codes "the vectors do not fit the netlist"
