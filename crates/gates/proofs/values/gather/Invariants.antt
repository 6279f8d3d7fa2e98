-- `gates::values::gather` meets its contract: what is left, gathered behind the word, is all gathered behind the seed.
use Rattle.std.proofs.Common.{◌≡◌, map, drop, suc, ◌*◌, ◌^◌, ◌<◌, ◌≤◌, length}
use Rattle.graph.specs.Columns.{at}
use Rattle.gates.specs.inner.Gates.{word_from}
use Rattle.gates.proofs.values.gather.Given as goal

abbrev pub invariant-loop-j : goal.invariant-loop-j
invariant-loop-j l = (l.j ≤ length l.sees) × (word_from l.word (map (at l.sig) (drop l.j l.sees)) ≡ word_from l.seed (map (at l.sig) l.sees)) × (l.word < suc l.seed * 2 ^ l.j)
