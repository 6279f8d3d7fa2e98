-- `choose::cells::Numbering::wire` meets its contract: the cell at hand is put.
use Rattle.std.proofs.Common.{◌≡◌, ℕ, ◌+◌, ◌/◌, ◌%◌, ◌≤◌, ◌<◌, List, length, replicate, rules, arith, refl, sym, subst, ap, ◌∙◌, get_or-set_same}
use lib.ListN.{set}
use Rattle.std.specs.Prelude.{slice_range}
use Rattle.theory.specs.Move.{sum}
use Rattle.theory.proofs.numbers.Sums.{sum_more, sum_grows}
use Rattle.graph.specs.Columns.{at}
use Rattle.graph.specs.inner.Sort.{Sorts}
use Rattle.graph.specs.declared.wires.Wires.{Wires}
use Rattle.graph.specs.declared.by_node.EdgesByNode.{EdgesByNode}
use Rattle.graph.specs.inner.Lists.{Appended}
use Rattle.graph.proofs.Fills.{fill_more}
use Rattle.graph.proofs.Parts.{range_at, range_length}
use Rattle.netlist.specs.declared.Netlist.{Netlist}
use Rattle.netlist.specs.inner.Wiring.{WiresOf}
use Rattle.netlist.proofs.Wiring.{of_wires}
use Rattle.moves.specs.inner.Labels.{Labelled}
use Rattle.moves.proofs.Labels.{low_nodes}
use Rattle.choose.specs.inner.Task.{Known}
use Rattle.choose.specs.inner.Sources.{source_at, SourceRows, width_at, OperandRows, Operands}
use Rattle.choose.specs.inner.Wires.{Placed}
use Rattle.choose.proofs.Sources.{operands_none, operands_more}
use Rattle.choose.proofs.Right.{few_cells, node_low, rows, few_places}
use Rattle.choose.proofs.cells.Numbering.wire.Goals as goal

-- The edges by the node that they enter, of the record.
entering : {net : Netlist} {w : Wires} {ins begin : List ℕ} → WiresOf net w → Sorts w.to.now w.edges w.nodes (replicate 1024 0) ins begin
    → Sorts net.to net.edges net.nodes (replicate 1024 0) ins begin
entering {ins = ins} {begin = begin} k = of_wires k (λ n m from to. Sorts to m n (replicate 1024 0) ins begin)

-- The edges that enter the node of cell i: their sources are there, there is room for what they show, and with that the operands are those of one cell more.
record Seen (net : Netlist) (counts base id ins begin code seen : List ℕ) (i : ℕ) : Type 0 where
  sources : (k : ℕ) → k < length seen → SourceRows net counts id (at code i % 32) (at seen k)
  room : sum (width_at begin code) i + length seen ≤ 24576
  more : (first operand operand' : List ℕ) → i + 1 < length first → Operands net.from ins begin counts base id code i first operand
      → Appended (λ k. source_at net.from counts base id (at code i % 32) (at seen k)) operand operand' 0 (length seen) (at first i)
      → Operands net.from ins begin counts base id code (i + 1) (set first (i + 1) (at first i + length seen)) operand'

seen_of : {net : Netlist} {lab counts base id code : List ℕ} {k clocks : ℕ} → Labelled net lab → Known net lab counts base k clocks → Placed net lab counts clocks id code
    → (ins begin seen : List ℕ) → Sorts net.to net.edges net.nodes (replicate 1024 0) ins begin → length ins ≡ 1024 → ((v : ℕ) → v ≤ 512 → at begin v ≤ 1024)
    → (i : ℕ) → i < length code → seen ≡ slice_range ins (at begin (at code i / 32)) (at begin (at code i / 32 + 1)) → Seen net counts base id ins begin code seen i
seen_of {net = net} {counts = counts} {base = base} {id = id} {code = code} s m p ins begin seen g many within i h is = record {
  sources = λ k l. rw (them k l) (r.shows (at begin (at code i / 32) + k) (omega arith) (omega (arith, wide)));
  room = omega (arith, wide, few_places s m p g, sum_more (width_at begin code) i, sum_grows (width_at begin code) (i + 1) (length code) (omega arith));
  more = λ first operand operand' rows o a.
      (operands_more net.from ins begin counts base id code i first operand operand' seen (at first i) (at first i + length seen)
      o (o.begins i (omega arith)) rows wide (λ k l. them k (omega (arith, wide))) refl a).1;
}
  where
    r : OperandRows net counts id ins begin code i
    r = rows s m p g i h

    wide : length seen ≡ width_at begin code i
    wide = ap length is ∙ range_length ins (at begin (at code i / 32)) (at begin (at code i / 32 + 1)) (omega (arith, many, within (at code i / 32 + 1) (omega (arith, r.row))))

    them : (k : ℕ) → k < length seen → at seen k ≡ at ins (at begin (at code i / 32) + k)
    them k l = ap (λ s. at s k) is ∙ range_at ins (at begin (at code i / 32)) (at begin (at code i / 32 + 1)) k (omega (arith, wide))

-- What the code reads: `codes` are the codes.
node_at : {net : Netlist} {lab counts base id code codes : List ℕ} {k clocks i : ℕ} → Labelled net lab → Known net lab counts base k clocks → Placed net lab counts clocks id code
    → codes ≡ code → i < length codes → at codes i / 32 < 512
node_at s m p e h = rw e (omega (arith, node_low s m p _ (rw e at h), low_nodes _ _ s))

seen_at : {net : Netlist} {lab counts base id code codes seen : List ℕ} {k clocks i : ℕ} {w : Wires} → Labelled net lab → Known net lab counts base k clocks → Placed net lab counts clocks id code
    → WiresOf net w → (ins : EdgesByNode) → Sorts w.to.now w.edges w.nodes (replicate 1024 0) ins.list ins.begin → length ins.list ≡ 1024
    → codes ≡ code → i < length codes → seen ≡ slice_range ins.list (at ins.begin (at codes i / 32)) (at ins.begin (at codes i / 32 + 1)) → Seen net counts base id ins.list ins.begin codes seen i
seen_at {net = net} {counts = counts} {base = base} {id = id} {seen = seen} {i = i} s m p w ins g many e =
    subst (λ codes. i < length codes → seen ≡ slice_range ins.list (at ins.begin (at codes i / 32)) (at ins.begin (at codes i / 32 + 1)) → Seen net counts base id ins.list ins.begin codes seen i)
    (sym e) (seen_of s m p ins.list ins.begin seen (entering w g) many ins.within i)

pub loop-i-init : goal.loop-i-init
loop-i-init c = (λ j h. absurd (let z : ⊥ = omega arith in z), operands_none _ _ _ _ _ _ _ _ _ (get_or-set_same c.args.to.now.first 0 0 0 (omega (arith, c.args.to.now.first_rows))))

pub of-requires : goal.of-requires
of-requires c = let task = c.args.self.now.task.now in node_at task.of.labelled task.known c.requires c.as_slice-code-items.ensures c.loop-i-test.true

pub bounds-net-node : goal.bounds-net-node
bounds-net-node c = let task = c.args.self.now.task.now in node_at task.of.labelled task.known c.requires c.as_slice-code-items.ensures c.loop-i-test.true

pub put_operands-requires-clause-room : goal.put_operands-requires-clause-room
put_operands-requires-clause-room c =
    let task = c.args.self.now.task.now in
    let l = c.loop-i in
    let codes = c.as_slice-code-items.ensures in
    let seen = seen_at task.of.labelled task.known c.requires c.wires.ensures c.entering-ins.result c.entering-ins.ensures (search rules) codes c.loop-i-test.true c.of.ensures in
    let begins = (rw (sym codes) at l.invariant.1).begins l.i (omega arith) in
    let fits : at l.to.first l.i + length c.of.result.now ≤ 24576 = omega (arith, seen.room, begins) in
    (omega (arith, few_cells task.of.labelled task.known c.requires, ap length codes), fits)

pub put_operands-requires-clause-by_index : goal.put_operands-requires-clause-by_index
put_operands-requires-clause-by_index c =
    let task = c.args.self.now.task.now in
    (seen_at task.of.labelled task.known c.requires c.wires.ensures c.entering-ins.result c.entering-ins.ensures (search rules) c.as_slice-code-items.ensures c.loop-i-test.true c.of.ensures).sources

pub loop-i-preserved : goal.loop-i-preserved
loop-i-preserved c =
    let task = c.args.self.now.task.now in
    let l = c.loop-i in
    let d = c.put_operands.ensures in
    let codes = c.as_slice-code-items.ensures in
    let seen = seen_at task.of.labelled task.known c.requires c.wires.ensures c.entering-ins.result c.entering-ins.ensures (search rules) codes c.loop-i-test.true c.of.ensures in
    let few = few_cells task.of.labelled task.known c.requires in
    let next = seen.more l.to.first l.to.operand _ (omega (arith, l.to.first_rows, few, ap length codes)) (rw (sym codes) at l.invariant.1) d.operands in
    let kind = task.of.net.now.kind in
    let kinds = fill_more (λ j. at kind (at c.args.self.now.code j / 32)) l.to.kind l.i _ (omega (arith, l.to.kind_rows, few, ap length codes)) (ap (λ x. at kind (at x l.i / 32)) codes) l.invariant.0 in
    (rw d.kind kinds, rw d.first (rw codes at next))
