-- `rails::Chip::paid` meets its contract: one edge more of the node; at the first that is not lower what is left is paid for, and nothing where all are shared.
use Rattle.std.proofs.Common.{◌≡◌, ℕ, ◌^◌, ◌<◌, ◌≤◌, arith, sym, subst, ◌∙◌}
use Rattle.graph.specs.Columns.{at}
use Rattle.netlist.specs.declared.Netlist.{Netlist}
use Rattle.netlist.specs.Net.{graph_of, regs_of}
use Rattle.netlist.specs.Theorems.{Fit}
use Rattle.netlist.proofs.Fits.{edge_fits_means}
use Rattle.netlist.proofs.Run.{fit_rows, fit_wired}
use Rattle.rails.specs.inner.Shared.{Shared}
use Rattle.rails.proofs.Shared.{paid_past, paid_none}
use Rattle.rails.proofs.Lower.{passed_none, outs_next, outs_past, outs_end}
use Rattle.rails.proofs.Chip.paid.Goals as goal
use Rattle.rails.proofs.Chip.paid.Goals.{else-loop-lower-test, then-loop-lower-test+then-e-i}

-- An edge's values are at most 32, and its word has no others.
word : (net : Netlist) → Fit net → (e : ℕ) → e < net.edges → (at net.count e ≤ 32) × (at net.start e < 2 ^ at net.count e)
word net f e h =
    let r = edge_fits_means net.nodes (graph_of net).kind (at net.from e) (at net.to e) (at net.count e) (at net.start e) (f.edge e h) in
    (r.2, r.3)

pub loop-lower-init : goal.loop-lower-init
loop-lower-init c = passed_none _ _

pub of-lower-items-requires : goal.of-lower-items-requires
of-lower-items-requires c =
    let net = c.args.self.net.now in
    let f = c.args.self.fit in
    omega (arith, c.from.ensures, (fit_wired net f).src_in c.args.e c.requires, (fit_rows net f).0)

pub further-shared-requires : goal.further-shared-requires
further-shared-requires c =
    let net = c.args.self.net.now in
    let f = c.args.self.fit in
    let a = word net f c.args.e c.requires in
    let b = word net f c.from-i.result (omega (arith, c.if-e-i.false, c.requires)) in
    rw (c.from-count.ensures, c.from-in-loop-lower.ensures) (c.loop-lower.invariant.shared.within, a.0, b.0, a.1, b.1)

pub loop-lower-preserved : goal.loop-lower-preserved
loop-lower-preserved c =
    let net = c.args.self.net.now in
    let s = c.args.self in
    outs_next net s.fit s.sorted c.args.e c.requires c.from.ensures c.of-lower-items.ensures c.loop-lower.invariant c.loop-lower-test.true c.from-i.result c.from-i.ensures
    (omega (arith, c.if-e-i.false)) (rw (c.from-count.ensures, c.from-in-loop-lower.ensures) at c.further-shared.ensures)

pub returns-then-shared-count : goal.returns-then-shared-count
returns-then-shared-count c =
    let net = c.args.self.net.now in
    let s = c.args.self in
    let e = c.args.e in
    let t = outs_next net s.fit s.sorted e c.requires c.from.ensures c.of-lower-items.ensures c.loop-lower.invariant c.loop-lower-test.true c.from-i.result c.from-i.ensures
    (omega (arith, c.if-e-i.false)) (rw (c.from-count.ensures, c.from-in-loop-lower.ensures) at c.further-shared.ensures) in
    let z : c.further-shared.result ≡ at net.count e = c.if-shared-count.true ∙ c.from-count.ensures in
    (sym (paid_none (graph_of net) (regs_of net) e t.low (subst (Shared (graph_of net) (regs_of net) e t.upto) z t.shared)), omega arith)

pub returns : goal.returns
returns c =
    let net = c.args.self.net.now in
    let s = c.args.self in
    let e = c.args.e in
    let l = c.loop-lower.invariant in
    let lower : Shared (graph_of net) (regs_of net) e e c.loop-lower.shared = elim c.loop-lower-test.branch [
      | else-loop-lower-test w ↦ outs_end net s.fit s.sorted e c.requires c.from.ensures c.of-lower-items.ensures l (omega (arith, w.loop-lower-test.false))
      | then-loop-lower-test+then-e-i w ↦ outs_past net s.fit s.sorted e c.requires c.from.ensures c.of-lower-items.ensures l w.loop-lower-test.true w.from-i.result w.from-i.ensures w.if-e-i.true
    ] in
    let p = paid_past (graph_of net) (regs_of net) e lower in
    rw c.from-count.ensures (sym p, omega (arith, (word net c.args.self.fit e c.requires).0))
