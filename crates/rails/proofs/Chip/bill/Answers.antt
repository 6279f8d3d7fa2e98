-- `rails::Chip::bill` meets its contract: one edge more is counted, at the node that it leaves; 32 registers an edge, so no sum is large.
use Rattle.std.proofs.Common.{◌≡◌, ℕ, ◌<◌, ◌≤◌, arith, refl, subst, ◌∙◌}
use lib.ListN.{length-set}
use Rattle.graph.specs.Columns.{at}
use Rattle.netlist.specs.declared.Netlist.{Netlist}
use Rattle.netlist.specs.Theorems.{Fit}
use Rattle.netlist.proofs.Run.{fit_rows, fit_wired}
use Rattle.rails.specs.inner.Shared.{Counted}
use Rattle.rails.proofs.Counted.{counted_none, counted_more, total_few, node_few}
use Rattle.rails.proofs.Chip.bill.Goals as goal

-- The node that an edge leaves is there, and there are 512 nodes and 1,024 edges at most.
source : (net : Netlist) → Fit net → (e : ℕ) → e < net.edges → (at net.from e < net.nodes) × (net.nodes ≤ 512) × (net.edges ≤ 1024)
source net f e h = let r = fit_rows net f in ((fit_wired net f).src_in e h, r.0, r.1)

pub loop-e-init : goal.loop-e-init
loop-e-init c = (refl, counted_none _)

pub bounds-rails-from : goal.bounds-rails-from
bounds-rails-from c = omega (arith, source _ c.args.self.fit c.loop-e.e (omega arith))

pub overflow_add-rails : goal.overflow_add-rails
overflow_add-rails c =
    let net = c.args.self.net.now in
    let i = c.loop-e.invariant in
    let s = source net c.args.self.fit c.loop-e.e (omega arith) in
    rw c.from.ensures
    (omega (arith, s, total_few net c.args.self.fit i.1 (omega arith), node_few net c.args.self.fit i.1 (at net.from c.loop-e.e) s.0, c.paid-n.ensures.1))

pub bounds-rails-from-in-loop-e : goal.bounds-rails-from-in-loop-e
bounds-rails-from-in-loop-e c = omega (arith, source _ c.args.self.fit c.loop-e.e (omega arith))

pub overflow_add-total : goal.overflow_add-total
overflow_add-total c =
    let i = c.loop-e.invariant in
    omega (arith, (fit_rows _ c.args.self.fit).1, total_few c.args.self.net.now c.args.self.fit i.1 (omega arith), c.paid-n.ensures.1)

pub loop-e-preserved : goal.loop-e-preserved
loop-e-preserved c =
    let net = c.args.self.net.now in
    let i = c.loop-e.invariant in
    let s = source net c.args.self.fit c.loop-e.e (omega arith) in
    rw c.from.ensures (length-set c.loop-e.rails _ _ ∙ i.0, counted_more net i.1 (omega (arith, s)) c.paid-n.ensures.0)

pub returns : goal.returns
returns c =
    let z : c.loop-e.e ≡ c.args.self.net.now.edges = omega arith in
    subst (λ n. Counted c.args.self.net.now n c.loop-e.total c.loop-e.rails) z c.loop-e.invariant.1
