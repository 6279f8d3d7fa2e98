-- The evaluation plan of a netlist, made once. One clock's signals stand in one list: node v's value at v, what edge e shows from its register at 512 + e.
--   signal net e        where the signal stands that edge e shows
--   NoInput kind v      node v is no input
--   Planned net p       p is a plan of the netlist
use Rattle.std.specs.Prelude.{◌≡◌, cond, ◌⊎◌, List, ℕ, suc, ◌+◌, ◌-◌, ◌<◌, ◌≤◌, eqb, length}
use Rattle.theory.specs.Clock.{gather}
use Rattle.graph.specs.Columns.{at}
use Rattle.gates.specs.inner.Gates.{part, Reckons}
use Rattle.netlist.specs.declared.Netlist.{Netlist}
use Rattle.simulate.specs.declared.plan.Plan.{Plan}

abbrev pub signal : Netlist → ℕ → ℕ
signal net e = cond (eqb (at net.count e) 0) (at net.from e) (512 + e)

abbrev pub NoInput : List ℕ → ℕ → Type 0
NoInput kind v = ¬ (at kind v ≡ 0)

pub record Planned (net : Netlist) (p : Plan) : Type 0 where
  -- The nodes that are no inputs, each after the source of each edge without a register that enters it.
  pub few : length p.node ≤ 512
  pub gate : (i : ℕ) → i < length p.node → (at p.node i < net.nodes) × ¬ (at net.kind (at p.node i) ≡ 0)
  pub every : (v : ℕ) → v < net.nodes → ¬ (at net.kind v ≡ 0) → (i : ℕ) × (i < length p.node) × (at p.node i ≡ v)
  pub after : (i e : ℕ) → i < length p.node → e < net.edges → at net.to e ≡ at p.node i → at net.count e ≡ 0
      → (at net.kind (at net.from e) ≡ 0) ⊎ ((j : ℕ) × (j < i) × (at p.node j ≡ at net.from e))
  -- What node v sees stands from place `first v` on, in the order of the edges; each place holds the signal of an edge.
  pub range : (v : ℕ) → v < net.nodes → (at p.first v ≤ at p.first (suc v)) × (at p.first (suc v) ≤ net.edges)
  pub each : (k : ℕ) → k < net.edges → (e : ℕ) × (e < net.edges) × (at p.sees k ≡ signal net e)
  pub ins : (v : ℕ) → v < net.nodes → part p.sees (at p.first v) (at p.first (suc v)) ≡ gather (at net.to) (signal net) v net.edges
  -- Each node has a truth word of its kind.
  pub truth : (v : ℕ) → v < net.nodes → Reckons (at net.kind v) (at p.first (suc v) - at p.first v) (at p.truth v)
