-- Shared registers: what a chip pays for on which branches of one node share registers.
--   outward R e d       the start value on edge e at distance d from the node that it leaves
--   agreed f g n        f and g agree at the distances below n
--   shares G R e d i    edge i shares the register of e at distance d
--   shared_below G R e d n   some edge below n does
--   paid_on G R e       how many registers of e no lower edge shares
--   rails_at G R u      the count of node u
--   rails_in G R        the total
--   Rails t old s new   counting the text t into a table that held `old` says s and leaves `new`
use Rattle.std.specs.Prelude.{◌≡◌, Bool, true, false, cond, List, [], ◌∷◌, ℕ, zero, suc, ◌-◌, ◌<◌, eqb, ltb, length}
use Rattle.theory.specs.Graph.{Graph}
use Rattle.theory.specs.Clock.{Regs}
use Rattle.theory.specs.Move.{sum}
use Rattle.netlist.specs.declared.Netlist.{Netlist}
use Rattle.netlist.specs.Answer.{Said, value, whole, holds}
use Rattle.netlist.specs.Order.{◌or_else◌, Given, Otherwise, Stops}
use Rattle.netlist.specs.Net.{graph_of, regs_of}
use Rattle.netlist.specs.Write.{joined}
use Rattle.rules.specs.Rules.{every}
use Rattle.netlist.specs.Read.{Reads}

-- "read from the feeding node outward": a clock moves values down a bit and puts the feeding node's at bit w − 1, so that is the nearest, and bit 0 the farthest.
abbrev pub outward : Regs → ℕ → ℕ → ℕ
outward R e d = R.start e (R.count e - suc d)

-- "they and all nearer ones agree", the n nearest.
unfoldable pub agreed : (ℕ → ℕ) → (ℕ → ℕ) → ℕ → Bool
agreed f g zero = true
agreed f g (suc n) = cond (agreed f g n) (eqb (f n) (g n)) false

-- "branches of one node share registers", and "registers at the same distance share if they and all nearer ones agree": edge i leaves the node that e leaves, and has one there.
abbrev pub shares : Graph → Regs → ℕ → ℕ → ℕ → Bool
shares G R e d i = every (eqb (G.src i) (G.src e) ∷ ltb d (R.count i) ∷ agreed (outward R e) (outward R i) (suc d) ∷ [])

-- With some edge below n.
unfoldable pub shared_below : Graph → Regs → ℕ → ℕ → ℕ → Bool
shared_below G R e d zero = false
shared_below G R e d (suc n) = cond (shares G R e d n) true (shared_below G R e d n)

-- "It pays once for each different run": at the lowest edge that has it. (`RunsCounted` in specs/Theorems counts the runs themselves.)
abbrev pub paid_on : Graph → Regs → ℕ → ℕ
paid_on G R e = sum (λ d. cond (shared_below G R e d e) 0 1) (R.count e)

-- "each node's count": over the edges that leave it.
abbrev pub rails_at : Graph → Regs → ℕ → ℕ
rails_at G R u = sum (λ e. cond (eqb (G.src e) u) (paid_on G R e) 0) G.edges

-- "the total"
abbrev pub rails_in : Graph → Regs → ℕ
rails_in G R = sum (rails_at G R) G.nodes

-- "for a text writes each node's count, in node order, into a lent table of 32-bit words and gives the total"
pub record Rails (t old : List ℕ) (s : Said) (new : List ℕ) : Type 0 where
  pub checked : Said
  pub net : Netlist
  pub reads : Reads t checked net
  -- "A table shorter than the nodes is 12."
  pub answer : (Stops checked
      or_else Given (length old < net.nodes) (whole 12)
      or_else Otherwise (value (rails_in (graph_of net) (regs_of net)))) s
  pub table : new ≡ holds s (joined (λ u. rails_at (graph_of net) (regs_of net) u ∷ []) net.nodes) old
