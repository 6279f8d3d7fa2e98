-- A netlist that reads has an input and an output.
--   has_pins
use Prim.Native.Nat.{ℕ, ◌<◌}
use native.Mathlib.Omega.{arith}
use mathlib.Core.Path.{◌≡◌}
use mathlib.Core.Bool.{true}
use Rattle.frame.specs.Frame.{within}
use Rattle.theory.proofs.walks.Walks.{walk_start, walk_end}
use Rattle.rules.specs.Rules.{head_fits}
use Rattle.netlist.proofs.Fits.{both, within_true}
use Rattle.netlist.proofs.Run.{fit_wired}
use Rattle.netlist.proofs.theorems.Sound.{reads_keeps}
use Rattle.simulate.specs.Theorems.{HasPins}
use Rattle.simulate.proofs.Bits.{before_less}

-- "N 2 to 512"
head_nodes : (p d n e : ℕ) → head_fits p d n e ≡ true → 0 < n
unfolding head_fits
head_nodes p d n e h =
    let a = both (within 1 65535 p) _ h in
    let b = both (within 50 250 d) _ a.1 in
    let c = both (within 2 512 n) _ b.1 in
    omega (arith, within_true 2 512 n c.0)

-- Node 0 is there, so a walk leads to it from an input and another from it to an output; the ends of walks are nodes.
pub has_pins : HasPins
has_pins t net r =
    let k = reads_keeps r in
    let fit = k.lines in
    let j = k.joined 0 (head_nodes net.period net.derate net.nodes net.edges fit.head) in
    let input = before_less net 0 j.0.from net.nodes j.0.input (walk_start j.0.walk) in
    let output = before_less net 1 j.1.to net.nodes j.1.output (walk_end (fit_wired net fit) j.1.walk) in
    (omega arith, omega arith)
