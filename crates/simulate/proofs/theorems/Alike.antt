-- Two netlists with the same nodes run alike where their traces agree at the outputs.
--   before_like         the inputs and the outputs have the same places
--   runs_alike
use Prim.Native.Nat.{ℕ, ◌+◌, ◌*◌, ◌/◌, ◌%◌, ◌<◌, ◌≤◌}
use native.Mathlib.Omega.{arith}
use mathlib.Core.Path.{◌≡◌, refl, sym, ap, ap₂, ◌∙◌, subst₂}
use mathlib.Core.Bool.{true}
use mathlib.Core.List.{List, [], ◌∷◌}
use lib.Dec.{eqb}
use lib.ListN.{length, get_or}
use Rattle.theory.specs.Clock.{gather}
use Rattle.theory.proofs.clocks.Seen.{gather_like}
use Rattle.netlist.specs.declared.Netlist.{Netlist}
use Rattle.netlist.specs.Answer.{Said, value, refused, holds}
use Rattle.netlist.specs.Net.{graph_of}
use Rattle.netlist.specs.Circuit.{TraceIn}
use Rattle.netlist.specs.Read.{Reads}
use Rattle.rules.specs.Rules.{every}
use Rattle.netlist.proofs.Rows.{joined_same}
use Rattle.netlist.proofs.theorems.One.{one_reading}
use Rattle.simulate.specs.Clock.{earlier, outputs}
use Rattle.simulate.specs.Step.{only_bits}
use Rattle.simulate.specs.Run.{clocks_from, clocks, run_fits}
use Rattle.simulate.specs.Theorems.{byte_at, RunsAlike}
use Rattle.simulate.proofs.Says.{Row, run_goes}
use Rattle.simulate.proofs.theorems.Trace.{trace_exists, run_is_trace}

module _ (t t' : List ℕ) (net net' : Netlist) (r : Reads t (value 0) net) (r' : Reads t' (value 0) net')
    (nodes : net.nodes ≡ net'.nodes) (kinds : (v : ℕ) → v < net.nodes → get_or net.kind v 0 ≡ get_or net'.kind v 0) where
  before_like : (k v : ℕ) → v ≤ net.nodes → earlier net k v ≡ earlier net' k v
  unfolding earlier
  before_like k v h = ap length (gather_like (graph_of net).kind (graph_of net').kind (λ u. u) (λ u. u) k v (λ i l. kinds i (omega arith)) (λ i l q. refl))

  all_like : (k : ℕ) → earlier net k net.nodes ≡ earlier net' k net'.nodes
  all_like k = before_like k net.nodes (omega arith) ∙ ap (earlier net' k) nodes

  says_like : (vectors : List ℕ) (room : ℕ) (s : Said) → Row (value 0) (run_fits net vectors) (clocks net vectors * outputs net) room s
      → Row (value 0) (run_fits net' vectors) (clocks net' vectors * outputs net') room s
  says_like vectors room s =
      subst₂ (λ i o. Row (value 0) (every (eqb (length vectors % i) 0 ∷ only_bits vectors ∷ [])) (length vectors / i * o) room s) (all_like 0) (all_like 1)

  module _ (agree : (ins x y : ℕ → ℕ → ℕ) → TraceIn net ins x → TraceIn net' ins y
      → (v k : ℕ) → v < net.nodes → get_or net.kind v 0 ≡ 1 → x v k ≡ y v k) (vectors : List ℕ) where
    byte_like : (v k : ℕ) → v < net.nodes → byte_at net vectors v k ≡ byte_at net' vectors v k
    byte_like v k h = ap₂ (λ i b. get_or vectors (k * i + b) 0) (all_like 0) (before_like 0 v (omega arith))

    -- Both runs put out their traces' values.
    clocks_like : (n : ℕ) → only_bits vectors ≡ true → clocks_from net n net.start vectors ≡ clocks_from net' n net'.start vectors
    clocks_like n b =
        let X = trace_exists t net (byte_at net vectors) r in
        let Y = trace_exists t' net' (byte_at net vectors) r' in
        let x = X.0 in
        let y = Y.0 in
        let Y' : TraceIn net' (byte_at net' vectors) y =
        record { at_input = λ v k h q. Y.1.at_input v k h q ∙ byte_like v k (omega arith); at_gate = Y.1.at_gate } in
        let out : (k : ℕ) → gather (graph_of net).kind (λ v. x v k) 1 net.nodes ≡ gather (graph_of net').kind (λ v. y v k) 1 net'.nodes =
        λ k. gather_like (graph_of net).kind (graph_of net').kind (λ v. x v k) (λ v. y v k) 1 net.nodes kinds (λ v h q. agree (byte_at net vectors) x y X.1 Y.1 v k h q)
        ∙ ap (gather (graph_of net').kind (λ v. y v k) 1) nodes in
        run_is_trace t net n vectors x r b X.1 ∙ joined_same _ _ n (λ k h. out k) ∙ sym (run_is_trace t' net' n vectors y r' b Y')

    buffer_like : (s : Said) (old : List ℕ) → Row (value 0) (run_fits net vectors) (clocks net vectors * outputs net) (length old) s
        → holds s (clocks_from net (clocks net vectors) net.start vectors) old ≡ holds s (clocks_from net' (clocks net' vectors) net'.start vectors) old
    buffer_like (value o) old q =
        let g = run_goes (value 0) net vectors (length old) o q in
        ap (λ l. holds (value o) l old) (clocks_like (clocks net vectors) g.vector_bits ∙ ap (λ i. clocks_from net' (length vectors / i) net'.start vectors) (all_like 0))
    buffer_like (refused q k p) old e = refl

-- The same bytes are refused, as there are as many inputs and outputs. Where nothing is refused, both runs put out their traces' values, and these agree.
pub runs_alike : RunsAlike
runs_alike t t' net net' r r' nodes kinds agree vectors old s new w =
    let c = one_reading t w.checked (value 0) w.net net w.reads r in
    let answer = subst₂ (λ a n. Row a (run_fits n vectors) (clocks n vectors * outputs n) (length old) s) c.0 c.1 w.answer in
    record {
      checked = value 0;
      net = net';
      reads = r';
      answer = says_like t t' net net' r r' nodes kinds vectors (length old) s answer;
      buffer = w.buffer ∙ ap (λ n. holds s (clocks_from n (clocks n vectors) n.start vectors) old) c.1 ∙ buffer_like t t' net net' r r' nodes kinds agree vectors s old answer;
    }
