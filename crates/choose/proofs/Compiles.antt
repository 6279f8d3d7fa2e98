-- The program that stands for a moved netlist's search (specs/Cells): its cells have the values that the nodes have below their lags, so a search through the program is one through the choices.
--   after, given        the moved netlist's registers, and its values with all inputs at 0
--   source_before       the cells that are a cell's operands stand before it
--   edge_shows          the operand that stands for an edge shows what the edge shows
--   cell_value          the cell of node v at clock t has v's value at t in the moved netlist
--   compiled_holds      the cells give what is due exactly where the choice carries the start
--   solved              so the program's answer is retiming's
use Prim.Native.Nat.{ℕ, ◌+◌, ◌-◌, ◌^◌, ◌/◌, ◌%◌, ◌<◌}
use native.Mathlib.Omega.{arith}
use mathlib.Core.Path.{◌≡◌, sym, ap, ap₂, ◌∙◌, subst}
use Rattle.std.proofs.Common.{Option, Some, None}
use mathlib.Core.Logic.{◌↔◌}
use mathlib.Core.List.{List, map}
use borrow.Author.Tests.{lt-ltb, le-ltb}
use lib.IntN.{ℤ}
use lib.ListN.{take}
use Rattle.theory.specs.Graph.{Wired}
use Rattle.theory.specs.Clock.{Regs, seen, sees, value}
use Rattle.theory.specs.Lag.{up, down}
use Rattle.theory.specs.Move.{Moved, move, quiet, sum, digit}
use Rattle.theory.specs.Gate.{gate}
use Rattle.theory.proofs.numbers.Whole.{no_down}
use Rattle.theory.proofs.numbers.Sums.{sum_within}
use Rattle.theory.proofs.clocks.Seen.{seen_is, gather_same, gather_map, gather_at}
use Rattle.theory.proofs.clocks.Trace.{clock_induction}
use Rattle.theory.proofs.moves.Retime.{new_moved, new_no_loop, new_trace}
use Rattle.theory.proofs.moves.Choose.{choice_number}
use Rattle.graph.specs.Columns.{at, bit}
use Rattle.netlist.specs.declared.Netlist.{Netlist}
use Rattle.netlist.specs.Net.{graph_of, regs_of}
use Rattle.netlist.specs.Circuit.{LoopIn, choice_at, chosen_in_at}
use Rattle.netlist.specs.inner.Words.{CarriedAt, LegalAt, chosen_on_at, new_count_at, retimed_at}
use Rattle.search.specs.inner.Program.{program_of, look, values_to, value_at, RightProgram, total_of, GivesDues, Solves}
use Rattle.search.proofs.Values.{look_bit, look_cell, values_at, value_gate}
use Rattle.choose.specs.inner.Cells.{source, Compiled}
use Rattle.choose.specs.inner.Wires.{Chooses, Standing}
use Rattle.choose.proofs.Programs.{operand_at}

-- ── The values of the cells ─────────────────────────────────────────────────────────────────

-- The moved netlist's registers, and its values with all inputs at 0.
abbrev pub after : Netlist → (ℕ → ℤ) → ℕ → Regs
after net r c = retimed_at net r c

abbrev pub given : Netlist → (ℕ → ℤ) → ℕ → ℕ → ℕ → ℕ
given net r c = value gate (graph_of net) (after net r c) quiet

module _ (net : Netlist) (wired : Wired (graph_of net)) (no_loop : ¬ LoopIn net) (r : ℕ → ℤ) (legal : LegalAt net r)
    {cells k total : ℕ} {kind first operand due : List ℕ} {cell : ℕ → ℕ → ℕ} (made : Compiled net r cells kind first operand due total cell)
    (size : k ≡ chosen_in_at net r) (right : RightProgram cells k (program_of kind first operand)) where
  moved : (c : ℕ) → Moved (graph_of net) (regs_of net) (after net r c) r (choice_at net r c) (value gate (graph_of net) (regs_of net) quiet)
  moved c = new_moved gate (graph_of net) wired (regs_of net) no_loop r legal (choice_at net r c)

  -- The cell of a source stands before the cell that it is an operand of: an operand of 32 or more is one cell's, and an earlier one's.
  pub source_before : (v t e x : ℕ) → v < net.nodes → t < up (r v) → e < net.edges → (graph_of net).dst e ≡ v → source net r cell t e ≡ 32 + x → x < cell v t
  source_before v t e x hv ht he d q =
      let i = cell v t in
      let (p, h, w) = gather_at (graph_of net).dst (source net r cell t) v net.edges e he d in
      let row = made.operands v t hv ht in
      let o = operand_at first operand i p (rw row h) in
      let z : at operand (at first i + p) ≡ 32 + x = o.1 ∙ ap (λ l. at l p) row ∙ w ∙ q in
      omega (arith, (right.earlier i (at first i + p) (made.inside v t hv ht) (omega arith) o.0).1 (omega arith))

  -- Below the lag of the node that it enters, an edge shows a chosen value while its registers last, and the operand is that value's number; then it shows its source,
  -- at a clock below the source's own lag, and the operand is that cell.
  pub edge_shows : (c v t e : ℕ) → v < net.nodes → t < up (r v) → e < net.edges → (graph_of net).dst e ≡ v
      → ((q : ℕ) → (after net r c).count e + q ≡ t → q < up (r ((graph_of net).src e))
      → value_at (program_of kind first operand) k c (cell ((graph_of net).src e) q) ≡ given net r c ((graph_of net).src e) q)
      → look k c (values_to (program_of kind first operand) k c (cell v t)) (source net r cell t e) ≡ seen (graph_of net) (after net r c) (given net r c) e t
  unfolding move
  edge_shows c v t e hv ht he d ih =
      sym (seen_is (graph_of net) (after net r c) (given net r c) e t (look k c vals (source net r cell t e)) early late)
    where
      vals : List ℕ
      vals = values_to (program_of kind first operand) k c (cell v t)

      N : ℕ
      N = new_count_at net r e

      before : ℕ
      before = sum (chosen_on_at net r) e

      lag : t < up (r ((graph_of net).dst e))
      lag = subst (λ u. t < up (r u)) (sym d) ht

      one_sided : down (r ((graph_of net).dst e)) ≡ 0
      one_sided = no_down (r ((graph_of net).dst e)) (omega (arith, lag))

      early : t < N → (after net r c).start e t ≡ look k c vals (source net r cell t e)
      early h =
          let z : source net r cell t e ≡ before + t = rw (lt-ltb t N h) in
          let l = sum_within (chosen_on_at net r) net.edges e t he (omega (arith, lag)) in
          (moved c).chosen e t he h (omega (arith, lag, one_sided))
          ∙ ap (λ n. digit n c (before + t)) (sym size)
          ∙ sym (look_bit k c vals (before + t) (omega (arith, right.few_bits)))
          ∙ ap (look k c vals) (sym z)

      late : (q : ℕ) → N + q ≡ t → given net r c ((graph_of net).src e) q ≡ look k c vals (source net r cell t e)
      late q h =
          let i = cell ((graph_of net).src e) q in
          let z : source net r cell t e ≡ 32 + i = rw (le-ltb t N (omega arith)) (ap (λ n. 32 + cell ((graph_of net).src e) n) (omega arith)) in
          sym (ih q h (omega (arith, lag, one_sided, (moved c).counts e he)))
          ∙ sym (values_at (program_of kind first operand) k c (cell v t) i (source_before v t e i hv ht he d z))
          ∙ ap (at vals) (let y : i ≡ 32 + i - 32 = omega arith in y) ∙ sym (look_cell k c vals (32 + i) (omega arith))
          ∙ ap (look k c vals) (sym z)

  -- By induction on the clock and, within it, on the order of the nodes, in the moved netlist, which has no loop without a register. A node of positive lag is no pin,
  -- so its value is its gate's over what it sees, and so is its cell's.
  pub cell_value : (c v t : ℕ) → v < net.nodes → t < up (r v) → value_at (program_of kind first operand) k c (cell v t) ≡ value gate (graph_of net) (retimed_at net r c) quiet v t
  unfolding sees move
  cell_value c =
      clock_induction (graph_of net) wired (after net r c) (new_no_loop gate (graph_of net) wired (regs_of net) no_loop r legal choice)
      (λ v t. t < up (r v) → value_at (program_of kind first operand) k c (cell v t) ≡ given net r c v t) step
    where
      choice : ℕ → ℕ → ℕ
      choice = choice_at net r c

      step : (v t : ℕ) → v < net.nodes
          → ((e q : ℕ) → e < net.edges → (graph_of net).dst e ≡ v → (after net r c).count e + q ≡ t → q < up (r ((graph_of net).src e))
          → value_at (program_of kind first operand) k c (cell ((graph_of net).src e) q) ≡ given net r c ((graph_of net).src e) q)
          → t < up (r v) → value_at (program_of kind first operand) k c (cell v t) ≡ given net r c v t
      step v t hv ih ht =
          let show = look k c (values_to (program_of kind first operand) k c (cell v t)) in
          value_gate (program_of kind first operand) k c (cell v t)
          ∙ ap₂ (λ n l. gate n (map show l)) (made.kinds v t hv ht) (made.operands v t hv ht)
          ∙ ap (gate ((graph_of net).kind v))
          (gather_map show (graph_of net).dst (source net r cell t) v net.edges
          ∙ gather_same (graph_of net).dst _ _ v net.edges (λ e he d. edge_shows c v t e hv ht he d (λ q. ih e q he d)))
          ∙ sym ((new_trace gate (graph_of net) wired (regs_of net) no_loop r legal choice quiet).at_gate v t hv
          (λ z. absurd (let y : ⊥ = omega (arith, ap up (legal.pinned v hv (omega arith))) in y)))

  -- ── What is due ───────────────────────────────────────────────────────────────────────────

  -- The due of an old value asks of its cell what carrying the start asks of its node. Each old value that is to be carried has its due, and each due is one's.
  pub compiled_holds : (c : ℕ) → GivesDues k (program_of kind first operand) due total c ↔ CarriedAt net r (choice_at net r c)
  compiled_holds c = (forth, back)
    where
      forth : GivesDues k (program_of kind first operand) due total c → CarriedAt net r (choice_at net r c)
      forth holds e s t he hs p =
          let v = (graph_of net).src e in
          let d = made.dues.complete e s t (record { edge = he; old = hs; clock = p }) in
          let i : at due d.place / 2 ≡ cell v t = omega (arith, d.holds) in
          let x : at due d.place % 2 ≡ bit (at net.start e) s = omega (arith, d.holds) in
          sym (cell_value c v t (wired.src_in e he) (omega arith))
          ∙ ap (value_at (program_of kind first operand) k c) (sym i) ∙ sym (holds d.place d.within) ∙ x

      back : CarriedAt net r (choice_at net r c) → GivesDues k (program_of kind first operand) due total c
      back carried x h =
          let d = made.dues.sound x h in
          let q = d.carry in
          let v = (graph_of net).src d.edge in
          let i : at due x / 2 ≡ cell v d.clock = omega (arith, d.is) in
          let y : at due x % 2 ≡ bit (at net.start d.edge) d.old = omega (arith, d.is) in
          y ∙ sym (carried d.edge d.old d.clock q.edge q.old q.clock)
          ∙ sym (cell_value c v d.clock (wired.src_in d.edge q.edge) (omega (arith, q.old, q.clock))) ∙ ap (value_at (program_of kind first operand) k c) (sym i)

-- ── The program's answer ────────────────────────────────────────────────────────────────────

module _ (net : Netlist) (wired : Wired (graph_of net)) (no_loop : ¬ LoopIn net) (r : ℕ → ℤ) (legal : LegalAt net r)
    {k cells : ℕ} {kind first operand due begin : List ℕ} (size : k ≡ chosen_in_at net r)
    (s : Standing net r k cells kind first operand due begin) where
  -- A choice of bits is, where it is looked at, a number below 2 ^ k (`choice_number`).
  pub solved : (found : Option ℕ) → Solves k (program_of (take cells kind) first operand) due (total_of begin) found → Chooses net r found
  solved (Some c) a = record {
    small = subst (λ n. c < 2 ^ n) size a.0;
    carried = (s.holds c).0 a.1;
    first = λ d h p carried. a.2 d p ((s.holds d).1 carried);
  }
  solved None a = λ choice bits carried.
      let n = choice_number gate (graph_of net) wired (regs_of net) no_loop r legal choice (λ e t he ht. bits e t) carried in
      a n.0 (subst (λ m. n.0 < 2 ^ m) (sym size) n.1) ((s.holds n.0).1 n.2)
