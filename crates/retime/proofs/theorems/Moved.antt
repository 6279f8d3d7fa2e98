-- The moved netlist: its text is as long as the original's and reads, and its circuit is the retimed one.
--   written_length, same_length, moved_reads
--   moved_regs          its registers are the retimed ones
--   moved_circuit       so they are those of the paper's three cases, on whatever inputs the original runs
--   moved_alike         it depends on the lags of the nodes only
use Prim.Native.Nat.{ℕ, ◌<◌}
use native.Mathlib.Omega.{arith}
use mathlib.Core.Path.{◌≡◌, sym, ap, ◌∙◌}
use mathlib.Core.List.{List}
use lib.IntN.{ℤ}
use lib.ListN.{length}
use Rattle.theory.specs.Graph.{Wired}
use Rattle.theory.specs.inner.Registers.{SameRegs}
use Rattle.theory.specs.Move.{Moved, move}
use Rattle.theory.specs.Gate.{gate}
use Rattle.theory.specs.Retimer.{Sound}
use Rattle.theory.proofs.moves.Best.{choice_bit}
use Rattle.theory.proofs.moves.Retime.{new_moved_any}
use Rattle.theory.proofs.retimer.Kept.{sound_new}
use Rattle.netlist.specs.declared.Netlist.{Netlist}
use Rattle.netlist.specs.Answer.{value}
use Rattle.netlist.specs.Net.{plain, graph_of, regs_of}
use Rattle.netlist.specs.Circuit.{TraceIn, choice_at}
use Rattle.netlist.specs.inner.Words.{LegalAt, retimed_at}
use Rattle.netlist.specs.Read.{Reads}
use Rattle.netlist.proofs.Run.{fit_rows}
use Rattle.netlist.proofs.Written.{text_length}
use Rattle.netlist.proofs.theorems.Lines.{lines_fact}
use Rattle.netlist.proofs.theorems.Sound.{reads_value, reads_text, read_is_sound}
use Rattle.moves.specs.Moved.{moved_net}
use Rattle.retime.specs.Theorems.{WrittenLength, SameLength, MovedReads}
use Rattle.moves.proofs.Lags.{regs_alike}
use Rattle.moves.proofs.Moved.{with_same, with_regs_same, with_reads}

-- A text's length depends on how many nodes and edges it has.
pub written_length : WrittenLength
unfolding moved_net
written_length net r c = text_length (moved_net net r c) ∙ sym (text_length (plain net))

pub same_length : SameLength
same_length t net r c h = written_length net r c ∙ ap length (sym (reads_text h))

module _ (t : List ℕ) (net : Netlist) (r : ℕ → ℤ) (c : ℕ) (h : Reads t (value 0) net) (legal : LegalAt net r) where
  moved_sound : Sound gate (graph_of net) (retimed_at net r c)
  moved_sound =
      sound_new gate (graph_of net) (regs_of net) (read_is_sound t net h) r legal (choice_at net r c) (choice_bit gate (graph_of net) (regs_of net) r c)

  pub moved_regs : SameRegs (graph_of net) (retimed_at net r c) (regs_of (moved_net net r c))
  unfolding moved_net
  moved_regs =
      with_regs_same net (retimed_at net r c) (fit_rows net ((lines_fact t net).0 (reads_value h).0).0).1 moved_sound.bits.starts

  pub moved_circuit : (ins x : ℕ → ℕ → ℕ) → TraceIn net ins x
      → Moved (graph_of net) (regs_of net) (regs_of (moved_net net r c)) r (choice_at net r c) x
  moved_circuit ins x X =
      let ok = read_is_sound t net h in
      let same = moved_regs in
      let m = new_moved_any gate (graph_of net) ok.wired (regs_of net) ok.no_loop r legal (choice_at net r c) X in
      let below : (e i : ℕ) → e < net.edges → i < (regs_of (moved_net net r c)).count e → i < (retimed_at net r c).count e =
      λ e i he hi. omega (arith, same.counts e he) in
      record {
        counts = λ e he. omega (arith, m.counts e he, same.counts e he);
        chosen = λ e i he hi l. same.starts e i he (below e i he hi) ∙ m.chosen e i he (below e i he hi) l;
        kept = λ e i s he hi p l. same.starts e i he (below e i he hi) ∙ m.kept e i s he (below e i he hi) p l;
        taken = λ e i k he hi p. same.starts e i he (below e i he hi) ∙ m.taken e i k he (below e i he hi) p;
      }

-- A sound netlist moved by legal lags is sound (`sound_new`), and no count is above 32.
pub moved_reads : MovedReads
unfolding moved_net move
moved_reads t net r c h legal narrow = with_reads t net (retimed_at net r c) h (moved_sound t net r c h legal) narrow

pub moved_alike : (net : Netlist) (r q : ℕ → ℤ) (c : ℕ) → Wired (graph_of net) → ((v : ℕ) → v < net.nodes → r v ≡ q v) → moved_net net r c ≡ moved_net net q c
unfolding moved_net
moved_alike net r q c w same = with_same net _ _ (regs_alike gate (graph_of net) w (regs_of net) q r (λ v h. sym (same v h)) c)
