-- What reads is a sound circuit.
--   fault_refuses       a line's fault is a refusal
--   reads_value         so a reading that refuses nothing is of lines that have no fault
--   reads_text          whose text it is
--   reads_keeps         and that keeps the rules
--   read_is_sound
use Prim.Native.Nat.{ℕ}
use native.Mathlib.Omega.{arith}
use mathlib.Core.Path.{◌≡◌, sym, ap, ◌∙◌, subst}
use mathlib.Core.List.{List}
use Rattle.theory.proofs.clocks.Gate.{gate_bit}
use Rattle.netlist.specs.declared.Netlist.{Netlist}
use Rattle.netlist.specs.Answer.{value}
use Rattle.netlist.specs.Read.{Lines, fault, lines, lines_of, Judged, Reads, faulty, judged}
use Rattle.netlist.specs.Write.{text_of}
use Rattle.netlist.specs.Theorems.{Keeps, ReadIsSound}
use Rattle.netlist.proofs.Fits.{clash}
use Rattle.netlist.proofs.Run.{fit_wired}
use Rattle.netlist.proofs.Account.{Account, right, wrong, account}
use Rattle.netlist.proofs.theorems.Lines.{lines_fact}
use Rattle.netlist.proofs.theorems.Refusals.{judged_keeps}

fault_refuses : {t : List ℕ} {x : Lines} {n : ℕ} → Account t x → ¬ (x ≡ fault (value n))
fault_refuses (right net f c p) q = clash (cc)
fault_refuses (wrong k n f) q = clash (cc)

pub reads_value : {t : List ℕ} {n : ℕ} {net : Netlist} → Reads t (value n) net → (lines_of t ≡ lines net) × Judged net (value n)
reads_value {t} (faulty p q) = absurd (fault_refuses (account t) p)
reads_value {n = n} (judged m p j q) = (p ∙ ap lines (sym q), subst (λ x. Judged x (value n)) (sym q) j)

pub reads_text : {t : List ℕ} {n : ℕ} {net : Netlist} → Reads t (value n) net → t ≡ text_of net
reads_text {t} {net = net} r = ((lines_fact t net).0 (reads_value r).0).2

pub reads_keeps : {t : List ℕ} {n : ℕ} {net : Netlist} → Reads t (value n) net → Keeps net
reads_keeps {t} {net = net} r = let k = reads_value r in judged_keeps net ((lines_fact t net).0 k.0).0 k.1

-- The edges keep rule 4, so they join nodes; rules 6 and 7 hold, as nothing is refused; start values and what gates give are bits.
pub read_is_sound : ReadIsSound
read_is_sound t net r =
    let k = reads_keeps r in
    record {
      wired = fit_wired net k.lines;
      bits = record { gates = gate_bit; starts = λ e t h l. omega arith };
      no_loop = k.no_loop;
      from_input = λ v h p. (k.joined v h).0;
      to_output = λ v h p. (k.joined v h).1;
    }
