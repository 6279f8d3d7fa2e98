-- From what a stage answered to what reading and writing say.
--   lined_fit                    a text whose lines are right: its netlist keeps the rules of a line
--   writes_stop, writes_short, writes_done    the three ends of writing
use Prim.Native.Nat.{ℕ, ◌+◌, ◌<◌, ◌≤◌}
use mathlib.Core.Path.{◌≡◌, refl, ◌∙◌}
use mathlib.Core.List.{List}
use native.Mathlib.Omega.{arith}
use lib.ListN.{length}
use lib.Seq.{sets, sets-eq}
use Rattle.netlist.specs.declared.Netlist.{Netlist}
use Rattle.netlist.specs.Answer.{value, refused, whole}
use Rattle.netlist.specs.Order.{here, past}
use Rattle.netlist.specs.Read.{lines, lines_of, Reads}
use Rattle.netlist.specs.Write.{text_of, Writes}
use Rattle.netlist.specs.Theorems.{Fit}
use Rattle.netlist.proofs.Order.{needs_room}
use Rattle.netlist.proofs.theorems.Lines.{lines_fact}

pub lined_fit : (t : List ℕ) (net : Netlist) → lines_of t ≡ lines net → Fit net
lined_fit t net e = ((lines_fact t net).0 e).0

-- ── Writing ─────────────────────────────────────────────────────────────────────────────────

module _ (net : Netlist) (old : List ℕ) (same : Netlist) where
  -- A refusal stands, and nothing is written.
  pub writes_stop : (q k p : ℕ) → Reads (text_of net) (refused q k p) same → Writes net old (refused q k p) old
  writes_stop q k p check = record { checked = refused q k p; same = same; check = check; answer = here refl; buffer = refl }

  module _ (i : ℕ) (check : Reads (text_of net) (value i) same) where
    pub writes_short : length old < length (text_of net) → Writes net old (whole 12) old
    writes_short h = record { checked = value i; same = same; check = check; answer = past (λ x s. s) (here (h, refl)); buffer = refl }

    pub writes_done : length (text_of net) ≤ length old → (m : ℕ) → m ≡ length (text_of net) → (new : List ℕ) → new ≡ sets old 0 (text_of net)
        → Writes net old (value m) new
    writes_done h m l new b = record {
      checked = value i;
      same = same;
      check = check;
      answer = past (λ x s. s) (needs_room h l);
      buffer = let k : 0 + length (text_of net) ≡ length (text_of net) = omega arith in rw k at (b ∙ sets-eq (text_of net) old 0 (omega arith));
    }
