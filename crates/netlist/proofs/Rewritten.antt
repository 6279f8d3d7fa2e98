-- A text read and written again.
--   rewrites_stop       it is refused
--   rewrites_done       it reads
use Prim.Native.Nat.{ℕ}
use mathlib.Core.Path.{◌≡◌, refl, ap, sym, ◌∙◌, subst, subst₂}
use mathlib.Core.List.{List}
use lib.ListN.{length}
use Rattle.netlist.specs.declared.Netlist.{Netlist}
use Rattle.netlist.specs.Answer.{Said, value, refused, holds}
use Rattle.netlist.specs.Order.{◌or_else◌, here, Stops, Needs}
use Rattle.netlist.specs.Read.{Reads}
use Rattle.netlist.specs.Write.{text_of, Writes, Rewrites}
use Rattle.netlist.proofs.theorems.One.{one_reading}
use Rattle.netlist.proofs.theorems.Sound.{reads_text}

pub rewrites_stop : (t old : List ℕ) (net : Netlist) (q k p : ℕ) → Reads t (refused q k p) net → Rewrites t old (refused q k p) old
rewrites_stop t old net q k p r = record { said = refused q k p; net = net; reads = r; answer = here refl; buffer = refl }

-- What was read has the text for its own, so it is checked as it was read.
pub rewrites_done : (t old : List ℕ) (net : Netlist) (s : Said) (new : List ℕ) {n : ℕ} → Reads t (value n) net → Writes net old s new
    → Rewrites t old s new
rewrites_done t old net s new {n} r w =
    let q : t ≡ text_of net = reads_text r in
    let c : w.checked ≡ value n = (one_reading t w.checked (value n) w.same net (subst (λ x. Reads x w.checked w.same) (sym q) w.check) r).0 in
    record {
      said = value n;
      net = net;
      reads = r;
      answer = subst₂ (λ x y. (Stops x or_else Needs (length y) (length old)) s) c (sym q) w.answer;
      buffer = w.buffer ∙ ap (λ y. holds s y old) (sym q);
    }
