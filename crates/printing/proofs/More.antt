-- "more decides nothing": a text longer than 25,105 bytes is refused by its first 25,106, whatever follows.
--   refusal_printed, prints_refusal    of a text that does not read its refusal's line is printed, and only that
--   long_refused                       a long text does not read
--   more_decides_nothing
use Prim.Native.Nat.{ℕ, ◌<◌, ◌≤◌}
use native.Mathlib.Omega.{arith}
use native.Mathlib.Decide.{dec_le}
use mathlib.Core.Path.{◌≡◌, refl, sym, ap, ◌∙◌, subst}
use mathlib.Core.Logic.{◌↔◌, ⊎_elim}
use mathlib.Core.List.{List}
use lib.IntN.{pos}
use lib.ListN.{length, take, replicate}
use lib.Seq.{take_all}
use Rattle.netlist.specs.declared.Netlist.{Netlist}
use Rattle.netlist.specs.Answer.{refused}
use Rattle.netlist.specs.Net.{zeros, plain}
use Rattle.netlist.specs.Read.{Reads}
use Rattle.netlist.specs.Write.{text_of}
use Rattle.netlist.proofs.Run.{fit_rows}
use Rattle.netlist.proofs.Written.{text_length}
use Rattle.netlist.proofs.theorems.Lines.{lines_fact}
use Rattle.netlist.proofs.theorems.More.{more_decides_nothing as more-reads-nothing}
use Rattle.netlist.proofs.theorems.Sound.{reads_value}
use Rattle.retime.proofs.Call.{reading, unread}
use Rattle.retime.proofs.theorems.Refusals.{unread_fact}
use Rattle.printing.specs.Shown.{refusal_line}
use Rattle.printing.specs.Listed.{listed, Prints}
use Rattle.printing.specs.Theorems.{MorePrintsNothingElse}

module _ {t : List ℕ} {q k p : ℕ} {net : Netlist} (h : Reads t (refused q k p) net) where
  refusal_printed : Prints t (refusal_line (refused q k p))
  refusal_printed = record {
    said = refused q k p;
    new = zeros (length t);
    lags = replicate 512 (pos 0);
    retimes = unread h;
    read = refused q k p;
    net = net;
    reads = h;
    prints = refl;
  }

  prints_refusal : {b : List ℕ} → Prints t b → b ≡ refusal_line (refused q k p)
  prints_refusal x =
      let s = unread_fact t (zeros (length t)) (replicate 512 (pos 0)) x.said x.new x.lags q k p net h x.retimes in
      x.prints ∙ ap (λ s. listed s (take (length (text_of (plain x.net))) x.new) x.lags x.net.nodes) s

-- A text that reads is its netlist's: a head of 17 bytes, up to 512 nodes of 7 each, up to 1,024 edges of 21 each.
long_refused : (t : List ℕ) → 25105 < length t → (q : ℕ) × (k : ℕ) × (p : ℕ) × (net : Netlist) × Reads t (refused q k p) net
long_refused t long =
    ⊎_elim (λ x. x)
    (λ (net, h).
    let f = (lines_fact t net).0 (reads_value h).0 in
    let rows = fit_rows net f.0 in
    absurd (let z : ⊥ = omega (arith, rows.0, rows.1, ap length f.2, text_length net) in z))
    (reading t)

pub more_decides_nothing : MorePrintsNothingElse
more_decides_nothing t n h b = go (dec_le (length t) n)
  where
    go : Dec (length t ≤ n) → Prints t b ↔ Prints (take n t) b
    go (yes l) = let e = take_all n t l in (subst (λ x. Prints x b) (sym e), subst (λ x. Prints x b) e)
    go (no l) =
        let (q, k, p, net, r) = long_refused t (omega arith) in
        let r' = (more-reads-nothing t n h (refused q k p) net).0 r in
        (λ x. subst (Prints (take n t)) (sym (prints_refusal r x)) (refusal_printed r'), λ x. subst (Prints t) (sym (prints_refusal r' x)) (refusal_printed r))
