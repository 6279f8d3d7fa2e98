-- Longer and shorter periods; another period in the head.
--   longer_forbids_less
--   head_fits_with         a head with another period keeps its rule
--   period_reads, period_plays_no_part
use Prim.Native.Nat.{ℕ, ◌≤◌}
use mathlib.Core.Path.{◌≡◌, refl}
use mathlib.Core.Bool.{true}
use borrow.Author.Tests.{le-leb}
use Rattle.theory.proofs.least.Exists.{feasible_longer}
use Rattle.rules.specs.Rules.{head_fits}
use Rattle.frame.specs.Frame.{within}
use Rattle.netlist.specs.Net.{at_period}
use Rattle.netlist.specs.Read.{judged}
use Rattle.netlist.specs.Write.{text_of}
use Rattle.netlist.proofs.Fits.{both}
use Rattle.netlist.proofs.Judged.{judged_sound}
use Rattle.netlist.proofs.Order.{else_map, given_at_map}
use Rattle.netlist.proofs.theorems.Lines.{lines_fact}
use Rattle.netlist.proofs.theorems.Sound.{reads_value, reads_keeps}
use Rattle.quote.specs.Theorems.{LongerForbidsLess, PeriodReads, PeriodPlaysNoPart}
use Rattle.quote.proofs.Call.{of_net, net_of}

pub longer_forbids_less : LongerForbidsLess
longer_forbids_less net p q h n r f = n r (feasible_longer h f)

-- The head keeps its ranges with any period from 1 to 65,535.
head_fits_with : (p q d n e : ℕ) → head_fits p d n e ≡ true → 1 ≤ q → q ≤ 65535 → head_fits q d n e ≡ true
unfolding head_fits
head_fits_with p q d n e h low high = rw (le-leb 1 q low, le-leb q 65535 high) (both (within 1 65535 p) _ h).1

-- The lines of the nodes and edges stay, so 3 and 4 do; 5, 6 and 7 do not look at the head's period.
pub period_reads : PeriodReads
period_reads t net p h low high =
    let l = (lines_fact t net).0 (reads_value h).0 in
    let j = reads_keeps h in
    let f = l.0 in
    let c = l.1 in
    judged (at_period net p)
    ((lines_fact (text_of (at_period net p)) (at_period net p)).1 (
      record { head = head_fits_with net.period p net.derate net.nodes net.edges f.head low high; node = f.node; edge = f.edge },
      record { kinds = c.kinds; ends = c.ends; node = c.node; edge = c.edge },
      refl,
    ))
    (judged_sound (at_period net p) j.fan_in j.no_loop j.joined)
    refl

-- What is quoted of a netlist looks at its circuit and its working delays, and these are the same.
pub period_plays_no_part : PeriodPlaysNoPart
period_plays_no_part t t' net p s a b c h h' o =
    let x = net_of net h o in
    of_net (at_period net p) h'
    (record {
      lag = x.lag;
      answer = else_map (λ y g. g) (λ y g. g)
          (given_at_map (λ q (f, l). (record { low = f.low; high = f.high; smaller = f.smaller }, l)) s) x.answer;
      total = x.total;
      widest = x.widest;
      chosen = x.chosen;
    })
