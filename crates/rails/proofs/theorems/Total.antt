-- Counting a text has one outcome, and the total is at most the plain register total.
--   some_rails, one_rails
--   at_most_plain, plain_where_alone
use native.Mathlib.Omega.{arith}
use mathlib.Core.Path.{◌≡◌, refl, sym, ap₂, ◌∙◌, subst₂}
use mathlib.Core.List.{[], ◌∷◌}
use lib.ListN.{length}
use Rattle.theory.proofs.numbers.Sums.{sum_same, sum_most}
use Rattle.netlist.specs.Answer.{holds}
use Rattle.netlist.specs.Net.{graph_of, regs_of}
use Rattle.netlist.specs.Write.{joined}
use Rattle.netlist.proofs.theorems.One.{one_reading}
use Rattle.netlist.proofs.theorems.Some.{some_reading}
use Rattle.rails.specs.Rails.{paid_on, rails_at, rails_in}
use Rattle.rails.specs.Theorems.{SomeRails, OneRails, AtMostPlain, PlainWhereAlone}
use Rattle.rails.proofs.Shared.{paid_few, paid_alone}
use Rattle.rails.proofs.Counted.{rails_total}
use Rattle.rails.proofs.Answered.{Row, row_one, row_some, reads_fit, total_is}

pub some_rails : SomeRails
some_rails t old =
    let r = some_reading t in
    let net = r.1 in
    let a = row_some r.0 (length old) net.nodes (rails_in (graph_of net) (regs_of net)) in
    (a.0, holds a.0 (joined (λ u. rails_at (graph_of net) (regs_of net) u ∷ []) net.nodes) old, record { checked = r.0; net = net; reads = r.2; answer = a.1; table = refl })

pub one_rails : OneRails
one_rails t old s s' new new' x x' =
    let e = one_reading t x.checked x'.checked x.net x'.net x.reads x'.reads in
    let f : s ≡ s' = row_one x'.checked _ _ _ s s' (subst₂ (λ c n. Row c (length old) n.nodes (rails_in (graph_of n) (regs_of n)) s) e.0 e.1 x.answer) x'.answer in
    (f, x.table ∙ ap₂ (λ c n. holds c (joined (λ u. rails_at (graph_of n) (regs_of n) u ∷ []) n.nodes) old) f e.1 ∙ sym x'.table)

-- An edge pays for no more registers than it has.
pub at_most_plain : AtMostPlain
at_most_plain t old new net total r x =
    let m = sum_most (paid_on (graph_of net) (regs_of net)) (regs_of net).count net.edges (λ e h. paid_few (graph_of net) (regs_of net) e) in
    omega (arith, total_is r x, rails_total net (reads_fit r), m)

-- Where no lower edge leaves its node it pays for each.
pub plain_where_alone : PlainWhereAlone
plain_where_alone t old new net total r x alone =
    total_is r x ∙ rails_total net (reads_fit r)
    ∙ sum_same (paid_on (graph_of net) (regs_of net)) (regs_of net).count net.edges
    (λ e h. paid_alone (graph_of net) (regs_of net) e (λ i l p. let z = alone e i h (omega arith) (sym p) in omega arith))
