-- `gates::truth::truth_of` meets its contract: a selector has its own word.
use Rattle.std.proofs.Common.{refl, sym, ap}
use mathlib.Core.Path.{subst₂}
use lib.Count.{ones, ones_in}
use Rattle.rules.specs.Kinds.{kind_number}
use Rattle.gates.specs.inner.Gates.{word_from, picked, Reckons}
use Rattle.gates.proofs.Reckons.{selector_works}
use Rattle.gates.proofs.truth.truth_of.Goals as goal

-- The eight rows, by computing.
pub returns-in-Selector : goal.returns-in-Selector
unfolding word_from picked ones ones_in
returns-in-Selector c =
    let e = c.in-Selector.is in
    subst₂ (λ kind n. Reckons (kind_number kind) n _) (sym e) (sym (c.requires.1 (ap kind_number e))) (selector_works _ refl refl)
