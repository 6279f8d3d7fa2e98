-- `netlist::checking::verdict` meets its contract: the head, the nodes and the edges in turn, then the rules of the whole.
use Rattle.std.proofs.Common.{◌≡◌, false, arith, rules, refl, sym, ◌∙◌}
use Rattle.netlist.specs.Read.{faulty}
use Rattle.netlist.specs.Theorems.{node_test, edge_test, FitTo, bad_head, bad_node, bad_edge}
use Rattle.netlist.proofs.Fits.{head_fits_means}
use Rattle.netlist.proofs.Typed.{typed_record}
use Rattle.netlist.proofs.theorems.Record.{record_faults, reads_record}
use Rattle.netlist.proofs.checking.verdict.Goals as goal

pub returns-then-not-head_fits : goal.returns-then-not-head_fits
returns-then-not-head_fits c =
    faulty ((record_faults c.args.net (typed_record c.well_formed.0) _ _).1 (bad_head (sym c.head_fits.ensures ∙ c.if-not-head_fits.true))) refl

-- There are no more nodes and edges than rows.
pub lowest-requires : goal.lowest-requires
lowest-requires c v h =
    let rows = head_fits_means _ _ _ _ (sym c.head_fits.ensures ∙ c.if-not-head_fits.false) in
    search rules

pub lowest-requires-2 : goal.lowest-requires-2
lowest-requires-2 c e h =
    let rows = head_fits_means _ _ _ _ (sym c.head_fits.ensures ∙ c.if-not-head_fits.false) in
    search rules

pub overflow_cast-result-in-Some-lowest : goal.overflow_cast-result-in-Some-lowest
overflow_cast-result-in-Some-lowest c =
    let rows = head_fits_means _ _ _ _ (sym c.head_fits.ensures ∙ c.if-not-head_fits.false) in
    omega (arith, c.in-Some-lowest.ensures.0)

-- What the search found is the first fault of the record's text.
pub returns-in-Some : goal.returns-in-Some
returns-in-Some c =
    let net = c.args.net in
    let v = c.in-Some.v in
    let k = c.in-Some.ensures in
    let fits : FitTo net v 0 =
    record {
      head = sym c.head_fits.ensures ∙ c.if-not-head_fits.false;
      node = λ u l. let p = k.2 u l in search rules;
      edge = λ e l. absurd (let z : ⊥ = omega arith in z);
    }
    in
    let wrong : node_test net v ≡ false = let p = k.1 in search rules in
    faulty ((record_faults net (typed_record c.well_formed.0) _ _).1 (bad_node v fits k.0 wrong)) refl

pub returns-in-Some-lowest : goal.returns-in-Some-lowest
returns-in-Some-lowest c =
    let net = c.args.net in
    let e = c.in-Some-lowest.e in
    let k = c.in-Some-lowest.ensures in
    let fits : FitTo net net.nodes e =
    record {
      head = sym c.head_fits.ensures ∙ c.if-not-head_fits.false;
      node = λ v l. let p = c.in_default.ensures v l in search rules;
      edge = λ d l. let p = k.2 d l in search rules;
    }
    in
    let wrong : edge_test net e ≡ false = let p = k.1 in search rules in
    faulty ((record_faults net (typed_record c.well_formed.0) _ _).1 (bad_edge e fits k.0 wrong)) refl

-- Where it found none, all lines keep their rules.
pub judge-requires : goal.judge-requires
judge-requires c =
    record {
      head = sym c.head_fits.ensures ∙ c.if-not-head_fits.false;
      node = λ v l. let p = c.in_default.ensures v l in search rules;
      edge = λ e l. let p = c.in_default-lowest.ensures e l in search rules;
    }

pub returns : goal.returns
returns c =
    let fits : FitTo c.args.net c.args.net.nodes c.args.net.edges =
    record {
      head = sym c.head_fits.ensures ∙ c.if-not-head_fits.false;
      node = λ v l. let p = c.in_default.ensures v l in search rules;
      edge = λ e l. let p = c.in_default-lowest.ensures e l in search rules;
    }
    in
    reads_record _ fits c.judge.ensures
