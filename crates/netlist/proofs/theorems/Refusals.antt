-- Of a text whose lines have no fault: each of 5, 6, 7 and success is said exactly when its fact holds and no earlier one does.
--   five_fact, six_fact, seven_fact, none_fact    what is said names its fact: the other facts say other things
--   judged_zero, judged_keeps    reading that refuses nothing says 0, of a netlist that keeps the rules
--   refusal_facts
use Prim.Native.Nat.{ℕ}
use mathlib.Core.Path.{◌≡◌, refl, subst}
use Rattle.theory.specs.Graph.{Wired}
use Rattle.netlist.specs.declared.Netlist.{Netlist}
use Rattle.netlist.specs.Answer.{Said, value, whole, at_node}
use Rattle.netlist.specs.Order.{here, past, GivenAt}
use Rattle.netlist.specs.Net.{graph_of}
use Rattle.netlist.specs.Circuit.{LoopIn}
use Rattle.netlist.specs.Read.{Judged, AllInReach, FanInsFit, OutOfReach, WrongFanIn}
use Rattle.netlist.specs.Theorems.{Fit, Keeps, RefusalFacts}
use Rattle.netlist.proofs.Fits.{clash}
use Rattle.netlist.proofs.Run.{fit_wired}
use Rattle.netlist.proofs.Judged.{all_none, one_judged, judged_sound, reads_judged}
use Rattle.netlist.proofs.Decide.{none_all, fan_in?, joined?}
use Rattle.netlist.proofs.theorems.Lines.{lines_fact}

fans : (net : Netlist) → ((x : Said) → ¬ GivenAt (WrongFanIn net) (at_node 5) x) → FanInsFit net
fans net = none_all net.nodes (at_node 5) (fan_in? (graph_of net))

module _ (read : Netlist) (w : Wired (graph_of read)) {s : Said} where
  five_fact : Judged read s → (v : ℕ) → s ≡ at_node 5 v → WrongFanIn read v
  five_fact (here (u, l, q)) v p = let e : u ≡ v = cc in subst (WrongFanIn read) e l
  five_fact (past f (here (o, q))) v p = clash (cc)
  five_fact (past f (past o (here (u, l, q)))) v p = clash (cc)
  five_fact (past f (past o (past r q))) v p = clash (cc)

  six_fact : Judged read s → s ≡ whole 6 → FanInsFit read × LoopIn read
  six_fact (here (u, l, q)) p = clash (cc)
  six_fact (past f (here (o, q))) p = (fans read f, o)
  six_fact (past f (past o (here (u, l, q)))) p = clash (cc)
  six_fact (past f (past o (past r q))) p = clash (cc)

  seven_fact : Judged read s → (v : ℕ) → s ≡ at_node 7 v
      → FanInsFit read × (¬ LoopIn read) × OutOfReach read v
  seven_fact (here (u, l, q)) v p = clash (cc)
  seven_fact (past f (here (o, q))) v p = clash (cc)
  seven_fact (past f (past o (here (u, l, q)))) v p = let e : u ≡ v = cc in (fans read f, λ l. o (whole 6) (l, refl), subst (OutOfReach read) e l)
  seven_fact (past f (past o (past r q))) v p = clash (cc)

  none_fact : {n : ℕ} → Judged read s → s ≡ value n
      → FanInsFit read × (¬ LoopIn read) × AllInReach read
  none_fact (here (u, l, q)) p = clash (cc)
  none_fact (past f (here (o, q))) p = clash (cc)
  none_fact (past f (past o (here (u, l, q)))) p = clash (cc)
  none_fact (past f (past o (past r q))) p = (fans read f, λ l. o (whole 6) (l, refl), none_all read.nodes (at_node 7) (joined? w) r)

pub judged_zero : (net : Netlist) {i : ℕ} → Judged net (value i) → i ≡ 0
judged_zero net (here (v, l, q)) = clash (cc)
judged_zero net (past f (here (o, q))) = clash (cc)
judged_zero net (past f (past o (here (v, l, q)))) = clash (cc)
judged_zero net (past f (past o (past r q))) = cc

-- A netlist whose lines keep their rules, and against which nothing is said, keeps them all.
pub judged_keeps : (net : Netlist) → Fit net → {n : ℕ} → Judged net (value n) → Keeps net
judged_keeps net f j =
    let k = none_fact net (fit_wired net f) j refl in
    record { lines = f; fan_in = k.0; no_loop = k.1; joined = k.2 }

-- From a fact to what is said: its place in the row, and only one thing is said (`one_judged`).
pub refusal_facts : RefusalFacts
refusal_facts t s net read h r =
    let j = (reads_judged h r).0 in
    let w = fit_wired read ((lines_fact t read).0 h).0 in
    let one : (x : Said) → Judged read x → s ≡ x = λ x. one_judged read s x j in
    record {
      five = λ v. (five_fact read w j v, λ l. one (at_node 5 v) (here (v, l, refl)));
      six = (six_fact read w j, λ f. one (whole 6) (past (all_none f.0) (here (f.1, refl))));
      seven = λ v. (seven_fact read w j v, λ f. one (at_node 7 v) (past (all_none f.0) (past (λ x g. f.1 g.0) (here (v, f.2, refl)))));
      none = (none_fact read w j, λ f. one (value 0) (judged_sound read f.0 f.1 f.2));
    }
