-- Demand 3 follows from the outcome, and so do the bounds on lags.
--   start_carried       the new netlist gives the old values, whatever inputs it runs on
--   pins_agree          the original's and the moved netlist's traces agree at the pins
--   runs_same           so both texts run alike, both ways
--   comes_asked         what comes back is asked for
--   came                what came back
--   demand_follows, lags_fit
use Prim.Native.Nat.{ℕ, ◌<◌, ◌≤◌}
use native.Mathlib.Omega.{arith}
use native.Mathlib.Decide.{dec_le, dec_lt}
use mathlib.Core.Path.{◌≡◌, refl, sym, ap, ◌∙◌, subst}
use mathlib.Core.Logic.{◌↔◌}
use mathlib.Core.List.{List, ◌++◌}
use lib.IntN.{ℤ, pos}
use lib.ListN.{length, take, drop}
use lib.Seq.{take_at}
use Rattle.theory.specs.Clock.{Trace}
use Rattle.theory.specs.Gate.{gate}
use Rattle.theory.specs.Lag.{up, down}
use Rattle.theory.specs.Move.{quiet, Carries}
use Rattle.theory.specs.inner.Demand.{Demand}
use Rattle.theory.proofs.numbers.Whole.{no_up}
use Rattle.theory.proofs.walks.Walks.{walk_start, walk_shift}
use Rattle.theory.proofs.walks.Short.{short_walk, few_registers}
use Rattle.theory.proofs.clocks.Trace.{unique}
use Rattle.theory.proofs.moves.Retime.{new_no_loop, new_trace, carried_any}
use Rattle.theory.proofs.labels.Bias.{legal_shifts}
use Rattle.theory.proofs.retimer.Demand.{demand}
use Rattle.theory.proofs.retimer.Levels.{lag_chosen}
use Rattle.netlist.specs.declared.Netlist.{Netlist}
use Rattle.netlist.specs.Answer.{Said, value, holds}
use Rattle.netlist.specs.Net.{plain, graph_of, regs_of, delay_of}
use Rattle.netlist.specs.Circuit.{BestAt, NarrowAt, SoundIn, TraceIn, choice_at}
use Rattle.netlist.specs.inner.Words.{LegalAt, PinIn, new_count_at, retimed_at}
use Rattle.netlist.specs.Read.{Reads}
use Rattle.netlist.specs.Write.{text_of}
use Rattle.netlist.proofs.Fits.{edge_fits_means}
use Rattle.netlist.proofs.Order.{later}
use Rattle.netlist.proofs.Run.{fit_rows}
use Rattle.netlist.proofs.theorems.Sound.{read_is_sound}
use Rattle.simulate.specs.Run.{Runs}
use Rattle.simulate.proofs.theorems.Alike.{runs_alike}
use Rattle.lags.proofs.Laws.{read_sure}
use Rattle.moves.specs.Moved.{moved_net}
use Rattle.retime.specs.Retime.{LeastLags, lag_table, Retimes}
use Rattle.retime.specs.Demand.{Startable, Asked, ComesBack, table_lag, Came}
use Rattle.retime.specs.Theorems.{DemandFollows, LagsFit}
use Rattle.netlist.proofs.Rows.{rows_at}
use Rattle.moves.proofs.Lags.{least_alike, best_alike}
use Rattle.retime.specs.inner.Leaves.{FromShort, Leaves}
use Rattle.retime.proofs.Order.{no_wide, no_many, no_startless, narrow_alike, few_alike, Settled, Fact, told, moved_at}
use Rattle.retime.proofs.Call.{left_of}
use Rattle.retime.proofs.theorems.Moved.{written_length, moved_reads, moved_regs, moved_circuit, moved_alike}

-- ── Both texts run alike ────────────────────────────────────────────────────────────────────

module _ (t : List ℕ) (net : Netlist) (r : ℕ → ℤ) (c : ℕ) (h : Reads t (value 0) net) (l : LeastLags net r) (narrow : NarrowAt net r) (b : BestAt net r c) where
  ok : SoundIn net
  ok = read_is_sound t net h

  says : Demand gate (graph_of net) (regs_of net) (delay_of net) net.period
  says = demand gate (graph_of net) (regs_of net) ok (delay_of net) net.period

  start_carried : (ins y : ℕ → ℕ → ℕ) → Trace gate (graph_of net) (regs_of (moved_net net r c)) ins y → Carries (graph_of net) (regs_of net) r y
  start_carried ins y Y =
      let (x, X) = says.runs quiet in
      let legal = l.feasible.legal in
      carried_any gate (graph_of net) ok.wired (regs_of net) ok.no_loop r legal (choice_at net r c) b.carried X (moved_circuit t net r c h legal quiet x X) Y

  -- A trace of the moved netlist is one of the retimed registers, as these are the same; and that agrees with the original's at the pins (`same` of the theory's demand).
  pins_agree : (ins x y : ℕ → ℕ → ℕ) → TraceIn net ins x → Trace gate (graph_of net) (regs_of (moved_net net r c)) ins y
      → (v k : ℕ) → v < net.nodes → PinIn net v → y v k ≡ x v k
  pins_agree ins x y X Y v k hv p =
      let legal = l.feasible.legal in
      let choice = choice_at net r c in
      let Z = new_trace gate (graph_of net) ok.wired (regs_of net) ok.no_loop r legal choice ins in
      sym (unique gate (graph_of net) ok.wired (retimed_at net r c) (regs_of (moved_net net r c)) (moved_regs t net r c h legal)
      (new_no_loop gate (graph_of net) ok.wired (regs_of net) ok.no_loop r legal choice) Z Y (λ u i hu q. refl) v k hv)
      ∙ says.same r c (record { least = l; best = b }) ins x _ X Z v k hv p

  moved_text_reads : Reads (text_of (moved_net net r c)) (value 0) (moved_net net r c)
  moved_text_reads = moved_reads t net r c h l.feasible.legal narrow

  pub runs_same : (vectors buffer : List ℕ) (s : Said) (after : List ℕ) → Runs t vectors buffer s after ↔ Runs (text_of (moved_net net r c)) vectors buffer s after
  unfolding moved_net
  runs_same vectors buffer s after = (
    runs_alike t (text_of (moved_net net r c)) net (moved_net net r c) h moved_text_reads refl (λ v hv. refl)
        (λ ins x y X Y v k hv q. sym (pins_agree ins x y X Y v k hv (omega arith))) vectors buffer s after,
    runs_alike (text_of (moved_net net r c)) t (moved_net net r c) net moved_text_reads h refl (λ v hv. refl)
        (λ ins y x Y X v k hv q. pins_agree ins x y X Y v k hv (omega arith)) vectors buffer s after,
  )

  came_back : Came t net (text_of (moved_net net r c)) r
  came_back = record {
    least = l;
    number = c;
    start = b;
    moved = refl;
    reads = moved_text_reads;
    registers = moved_circuit t net r c h l.feasible.legal;
    carries = start_carried;
    same_runs = runs_same;
  }

-- ── The call ────────────────────────────────────────────────────────────────────────────────

module _ (t out : List ℕ) (lags : List ℤ) (s : Said) (out' : List ℕ) (lags' : List ℤ) (net : Netlist) (h : Reads t (value 0) net) (o : Retimes t out lags s out' lags') where
  left : Leaves (FromShort out lags net) net out lags s out' lags'
  left = left_of net h o

  settled : ComesBack s → Settled out lags net left.lag left.choice
  settled (k, p) = subst (Fact out lags net left.lag left.choice) p (told out lags net left.lag left.choice left.answer)

  -- A call that comes back had room, and was within the limits of 9 and 10, as the least lags are one at each node.
  pub comes_asked : ComesBack s → Asked t out lags net
  comes_asked back =
      let f = settled back in
      let ok = read_is_sound t net h in
      record {
        reads = h;
        room = f.room;
        few = λ q m. (narrow_alike net ok left.lag q f.least m f.narrow, few_alike net ok left.lag q f.least m f.few);
      }

  only : ComesBack s → Startable net
  only back =
      let f = settled back in
      (demand gate (graph_of net) (regs_of net) (read_is_sound t net h) (delay_of net) net.period).only_then left.lag left.choice (record { least = f.least; best = f.best })

  -- The least retiming has a start too, and the limits of 9 and 10 are kept: no refusal's fact holds.
  forth : Asked t out lags net → Startable net → ComesBack s
  forth asked p =
      let ok = read_is_sound t net h in
      let (r, c, a) = (demand gate (graph_of net) (regs_of net) ok (delay_of net) net.period).comes_back p in
      let (narrow, few) = asked.few r a.least in
      let row = moved_at out lags net left.lag left.choice ok asked.room r a.least left.answer in
      (_, (later s (no_startless net r c a.best) (later s (no_many net r few) (later s (no_wide net r narrow) row))).1)

  came : ComesBack s → Came t net (take (length (text_of (plain net))) out') (table_lag lags')
  came (k, p) =
      let f = settled (k, p) in
      let ok = read_is_sound t net h in
      let r = left.lag in
      let c = left.choice in
      let q : ℕ → ℤ = table_lag lags' in
      let table : lags' ≡ lag_table net r ++ drop (length (lag_table net r)) lags = left.table ∙ ap (λ a. holds a (lag_table net r) lags) p in
      let same : (v : ℕ) → v < net.nodes → r v ≡ q v = λ v hv. sym (ap (λ a. table_lag a v) table ∙ rows_at r (pos 0) net.nodes v (drop (length (lag_table net r)) lags) hv) in
      let n = length (text_of (plain net)) in
      let text : take n out' ≡ text_of (moved_net net q c) =
      ap (take n) (left.buffer ∙ ap (λ a. holds a (text_of (moved_net net r c)) out) p)
      ∙ take_at (text_of (moved_net net r c)) (drop (length (text_of (moved_net net r c))) out) n (written_length net r c)
      ∙ ap text_of (moved_alike net r q c ok.wired same) in
      let least = least_alike gate (graph_of net) ok.wired (regs_of net) r q same (delay_of net) net.period f.least in
      let narrow = ((comes_asked (k, p)).few q least).0 in
      subst (λ x. Came t net x q) (sym text) (came_back t net q c h least narrow (best_alike gate (graph_of net) (regs_of net) ok r q f.least.feasible.legal same c f.best))

-- A call that comes back has the least lags and the smallest number that carries the start there, so some retiming carries it. Back: where some legal retiming that meets the
-- period carries the start, the least one does (Pan's theorem, in the theory's demand), no refusal's fact holds, and the call comes back. What came back is the original
-- moved by the table's lags: it reads, and it runs as the original does, as their traces agree at the pins on all inputs, at every clock.
pub demand_follows : DemandFollows
demand_follows t out lags s out' lags' o = record {
  exactly = λ net asked. (only t out lags s out' lags' net asked.reads o, forth t out lags s out' lags' net asked.reads o asked);
  came = λ net h. came t out lags s out' lags' net h o;
}

-- ── The bounds on lags ──────────────────────────────────────────────────────────────────────

-- A short walk from an input to v has 511 edges at most, so 511 · 32 registers at most, and these are what a lag can take away.
lag_down : (t : List ℕ) (net : Netlist) (r : ℕ → ℤ) → Reads t (value 0) net → LegalAt net r → (v : ℕ) → v < net.nodes → down (r v) ≤ 16352
lag_down t net r h legal v hv = go (dec_le ((graph_of net).kind v) 1) (dec_lt 0 (down (r v)))
  where
    go : Dec (PinIn net v) → Dec (0 < down (r v)) → down (r v) ≤ 16352
    go (yes p) d = omega (arith, ap down (legal.pinned v hv p))
    go (no p) (no d) = omega arith
    go (no p) (yes d) =
        let ok = read_is_sound t net h in
        let fit = (read_sure t net h).fit in
        let f = ok.from_input v hv p in
        let (q, short) = short_walk ok.wired f.walk in
        let start = legal.pinned f.from (walk_start f.walk) (omega (arith, f.input)) in
        omega (
          arith,
          (fit_rows net fit).0,
          ap up start,
          ap down start,
          no_up (r v) d,
          few_registers (regs_of net).count 32 (λ e he. (edge_fits_means _ _ _ _ _ _ (fit.edge e he)).2) q,
          walk_shift (regs_of net).count (new_count_at net r) r (legal_shifts (graph_of net) (regs_of net).count r legal) q,
        )

-- No lag is above the number of chosen values (`lag_chosen`), and that is 24 at most.
pub lags_fit : LagsFit
lags_fit t out lags s out' lags' net h o back v hv =
    let least = (came t out lags s out' lags' net h o back).least in
    let few = ((comes_asked t out lags s out' lags' net h o back).few (table_lag lags') least).1 in
    let legal = least.feasible.legal in
    (omega (arith, lag_chosen (graph_of net) (regs_of net).count (table_lag lags') legal (read_is_sound t net h).from_input v hv), lag_down t net (table_lag lags') h legal v hv)
