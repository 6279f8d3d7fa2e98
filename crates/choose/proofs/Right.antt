-- The cells put together: what the functions ask of each other, and that the cells are a right program.
--   known               what is known of a task, its columns cut to the edges, by what `choose` asks for
--   size, low_lag       how many values are chosen; no lag is above 24
--   arranged, okay_all  the order has each node once; each node has its cells: what `number_cells` and `put` ask for
--   few_cells, node_low how many cells there are; their nodes
--   base_low            a value's number
--   entering_by, rows_of_cell, few_places   every cell's operands can be read, and there is room for them: what `wire` needs
--   standing            the columns are a right program, and what is due of it is what has to be carried: what `solve` asks for
--   chooses             what `solve` says of what `compile` leaves is retiming's
--   chosen_none         where nothing is chosen, nothing is to be carried
use Prim.Native.Nat.{ℕ, suc, ◌+◌, ◌*◌, ◌-◌, ◌/◌, ◌%◌, ◌≤◌, ◌<◌}
use native.Mathlib.Omega.{arith}
use native.Mathlib.Numerals.{add-one}
use native.Mathlib.Decide.{ℕ_discrete, dec_lt}
use mathlib.Core.Path.{◌≡◌, sym, subst, ap, ◌∙◌}
use Rattle.std.proofs.Common.{Option, Some}
use mathlib.Core.Logic.{◌⊎◌, ◌↔◌, inl, inr}
use mathlib.Core.List.{List}
use borrow.Author.Tests.{lt-ltb, le-ltb}
use lib.ListN.{length, take, replicate, length-replicate}
use lib.Seq.{get_or-take}
use Rattle.std.proofs.lemmas.List.{length-take-le}
use Rattle.theory.specs.Lag.{up}
use Rattle.theory.specs.Gate.{gate}
use Rattle.theory.specs.Move.{sum}
use Rattle.theory.proofs.numbers.Whole.{no_down}
use Rattle.theory.proofs.numbers.Sums.{sum_within, sum_more, sum_grows}
use Rattle.theory.proofs.moves.Best.{best_none}
use Rattle.theory.proofs.retimer.Levels.{lag_chosen}
use Rattle.graph.specs.Columns.{at}
use Rattle.graph.specs.inner.Sort.{group, Sorts, ByNode, Ordered}
use Rattle.graph.proofs.Sorted.{sorted_room}
use Rattle.graph.proofs.ByNode.{sorts_by_node, sorts_width}
use Rattle.netlist.specs.declared.Netlist.{Netlist}
use Rattle.netlist.specs.Net.{graph_of, regs_of}
use Rattle.netlist.specs.Circuit.{choice_at, chosen_in_at}
use Rattle.netlist.specs.inner.Words.{CarriedAt}
use Rattle.netlist.proofs.Run.{fit_wired}
use Rattle.simulate.specs.inner.Ran.{Steppable}
use Rattle.search.specs.inner.Program.{program_of, RightProgram, rows_of, total_of, Owes, GivesDues, Solves}
use Rattle.search.proofs.Values.{earlier_of}
use Rattle.moves.specs.inner.Labels.{lags_of, Labelled, chosen_at}
use Rattle.choose.specs.inner.Numbers.{lag_at, LagsBelow, Arranged, EarlierCell, CellsNumbered}
use Rattle.choose.specs.inner.Sources.{source_at, width_at, OperandRows, Operands}
use Rattle.choose.specs.inner.Dues.{cell_at, Celled, Dues}
use Rattle.moves.specs.inner.Moving.{Moving, Choosing}
use Rattle.choose.specs.inner.Task.{Known}
use Rattle.choose.specs.inner.Wires.{Placed, Chooses, Standing}
use Rattle.moves.proofs.Labels.{from_node, low_nodes, low_edges}
use Rattle.netlist.proofs.Lowest.{kind_low, fan_low, fan_three}
use Rattle.choose.proofs.Arranged.{ordered_arranged}
use Rattle.choose.proofs.Columns.{celled, compiled}
use Rattle.choose.proofs.Compiles.{compiled_holds, solved}
use Rattle.choose.proofs.Widths.{few_operands}

-- ── What `choose` asks for ──────────────────────────────────────────────────────────────────

module _ {net : Netlist} {lab counts base : List ℕ} {k : ℕ} (ch : Choosing net lab counts base k) where
  abbrev c : Moving net lab counts
  c = ch.moving

  pub number : k ≡ chosen_in_at net (lags_of lab)
  number = ch.chosen ∙ ch.based net.edges (omega arith)

  -- No lag is above the number of values chosen.
  lag_low : (v : ℕ) → v < net.nodes → lag_at lab v ≤ k
  lag_low v h = omega (arith, number, lag_chosen (graph_of net) (regs_of net).count (lags_of lab) c.labelled.legal c.sure.fed v h)

  pub lags_low : LagsBelow lab net.nodes 24
  lags_low = record { few = omega arith; low = λ v h. omega (arith, ch.few, lag_low v h) }

  -- The columns cut to the edges.
  count_cut : (e : ℕ) → e < net.edges → at (take net.edges counts) e ≡ at counts e
  count_cut e h = get_or-take net.edges counts e 0 h

  base_cut : (e : ℕ) → e ≤ net.edges → at (take (net.edges + 1) base) e ≡ at base e
  base_cut e h = get_or-take (net.edges + 1) base e 0 (omega arith)

  pub known : {clocks : ℕ} → LagsBelow lab net.nodes clocks → Known net lab (take net.edges counts) (take (net.edges + 1) base) k clocks
  known low = record {
    counted = λ e h. count_cut e h ∙ c.counted e h;
    count_rows = length-take-le net.edges counts c.count_rows;
    narrow = λ e h. omega (arith, count_cut e h, c.narrow e h);
    based = λ e h. base_cut e h ∙ ch.based e h;
    base_rows = length-take-le (net.edges + 1) base (omega (arith, ch.base_rows));
    chosen = ch.chosen ∙ sym (base_cut net.edges (omega arith));
    few = ch.few;
    low = low;
  }

  -- No lag is positive then, so no old value is to be carried.
  pub chosen_none : k ≡ 0 → Chooses net (lags_of lab) (Some 0)
  chosen_none z =
      best_none gate (graph_of net) (regs_of net) (lags_of lab) (sym number ∙ z)
      (λ d e s t he hs p. absurd (let y : ⊥ = omega (arith, lag_low (at net.from e) (from_node net lab c.labelled e he)) in y))

-- ── The program ─────────────────────────────────────────────────────────────────────────────

module _ {net : Netlist} {lab counts base : List ℕ} {k clocks : ℕ} (s : Labelled net lab) (m : Known net lab counts base k clocks) where
  pub size : k ≡ chosen_in_at net (lags_of lab)
  size = m.chosen ∙ m.based net.edges (omega arith)

  pub low_lag : (v : ℕ) → v < net.nodes → lag_at lab v ≤ 24
  low_lag v h = omega (arith, m.low.few, m.low.low v h)

  -- Once its registers are spent, an edge shows its source at a clock below the source's own lag.
  source_lag : (t e : ℕ) → e < net.edges → t < lag_at lab (at net.to e) → at counts e ≤ t → t - at counts e < lag_at lab (at net.from e)
  source_lag t e h l q =
      omega (arith, m.counted e h, s.legal.fits e h, no_down (lags_of lab (at net.to e)) (let z : 0 < up (lags_of lab (at net.to e)) = omega arith in z))

  -- A chosen value has a number below k.
  number_low : (t e : ℕ) → e < net.edges → t < lag_at lab (at net.to e) → t < at counts e → at base e + t < k
  number_low t e h l q =
      let c : t < chosen_at net lab e = omega (arith, m.counted e h) in
      omega (arith, m.based e (omega arith), size, sum_within (chosen_at net lab) net.edges e t h c)

  pub base_low : (e : ℕ) → e < net.edges → at base e ≤ 24
  base_low e h = omega (arith, m.few, m.based e (omega arith), size, sum_grows (chosen_at net lab) e net.edges (omega arith))

  pub arranged : {order : List ℕ} → length order ≡ net.nodes → Ordered net.nodes net.edges net.from net.to counts order → Arranged order
  arranged whole o = ordered_arranged net.edges net.from net.to counts _ (omega (arith, low_nodes net lab s)) (rw whole o)

  module _ {id code : List ℕ} (p : Placed net lab counts clocks id code) where
    abbrev o : Ordered net.nodes net.edges net.from net.to counts p.order
    o = p.ordered

    abbrev n : CellsNumbered (lag_at lab) p.order clocks 0 id code
    n = p.numbered

    okay : Celled (lag_at lab) net.nodes (length code) id
    okay = celled m.low p

    pub few_cells : length code ≤ 12288
    few_cells = omega (arith, n.few, m.low.few)

    pub okay_all : Celled (lag_at lab) net.nodes 12288 id
    okay_all = record { rows = okay.rows; low = okay.low; inside = λ v t hv ht. omega (arith, okay.inside v t hv ht, few_cells) }

    place_in : (i : ℕ) (h : i < length code) → (n.each i h).place < net.nodes
    place_in i h = omega (arith, (n.each i h).within, p.whole)

    node_of : (i : ℕ) (h : i < length code) → at code i / 32 ≡ at p.order (n.each i h).place
    node_of i h = let c = n.each i h in omega (arith, c.coded, c.below, low_lag (at p.order c.place) (o.nodes_only c.place (place_in i h)))

    clock_of : (i : ℕ) (h : i < length code) → at code i % 32 ≡ (n.each i h).clock
    clock_of i h = let c = n.each i h in omega (arith, c.coded, c.below, low_lag (at p.order c.place) (o.nodes_only c.place (place_in i h)))

    pub node_low : (i : ℕ) → i < length code → at code i / 32 < net.nodes
    node_low i h = let c = n.each i h in subst (λ v. v < net.nodes) (sym (node_of i h)) (o.nodes_only c.place (place_in i h))

    clock_low : (i : ℕ) → i < length code → at code i % 32 < lag_at lab (at code i / 32)
    clock_low i h = let c = n.each i h in rw (node_of i h, clock_of i h) c.below

    -- A source's cell stands earlier: at an earlier clock, or at the same clock at an earlier place of the order.
    source_earlier : (i e : ℕ) → i < length code → e < net.edges → at net.to e ≡ at code i / 32 → at counts e ≤ at code i % 32
        → at id (at net.from e * 32 + (at code i % 32 - at counts e)) < i
    source_earlier i e h he q l =
        let t = at code i % 32 in
        (n.each i h).earlier (at net.from e) (t - at counts e) (omega (arith, from_node net lab s e he, p.whole))
        (source_lag t e he (subst (λ v. t < lag_at lab v) (sym q) (clock_low i h)) l) (go (ℕ_discrete (at counts e) 0))
      where
        go : Dec (at counts e ≡ 0) → EarlierCell p.order (n.each i h).clock (n.each i h).place (at net.from e) (at code i % 32 - at counts e)
        go (yes z) =
            inr ((let y : at code i % 32 - at counts e ≡ (n.each i h).clock = omega (arith, clock_of i h) in y), o.sources_first (n.each i h).place e (place_in i h) he (q ∙ node_of i h) z)
        go (no z) = inl (let y : at code i % 32 - at counts e < (n.each i h).clock = omega (arith, clock_of i h) in y)

    module _ {ins begin : List ℕ} (g : Sorts net.to net.edges net.nodes (replicate 1024 0) ins begin) where
      room : net.edges ≤ length {A = ℕ} (replicate 1024 0)
      room = omega (arith, low_edges net lab s, length-replicate {A = ℕ} 1024 0)

      by_node : ByNode net.to net.nodes net.edges ins begin
      by_node = sorts_by_node net.to net.nodes net.edges (fit_wired net s.fit).dst_in room g

      place_edge : (i j : ℕ) → i < length code → at begin (at code i / 32) ≤ j → j < at begin (at code i / 32 + 1) → (at ins j < net.edges) × (at net.to (at ins j) ≡ at code i / 32)
      place_edge i j h l u = (by_node.edge j (omega (arith, by_node.within (at code i / 32) (node_low i h))), by_node.ends (at code i / 32) j (node_low i h) l u)

      pub rows : (i : ℕ) → i < length code → OperandRows net counts id ins begin code i
      rows i h = record {
        row = omega (arith, node_low i h, low_nodes net lab s);
        shows = λ j l u. let (edge, enters) = place_edge i j h l u in record {
          early = omega arith;
          edge = edge;
          cell = λ w. omega (arith, source_earlier i (at ins j) h edge enters w, few_cells);
        };
      }

      pub few_places : sum (width_at begin code) (length code) ≤ 24576
      few_places =
          few_operands (lag_at lab) p.order begin id code net.edges clocks (arranged p.whole o) (λ v h. low_lag v (omega (arith, p.whole))) (low_edges net lab s) n
          (λ v h. by_node.up v (omega (arith, p.whole)))
          (rw p.whole (omega (arith, g.begins net.nodes (omega arith), sorted_room net.to net.edges net.nodes)))

      module _ {first operand due starts : List ℕ}
          (os : Operands net.from ins begin counts base id code (length code) first operand) (owes : (n : ℕ) → Celled (lag_at lab) net.nodes n id → Owes n due starts (rows_of starts))
          (ds : Dues net (lag_at lab) (cell_at id) due (total_of starts))
          (first_rows : length first ≡ 12289) (operand_rows : length operand ≡ 24576) where
        -- Where the operands of cell i begin and end.
        begins : (i : ℕ) → i < length code → (at first i ≡ sum (width_at begin code) i) × (at first (suc i) ≡ sum (width_at begin code) i + width_at begin code i)
        begins i h = (os.begins i (omega arith), ap (at first) (sym (add-one i)) ∙ os.begins (i + 1) (omega arith) ∙ sum_more (width_at begin code) i)

        earlier : (i j : ℕ) → i < length code → at first i ≤ j → j < at first (suc i) → (at operand j < k) ⊎ ((32 ≤ at operand j) × (at operand j < 32 + i))
        unfolding source_at
        earlier i j h l u =
            let b = begins i h in
            let q = j - at first i in
            let lo = at begin (at code i / 32) in
            let s : at operand j ≡ source_at net.from counts base id (at code i % 32) (at ins (lo + q)) =
            ap (at operand) (let z : j ≡ sum (width_at begin code) i + q = omega (arith, b.0) in z) ∙ os.shown i h q (omega (arith, b.0, b.1)) in
            let p = place_edge i (lo + q) h (omega arith) (omega (arith, b.0, b.1)) in
            go (at ins (lo + q)) p.0 p.1 s (dec_lt (at code i % 32) (at counts (at ins (lo + q))))
          where
            go : (e : ℕ) → e < net.edges → at net.to e ≡ at code i / 32 → at operand j ≡ source_at net.from counts base id (at code i % 32) e → Dec (at code i % 32 < at counts e)
                → (at operand j < k) ⊎ ((32 ≤ at operand j) × (at operand j < 32 + i))
            go e he q s (yes z) =
                let w : at operand j ≡ at base e + at code i % 32 = s ∙ rw (lt-ltb (at code i % 32) (at counts e) z) in
                inl (let y : at operand j < k = omega (arith, w, number_low (at code i % 32) e he (subst (λ v. at code i % 32 < lag_at lab v) (sym q) (clock_low i h)) z) in y)
            go e he q s (no z) =
                let w : at operand j ≡ 32 + at id (at net.from e * 32 + (at code i % 32 - at counts e)) = s ∙ rw (le-ltb (at code i % 32) (at counts e) (omega arith)) in
                let y = source_earlier i e h he q (omega arith) in
                inr ((let x : 32 ≤ at operand j = omega (arith, w) in x), (let x : at operand j < 32 + i = omega (arith, w, y) in x))

        module _ (kind : List ℕ) (kind_rows : length code ≤ length kind) (ks : (i : ℕ) → i < length code → at kind i ≡ at net.kind (at code i / 32)) (f : Steppable net) where
          right : RightProgram (length code) k (program_of kind first operand)
          right = record {
            few_bits = m.few;
            few_cells = few_cells;
            kind_rows = kind_rows;
            first_rows = omega (arith, few_cells);
            gates = λ i h. subst (λ x. x < 11) (sym (ks i h)) (kind_low net s.fit (at code i / 32) (node_low i h));
            rising = λ i h. omega (arith, begins i h);
            few_ins = λ i h. omega (arith, begins i h, width i h, fan_low net f.fans (at code i / 32) (node_low i h));
            selectors = λ i h e. omega (arith, begins i h, width i h, fan_three net f.fans (at code i / 32) (node_low i h) (sym (ks i h) ∙ e));
            in_rows = λ i h. omega (arith, begins i h, few_places, sum_more (width_at begin code) i, sum_grows (width_at begin code) (i + 1) (length code) (omega arith));
            earlier = λ i j h l u. earlier_of k (at operand j) i m.few (earlier i j h l u);
          }
            where
              width : (i : ℕ) → i < length code → width_at begin code i ≡ length (group net.to (at code i / 32) net.edges)
              width i h = sorts_width net.to net.nodes net.edges (fit_wired net s.fit).dst_in room g (at code i / 32) (node_low i h)

          pub holds : (c : ℕ) → GivesDues k (program_of kind first operand) due (total_of starts) c ↔ CarriedAt net (lags_of lab) (choice_at net (lags_of lab) c)
          holds =
              compiled_holds net (fit_wired net s.fit) f.no_loop (lags_of lab) s.legal
              (compiled net lab counts base id code ins begin kind first operand due (total_of starts) clocks s m.counted m.based m.low p g ks os (omega (arith, few_places)) ds) size right

        pub standing : Steppable net → (kind : List ℕ) → length kind ≡ 12288 → ((i : ℕ) → i < length code → at kind i ≡ at net.kind (at code i / 32))
            → Standing net (lags_of lab) k (length code) kind first operand due starts
        standing f kind rows ks =
            let cut : length (take (length code) kind) ≡ length code = length-take-le (length code) kind (omega (arith, few_cells)) in
            record {
              right = right kind (omega (arith, few_cells)) ks f;
              owes = owes (length code) okay;
              holds = holds (take (length code) kind) (omega arith) (λ i h. get_or-take (length code) kind i 0 h ∙ ks i h) f;
            }

  -- ── The answer ────────────────────────────────────────────────────────────────────────────

  pub chooses : Steppable net → {cells : ℕ} {kind first operand due begin : List ℕ} → Standing net (lags_of lab) k cells kind first operand due begin
      → (found : Option ℕ) → Solves k (program_of (take cells kind) first operand) due (total_of begin) found → Chooses net (lags_of lab) found
  chooses f = solved net (fit_wired net s.fit) f.no_loop (lags_of lab) s.legal size
