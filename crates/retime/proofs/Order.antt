-- Retiming's row of facts: 12, 8, 9, 10, 11, and else the netlist is moved.
--   no_short, no_none, ..        of each fact, where it does not hold
--   some_room, all_narrow        what is known where 12, 9 do not hold
--   Says9, Says10, Says11        the members about the least lags
--   lowest_one                   the lowest edge is one, so 9 says one thing
--   wide, many, startless, moved what is said of the least lags
--   least_said                   where anything is said of lags they are the least
--   alike                        and any that agree with them at the nodes will do
--   Settled, Fact, told          what is said has its fact
--   moved_at                     with room and a least retiming q, the row from 9 on, of q
--   one_said                     one thing is said
use Prim.Native.Nat.{ℕ, zero, suc, ◌-◌, ◌<◌, ◌≤◌}
use native.Mathlib.Omega.{arith}
use mathlib.Core.Path.{◌≡◌, refl, sym, ap, ◌∙◌, subst}
use mathlib.Core.Logic.{inl, inr}
use mathlib.Core.List.{List}
use lib.IntN.{ℤ}
use lib.ListN.{length}
use Rattle.theory.specs.Gate.{gate}
use Rattle.theory.proofs.moves.Best.{choice_bit}
use Rattle.theory.proofs.least.Exists.{least_unique}
use Rattle.netlist.specs.declared.Netlist.{Netlist}
use Rattle.netlist.specs.Answer.{Said, value, refused, whole, at_edge}
use Rattle.netlist.specs.Net.{plain, graph_of, regs_of}
use Rattle.netlist.specs.Write.{text_of}
use Rattle.netlist.specs.Circuit.{BestAt, ManyAt, NarrowAt, SoundIn, StartlessAt, WideAt, choice_at, chosen_in_at}
use Rattle.netlist.specs.inner.Words.{new_count_at}
use Rattle.netlist.specs.Order.{here, past, Given, GivenAt}
use Rattle.netlist.proofs.Order.{One, meet, else_map, later, given_one, given_map, given_at_one, given_at_map}
use borrow.Author.Count.{below_more}
use Rattle.moves.proofs.Lags.{count_alike, chosen_alike, best_alike, no_start_alike}
use Rattle.retime.specs.Retime.{NoneMeets, LeastLags, MovedBy, Room, Short}
use Rattle.retime.specs.inner.Leaves.{FromShort}

-- ── The facts ───────────────────────────────────────────────────────────────────────────────

pub no_short : {out : List ℕ} {lags : List ℤ} {net : Netlist} → Room out lags net → (x : Said) → ¬ Given (Short out lags net) (whole 12) x
no_short room x (inl h, _) = omega (arith, room.text)
no_short room x (inr h, _) = omega (arith, room.table)

pub some_room : (out : List ℕ) (lags : List ℤ) (net : Netlist) → ((x : Said) → ¬ Given (Short out lags net) (whole 12) x) → Room out lags net
some_room out lags net n =
    let a : ¬ (length out < length (text_of (plain net))) = λ h. n (whole 12) (inl h, refl) in
    let b : ¬ (length lags < net.nodes) = λ h. n (whole 12) (inr h, refl) in
    record { text = omega arith; table = omega arith }

module _ (net : Netlist) (r : ℕ → ℤ) where
  abbrev Says9 : Said → Type 0
  Says9 = GivenAt (λ e. LeastLags net r × WideAt net r e) (at_edge 9)

  abbrev Says10 : Said → Type 0
  Says10 = Given (LeastLags net r × ManyAt net r) (whole 10)

  abbrev Says11 : Said → Type 0
  Says11 = Given (LeastLags net r × StartlessAt net r) (whole 11)

  pub no_none : LeastLags net r → (x : Said) → ¬ Given (NoneMeets net) (whole 8) x
  no_none l x (n, _) = n r l.feasible

  pub no_wide : NarrowAt net r → (x : Said) → ¬ Says9 x
  no_wide n x (e, (_, w), _) = omega (arith, w.wide, n e w.edge)

  pub no_many : ¬ ManyAt net r → (x : Said) → ¬ Says10 x
  no_many n x ((_, m), _) = n m

  pub no_startless : (c : ℕ) → BestAt net r c → (x : Said) → ¬ Says11 x
  no_startless c b x ((_, n), _) = n (choice_at net r c) (choice_bit gate (graph_of net) (regs_of net) r c) b.carried

  -- Where no edge is the lowest that is too wide, none is too wide.
  all_narrow : LeastLags net r → ((x : Said) → ¬ Says9 x) → NarrowAt net r
  all_narrow l n e h = below (suc e) e (omega arith) h
    where
      below : (m e : ℕ) → e < m → e < net.edges → new_count_at net r e ≤ 32
      below zero e k = absurd (let z : ⊥ = omega arith in z)
      below (suc m) e k =
          below_more (λ e. e < net.edges → new_count_at net r e ≤ 32) m (below m)
          (λ h.
          let not_wide : ¬ (32 < new_count_at net r m) =
          λ w. n (at_edge 9 m) (m, (l, record { edge = h; wide = w; lowest = λ i k. below m i k (omega arith) }), refl) in
          omega arith)
          e (omega arith)

  pub lowest_one : One Says9
  lowest_one =
      given_at_one (at_edge 9) (λ e i (_, w) (_, v).
      let less : ¬ (e < i) = λ h. omega (arith, v.lowest e h, w.wide) in
      let more : ¬ (i < e) = λ h. omega (arith, w.lowest i h, v.wide) in
      omega arith)

  module _ (c : ℕ) where
    pub wide : LeastLags net r → (e : ℕ) → WideAt net r e → MovedBy net r c (at_edge 9 e)
    wide l e w = here (e, (l, w), refl)

    pub many : LeastLags net r → NarrowAt net r → ManyAt net r → MovedBy net r c (whole 10)
    many l n m = past (no_wide n) (here ((l, m), refl))

    pub startless : LeastLags net r → NarrowAt net r → ¬ ManyAt net r → StartlessAt net r → MovedBy net r c (whole 11)
    startless l n few x = past (no_wide n) (past (no_many few) (here ((l, x), refl)))

    pub moved : LeastLags net r → NarrowAt net r → ¬ ManyAt net r → BestAt net r c → MovedBy net r c (value (chosen_in_at net r))
    moved l n few b = past (no_wide n) (past (no_many few) (past (no_startless c b) ((l, b), refl)))

    pub least_said : {s : Said} → MovedBy net r c s → LeastLags net r
    least_said (here (e, (l, _), _)) = l
    least_said (past _ (here ((l, _), _))) = l
    least_said (past _ (past _ (here ((l, _), _)))) = l
    least_said (past _ (past _ (past _ ((l, _), _)))) = l

-- ── The least lags are one at each node ─────────────────────────────────────────────────────

module _ (net : Netlist) (ok : SoundIn net) (r q : ℕ → ℤ) (l : LeastLags net r) (m : LeastLags net q) where
  counts : (e : ℕ) → e < net.edges → new_count_at net r e ≡ new_count_at net q e
  counts = count_alike gate (graph_of net) ok.wired (regs_of net) r q (least_unique r q l m)

  chosen : chosen_in_at net r ≡ chosen_in_at net q
  chosen = chosen_alike gate (graph_of net) ok.wired (regs_of net) r q (least_unique r q l m)

  wide_alike : (x : Said) → Says9 net r x → Says9 net q x
  wide_alike =
      given_at_map (λ e (_, w).
      let h = w.edge in
      (m, record { edge = h; wide = omega (arith, w.wide, counts e h); lowest = λ i k. omega (arith, w.lowest i k, counts i (omega arith)) }))

  many_alike : (x : Said) → Says10 net r x → Says10 net q x
  many_alike = given_map (λ (_, h). (m, omega (arith, h, chosen)))

  startless_alike : (x : Said) → Says11 net r x → Says11 net q x
  startless_alike = given_map (λ (_, h). (m, no_start_alike gate (graph_of net) (regs_of net) ok r q l.feasible.legal (least_unique r q l m) h))

  pub narrow_alike : NarrowAt net r → NarrowAt net q
  narrow_alike n e h = omega (arith, n e h, counts e h)

  pub few_alike : ¬ ManyAt net r → ¬ ManyAt net q
  few_alike n h = n (omega (arith, chosen))

pub alike : (net : Netlist) → SoundIn net → (r q : ℕ → ℤ) → LeastLags net q → (c : ℕ) {s : Said} → MovedBy net r c s → MovedBy net q c s
alike net ok r q m c row =
    let l = least_said net r c row in
    else_map (wide_alike net ok r q l m) (wide_alike net ok q r m l)
    (else_map (many_alike net ok r q l m) (many_alike net ok q r m l)
    (else_map (startless_alike net ok r q l m) (startless_alike net ok q r m l)
    (λ ((_, b), z). ((m, best_alike gate (graph_of net) (regs_of net) ok r q l.feasible.legal (least_unique r q l m) c b), z ∙ ap value (chosen net ok r q l m)))))
    row

-- ── What is said ────────────────────────────────────────────────────────────────────────────

-- A netlist comes back.
pub record Settled (out : List ℕ) (lags : List ℤ) (net : Netlist) (r : ℕ → ℤ) (c : ℕ) : Type 0 where
  pub room : Room out lags net
  pub least : LeastLags net r
  pub narrow : NarrowAt net r
  pub few : ¬ ManyAt net r
  pub best : BestAt net r c

module _ (out : List ℕ) (lags : List ℤ) (net : Netlist) (r : ℕ → ℤ) (c : ℕ) where
  -- Of the numbers from 8 on, at the place p.
  abbrev FactAt : ℕ → ℕ → Type 0
  FactAt zero p = NoneMeets net
  FactAt (suc zero) p = LeastLags net r × WideAt net r p
  FactAt (suc (suc zero)) p = NarrowAt net r × ManyAt net r
  FactAt (suc (suc (suc zero))) p = LeastLags net r × StartlessAt net r
  FactAt (suc (suc (suc (suc n)))) p = Short out lags net

  abbrev pub Fact : Said → Type 0
  Fact (value n) = Settled out lags net r c
  Fact (refused q k p) = FactAt (q - 8) p

  pub told : {s : Said} → FromShort out lags net r c s → Fact s
  told (here (h, z)) = subst Fact (sym z) h
  told (past a (here (h, z))) = subst Fact (sym z) h
  told (past a (past b (here (e, h, z)))) = subst Fact (sym z) h
  told (past a (past b (past w (here ((l, h), z))))) = subst Fact (sym z) (all_narrow net r l w, h)
  told (past a (past b (past w (past m (here (h, z)))))) = subst Fact (sym z) h
  told (past a (past b (past w (past m (past x ((l, h), z)))))) =
      subst Fact (sym z)
      (record { room = some_room out lags net a; least = l; narrow = all_narrow net r l w; few = λ k. m (whole 10) ((l, k), refl); best = h })

  pub moved_at : SoundIn net → Room out lags net → (q : ℕ → ℤ) → LeastLags net q → {s : Said} → FromShort out lags net r c s → MovedBy net q c s
  moved_at ok room q m {s} row = alike net ok r q m c (later s (no_none net q m) (later s (no_short room) row))

  -- The least lags are one at each node, so the rows of both from 9 on are rows of one.
  pub one_said : SoundIn net → (q : ℕ → ℤ) (d : ℕ) {s x : Said} → FromShort out lags net r c s → FromShort out lags net q d x → s ≡ x
  one_said ok q d =
      meet (given_one _ _)
      (meet (given_one _ _)
      (λ a b. meet (lowest_one net q) (meet (given_one _ _) (meet (given_one _ _) (λ (_, y) (_, z). y ∙ sym z))) (alike net ok r q (least_said net q d b) c a) b))
