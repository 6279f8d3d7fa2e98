-- The search, turn by turn.
--   truth_next          the truth word of the next cell
--   valued_seen         the next cell can be evaluated
--   valued_value        what its gate gives is its value
--   valued_more         with that the cells are evaluated one further
--   Searching best c p sig d     the search's state: the lists of the choices below c are tried, the cells below p are evaluated under c, the first d dues agree with c
--   searching_start     the choice 0, no cell, no due and no list yet
--   searching_on        more cells are evaluated
--   searching_turn      one due further, where it agrees
--   searching_jump      a later choice
--   searching_drop      the next choice that is not dropped with this one, where a due does not agree
--   searching_next      the next choice, where all agree
--   searching_found, searching_none   the best list is found: one whose fillings are all 0, or all choices are tried
-- Why a jump is right: it skips choices that agree with the dropped one on all bits on which the wrong cell depends, so they give it the same wrong
-- value (`dead`). The new choice agrees with the dropped one on the bits on which the cells below the first changed level depend: these keep their
-- values (`jump_keeps`), and what was due of them agrees still. They and their dues were all looked at before the wrong one, whose level is no lower.
use Prim.Native.Nat.{ℕ, suc, ◌+◌, ◌-◌, ◌^◌, ◌/◌, ◌%◌, ◌<◌, ◌≤◌}
use native.Mathlib.Omega.{arith}
use native.Mathlib.Nat.{zero-div, div-eq_of_lt-le, div-mul-le_self, mod-eq_of_lt, mod-le}
use native.Mathlib.Decide.{ℕ_discrete, dec_lt}
use native.Mathlib.Numerals.{add-one}
use mathlib.Core.Path.{◌≡◌, refl, sym, subst, ap, ◌∙◌}
use mathlib.Core.Logic.{⊎_elim, ◌⊎◌, inl, inr}
use mathlib.Core.List.{List, map}
use lib.ListN.{length, set, length-set}
use lib.Seq.{get_or-set_same, get_or-set_other}
use lib.Pow.{pow_pos}
use Rattle.theory.specs.Gate.{gate}
use Rattle.graph.specs.Columns.{at}
use Rattle.gates.specs.inner.Gates.{Reckons, InputRows}
use Rattle.gates.proofs.Words.{part_length}
use Rattle.gates.proofs.Row.{part_rows}
use Rattle.std.specs.Prelude.{Option, Some, None}
use Rattle.search.specs.declared.choices.Extent.{Extent}
use Rattle.search.specs.declared.choices.Turn.{Turn}
use Rattle.search.specs.inner.Program.{Program, look, operands_of, values_to, value_at, RightProgram, GivesDues, Fillable, SolvesLists}
use Rattle.search.specs.inner.Rows.{Level}
use Rattle.search.specs.inner.States.{Truthful, Valued, next_after, Jumped, ListOf, Better, Plan, Fresh}
use Rattle.search.proofs.Putting.{climb}
use Rattle.search.proofs.Next.{next_bounds}
use Rattle.search.proofs.Values.{part_same, look_bit, look_cell, values_at, value_gate, either, operand_bit, agree}
use Rattle.search.proofs.Lists.{prefers_low, prefers_through, list_fulfils, list_least, Tried, tried_on, tried_more, tried_end}

-- ── Cells ───────────────────────────────────────────────────────────────────────────────────

pub truth_next : {k : ℕ} {P : Program} (truth : List ℕ) (i : ℕ) → RightProgram (length P.kind) k P → Truthful P.kind P.first truth → i < length P.kind
    → Reckons (at P.kind i) (length (operands_of P.first P.operand i)) (at truth i)
truth_next {P = P} truth i r t l = rw (part_length P.operand (at P.first i) (at P.first (suc i)) (r.in_rows i l)) (t i l)

module _ {k : ℕ} {P : Program} {c p : ℕ} {sig : List ℕ} (r : RightProgram (length P.kind) k P) (s : Valued (length P.kind) k P c p sig) (l : p < length P.kind) where
  -- An operand is a bit, or a cell before.
  signal : (j : ℕ) → at P.first p ≤ j → j < at P.first (suc p) → at sig (at P.operand j) ≡ look k c (values_to P k c p) (at P.operand j)
  signal j a b = go (either r p j l a b)
    where
      go : (at P.operand j < k) ⊎ ((32 ≤ at P.operand j) × (at P.operand j < 32 + p)) → at sig (at P.operand j) ≡ look k c (values_to P k c p) (at P.operand j)
      go (inl w) = s.bits (at P.operand j) w ∙ sym (look_bit k c _ (at P.operand j) (omega (arith, r.few_bits)))
      go (inr w) =
          let m = at P.operand j - 32 in
          let z : at P.operand j ≡ 32 + m = omega arith in
          ap (at sig) z
          ∙ s.values m (omega arith)
          ∙ sym (values_at P k c p m (omega arith))
          ∙ sym (look_cell k c _ (at P.operand j) w.0)

  pub valued_seen : (truth : List ℕ) → Truthful P.kind P.first truth → InputRows (at truth p) (operands_of P.first P.operand p) sig
  valued_seen truth t = part_rows (at truth p) P.operand (at P.first p) (at P.first (suc p)) sig (r.in_rows p l) (t p l).narrow (λ j a b. (
    ⊎_elim
        (λ (w : at P.operand j < k). omega (arith, s.size, r.few_bits))
        (λ (w : (32 ≤ at P.operand j) × (at P.operand j < 32 + p)). omega (arith, s.size, r.few_cells))
        (either r p j l a b),
    rw (signal j a b) (operand_bit r c p j l a b),
  ))

  pub valued_value : {x : ℕ} → x ≡ gate (at P.kind p) (map (at sig) (operands_of P.first P.operand p)) → x ≡ value_at P k c p
  valued_value e =
      e
      ∙ ap (gate (at P.kind p)) (part_same (at sig) _ P.operand (at P.first p) (at P.first (suc p)) (r.in_rows p l) signal)
      ∙ sym (value_gate P k c p)

  pub valued_more : {x : ℕ} → x ≡ value_at P k c p → Valued (length P.kind) k P c (p + 1) (set sig (32 + p) x)
  valued_more {x} e = record {
    size = omega (arith, length-set sig (32 + p) x, s.size);
    few = omega arith;
    bits = λ y h. get_or-set_other sig (32 + p) y x 0 (λ z. omega (arith, r.few_bits)) ∙ s.bits y h;
    values = λ i h. go i h (ℕ_discrete i p);
  }
    where
      go : (i : ℕ) → i < p + 1 → Dec (i ≡ p) → at (set sig (32 + p) x) (32 + i) ≡ value_at P k c i
      go i h (yes z) = rw z (get_or-set_same sig (32 + p) x 0 (omega (arith, s.size, r.few_cells)) ∙ e)
      go i h (no z) = get_or-set_other sig (32 + p) (32 + i) x 0 (λ y. z (omega arith)) ∙ s.values i (omega arith)

-- ── Choices ─────────────────────────────────────────────────────────────────────────────────

pub record Searching (k : ℕ) (e : Extent) (P : Program) (row : List ℕ) (fill : List (Option ℕ)) (best : Option ℕ) (c p : ℕ) (sig : List ℕ) (d : ℕ) : Type 0 where
  pub limit : c ≤ 2 ^ k
  pub tried : Tried k P row e.dues fill c best
  pub valued : Valued (length P.kind) k P c p sig
  pub few : d ≤ e.dues
  pub agreed : GivesDues k P row d c

climbs : {k : ℕ} {e : Extent} {P : Program} {level row left : List ℕ} → Plan k e P level row left → (a b : ℕ) → a ≤ b → b ≤ suc k → at e.levels a ≤ at e.levels b
climbs {k} {e} g = climb e.levels (suc k) (λ n h. g.levelled.climbs n (omega arith))

module _ {k : ℕ} {e : Extent} {P : Program} {level row left : List ℕ} {fill : List (Option ℕ)} (g : Plan k e P level row left) where
  pub searching_start : (sig : List ℕ) → Fresh (length P.kind) sig → Searching k e P row fill None 0 0 sig 0
  searching_start sig z = record {
    limit = omega arith;
    tried = record { fulfils = λ x e. absurd (cc); kept = λ d h l f. absurd (let y : ⊥ = omega arith in y) };
    valued = record {
      size = z.0;
      few = omega arith;
      bits = λ x h. z.1 x (omega (arith, g.program.few_bits)) ∙ sym (ap (λ v. v % 2) (zero-div (2 ^ (k - suc x))));
      values = λ i h. absurd (let y : ⊥ = omega arith in y);
    };
    few = omega arith;
    agreed = λ x h. absurd (let y : ⊥ = omega arith in y);
  }

  module _ {best : Option ℕ} {c p : ℕ} {sig : List ℕ} {d : ℕ} (s : Searching k e P row fill best c p sig d) where
    pub searching_on : {q : ℕ} {after : List ℕ} → Valued (length P.kind) k P c q after → Searching k e P row fill best c q after d
    searching_on v = record { limit = s.limit; tried = s.tried; valued = v; few = s.few; agreed = s.agreed }

    pub searching_none : 2 ^ k ≤ c → SolvesLists k P row e.dues fill best
    searching_none h = tried_end s.tried (λ d l. absurd (let y : ⊥ = omega (arith, pow_pos k) in y))

    -- A later choice: a jump from level m, where the cells and the dues below the first changed level were looked at.
    module _ {m : ℕ} (low : m ≤ k) (small : c < 2 ^ k) {after : List ℕ} {t : Turn} (j : Jumped c k m e.levels e.rows sig after t) where
      module _ (early : at e.levels j.level ≤ p) (before : at e.rows j.level ≤ d) where
        -- Cells that depend on unchanged bits alone.
        jump_keeps : (n : ℕ) → n < at e.levels j.level → value_at P k c n ≡ value_at P k t.choice n
        jump_keeps n h = go (ℕ_discrete j.level 0)
          where
            go : Dec (j.level ≡ 0) → value_at P k c n ≡ value_at P k t.choice n
            go (yes z) = absurd (let y : ⊥ = omega (arith, ap (at e.levels) z, g.levelled.none) in y)
            go (no z) =
                let y = j.level - 1 in
                let q : suc y ≡ j.level = omega arith in
                let f : suc k - j.level ≡ k - y = omega (arith, j.most) in
                agree g.program g.levelled c t.choice y (omega (arith, j.most)) (rw f at j.agree) n (rw q h)

        due_low : (x : ℕ) → x < at e.rows j.level → at row x / 2 < at e.levels j.level
        due_low x h =
            let i = at row x / 2 in
            let w = g.in_rows.low j.level x (omega (arith, j.most)) h in
            omega (arith, (g.level_of i (g.cell x (omega (arith, before, s.few)))).below, climbs g (suc (at level i)) j.level w (omega (arith, j.most)))

        pub searching_jump : {next : Option ℕ} → length after ≡ length sig → Tried k P row e.dues fill (next_after c (k - m)) next
            → Searching k e P row fill next t.choice t.cell after t.due
        searching_jump {next} n tried = rw (j.cell_at, j.due_at) (record {
          limit = omega (arith, j.next, (next_bounds c k (k - m) small (omega arith)).1);
          tried = subst (λ b. Tried k P row e.dues fill b next) (sym j.next) tried;
          valued = record {
            size = omega (arith, n, s.valued.size);
            few = omega (arith, climbs g j.level (suc k) (omega (arith, j.most)) (omega arith), g.levelled.whole);
            bits = j.bits;
            values = λ i h. j.cells (32 + i) (omega (arith, g.program.few_bits)) ∙ s.valued.values i (omega (arith, early)) ∙ jump_keeps i h;
          };
          few = omega (arith, before, s.few);
          agreed = λ x h. s.agreed x (omega (arith, before)) ∙ jump_keeps (at row x / 2) (due_low x h);
        })

    -- The due whose turn it is asks a cell that is evaluated.
    module _ (l : d < e.dues) (u : at row d / 2 < p) where
      pub searching_turn : at sig (32 + at row d / 2) ≡ at row d % 2 → Searching k e P row fill best c p sig (d + 1)
      searching_turn q = record {
        limit = s.limit;
        tried = s.tried;
        valued = s.valued;
        few = omega arith;
        agreed = λ x h. go x h (ℕ_discrete x d);
      }
        where
          go : (x : ℕ) → x < d + 1 → Dec (x ≡ d) → at row x % 2 ≡ value_at P k c (at row x / 2)
          go x h (yes z) = rw z (sym q ∙ s.valued.values (at row d / 2) u)
          go x h (no z) = s.agreed x (omega arith)

      module _ (wrong : ¬ (at sig (32 + at row d / 2) ≡ at row d % 2)) where
        own : Level e.levels (suc k) (at row d / 2) (at level (at row d / 2))
        own = g.level_of (at row d / 2) (g.cell d l)

        dead : (n : ℕ) → c ≤ n → n < next_after c (k - at level (at row d / 2)) → ¬ GivesDues k P row e.dues n
        dead n h below holds =
            let i = at row d / 2 in
            let b = k - at level i in
            let z : n / 2 ^ b ≡ c / 2 ^ b = div-eq_of_lt-le (2 ^ b) (omega (arith, div-mul-le_self c (2 ^ b))) (rw add-one below) in
            wrong (s.valued.values i u ∙ sym (holds d l ∙ agree g.program g.levelled n c (at level i) (omega (arith, own.few)) z i own.below))

        pub searching_drop : c < 2 ^ k → {after : List ℕ} {t : Turn} → Jumped c k (at level (at row d / 2)) e.levels e.rows sig after t
            → length after ≡ length sig → Searching k e P row fill best t.choice t.cell after t.due
        searching_drop small {after} {t} j n =
            searching_jump (omega (arith, own.few)) small j
            (omega (arith, climbs g j.level (at level (at row d / 2)) j.most (omega (arith, own.few)), own.from))
            (before (dec_lt d (at e.rows j.level))) n (tried_on s.tried _ dead)
          where
            before : Dec (d < at e.rows j.level) → at e.rows j.level ≤ d
            before (yes q) = absurd (let y : ⊥ = omega (arith, g.in_rows.low j.level d (omega (arith, j.most, own.few)) q, j.most) in y)
            before (no q) = omega arith

    -- All dues agree, and all cells are evaluated.
    module _ (a : Fillable (length P.kind) k fill) (all : e.dues ≤ d) (whole : length P.kind ≤ p) {list : ℕ} (o : ListOf k fill sig c list)
        {after : ℕ} (b : Better best list after) where
      tried_own : Tried k P row e.dues fill (suc c) (Some after)
      tried_own = tried_more s.tried b o.few (list_fulfils a s.valued whole o row e.dues (λ x h. s.agreed x (omega arith))) (list_least a s.valued whole o)

      pub searching_next : c < 2 ^ k → {new : List ℕ} {t : Turn} → Jumped c k k e.levels e.rows sig new t → length new ≡ length sig
          → Searching k e P row fill (Some after) t.choice t.cell new t.due
      searching_next small j n =
          searching_jump (omega arith) small j
          (omega (arith, climbs g j.level (suc k) (omega (arith, j.most)) (omega arith), g.levelled.whole))
          (omega (arith, g.in_rows.most j.level (omega (arith, j.most)), g.whole)) n
          (subst (λ x. Tried k P row e.dues fill x (Some after)) next tried_own)
        where
          next : suc c ≡ next_after c (k - k)
          next = let z : k - k ≡ 0 = omega arith in rw z (omega arith)

      -- No later list is preferred to one whose fillings are all 0.
      pub searching_found : list < 2 ^ k → SolvesLists k P row e.dues fill (Some after)
      searching_found h =
          tried_end tried_own
          (λ d l. record { x = after; is = refl; over = prefers_through d list after (prefers_low list d (omega (arith, o.choice, mod-eq_of_lt h, mod-le d (2 ^ k)))) b.over_list })
