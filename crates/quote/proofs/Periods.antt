-- Periods: the smallest that some legal retiming meets.
--   smallest_one        it is one
--   Met p               some legal retiming meets p, so there is a least one
--   met?                whether a period is met can be told
--   smallest_some       where 65,535 is met, there is a smallest
use Prim.Native.Nat.{ℕ, ◌+◌, ◌<◌, ◌≤◌}
use native.Mathlib.Decide.{dec_le}
use native.Mathlib.Omega.{arith}
use mathlib.Core.Path.{◌≡◌}
use mathlib.Core.Logic.{◌⊎◌, inl, inr, ⊎_elim}
use lib.IntN.{ℤ}
use Rattle.theory.proofs.least.Exists.{least_or_none, least_exists}
use Rattle.theory.proofs.numbers.Find.{first}
use Rattle.netlist.specs.declared.Netlist.{Netlist}
use Rattle.netlist.specs.Net.{graph_of, regs_of, delay_of}
use Rattle.netlist.specs.Circuit.{LeastIn, NoneMeetsIn, SoundIn}
use Rattle.quote.specs.Quote.{Smallest}

-- Of two smallest periods neither is the smaller one, as it would be refused.
pub smallest_one : (net : Netlist) (p q : ℕ) (r o : ℕ → ℤ) → Smallest net p → LeastIn net p r → Smallest net q → LeastIn net q o → p ≡ q
smallest_one net p q r o a l b m =
    let less : ¬ (p < q) = λ h. b.smaller p a.low h r l.feasible in
    let more : ¬ (q < p) = λ h. a.smaller q b.low h o m.feasible in
    omega arith

module _ (net : Netlist) (ok : SoundIn net) where
  abbrev pub Met : ℕ → Type 0
  Met p = (r : ℕ → ℤ) × LeastIn net p r

  pub met? : (p : ℕ) → Met p ⊎ NoneMeetsIn net p
  met? p = least_or_none (graph_of net) ok.wired ok.from_input (regs_of net).count (delay_of net) p

  unmet : (p : ℕ) → ¬ Met p → NoneMeetsIn net p
  unmet p n r f = n (least_exists (graph_of net) ok.wired ok.from_input (regs_of net).count (delay_of net) p r f)

  period? : (p : ℕ) → Dec ((1 ≤ p) × Met p)
  period? p = go (dec_le 1 p) (met? p)
    where
      go : Dec (1 ≤ p) → Met p ⊎ NoneMeetsIn net p → Dec ((1 ≤ p) × Met p)
      go (no h) m = no (λ x. h x.0)
      go (yes h) (inl m) = yes (h, m)
      go (yes h) (inr n) = no (λ (_, m). n m.0 m.1.feasible)

  smallest_to : (n : ℕ) → n ≤ 65535 → 1 ≤ n → Met n → (p : ℕ) × Smallest net p × Met p
  smallest_to n few low m =
      ⊎_elim
      (λ (p, h, (l, r), none). (p, record { low = l; high = omega arith; smaller = λ q a b. unmet q (λ x. none q b (a, x)) }, r))
      (λ none. absurd (none n (omega arith) (low, m)))
      (first (n + 1) (λ p h. period? p))

  pub smallest_some : Met 65535 → (p : ℕ) × Smallest net p × Met p
  smallest_some = smallest_to 65535 (omega arith) (omega arith)
