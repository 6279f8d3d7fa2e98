-- The theorems of specs/Theorems.
--   one_meaning                          an answer's number tells it
--   one_read_call, one_check_call, ..    each call has one outcome at most, as the call under it has
use mathlib.Core.Path.{◌≡◌, sym, ap, ap₂, ◌∙◌, subst}
use Prim.Native.Nat.{ℕ, ◌+◌, ◌*◌, ◌<◌}
use native.Mathlib.Omega.{arith}
use lib.ListN.{length}
use Rattle.netlist.specs.Answer.{Said, value, refused, holds}
use Rattle.netlist.specs.Order.{◌or_else◌, Stops, Needs}
use Rattle.netlist.specs.Write.{text_of}
use Rattle.netlist.proofs.Order.{else_one, stops_one, needs_one}
use Rattle.netlist.proofs.theorems.One.{one_reading, one_writing}
use Rattle.simulate.proofs.theorems.One.{one_run, one_step}
use Rattle.retime.proofs.theorems.Outcome.{one_outcome}
use Rattle.quote.proofs.theorems.Outcome.{one_quote}
use Rattle.rails.proofs.theorems.Total.{one_rails}
use Rattle.retimer.specs.declared.Figures.{Figures}
use Rattle.retimer.specs.Code.{code}
use Rattle.retimer.specs.Calls.{put_back}
use Rattle.retimer.specs.Theorems.{OneMeaning, OneReadCall, OneCheckCall, OneWriteCall, OneStepCall, OneRunCall, OneRetimeCall, OneRereadCall, OneQuoteCall, OneRailsCall}

-- ── A number stands for one answer ──────────────────────────────────────────────────────────

module _ (q k p q' k' p' : ℕ) (small : (q < 256) × (k < 256) × (p < 65536)) (small' : (q' < 256) × (k' < 256) × (p' < 65536))
    (e : 9223372036854775808 + q * 4294967296 + (k * 65536 + p) ≡ 9223372036854775808 + q' * 4294967296 + (k' * 65536 + p')) where
  number_told : q ≡ q'
  number_told = omega (arith, e, small, small')

  kind_told : k ≡ k'
  kind_told = omega (arith, e, number_told, small, small')

  place_told : p ≡ p'
  place_told = omega (arith, e, number_told, kind_told)

pub one_meaning : OneMeaning
one_meaning (value n) (value n') small small' e = ap value e
one_meaning (value n) (refused q k p) small small' e = absurd (let z : ⊥ = omega (arith, e, small) in z)
one_meaning (refused q k p) (value n) small small' e = absurd (let z : ⊥ = omega (arith, e, small') in z)
one_meaning (refused q k p) (refused q' k' p') small small' e =
    ap (λ x. refused x k p) (number_told q k p q' k' p' small small' e) ∙ ap₂ (λ x y. refused q' x y) (kind_told q k p q' k' p' small small' e) (place_told q k p q' k' p' small small' e)

-- ── One outcome ─────────────────────────────────────────────────────────────────────────────

coded_alike : {s s' : Said} {r r' : ℕ} → s ≡ s' → r ≡ code s → r' ≡ code s' → r ≡ r'
coded_alike e c c' = c ∙ ap code e ∙ sym c'

pub one_read_call : OneReadCall
one_read_call t net r r' new new' (s, (read, reads, put), coded) (s', (read', reads', put'), coded') =
    let e = one_reading t s s' read read' reads reads' in
    (coded_alike e.0 coded coded', put ∙ ap₂ (λ c n. put_back c n net) e.0 e.1 ∙ sym put')

pub one_check_call : OneCheckCall
one_check_call net r r' (s, (same, reads), coded) (s', (same', reads'), coded') = coded_alike (one_reading (text_of net) s s' same same' reads reads').0 coded coded'

pub one_write_call : OneWriteCall
one_write_call net out r r' new new' (s, w, coded) (s', w', coded') =
    let e = one_writing net out s s' new new' w w' in
    (coded_alike e.0 coded coded', e.1)

pub one_step_call : OneStepCall
one_step_call net m vector out r r' m' m'' new new' (s, w, coded) (s', w', coded') =
    let e = one_step net m vector out s s' m' m'' new new' w w' in
    (coded_alike e.0 coded coded', e.1, e.2)

pub one_run_call : OneRunCall
one_run_call t vectors out r r' new new' (s, w, coded) (s', w', coded') =
    let e = one_run t vectors out s s' new new' w w' in
    (coded_alike e.0 coded coded', e.1)

pub one_retime_call : OneRetimeCall
one_retime_call t out lags r r' new new' lags' lags'' (s, (w, d), coded) (s', (w', d'), coded') =
    let e = one_outcome t out lags s s' new new' lags' lags'' w w' in
    (coded_alike e.0 coded coded', e.1, e.2)

pub one_reread_call : OneRereadCall
one_reread_call t out r r' new new' (s, w, coded) (s', w', coded') =
    let e = one_reading t w.said w'.said w.net w'.net w.reads w'.reads in
    let n = length t in
    let m = length out in
    let f : s ≡ s' = else_one (stops_one w'.said) (needs_one n m) s s' (subst (λ c. (Stops c or_else Needs n m) s) e.0 w.answer) w'.answer in
    (coded_alike f coded coded', w.buffer ∙ ap (λ c. holds c t out) f ∙ sym w'.buffer)

figures_alike : (f g : Figures) → f.registers ≡ g.registers → f.largest ≡ g.largest → f.number ≡ g.number → f ≡ g
figures_alike f g a b c =
    ap (λ x. record { registers = x; largest = f.largest; number = f.number }) a
    ∙ ap₂ (λ x y. record { registers = g.registers; largest = x; number = y }) b c

pub one_quote_call : OneQuoteCall
one_quote_call t f r r' new new' (s, (found, quotes, put), coded) (s', (found', quotes', put'), coded') =
    let (e, a, b, c) = one_quote t s s' found.registers found.largest found.number found'.registers found'.largest found'.number quotes quotes' in
    (coded_alike e coded coded', put ∙ ap₂ (λ x y. put_back x y f) e (figures_alike found found' a b c) ∙ sym put')

pub one_rails_call : OneRailsCall
one_rails_call t table r r' new new' (s, w, coded) (s', w', coded') =
    let e = one_rails t table s s' new new' w w' in
    (coded_alike e.0 coded coded', e.1)
