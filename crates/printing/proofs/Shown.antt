-- What is printed of a refusal, and of a text read and written again.
--   refusal_line_is, refusal_length  the bytes of a refusal's line; it has 11
--   rereads_text, rereads_refusal   what is printed in the two cases
--   counted             so many bytes as a buffer has can be taken from its front
use Prim.Native.Nat.{ℕ, ◌+◌, ◌/◌, ◌%◌, ◌≤◌}
use mathlib.Core.Path.{◌≡◌, refl, ap, sym, ◌∙◌}
use mathlib.Core.List.{List, [], ◌∷◌}
use native.Mathlib.Omega.{arith}
use borrow.Author.Tests.{le-leb}
use lib.ListN.{length}
use lib.Seq.{sets-eq, length-take-le}
use Rattle.io.specs.Counts.{IsPrefixLen}
use Rattle.frame.specs.Frame.{bytes_of, line_of, placed}
use Rattle.frame.proofs.Laws.{length_line}
use Rattle.frame.proofs.Buffers.{placed_room, length_placed}
use Rattle.netlist.specs.Answer.{value, refused}
use Rattle.netlist.specs.Write.{Rewrites}
use Rattle.netlist.proofs.theorems.RoundTrip.{all_written}
use Rattle.printing.specs.Shown.{refusal_line, line_in, Rereads}

pub counted : (n : ℕ) (xs : List ℕ) → n ≤ length xs → IsPrefixLen n xs
counted n xs room = (room, sym (length-take-le n xs room))

-- ── A refusal ───────────────────────────────────────────────────────────────────────────────

pub refusal_line_is : (q k n : ℕ) → line_of (15 ∷ q ∷ k ∷ n / 256 % 256 ∷ n % 256 ∷ []) ≡ refusal_line (refused q k n)
unfolding bytes_of
refusal_line_is q k n = refl

pub refusal_length : (q k p : ℕ) → length (refusal_line (refused q k p)) ≡ 11
unfolding bytes_of
refusal_length q k p = length_line _

-- ── Read and written again ──────────────────────────────────────────────────────────────────

pub rereads_text : (t old new : List ℕ) (n : ℕ) → Rewrites t old (value n) new → Rereads t old n new × IsPrefixLen n new
rereads_text t old new n w =
    let r = all_written w.said w.answer in
    let k : 0 + length t ≡ length t = omega arith in
    let b : new ≡ placed old 0 t = w.buffer ∙ rw (placed_room old 0 t (omega (arith, r.3)), sets-eq t old 0 (omega (arith, r.3)), k) in (
      record { said = value n; mid = new; rewrites = w; result = rw (le-leb (length t) (length old) r.3) r.2; buffer = b },
      counted n new (omega (arith, r.2, r.3, ap length b, length_placed old 0 t)),
    )

pub rereads_refusal : (t old mid new : List ℕ) {q k p : ℕ} (n : ℕ) → Rewrites t old (refused q k p) mid
    → new ≡ placed mid 0 (refusal_line (refused q k p)) → n ≡ line_in (refusal_line (refused q k p)) mid → Rereads t old n new
rereads_refusal t old mid new {q} {k} {p} n w b r =
    let line = refusal_line (refused q k p) in
    record { said = refused q k p; mid = mid; rewrites = w; result = r ∙ ap (line_in line) w.buffer; buffer = b ∙ ap (λ l. placed l 0 line) w.buffer }
