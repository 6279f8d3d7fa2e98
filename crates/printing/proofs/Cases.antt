-- What `list` puts out, in its two cases, and what `listing` makes of it.
--   size, size_fits     how many bytes are written of a netlist; no more than its text has
--   fitted              the length of the buffer and what it held decide nothing
--   came                where a number is said, the text reads, and the new text stands at the front
--   reads_too           so the text reads
--   lag_rows, lag_words the lines of the lags have room, and two bytes hold each lag
--   lists_done          the new text and these lines
--   lists_refused       the line of a refusal
--   front_is, shows     what is printed of a text is what is printed of its first 32,768 bytes
use Prim.Native.Nat.{ℕ, ◌+◌, ◌*◌, ◌≤◌, ◌<◌, min}
use native.Mathlib.Omega.{arith}
use native.Mathlib.Decide.{dec_le}
use mathlib.Core.Path.{◌≡◌, refl, sym, ap, ap₂, subst, subst₂, ◌∙◌}
use mathlib.Core.Logic.{inl, inr, ⊎_elim}
use mathlib.Core.List.{List, [], ◌∷◌, ◌++◌}
use borrow.Author.Tests.{le-leb}
use lib.IntN.{ℤ, pos}
use lib.ListN.{length, take, drop, get_or, replicate, length-append, length-drop}
use lib.Seq.{sets, sets-eq, take_all, take_at, drop-append-add, drop-drop, length-take-le}
use Rattle.theory.specs.Lag.{up, down}
use Rattle.std.proofs.lemmas.List.{get_or-take}
use Rattle.frame.specs.Frame.{bytes_of, line_of, placed}
use Rattle.frame.proofs.Buffers.{placed_room}
use Rattle.netlist.specs.declared.Netlist.{Netlist}
use Rattle.netlist.specs.Answer.{Said, value, refused, whole, holds}
use Rattle.netlist.specs.Net.{zeros, plain}
use Rattle.netlist.specs.Order.{Given}
use Rattle.netlist.specs.Read.{Reads}
use Rattle.netlist.specs.Write.{joined, text_of}
use Rattle.netlist.proofs.Fits.{clash}
use Rattle.netlist.proofs.Order.{else_map}
use Rattle.netlist.proofs.Rows.{length_zeros, joined_same}
use Rattle.netlist.proofs.Run.{fit_rows}
use Rattle.netlist.proofs.Written.{length_joined}
use Rattle.netlist.proofs.theorems.One.{one_reading}
use Rattle.netlist.proofs.theorems.Some.{some_reading}
use Rattle.netlist.proofs.theorems.Sound.{reads_text}
use Rattle.lags.proofs.Laws.{read_sure}
use Rattle.moves.specs.Moved.{moved_net}
use Rattle.retime.specs.Retime.{Short, Retimes}
use Rattle.retime.proofs.Call.{reading, unread, left_of, of_left, back_reads}
use Rattle.retime.proofs.theorems.Moved.{written_length}
use Rattle.retime.proofs.theorems.Demand.{lags_fit}
use Rattle.retime.proofs.theorems.Refusals.{unread_fact, nothing_touched}
use Rattle.printing.specs.Shown.{refusal_line, line_in}
use Rattle.printing.proofs.Shown.{counted, refusal_length}
use Rattle.printing.specs.declared.Printed.{Printed}
use Rattle.printing.specs.Listed.{twos, lag_line, Prints, PrintsWhole}
use Rattle.printing.specs.inner.Lists.{Lists}
use Rattle.printing.proofs.Lines.{lag_length}
use Rattle.printing.proofs.More.{more_decides_nothing}

-- ── The buffer decides nothing ──────────────────────────────────────────────────────────────

-- How many bytes are written of the netlist of a text: no more than the text has.
abbrev size : Netlist → ℕ
size net = length (text_of (plain net))

size_fits : {t : List ℕ} {net : Netlist} → Reads t (value 0) net → size net ≤ length t
size_fits h = omega (arith, ap length (reads_text h))

-- The same outcome in a buffer as long as the text.
record Fitted (t : List ℕ) (lags : List ℤ) (s : Said) (mid : List ℕ) (lags' : List ℤ) : Type 0 where
  pub new : List ℕ
  pub retimes : Retimes t (zeros (length t)) lags s new lags'
  pub same : (net : Netlist) → Reads t (value 0) net → (k : ℕ) → s ≡ value k → take (size net) mid ≡ take (size net) new

-- Neither buffer is too short, so the table decides whether 12 is said.
short_in : (old out : List ℕ) (lags : List ℤ) (net : Netlist) → size net ≤ length old → (s : Said) → Given (Short old lags net) (whole 12) s → Given (Short out lags net) (whole 12) s
short_in old out lags net room s (inl x, e) = absurd (let z : ⊥ = omega arith in z)
short_in old out lags net room s (inr x, e) = (inr x, e)

-- Of a text that is refused both buffers are as they were. Of one that reads the new text stands at the front of both.
fitted : {t old mid : List ℕ} {lags lags' : List ℤ} {s : Said} → length t ≤ length old → Retimes t old lags s mid lags' → Fitted t lags s mid lags'
fitted {t} {old} {mid} {lags} {lags'} {s} room o = ⊎_elim (λ (q, k, p, net, h). stops h) (λ (net, h). goes net h) (reading t)
  where
    stops : {q k p : ℕ} {net : Netlist} → Reads t (refused q k p) net → Fitted t lags s mid lags'
    stops {q} {k} {p} {net} h =
        let e = unread_fact t old lags s mid lags' q k p net h o in
        let same : lags' ≡ lags = (nothing_touched t old lags s mid lags' q k p o e).1 in
        record {
          new = zeros (length t);
          retimes = subst₂ (λ x l. Retimes t (zeros (length t)) lags x (zeros (length t)) l) (sym e) (sym same) (unread h);
          same = λ n h' i z. clash (cc);
        }

    goes : (net : Netlist) → Reads t (value 0) net → Fitted t lags s mid lags'
    goes net h =
        let x = left_of net h o in
        let new = text_of (moved_net net x.lag x.choice) in
        let zero_room : size net ≤ length (zeros (length t)) = omega (arith, size_fits h, length_zeros (length t)) in
        let front : (xs : List ℕ) (k : ℕ) → s ≡ value k → take (size net) (holds s new xs) ≡ new =
        λ xs k e. ap (λ a. take (size net) (holds a new xs)) e ∙ take_at new (drop (length new) xs) (size net) (written_length net x.lag x.choice) in
        record {
          new = holds s new (zeros (length t));
          retimes = of_left net h (record {
            lag = x.lag;
            choice = x.choice;
            answer = else_map (short_in old (zeros (length t)) lags net (omega (arith, size_fits h))) (short_in (zeros (length t)) old lags net zero_room) (λ r. r) x.answer;
            buffer = refl;
            table = x.table;
          });
          same = λ n h' k e.
              let z : size n ≡ size net = ap size (one_reading t (value 0) (value 0) n net h' h).1 in
              ap (λ i. take i mid) z ∙ ap (take (size net)) x.buffer ∙ front old k e ∙ sym (front (zeros (length t)) k e) ∙ ap (λ i. take i (holds s new (zeros (length t)))) (sym z);
        }

-- ── The two cases ───────────────────────────────────────────────────────────────────────────

-- The netlist of the text, and the new text.
record Came (t old mid : List ℕ) : Type 0 where
  pub net : Netlist
  pub reads : Reads t (value 0) net
  pub new : List ℕ
  pub long : length new ≡ size net
  pub front : mid ≡ new ++ drop (length new) old

came : {t old mid : List ℕ} {before lags : List ℤ} {s : Said} {k : ℕ} → Retimes t old before s mid lags → s ≡ value k → Came t old mid
came {t} {old} o e =
    let new = text_of (moved_net o.net o.lag o.choice) in
    record { net = o.net; reads = back_reads o e; new = new; long = written_length o.net o.lag o.choice; front = o.buffer ∙ ap (λ a. holds a new old) e }

module _ (t old mid : List ℕ) (lags : List ℤ) (room : length t + 5632 ≤ length old) where
  module _ {k : ℕ} (w : Retimes t old (replicate 512 (pos 0)) (value k) mid lags) where
    fit : Fitted t (replicate 512 (pos 0)) (value k) mid lags
    fit = fitted (omega arith) w

    here : Came t old mid
    here = came w refl

    -- So the text reads.
    pub reads_too : {q k p : ℕ} {net : Netlist} → ¬ Reads t (refused q k p) net
    reads_too {q} {k} {p} {net} r = let e = (one_reading t (refused q k p) (value 0) net here.net r here.reads).0 in clash (cc)

    module _ (net : Netlist) (reads : Reads t (value 0) net) where
      same : net ≡ here.net
      same = (one_reading t (value 0) (value 0) net here.net reads here.reads).1

      few : net.nodes ≤ 512
      few = (fit_rows net (read_sure t net reads).fit).0

      mid_length : length mid ≡ length old
      mid_length =
          ap length here.front ∙ length-append here.new (drop (length here.new) old) ∙ omega (arith, here.long, size_fits here.reads, length-drop (length here.new) old)

      front_lags : List ℤ
      front_lags = take net.nodes lags

      lines : List ℕ
      lines = joined (lag_line front_lags) (length front_lags)

      module _ (long_lags : length lags ≡ 512) where
        lags_length : length front_lags ≡ net.nodes
        unfolding front_lags
        lags_length = length-take-le net.nodes lags (omega (arith, few, long_lags))

        same_lag : (v : ℕ) → v < net.nodes → get_or front_lags v (pos 0) ≡ get_or lags v (pos 0)
        unfolding front_lags
        same_lag v h = get_or-take net.nodes lags v (pos 0) h

        -- The lines of the table's front are those of the nodes.
        lines_are : lines ≡ joined (lag_line lags) net.nodes
        unfolding lines
        lines_are =
            ap (joined (lag_line front_lags)) lags_length
            ∙ joined_same (lag_line front_lags) (lag_line lags) net.nodes (λ v h. ap (λ z. line_of ((4 ∷ []) ++ bytes_of 2 v ++ bytes_of 2 (twos z))) (same_lag v h))

        lines_length : length lines ≡ 11 * net.nodes
        lines_length = ap length lines_are ∙ length_joined (lag_line lags) 11 (lag_length lags) net.nodes

        pub lag_rows : (net.nodes ≤ length lags) × (length (take net.nodes lags) ≤ 512)
            × (length (text_of (plain net)) + length (joined (lag_line (take net.nodes lags)) (length (take net.nodes lags))) ≤ length mid)
        unfolding lines front_lags
        lag_rows = (omega (arith, few, long_lags), omega (arith, few, lags_length), omega (arith, few, mid_length, size_fits reads, lines_length))

        pub lag_words : (v : ℕ) → v < length (take net.nodes lags)
            → (up (get_or (take net.nodes lags) v (pos 0)) < 32768) × (down (get_or (take net.nodes lags) v (pos 0)) ≤ 32768)
        unfolding front_lags
        lag_words v h =
            let l : v < net.nodes = omega (arith, lags_length) in
            let f = lags_fit t old (replicate 512 (pos 0)) (value k) mid lags net reads w (k, refl) v l in
            let P : ℤ → Type 0 = λ z. (up z < 32768) × (down z ≤ 32768) in
            subst P (sym (same_lag v l)) (omega (arith, f.0), omega (arith, f.1))

        -- What stands past the new text is what stood there.
        long : length here.new ≡ size net
        long = here.long ∙ ap size (sym same)

        rest : (n : ℕ) → drop (size net + n) mid ≡ drop (size net + n) old
        rest n =
            ap₂ (λ l xs. drop (l + n) xs) (sym long) here.front ∙ drop-append-add here.new (drop (length here.new) old) n
            ∙ drop-drop n (length here.new) old ∙ ap (λ l. drop (l + n) old) long

        pub lists_done : (new : List ℕ) (at n : ℕ) → at ≡ length (text_of (plain net))
            → new ≡ sets mid at (joined (lag_line (take net.nodes lags)) (length (take net.nodes lags)))
            → n ≡ at + length (joined (lag_line (take net.nodes lags)) (length (take net.nodes lags))) → Lists t old n new
        unfolding lines front_lags
        lists_done new at n z p q =
            let front = take (size net) mid in
            let front_length : length front ≡ size net = length-take-le (size net) mid (omega (arith, mid_length, size_fits reads)) in
            let long : length (front ++ lines) ≡ size net + length lines = length-append front lines ∙ ap (λ i. i + length lines) front_length in
            record {
              printed = front ++ lines;
              prints = record {
                said = value k;
                new = fit.new;
                lags = lags;
                retimes = fit.retimes;
                read = value 0;
                net = net;
                reads = reads;
                prints = ap₂ (λ x l. x ++ l) (fit.same net reads k refl) lines_are;
              };
              count = q ∙ ap (λ i. i + length lines) z ∙ sym long;
              bytes = p ∙ ap (λ i. sets mid i lines) z ∙ sets-eq lines mid (size net) (omega (arith, lines_length, few, mid_length, size_fits reads))
                  ∙ ap (λ xs. front ++ lines ++ xs) (rest (length lines) ∙ ap (λ i. drop i old) (sym long));
              room = omega (arith, long, lines_length, few, size_fits reads);
            }

  pub lists_refused : {q p i : ℕ} (w : Retimes t old (replicate 512 (pos 0)) (refused q p i) mid lags) (new : List ℕ) (n : ℕ)
      → new ≡ placed mid 0 (refusal_line (refused q p i)) → n ≡ line_in (refusal_line (refused q p i)) mid → Lists t old n new
  lists_refused {q} {p} {i} w new n f g =
      let line = refusal_line (refused q p i) in
      let fit : Fitted t (replicate 512 (pos 0)) (refused q p i) mid lags = fitted (omega arith) w in
      let stays : mid ≡ old = (nothing_touched t old (replicate 512 (pos 0)) (refused q p i) mid lags q p i w refl).0 in
      let long : length line ≡ 11 = refusal_length q p i in
      let any = some_reading t in
      record {
        printed = line;
        prints = record {
          said = refused q p i;
          new = fit.new;
          lags = lags;
          retimes = fit.retimes;
          read = any.0;
          net = any.1;
          reads = any.2;
          prints = refl;
        };
        count = g ∙ rw (le-leb (length line) (length mid) (omega (arith, long, ap length stays)));
        bytes = f ∙ placed_room mid 0 line (omega (arith, long, ap length stays)) ∙ sets-eq line mid 0 (omega (arith, long, ap length stays))
            ∙ ap₂ (λ i xs. line ++ drop i xs) (let y : 0 + length line ≡ length line = omega arith in y) stays;
        room = omega (arith, long);
      }

-- ── The front of a text ─────────────────────────────────────────────────────────────────────

pub front_is : (t : List ℕ) (n : ℕ) → n ≡ min 32768 (length t) → take n t ≡ take 32768 t
front_is t n e = go (dec_le (length t) 32768)
  where
    go : Dec (length t ≤ 32768) → take n t ≡ take 32768 t
    go (yes h) = take_all n t (omega arith) ∙ sym (take_all 32768 t h)
    go (no h) = ap (λ m. take m t) (let q : n ≡ 32768 = omega arith in q)

pub shows : (t old front : List ℕ) (r : Printed) → old ≡ zeros 38400 → front ≡ take 32768 t → Lists front old r.len r.bytes → PrintsWhole t r
shows t old front r o f x =
    record {
      printed = x.printed;
      prints = (more_decides_nothing t 32768 (omega arith) x.printed).1 (subst (λ y. Prints y x.printed) f x.prints);
      count = x.count;
      bytes = x.bytes ∙ ap (λ y. x.printed ++ drop (length x.printed) y) o;
      counts = counted r.len r.bytes (omega (arith, x.count, ap length x.bytes, length-append x.printed (drop (length x.printed) old)));
    }
