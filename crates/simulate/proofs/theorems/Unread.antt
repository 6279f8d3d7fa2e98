-- Rows past the netlist and words past the E-th are not looked at.
--   number_below        the number in a number's bytes is no greater
--   head_of, head_read, last_number    the head of a netlist's text, and the number of edges in it
--   edges_read          what that text reads as has no more edges than the netlist
--   fit_same, machine_past    the test of the words, and the words after a step
--   Alike               what two steps of one netlist have in common, where the words that are looked at agree
--   alike_read          it holds where the step checks that netlist
--   words_unread
use Prim.Native.Nat.{ℕ, zero, suc, ◌/◌, ◌%◌, ◌<◌, ◌≤◌}
use native.Mathlib.Omega.{arith}
use native.Mathlib.Decide.{dec_lt}
use mathlib.Core.Path.{◌≡◌, refl, sym, ap, ◌∙◌, subst}
use mathlib.Core.List.{List, [], ◌∷◌, ◌++◌, append_assoc}
use lib.Dec.{eqb}
use lib.ListN.{length, get_or, take, drop, length-append}
use lib.Seq.{take_all, drop_at}
use Rattle.frame.specs.Frame.{line, frame_at, number, number_at, bytes_of}
use Rattle.frame.proofs.Numbers.{number_append, length_bytes}
use Rattle.theory.specs.Graph.{Wired}
use Rattle.netlist.specs.declared.Netlist.{Netlist}
use Rattle.netlist.specs.Answer.{Said, value, refused, holds}
use Rattle.netlist.specs.Order.{here}
use Rattle.netlist.specs.Net.{graph_of}
use Rattle.netlist.specs.Circuit.{LoopIn}
use Rattle.netlist.specs.Read.{Reads}
use Rattle.rules.specs.Rules.{every}
use Rattle.netlist.specs.Write.{head_line, node_line, edge_line, joined, text_of}
use Rattle.netlist.proofs.Fits.{head_fits_means}
use Rattle.netlist.proofs.Order.{stopped}
use Rattle.netlist.proofs.Fields.{head_fields, fields_of, fields_read, fields_frame}
use Rattle.netlist.proofs.theorems.Lines.{lines_fact}
use Rattle.netlist.proofs.theorems.Sound.{reads_value, read_is_sound}
use Rattle.netlist.proofs.theorems.RoundTrip.{same_text}
use Rattle.simulate.specs.declared.Machine.{Machine}
use Rattle.simulate.specs.Clock.{inputs, outputs, output_values, words_after}
use Rattle.simulate.specs.Step.{only_bits, words_fit, step_fits, machine_after, Steps}
use Rattle.simulate.specs.Theorems.{WordsUnread}
use Rattle.simulate.proofs.Says.{Row}
use Rattle.simulate.proofs.Ran.{reads_zero}
use Rattle.simulate.proofs.Clock.{after_in, after_past, after_out, output_same, after_same}

number_below : (n x : ℕ) → number (bytes_of n x) ≤ x
unfolding bytes_of number
number_below zero x = omega arith
number_below (suc n) x = omega (arith, number_append (bytes_of n (x / 256)) (x % 256 ∷ []), number_below n (x / 256))

head_of : Netlist → List ℕ
head_of net = fields_of (head_fields net.period net.derate net.nodes net.edges)

head_read : (net : Netlist) → frame_at 1 7 (text_of net) ≡ line (head_of net) (joined (node_line net) net.nodes ++ joined (edge_line net) net.edges)
unfolding text_of head_of
head_read net =
    let rest = joined (node_line net) net.nodes ++ joined (edge_line net) net.edges in
    ap (frame_at 1 7) (append_assoc (head_line net) (joined (node_line net) net.nodes) (joined (edge_line net) net.edges))
    ∙ fields_frame 1 (head_fields net.period net.derate net.nodes net.edges) rest (omega arith)

last_number : (net : Netlist) → number_at 5 2 (head_of net) ≤ net.edges
unfolding head_of
last_number net =
    let xs = bytes_of 2 net.period ++ bytes_of 1 net.derate ++ bytes_of 2 net.nodes in
    let ys = bytes_of 2 net.edges in
    let e : drop 5 (xs ++ ys) ≡ ys = drop_at xs ys 5 (simp (length-append, length_bytes)) in
    let f : take 2 ys ≡ ys = take_all 2 ys (omega (arith, length_bytes 2 net.edges)) in
    subst (λ l. number l ≤ net.edges) (sym (ap (take 2) e ∙ f)) (number_below 2 net.edges)

-- The head of a text says how many edges it has, and the head of a netlist's text no more than the netlist has.
edges_read : (net back : Netlist) → Reads (text_of net) (value 0) back → back.edges ≤ net.edges
unfolding head_of
edges_read net back r =
    let f = (lines_fact (text_of net) back).0 (reads_value r).0 in
    let h = head_fits_means back.period back.derate back.nodes back.edges f.0.head in
    let x = fields_read (head_fields back.period back.derate back.nodes back.edges) (omega arith, (omega arith, (omega arith, (omega arith, tt)))) in
    let a = head_read net in
    let b = head_read back in
    let t = f.2 in
    let e : head_of net ≡ head_of back = cc in
    omega (arith, last_number net, ap (number_at 5 2) e, x.1.1.1.0)

fit_same : (net : Netlist) (words words' : List ℕ) (n : ℕ) → ((e : ℕ) → e < n → get_or words e 0 ≡ get_or words' e 0) → words_fit net words n ≡ words_fit net words' n
unfolding words_fit
fit_same net words words' zero same = refl
fit_same net words words' (suc n) same = rw (fit_same net words words' n (λ e h. same e (omega arith)), same n (omega arith))

-- The words from the n-th on stay, as do those of a step that is refused.
machine_past : (s : Said) (net : Netlist) (m : Machine) (vector : List ℕ) (n : ℕ) → net.edges ≤ n → drop n (machine_after s net m vector).words ≡ drop n m.words
machine_past (value o) net m vector n h = after_past net m.words vector n h
machine_past (refused q k p) net m vector n h = refl

-- What two steps of the same netlist have in common, on machines m and k whose first n words agree.
record Alike (net : Netlist) (n : ℕ) (m k : Machine) (vector old : List ℕ) (checked s : Said) : Type 0 where
  answer : Row checked (step_fits net m.words vector) (outputs net) (length old) s → Row checked (step_fits net k.words vector) (outputs net) (length old) s
  buffer : holds s (output_values net m.words vector) old ≡ holds s (output_values net k.words vector) old
  words : (e : ℕ) → e < n → get_or (machine_after s net m vector).words e 0 ≡ get_or (machine_after s net k vector).words e 0
  past : (j : Machine) → drop n (machine_after s net j vector).words ≡ drop n j.words

module _ (n : ℕ) (m k : Machine) (agree : (e : ℕ) → e < n → get_or m.words e 0 ≡ get_or k.words e 0) (vector old : List ℕ) where
  module _ (net : Netlist) (wired : Wired (graph_of net)) (no_loop : ¬ LoopIn net) (few : net.edges ≤ n) where
    below : (e : ℕ) → e < net.edges → get_or m.words e 0 ≡ get_or k.words e 0
    below e h = agree e (omega arith)

    alike_words : (s : Said) (e : ℕ) → e < n → get_or (machine_after s net m vector).words e 0 ≡ get_or (machine_after s net k vector).words e 0
    alike_words (value o) e h = go (dec_lt e net.edges)
      where
        go : Dec (e < net.edges) → get_or (words_after net m.words vector) e 0 ≡ get_or (words_after net k.words vector) e 0
        go (yes l) = after_in net m.words vector e l ∙ after_same net wired no_loop m.words k.words vector below e l ∙ sym (after_in net k.words vector e l)
        go (no l) = after_out net m.words vector e (omega arith) ∙ agree e h ∙ sym (after_out net k.words vector e (omega arith))
    alike_words (refused q j p) e h = agree e h

    alike : (i : ℕ) (s : Said) → Alike net n m k vector old (value i) s
    alike i s = record {
      answer =
          subst (λ fit. Row (value i) (every (eqb (length vector) (inputs net) ∷ only_bits vector ∷ fit ∷ [])) (outputs net) (length old) s)
          (fit_same net m.words k.words net.edges below);
      buffer = ap (λ l. holds s l old) (output_same net wired no_loop m.words k.words vector below);
      words = alike_words s;
      past = λ j. machine_past s net j vector n few;
    }

  -- A reading that refuses nothing has read a sound netlist, of no more than n edges; after any other nothing is stepped.
  alike_read : (net back : Netlist) (checked s : Said) → net.edges ≡ n → Reads (text_of net) checked back
      → Row checked (step_fits back m.words vector) (outputs back) (length old) s → Alike back n m k vector old checked s
  alike_read net back (value i) s e r q =
      let r' = reads_zero r in
      let f = read_is_sound (text_of net) back r' in
      alike back f.wired f.no_loop (omega (arith, edges_read net back r')) i s
  alike_read net back (refused a b c) s e r q =
      let stop : s ≡ refused a b c = stopped refl q in
      subst (Alike back n m k vector old (refused a b c)) (sym stop) (record { answer = λ x. here refl; buffer = refl; words = agree; past = λ j. refl })

-- The two records have one text (`same_text`), so one netlist is checked and stepped.
pub words_unread : WordsUnread
words_unread net net' m k m' vector old s new same agree w =
    let a = alike_read net.edges m k agree vector old net w.same w.checked s refl w.check w.answer in
    let step : Steps net' k vector old s (machine_after s w.same k vector) new = record {
      checked = w.checked;
      same = w.same;
      check = subst (λ x. Reads x w.checked w.same) (same_text net net' same) w.check;
      answer = a.answer w.answer;
      machine = refl;
      buffer = w.buffer ∙ a.buffer;
    } in
    let e = w.machine in (
      machine_after s w.same k vector,
      step,
      λ i h. ap (λ j. get_or j.words i 0) e ∙ a.words i h,
      ap (λ j. drop net.edges j.words) e ∙ a.past m,
      a.past k,
    )
