-- The kinds of line: their bytes, and the numbers in them.
--   fields_from, fields_of          numbers one after the other, each as so many bytes: behind other bytes, and by themselves
--   widths, Fitting, Read           how many bytes these are; each number fits its own; what is read there is the numbers
--   line_size                       how long a line is
--   head_bytes, edge_bytes, node_bytes the bytes of a line after its kind
--   widths_least                    they are no fewer than those so far
--   fields_read, node_numbers       the numbers taken from the bytes of numbers are those numbers
--   fields_bytes, node_bytes_read   bytes are those of the numbers taken from them
--   fields_frame, node_frame        a line of such bytes is read
use Prim.Native.Nat.{ℕ, ◌+◌, ◌*◌, ◌^◌, ◌<◌, ◌≤◌}
use native.Mathlib.Omega.{arith}
use mathlib.Core.Path.{◌≡◌, refl, sym, ap, ap₂, ◌∙◌}
use mathlib.Core.List.{List, [], ◌∷◌, ◌++◌, append_assoc, append-nil}
use lib.ListN.{length, take, drop, length-append, length-drop}
use lib.Seq.{take_at, drop_at, take-add, take_all, length-take-le}
use Rattle.frame.specs.Frame.{line, frame_at, number, number_at, line_of, bytes_of}
use Rattle.frame.proofs.Numbers.{Bytes, bytes_append, bytes_take, bytes_drop, length_bytes, bytes_bytes, number_bytes, bytes_number}
use Rattle.frame.proofs.Laws.{frame_written}

-- ── A number among bytes ────────────────────────────────────────────────────────────────────

-- What stands behind i bytes is read from there.
field : (i n x : ℕ) (xs ys bs : List ℕ) → bs ≡ xs ++ (bytes_of n x ++ ys) → length xs ≡ i → x < 256 ^ n → number_at i n bs ≡ x
field i n x xs ys bs e q h = rw (e, drop_at xs (bytes_of n x ++ ys) i q, take_at (bytes_of n x) ys n (length_bytes n x)) (number_bytes n x h)

-- A number that is read stands there.
field_bytes : (i n : ℕ) (bs : List ℕ) → Bytes bs → i + n ≤ length bs → bytes_of n (number_at i n bs) ≡ take n (drop i bs)
field_bytes i n bs b h =
    let q : length (take n (drop i bs)) ≡ n = length-take-le n (drop i bs) (simp length-drop (omega arith)) in
    ap (λ k. bytes_of k (number_at i n bs)) (sym q) ∙ bytes_number (take n (drop i bs)) (bytes_take n (drop i bs) (bytes_drop i bs b))

-- How long a line of its kind and n more bytes is: two digits a byte, and the line feed.
abbrev pub line_size : ℕ → ℕ
line_size n = 2 * n + 3

-- Bytes are read as a frame of their number.
frame_of : (k n : ℕ) (bs rest : List ℕ) → length bs ≡ n → k < 256 → Bytes bs → frame_at k n (line_of (k ∷ bs) ++ rest) ≡ line bs rest
frame_of k n bs rest q h b = ap (λ m. frame_at k m (line_of (k ∷ bs) ++ rest)) (sym q) ∙ frame_written k bs rest h b

-- ── Numbers one after the other ─────────────────────────────────────────────────────────────

-- A field: how many bytes it has, and the number in them.
abbrev pub Fields : Type 0
Fields = List (ℕ × ℕ)

abbrev pub fields_from : List ℕ → Fields → List ℕ
fields_from xs [] = xs
fields_from xs (f ∷ fs) = fields_from (xs ++ bytes_of f.0 f.1) fs

abbrev pub fields_of : Fields → List ℕ
fields_of fs = fields_from [] fs

abbrev pub widths : ℕ → Fields → ℕ
widths n [] = n
widths n (f ∷ fs) = widths (n + f.0) fs

abbrev pub Fitting : Fields → Type 0
Fitting [] = Unit
Fitting (f ∷ fs) = (f.1 < 256 ^ f.0) × Fitting fs

abbrev pub Read : ℕ → Fields → List ℕ → Type 0
Read i [] bs = Unit
Read i (f ∷ fs) bs = (number_at i f.0 bs ≡ f.1) × Read (i + f.0) fs bs

fields_front : (fs : Fields) (xs : List ℕ) → (ys : List ℕ) × (fields_from xs fs ≡ xs ++ ys)
fields_front [] xs = ([], sym (append-nil xs))
fields_front (f ∷ fs) xs = let r = fields_front fs (xs ++ bytes_of f.0 f.1) in (bytes_of f.0 f.1 ++ r.0, r.1 ∙ simp append_assoc)

-- By the fields in turn: each stands behind those before it.
read_from : (fs : Fields) (xs : List ℕ) (i : ℕ) → length xs ≡ i → Fitting fs → Read i fs (fields_from xs fs)
read_from [] xs i q h = tt
read_from (f ∷ fs) xs i q h =
    let r = fields_front fs (xs ++ bytes_of f.0 f.1) in (
      field i f.0 f.1 xs r.0 (fields_from (xs ++ bytes_of f.0 f.1) fs) (r.1 ∙ simp append_assoc) q h.0,
      read_from fs (xs ++ bytes_of f.0 f.1) (i + f.0) (simp (length-append, length_bytes) (omega arith)) h.1,
    )

pub fields_read : (fs : Fields) → Fitting fs → Read 0 fs (fields_of fs)
fields_read fs h = read_from fs [] 0 refl h

pub widths_least : (fs : Fields) (n : ℕ) → n ≤ widths n fs
widths_least [] n = omega arith
widths_least (f ∷ fs) n = omega (arith, widths_least fs (n + f.0))

-- What stands so far is the front of the bytes.
bytes_from : (fs : Fields) (bs : List ℕ) (i : ℕ) → widths i fs ≡ length bs → Bytes bs → Read i fs bs → fields_from (take i bs) fs ≡ bs
bytes_from [] bs i q b r = take_all i bs (omega arith)
bytes_from (f ∷ fs) bs i q b r =
    let e : bytes_of f.0 f.1 ≡ take f.0 (drop i bs) = ap (bytes_of f.0) (sym r.0) ∙ field_bytes i f.0 bs b (omega (arith, widths_least fs (i + f.0))) in
    ap (λ xs. fields_from xs fs) (ap (λ xs. take i bs ++ xs) e ∙ sym (take-add i f.0 bs)) ∙ bytes_from fs bs (i + f.0) q b r.1

pub fields_bytes : (fs : Fields) (bs : List ℕ) → widths 0 fs ≡ length bs → Bytes bs → Read 0 fs bs → fields_of fs ≡ bs
fields_bytes fs bs q b r = bytes_from fs bs 0 q b r

line_from : (fs : Fields) (xs : List ℕ) → Bytes xs → Bytes (fields_from xs fs) × (length (fields_from xs fs) ≡ widths (length xs) fs)
line_from [] xs b = (b, refl)
line_from (f ∷ fs) xs b =
    let l : length (xs ++ bytes_of f.0 f.1) ≡ length xs + f.0 = simp (length-append, length_bytes) in
    let r = line_from fs (xs ++ bytes_of f.0 f.1) (bytes_append xs (bytes_of f.0 f.1) b (bytes_bytes f.0 f.1)) in
    (r.0, r.1 ∙ ap (λ n. widths n fs) l)

pub fields_frame : (k : ℕ) (fs : Fields) (rest : List ℕ) → k < 256 → frame_at k (widths 0 fs) (line_of (k ∷ fields_of fs) ++ rest) ≡ line (fields_of fs) rest
unfolding Bytes
fields_frame k fs rest h = let r = line_from fs [] tt in frame_of k (widths 0 fs) (fields_of fs) rest r.1 h r.0

-- ── The head and an edge ────────────────────────────────────────────────────────────────────

abbrev pub head_fields : ℕ → ℕ → ℕ → ℕ → Fields
head_fields p d n e = (2, p) ∷ (1, d) ∷ (2, n) ∷ (2, e) ∷ []

abbrev pub edge_fields : ℕ → ℕ → ℕ → ℕ → Fields
edge_fields u v w s = (2, u) ∷ (2, v) ∷ (1, w) ∷ (4, s) ∷ []

abbrev pub head_bytes : ℕ → ℕ → ℕ → ℕ → List ℕ
head_bytes p d n e = fields_of (head_fields p d n e)

abbrev pub edge_bytes : ℕ → ℕ → ℕ → ℕ → List ℕ
edge_bytes u v w s = fields_of (edge_fields u v w s)

-- ── Two bytes: a node ───────────────────────────────────────────────────────────────────────

abbrev pub node_bytes : ℕ → ℕ → List ℕ
node_bytes k d = k ∷ d ∷ []

pub node_numbers : (k d : ℕ) → (number_at 0 1 (node_bytes k d) ≡ k) × (number_at 1 1 (node_bytes k d) ≡ d)
unfolding number
node_numbers k d = (omega arith, omega arith)

pub node_bytes_read : (bs : List ℕ) → length bs ≡ 2 → node_bytes (number_at 0 1 bs) (number_at 1 1 bs) ≡ bs
node_bytes_read [] q = absurd (omega arith)
node_bytes_read (a ∷ []) q = absurd (omega arith)
node_bytes_read (a ∷ b ∷ []) q = ap₂ node_bytes (node_numbers a b).0 (node_numbers a b).1
node_bytes_read (a ∷ b ∷ c ∷ l) q = absurd (omega arith)

pub node_frame : (k d : ℕ) → k < 256 → d < 256 → (rest : List ℕ) → frame_at 2 2 (line_of (2 ∷ node_bytes k d) ++ rest) ≡ line (node_bytes k d) rest
unfolding Bytes
node_frame k d h l rest = frame_of 2 2 (node_bytes k d) rest refl (omega arith) (h, (l, tt))
