-- Bytes, and the numbers that they spell.
--   Bytes bs                     every element of bs is below 256
--   number_append, number_small  the number of bytes, and its bound
--   number_bytes, bytes_number   a number as n bytes, and back
--   bytes-..., length_bytes      lists of bytes
--   code_one, code_two, code_four    the bytes that code makes of a number
use mathlib.Core.Path.{◌≡◌, refl}
use mathlib.Core.List.{List, [], ◌∷◌, ◌++◌}
use Prim.Native.Nat.{ℕ, zero, suc, ◌+◌, ◌*◌, ◌^◌, ◌/◌, ◌%◌, ◌≤◌, ◌<◌}
use native.Mathlib.Omega.{arith}
use native.Mathlib.Nat.{pow-suc, mul_assoc, add-mul, mul-le-mul_right, mul-add-div_right, mul-add-mod_self_right, zero-lt-suc}
use lib.Pow.{pow-add}
use lib.ListN.{length, take, drop, length-append}
use Rattle.std.specs.Int.{w16, w32, to_be_bytes}
use Rattle.frame.specs.Frame.{number, bytes_of}

unfoldable pub Bytes : List ℕ → Type 0
Bytes [] = Unit
Bytes (b ∷ bs) = (b < 256) × Bytes bs

pub bytes_append : (xs ys : List ℕ) → Bytes xs → Bytes ys → Bytes (xs ++ ys)
unfolding Bytes
bytes_append [] ys h k = k
bytes_append (x ∷ xs) ys h k = (h.0, bytes_append xs ys h.1 k)

pub bytes_take : (n : ℕ) (bs : List ℕ) → Bytes bs → Bytes (take n bs)
unfolding Bytes
bytes_take zero bs h = tt
bytes_take (suc n) [] h = tt
bytes_take (suc n) (b ∷ bs) h = (h.0, bytes_take n bs h.1)

pub bytes_drop : (n : ℕ) (bs : List ℕ) → Bytes bs → Bytes (drop n bs)
unfolding Bytes
bytes_drop zero bs h = h
bytes_drop (suc n) [] h = tt
bytes_drop (suc n) (b ∷ bs) h = bytes_drop n bs h.1

pub number_append : (xs ys : List ℕ) → number (xs ++ ys) ≡ number xs * 256 ^ length ys + number ys
unfolding number
number_append [] ys = omega arith
number_append (x ∷ xs) ys =
    let p = 256 ^ length ys in
    let q = 256 ^ length xs in
    let e : 256 ^ length (xs ++ ys) ≡ q * p = rw (length-append) (pow-add 256 (length xs) (length ys)) in
    rw (e, number_append xs ys, add-mul, mul_assoc) (omega arith)

pub number_small : (bs : List ℕ) → Bytes bs → number bs < 256 ^ length bs
unfolding number Bytes
number_small [] h = omega arith
number_small (b ∷ bs) h =
    let b255 : b ≤ 255 = omega (arith, h.0) in
    rw pow-suc (omega (arith, number_small bs h.1, mul-le-mul_right (256 ^ length bs) b255))

pub length_bytes : (n x : ℕ) → length (bytes_of n x) ≡ n
unfolding bytes_of
length_bytes zero x = refl
length_bytes (suc n) x = simp (length-append, length_bytes n (x / 256)) (omega arith)

pub bytes_bytes : (n x : ℕ) → Bytes (bytes_of n x)
unfolding bytes_of Bytes
bytes_bytes zero x = tt
bytes_bytes (suc n) x = bytes_append (bytes_of n (x / 256)) (x % 256 ∷ []) (bytes_bytes n (x / 256)) (omega arith, tt)

pub number_bytes : (n x : ℕ) → x < 256 ^ n → number (bytes_of n x) ≡ x
unfolding bytes_of number
number_bytes zero x h = omega arith
number_bytes (suc n) x h =
    let e : 256 ^ suc n ≡ 256 ^ n * 256 = pow-suc 256 n in
    let l : x / 256 < 256 ^ n = omega arith in
    rw (number_append, number_bytes n (x / 256) l) (omega arith)

-- The high byte of a number stands first.
bytes_cons : (n b x : ℕ) → b < 256 → x < 256 ^ n → bytes_of (suc n) (b * 256 ^ n + x) ≡ b ∷ bytes_of n x
unfolding bytes_of
bytes_cons zero b x h k =
    let e : b * 256 ^ zero + x ≡ b = omega arith in
    let f : b % 256 ≡ b = omega arith in
    rw (e, f)
bytes_cons (suc n) b x h k =
    let e : b * 256 ^ suc n + x ≡ b * 256 ^ n * 256 + x = rw (pow-suc, ← mul_assoc) in
    let l : x / 256 < 256 ^ n = omega (arith, pow-suc 256 n) in
    rw (e, mul-add-div_right {m = 256} (zero-lt-suc 255), mul-add-mod_self_right, bytes_cons n b (x / 256) h l)

pub bytes_number : (bs : List ℕ) → Bytes bs → bytes_of (length bs) (number bs) ≡ bs
unfolding bytes_of number Bytes
bytes_number [] h = refl
bytes_number (b ∷ bs) h = rw (bytes_cons (length bs) b (number bs) h.0 (number_small bs h.1), bytes_number bs h.1)

-- A number's bytes as code makes them, by `to_be_bytes`; one of a byte is itself.
pub code_two : (x : ℕ) → to_be_bytes w16 x ≡ bytes_of 2 x
unfolding bytes_of
code_two x = refl

pub code_four : (x : ℕ) → to_be_bytes w32 x ≡ bytes_of 4 x
unfolding bytes_of
code_four x =
    let three : x / 256 / 256 / 256 ≡ x / 16777216 = omega arith in
    let two : x / 256 / 256 ≡ x / 65536 = omega arith in
    rw (three, two)

pub code_one : (x : ℕ) → x < 256 → bytes_of 1 x ≡ x ∷ []
unfolding bytes_of
code_one x h = let e : x % 256 ≡ x = omega arith in rw e
