-- Laws of a string of bits and its numbers.
use mathlib.Core.Path.{◌≡◌, refl, sym, ◌∙◌, ap}
use Prim.Native.Nat.{ℕ, zero, suc, ◌+◌, ◌*◌, ◌-◌, ◌/◌, ◌%◌, ◌^◌, ◌≤◌, ◌<◌}
use native.Mathlib.Nat.{add-zero, zero-add, add-suc, add_assoc, mul-one, mul_assoc, mul_comm, add-mul, zero-mul, pow-succ', mod-one, le_refl, mul-mod_left, one-mul}
use native.Mathlib.Omega.{arith}
use native.Mathlib.Numerals.{one-add}
use lib.Pow.{pow-add, high, low, mod-pow-add, shl_exact, shl-shr}
use lib.Arith.{digits_lt}
use lib.Bits.{bit_or, or_shifted_r}
use Rattle.layout.specs.Layout.{bit, of_bits}

-- every bit is 0 or 1
abbrev pub Bits : (ℕ → ℕ) → Type 0
Bits b = (p : ℕ) → b p < 2

pub bit_lt : (x j : ℕ) → bit x j < 2
unfolding bit
bit_lt x j = omega arith

pub number_lt : (b : ℕ → ℕ) → Bits b → (s m : ℕ) → of_bits b s m < 2 ^ m
unfolding of_bits
number_lt b h s zero = omega arith
number_lt b h s (suc m) = rw pow-succ' (digits_lt (h (s + m)) (number_lt b h s m))

-- the first c of c + m bits are the low ones
pub number_split : (b : ℕ → ℕ) (s c m : ℕ) → of_bits b s (c + m) ≡ of_bits b (s + c) m * 2 ^ c + of_bits b s c
unfolding of_bits
number_split b s c zero = simp (add-zero, zero-mul, zero-add)
number_split b s c (suc m) =
    rw (add-suc, of_bits, number_split b s c m, pow-add 2 c m, mul_comm (2 ^ c) (2 ^ m), ← mul_assoc, ← add_assoc s c m, add-mul) (sym (add_assoc _ _ _))

-- bits that are those of x make x, as far as they go
pub number_of : (b : ℕ → ℕ) (x s m : ℕ) → ((j : ℕ) → j < m → b (s + j) ≡ bit x j) → of_bits b s m ≡ x % 2 ^ m
unfolding of_bits bit
number_of b x s zero h = sym (mod-one x)
number_of b x s (suc m) h =
    rw (← one-add m, mod-pow-add x 1 m, h m (le_refl _), number_of b x s m (λ j k. h j (omega arith)))

pub number_ext : (a b : ℕ → ℕ) (s t m : ℕ) → ((j : ℕ) → j < m → a (s + j) ≡ b (t + j)) → of_bits a s m ≡ of_bits b t m
unfolding of_bits
number_ext a b s t zero h = refl
number_ext a b s t (suc m) h = rw (h m (le_refl _), number_ext a b s t m (λ j k. h j (omega arith)))

-- c low bits off, and all but c low bits off
pub number_shr : (b : ℕ → ℕ) → Bits b → (s c m : ℕ) → of_bits b s (c + m) / 2 ^ c ≡ of_bits b (s + c) m
number_shr b h s c m = rw (number_split b s c m) (high (of_bits b (s + c) m) c (number_lt b h s c))

pub number_mod : (b : ℕ → ℕ) → Bits b → (s c m : ℕ) → of_bits b s (c + m) % 2 ^ c ≡ of_bits b s c
number_mod b h s c m = rw (number_split b s c m) (low (of_bits b (s + c) m) c (number_lt b h s c))

pub number_one : (b : ℕ → ℕ) (s : ℕ) → of_bits b s 1 ≡ b s
unfolding of_bits
number_one b s = simp (add-zero, mul-one)

pub bit_number : (b : ℕ → ℕ) → Bits b → (s m j : ℕ) → j < m → bit (of_bits b s m) j ≡ b (s + j)
unfolding bit
bit_number b h s m j k =
    let e : m ≡ j + (1 + (m - (j + 1))) = omega arith in
    rw (e, number_shr b h s j (1 + (m - (j + 1))), number_mod b h (s + j) 1 (m - (j + 1))) (number_one b (s + j))

-- What the code does to the numbers of a lane.

-- a shift left in a word of j + c bits keeps the low j bits
pub shl_mod : (x j c : ℕ) → x * 2 ^ c % 2 ^ (j + c) ≡ x % 2 ^ j * 2 ^ c
shl_mod x j c = rw (mod-pow-add (x * 2 ^ c) j c, shl-shr x c, mul-mod_left x (2 ^ c)) (add-zero _)

-- m bits on top of c bits, in a word of w bits that has room for them
pub join_short : (b : ℕ → ℕ) → Bits b → (w s c m : ℕ) → c + m ≤ w
    → bit_or (of_bits b s c) (of_bits b (s + c) m * 2 ^ c % 2 ^ w) ≡ of_bits b s (c + m)
join_short b h w s c m k =
    rw (number_split b s c m, shl_exact m c w (number_lt b h (s + c) m) (omega arith))
    (or_shifted_r (of_bits b (s + c) m) c (of_bits b s c) (number_lt b h s c))

-- the same in a word that the m bits fill up or pass
pub join_long : (b : ℕ → ℕ) → Bits b → (w s c m : ℕ) → c ≤ w → w ≤ c + m
    → bit_or (of_bits b s c) (of_bits b (s + c) m * 2 ^ c % 2 ^ w) ≡ of_bits b s w
join_long b h w s c m k i =
    let r : ℕ = w - c in
    let e : w ≡ r + c = omega arith in
    let f : m ≡ r + (m - r) = omega arith in
    let g : r + c ≡ c + r = omega arith in
    rw (e, f, shl_mod (of_bits b (s + c) (r + (m - r))) r c, number_mod b h (s + c) r (m - r), g, number_split b s c r)
    (or_shifted_r (of_bits b (s + c) r) c (of_bits b s c) (number_lt b h s c))

-- byte q of a word
pub number_byte : (b : ℕ → ℕ) → Bits b → (s q : ℕ) → q < 4 → of_bits b s 32 / 2 ^ (8 * q) % 256 ≡ of_bits b (s + 8 * q) 8
number_byte b h s q k =
    let e : 32 ≡ 8 * q + (8 + (24 - 8 * q)) = omega arith in
    rw (ap (of_bits b s) e, number_shr b h s (8 * q) (8 + (24 - 8 * q))) (number_mod b h (s + 8 * q) 8 (24 - 8 * q))

-- a bit in a word
pub one_shl : (w n : ℕ) → n < w → 1 * 2 ^ n % 2 ^ w ≡ 2 ^ n
one_shl w n h = shl_exact 1 n w (omega arith) (omega arith) ∙ one-mul (2 ^ n)
