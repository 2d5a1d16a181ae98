-- A shift by 32 or more leaves nothing of 32 bits, as the library's shifts do.
use Rattle.std.proofs.Common.{◌≡◌, ℕ, ◌+◌, ◌-◌, ◌*◌, ◌/◌, ◌%◌, ◌^◌, ◌<◌, ◌≤◌, nat_lt, if◌then◌else◌, sym, ap, ◌∙◌, lt_of_lt_of_le, mul_assoc, arith, pow_mono, pow-add}
use native.Mathlib.Nat.{mul-mod_left, div-eq_of_lt}

pub shl_all : (x s : ℕ) → 32 ≤ s → x * 2 ^ s % 2 ^ 32 ≡ 0
shl_all x s h =
    let e : s ≡ s - 32 + 32 = omega arith in
    ap (λ (t : ℕ). x * 2 ^ t % 2 ^ 32) e ∙ ap (λ (t : ℕ). x * t % 2 ^ 32) (pow-add 2 (s - 32) 32)
    ∙ ap (λ (t : ℕ). t % 2 ^ 32) (sym (mul_assoc x (2 ^ (s - 32)) (2 ^ 32))) ∙ mul-mod_left (x * 2 ^ (s - 32)) (2 ^ 32)

pub shr_all : (x s : ℕ) → x < 2 ^ 32 → 32 ≤ s → x / 2 ^ s ≡ 0
shr_all x s lt h = div-eq_of_lt (lt_of_lt_of_le lt (pow_mono h))

pub shl_is : (x s : ℕ) → (if nat_lt s 32 then (x * 2 ^ s) % 2 ^ 32 else 0) ≡ x * 2 ^ s % 2 ^ 32
shl_is x s = grind (arith, shl_all)

pub shr_is : (x s : ℕ) → x < 2 ^ 32 → (if nat_lt s 32 then x / 2 ^ s else 0) ≡ x / 2 ^ s
shr_is x s lt = grind (arith, shr_all)
