-- The value of hexadecimal digits, one after the other.
use Rattle.std.proofs.Common.{ℕ, ◌+◌, ◌*◌, ◌^◌, ◌<◌, ◌≤◌, arith, lit<, add-one}
use Rattle.std.proofs.Math.Nat.{pow-le-pow_right, pow-suc}

-- up to five digits leave room for a sixth
pub hex_small : (v i : ℕ) → v < 16 ^ i → i < 6 → v < 1048576
hex_small v i below few =
    let most : 16 ^ i ≤ 16 ^ 5 = pow-le-pow_right {n = 16} (lit< tt) {i = i} {j = 5} (omega arith) in
    omega (arith, most)

-- a digit more
pub hex_more : (v d i : ℕ) → v < 16 ^ i → d < 16 → v * 16 + d < 16 ^ (i + 1)
hex_more v d i below digit = rw (add-one, pow-suc) (omega arith)
