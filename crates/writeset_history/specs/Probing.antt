-- Where a probe for a digest begins.
use Rattle.std.specs.Prelude.{ℕ, ◌-◌, ◌*◌, ◌/◌, ◌%◌, ◌^◌, bit_and, bit_xor}

-- the digest's bits, mixed: two rounds of a shift and a product of 64 bits, and a last shift
unfoldable pub mixed : ℕ → ℕ
mixed digest =
    let once = (bit_xor digest (digest / 2 ^ 30) * 0xbf58476d1ce4e5b9) % 2 ^ 64 in
    let twice = (bit_xor once (once / 2 ^ 27) * 0x94d049bb133111eb) % 2 ^ 64 in
    bit_xor twice (twice / 2 ^ 31)

-- the digest's home among so many slots
unfoldable pub home_of : ℕ → ℕ → ℕ
home_of digest slots = bit_and (mixed digest) (slots - 1)
