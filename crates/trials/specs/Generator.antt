-- "the example generator of the ISO C standard: s becomes (s × 1,103,515,245 + 12,345) modulo 4,294,967,296, and the value is s divided by 65,536, modulo
-- 32,768."
use Rattle.std.specs.Prelude.{ℕ, zero, suc, ◌+◌, ◌*◌, ◌/◌, ◌%◌}

abbrev pub stepped : ℕ → ℕ
stepped s = (s * 1103515245 + 12345) % 4294967296

abbrev pub value_of : ℕ → ℕ
value_of s = s / 65536 % 32768

-- s after n steps
unfoldable pub stepped_by : ℕ → ℕ → ℕ
stepped_by zero s = s
stepped_by (suc n) s = stepped_by n (stepped s)

-- value k, from 0: that of s after k + 1 steps
abbrev pub value_at : ℕ → ℕ → ℕ
value_at s k = value_of (stepped_by (suc k) s)
