-- The signs that cells are drawn with, as the numbers of their characters.
use Rattle.std.specs.Prelude.{ℕ, ◌+◌, ◌-◌, Bool, cond, ◌&&◌, Some, None, Option, ◌==◌, nat_le}

-- whether a number lies between two others
abbrev pub between : ℕ → ℕ → ℕ → Bool
between low high n = nat_le low n && nat_le n high

-- the byte of a sign: '#' is solid, '.' zone 0, '1' to '9' the zones 1 to 9, 'a' to 'z' 10 to 35,
-- 'A' to 'Z' 36 to 61, '+' 62, '-' 63
abbrev pub byte_of : ℕ → Option ℕ
byte_of sign =
    cond (sign == 35) (Some 255)
    (cond (sign == 46) (Some 0)
    (cond (between 49 57 sign) (Some (sign - 48))
    (cond (between 97 122 sign) (Some (sign - 97 + 10))
    (cond (between 65 90 sign) (Some (sign - 65 + 36))
    (cond (sign == 43) (Some 62)
    (cond (sign == 45) (Some 63) None))))))

-- the sign of a byte, which is solid where it is no zone
abbrev pub sign_of : ℕ → ℕ
sign_of byte =
    cond (byte == 0) 46
    (cond (between 1 9 byte) (byte + 48)
    (cond (between 10 35 byte) (byte - 10 + 97)
    (cond (between 36 61 byte) (byte - 36 + 65)
    (cond (byte == 62) 43
    (cond (byte == 63) 45 35)))))
