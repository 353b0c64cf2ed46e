-- What the bytes of tokens are. Source: this project's own choice among the tokens of SQLite's "SQL Syntax".
use Rattle.std.specs.Prelude.{ℕ, Bool, ◌&&◌, ◌||◌, ◌==◌, nat_le}
use Rattle.std.specs.Char.{is_ascii_digit, is_ascii_alphabetic}

-- tab, LF, FF, CR, space
abbrev pub is_blank : ℕ → Bool
is_blank c = c == 9 || (c == 10 || (c == 12 || (c == 13 || c == 32)))

-- a letter, `_` or a byte of a character from U+0080 on
abbrev pub is_start : ℕ → Bool
is_start c = is_ascii_alphabetic c || (c == 95 || nat_le 128 c)

-- those, digits and `$`
abbrev pub is_more : ℕ → Bool
is_more c = is_start c || (is_ascii_digit c || c == 36)

-- ( ) , ; . * + - / % < > =
abbrev pub is_sign : ℕ → Bool
is_sign c = c == 40 || (c == 41 || (c == 44 || (c == 59 || (c == 46 || (c == 42 || (c == 43 || (c == 45 || (c == 47 || (c == 37 || (c == 60 || (c == 62 || c == 61)))))))))))

-- <= >= <> != == ||
abbrev pub is_pair : ℕ → ℕ → Bool
is_pair a b = (a == 60 && b == 61) || ((a == 62 && b == 61) || ((a == 60 && b == 62) || ((a == 33 && b == 61) || ((a == 61 && b == 61) || (a == 124 && b == 124)))))
