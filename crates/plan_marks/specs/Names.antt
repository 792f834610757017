-- Names as XML has them.
use Rattle.std.specs.Prelude.{ℕ, ◌==◌, if◌then◌else◌, List, codes, encode_utf8, chars}
use Rattle.std.specs.List.{flat_map}

-- a character as it stands in the text of an element, or in an attribute: the five that XML keeps for itself by their entities
abbrev pub escaped_char : ℕ → List ℕ
escaped_char c =
    if c == 38 then codes "&amp;"
    else (if c == 60 then codes "&lt;"
    else (if c == 62 then codes "&gt;"
    else (if c == 34 then codes "&quot;"
    else (if c == 39 then codes "&#39;"
    else encode_utf8 c))))

unfoldable pub escaped : List ℕ → List ℕ
escaped name = flat_map escaped_char (chars name)
