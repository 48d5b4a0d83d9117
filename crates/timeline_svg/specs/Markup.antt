-- Markup: pieces one after the other, and text in it.
use Rattle.std.specs.Prelude.{ℕ, zero, suc, ◌==◌, ◌&&◌, nat_le, List, [], ◌∷◌, ◌++◌, codes, decimal, flat_map, if◌then◌else◌}
use Rattle.timeline_svg.specs.declared.pieces.Piece.{Piece}
use Rattle.timeline_svg.specs.declared.pieces.Piece.TheVariants as piece

-- A byte as character data: the characters of markup are written as entities, and what is not
-- printable ASCII as a dot
abbrev pub escaped : ℕ → List ℕ
escaped byte =
    if byte == 38 then codes "&amp;"
    else if byte == 60 then codes "&lt;"
    else if byte == 62 then codes "&gt;"
    else if byte == 34 then codes "&quot;"
    else if nat_le 32 byte && nat_le byte 126 then byte ∷ []
    else codes "."

abbrev pub escaped_text : List ℕ → List ℕ
escaped_text text = flat_map escaped text

-- two numbers that bound a range, or the one that is both
abbrev pub range_text : ℕ → ℕ → List ℕ
range_text first last =
    decimal first ++ (if first == last then [] else codes "-" ++ decimal last)

abbrev pub piece_text : Piece → List ℕ
piece_text (piece.Text text) = text.now
piece_text (piece.Escaped text) = escaped_text text.now
piece_text (piece.Number n) = decimal n
piece_text (piece.Range first last) = range_text first last

abbrev pub markup : List Piece → List ℕ
markup pieces = flat_map piece_text pieces

-- the texts of 0, 1 and so on below n, one after the other
abbrev pub texts_below : ℕ → (ℕ → List ℕ) → List ℕ
texts_below zero text = []
texts_below (suc i) text = texts_below i text ++ text i
