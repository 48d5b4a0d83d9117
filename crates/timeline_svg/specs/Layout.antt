-- Where things stand: to the right of column 0, and down from the top.
use Rattle.std.specs.Prelude.{ℕ, ◌+◌, ◌-◌, ◌*◌, max}
use Rattle.timeline_svg.specs.declared.layout.TheConstants.{COLUMN, HEAD, LANE, LEAST_WIDTH, ROW}

-- the left end of a column; also the width of so many columns
abbrev pub column_x : ℕ → ℕ
column_x column = COLUMN * column

-- the middle of a column
abbrev pub middle_x : ℕ → ℕ
middle_x column = COLUMN * column + 14

-- the top of a lane; with the number of lanes, the end of them all
abbrev pub lane_y : ℕ → ℕ
lane_y lane = HEAD + LANE * lane

-- a row of the figures, below the first
abbrev pub row_y : ℕ → ℕ
row_y row = ROW * row

-- the width left of column 0, for topics whose longest name has so many letters
abbrev pub margin : ℕ → ℕ
margin letters = 112 + 8 * letters

-- the width of a picture of so many columns, with room for the last texts, and for its legend
abbrev pub width : ℕ → ℕ → ℕ
width letters columns = max (margin letters + column_x columns + 200) LEAST_WIDTH

-- the height of a picture of so many lanes, each with its row of figures
abbrev pub height : ℕ → ℕ
height lanes = lane_y lanes + row_y lanes + 200
