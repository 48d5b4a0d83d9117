-- What is shown of a read that goes on.
use Rattle.std.specs.Prelude.{ℕ, ◌==◌, ◌++◌, ◌/◌, List, max, codes, decimal, if◌then◌else◌}
use Rattle.progress.specs.declared.text.Progress.{Progress}

-- so many bytes in megabytes, rounded down
abbrev pub megabytes : ℕ → List ℕ
megabytes bytes = decimal (bytes / 1000000)

-- how many megabytes are read in a second, rounded down: bytes a millisecond are thousands a second
abbrev pub rate_text : ℕ → ℕ → List ℕ
rate_text read millis = decimal (read / max millis 1 / 1000) ++ codes " MB/s"

-- the bytes that were read, of how many, if that is known, and how many a second
abbrev pub progress_text : Progress → List ℕ
progress_text p =
    if p.expected == 0
    then megabytes p.read ++ (codes " MB, " ++ rate_text p.read p.millis)
    else megabytes p.read
    ++ (codes " MB of " ++ (megabytes p.expected ++ (codes " MB, " ++ rate_text p.read p.millis)))
