-- What the program meets: the files of the system that it runs on.
use Rattle.std.specs.Prelude.{ℕ, List, Option}

-- the bytes that each path stands for, if they are known, `-` for those of standard input; and that
-- a file could not be opened, or a read of one or of standard input failed
pub record Files : Type 1 where
  pub bytes_at : List ℕ → Option (List ℕ)
  pub HasFailed : Type 0
