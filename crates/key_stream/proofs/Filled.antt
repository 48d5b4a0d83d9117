-- Bytes that are read behind others.
use Rattle.std.proofs.Common.{◌+◌, ◌≤◌, ℕ, List, Option, Result, Ok, Err, length, take}
use Rattle.std.specs.Prelude.{IfOk}
use Rattle.std.specs.Io.KnownBytes.{Consumes}
use Rattle.byte_io.proofs.ConsecutiveCalls.{buffer-filled}
use Rattle.key_stream.specs.Reading.{Fills}
use borrow.Rule.Slice.PartMut.{put_mid}

pub filled-behind : {E : Type 0} (result : Result ℕ E) (left left2 : Option (List ℕ)) (filled k : ℕ) (buffer buf : List ℕ) → filled ≤ length buffer
    → IfOk result (λ n. n ≤ length buf) → IfOk result (λ n. Consumes left left2 (take n buf))
    → IfOk result (λ n. Fills left left2 (take filled buffer) (take (filled + n) (put_mid filled k buffer buf)))
filled-behind (Err e) left left2 filled k buffer buf within range read = tt
filled-behind (Ok n) left left2 filled k buffer buf within range read =
    (take n buf, buffer-filled filled n k buffer buf within range, read)
