use Rattle.std.proofs.Common.{◌≡◌, drop}
use Rattle.surw_io.specs.MemShelf.{named_bytes, file_of}
use Rattle.surw_io.proofs.mem_shelf.place_of.Given as goal

abbrev pub invariant-loop-place : goal.invariant-loop-place
invariant-loop-place l = file_of (named_bytes (drop l.place l.files)) l.name ≡ file_of (named_bytes l.files) l.name
